-- how many places a list of different ones has
use Rattle.std.proofs.Common.{◌≡◌, ℕ, zero, suc, ◌<◌, Bool, true, false, cond, ◌||◌, List, [], ◌∷◌, length, sym, refl, ap, ◌∙◌, inl, inr, arith}
use Rattle.std.proofs.lemmas.Bool.{cases_eq}
use Rattle.source.specs.declared.place.Place.{Place}
use Rattle.source.specs.Meaning.{Kind, index_of, place_at, places, counted, count}
use Rattle.source.specs.Lists.{listed, Apart}
use Rattle.source.proofs.Places.{same_refl, same_false, index_at, index_below, at_index}

counted_none : (n : ℕ) → counted n (λ t. false) ≡ 0
unfolding counted
counted_none zero = refl
counted_none (suc n) = omega (arith, counted_none n)

counted_alike : (n : ℕ) (f g : ℕ → Bool) → ((t : ℕ) → t < n → g t ≡ f t) → counted n g ≡ counted n f
unfolding counted
counted_alike zero f g h = refl
counted_alike (suc n) f g h =
    let e : counted n g ≡ counted n f = counted_alike n f g (λ t l. h t (omega arith)) in
    let here : g n ≡ f n = h n (omega arith) in
    cc

-- g passes m besides what f passes
counted_more : (n m : ℕ) (f g : ℕ → Bool) → m < n → f m ≡ false → g m ≡ true → ((t : ℕ) → (t ≡ m → ⊥) → g t ≡ f t) → counted n g ≡ suc (counted n f)
unfolding counted
counted_more zero m f g l out is other = absurd (omega arith)
counted_more (suc n) m f g l out is other =
    elim (cases_eq n m) [
      | inl here ↦
          let e : counted n g ≡ counted n f = counted_alike n f g (λ t below. other t (omega arith)) in
          let was : cond {A = ℕ} (f n) 1 0 ≡ 0 = rw (here, out) refl in
          let now_is : cond {A = ℕ} (g n) 1 0 ≡ 1 = rw (here, is) refl in
          omega arith
      | inr apart ↦
          let e : counted n g ≡ suc (counted n f) = counted_more n m f g (omega arith) out is other in
          let alike : cond {A = ℕ} (g n) 1 0 ≡ cond {A = ℕ} (f n) 1 0 = ap (λ b. cond {A = ℕ} b 1 0) (other n apart) in
          omega arith
    ]

pub count_apart : (k : Kind) (ps : List Place) → Apart k ps → count (listed ps) k ≡ length ps
unfolding count
count_apart k [] h = counted_none (places k)
count_apart k (p ∷ ps) h =
    let at : place_at k (index_of p) ≡ p = rw (← h.0) (at_index p h.1) in
    let below : index_of p < places k = rw (← h.0) (index_below p h.1) in
    counted_more (places k) (index_of p) (λ t. listed ps (place_at k t)) (λ t. listed (p ∷ ps) (place_at k t)) below (rw at h.2) (rw (at, same_refl p) refl) (λ t apart. ap (λ b. b || listed ps (place_at k t)) (same_false p (place_at k t) (λ e. apart (sym (ap index_of e ∙ index_at k t)))))
    ∙ ap suc (count_apart k ps h.3)
