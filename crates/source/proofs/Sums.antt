-- the places and the sums of the first entries, and what adding to one of them leaves
use Rattle.std.proofs.Common.{◌≡◌, ℕ, zero, suc, ◌+◌, ◌<◌, ◌≤◌, max, Bool, true, false, cond, ◌||◌, ltb, List, [], ◌∷◌, ◌++◌, map, length, get_or, take, set, ℤ, pos, ◌+ℤ◌, sym, refl, ap, ◌∙◌, inl, inr, arith}
use lib.Seq.{map-set_same, take-set-lt}
use Rattle.std.proofs.lemmas.List.{get_or-take, length-map, length-set, length-take-le, map_push, take_more_set}
use Rattle.std.proofs.lemmas.Bool.{both_ways, le-ltb, lt-ltb, or_from, or_left, or_parts, or_right}
use Rattle.source.specs.declared.entry.Entry.{Entry}
use Rattle.source.specs.declared.place.Place.{Place}
use Rattle.source.specs.Lists.{Apart, Kept, listed, places_of, sum_of}
use Rattle.source.specs.Meaning.{Kind, count, in_range, kind_of, same}
use Rattle.source.specs.Tallies.{FirstAt, NoneAt, Slot, entry}
use Rattle.source.proofs.Counts.{count_apart}
use Rattle.source.proofs.Places.{held_again, same_false, same_refl, same_true}

-- ---- places in a row
or_swap : (a b c : Bool) → (a || (b || c)) ≡ (b || (a || c))
or_swap true true c = refl
or_swap true false c = refl
or_swap false b c = refl

listed_push : (ps : List Place) (p q : Place) → listed (ps ++ p ∷ []) q ≡ (same p q || listed ps q)
listed_push [] p q = refl
listed_push (x ∷ ps) p q = ap (λ b. same x q || b) (listed_push ps p q) ∙ or_swap (same x q) (same p q) (listed ps q)

apart_push : (k : Kind) (ps : List Place) (p : Place) → Apart k ps → kind_of p ≡ k → in_range p ≡ true → listed ps p ≡ false → Apart k (ps ++ p ∷ [])
apart_push k [] p h kind inside new = (kind, inside, refl, tt)
apart_push k (x ∷ ps) p h kind inside new =
    let parts = or_parts (same x p) (listed ps p) new in
    let apart : same p x ≡ false = same_false p x (λ e. both_ways (same x p) parts.0 (ap (λ z. same x z) e ∙ same_refl x)) in
    (h.0, h.1, listed_push ps p x ∙ or_from (same p x) (listed ps x) apart h.2, apart_push k ps p h.3 kind inside parts.1)

-- one more entry in front keeps the sum's form
sum_step : (b t : Bool) (x r y a : ℤ) → (b ≡ true → t ≡ true → ⊥) → r ≡ cond t (y +ℤ a) y → cond b x r ≡ cond t (cond b x y +ℤ a) (cond b x y)
sum_step true true x r y a never e = absurd (never refl refl)
sum_step true false x r y a never e = refl
sum_step false t x r y a never e = e

sum_here : (t : Bool) (s r a : ℤ) → cond t (s +ℤ a) r ≡ cond t (cond t s r +ℤ a) (cond t s r)
sum_here true s r a = refl
sum_here false s r a = refl

module _ {P : Type 0} (f : P → Place) (alike : (a b : P) → f a ≡ f b → a ≡ b) where
  -- ---- the first entries
  none_tail : (e : Entry P) (xs : List (Entry P)) (n : ℕ) (p : P) → NoneAt (e ∷ xs) (suc n) p → NoneAt xs n p
  none_tail e xs n p h k x a b q = h (suc k) x (omega arith) (omega arith) q

  none_head : (e : Entry P) (xs : List (Entry P)) (n : ℕ) (p : P) → NoneAt (e ∷ xs) (suc n) p → same (f e.place) (f p) ≡ false
  none_head e xs n p h = same_false (f e.place) (f p) (λ q. h zero e (omega arith) (omega arith) refl (alike e.place p q))

  -- no place is the one of the entry in front and p
  none_both : (e : Entry P) (xs : List (Entry P)) (n : ℕ) (p : P) (q : Place) → NoneAt (e ∷ xs) (suc n) p → same (f e.place) q ≡ true → same (f p) q ≡ true → ⊥
  none_both e xs n p q h a b =
      both_ways (same (f e.place) (f p)) (none_head e xs n p h) (rw (same_true (f p) q b) a)

  first_tail : (e : Entry P) (xs : List (Entry P)) (n : ℕ) (p : P) (i : ℕ) (s : ℤ) → FirstAt (e ∷ xs) (suc n) p (suc i) s → FirstAt xs n p i s
  first_tail e xs n p i s h = record {
    used = omega (arith, h.used);
    there = omega (arith, h.there);
    here = h.here;
    before = none_tail e xs i p h.before;
  }

  pub none_listed : (xs : List (Entry P)) (n : ℕ) (p : P) → NoneAt xs n p → listed (places_of f n xs) (f p) ≡ false
  none_listed [] zero p h = refl
  none_listed [] (suc n) p h = refl
  none_listed (e ∷ xs) zero p h = refl
  none_listed (e ∷ xs) (suc n) p h =
      or_from (same (f e.place) (f p)) (listed (places_of f n xs) (f p)) (none_head e xs n p h) (none_listed xs n p (none_tail e xs n p h))

  pub first_listed : (xs : List (Entry P)) (n : ℕ) (p : P) (i : ℕ) (s : ℤ) → FirstAt xs n p i s → listed (places_of f n xs) (f p) ≡ true
  first_listed [] n p i s h = absurd (omega (arith, h.there))
  first_listed (e ∷ xs) zero p i s h = absurd (omega (arith, h.used))
  first_listed (e ∷ xs) (suc n) p zero s h =
      or_left (same (f e.place) (f p)) _ (ap (λ z. same (f z.place) (f p)) (sym h.here) ∙ same_refl (f p))
  first_listed (e ∷ xs) (suc n) p (suc i) s h =
      or_right (same (f e.place) (f p)) _ (first_listed xs n p i s (first_tail e xs n p i s h))

  none_sum : (xs : List (Entry P)) (n : ℕ) (p : P) → NoneAt xs n p → sum_of f n xs (f p) ≡ pos 0
  none_sum [] zero p h = refl
  none_sum [] (suc n) p h = refl
  none_sum (e ∷ xs) zero p h = refl
  none_sum (e ∷ xs) (suc n) p h = rw (none_head e xs n p h) (none_sum xs n p (none_tail e xs n p h))

  pub first_sum_of : (xs : List (Entry P)) (n : ℕ) (p : P) (i : ℕ) (s : ℤ) → FirstAt xs n p i s → sum_of f n xs (f p) ≡ s
  first_sum_of [] n p i s h = absurd (omega (arith, h.there))
  first_sum_of (e ∷ xs) zero p i s h = absurd (omega (arith, h.used))
  first_sum_of (e ∷ xs) (suc n) p zero s h = rw (← h.here, same_refl (f p)) refl
  first_sum_of (e ∷ xs) (suc n) p (suc i) s h =
      rw (none_head e xs i p h.before) (first_sum_of xs n p i s (first_tail e xs n p i s h))

  -- ---- after an entry's sum is raised
  raised_places : (xs : List (Entry P)) (n : ℕ) (p : P) (i : ℕ) (s t : ℤ) → FirstAt xs n p i s → places_of f n (set xs i (entry p t)) ≡ places_of f n xs
  raised_places xs n p i s t h =
      let read : f p ≡ f (get_or (take n xs) i (entry p s)).place = ap (λ z. f z.place) (h.here ∙ sym (get_or-take n xs i (entry p s) h.used)) in
      ap (map (λ e. f e.place)) (take-set-lt n xs i (entry p t) h.used) ∙ map-set_same (λ e. f e.place) (take n xs) i (entry p t) (entry p s) read

  raised_sum : (xs : List (Entry P)) (n : ℕ) (p : P) (i : ℕ) (s a : ℤ) (q : Place) → FirstAt xs n p i s → sum_of f n (set xs i (entry p (s +ℤ a))) q ≡ cond (same (f p) q) (sum_of f n xs q +ℤ a) (sum_of f n xs q)
  raised_sum [] n p i s a q h = absurd (omega (arith, h.there))
  raised_sum (e ∷ xs) zero p i s a q h = absurd (omega (arith, h.used))
  raised_sum (e ∷ xs) (suc n) p zero s a q h = rw (← h.here) (sum_here (same (f p) q) s (sum_of f n xs q) a)
  raised_sum (e ∷ xs) (suc n) p (suc i) s a q h =
      sum_step (same (f e.place) q) (same (f p) q) e.sum _ (sum_of f n xs q) a (none_both e xs i p q h.before) (raised_sum xs n p i s a q (first_tail e xs n p i s h))

  -- ---- after an entry is begun
  begun_places : (xs : List (Entry P)) (n : ℕ) (e : Entry P) → n < length xs → places_of f (n + 1) (set xs n e) ≡ places_of f n xs ++ f e.place ∷ []
  begun_places xs n e h = ap (map (λ x. f x.place)) (take_more_set xs n e h) ∙ map_push (λ x. f x.place) (take n xs) e

  begun_sum : (xs : List (Entry P)) (n : ℕ) (p : P) (a : ℤ) (q : Place) → n < length xs → NoneAt xs n p → sum_of f (suc n) (set xs n (entry p (pos 0 +ℤ a))) q ≡ cond (same (f p) q) (sum_of f n xs q +ℤ a) (sum_of f n xs q)
  begun_sum [] n p a q h none = absurd (omega arith)
  begun_sum (e ∷ xs) zero p a q h none = refl
  begun_sum (e ∷ xs) (suc n) p a q h none =
      sum_step (same (f e.place) q) (same (f p) q) e.sum _ (sum_of f n xs q) a (none_both e xs n p q none) (begun_sum xs n p a q (omega arith) (none_tail e xs n p none))

  -- ---- after a is added at p, in an entry that is there or in a new one
  pub slot_sum : (xs : List (Entry P)) (n : ℕ) (p : P) (i : ℕ) (s : ℤ) → Slot xs n p i s → sum_of f n xs (f p) ≡ s
  slot_sum xs n p i s (inl first) = first_sum_of xs n p i s first
  slot_sum xs n p i s (inr new) = none_sum xs n p new.0 ∙ sym new.3

  pub added_sum : (xs : List (Entry P)) (n : ℕ) (p : P) (i : ℕ) (s a : ℤ) (q : Place) → Slot xs n p i s → sum_of f (max n (i + 1)) (set xs i (entry p (s +ℤ a))) q ≡ cond (same (f p) q) (sum_of f n xs q +ℤ a) (sum_of f n xs q)
  added_sum xs n p i s a q (inl first) =
      let most : max n (i + 1) ≡ n = omega (arith, first.used) in
      rw most (raised_sum xs n p i s a q first)
  added_sum xs n p i s a q (inr new) =
      let most : max n (i + 1) ≡ suc n = omega (arith, new.1) in
      rw (most, new.1, new.3) (begun_sum xs n p a q new.2 new.0)

  pub added_listed : (xs : List (Entry P)) (n : ℕ) (p : P) (i : ℕ) (s t : ℤ) (q : Place) → Slot xs n p i s → listed (places_of f (max n (i + 1)) (set xs i (entry p t))) q ≡ (same (f p) q || listed (places_of f n xs) q)
  added_listed xs n p i s t q (inl first) =
      let most : max n (i + 1) ≡ n = omega (arith, first.used) in
      rw (most, raised_places xs n p i s t first) (held_again (listed (places_of f n xs)) (f p) q (first_listed xs n p i s first))
  added_listed xs n p i s t q (inr new) =
      let most : max n (i + 1) ≡ n + 1 = omega (arith, new.1) in
      rw (most, new.1, begun_places xs n (entry p t) new.2) (listed_push (places_of f n xs) (f p) q)

  -- ---- a tally that is kept as its own calls leave it
  module _ (k : Kind) (kind : (p : P) → kind_of (f p) ≡ k) where
    kept_count : (xs : List (Entry P)) (n : ℕ) → Kept k f n xs → count (listed (places_of f n xs)) k ≡ n
    kept_count xs n h =
        count_apart k (places_of f n xs) h.1 ∙ length-map (take n xs) (λ e. f e.place) ∙ length-take-le n xs h.0

    pub slot_room : (xs : List (Entry P)) (n : ℕ) (p : P) (i : ℕ) (s : ℤ) → Kept k f n xs → Slot xs n p i s → (listed (places_of f n xs) (f p) || ltb (count (listed (places_of f n xs)) k) (length xs)) ≡ true
    slot_room xs n p i s h (inl first) = or_left _ _ (first_listed xs n p i s first)
    slot_room xs n p i s h (inr new) =
        let free : ltb (count (listed (places_of f n xs)) k) (length xs) ≡ true = rw (kept_count xs n h) (lt-ltb n (length xs) new.2) in
        or_right _ _ free

    pub no_room : (xs : List (Entry P)) (n : ℕ) (p : P) → Kept k f n xs → NoneAt xs n p → length xs ≤ n → (listed (places_of f n xs) (f p) || ltb (count (listed (places_of f n xs)) k) (length xs)) ≡ false
    no_room xs n p h none full =
        let taken : ltb (count (listed (places_of f n xs)) k) (length xs) ≡ false = rw (kept_count xs n h) (le-ltb n (length xs) full) in
        or_from _ _ (none_listed xs n p none) taken

    pub added_kept : (xs : List (Entry P)) (n : ℕ) (p : P) (i : ℕ) (s t : ℤ) → in_range (f p) ≡ true → Kept k f n xs → Slot xs n p i s → Kept k f (max n (i + 1)) (set xs i (entry p t))
    added_kept xs n p i s t inside h (inl first) =
        let most : max n (i + 1) ≡ n = omega (arith, first.used) in
        rw (most, length-set, raised_places xs n p i s t first) h
    added_kept xs n p i s t inside h (inr new) =
        let most : max n (i + 1) ≡ n + 1 = omega (arith, new.1) in
        let apart = apart_push k (places_of f n xs) (f p) h.1 (kind p) inside (none_listed xs n p new.0) in
        rw (most, new.1, length-set, begun_places xs n (entry p t) new.2) (omega (arith, new.2), apart)
