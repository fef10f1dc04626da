-- the first no among questions that are joined or asked one for each number
use Rattle.std.proofs.Common.{◌≡◌, ℕ, zero, suc, ◌<◌, ◌≤◌, Bool, true, false, cond, List, [], ◌∷◌, ◌++◌, Some, None, Option, refl, ◌∙◌, inl, inr, eq-or-lt_of_le, arith}
use Rattle.std.proofs.lemmas.Bool.{cond-true, cond-false}
use Rattle.span.specs.Questions.{Question, ask, first_no, each}

cond_none : {F : Type 0} (b : Bool) (x : Option F) (f : F) → cond b x (Some f) ≡ None → (b ≡ true) × (x ≡ None)
cond_none true x f h = (refl, h)
cond_none false x f h = let z : ◌≡◌ {A = ℕ} 0 1 = cc in absurd (omega arith)

cond_some : {F : Type 0} (b : Bool) (x y : Option F) (f g : F) → (x ≡ Some g → y ≡ Some g) → cond b x (Some f) ≡ Some g → cond b y (Some f) ≡ Some g
cond_some true x y f g k h = k h
cond_some false x y f g k h = h

-- no no before: the later ones decide
pub later : {F : Type 0} (a b : List (Question F)) → first_no a ≡ None → first_no (a ++ b) ≡ first_no b
unfolding first_no
later [] b h = refl
later (q ∷ qs) b h =
    let p = cond_none q.is_yes (first_no qs) q.fault h in
    cond-true q.is_yes (first_no (qs ++ b)) (Some q.fault) p.0 ∙ later qs b p.1

-- a no before decides
pub earlier : {F : Type 0} (a b : List (Question F)) (f : F) → first_no a ≡ Some f → first_no (a ++ b) ≡ Some f
unfolding first_no
earlier [] b f h = let z : ◌≡◌ {A = ℕ} 0 1 = cc in absurd (omega arith)
earlier (q ∷ qs) b f h = cond_some q.is_yes (first_no qs) (first_no (qs ++ b)) q.fault f (earlier qs b f) h

pub all_yes : {F : Type 0} (n : ℕ) (q : ℕ → Question F) → ((i : ℕ) → i < n → (q i).is_yes ≡ true) → first_no (each n q) ≡ None
unfolding first_no each
all_yes zero q h = refl
all_yes (suc n) q h = later (each n q) (q n ∷ []) (all_yes n q (λ i l. h i (omega arith))) ∙ cond-true (q n).is_yes None (Some (q n).fault) (h n (omega arith))

pub first_at : {F : Type 0} (n i : ℕ) (q : ℕ → Question F) → i < n → ((j : ℕ) → j < i → (q j).is_yes ≡ true) → (q i).is_yes ≡ false → first_no (each n q) ≡ Some (q i).fault
unfolding first_no each
first_at zero i q l h e = elim l [ ]
first_at (suc n) i q l h e =
    let here : i ≤ n = omega arith in
    elim (eq-or-lt_of_le here) [ inl s ↦ at s | inr k ↦ earlier (each n q) (q n ∷ []) (q i).fault (first_at n i q k h e) ]
  where
    at : i ≡ n → first_no (each (suc n) q) ≡ Some (q i).fault
    at s = rw (← s) (later (each i q) (q i ∷ []) (all_yes i q h) ∙ cond-false (q i).is_yes None (Some (q i).fault) e)

-- where there is no no, the first question is a yes
pub first_yes : {F : Type 0} (b : Bool) (f : F) (qs : List (Question F)) → first_no (ask b f ∷ qs) ≡ None → b ≡ true
unfolding first_no
first_yes b f qs h = (cond_none b (first_no qs) f h).0
