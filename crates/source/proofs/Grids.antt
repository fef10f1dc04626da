-- a grid's meaning after a post into one of its runs
use Rattle.std.proofs.Common.{◌≡◌, ℕ, Bool, true, false, cond, ◌&&◌, ◌||◌, ltb, leb, ◌≢◌, List, [], ◌∷◌, length, get_or, set, ℤ, pos, ◌+ℤ◌, nat_abs, None, Ok, Err, Result, sym, refl, ap, ◌∙◌, inl, inr, arith, w32, SFits, to_z, of_z}
use Rattle.std.proofs.lemmas.List.{get_or-set_same, get_or-set_other, length-set}
use Rattle.std.proofs.lemmas.Int.{to_z-of_z}
use Rattle.std.proofs.lemmas.Bool.{and_from, and_parts, both_ways, cases_Bool, le-ltb, ltb-true}
use Rattle.span.specs.Questions.{ask, first_no}
use Rattle.source.specs.declared.fault.Fault.{Fault}
use Rattle.source.specs.declared.place.Place.{Place}
use Rattle.source.specs.declared.place.Place.TheVariants.{Matrix, Payout}
use Rattle.source.specs.Grids.{RunPosted, grid_means, stands}
use Rattle.source.specs.Meaning.{Posting, in_range, index_of, kind_of, limit, same, taken}
use Rattle.source.proofs.Meanings.{one_meaning}
use Rattle.source.proofs.Places.{at_index, held_again, same_refl, same_true}

-- ---- a number that is raised
-- what a run tells of a place
abbrev run_tells : List ℤ → Place → ℤ
run_tells xs q = cond (in_range q && ltb (index_of q) (length xs)) (get_or xs (index_of q) (pos 0)) (pos 0)

abbrev raised : List ℤ → Place → ℤ → List ℤ
raised xs p a = set xs (index_of p) (get_or xs (index_of p) (pos 0) +ℤ a)

module _ (xs : List ℤ) (p : Place) (a : ℤ) (inside : in_range p ≡ true) (there : ltb (index_of p) (length xs) ≡ true) where
  reach : (in_range p && ltb (index_of p) (length xs)) ≡ true
  reach = and_from (in_range p) (ltb (index_of p) (length xs)) inside there

  raised_here : run_tells (raised xs p a) p ≡ run_tells xs p +ℤ a
  raised_here =
      rw (length-set, reach) (get_or-set_same xs (index_of p) (get_or xs (index_of p) (pos 0) +ℤ a) (pos 0) (ltb-true (index_of p) (length xs) there))

  raised_elsewhere : (q : Place) → kind_of p ≡ kind_of q → same p q ≡ false → run_tells (raised xs p a) q ≡ run_tells xs q
  raised_elsewhere q kind other =
      elim (cases_Bool (in_range q && ltb (index_of q) (length xs))) [
        | inl stands-too ↦
            let sits : in_range q ≡ true = (and_parts (in_range q) (ltb (index_of q) (length xs)) stands-too).0 in
            let apart : index_of q ≢ index_of p = λ e. both_ways (same p q) other (ap (same p) (sym (at_index q sits) ∙ rw (← kind, e) (at_index p inside)) ∙ same_refl p) in
            rw (length-set, stands-too) (get_or-set_other xs (index_of p) (index_of q) (get_or xs (index_of p) (pos 0) +ℤ a) (pos 0) apart)
        | inr beyond ↦ rw (length-set, beyond) refl
      ]

  raised_tells : (q : Place) → kind_of p ≡ kind_of q → run_tells (raised xs p a) q ≡ cond (same p q) (run_tells xs q +ℤ a) (run_tells xs q)
  raised_tells q kind =
      elim (cases_Bool (same p q)) [ inl one ↦ rw (one, ← same_true p q one) raised_here | inr other ↦ rw other (raised_elsewhere q kind other) ]

-- ---- a post
-- the questions of a grid and of the run that the place is in
alike : (b t : Bool) (n : ℕ) (x a : ℤ) (f g h : Fault) → first_no (ask b f ∷ ask ((b && t) || ltb n n) g ∷ ask (leb (nat_abs (cond (b && t) x (pos 0) +ℤ a)) limit) h ∷ []) ≡ first_no (ask b f ∷ ask t g ∷ ask (leb (nat_abs (x +ℤ a)) limit) h ∷ [])
unfolding first_no
alike false t n x a f g h = refl
alike true true n x a f g h = refl
alike true false n x a f g h = rw (le-ltb n n (omega arith)) refl

passed : (b t u : Bool) (f g h : Fault) → first_no (ask b f ∷ ask t g ∷ ask u h ∷ []) ≡ None → (b ≡ true) × (t ≡ true)
unfolding first_no
passed true true u f g h e = (refl, refl)
passed true false u f g h e = let z : ◌≡◌ {A = ℕ} 0 1 = cc in absurd (omega arith)
passed false t u f g h e = let z : ◌≡◌ {A = ℕ} 0 1 = cc in absurd (omega arith)

module _ (xs ys : List ℤ) (v i : ℕ) (a : ℤ) where
  module _ (j : ℕ) (inside : in_range (Matrix v i j) ≡ true) (there : ltb (index_of (Matrix v i j)) (length xs) ≡ true) where
    matrix_raised : (q : Place) → (grid_means (raised xs (Matrix v i j) a) ys).coefficient q ≡ (taken (grid_means xs ys) (Matrix v i j) a).coefficient q
    matrix_raised (Matrix w r c) = raised_tells xs (Matrix v i j) a inside there (Matrix w r c) refl
    matrix_raised (Payout w r) = refl

    matrix_taken : grid_means (raised xs (Matrix v i j) a) ys ≡ taken (grid_means xs ys) (Matrix v i j) a
    matrix_taken =
        one_meaning (grid_means (raised xs (Matrix v i j) a) ys) (taken (grid_means xs ys) (Matrix v i j) a) matrix_raised (λ q. rw length-set (held_again (stands (length xs) (length ys)) (Matrix v i j) q (reach xs (Matrix v i j) a inside there))) (λ k. rw length-set refl) (λ q. rw length-set refl)

  module _ (inside : in_range (Payout v i) ≡ true) (there : ltb (index_of (Payout v i)) (length ys) ≡ true) where
    payout_raised : (q : Place) → (grid_means xs (raised ys (Payout v i) a)).coefficient q ≡ (taken (grid_means xs ys) (Payout v i) a).coefficient q
    payout_raised (Matrix w r c) = refl
    payout_raised (Payout w r) = raised_tells ys (Payout v i) a inside there (Payout w r) refl

    payout_taken : grid_means xs (raised ys (Payout v i) a) ≡ taken (grid_means xs ys) (Payout v i) a
    payout_taken =
        one_meaning (grid_means xs (raised ys (Payout v i) a)) (taken (grid_means xs ys) (Payout v i) a) payout_raised (λ q. rw length-set (held_again (stands (length xs) (length ys)) (Payout v i) q (reach ys (Payout v i) a inside there))) (λ k. rw length-set refl) (λ q. rw length-set refl)

  pub matrix_posted : (zs : List ℤ) (j : ℕ) (r : Result (Unit {0}) Fault) → RunPosted xs (Matrix v i j) a r zs → Posting (grid_means xs ys) (Matrix v i j) a r (grid_means zs ys)
  matrix_posted zs j (Ok x) h =
      let in_run = passed (in_range (Matrix v i j)) (ltb (index_of (Matrix v i j)) (length xs)) _ _ _ _ h.0 in
      (alike (in_range (Matrix v i j)) (ltb (index_of (Matrix v i j)) (length xs)) _ _ a _ _ _ ∙ h.0, ap (λ z. grid_means z ys) h.1 ∙ matrix_taken j in_run.0 in_run.1)
  matrix_posted zs j (Err f) h =
      (alike (in_range (Matrix v i j)) (ltb (index_of (Matrix v i j)) (length xs)) _ _ a _ _ _ ∙ h.0, ap (λ z. grid_means z ys) h.1)

  pub payout_posted : (zs : List ℤ) (r : Result (Unit {0}) Fault) → RunPosted ys (Payout v i) a r zs → Posting (grid_means xs ys) (Payout v i) a r (grid_means xs zs)
  payout_posted zs (Ok x) h =
      let in_run = passed (in_range (Payout v i)) (ltb (index_of (Payout v i)) (length ys)) _ _ _ _ h.0 in
      (alike (in_range (Payout v i)) (ltb (index_of (Payout v i)) (length ys)) _ _ a _ _ _ ∙ h.0, ap (grid_means xs) h.1 ∙ payout_taken in_run.0 in_run.1)
  payout_posted zs (Err f) h =
      (alike (in_range (Payout v i)) (ltb (index_of (Payout v i)) (length ys)) _ _ a _ _ _ ∙ h.0, ap (grid_means xs) h.1)

-- ---- as the code has it: the place by its pattern, the amount by its bits
pub matrix_answer : (xs ys zs : List ℤ) (p : Place) (v i j : ℕ) (a : ℤ) (r : Result (Unit {0}) Fault) → p ≡ Matrix v i j → SFits w32 a → RunPosted xs p (to_z w32 (of_z w32 a)) r zs → Posting (grid_means xs ys) p a r (grid_means zs ys)
matrix_answer xs ys zs p v i j a r e f h =
    rw e (matrix_posted xs ys v i a zs j r (rw (e, to_z-of_z w32 a f) at h))

pub payout_answer : (xs ys zs : List ℤ) (p : Place) (v i : ℕ) (a : ℤ) (r : Result (Unit {0}) Fault) → p ≡ Payout v i → SFits w32 a → RunPosted ys p (to_z w32 (of_z w32 a)) r zs → Posting (grid_means xs ys) p a r (grid_means xs zs)
payout_answer xs ys zs p v i a r e f h =
    rw e (payout_posted xs ys v i a zs r (rw (e, to_z-of_z w32 a f) at h))
