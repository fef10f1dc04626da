-- the first no of a row of questions
use Rattle.std.proofs.Common.{◌≡◌, ℕ, zero, suc, ◌+◌, ◌<◌, ◌≤◌, Bool, true, false, cond, List, [], ◌∷◌, ◌++◌, Some, None, Ok, Err, Result, refl, ◌∙◌, inl, inr, eq-or-lt_of_le, add-one, arith}
use Rattle.span.specs.Questions.{Question, first_no, each}
use Rattle.span.specs.declared.span.Span.{Span}
use Rattle.span.specs.Intervals.{Interval}
use Rattle.enclosure.specs.declared.fault.Fault.{Fault}
use Rattle.enclosure.specs.Boxed.{BoxedBy}
use Rattle.prepare.proofs.Firsts.{later, earlier}
use Rattle.span.proofs.Verdicts.{no_none, no_here, no_after}

pub each_none : {F : Type 0} (q : ℕ → Question F) → first_no (each 0 q) ≡ None
unfolding each
each_none q = no_none

-- one question more is answered yes
pub each_more : {F : Type 0} (i : ℕ) (q : ℕ → Question F) → first_no (each i q) ≡ None → (q i).is_yes ≡ true → first_no (each (i + 1) q) ≡ None
unfolding each
each_more i q h y = rw add-one (later (each i q) (q i ∷ []) h ∙ no_after (q i).is_yes (q i).fault [] None y no_none)

-- the first no is at i
pub each_first : {F : Type 0} (n i : ℕ) (q : ℕ → Question F) → i < n → first_no (each i q) ≡ None → (q i).is_yes ≡ false → first_no (each n q) ≡ Some (q i).fault
unfolding each
each_first zero i q l h y = elim l [ ]
each_first (suc n) i q l h y =
    let m : i ≤ n = omega arith in
    elim (eq-or-lt_of_le m) [ inl e ↦ rw (← e) (later (each i q) (q i ∷ []) h ∙ no_here (q i).is_yes (q i).fault [] y) | inr k ↦ earlier (each n q) (q n ∷ []) (q i).fault (each_first n i q k h y) ]

-- questions that are the same below n
pub each_same : {F : Type 0} (n : ℕ) (q r : ℕ → Question F) → ((i : ℕ) → i < n → q i ≡ r i) → each n q ≡ each n r
unfolding each
each_same zero q r h = refl
each_same (suc n) q r h =
    let e : each n q ≡ each n r = each_same n q r (λ i k. h i (omega arith)) in
    let f : q n ≡ r n = h n (omega arith) in
    cc

-- all were answered yes
both_none : {F : Type 0} (a b : List (Question F)) → first_no (a ++ b) ≡ None → (first_no a ≡ None) × (first_no b ≡ None)
unfolding first_no
both_none [] b e = (refl, e)
both_none (q ∷ a) b e = kept q.is_yes q.fault a b (both_none a b) e
  where
    kept : {F : Type 0} (y : Bool) (f : F) (a b : List (Question F)) → (first_no (a ++ b) ≡ None → (first_no a ≡ None) × (first_no b ≡ None)) → cond y (first_no (a ++ b)) (Some f) ≡ None → (cond y (first_no a) (Some f) ≡ None) × (first_no b ≡ None)
    kept true f a b h e = h e
    kept false f a b h e = let z : ◌≡◌ {A = ℕ} 0 1 = cc in absurd (omega arith)

said_yes : {F : Type 0} (q : Question F) → first_no (q ∷ []) ≡ None → q.is_yes ≡ true
unfolding first_no
said_yes q e = kept q.is_yes q.fault e
  where
    kept : {F : Type 0} (y : Bool) (f : F) → cond y None (Some f) ≡ None → y ≡ true
    kept true f e = refl
    kept false f e = let z : ◌≡◌ {A = ℕ} 0 1 = cc in absurd (omega arith)

pub each_yes : {F : Type 0} (n : ℕ) (q : ℕ → Question F) → first_no (each n q) ≡ None → (i : ℕ) → i < n → (q i).is_yes ≡ true
unfolding each
each_yes zero q h i l = elim l [ ]
each_yes (suc n) q h i l =
    let p = both_none (each n q) (q n ∷ []) h in
    let m : i ≤ n = omega arith in
    elim (eq-or-lt_of_le m) [ inl e ↦ rw e (said_yes (q n) p.1) | inr k ↦ each_yes n q p.0 i k ]

-- a box after one question that is answered yes
pub boxed_after : (q : Question Fault) (qs : List (Question Fault)) (n : ℕ) (Y : ℕ → Interval) (r : Result (List Span) Fault) → q.is_yes ≡ true → BoxedBy qs n Y r → BoxedBy (q ∷ qs) n Y r
boxed_after q qs n Y (Ok b) e h = (no_after q.is_yes q.fault qs None e h.0, h.1)
boxed_after q qs n Y (Err f) e h = no_after q.is_yes q.fault qs (Some f) e h
