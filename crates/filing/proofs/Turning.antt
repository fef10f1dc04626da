-- one more turn
use Rattle.std.proofs.Common.{◌≡◌, ℕ, ◌+◌, ◌<◌, ◌≤◌, List, [], ◌∷◌, ◌++◌, length, get_or, take, replicate, Result, sym, refl, ap, ◌∙◌, subst, arith}
use Rattle.std.proofs.lemmas.List.{length-take-le, take_more}
use Rattle.source.specs.Meaning.{Meaning}
use Rattle.law.specs.Calls.{Given}
use Rattle.docket.specs.declared.desk.Desk.{Desk}
use Rattle.docket.specs.Reflects.{Reflects}
use Rattle.docket.proofs.Trusts.{sound_held}
use Rattle.sheet.specs.declared.fault.Fault.{Fault}
use Rattle.sheet.specs.Writing.{Writing}
use Rattle.filing.specs.declared.step.Outcome.{Outcome}
use Rattle.filing.specs.declared.step.Step.{Step}
use Rattle.filing.specs.Law.{Lawful, Turn, counted, then_counted, turn, turns}
use Rattle.filing.specs.Turns.{Turned}

-- so far every turn was right, and the docket reflects the calls that count
pub record SoFar (S : ℕ) (M : Meaning) (us : List Turn) (N : Meaning) (P : Type 0) (d : Desk) : Type 0 where
  pub lawful : Lawful S M us
  pub reflects : Reflects S M (counted us) N P d

pub at_first : (S : ℕ) (M N : Meaning) (P : Type 0) (d : Desk) → Reflects S M [] N P d → SoFar S M [] N P d
at_first S M N P d q = record { lawful = sound_held S M [] N P d q; reflects = q }

pub one_more : (S : ℕ) (M : Meaning) (us : List Turn) (u : Turn) (N : Meaning) (P : Type 0) (d : Desk) → Lawful S M us → Turned S M (counted us) u N P d → SoFar S M (u ∷ us) N P d
one_more S M us u N P d l t = record { lawful = (l, t.right, sound_held S M (then_counted u (counted us)) N P d t.left); reflects = t.left }

pub so_far_as : (S : ℕ) (M : Meaning) (us vs : List Turn) (N : Meaning) (P : Type 0) (d : Desk) → us ≡ vs → SoFar S M vs N P d → SoFar S M us N P d
so_far_as S M us vs N P d e x = subst (λ z. SoFar S M z N P d) (sym e) x

pub turned_as : (S : ℕ) (M : Meaning) (h : List Given) (u v : Turn) (N : Meaning) (P : Type 0) (d : Desk) → u ≡ v → Turned S M h v N P d → Turned S M h u N P d
turned_as S M h u v N P d e x = subst (λ z. Turned S M h z N P d) (sym e) x

module _ (S F : ℕ) where
  turns_more : (as' : List Step) (rs : List Outcome) (a : Step) (r : Outcome) (us : List Turn) → length as' ≡ length rs → turns S F (as' ++ (a ∷ [])) (rs ++ (r ∷ [])) us ≡ turn S F a r ∷ turns S F as' rs us
  turns_more [] [] a r us e = refl
  turns_more [] (x ∷ rs) a r us e = absurd (omega (arith, e))
  turns_more (b ∷ as') [] a r us e = absurd (omega (arith, e))
  turns_more (b ∷ as') (x ∷ rs) a r us e = turns_more as' rs a r (turn S F b x ∷ us) (omega (arith, e))

  -- the turns of one step more
  pub turns_taken : (steps : List Step) (rs ss : List Outcome) (i : ℕ) (d : Step) (r : Outcome) → i < length steps → length rs ≡ i → ss ≡ rs ++ (r ∷ []) → turns S F (take (i + 1) steps) ss [] ≡ turn S F (get_or steps i d) r ∷ turns S F (take i steps) rs []
  turns_taken steps rs ss i d r l e s =
      let le : i ≤ length steps = omega arith in
      let n : length (take i steps) ≡ length rs = length-take-le i steps le ∙ sym e in
      ap (λ xs. turns S F xs ss []) (take_more steps i d l) ∙ ap (λ ys. turns S F (take i steps ++ (get_or steps i d ∷ [])) ys []) s ∙ turns_more (take i steps) rs (get_or steps i d) r [] n

-- a buffer that held so many 170s
pub written_as : (S : ℕ) (h : List Given) (room : ℕ) (before after after' : List ℕ) (r : Result ℕ Fault) → before ≡ replicate room 170 → after' ≡ after → Writing S h before after r → Writing S h (replicate room 170) after' r
written_as S h room before after after' r e i x = subst (λ z. Writing S h (replicate room 170) z r) (sym i) (subst (λ z. Writing S h z after r) e x)
