-- what a source tells of a place that it does not hold
use Rattle.std.proofs.Common.{◌≡◌, false, List, [], ◌∷◌, pos, sym, refl, ◌∙◌, inl, inr}
use Rattle.std.proofs.lemmas.Bool.{cases_Bool, cond-false, cond-true, or_parts}
use Rattle.source.specs.declared.place.Place.{Place}
use Rattle.source.specs.Meaning.{Meaning, same, told}
use Rattle.law.specs.Calls.{Given}
use Rattle.law.specs.Calls.Given.{opening, post, range, propose, attempt, run, narrow}
use Rattle.law.specs.History.{held_of, posted, source_of}

-- nothing was posted where nothing is held
pub unheld : (M : Meaning) (h : List Given) (q : Place) → held_of M h q ≡ false → posted h q ≡ pos 0
unheld M [] q e = refl
unheld M (opening n k ∷ h) q e = refl
unheld M (post p a ∷ h) q e =
    let o = or_parts (same p q) (held_of M h q) e in
    cond-false (same p q) _ (posted h q) o.0 ∙ unheld M h q o.1
unheld M (range v low high ∷ h) q e = unheld M h q e
unheld M (propose r g ∷ h) q e = unheld M h q e
unheld M (attempt ys ∷ h) q e = unheld M h q e
unheld M (run t ∷ h) q e = unheld M h q e
unheld M (narrow ∷ h) q e = unheld M h q e

-- so what the source tells, nothing counting as 0, is what was posted
pub told_posted : (M : Meaning) (h : List Given) (q : Place) → told (source_of M h) q ≡ posted h q
told_posted M h q = elim (cases_Bool (held_of M h q)) [
  | inl e ↦ cond-true (held_of M h q) (posted h q) (pos 0) e
  | inr e ↦ cond-false (held_of M h q) (posted h q) (pos 0) e ∙ sym (unheld M h q e)
]
