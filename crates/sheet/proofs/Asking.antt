-- the questions of framing, in their order
use Rattle.std.proofs.Common.{◌≡◌, ℕ, ◌-◌, ◌<◌, ◌≤◌, Bool, true, List, ◌∷◌, ◌++◌, length, Some, None, Ok, Err, Result, refl, ◌∙◌}
use Rattle.std.proofs.lemmas.Bool.{eq-eqb, le-leb, lt-leb, ne_eqb}
use Rattle.span.specs.Questions.{Question, ask, first_no}
use Rattle.span.proofs.Verdicts.{no_after, no_here}
use Rattle.prepare.proofs.Firsts.{earlier, later}
use Rattle.sheet.specs.declared.fault.Fault.{Fault}
use Rattle.sheet.specs.declared.fault.Fault.TheVariants.{OtherScale, Short}
use Rattle.sheet.specs.Bytes.{unsigned_at}
use Rattle.sheet.specs.Framing.{Passes, distance_questions, framing_questions, head_questions, k_at, length_asked, n_at}

-- a yes leaves the later ones to decide
pub passes_after : {A : Type 0} (b : Bool) (f : Fault) (qs : List (Question Fault)) (r : Result A Fault) → b ≡ true → Passes qs r → Passes (ask b f ∷ qs) r
passes_after b f qs (Ok x) e p = no_after b f qs None e p
passes_after b f qs (Err g) e p = no_after b f qs (Some g) e p

module _ (T : ℕ) (bs : List ℕ) where
  pub too_short : length bs < 28 → first_no (framing_questions T bs) ≡ Some Short
  too_short l = no_here _ _ _ (lt-leb 28 (length bs) l)

  module _ (long : 28 ≤ length bs) where
    pub other_scale : (unsigned_at bs (length bs - 8) ≡ T → ⊥) → first_no (framing_questions T bs) ≡ Some (OtherScale (length bs - 8))
    other_scale e = no_after _ _ _ _ (le-leb 28 (length bs) long) (no_here _ _ _ (ne_eqb _ _ e))

    module _ (same : unsigned_at bs (length bs - 8) ≡ T) where
      rest : List (Question Fault)
      rest = length_asked bs (n_at T bs) (k_at T bs) ∷ distance_questions T bs

      begins : first_no (framing_questions T bs) ≡ first_no (head_questions T bs ++ rest)
      unfolding rest
      begins = no_after _ _ _ _ (le-leb 28 (length bs) long) (no_after _ _ _ _ (eq-eqb _ _ same) refl)

      pub head_no : (f : Fault) → first_no (head_questions T bs) ≡ Some f → first_no (framing_questions T bs) ≡ Some f
      head_no f e = begins ∙ earlier (head_questions T bs) rest f e

      module _ (yes : first_no (head_questions T bs) ≡ None) where
        pub rest_decides : first_no (framing_questions T bs) ≡ first_no (length_asked bs (n_at T bs) (k_at T bs) ∷ distance_questions T bs)
        unfolding rest
        rest_decides = begins ∙ later (head_questions T bs) rest yes
