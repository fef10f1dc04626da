-- what the first no among questions is
use Rattle.std.proofs.Common.{◌≡◌, Bool, true, false, List, [], ◌∷◌, Some, None, Option, refl}
use Rattle.span.specs.Questions.{Question, ask, first_no}

pub no_none : {F : Type 0} → first_no {F = F} [] ≡ None
unfolding first_no
no_none = refl

pub no_here : {F : Type 0} (b : Bool) (f : F) (qs : List (Question F)) → b ≡ false → first_no (ask b f ∷ qs) ≡ Some f
unfolding first_no
no_here b f qs e = rw e refl

pub no_after : {F : Type 0} (b : Bool) (f : F) (qs : List (Question F)) (r : Option F) → b ≡ true → first_no qs ≡ r → first_no (ask b f ∷ qs) ≡ r
unfolding first_no
no_after b f qs r e h = rw e h
