-- where no question of a list got a no, none of a part of it did
use Rattle.std.proofs.Common.{◌≡◌, ℕ, Bool, true, false, cond, List, [], ◌∷◌, ◌++◌, Some, None, Option, refl, ◌∙◌, arith}
use Rattle.std.proofs.lemmas.Bool.{cond-true}
use Rattle.span.specs.Questions.{Question, first_no}

cond_none : {F : Type 0} (b : Bool) (x : Option F) (f : F) → cond b x (Some f) ≡ None → (b ≡ true) × (x ≡ None)
cond_none true x f h = (refl, h)
cond_none false x f h = let z : ◌≡◌ {A = ℕ} 0 1 = cc in absurd (omega arith)

pub none_after : {F : Type 0} (q : Question F) (qs : List (Question F)) → first_no (q ∷ qs) ≡ None → first_no qs ≡ None
unfolding first_no
none_after q qs e = (cond_none q.is_yes (first_no qs) q.fault e).1

pub none_before : {F : Type 0} (ps qs : List (Question F)) → first_no (ps ++ qs) ≡ None → first_no ps ≡ None
unfolding first_no
none_before [] qs e = refl
none_before (p ∷ ps) qs e = let c = cond_none p.is_yes (first_no (ps ++ qs)) p.fault e in cond-true p.is_yes (first_no ps) (Some p.fault) c.0 ∙ none_before ps qs c.1

pub none_later : {F : Type 0} (ps qs : List (Question F)) → first_no (ps ++ qs) ≡ None → first_no qs ≡ None
unfolding first_no
none_later [] qs e = e
none_later (p ∷ ps) qs e = none_later ps qs (cond_none p.is_yes (first_no (ps ++ qs)) p.fault e).1
