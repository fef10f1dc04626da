use Rattle.std.proofs.Common.{◌≡◌, ℕ, Ok, Err, None, Result, refl, arith, rules}
use Rattle.std.specs.Result.{IsOk}
use Rattle.span.specs.Questions.{first_no}
use Rattle.system.specs.declared.fault.Fault.{Fault}
use Rattle.system.specs.declared.system.System.{System}
use Rattle.system.specs.Posts.{Opened, opening_questions}
use Rattle.docket.proofs.docket.calls.smallest.Goals as goal

one_may_open : first_no (opening_questions 1 0) ≡ None
unfolding first_no
one_may_open = refl

is_opened : (S : ℕ) (r : Result System Fault) → Opened S 1 0 r → IsOk r
is_opened S (Ok s) e = search rules
is_opened S (Err f) e = let yes = one_may_open in let z : ◌≡◌ {A = ℕ} 0 1 = cc in absurd (omega arith)

pub unwrap-requires : goal.unwrap-requires
unwrap-requires g c = is_opened _ _ c.new.ensures
