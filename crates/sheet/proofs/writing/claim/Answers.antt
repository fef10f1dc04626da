use Rattle.std.proofs.Common.{◌≡◌, ℕ, ◌/◌, None, arith}
use Rattle.std.proofs.lemmas.Bool.{lt-ltb}
use Rattle.span.specs.Questions.{first_no}
use Rattle.span.proofs.Verdicts.{no_after, no_none}
use Rattle.enclosure.specs.Enclosures.{row_questions}
use Rattle.sheet.proofs.writing.claim.Goals as goal

-- a row that there is is not refused
pub returns-in-Err : goal.returns-in-Err
returns-in-Err c l =
    let e = c.args.held.now in
    let refused = c.in-Err.ensures in
    let allowed : first_no (row_questions e (c.args.u / 2)) ≡ None = no_after _ _ _ _ (lt-ltb (c.args.u / 2) e.prepared.states l) no_none in
    let z : ◌≡◌ {A = ℕ} 0 1 = cc in
    absurd (omega arith)
