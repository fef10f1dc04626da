use Rattle.std.proofs.Common.{◌≡◌, None}
use Rattle.span.specs.Questions.{first_no}
use Rattle.system.specs.Figures.{spans}
use Rattle.enclosure.specs.Boxed.{reach_questions}
use Rattle.enclosure.proofs.boxes.limited.Given as goal

abbrev pub invariant-loop-row : goal.invariant-loop-row
invariant-loop-row g l = first_no (reach_questions g.T.Scale.unit l.row (spans l.y)) ≡ None
