use Rattle.std.proofs.Common.{◌≡◌, None}
use Rattle.span.specs.Questions.{first_no}
use Rattle.enclosure.specs.Boxed.{Holds, box, order_questions}
use Rattle.enclosure.proofs.boxes.ordered_box.Given as goal

abbrev pub invariant-loop-row : goal.invariant-loop-row
invariant-loop-row l = (first_no (order_questions l.row l.numbers) ≡ None) × Holds l.row l.rows (box l.numbers)
