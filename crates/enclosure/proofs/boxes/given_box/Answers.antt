use Rattle.std.proofs.Common.{◌*◌, length}
use Rattle.std.proofs.lemmas.Bool.{eq-eqb, ne_eqb}
use Rattle.span.proofs.Verdicts.{no_here}
use Rattle.enclosure.specs.Boxed.{box, count_question, order_questions}
use Rattle.enclosure.proofs.Asked.{boxed_after}
use Rattle.enclosure.proofs.boxes.given_box.Goals as goal

pub returns-then-numbers-n : goal.returns-then-numbers-n
returns-then-numbers-n c = no_here _ _ _ (ne_eqb (length c.args.numbers.now) (2 * c.args.n) c.if-numbers-n.true)

pub returns : goal.returns
returns c = boxed_after (count_question c.args.n c.args.numbers.now) (order_questions c.args.n c.args.numbers.now) c.args.n (box c.args.numbers.now) c.ordered_box.result (eq-eqb (length c.args.numbers.now) (2 * c.args.n) c.if-numbers-n.false) c.ordered_box.ensures
