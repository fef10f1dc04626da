use Rattle.std.proofs.Common.{vec_items}
use Rattle.asking.specs.Lines.{texts}
use Rattle.asking.proofs.Amounts.{Sofar}
use Rattle.asking.proofs.lists.amounts.Given as goal

abbrev pub invariant-loop-word : goal.invariant-loop-word
invariant-loop-word l = Sofar (texts l.words) (vec_items l.numbers) l.word-index
