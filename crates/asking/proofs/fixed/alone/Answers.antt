use Rattle.std.proofs.Common.{refl, rules}
use Rattle.asking.proofs.Words.{enough, wrong_count}
use Rattle.asking.proofs.fixed.alone.Goals as goal

pub returns-then-is_empty : goal.returns-then-is_empty
returns-then-is_empty c = enough c.args.words.now (search rules) refl

pub returns-else-is_empty : goal.returns-else-is_empty
returns-else-is_empty c = wrong_count c.args.words.now (search rules) c.miscounted.ensures
