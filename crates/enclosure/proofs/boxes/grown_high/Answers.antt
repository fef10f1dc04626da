use Rattle.std.proofs.Common.{arith, rules}
use Rattle.std.proofs.lemmas.Int.{ints}
use Rattle.enclosure.proofs.Grows.{greater}
use Rattle.enclosure.proofs.boxes.grown_high.Goals as goal

pub overflow_add-result : goal.overflow_add-result
overflow_add-result c =
    let p = greater c.args.x c.bring_back-nine.result.1 c.bring_back-eleven.result.1 c.max.result c.requires (search rules) (search rules) c.bring_back-nine.ensures.1 c.bring_back-eleven.ensures.1 c.max.ensures.value in
    omega (arith, ints, p.1)

pub returns : goal.returns
returns c =
    let p = greater c.args.x c.bring_back-nine.result.1 c.bring_back-eleven.result.1 c.max.result c.requires (search rules) (search rules) c.bring_back-nine.ensures.1 c.bring_back-eleven.ensures.1 c.max.ensures.value in
    omega (arith, ints, p.0, p.1)
