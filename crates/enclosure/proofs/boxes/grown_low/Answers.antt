use Rattle.std.proofs.Common.{arith, rules}
use Rattle.std.proofs.lemmas.Int.{ints}
use Rattle.enclosure.proofs.Grows.{lesser}
use Rattle.enclosure.proofs.boxes.grown_low.Goals as goal

pub overflow_sub-result : goal.overflow_sub-result
overflow_sub-result c =
    let p = lesser c.args.x c.bring_back-nine.result.0 c.bring_back-eleven.result.0 c.min.result c.requires (search rules) (search rules) c.bring_back-nine.ensures.0 c.bring_back-eleven.ensures.0 c.min.ensures.value in
    omega (arith, ints, p.1)

pub returns : goal.returns
returns c =
    let p = lesser c.args.x c.bring_back-nine.result.0 c.bring_back-eleven.result.0 c.min.result c.requires (search rules) (search rules) c.bring_back-nine.ensures.0 c.bring_back-eleven.ensures.0 c.min.ensures.value in
    omega (arith, ints, p.0, p.1)
