use Rattle.std.proofs.Common.{rules, arith, tests}
use Rattle.std.proofs.lemmas.Iterator.{first_from_Range}
use Rattle.std.proofs.lemmas.List.{get_or_read}
use Rattle.source.proofs.Entries.{Elsewhere, Here, searched}
use Rattle.source.proofs.tally.find.Goals as goal

pub returns : goal.returns
returns g c =
    let xs = c.args.entries.now in
    let p = c.args.place.now in
    searched xs c.args.used p c.min-end.result c.min-end.ensures _ (first_from_Range _ _ _ _ (Here xs c.args.used p) (Elsewhere xs c.args.used p) c.find.ensures.ran
    (λ x q k e l. grind (arith, tests, get_or_read))
    (λ x q k. (search rules, λ e l h. grind (arith, tests, get_or_read))))
