use Rattle.std.proofs.Common.{get_or, pos, refl, arith, w32, SFits, rules}
use Rattle.span.proofs.Verdicts.{no_none, no_here, no_after}
use Rattle.system.proofs.Sums.{sum_beyond, sum_within, sum_stored}
use Rattle.system.proofs.system.System.post_matrix.Goals as goal

pub returns-in_default : goal.returns-in_default
returns-in_default c = (no_here _ _ _ c.in_default.ensures, refl)

pub returns-in_default-sum_within : goal.returns-in_default-sum_within
returns-in_default-sum_within c =
    let s = c.args.self.now in
    let place = c.in-Some.ensures in
    let held : SFits w32 (get_or s.matrix c.in-Some.at (pos 0)) = search rules in
    let beyond = sum_beyond s.matrix c.in-Some.at _ c.args.amount place.0 held c.ranges.amount s.units 1 s.units (omega arith) (c.in_default-sum_within.ensures (omega (arith, s.scale.1))) in
    (no_after _ _ _ _ place.2 (no_here _ _ _ beyond), refl)

pub returns : goal.returns
returns c =
    let s = c.args.self.now in
    let place = c.in-Some.ensures in
    let sum = c.in-Some-sum_within.ensures in
    let held : SFits w32 (get_or s.matrix c.in-Some.at (pos 0)) = search rules in
    let fits : SFits w32 c.in-Some-sum_within.sum = search rules in
    let within = sum_within s.matrix c.in-Some.at _ c.args.amount place.0 held c.ranges.amount s.units 1 s.units (omega arith) sum.1 in
    let stored = sum_stored s.matrix c.in-Some.at _ c.args.amount place.0 held c.ranges.amount c.in-Some-sum_within.sum fits sum.0 in (
      no_after _ _ _ _ place.2 (no_after _ _ _ _ within no_none),
      record {
        kept = record { units = refl; states = refl; settings = refl };
        matrix = stored;
        payouts = refl;
        ranges = refl;
      },
    )
