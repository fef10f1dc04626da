use Rattle.std.proofs.Common.{◌≡◌, ℕ, ◌<◌, arith, w64, to_z, of_z, rules}
use Rattle.span.specs.Encloses.{Quotients}
use Rattle.span.specs.Intervals.{brought}
use Rattle.span.specs.Rounding.{floor, ceiling}
use Rattle.span.specs.Spans.{ends}
use Rattle.span.proofs.Contains.{in_brought, moved}
use Rattle.span.proofs.Floors.{floor_greatest, ceiling_least, floor_ceiling}
use Rattle.span.proofs.span.Span.bring_back.Goals as goal

pub invariant_of-result : goal.invariant_of-result
invariant_of-result g c =
    let S : ℕ = g.T.Scale.unit in
    let some : 0 < S = omega (arith, g.met.T.Scale.least) in
    let low : to_z w64 (of_z w64 c.outward-low.result.0) ≡ floor S c.args.self.low = search rules in
    let high : to_z w64 (of_z w64 c.outward-low.result.1) ≡ ceiling S c.args.self.high = search rules in
    record { ordered = rw (low, high) (floor_ceiling S c.args.self.low c.args.self.high some c.args.self.ordered) }

pub returns : goal.returns
unfolding brought
returns g c =
    let S : ℕ = g.T.Scale.unit in
    let some : 0 < S = omega (arith, g.met.T.Scale.least) in
    let low : to_z w64 (of_z w64 c.outward-low.result.0) ≡ floor S c.args.self.low = search rules in
    let high : to_z w64 (of_z w64 c.outward-low.result.1) ≡ ceiling S c.args.self.high = search rules in
    record {
      value = search rules;
      lower = rw low (floor_greatest S c.args.self.low some);
      upper = rw high (ceiling_least S c.args.self.high some);
      ordered = search rules;
      encloses = moved (Quotients S (ends c.args.self)) _ _ _ _ (in_brought S (ends c.args.self) some) low high;
    }
