use Rattle.std.proofs.Common.{◌≡◌, ◌<◌, true, false, length, ◌<ℤ◌, refl, ◌∙◌, arith, rules}
use lib.Signed.{le_z}
use Rattle.std.proofs.lemmas.Int.{ints}
use Rattle.span.specs.Spans.{ends}
use Rattle.system.specs.Posts.{has_setting}
use Rattle.system.proofs.Ranges.{both_within, ends_ordered, narrow_set, spans_set_here, spans_set_elsewhere}
use Rattle.span.proofs.Verdicts.{no_none, no_here, no_after}
use Rattle.system.proofs.system.System.set_range.Goals as goal

pub returns-then-not-has_setting : goal.returns-then-not-has_setting
returns-then-not-has_setting c =
    let no : has_setting c.args.self.now c.args.part ≡ false = cc in
    (no_here _ _ _ no, refl)

pub returns-in_default : goal.returns-in_default
returns-in_default c =
    let own : has_setting c.args.self.now c.args.part ≡ true = cc in
    let above : c.args.high <ℤ c.args.low = search rules in
    let no : le_z c.args.low c.args.high ≡ false = grind (arith, ints) in
    (no_after _ _ _ _ own (no_here _ _ _ no), refl)

pub returns-then-not-both_within : goal.returns-then-not-both_within
returns-then-not-both_within c =
    let s = c.args.self.now in
    let own : has_setting s c.args.part ≡ true = cc in
    let made : ends c.in-Ok.range ≡ record { low = c.args.low; high = c.args.high } = search rules in
    let no = both_within s.units c.args.low c.args.high false c.ranges.low c.ranges.high c.if-not-both_within.ensures in
    (no_after _ _ _ _ own (no_after _ _ _ _ (ends_ordered c.in-Ok.range _ _ made) (no_here _ _ _ no)), refl)

pub invariant_of-self : goal.invariant_of-self
invariant_of-self c =
    let s = c.args.self.now in
    let there : c.args.part < length s.ranges = search rules in
    let made : ends c.in-Ok.range ≡ record { low = c.args.low; high = c.args.high } = search rules in
    let yes = both_within s.units c.args.low c.args.high true c.ranges.low c.ranges.high c.if-not-both_within.ensures in
    let reach = narrow_set s.units s.ranges c.args.part c.in-Ok.range c.args.low c.args.high there s.reach made yes in
    record { scale = s.scale; size = s.size; coefficients = s.coefficients; payments = s.payments; reach = reach }

pub returns : goal.returns
returns c =
    let s = c.args.self.now in
    let own : has_setting s c.args.part ≡ true = cc in
    let made : ends c.in-Ok.range ≡ record { low = c.args.low; high = c.args.high } = search rules in
    let yes = both_within s.units c.args.low c.args.high true c.ranges.low c.ranges.high c.if-not-both_within.ensures in
    let there : c.args.part < length s.ranges = search rules in (
      no_after _ _ _ _ own (no_after _ _ _ _ (ends_ordered c.in-Ok.range _ _ made) (no_after _ _ _ _ yes no_none)),
      record {
        kept = record { units = refl; states = refl; settings = refl };
        matrix = refl;
        payouts = refl;
        here = spans_set_here s.ranges c.args.part c.in-Ok.range there ∙ made;
        elsewhere = spans_set_elsewhere s.ranges c.args.part c.in-Ok.range;
      },
    )
