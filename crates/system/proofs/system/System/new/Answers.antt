use Rattle.std.proofs.Common.{◌≡◌, ℕ, ◌*◌, ◌≤◌, true, false, nat_abs, arith, w64, to_z, of_z, rules}
use Rattle.std.proofs.lemmas.Bool.Decides.{nat_tests}
use Rattle.system.specs.Posts.{is_size}
use Rattle.span.proofs.Verdicts.{no_none, no_here, no_after}
use Rattle.system.proofs.Zeros.{narrow_zeros, small_zeros}
use Rattle.system.proofs.system.System.new.Goals as goal

pub returns-then-not-is_size : goal.returns-then-not-is_size
returns-then-not-is_size g c =
    let no : is_size c.args.states c.args.settings ≡ false = cc in
    no_here _ _ _ no

pub invariant_of-result : goal.invariant_of-result
invariant_of-result g c =
    let S : ℕ = nat_abs (to_z w64 (of_z w64 c.units.result)) in
    let units : S ≡ g.T.Scale.unit = search rules in
    let least : 2 ≤ S = omega (arith, g.met.T.Scale.least) in
    let most : S ≤ 1048576 = omega (arith, g.met.T.Scale.most) in
    let yes : is_size c.args.states c.args.settings ≡ true = cc in
    record {
      scale = (least, most);
      size = (grind (arith, nat_tests), grind (arith, nat_tests), grind (arith, nat_tests));
      coefficients = small_zeros S 1296 _ c.zeros.ensures;
      payments = small_zeros (100 * S) 108 _ c.zeros-2.ensures;
      reach = narrow_zeros S _ c.zero_ranges.ensures;
    }

pub returns : goal.returns
returns g c =
    let yes : is_size c.args.states c.args.settings ≡ true = cc in
    (no_after _ _ _ _ yes no_none, search rules)
