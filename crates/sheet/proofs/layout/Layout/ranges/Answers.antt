use Rattle.std.proofs.Common.{ℕ, ◌+◌, ◌*◌, ◌≤◌, refl, mul-le-mul, arith}
use Rattle.sheet.proofs.layout.Layout.ranges.Goals as goal

pub returns : goal.returns
returns c =
    let n : ℕ = c.args.self.states in
    let k : ℕ = c.args.self.settings in
    let p : n ≤ 255 = c.args.self.few.0 in
    let q : n + 1 ≤ 256 = omega arith in
    let r : k + 1 ≤ 256 = omega (arith, c.args.self.few.1) in
    let a : n * (n + 1) ≤ 255 * 256 = mul-le-mul p q in
    let b : (k + 1) * (n * (n + 1)) ≤ 256 * (255 * 256) = mul-le-mul r a in
    record { is = refl; few = b }
