-- what was told of an index
use Rattle.std.proofs.Common.{◌≡◌, ℕ, Bool, true, false, cond, Some, None, Option, refl, arith}

pub index_told : (b : Bool) (n at : ℕ) → Some at ≡ cond b (Some n) None → (b ≡ true) × (at ≡ n)
index_told true n at e = (refl, cc)
index_told false n at e = let z : ◌≡◌ {A = ℕ} 0 1 = cc in absurd (omega arith)

pub none_told : (b : Bool) (n : ℕ) → ◌≡◌ {A = Option ℕ} None (cond b (Some n) None) → b ≡ false
none_told true n e = let z : ◌≡◌ {A = ℕ} 0 1 = cc in absurd (omega arith)
none_told false n e = refl
