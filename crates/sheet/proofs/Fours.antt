-- four bytes are told by their number
use Rattle.std.proofs.Common.{◌≡◌, ℕ, ◌+◌, ◌-◌, ◌*◌, ◌<◌, ◌≤◌, List, get_or, ℤ, pos, negsuc, sym, ◌∙◌, subst, inl, inr, arith}
use Rattle.std.proofs.lemmas.Bool.{cases_lt, cond-false, cond-true, le-ltb, lt-ltb}
use Rattle.sheet.specs.Again.{Bytes}
use Rattle.sheet.specs.Bytes.{number_at, signed_of, unsigned_at}

signed_below : (u : ℕ) → u < 2147483648 → signed_of u ≡ pos u
signed_below u l = cond-true _ _ _ (lt-ltb u 2147483648 l)

signed_above : (u : ℕ) → 2147483648 ≤ u → signed_of u ≡ negsuc (4294967295 - u)
signed_above u l = cond-false _ _ _ (le-ltb u 2147483648 l)

pub unsigned_told : (u v : ℕ) → u < 4294967296 → v < 4294967296 → signed_of u ≡ signed_of v → u ≡ v
unsigned_told u v a b e = elim (cases_lt u 2147483648) [
  | inl l ↦ elim (cases_lt v 2147483648) [
    | inl m ↦ let x : ◌≡◌ {A = ℤ} (pos u) (pos v) = sym (signed_below u l) ∙ e ∙ signed_below v m in cc
    | inr m ↦ let x : ◌≡◌ {A = ℤ} (pos u) (negsuc (4294967295 - v)) = sym (signed_below u l) ∙ e ∙ signed_above v m in let z : ◌≡◌ {A = ℕ} 0 1 = cc in absurd (omega arith)
  ]
  | inr l ↦ elim (cases_lt v 2147483648) [
    | inl m ↦ let x : ◌≡◌ {A = ℤ} (negsuc (4294967295 - u)) (pos v) = sym (signed_above u l) ∙ e ∙ signed_below v m in let z : ◌≡◌ {A = ℕ} 0 1 = cc in absurd (omega arith)
    | inr m ↦ let x : ◌≡◌ {A = ℤ} (negsuc (4294967295 - u)) (negsuc (4294967295 - v)) = sym (signed_above u l) ∙ e ∙ signed_above v m in let y : 4294967295 - u ≡ 4294967295 - v = cc in omega arith
  ]
]

module _ (xs ys : List ℕ) (small : Bytes xs) (fits : Bytes ys) where
  four : (p q r s : ℕ) (a b c d : ℕ) → p < 256 → q < 256 → r < 256 → s < 256 → a < 256 → b < 256 → c < 256 → d < 256 → p + 256 * q + 65536 * r + 16777216 * s ≡ a + 256 * b + 65536 * c + 16777216 * d → (p ≡ a) × (q ≡ b) × (r ≡ c) × (s ≡ d)
  four p q r s a b c d h₀ h₁ h₂ h₃ k₀ k₁ k₂ k₃ e = (omega arith, omega arith, omega arith, omega arith)

  pub bytes_told : (b : ℕ) → unsigned_at xs b ≡ unsigned_at ys b → (j : ℕ) → j < 4 → get_or xs (b + j) 0 ≡ get_or ys (b + j) 0
  bytes_told b e j l =
      let f = four _ _ _ _ _ _ _ _ (small b) (small (b + 1)) (small (b + 2)) (small (b + 3)) (fits b) (fits (b + 1)) (fits (b + 2)) (fits (b + 3)) e in
      elim (cases_lt j 1) [
        | inl a ↦ at 0 (omega arith) (at_first f.0)
        | inr a ↦ elim (cases_lt j 2) [
          | inl c ↦ at 1 (omega arith) f.1
          | inr c ↦ elim (cases_lt j 3) [
            | inl d ↦ at 2 (omega arith) f.2
            | inr d ↦ at 3 (omega arith) f.3
          ]
        ]
      ]
    where
      at : (i : ℕ) → i ≡ j → get_or xs (b + i) 0 ≡ get_or ys (b + i) 0 → get_or xs (b + j) 0 ≡ get_or ys (b + j) 0
      at i s k = subst (λ z. get_or xs (b + z) 0 ≡ get_or ys (b + z) 0) s k

      at_first : get_or xs b 0 ≡ get_or ys b 0 → get_or xs (b + 0) 0 ≡ get_or ys (b + 0) 0
      at_first k = let s : b ≡ b + 0 = omega arith in subst (λ z. get_or xs z 0 ≡ get_or ys z 0) s k

  below : (b : ℕ) → (unsigned_at xs b < 4294967296) × (unsigned_at ys b < 4294967296)
  below b = (omega (arith, small b, small (b + 1), small (b + 2), small (b + 3)), omega (arith, fits b, fits (b + 1), fits (b + 2), fits (b + 3)))

  pub number_told : (b : ℕ) → number_at xs b ≡ number_at ys b → (j : ℕ) → j < 4 → get_or xs (b + j) 0 ≡ get_or ys (b + j) 0
  number_told b e = bytes_told b (unsigned_told _ _ (below b).0 (below b).1 e)
