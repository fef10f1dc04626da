-- the code's sums of products are the method's
use Rattle.std.proofs.Common.{◌≡◌, ℕ, ◌+◌, ◌-◌, ◌*◌, ◌^◌, ◌<◌, ◌≤◌, List, length, get_or, take, drop, ℤ, pos, ◌*ℤ◌, nat_abs, sym, ap, ◌∙◌, subst, mul-le-mul, mul-one, arith}
use Rattle.std.proofs.lemmas.List.{get_or-drop, get_or-take, length-drop, take_all}
use lib.IntN.{*ℤ_comm}
use Rattle.span.specs.declared.scale.Scale.{Ghosts}
use Rattle.method.specs.Sums.{int_sum}
use Rattle.method.proofs.Bounds as bounds
use Rattle.method.proofs.SumLaws.{sum_same}
use Rattle.prepare.specs.declared.proposal.Proposal.{Proposal}
use Rattle.prepare.specs.Dots.{dotted}
use Rattle.prepare.specs.Numbers.{offered}
use Rattle.prepare.specs.Proposals.{game}
use Rattle.prepare.proofs.Known.{admitted, is_offered, some}

-- the numbers of a list from a place on
abbrev rest : List ℤ → ℕ → List ℤ
rest xs k = take (length xs - k) (drop k xs)

in_rest : (xs ys : List ℤ) (k i : ℕ) → xs ≡ ys → get_or (rest xs k) i (pos 0) ≡ get_or ys (k + i) (pos 0)
in_rest xs ys k i e =
    let whole : length (drop k xs) ≤ length xs - k = omega (arith, length-drop k xs) in
    ap (λ (zs : List ℤ). get_or zs i (pos 0)) (take_all (length xs - k) (drop k xs) whole) ∙ get_or-drop k xs i (pos 0) ∙ ap (λ (zs : List ℤ). get_or zs (k + i) (pos 0)) e

small : (S : ℕ) (z : ℤ) → S ≤ 1048576 → nat_abs z ≤ 1200 * (S * S) → nat_abs z < 2 ^ 62
small S z h k = omega (arith, mul-le-mul h h)

module _ {X : Type 0} {T : Ghosts X} (p : Proposal X T) where
  module _ (xs : List ℤ) (v i n m : ℕ) (e : xs ≡ p.system.now.matrix) (few : m ≤ n) where
    pub leftover_dotted : dotted (take n p.guesses) (rest xs ((v * 12 + i) * 12)) 1 m ≡ int_sum m (λ j. (game p.system.now).matrix v i j *ℤ (offered p).guess j)
    leftover_dotted =
        sum_same m (λ j. get_or (take n p.guesses) j (pos 0) *ℤ get_or (rest xs ((v * 12 + i) * 12)) (j * 1) (pos 0)) (λ j. (game p.system.now).matrix v i j *ℤ (offered p).guess j) term
      where
        term : (j : ℕ) → j < m → get_or (take n p.guesses) j (pos 0) *ℤ get_or (rest xs ((v * 12 + i) * 12)) (j * 1) (pos 0) ≡ (game p.system.now).matrix v i j *ℤ (offered p).guess j
        term j h =
            let guess : get_or (take n p.guesses) j (pos 0) ≡ get_or p.guesses j (pos 0) = get_or-take n p.guesses j (pos 0) (omega arith) in
            let coefficient = in_rest xs p.system.now.matrix ((v * 12 + i) * 12) (j * 1) e ∙ ap (λ k. get_or p.system.now.matrix ((v * 12 + i) * 12 + k) (pos 0)) (mul-one j) in
            ap (λ z. z *ℤ get_or (rest xs ((v * 12 + i) * 12)) (j * 1) (pos 0)) guess ∙ ap (λ z. get_or p.guesses j (pos 0) *ℤ z) coefficient ∙ *ℤ_comm (get_or p.guesses j (pos 0)) (get_or p.system.now.matrix ((v * 12 + i) * 12 + j) (pos 0))

    pub leftover_small : 2 ≤ T.unit → T.unit ≤ 1048576 → m ≤ p.system.now.states → nat_abs (dotted (take n p.guesses) (rest xs ((v * 12 + i) * 12)) 1 m) < 2 ^ 62
    leftover_small a b h = subst (λ (z : ℤ). nat_abs z < 2 ^ 62) (sym leftover_dotted) (small T.unit (int_sum m (λ j. (game p.system.now).matrix v i j *ℤ (offered p).guess j)) b (bounds.leftover_sum T.unit (some T.unit a) (game p.system.now) (offered p) (admitted T.unit p.system.now p.scaled) (is_offered p) v i m h))

  module _ (xs row : List ℤ) (v i j m : ℕ) (e : xs ≡ p.system.now.matrix) (few : m ≤ p.system.now.states) (is : (l : ℕ) → l < p.system.now.states → get_or row l (pos 0) ≡ (offered p).table i l) where
    pub product_dotted : dotted row (rest xs (v * 144 + j)) 12 m ≡ int_sum m (λ l. (offered p).table i l *ℤ (game p.system.now).matrix v l j)
    product_dotted =
        sum_same m (λ l. get_or row l (pos 0) *ℤ get_or (rest xs (v * 144 + j)) (l * 12) (pos 0)) (λ l. (offered p).table i l *ℤ (game p.system.now).matrix v l j) term
      where
        place : (l : ℕ) → v * 144 + j + l * 12 ≡ (v * 12 + l) * 12 + j
        place l = omega arith

        term : (l : ℕ) → l < m → get_or row l (pos 0) *ℤ get_or (rest xs (v * 144 + j)) (l * 12) (pos 0) ≡ (offered p).table i l *ℤ (game p.system.now).matrix v l j
        term l h =
            let coefficient = in_rest xs p.system.now.matrix (v * 144 + j) (l * 12) e ∙ ap (λ k. get_or p.system.now.matrix k (pos 0)) (place l) in
            ap (λ z. z *ℤ get_or (rest xs (v * 144 + j)) (l * 12) (pos 0)) (is l (omega arith)) ∙ ap (λ z. (offered p).table i l *ℤ z) coefficient

    pub product_small : 2 ≤ T.unit → T.unit ≤ 1048576 → nat_abs (dotted row (rest xs (v * 144 + j)) 12 m) < 2 ^ 62
    product_small a b = subst (λ (z : ℤ). nat_abs z < 2 ^ 62) (sym product_dotted) (small T.unit (int_sum m (λ l. (offered p).table i l *ℤ (game p.system.now).matrix v l j)) b (omega (arith, bounds.product_sum T.unit (some T.unit a) (game p.system.now) (offered p) (admitted T.unit p.system.now p.scaled) (is_offered p) v i j m few)))
