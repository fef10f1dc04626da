-- places: when two are the same, and their indices
use Rattle.std.proofs.Common.{◌≡◌, ℕ, ◌+◌, ◌*◌, ◌/◌, ◌%◌, ◌<◌, Bool, true, false, ◌||◌, refl, inl, inr, arith}
use Rattle.std.proofs.lemmas.Bool.{cases_Bool, both_ways}
use Rattle.std.proofs.lemmas.Bool.Decides.{nat_tests}
use Rattle.source.specs.declared.place.Place.{Place}
use Rattle.source.specs.declared.place.Place.TheVariants.{Matrix, Payout}
use Rattle.source.specs.Meaning.{Kind, matrix, payout, kind_of, same, in_range, index_of, place_at, places}

pub same_true : (p q : Place) → same p q ≡ true → p ≡ q
same_true (Matrix v i j) (Matrix w r c) h =
    let a : v ≡ w = grind (arith, nat_tests) in
    let b : i ≡ r = grind (arith, nat_tests) in
    let d : j ≡ c = grind (arith, nat_tests) in
    cc
same_true (Matrix v i j) (Payout w r) h = absurd (both_ways false refl h)
same_true (Payout v i) (Matrix w r c) h = absurd (both_ways false refl h)
same_true (Payout v i) (Payout w r) h =
    let a : v ≡ w = grind (arith, nat_tests) in
    let b : i ≡ r = grind (arith, nat_tests) in
    cc

pub same_refl : (p : Place) → same p p ≡ true
same_refl (Matrix v i j) = grind (arith, nat_tests)
same_refl (Payout v i) = grind (arith, nat_tests)

pub same_false : (p q : Place) → (p ≡ q → ⊥) → same p q ≡ false
same_false p q h = elim (cases_Bool (same p q)) [ inl yes-same ↦ absurd (h (same_true p q yes-same)) | inr other ↦ other ]

-- a place that passes already adds none to those that pass
pub held_again : (f : Place → Bool) (p q : Place) → f p ≡ true → f q ≡ (same p q || f q)
held_again f p q h =
    elim (cases_Bool (same p q)) [ inl one ↦ rw (one, ← same_true p q one) h | inr other ↦ rw other refl ]

-- ---- the index of a place and the place at an index
pub index_at : (k : Kind) (t : ℕ) → index_of (place_at k t) ≡ t
index_at matrix t = omega arith
index_at payout t = omega arith

pub index_below : (p : Place) → in_range p ≡ true → index_of p < places (kind_of p)
index_below (Matrix v i j) h = grind (arith, nat_tests)
index_below (Payout v i) h = grind (arith, nat_tests)

pub at_index : (p : Place) → in_range p ≡ true → place_at (kind_of p) (index_of p) ≡ p
at_index (Matrix v i j) h =
    let a : i < 12 = grind (arith, nat_tests) in
    let b : j < 12 = grind (arith, nat_tests) in
    let x : ((v * 12 + i) * 12 + j) / 144 ≡ v = omega arith in
    let y : (((v * 12 + i) * 12 + j) / 12) % 12 ≡ i = omega arith in
    let z : ((v * 12 + i) * 12 + j) % 12 ≡ j = omega arith in
    cc
at_index (Payout v i) h =
    let a : i < 12 = grind (arith, nat_tests) in
    let x : (v * 12 + i) / 12 ≡ v = omega arith in
    let y : (v * 12 + i) % 12 ≡ i = omega arith in
    cc
