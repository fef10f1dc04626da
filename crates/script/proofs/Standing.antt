-- a pair asked: what follows where it stands, and where it is turned down
use Rattle.std.proofs.Common.{◌≡◌, ℤ, ◌≤ℤ◌, ◌<ℤ◌, Ok, Err, Result, ap, ◌∙◌, subst, arith, w64, SFits, to_z, of_z}
use borrow.Author.Differences.{ints}
use Rattle.std.proofs.lemmas.Int.{to_z-of_z}
use Rattle.span.specs.declared.fault.Fault.{Fault}
use Rattle.span.specs.declared.fault.Fault.TheVariants.{LowAboveHigh}
use Rattle.span.specs.declared.span.Span.{Span}
use Rattle.span.specs.Intervals.{Interval}
use Rattle.span.specs.Spans.{Answers, ends}
use Rattle.script.specs.Pairs.{Both, Pair, Ranged, from_to}

-- a number as the code holds it
abbrev held : ℤ → ℤ
held x = to_z w64 (of_z w64 x)

pub stands : {T : Type 0} {P : Type 0} (low high : ℤ) (s : Span) (r : Result T Fault) → ends s ≡ from_to low high → P → Pair low high r P
stands low high s r e p = record {
  turned = λ h. absurd (apart s.low s.high s.ordered (ap (λ i. i.low) e) (ap (λ i. i.high) e) h);
  ordered = λ _. p;
}
  where
    apart : (a b : ℤ) → a ≤ℤ b → a ≡ low → b ≡ high → high <ℤ low → ⊥
    apart a b o p q h = omega (arith, ints)

pub turned : {T : Type 0} {P : Type 0} (low high : ℤ) (r : Result T Fault) → r ≡ Err (LowAboveHigh low high) → high <ℤ low → Pair low high r P
turned low high r e h = record { turned = λ _. e; ordered = λ o. absurd (omega (arith, ints)) }

pub unheld : (low high : ℤ) (s : Interval) → SFits w64 low → SFits w64 high → s ≡ from_to (held low) (held high) → s ≡ from_to low high
unheld low high s f g e = simp to_z-of_z at e

-- one pair, as `new` answers it
pub one_pair : (low high : ℤ) (q : Result Span Fault) → SFits w64 low → SFits w64 high → elim q as (λ _. Type 0) [ Ok s ↦ ends s ≡ record { low = held low; high = held high } | Err e ↦ (e ≡ LowAboveHigh (held low) (held high)) × (held high <ℤ held low) ] → Pair low high q (Ranged (from_to low high) q)
one_pair low high (Ok s) f g e = let e' = unheld low high (ends s) f g e in stands low high s (Ok s) e' e'
one_pair low high (Err y) f g e = let e' : (y ≡ LowAboveHigh low high) × (high <ℤ low) = simp to_z-of_z at e in turned low high (Err y) (ap (λ x. Err x) e'.0) e'.1

-- both pairs stand
pub both_stand : (a b c d : ℤ) (s t : Span) (r : Result Span Fault) {P : Span → Span → Type 0} → SFits w64 a → SFits w64 b → SFits w64 c → SFits w64 d → ends s ≡ from_to (held a) (held b) → ends t ≡ from_to (held c) (held d) → P s t → Pair a b r (Pair c d r ((x y : Span) × (ends x ≡ from_to a b) × (ends y ≡ from_to c d) × P x y))
both_stand a b c d s t r fa fb fc fd e g h =
    let e' = unheld a b (ends s) fa fb e in
    let g' = unheld c d (ends t) fc fd g in
    stands a b s r e' (stands c d t r g' (s, t, e', g', h))

-- what joins them answers
pub joined : (a b c d : ℤ) (joins : Interval → Interval → Interval) (fault : Fault) (r : Result Span Fault) {P : Span → Span → Type 0} → ((x y : Span) → P x y → Answers r (joins (ends x) (ends y)) fault) → Pair a b r (Pair c d r ((x y : Span) × (ends x ≡ from_to a b) × (ends y ≡ from_to c d) × P x y)) → Both a b c d joins fault r
joined a b c d joins fault r f p = record {
  turned = p.turned;
  ordered = λ o. record {
    turned = (p.ordered o).turned;
    ordered = λ u. let q = (p.ordered o).ordered u in subst (λ i. Answers r (joins (from_to a b) i) fault) q.3 (subst (λ i. Answers r (joins i (ends q.1)) fault) q.2 (f q.0 q.1 q.4));
  };
}

-- the first pair stands and the second does not
pub second_turned : {P : Type 0} (a b c d : ℤ) (s : Span) (r : Result Span Fault) (y : Fault) → SFits w64 a → SFits w64 b → SFits w64 c → SFits w64 d → ends s ≡ from_to (held a) (held b) → r ≡ Err y → (y ≡ LowAboveHigh (held c) (held d)) × (held d <ℤ held c) → Pair a b r (Pair c d r P)
second_turned a b c d s r y fa fb fc fd e q h =
    let h' : (y ≡ LowAboveHigh c d) × (d <ℤ c) = simp to_z-of_z at h in
    stands a b s r (unheld a b (ends s) fa fb e) (turned c d r (q ∙ ap (λ x. Err x) h'.0) h'.1)
