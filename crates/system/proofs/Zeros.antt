-- what is all 0 is within every limit
use Rattle.std.proofs.Common.{◌≡◌, ℕ, List, get_or, replicate, ℤ, pos, inl, inr, arith}
use Rattle.std.proofs.lemmas.List.{get_or_past, get_or-replicate, length-replicate}
use Rattle.std.proofs.lemmas.Bool.{cases_lt}
use Rattle.span.specs.declared.span.Span.{Span}
use Rattle.span.specs.Intervals.{point}
use Rattle.system.specs.Figures.{Narrow, Small, spans}

replicated : (n i : ℕ) → get_or (replicate n (pos 0)) i (pos 0) ≡ pos 0
replicated n i =
    elim (cases_lt i n) [ inl h ↦ get_or-replicate n i (pos 0) (pos 0) h | inr h ↦ get_or_past (replicate n (pos 0)) i (pos 0) (rw length-replicate h) ]

pub small_zeros : (w n : ℕ) (xs : List ℤ) → xs ≡ replicate n (pos 0) → Small w xs
small_zeros w n xs e i = rw (e, replicated n i) (omega arith)

pub narrow_zeros : (w : ℕ) (xs : List Span) → ((v : ℕ) → spans xs v ≡ point (pos 0)) → Narrow w xs
narrow_zeros w xs e v = rw (e v) (omega arith)
