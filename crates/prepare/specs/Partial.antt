-- the sums of the method as far as they have come, m terms
use Rattle.std.specs.Prelude.{ℕ, suc, ◌*◌, cond, List, pos, ◌==◌}
use Rattle.span.specs.declared.span.Span.{Span}
use Rattle.span.specs.Intervals.{Interval, point, ◌+ᵢ◌, ◌-ᵢ◌, ◌*ᵢ◌}
use Rattle.method.specs.Method.{Game, Proposal, correction, product}
use Rattle.method.specs.Sums.{sumᵢ}
use Rattle.system.specs.Figures.{spans}

-- row i of R times the spans
abbrev pub weighed : Proposal → List Span → ℕ → ℕ → Interval
weighed H xs i m = sumᵢ m (λ j. point (H.table i j) *ᵢ spans xs j)

abbrev pub residual_sum : ℕ → Game → Proposal → ℕ → ℕ → Interval
residual_sum S G H i m = point (pos S) *ᵢ correction S G H 0 i +ᵢ sumᵢ m (λ v. G.range (suc v) *ᵢ correction S G H (suc v) i)

abbrev pub iteration_sum : ℕ → Game → Proposal → ℕ → ℕ → ℕ → Interval
iteration_sum S G H i j m = point (cond (i == j) (pos (S * S)) (pos 0)) -ᵢ point (pos S) *ᵢ product S G H 0 i j -ᵢ sumᵢ m (λ v. G.range (suc v) *ᵢ product S G H (suc v) i j)
