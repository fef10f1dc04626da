-- the step from what is prepared is the method's
use Rattle.std.proofs.Common.{◌≡◌, ℕ, ◌+◌, ◌*◌, ◌<◌, pos, ap, ◌∙◌}
use Rattle.span.specs.Intervals.{Interval, point, ◌+ᵢ◌, ◌*ᵢ◌, brought}
use Rattle.method.specs.Method.{Game, Proposal, residual, iteration, step}
use Rattle.method.specs.Sums.{sumᵢ}
use Rattle.system.specs.Figures.{spans}
use Rattle.prepare.proofs.Additions.{same_sums}
use Rattle.prepare.specs.declared.prepared.Prepared.{Prepared}
use Rattle.prepare.specs.Proposals.{PreparedFor}
use Rattle.enclosure.specs.Boxed.{next, product_sum}
use Rattle.enclosure.specs.Stepped.{stepped}

pub next_is : (S : ℕ) (G : Game) (H : Proposal) (p : Prepared) → PreparedFor S G H p → (X Y : ℕ → Interval) → ((i : ℕ) → i < G.states → X i ≡ Y i) → (i : ℕ) → i < G.states → next p X i ≡ step S G H Y i
unfolding stepped step
next_is S G H p q X Y same i h =
    ap (λ u. brought u (point (pos u) *ᵢ spans p.residual i +ᵢ product_sum p X i p.states)) q.units
    ∙ ap (λ z. brought S (point (pos S) *ᵢ z +ᵢ product_sum p X i p.states)) (q.residual_is i h)
    ∙ ap (λ s. brought S (point (pos S) *ᵢ residual S G H i +ᵢ s)) sums
  where
    term : (j : ℕ) → j < G.states → spans p.iteration (i * p.states + j) *ᵢ X j ≡ iteration S G H i j *ᵢ Y j
    term j k =
        ap (λ m. spans p.iteration (i * m + j) *ᵢ X j) q.states
        ∙ ap (λ c. c *ᵢ X j) (q.iteration_is i j h k)
        ∙ ap (λ x. iteration S G H i j *ᵢ x) (same j k)

    sums : product_sum p X i p.states ≡ sumᵢ G.states (λ j. iteration S G H i j *ᵢ Y j)
    sums = ap (product_sum p X i) q.states ∙ same_sums G.states (λ j. spans p.iteration (i * p.states + j) *ᵢ X j) (λ j. iteration S G H i j *ᵢ Y j) term
