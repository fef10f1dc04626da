use Rattle.std.proofs.Common.{◌≡◌}
use Rattle.span.specs.Spans.{ends}
use Rattle.system.specs.Figures.{spans}
use Rattle.enclosure.specs.Boxed.{product_sum}
use Rattle.enclosure.proofs.step.products.Given as goal

abbrev pub invariant-loop-j : goal.invariant-loop-j
invariant-loop-j l = ends l.sum ≡ product_sum l.prepared (spans l.y) l.row l.j
