-- the method's figures, by computing them
use Rattle.std.proofs.Common.{refl}
use Rattle.span.specs.Intervals.{◌*ᵢ◌, brought}
use Rattle.span.specs.Questions.{first_no, each}
use Rattle.method.specs.Method.{leftover, correction, residual, product, iteration, step, narrowed}
use Rattle.method.specs.Trials.{grown, every, worst, boxes}
use Rattle.enclosure.specs.Enclosures.{trials}
use Rattle.figures.specs.Enclosed.{Enclosed}

pub enclosed : Enclosed
unfolding ◌*ᵢ◌ brought first_no each leftover correction residual product iteration step narrowed grown every worst boxes trials
enclosed = record {
  third_residual = refl;
  third_iteration = refl;
  third_step = refl;
  third = refl;
  minus_a_third = refl;
  swing_residual = refl;
  swing_iteration = refl;
  swing = refl;
  swing_narrowed = refl;
  nothing = refl;
  large_once = refl;
  large_twice = refl;
  too_large = refl;
}
