-- the ends of a box, as the code holds them
use Rattle.std.specs.Prelude.{ℕ, zero, suc}
use Rattle.method.specs.Trials as trials
use Rattle.enclosure.specs.declared.fault.End.{End}
use Rattle.enclosure.specs.declared.fault.End.TheVariants.{Low, High}
use Rattle.enclosure.specs.declared.trial.judging.Overshoot.{Overshoot}

-- an end by its side, 0 for low
abbrev pub sided : ℕ → End
sided zero = Low
sided (suc i) = High

abbrev pub overshot : trials.End → Overshoot
overshot e = record { row = e.row; side = sided e.side; over = e.over }
