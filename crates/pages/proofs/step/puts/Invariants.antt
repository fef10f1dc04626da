use Rattle.std.proofs.Common.{◌≡◌, ◌++◌, map, drop, vec_items}
use Rattle.pages.specs.Puts.{first_puts, posed_puts, put}
use Rattle.pages.specs.Steps.{all_puts}
use Rattle.pages.proofs.step.puts.Given as goal

abbrev pub invariant-loop-step : goal.invariant-loop-step
invariant-loop-step l = map put (vec_items l.puts) ++ all_puts (drop l.step-index l.steps) ≡ all_puts l.steps

abbrev pub invariant-loop-number : goal.invariant-loop-number
invariant-loop-number l = map put (vec_items l.puts) ≡ map put (vec_items l.initial.puts) ++ first_puts l.number (posed_puts l.posed)
