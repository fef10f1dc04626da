use Rattle.std.proofs.Common.{◌≡◌, ℕ, ◌*◌, ◌≤◌, get_or}
use Rattle.sheet.specs.Numbers.{Numbers}
use Rattle.sheet.proofs.writing.put_numbers.Given as goal

abbrev pub invariant-loop-t : goal.invariant-loop-t
invariant-loop-t g l =
    Numbers g.T.Scale.unit (g.C.Source.meaning l.docket.source) (g.C.Source.sound l.docket.source) l.docket.desk l.held l.t l.buffer
    × ((i : ℕ) → 4 * l.t ≤ i → get_or l.buffer i 0 ≡ get_or l.initial.buffer i 0)
