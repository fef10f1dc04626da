use Rattle.std.proofs.Common.{◌≡◌, ℕ, ◌+◌, ◌*◌, ◌<◌, ◌≤◌, get_or}
use Rattle.sheet.specs.Bytes.{unsigned_at}
use Rattle.sheet.specs.Layout.{distance}
use Rattle.sheet.proofs.writing.put_distances.Given as goal

abbrev pub invariant-loop-s : goal.invariant-loop-s
invariant-loop-s l =
    ((s : ℕ) → s < l.s → unsigned_at l.buffer (l.start + 4 * s) ≡ distance l.layout.states l.layout.settings s)
    × ((i : ℕ) → i < l.start → get_or l.buffer i 0 ≡ get_or l.initial.buffer i 0)
    × ((i : ℕ) → l.start + 4 * l.s ≤ i → get_or l.buffer i 0 ≡ get_or l.initial.buffer i 0)
