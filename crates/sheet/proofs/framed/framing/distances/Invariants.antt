use Rattle.std.proofs.Common.{◌≡◌, ℕ, ◌+◌, ◌-◌, ◌*◌, ◌<◌, length}
use Rattle.sheet.specs.Bytes.{unsigned_at}
use Rattle.sheet.specs.Layout.{distance}
use Rattle.sheet.proofs.framed.framing.distances.Given as goal

abbrev pub invariant-loop-section : goal.invariant-loop-section
invariant-loop-section l = (s : ℕ) → s < l.section → unsigned_at l.bytes (length l.bytes - 28 + 4 * s) ≡ distance l.layout.states l.layout.settings s
