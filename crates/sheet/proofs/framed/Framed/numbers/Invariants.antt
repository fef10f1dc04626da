use Rattle.std.proofs.Common.{◌≡◌, ℕ, ◌+◌, ◌<◌, length, get_or, pos}
use Rattle.sheet.specs.Framing.{sheet_in}
use Rattle.sheet.proofs.framed.Framed.numbers.Given as goal

abbrev pub invariant-loop-t : goal.invariant-loop-t
invariant-loop-t l = (length l.number-items ≡ 144) × ((i : ℕ) → i < l.t → get_or l.number-items i (pos 0) ≡ (sheet_in l.self).number (l.from + i))
