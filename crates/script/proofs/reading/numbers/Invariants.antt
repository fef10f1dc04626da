use Rattle.std.proofs.Common.{◌≡◌, length}
use Rattle.script.specs.Reading.{Written, texts}
use Rattle.script.proofs.reading.numbers.Given as goal

abbrev pub invariant-loop-i : goal.invariant-loop-i
invariant-loop-i l = (length l.read ≡ 4) × Written (texts l.words) l.read l.i
