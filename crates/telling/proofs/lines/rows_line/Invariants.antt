use Rattle.std.proofs.Common.{◌≡◌, ◌++◌, drop, string_bytes, codes}
use Rattle.telling.specs.Replies.{rows_text}
use Rattle.telling.proofs.lines.rows_line.Given as goal

abbrev pub invariant-loop-row : goal.invariant-loop-row
invariant-loop-row l = string_bytes l.line ++ rows_text (drop l.row-index l.rows) ≡ codes "ok" ++ rows_text l.rows
