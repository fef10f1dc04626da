-- how rows and moves are counted
use Rattle.std.specs.Prelude.{◌≡◌, ℤ, pos, ◌+ℤ◌}
use Rattle.std.specs.Int.{saturate_to_bits}
use Rattle.script.specs.declared.answer.Answer.{Answer}
use Rattle.script.specs.declared.answer.Answer.TheVariants.{Figures, Range, Row}
use Rattle.wording.specs.declared.moved.Moved.{Moved}
use Rattle.wording.specs.declared.moved.Moved.TheVariants.{Neither, Low, High, Both}
use Rattle.wording.specs.declared.rows.Rows.{Rows}
use Rattle.wording.specs.Moves.{moved}

abbrev pub no_rows : Rows
no_rows = record { looked_at = pos 0; moved = pos 0 }

-- one more, up to the greatest 64-bit number
abbrev pub one_more : ℤ → ℤ
one_more n = saturate_to_bits 63 (n +ℤ pos 1)

abbrev pub moves : Moved → ℤ → ℤ
moves Neither n = n
moves Low n = one_more n
moves High n = one_more n
moves Both n = one_more n

abbrev pub RowCounted : Rows → Moved → Rows → Type 0
RowCounted t m u = u ≡ record { looked_at = one_more t.looked_at; moved = moves m t.moved }

abbrev pub Counted : Rows → Answer → Rows → Type 0
Counted t (Figures a b) u = u ≡ t
Counted t (Range s) u = u ≡ t
Counted t (Row f) u = RowCounted t (moved f) u
