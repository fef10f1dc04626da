-- how rows, games and refusals are counted
use Rattle.std.specs.Prelude.{◌≡◌, Bool, true, false, not, ◌&&◌, ◌||◌, ℤ, pos, ◌+ℤ◌, Ok, Err, Result}
use Rattle.std.specs.Int.{saturate_to_bits}
use Rattle.span.specs.declared.fault.Fault.{Fault}
use Rattle.script.specs.declared.answer.Answer.{Answer}
use Rattle.wording.specs.declared.rows.Rows.{Rows}
use Rattle.wording.specs.Rows as rows
use Rattle.asking.specs.declared.asked.Asked.{Asked}
use Rattle.asking.specs.declared.asked.Asked.TheVariants as asked
use Rattle.asking.specs.declared.asked.Asked.TheVariants.{Open, Post, Propose, Try, Run, Narrow, Table}
use Rattle.law.specs.declared.ask.Reply.{Reply}
use Rattle.law.specs.declared.ask.Reply.TheVariants.{Made, Told}
use Rattle.pages.specs.declared.tally.Game.{Game}
use Rattle.pages.specs.declared.tally.Tally.{Tally}

abbrev pub none_yet : Tally
none_yet = record { clean = true; rows = rows.no_rows; games = pos 0; tables = pos 0; refused = pos 0 }

-- one more, up to the greatest 64-bit number
abbrev pub one_more : ℤ → ℤ
one_more n = saturate_to_bits 63 (n +ℤ pos 1)

abbrev pub Counted : Tally → Result Answer Fault → Tally → Type 0
Counted t (Ok a) u = (counts : Rows) × rows.Counted t.rows a counts × (u ≡ record { clean = t.clean; rows = counts; games = t.games; tables = t.tables; refused = t.refused })
Counted t (Err e) u = u ≡ record { clean = false; rows = t.rows; games = t.games; tables = t.tables; refused = t.refused }

-- one input
abbrev pub nothing_asked : Game
nothing_asked = record { asked = false; table = false; clean = true }

abbrev pub is_refused : Reply → Bool
is_refused (Made (Ok a)) = false
is_refused (Made (Err f)) = true
is_refused (Told (Ok s)) = false
is_refused (Told (Err f)) = true

abbrev pub is_table : Asked → Bool
is_table (Open n k) = false
is_table (Post p a) = false
is_table (asked.Range v low high) = false
is_table (Propose r g) = false
is_table (Try ys) = false
is_table (Run t) = false
is_table Narrow = false
is_table (asked.Row i) = false
is_table Table = true

abbrev pub game_after : Game → Bool → Bool → Game
game_after g of-table true = record { asked = true; table = g.table; clean = false }
game_after g of-table false = record { asked = true; table = of-table || g.table; clean = g.clean }

-- one more, where there is another
abbrev pub if_more : Bool → ℤ → ℤ
if_more true n = one_more n
if_more false n = n

-- a game counts as turned down where one of its lines was turned down or bad, and then not as one with a table
abbrev pub closed : Tally → Game → Tally
closed t g = record {
  clean = t.clean && g.clean;
  rows = t.rows;
  games = if_more g.asked t.games;
  tables = if_more (g.table && g.clean) t.tables;
  refused = if_more (g.asked && not g.clean) t.refused;
}
