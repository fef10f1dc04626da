use Rattle.std.proofs.Common.{◌≡◌, ℕ, ◌<◌, List, length, Ok}
use Rattle.span.specs.Intervals.{Interval}
use Rattle.system.specs.Figures.{spans}
use Rattle.source.specs.Meaning.{Meaning}
use Rattle.law.specs.Calls.{Given}
use Rattle.law.specs.Decides.{row_decided}
use Rattle.law.specs.History.{holds}
use Rattle.docket.specs.Reflects.{Reflects}
use Rattle.sheet.proofs.framed.rechecking.kept.Given as goal

abbrev pub invariant-loop-row : goal.invariant-loop-row
invariant-loop-row g l =
    (length l.range-items ≡ 12)
    × ((M : Meaning) (h : List Given) → Reflects g.T.Scale.unit M h (g.C.Source.meaning l.docket.source) (g.C.Source.sound l.docket.source) l.docket.desk →
    (i : ℕ) (s : Interval) → i < l.row → row_decided g.T.Scale.unit h (holds g.T.Scale.unit h) i ≡ Ok s → spans l.range-items i ≡ s)
