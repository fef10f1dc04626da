use Rattle.std.proofs.Common.{◌≡◌, ℕ, ◌+◌, ◌/◌, ◌%◌, ◌<◌, true, List}
use Rattle.source.specs.Meaning.{Meaning}
use Rattle.law.specs.Calls.{Given}
use Rattle.law.specs.Decides.{row_decided}
use Rattle.law.specs.History.{holds}
use Rattle.docket.specs.Reflects.{Reflects}
use Rattle.sheet.specs.Framing.{sheet_in}
use Rattle.sheet.specs.Layout.{at_claims}
use Rattle.sheet.specs.Rechecks.{is_claimed}
use Rattle.sheet.proofs.framed.Framed.claimed.Given as goal

abbrev pub invariant-loop-u : goal.invariant-loop-u
invariant-loop-u g l =
    (M : Meaning) (h : List Given) → Reflects g.T.Scale.unit M h (g.C.Source.meaning l.docket.source) (g.C.Source.sound l.docket.source) l.docket.desk →
    (u : ℕ) → u < l.u → is_claimed (row_decided g.T.Scale.unit h (holds g.T.Scale.unit h) (u / 2)) (u % 2) ((sheet_in l.self).number (at_claims l.self.states l.self.settings + u)) ≡ true
