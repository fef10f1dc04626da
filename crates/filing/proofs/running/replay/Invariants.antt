use Rattle.std.proofs.Common.{◌≡◌, [], length, take, vec_items}
use Rattle.source.specs.Meaning.{Meaning}
use Rattle.docket.specs.Reflects.{Reflects}
use Rattle.filing.specs.Law.{turns}
use Rattle.filing.proofs.Turning.{SoFar}
use Rattle.filing.proofs.running.replay.Given as goal

abbrev pub invariant-loop-step : goal.invariant-loop-step
invariant-loop-step g l =
    (length (vec_items l.outcomes) ≡ l.step-index)
    × ((M : Meaning) → Reflects g.T.Scale.unit M [] (g.C.Source.meaning l.initial.docket.source) (g.C.Source.sound l.initial.docket.source) l.initial.docket.desk →
    SoFar g.T.Scale.unit M (turns g.T.Scale.unit g.F.Scale.unit (take l.step-index l.steps) (vec_items l.outcomes) []) (g.C.Source.meaning l.docket.source) (g.C.Source.sound l.docket.source) l.docket.desk)
