use Rattle.std.proofs.Common.{List, Ok}
use Rattle.source.specs.Meaning.{Meaning}
use Rattle.law.specs.Calls.{Given}
use Rattle.docket.specs.Reflects.{Reflects}
use Rattle.sheet.specs.Framing.{sheet_in}
use Rattle.sheet.specs.Rechecks.{gathered, narrow_at}
use Rattle.sheet.specs.Remakes.{Remade}
use Rattle.sheet.proofs.framed.Framed.narrow_all.Given as goal

abbrev pub invariant-loop-m : goal.invariant-loop-m
invariant-loop-m g l =
    (M : Meaning) (h : List Given) → Reflects g.T.Scale.unit M h (g.C.Source.meaning l.initial.docket.source) (g.C.Source.sound l.initial.docket.source) l.initial.docket.desk →
    Remade g.T.Scale.unit M h (gathered l.m (narrow_at (sheet_in l.self))) (Ok tt) (g.C.Source.meaning l.docket.source) (g.C.Source.sound l.docket.source) l.docket.desk
