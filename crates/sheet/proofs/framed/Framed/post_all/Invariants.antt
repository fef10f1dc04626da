use Rattle.std.proofs.Common.{List, Ok}
use Rattle.source.specs.Meaning.{Meaning}
use Rattle.law.specs.Calls.{Given}
use Rattle.docket.specs.Reflects.{Reflects}
use Rattle.sheet.specs.Framing.{sheet_in}
use Rattle.sheet.specs.Rechecks.{gathered, post_of}
use Rattle.sheet.specs.Remakes.{Remade}
use Rattle.sheet.proofs.framed.Framed.post_all.Given as goal

abbrev pub invariant-loop-t : goal.invariant-loop-t
invariant-loop-t g l =
    (M : Meaning) (h : List Given) → Reflects g.T.Scale.unit M h (g.C.Source.meaning l.initial.docket.source) (g.C.Source.sound l.initial.docket.source) l.initial.docket.desk →
    Remade g.T.Scale.unit M h (gathered l.t (post_of (sheet_in l.self))) (Ok tt) (g.C.Source.meaning l.docket.source) (g.C.Source.sound l.docket.source) l.docket.desk
