use Rattle.std.proofs.Common.{refl, ◌∙◌, arith}
use Rattle.std.proofs.lemmas.List.{length-set}
use Rattle.law.specs.Decides.{row_decided}
use Rattle.law.specs.History.{holds}
use Rattle.sheet.proofs.Keeping.{kept_told, unwrapped}
use Rattle.sheet.proofs.framed.rechecking.kept.Goals as goal

pub loop-row-preserved : goal.loop-row-preserved
loop-row-preserved g c = (
  length-set c.loop-row.range-items c.loop-row.row _ ∙ c.loop-row.invariant.0,
  λ M h q. kept_told (row_decided g.T.Scale.unit h (holds g.T.Scale.unit h)) c.loop-row.range-items c.loop-row.row (c.loop-row.invariant.1 M h q) c.row.result _ (omega (arith, c.loop-row.invariant.0, c.loop-row-test.true)) (c.row.ensures M h q) (unwrapped _ c.row.result c.unwrap_or_default.result c.unwrap_or_default.ensures),
)

pub returns : goal.returns
returns g c M h q = record { states_is = refl; rows = λ i s l e. c.loop-row.invariant.1 M h q i s (omega (arith, l, c.loop-row-test.false, c.loop-row.invariant.0, c.requires)) e }
