use Rattle.std.proofs.Common.{sym, subst, w64, SFits, rules}
use Rattle.std.proofs.lemmas.Int.{to_z-of_z}
use Rattle.span.specs.declared.fault.Fault.TheVariants.{TooLarge}
use Rattle.span.specs.declared.fault.Operation.TheVariants.{Sum, Difference, Product}
use Rattle.span.specs.Intervals.{◌+ᵢ◌, ◌-ᵢ◌, ◌*ᵢ◌}
use Rattle.script.specs.Answers.{Answered}
use Rattle.script.proofs.Standing.{joined, one_pair}
use Rattle.script.proofs.Wrapped.{range_is, row_is}
use Rattle.script.proofs.call.Call.answer.Goals as goal

pub returns-in-Span : goal.returns-in-Span
returns-in-Span g c =
    subst (λ x. Answered g.T.Scale.unit x c.map.result) (sym c.in-Span.is)
    (c.new.result, range_is c.new.result c.map.result c.map.ensures.cases, one_pair _ _ c.new.result (search rules) (search rules) c.new.ensures)

pub returns-in-SpanAdd : goal.returns-in-SpanAdd
returns-in-SpanAdd g c =
    let fa : SFits w64 c.in-SpanAdd.a = search rules in
    let fb : SFits w64 c.in-SpanAdd.b = search rules in
    let fc : SFits w64 c.in-SpanAdd.c = search rules in
    let fd : SFits w64 c.in-SpanAdd.d = search rules in
    subst (λ x. Answered g.T.Scale.unit x c.map-in-SpanAdd.result) (sym c.in-SpanAdd.is)
    (c.both.result, range_is c.both.result c.map-in-SpanAdd.result c.map-in-SpanAdd.ensures.cases, joined _ _ _ _ ◌+ᵢ◌ (TooLarge Sum) c.both.result (λ x y p. search rules) (simp to_z-of_z at c.both.ensures))

pub returns-in-SpanSub : goal.returns-in-SpanSub
returns-in-SpanSub g c =
    let fa : SFits w64 c.in-SpanSub.a = search rules in
    let fb : SFits w64 c.in-SpanSub.b = search rules in
    let fc : SFits w64 c.in-SpanSub.c = search rules in
    let fd : SFits w64 c.in-SpanSub.d = search rules in
    subst (λ x. Answered g.T.Scale.unit x c.map-in-SpanSub.result) (sym c.in-SpanSub.is)
    (c.both-in-SpanSub.result, range_is c.both-in-SpanSub.result c.map-in-SpanSub.result c.map-in-SpanSub.ensures.cases, joined _ _ _ _ ◌-ᵢ◌ (TooLarge Difference) c.both-in-SpanSub.result (λ x y p. search rules) (simp to_z-of_z at c.both-in-SpanSub.ensures))

pub returns-in-SpanMul : goal.returns-in-SpanMul
returns-in-SpanMul g c =
    let fa : SFits w64 c.in-SpanMul.a = search rules in
    let fb : SFits w64 c.in-SpanMul.b = search rules in
    let fc : SFits w64 c.in-SpanMul.c = search rules in
    let fd : SFits w64 c.in-SpanMul.d = search rules in
    subst (λ x. Answered g.T.Scale.unit x c.map-in-SpanMul.result) (sym c.in-SpanMul.is)
    (c.both-in-SpanMul.result, range_is c.both-in-SpanMul.result c.map-in-SpanMul.result c.map-in-SpanMul.ensures.cases, joined _ _ _ _ ◌*ᵢ◌ (TooLarge Product) c.both-in-SpanMul.result (λ x y p. search rules) (simp to_z-of_z at c.both-in-SpanMul.ensures))

pub returns-in-Audit : goal.returns-in-Audit
returns-in-Audit g c =
    let guess : SFits w64 c.in-Audit.guess = search rules in
    let low : SFits w64 c.in-Audit.low = search rules in
    let high : SFits w64 c.in-Audit.high = search rules in
    subst (λ x. Answered g.T.Scale.unit x c.map-in-Audit.result) (sym c.in-Audit.is)
    (c.audited.result, row_is c.audited.result c.map-in-Audit.result c.map-in-Audit.ensures.cases, simp to_z-of_z at c.audited.ensures)
