use Rattle.std.proofs.Common.{◌*◌, ◌∙◌, arith, w32, SFits, rules, below_more}
use Rattle.std.proofs.lemmas.Int.{to_z-of_z}
use Rattle.sheet.proofs.Marks.{same_number}
use Rattle.sheet.proofs.writing.put_numbers.Goals as goal

pub loop-t-preserved : goal.loop-t-preserved
loop-t-preserved g c =
    let f : SFits w32 c.number_of.result = search rules in (
      below_more _ _
          (λ i l M h b q s. same_number _ c.loop-t.buffer (4 * i) (λ j k m. c.put_number.ensures.before j (omega arith)) ∙ c.loop-t.invariant.0 i l M h b q s)
          (λ M h b q s. c.put_number.ensures.here ∙ to_z-of_z w32 c.number_of.result f ∙ c.number_of.ensures M h b q s),
      λ i l. c.put_number.ensures.after i (omega arith) ∙ c.loop-t.invariant.1 i (omega arith),
    )

pub returns : goal.returns
returns g c = record {
  long = c.loop-t.auto.buffer;
  numbers = λ t l. c.loop-t.invariant.0 t (omega (arith, c.loop-t-test.false, c.trailer-t-end.ensures.is));
  after = λ i l. c.loop-t.invariant.1 i (omega (arith, c.loop-t.auto.t-end, c.trailer-t-end.ensures.is));
}
