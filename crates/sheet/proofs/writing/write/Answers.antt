use Rattle.std.proofs.Common.{◌≡◌, ℕ, ◌+◌, ◌*◌, List, Ok, ◌∙◌, arith}
use Rattle.source.specs.Meaning.{Meaning}
use Rattle.law.specs.Calls.{Given}
use Rattle.docket.specs.Reflects.{Reflects}
use Rattle.sheet.specs.Layout.{at_trailer}
use Rattle.sheet.specs.Writing.{Writing}
use Rattle.sheet.proofs.Marks.{same_number, same_unsigned}
use Rattle.sheet.proofs.Reread.{written_rechecks}
use Rattle.sheet.proofs.Sheeted.{held_at, wrote_held}
use Rattle.sheet.proofs.writing.write.Goals as goal

pub returns : goal.returns
returns g c =
    let d = c.args.docket.now.desk in
    let n = c.new-layout.result.states in
    let k = c.new-layout.result.settings in
    let first = c.put_numbers.ensures in
    let second = c.put_distances.ensures in
    let third = c.put_head.ensures in
    let long = third.long ∙ second.long ∙ first.long in
    let en : n ≡ d.figures.states = omega (arith, c.new-layout.ensures, c.states.ensures, d.figures.size.1) in
    let ek : k ≡ d.figures.settings = omega (arith, c.new-layout.ensures, c.settings.ensures, d.figures.size.2) in
    let trailer : ℕ = at_trailer n k in
    let written : (M : Meaning) (h : List Given) → Reflects g.T.Scale.unit M h (g.C.Source.meaning c.args.docket.now.source) (g.C.Source.sound c.args.docket.now.source) d → Writing g.T.Scale.unit h c.args.buffer.now c.put_head.new.buffer (Ok c.length-2.result) =
    λ M h q.
    let s = held_at _ h d.stage c.in-Some.held q.stage_is c.in-Some.ensures in
    wrote_held _ h s.0 c.in-Some.held s.1 _ _ n k c.length-2.result (en ∙ q.states_is) (ek ∙ q.settings_is) (
      omega (arith, c.if-buffer-length.false, c.length.ensures.is),
      c.length-2.ensures.is,
      record {
        long = long;
        numbers = λ t l.
            same_number _ c.put_distances.new.buffer (4 * t) (λ i p r. third.before i (omega arith))
            ∙ same_number _ c.put_numbers.new.buffer (4 * t) (λ i p r. second.before i (omega arith))
            ∙ first.numbers t l M h s.0 q s.1;
        distances = λ j l. same_unsigned _ c.put_distances.new.buffer (4 * trailer + 4 * j) (λ i p r. third.before i (omega arith)) ∙ second.distances j l;
        scale = third.scale;
        states = third.states;
        settings = third.settings;
        narrowings = third.narrowings ∙ c.narrowings.ensures;
        zero = third.zero;
        later = λ i l. third.after i l ∙ second.after i (omega arith) ∙ first.after i (omega arith);
      },
    ) in
    record {
      unchanged = tt;
      long = long;
      written = written;
      again = λ M h q. written_rechecks _ M h _ _ d _ _ c.length-2.result q (written M h q);
    }
