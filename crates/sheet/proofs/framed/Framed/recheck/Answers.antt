use Rattle.std.proofs.Common.{◌≡◌, ◌-◌, List, Ok, ap, ◌∙◌}
use Rattle.source.specs.Meaning.{Meaning}
use Rattle.law.specs.Calls.{Given}
use Rattle.docket.specs.Reflects.{Reflects}
use Rattle.sheet.specs.Framing.{sheet_in}
use Rattle.sheet.specs.Layout.{sheet_length}
use Rattle.sheet.specs.Outcomes.{Rechecking}
use Rattle.sheet.proofs.Proving.{as_sized, not_opened, proved, unproved, with_byte}
use Rattle.sheet.proofs.Rewritten.{left_again}
use Rattle.sheet.proofs.framed.Framed.recheck.Goals as goal

pub returns-in-Ok-proven : goal.returns-in-Ok-proven
returns-in-Ok-proven g c =
    let w = sheet_in c.args.self in
    let rechecked : (M : Meaning) (h : List Given) → Reflects g.T.Scale.unit M h (g.C.Source.meaning c.args.docket.now.source) (g.C.Source.sound c.args.docket.now.source) c.args.docket.now.desk → Rechecking g.T.Scale.unit M h w (Ok c.in-Ok-proven.rechecked) (g.C.Source.meaning c.proven.new.docket.source) (g.C.Source.sound c.proven.new.docket.source) c.proven.new.docket.desk =
    λ M h q.
    let o = as_sized _ M h _ _ w.states w.settings _ _ _ _ c.from-n.ensures c.from-k.ensures (c.in-Ok.ensures.replied M h q) in
    proved _ M h w c.in-Ok.field-0 o.said _ _ _ _ (c.in-Ok-proven.ensures M _ o.left) in
    record {
      rechecked = rechecked;
      again = λ M h u bs q framed. left_again _ M h u bs c.args.self _ _ _ _ framed (rechecked M h q);
    }

pub returns-in-Err-proven : goal.returns-in-Err-proven
returns-in-Err-proven g c = record {
  rechecked = λ M h q.
      let w = sheet_in c.args.self in
      let o = as_sized _ M h _ _ w.states w.settings _ _ _ _ c.from-n.ensures c.from-k.ensures (c.in-Ok.ensures.replied M h q) in
      let x = c.in-Err-proven.ensures M _ o.left in
      unproved _ M h w c.in-Ok.field-0 o.said _ _ _ _ _ _ _ _ x (as_sized _ M x.0 _ _ w.states w.settings _ _ _ _ c.from-n.ensures c.from-k.ensures (c.open-in-Err-proven.ensures.replied M x.0 x.2));
  again = λ M h u bs q framed. tt;
}

pub returns-in-Err : goal.returns-in-Err
returns-in-Err g c = record {
  rechecked = λ M h q.
      let w = sheet_in c.args.self in
      let o = as_sized _ M h _ _ w.states w.settings _ _ _ _ c.from-n.ensures c.from-k.ensures (c.in-Err.ensures.replied M h q) in
      let l = c.layout.ensures in
      let n : c.length.result ≡ sheet_length w.states w.settings = c.length.ensures.is ∙ ap (λ z. sheet_length z c.layout.result.settings) l.0 ∙ ap (sheet_length w.states) l.1 in
      with_byte _ M h w _ _ _ _ _ _ (ap (λ z. z - 4) n) (not_opened _ M h w c.in-Err.fault _ _ _ o);
  again = λ M h u bs q framed. tt;
}
