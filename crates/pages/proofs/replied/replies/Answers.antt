use Rattle.std.proofs.Common.{◌++◌, vec_items, sym, ap, ◌∙◌, append-nil}
use Rattle.pages.specs.Replied.{reply_in}
use Rattle.pages.proofs.Replying.{all_replied, no_reply, one_replied}
use Rattle.pages.proofs.replied.replies.Goals as goal
use Rattle.pages.proofs.replied.replies.Goals.{in-Replied+in_ok-push, in_default}

pub loop-outcome-preserved : goal.loop-outcome-preserved
loop-outcome-preserved c =
    one_replied c.args.outcomes.now c.loop-outcome.outcome-index _ c.loop-outcome.invariant c.outcome-item.result c.loop-outcome-test.true c.outcome-item.is
    (elim c.match-outcome.branch [
      | in-Replied+in_ok-push w ↦
          ap vec_items w.replies-is ∙ w.in_ok-push.ensures.items ∙ ap (λ o. vec_items c.loop-outcome.replies ++ reply_in o) (sym w.in-Replied.is)
      | in_default w ↦
          ap vec_items w.replies-is ∙ sym (append-nil (vec_items c.loop-outcome.replies)) ∙ ap (λ l. vec_items c.loop-outcome.replies ++ l) (sym (no_reply c.outcome-item.result w.in_default.not-Replied))
    ])

pub returns : goal.returns
returns c = all_replied c.args.outcomes.now c.loop-outcome.outcome-index _ c.loop-outcome.invariant c.loop-outcome-test.false
