use Rattle.std.proofs.Common.{[], length, IfOk, vec_items, ap, ◌∙◌, subst}
use Rattle.filing.specs.Law.{Lawful, turns}
use Rattle.source.specs.Lists.{list_opened}
use Rattle.pages.proofs.game.on_list.Goals as goal

pub returns : goal.returns
returns g c =
    let matrix = ap length c.as_mut_slice.ensures.value ∙ c.in_ok-matrix.ensures in
    let payouts = ap length c.as_mut_slice-2.ensures.value ∙ c.in_ok-payouts.ensures in
    subst (λ M. IfOk c.replay.result (λ v. Lawful g.T.Scale.unit M (turns g.T.Scale.unit g.F.Scale.unit c.args.steps.now (vec_items v) []))) (c.new-list.ensures.0 ∙ (λ i. list_opened (matrix i) (payouts i))) c.replay.ensures
