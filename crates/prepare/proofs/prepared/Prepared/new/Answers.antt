use Rattle.std.proofs.Common.{◌≡◌, ℕ, Some, sym, refl, ap, ◌∙◌, arith}
use Rattle.std.proofs.lemmas.Result.{err_from_is_err_and}
use Rattle.std.proofs.lemmas.Bool.{eqb-true}
use Rattle.span.proofs.Verdicts.{no_here}
use Rattle.prepare.specs.declared.fault.Fault.TheVariants.{OtherScale}
use Rattle.prepare.proofs.Joining.{numbers_no, residual_no, iteration_no, all_asked, prepared, tabled, kept_scale, kept_guesses, kept_residual, kept_iteration}
use Rattle.prepare.proofs.prepared.Prepared.new.Goals as goal

pub returns-then-not-same_scale-clause-proposed : goal.returns-then-not-same_scale-clause-proposed
returns-then-not-same_scale-clause-proposed g c = no_here _ _ _ (sym c.if-not-same_scale.ensures) ∙ ap (λ u. Some (OtherScale u)) (sym c.units.ensures)

pub returns-in_err-proposal-clause-proposed : goal.returns-in_err-proposal-clause-proposed
returns-in_err-proposal-clause-proposed g c =
    let e = eqb-true _ _ (sym c.if-not-same_scale.ensures) in
    let p = err_from_is_err_and c.from_residual.result c.from_residual.ensures.1 in
    rw (p.1, p.2) (numbers_no g.T.Scale.unit c.args.system.now c.args.table.now c.args.guesses.now e _ c.in_err-proposal.ensures)

pub returns-in_err-residual-clause-proposed : goal.returns-in_err-residual-clause-proposed
returns-in_err-residual-clause-proposed g c =
    let e = eqb-true _ _ (sym c.if-not-same_scale.ensures) in
    let k = c.in_ok-proposal.ensures in
    let p = err_from_is_err_and c.from_residual-in_err-residual.result c.from_residual-in_err-residual.ensures.1 in
    rw (p.1, p.2) (residual_no g.T.Scale.unit c.args.system.now c.args.table.now c.args.guesses.now e _ k.0 k.1 _ c.in_err-residual.ensures)

pub returns-in_err-iteration-clause-proposed : goal.returns-in_err-iteration-clause-proposed
returns-in_err-iteration-clause-proposed g c =
    let e = eqb-true _ _ (sym c.if-not-same_scale.ensures) in
    let k = c.in_ok-proposal.ensures in
    let p = err_from_is_err_and c.from_residual-in_err-iteration.result c.from_residual-in_err-iteration.ensures.1 in
    rw (p.1, p.2) (iteration_no g.T.Scale.unit c.args.system.now c.args.table.now c.args.guesses.now e _ k.0 k.1 _ c.in_ok-residual.ensures _ c.in_err-iteration.ensures)

pub invariant_of-result : goal.invariant_of-result
invariant_of-result g c =
    let s = c.args.system.now in
    let e = eqb-true _ _ (sym c.if-not-same_scale.ensures) in
    let k = c.in_ok-proposal.ensures in
    let z = c.in_ok-residual.ensures in
    let y = c.in_ok-iteration.ensures in
    let n : c.states.result ≡ s.states = c.states.ensures in
    let r = c.args.table.now in
    let h = c.args.guesses.now in
    let S : ℕ = g.T.Scale.unit in
    record {
      scale = kept_scale S s r h e _ k.0 k.1 _ z _ y _ c.units-2.ensures;
      size = (omega (arith, s.size.0), omega (arith, s.size.1));
      guessed = kept_guesses S s r h e _ k.0 k.1 _ z _ y _ c.units-2.ensures;
      near = kept_residual S s r h e _ k.0 k.1 _ z _ y _ c.units-2.ensures;
      contracting = kept_iteration S s r h e _ k.0 k.1 _ z _ y _ c.units-2.ensures;
    }

pub returns-clause-proposed : goal.returns-clause-proposed
returns-clause-proposed g c =
    let s = c.args.system.now in
    let e = eqb-true _ _ (sym c.if-not-same_scale.ensures) in
    let k = c.in_ok-proposal.ensures in
    let z = c.in_ok-residual.ensures in
    let y = c.in_ok-iteration.ensures in
    let r = c.args.table.now in
    let h = c.args.guesses.now in
    let S : ℕ = g.T.Scale.unit in
    (all_asked S s r h e _ k.0 k.1 _ z _ y, prepared S s r h e _ k.0 k.1 _ z _ y _ (c.units-2.ensures ∙ sym e) c.states.ensures refl refl refl)

pub returns-clause-table : goal.returns-clause-table
returns-clause-table g c =
    let e = eqb-true _ _ (sym c.if-not-same_scale.ensures) in
    let k = c.in_ok-proposal.ensures in
    tabled g.T.Scale.unit c.args.system.now c.args.table.now c.args.guesses.now e _ k.0 k.1 _ c.in_ok-residual.ensures _ c.in_ok-iteration.ensures _ refl
