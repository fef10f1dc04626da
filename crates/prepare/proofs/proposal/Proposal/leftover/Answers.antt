use Rattle.std.proofs.Common.{◌≡◌, ℕ, ◌+◌, ◌-◌, ◌*◌, ◌≤◌, List, length, get_or, take, drop, ℤ, pos, ◌-ℤ◌, ◌*ℤ◌, nat_abs, ap, ◌∙◌, le_refl, arith, w32, w64, SFits, rules, to_z, of_z}
use Rattle.std.proofs.lemmas.Int.{ints, to_z-of_z}
use Rattle.std.proofs.lemmas.List.{length-take}
use Rattle.span.specs.declared.scale.Scale.{Ghosts}
use Rattle.span.specs.Intervals.{brought, point}
use Rattle.method.specs.Method as method
use Rattle.method.specs.Sums.{int_sum}
use Rattle.prepare.specs.declared.proposal.Proposal.{Proposal}
use Rattle.prepare.specs.Dots.{dotted}
use Rattle.prepare.specs.Numbers.{offered}
use Rattle.prepare.specs.Proposals.{game}
use Rattle.prepare.proofs.Bits.{fits_as, is_product, is_difference, read_narrow, scale_fits}
use Rattle.prepare.proofs.Dotting.{leftover_dotted, leftover_small}
use Rattle.prepare.proofs.Known.{admitted}
use Rattle.prepare.proofs.Limits.{leftover_payout, leftover_sum, leftover_difference}
use Rattle.prepare.proofs.proposal.Proposal.leftover.Goals as goal

-- u is the scale, q the payout and d the sum, each as the code has it
module _ {X : Type 0} {T : Ghosts X} (least : 2 ≤ T.unit) (most : T.unit ≤ 1048576) (p : Proposal X T) (v i : ℕ) (u q d : ℤ) (eu : u ≡ pos T.unit) (eq : q ≡ (game p.system.now).payout v i) (ed : d ≡ int_sum p.system.now.states (λ j. (game p.system.now).matrix v i j *ℤ (offered p).guess j)) where
  payout_fits : SFits w64 ((game p.system.now).payout v i)
  payout_fits = let h : nat_abs ((game p.system.now).payout v i) ≤ 100 * T.unit = (admitted T.unit p.system.now p.scaled).payout v i in omega (arith, ints)

  whole_is : to_z w64 (of_z w64 u) *ℤ to_z w64 (of_z w64 q) ≡ pos T.unit *ℤ (game p.system.now).payout v i
  whole_is = is_product u q (pos T.unit) ((game p.system.now).payout v i) eu eq (scale_fits T.unit most) payout_fits

  all_is : to_z w64 (of_z w64 (to_z w64 (of_z w64 u) *ℤ to_z w64 (of_z w64 q))) -ℤ to_z w64 (of_z w64 d) ≡ pos T.unit *ℤ (game p.system.now).payout v i -ℤ int_sum p.system.now.states (λ j. (game p.system.now).matrix v i j *ℤ (offered p).guess j)
  all_is = is_difference _ d (pos T.unit *ℤ (game p.system.now).payout v i) _ whole_is ed (leftover_payout least most p v i) (leftover_sum least most p v i p.system.now.states (le_refl p.system.now.states))

  all_fits : SFits w64 (to_z w64 (of_z w64 (to_z w64 (of_z w64 u) *ℤ to_z w64 (of_z w64 q))) -ℤ to_z w64 (of_z w64 d))
  all_fits = fits_as _ _ all_is (leftover_difference least most p v i p.system.now.states (le_refl p.system.now.states))

pub dot-requires-clause-fits : goal.dot-requires-clause-fits
dot-requires-clause-fits g c m h =
    let p = c.args.self.now in
    let few : m ≤ c.states.result = omega (arith, length-take c.states.result p.guesses) in
    leftover_small p c.matrix.result.now c.args.part c.args.row c.states.result m c.matrix.ensures.value few g.met.T.Scale.least g.met.T.Scale.most (omega (arith, c.states.ensures))

pub overflow_sub-units : goal.overflow_sub-units
overflow_sub-units g c =
    let p = c.args.self.now in
    let fits : SFits w32 (get_or c.payouts.result.now (c.args.part * 12 + c.args.row) (pos 0)) = search rules in
    let q = read_narrow _ _ fits c.from-payout.ensures ∙ ap (λ (xs : List ℤ). get_or xs (c.args.part * 12 + c.args.row) (pos 0)) c.payouts.ensures.value in
    let long : length (take c.states.result p.guesses) ≡ p.system.now.states = search rules in
    let d = c.dot.ensures ∙ ap (λ m. dotted (take c.states.result p.guesses) (take (length c.matrix.result.now - (c.args.part * 12 + c.args.row) * 12) (drop ((c.args.part * 12 + c.args.row) * 12) c.matrix.result.now)) 1 m) long ∙ leftover_dotted p c.matrix.result.now c.args.part c.args.row c.states.result p.system.now.states c.matrix.ensures.value (omega arith) in
    all_fits g.met.T.Scale.least g.met.T.Scale.most p c.args.part c.args.row _ _ _ c.units.ensures q d

pub returns : goal.returns
unfolding method.leftover
returns g c =
    let p = c.args.self.now in
    let fits : SFits w32 (get_or c.payouts.result.now (c.args.part * 12 + c.args.row) (pos 0)) = search rules in
    let q = read_narrow _ _ fits c.from-payout.ensures ∙ ap (λ (xs : List ℤ). get_or xs (c.args.part * 12 + c.args.row) (pos 0)) c.payouts.ensures.value in
    let long : length (take c.states.result p.guesses) ≡ p.system.now.states = search rules in
    let d = c.dot.ensures ∙ ap (λ m. dotted (take c.states.result p.guesses) (take (length c.matrix.result.now - (c.args.part * 12 + c.args.row) * 12) (drop ((c.args.part * 12 + c.args.row) * 12) c.matrix.result.now)) 1 m) long ∙ leftover_dotted p c.matrix.result.now c.args.part c.args.row c.states.result p.system.now.states c.matrix.ensures.value (omega arith) in
    let f = all_fits g.met.T.Scale.least g.met.T.Scale.most p c.args.part c.args.row _ _ _ c.units.ensures q d in
    let e = all_is g.met.T.Scale.least g.met.T.Scale.most p c.args.part c.args.row _ _ _ c.units.ensures q d in
    c.bring_back.ensures.value ∙ ap (brought g.T.Scale.unit) (c.point.ensures ∙ ap point (to_z-of_z w64 _ f ∙ e))
