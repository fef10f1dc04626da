-- what the sums of a proposal for a system come to fits signed 64 bits
use Rattle.std.proofs.Common.{ℕ, suc, ◌*◌, ◌≤◌, cond, eqb, pos, ◌-ℤ◌, ◌*ℤ◌, lit≤, w64, SFits}
use Rattle.span.specs.declared.scale.Scale.{Ghosts}
use Rattle.span.specs.Intervals.{point, ◌-ᵢ◌, ◌*ᵢ◌}
use Rattle.span.specs.Spans.{Fits}
use Rattle.method.specs.Method as method
use Rattle.method.specs.Sums.{int_sum, sumᵢ}
use Rattle.method.proofs.Bounds as bounds
use Rattle.prepare.specs.declared.proposal.Proposal.{Proposal}
use Rattle.prepare.specs.Numbers.{offered}
use Rattle.prepare.specs.Partial.{residual_sum, iteration_sum}
use Rattle.prepare.specs.Proposals.{game}
use Rattle.prepare.proofs.Known.{admitted, is_offered, some}

module _ {X : Type 0} {T : Ghosts X} (least : 2 ≤ T.unit) (most : T.unit ≤ 1048576) (p : Proposal X T) where
  pub leftover_payout : (v i : ℕ) → SFits w64 (pos T.unit *ℤ (game p.system.now).payout v i)
  leftover_payout v i = bounds.integer_fits_by 100 T.unit _ most (lit≤ tt) (bounds.leftover_payout T.unit (some T.unit least) (game p.system.now) (offered p) (admitted T.unit p.system.now p.scaled) (is_offered p) v i)

  pub leftover_sum : (v i m : ℕ) → m ≤ (game p.system.now).states → SFits w64 (int_sum m (λ j. (game p.system.now).matrix v i j *ℤ (offered p).guess j))
  leftover_sum v i m h = bounds.integer_fits_by 1200 T.unit _ most (lit≤ tt) (bounds.leftover_sum T.unit (some T.unit least) (game p.system.now) (offered p) (admitted T.unit p.system.now p.scaled) (is_offered p) v i m h)

  pub leftover_difference : (v i m : ℕ) → m ≤ (game p.system.now).states → SFits w64 (pos T.unit *ℤ (game p.system.now).payout v i -ℤ int_sum m (λ j. (game p.system.now).matrix v i j *ℤ (offered p).guess j))
  leftover_difference v i m h = bounds.integer_fits_by 1300 T.unit _ most (lit≤ tt) (bounds.leftover_difference T.unit (some T.unit least) (game p.system.now) (offered p) (admitted T.unit p.system.now p.scaled) (is_offered p) v i m h)

  pub correction_term : (v i j : ℕ) → Fits (point ((offered p).table i j) *ᵢ method.leftover T.unit (game p.system.now) (offered p) v j)
  correction_term v i j = bounds.interval_fits_by 65000 T.unit _ most (lit≤ tt) (bounds.correction_term T.unit (some T.unit least) (game p.system.now) (offered p) (admitted T.unit p.system.now p.scaled) (is_offered p) v i j)

  pub correction_sum : (v i m : ℕ) → m ≤ (game p.system.now).states → Fits (sumᵢ m (λ j. point ((offered p).table i j) *ᵢ method.leftover T.unit (game p.system.now) (offered p) v j))
  correction_sum v i m h = bounds.interval_fits_by 780000 T.unit _ most (lit≤ tt) (bounds.correction_sum T.unit (some T.unit least) (game p.system.now) (offered p) (admitted T.unit p.system.now p.scaled) (is_offered p) v i m h)

  pub residual_fixed : (i : ℕ) → Fits (point (pos T.unit) *ᵢ method.correction T.unit (game p.system.now) (offered p) 0 i)
  residual_fixed i = bounds.interval_fits_by 780000 T.unit _ most (lit≤ tt) (bounds.residual_fixed T.unit (some T.unit least) (game p.system.now) (offered p) (admitted T.unit p.system.now p.scaled) (is_offered p) i)

  pub residual_term : (v i : ℕ) → Fits ((game p.system.now).range (suc v) *ᵢ method.correction T.unit (game p.system.now) (offered p) (suc v) i)
  residual_term v i = bounds.interval_fits_by 780000 T.unit _ most (lit≤ tt) (bounds.residual_term T.unit (some T.unit least) (game p.system.now) (offered p) (admitted T.unit p.system.now p.scaled) (is_offered p) v i)

  pub residual_whole : (i m : ℕ) → m ≤ (game p.system.now).settings → Fits (residual_sum T.unit (game p.system.now) (offered p) i m)
  residual_whole i m h = bounds.interval_fits_by 7020000 T.unit _ most (lit≤ tt) (bounds.residual_whole T.unit (some T.unit least) (game p.system.now) (offered p) (admitted T.unit p.system.now p.scaled) (is_offered p) i m h)

  pub product_sum : (v i j m : ℕ) → m ≤ (game p.system.now).states → SFits w64 (int_sum m (λ l. (offered p).table i l *ℤ (game p.system.now).matrix v l j))
  product_sum v i j m h = bounds.integer_fits_by 600 T.unit _ most (lit≤ tt) (bounds.product_sum T.unit (some T.unit least) (game p.system.now) (offered p) (admitted T.unit p.system.now p.scaled) (is_offered p) v i j m h)

  pub iteration_fixed : (i j : ℕ) → Fits (point (pos T.unit) *ᵢ method.product T.unit (game p.system.now) (offered p) 0 i j)
  iteration_fixed i j = bounds.interval_fits_by 600 T.unit _ most (lit≤ tt) (bounds.iteration_fixed T.unit (some T.unit least) (game p.system.now) (offered p) (admitted T.unit p.system.now p.scaled) (is_offered p) i j)

  pub iteration_term : (v i j : ℕ) → Fits ((game p.system.now).range (suc v) *ᵢ method.product T.unit (game p.system.now) (offered p) (suc v) i j)
  iteration_term v i j = bounds.interval_fits_by 600 T.unit _ most (lit≤ tt) (bounds.iteration_term T.unit (some T.unit least) (game p.system.now) (offered p) (admitted T.unit p.system.now p.scaled) (is_offered p) v i j)

  pub iteration_difference : (i j : ℕ) → Fits (point (cond (eqb i j) (pos (T.unit * T.unit)) (pos 0)) -ᵢ point (pos T.unit) *ᵢ method.product T.unit (game p.system.now) (offered p) 0 i j)
  iteration_difference i j = bounds.interval_fits_by 601 T.unit _ most (lit≤ tt) (bounds.iteration_difference T.unit (some T.unit least) (game p.system.now) (offered p) (admitted T.unit p.system.now p.scaled) (is_offered p) i j)

  pub iteration_whole : (i j m : ℕ) → m ≤ (game p.system.now).settings → Fits (iteration_sum T.unit (game p.system.now) (offered p) i j m)
  iteration_whole i j m h = bounds.interval_fits_by 5401 T.unit _ most (lit≤ tt) (bounds.iteration_whole T.unit (some T.unit least) (game p.system.now) (offered p) (admitted T.unit p.system.now p.scaled) (is_offered p) i j m h)
