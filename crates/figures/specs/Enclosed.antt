-- the worked figures of the method, of the written rules, in millionths
use Rattle.std.specs.Prelude.{◌≡◌, ℕ, cond, ℤ, pos, negsuc, Some, Err, ◌==◌}
use Rattle.span.specs.Intervals.{Interval, point}
use Rattle.span.specs.Questions.{first_no}
use Rattle.method.specs.Method.{Game, Proposal, residual, iteration, step, narrowed, held, first_box}
use Rattle.prepare.specs.declared.fault.Fault.TheVariants.{ResidualTooLarge}
use Rattle.prepare.specs.Proposals.{residual_questions}
use Rattle.enclosure.specs.declared.fault.End.TheVariants.{Low, High}
use Rattle.enclosure.specs.declared.fault.Fault.TheVariants.{NotAccepted, BoxTooLarge}
use Rattle.enclosure.specs.Enclosures.{trials}
use Rattle.figures.specs.Worked.{from_to}

-- one state and no setting: its coefficient and its payout
abbrev pub single : ℤ → ℤ → Game
single a b = record { states = 1; settings = 0; matrix = λ v i j. a; payout = λ v i. b; range = λ v. point (pos 0) }

-- one state and a setting from 480,000 to 520,000: A(0) 1,000,000, A(1) -1,000,000, b(0) 500,000
abbrev pub swinging : Game
swinging = record {
  states = 1;
  settings = 1;
  matrix = λ v i j. cond (v == 0) (pos 1000000) (negsuc 999999);
  payout = λ v i. cond (v == 0) (pos 500000) (pos 0);
  range = λ v. from_to (pos 480000) (pos 520000);
}

abbrev pub offering : ℤ → ℤ → Proposal
offering r g = record { table = λ i j. r; guess = λ i. g }

-- the held range of row 0 after m narrowings of a run's first box
abbrev pub first_held : Game → Proposal → ℕ → Interval
first_held G H m = held 1000000 G H (narrowed 1000000 G H (first_box 1000000 G H) m) 0

pub record Enclosed : Type 0 where
  -- a third: 300,000 x = 100,000
  pub third_residual : residual 1000000 (single (pos 300000) (pos 100000)) (offering (pos 3333333) (pos 333333)) 0 ≡ from_to (pos 0) (pos 4)
  pub third_iteration : iteration 1000000 (single (pos 300000) (pos 100000)) (offering (pos 3333333) (pos 333333)) 0 0 ≡ from_to (pos 0) (pos 1)
  pub third_step : step 1000000 (single (pos 300000) (pos 100000)) (offering (pos 3333333) (pos 333333)) (first_box 1000000 (single (pos 300000) (pos 100000)) (offering (pos 3333333) (pos 333333))) 0 ≡ from_to (negsuc 0) (pos 5)
  pub third : first_held (single (pos 300000) (pos 100000)) (offering (pos 3333333) (pos 333333)) 0 ≡ from_to (pos 333332) (pos 333338)
  -- and its mirror
  pub minus_a_third : first_held (single (pos 300000) (negsuc 99999)) (offering (pos 3333333) (negsuc 333332)) 0 ≡ from_to (negsuc 333337) (negsuc 333331)
  -- a setting that swings
  pub swing_residual : residual 1000000 swinging (offering (pos 2000000) (pos 1000000)) 0 ≡ from_to (negsuc 39999) (pos 40000)
  pub swing_iteration : iteration 1000000 swinging (offering (pos 2000000) (pos 1000000)) 0 0 ≡ from_to (negsuc 39999) (pos 40000)
  pub swing : first_held swinging (offering (pos 2000000) (pos 1000000)) 0 ≡ from_to (pos 956799) (pos 1043201)
  pub swing_narrowed : first_held swinging (offering (pos 2000000) (pos 1000000)) 1 ≡ from_to (pos 958271) (pos 1041729)
  -- nothing posted: any worth solves 0 × x = 0, and a step that touches its box is not accepted
  pub nothing : trials 1000000 (single (pos 0) (pos 0)) (offering (pos 1000000) (pos 0)) 0 0 ≡ Err (NotAccepted 0 Low)
  -- a payout of 49 wholes: 12 at the high end in a run of 1, 11 in a run of 2
  pub large_once : trials 1000000 (single (pos 0) (pos 49000000)) (offering (pos 1000000) (pos 0)) 0 0 ≡ Err (NotAccepted 0 High)
  pub large_twice : trials 1000000 (single (pos 0) (pos 49000000)) (offering (pos 1000000) (pos 0)) 1 0 ≡ Err (BoxTooLarge 0)
  -- a payout of 50 wholes: 8
  pub too_large : first_no (residual_questions 1000000 (single (pos 0) (pos 50000000)) (offering (pos 1000000) (pos 0))) ≡ Some (ResidualTooLarge 0)
