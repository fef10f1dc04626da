-- the theorem: at every choice at most one solution, and any lies in the ranges of an accepted box, however often narrowed
use Rattle.std.proofs.Common.{◌≡◌, ℕ, zero, suc, ◌*◌, ◌<◌, ℤ, pos, ◌+ℤ◌, ◌*ℤ◌, sym, refl, subst, mul_comm, mul-pos, arith}
use lib.IntN.{*ℤ_comm}
use Rattle.span.specs.Intervals.{Interval, In}
use Rattle.span.proofs.Integers.{lin, *ℤ_add_right}
use Rattle.method.specs.Sums.{int_sum}
use Rattle.method.specs.Fractions.{Frac, units, ◌+ᶠ◌, ◌*ᶠ◌, sumᶠ, ◌≈◌}
use Rattle.method.specs.Method.{Game, Proposal, step, Accepted, narrowed, held}
use Rattle.method.specs.Sound.{Choice, at_choice, Solution, Within, Soundness}
use Rattle.method.proofs.SumLaws.{sum_front}
use Rattle.method.proofs.Insides.{in_again, in_point, in_cancel}
use Rattle.method.proofs.Steps.{Step, Fixed, unique, enclosed}
use Rattle.method.proofs.Linear.{Weights, exact_residual, exact_iteration, step_in}
use Rattle.method.proofs.Choices.{accepted_step, coefficient, reward, Solves, shift, shift_fixed}
use Rattle.method.proofs.Denominators.{Over, cancelled, over_more, over_add, over_mul, over_sum, over_units, over_same, same_over, over_least, least_over, common, common_some, numerator, over_common}

-- the weights of the parts at the choice p, whose settings are over q
abbrev weight : ℕ → ℕ → (ℕ → Frac) → ℕ → ℤ
weight S q p zero = pos S *ℤ pos q
weight S q p (suc v) = pos S *ℤ numerator q (p (suc v))

module _ (S : ℕ) (some : 0 < S) (G : Game) (p : ℕ → Frac) where
  abbrev bottom : ℕ
  bottom = common G.settings (λ v. p (suc v))

  setting_over : (v : ℕ) → v < G.settings → Over bottom (p (suc v)) (numerator bottom (p (suc v)))
  setting_over v h = over_common G.settings (λ v. p (suc v)) v h

  weights : Choice S some G p → Weights S G bottom (weight S bottom p)
  weights c = record {
    fixed = in_again refl (*ℤ_comm (pos bottom) (pos S)) (in_point bottom (pos S));
    setting = λ v h. record {
      above = over_least (over_units S some (G.range (suc v)).low) (setting_over v h) (c.from v h);
      below = over_least (setting_over v h) (over_units S some (G.range (suc v)).high) (c.to v h);
    };
  }

  -- a figure at the choice, over S × q × S
  figure_over : (a : ℕ → ℤ) → Over (S * bottom * S) (at_choice S some G p a) (int_sum (suc G.settings) (λ v. weight S bottom p v *ℤ a v))
  unfolding at_choice
  figure_over a =
      subst (Over (S * bottom * S) (units S some (a 0) +ᶠ sumᶠ G.settings (λ v. p (suc v) *ᶠ units S some (a (suc v))))) (sym (sum_front G.settings (λ v. weight S bottom p v *ℤ a v)))
      (over_add (over_more (S * bottom) (over_units S some (a 0)))
      (over_sum G.settings (S * bottom * S) (λ v. p (suc v) *ᶠ units S some (a (suc v))) (λ v. weight S bottom p (suc v) *ℤ a (suc v)) (λ v h. over_mul (over_more S (setting_over v h)) (over_units S some (a (suc v))))))

  -- a solution over D solves the equations of the exact figures
  solves : (x : ℕ → Frac) (D : ℕ) (X : ℕ → ℤ) → ((j : ℕ) → j < G.states → Over D (x j) (X j)) → Solution S some G p x → (H : Proposal) → Solves S G H bottom (weight S bottom p) D X
  solves x D X o s H = record {
    meets = λ i h. over_same
        (over_sum G.states (S * bottom * S * D) (λ j. at_choice S some G p (λ v. G.matrix v i j) *ᶠ x j) (λ j. coefficient S G H bottom (weight S bottom p) i j *ℤ X j) (λ j l. over_mul (figure_over (λ v. G.matrix v i j)) (o j l)))
        (subst (λ m. Over m (at_choice S some G p (λ v. G.payout v i)) (pos D *ℤ reward S G H bottom (weight S bottom p) i)) (mul_comm D (S * bottom * S)) (over_more D (figure_over (λ v. G.payout v i))))
        (s.meets i h);
  }

module _ (S : ℕ) (some : 0 < S) (G : Game) (H : Proposal) (Y : ℕ → Interval) (a : Accepted S G H Y) (p : ℕ → Frac) (choice : Choice S some G p) where
  abbrev q : ℕ
  q = bottom S some G p

  abbrev t : ℕ → ℤ
  t = weight S q p

  abbrev N : ℕ
  N = q * (S * S) * S

  abbrev c : ℕ → ℕ → ℤ
  c = exact_iteration S G H q t

  abbrev r : ℕ → ℤ
  r = exact_residual S G H q t

  taken : Step G.states N c r Y (step S G H Y)
  taken = accepted_step S some G H q t (weights S some G p choice) (common_some G.settings (λ v. p (suc v))) Y a

  -- two solutions over one denominator are equal
  same_rows : (x y : ℕ → Frac) (D : ℕ) (X Z : ℕ → ℤ) → 0 < D → ((j : ℕ) → j < G.states → Over D (x j) (X j)) → ((j : ℕ) → j < G.states → Over D (y j) (Z j)) → Solution S some G p x → Solution S some G p y → (i : ℕ) → i < G.states → x i ≈ y i
  same_rows x y D X Z d o w s e i h =
      let f : shift S G H q t D X i ≡ shift S G H q t D Z i = unique G.states N c r Y (step S G H Y) taken D (shift S G H q t D X) (shift S G H q t D Z) (shift_fixed S G H q t D X (solves S some G p x D X o s H)) (shift_fixed S G H q t D Z (solves S some G p y D Z w e H)) i h in
      let g : X i ≡ Z i = cancelled S (X i) (Z i) some (omega (arith, lin, f)) in
      same_over d (o i h) (subst (Over D (y i)) (sym g) (w i h))

  -- a fixed point that lies in a box lies in the box's step
  kept : (D : ℕ) (u : ℕ → ℤ) → Fixed G.states N c r D u → (V : ℕ → Interval) → ((j : ℕ) → j < G.states → In D (V j) (u j)) → (i : ℕ) → i < G.states → In D (step S G H V i) (u i)
  kept D u f V v i h = in_cancel N taken.some (in_again refl (sym (f.stays i h)) (step_in S some G H q t (weights S some G p choice) V D u v i))

  -- and so in every narrowing of the accepted one
  kept_on : (D : ℕ) (u : ℕ → ℤ) → Fixed G.states N c r D u → (m i : ℕ) → i < G.states → In D (narrowed S G H Y m i) (u i)
  unfolding narrowed
  kept_on D u f zero = kept D u f Y (enclosed G.states N c r Y (step S G H Y) taken D u f)
  kept_on D u f (suc m) = kept D u f (narrowed S G H Y m) (kept_on D u f m)

  -- a solution over D lies in the held ranges
  held_in : (x : ℕ → Frac) (D : ℕ) (X : ℕ → ℤ) → 0 < D → ((j : ℕ) → j < G.states → Over D (x j) (X j)) → Solution S some G p x → (m : ℕ) → Within S some G (held S G H (narrowed S G H Y m)) x
  held_in x D X d o s m =
      let V : ℕ → Interval = narrowed S G H Y m in
      let inside : (i : ℕ) → i < G.states → In D (V i) (shift S G H q t D X i) = kept_on D (shift S G H q t D X) (shift_fixed S G H q t D X (solves S some G p x D X o s H)) m in
      record {
        above = λ i h. least_over some d (over_units S some (H.guess i +ℤ (V i).low)) (o i h) (omega (arith, lin, (inside i h).above, *ℤ_add_right (pos D) (H.guess i) (V i).low));
        below = λ i h. least_over d some (o i h) (over_units S some (H.guess i +ℤ (V i).high)) (omega (arith, lin, (inside i h).below, *ℤ_add_right (pos D) (H.guess i) (V i).high));
      }

pub soundness : Soundness
soundness S some G H Y a = record {
  one = λ p x y c s e.
      let A : ℕ = common G.states x in
      let B : ℕ = common G.states y in
      same_rows S some G H Y a p c x y (B * A) (λ j. pos B *ℤ numerator A (x j)) (λ j. pos A *ℤ numerator B (y j)) (mul-pos (common_some G.states y) (common_some G.states x))
      (λ j h. over_more B (over_common G.states x j h))
      (λ j h. subst (λ m. Over m (y j) (pos A *ℤ numerator B (y j))) (mul_comm A B) (over_more A (over_common G.states y j h)))
      s e;
  inside = λ p x c s m.
      held_in S some G H Y a p c x (common G.states x) (λ j. numerator (common G.states x) (x j)) (common_some G.states x) (over_common G.states x) s m;
}
