-- what the calls of a sheet say once they were made
use Rattle.std.proofs.Common.{◌≡◌, ℕ, zero, suc, ◌+◌, ◌*◌, ◌<◌, ◌≤◌, Bool, true, false, cond, eqb, List, [], ◌∷◌, ◌++◌, ℤ, pos, negsuc, ◌+ℤ◌, Some, sym, refl, ap, ◌∙◌, subst, inl, inr, eq-or-lt_of_le, arith}
use lib.IntN.{+ℤ_idl}
use Rattle.std.proofs.lemmas.Bool.{cases_Bool, cond-false, cond-true, eq-eqb, eqb-true, ne_eqb, true≢false}
use Rattle.span.specs.Intervals.{Interval}
use Rattle.enclosure.specs.Boxed.{box}
use Rattle.source.specs.declared.place.Place.{Place}
use Rattle.source.specs.Meaning.{same}
use Rattle.law.specs.Calls.{Given}
use Rattle.law.specs.Calls.Given.{opening, post, range, propose, attempt, narrow}
use Rattle.law.specs.History.{Basis, holds, narrower, posted, range_of, settings_of, states_of}
use Rattle.sheet.specs.Again.{posts}
use Rattle.sheet.specs.Layout.{at_box, at_guesses, at_ranges, at_table, place_of}
use Rattle.sheet.specs.Rechecks.{Read, calls_of, gathered, is_zero, narrow_at, numbers_from, post_of, proposal_of, range_at, read, trial_of}
use Rattle.sheet.specs.Sheets.{Sheet}
use Rattle.sheet.proofs.Placing.{same_coefficient, same_self}

-- the calls that were read, put before the earlier ones
unfoldable pub onto : List Read → List Given → List Given
onto [] g = g
onto (c ∷ cs) g = onto cs (c.call ∷ g)

pub onto_none : (g : List Given) → onto [] g ≡ g
unfolding onto
onto_none g = refl

pub onto_more : (c : Read) (cs : List Read) (g : List Given) → onto (c ∷ cs) g ≡ onto cs (c.call ∷ g)
unfolding onto
onto_more c cs g = refl

pub onto_both : (xs ys : List Read) (g : List Given) → onto (xs ++ ys) g ≡ onto ys (onto xs g)
unfolding onto
onto_both [] ys g = refl
onto_both (c ∷ xs) ys g = onto_both xs ys (c.call ∷ g)

zero_is : (z : ℤ) → is_zero z ≡ true → z ≡ pos 0
zero_is (pos n) e = ap pos (eqb-true n 0 e)
zero_is (negsuc n) e = absurd (true≢false (sym e))

module _ (w : Sheet) (h : List Given) where
  -- after the coefficients, the first v settings, and then after m narrowings
  unfoldable pub ranges : ℕ → List Given
  ranges zero = posts w h (at_ranges w.states w.settings)
  ranges (suc v) = range (suc v) (w.number (at_ranges w.states w.settings + 2 * v)) (w.number (at_ranges w.states w.settings + 2 * v + 1)) ∷ ranges v

  unfoldable pub narrows : ℕ → List Given
  narrows zero = trial_of w ∷ (proposal_of w ∷ ranges w.settings)
  narrows (suc m) = narrow ∷ narrows m

  posts_onto : (t : ℕ) → onto (gathered t (post_of w)) (opening w.states w.settings ∷ h) ≡ posts w h t
  unfolding gathered onto posts
  posts_onto zero = refl
  posts_onto (suc t) = onto_both (gathered t (post_of w)) (post_of w t) _ ∙ ap (onto (post_of w t)) (posts_onto t) ∙ one (is_zero (w.number t)) _ (posts w h t)
    where
      one : (b : Bool) (c : Read) (g : List Given) → onto (cond b [] (c ∷ [])) g ≡ cond b g (c.call ∷ g)
      one true c g = refl
      one false c g = refl

  ranges_onto : (v : ℕ) → onto (gathered v (range_at w)) (posts w h (at_ranges w.states w.settings)) ≡ ranges v
  unfolding gathered onto ranges
  ranges_onto zero = refl
  ranges_onto (suc v) = onto_both (gathered v (range_at w)) (range_at w v) _ ∙ ap (onto (range_at w v)) (ranges_onto v)

  narrows_onto : (m : ℕ) → onto (gathered m (narrow_at w)) (trial_of w ∷ (proposal_of w ∷ ranges w.settings)) ≡ narrows m
  unfolding gathered onto narrows
  narrows_onto zero = refl
  narrows_onto (suc m) = onto_both (gathered m (narrow_at w)) (narrow_at w m) _ ∙ ap (onto (narrow_at w m)) (narrows_onto m)

  -- after a recheck's opening, all its calls
  after_ranges : List Read
  after_ranges = read (4 * at_table w.states w.settings) (proposal_of w) ∷ (read (4 * at_box w.states w.settings) (trial_of w) ∷ gathered w.narrowings (narrow_at w))

  pub calls_onto : onto (calls_of w) (opening w.states w.settings ∷ h) ≡ narrows w.narrowings
  unfolding onto after_ranges
  calls_onto =
      let posted_calls = gathered (at_ranges w.states w.settings) (post_of w) in
      let set_calls = gathered w.settings (range_at w) in
      onto_both posted_calls (set_calls ++ after_ranges) (opening w.states w.settings ∷ h)
      ∙ ap (λ g. onto (set_calls ++ after_ranges) g) (posts_onto (at_ranges w.states w.settings))
      ∙ onto_both set_calls after_ranges (posts w h (at_ranges w.states w.settings))
      ∙ ap (λ g. onto after_ranges g) (ranges_onto w.settings)
      ∙ narrows_onto w.narrowings

  -- ---- what they say
  sized : (A : Type 0) (f : List Given → A) → ((p : Place) (a : ℤ) (g : List Given) → f (post p a ∷ g) ≡ f g) → (t : ℕ) → f (posts w h t) ≡ f (opening w.states w.settings ∷ h)
  unfolding posts
  sized A f same_post zero = refl
  sized A f same_post (suc t) = one (is_zero (w.number t)) ∙ sized A f same_post t
    where
      one : (b : Bool) → f (cond b (posts w h t) (post (place_of w.states t) (w.number t) ∷ posts w h t)) ≡ f (posts w h t)
      one true = refl
      one false = same_post _ _ _

  pub posts_states : (t : ℕ) → states_of (posts w h t) ≡ w.states
  posts_states t = sized ℕ states_of (λ p a g. refl) t

  pub posts_settings : (t : ℕ) → settings_of (posts w h t) ≡ w.settings
  posts_settings t = sized ℕ settings_of (λ p a g. refl) t

  -- a fact that no range setting alters, then one that no proposal, try or narrowing alters
  past_ranges : (A : Type 0) (f : List Given → A) → ((v : ℕ) (a b : ℤ) (g : List Given) → f (range v a b ∷ g) ≡ f g) → (v : ℕ) → f (ranges v) ≡ f (posts w h (at_ranges w.states w.settings))
  unfolding ranges
  past_ranges A f same_range zero = refl
  past_ranges A f same_range (suc v) = same_range _ _ _ _ ∙ past_ranges A f same_range v

  past_narrows : (A : Type 0) (f : List Given → A) → ((r s : List ℤ) (g : List Given) → f (propose r s ∷ g) ≡ f g) → ((ys : List ℤ) (g : List Given) → f (attempt ys ∷ g) ≡ f g) → ((g : List Given) → f (narrow ∷ g) ≡ f g) → (m : ℕ) → f (narrows m) ≡ f (ranges w.settings)
  unfolding narrows
  past_narrows A f same-proposal same-try same-narrow zero = same-try _ _ ∙ same-proposal _ _ _
  past_narrows A f same-proposal same-try same-narrow (suc m) = same-narrow _ ∙ past_narrows A f same-proposal same-try same-narrow m

  pub ranges_settings : (v : ℕ) → settings_of (ranges v) ≡ w.settings
  ranges_settings v = past_ranges ℕ settings_of (λ v a b g. refl) v ∙ posts_settings _

  pub states_said : (m : ℕ) → states_of (narrows m) ≡ w.states
  states_said m = past_narrows ℕ states_of (λ r s g. refl) (λ ys g. refl) (λ g. refl) m ∙ past_ranges ℕ states_of (λ v a b g. refl) w.settings ∙ posts_states _

  pub settings_said : (m : ℕ) → settings_of (narrows m) ≡ w.settings
  settings_said m = past_narrows ℕ settings_of (λ r s g. refl) (λ ys g. refl) (λ g. refl) m ∙ ranges_settings w.settings

  -- the offer and the box that the sheet has
  abbrev pub basis_at : ℕ → Basis
  basis_at m = record {
    offer = record { table = numbers_from w (at_table w.states w.settings) (w.states * w.states); guesses = numbers_from w (at_guesses w.states w.settings) w.states };
    box = box (numbers_from w (at_box w.states w.settings) (2 * w.states));
    narrowings = m;
  }

  pub held_said : (S m : ℕ) → holds S (narrows m) ≡ Some (basis_at m)
  unfolding narrows
  held_said S zero = refl
  held_said S (suc m) = ap narrower (held_said S m)

  -- ---- the settings
  ranges_said : (v u : ℕ) → u < v → range_of (ranges v) (suc u) ≡ record { low = w.number (at_ranges w.states w.settings + 2 * u); high = w.number (at_ranges w.states w.settings + 2 * u + 1) }
  unfolding ranges
  ranges_said zero u l = elim l [ ]
  ranges_said (suc v) u l =
      let m : u ≤ v = omega arith in
      elim (eq-or-lt_of_le m) [
        | inl e ↦ cond-true (eqb (suc v) (suc u)) _ _ (eq-eqb (suc v) (suc u) (ap suc (sym e))) ∙ ap (λ x. record { low = w.number (at_ranges w.states w.settings + 2 * x); high = w.number (at_ranges w.states w.settings + 2 * x + 1) }) (sym e)
        | inr k ↦ cond-false (eqb (suc v) (suc u)) _ _ (ne_eqb (suc v) (suc u) (λ z. omega arith)) ∙ ranges_said v u k
      ]

  pub range_said : (m u : ℕ) → u < w.settings → range_of (narrows m) (suc u) ≡ record { low = w.number (at_ranges w.states w.settings + 2 * u); high = w.number (at_ranges w.states w.settings + 2 * u + 1) }
  range_said m u l = past_narrows Interval (λ g. range_of g (suc u)) (λ r s g. refl) (λ ys g. refl) (λ g. refl) m ∙ ranges_said w.settings u l

  -- ---- the coefficients, each posted once
  module _ (s : ℕ) where
    abbrev q : Place
    q = place_of w.states s

    other_post : (t : ℕ) → (t ≡ s → ⊥) → posted (posts w h (suc t)) q ≡ posted (posts w h t) q
    unfolding posts
    other_post t e = one (is_zero (w.number t))
      where
        one : (b : Bool) → posted (cond b (posts w h t) (post (place_of w.states t) (w.number t) ∷ posts w h t)) q ≡ posted (posts w h t) q
        one true = refl
        one false = elim (cases_Bool (same (place_of w.states t) q)) [
          | inl i ↦ absurd (e (same_coefficient w.states t s i))
          | inr i ↦ cond-false (same (place_of w.states t) q) _ _ i
        ]

    pub none_yet : (t : ℕ) → t ≤ s → posted (posts w h t) (place_of w.states s) ≡ pos 0
    unfolding posts
    none_yet zero l = refl
    none_yet (suc t) l = other_post t (λ z. omega arith) ∙ none_yet t (omega arith)

    own_post : posted (posts w h (suc s)) q ≡ w.number s
    unfolding posts
    own_post = elim (cases_Bool (is_zero (w.number s))) [
      | inl i ↦ ap (λ b. posted (cond b (posts w h s) (post q (w.number s) ∷ posts w h s)) q) i ∙ none_yet s (omega arith) ∙ sym (zero_is (w.number s) i)
      | inr i ↦ ap (λ b. posted (cond b (posts w h s) (post q (w.number s) ∷ posts w h s)) q) i ∙ cond-true (same q q) _ _ (same_self q) ∙ ap (λ z. z +ℤ w.number s) (none_yet s (omega arith)) ∙ +ℤ_idl (w.number s)
    ]

    ever_since : (t : ℕ) → s < t → posted (posts w h t) q ≡ w.number s
    ever_since zero l = elim l [ ]
    ever_since (suc t) l =
        let m : s ≤ t = omega arith in
        elim (eq-or-lt_of_le m) [
          | inl e ↦ subst (λ x. posted (posts w h (suc x)) q ≡ w.number s) e own_post
          | inr k ↦ other_post t (λ z. omega arith) ∙ ever_since t k
        ]

    pub coefficient_said : (m : ℕ) → s < at_ranges w.states w.settings → posted (narrows m) (place_of w.states s) ≡ w.number s
    coefficient_said m l = past_narrows ℤ (λ g. posted g q) (λ r s g. refl) (λ ys g. refl) (λ g. refl) m ∙ past_ranges ℤ (λ g. posted g q) (λ v a b g. refl) w.settings ∙ ever_since _ l
