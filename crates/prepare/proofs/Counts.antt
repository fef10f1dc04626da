-- the questions of a proposal's numbers, as the code asks them
use Rattle.std.proofs.Common.{◌≡◌, ℕ, ◌*◌, ◌/◌, ◌%◌, ◌<◌, true, false, ◌&&◌, eqb, leb, List, length, get_or, ℤ, pos, nat_abs, Some, None, sym, ap, ◌∙◌, arith}
use Rattle.std.proofs.lemmas.Bool.{eq-eqb, ne_eqb, and_left, and_right, and_from, le-leb, lt-leb}
use Rattle.span.specs.Questions.{ask, each, first_no}
use Rattle.system.specs.declared.system.System.{System}
use Rattle.system.specs.Figures.{FirstBeyond}
use Rattle.span.proofs.Verdicts.{no_here, no_after}
use Rattle.prepare.specs.declared.fault.Fault.TheVariants.{Count, TableTooLarge, GuessTooLarge}
use Rattle.prepare.specs.Numbers.{number_questions}
use Rattle.prepare.specs.Proposals.{table_questions, guess_questions}
use Rattle.prepare.specs.Rows.{Copied}
use Rattle.prepare.proofs.Firsts.{later, earlier, all_yes, first_at}

-- the first number beyond the limit is the first no
first_beyond : {F : Type 0} (limit n at : ℕ) (xs : List ℤ) (fault : ℕ → F) → at < n → FirstBeyond limit xs at → first_no (each n (λ t. ask (leb (nat_abs (get_or xs t (pos 0))) limit) (fault t))) ≡ Some (fault at)
first_beyond limit n at xs fault h b = first_at n at _ h (λ j l. le-leb _ _ (b.before j l)) (lt-leb _ _ b.beyond)

module _ (s : System) (r g : List ℤ) (n u : ℕ) (en : n ≡ s.states) (eu : u ≡ s.units) where
  pub first_count : (length r ≡ n * n → ⊥) → (eqb (length r) (s.states * s.states) && eqb (length g) s.states) ≡ false
  first_count h = and_left _ _ (ne_eqb (length r) (s.states * s.states) (λ e. h (e ∙ sym (ap (λ k. k * k) en))))

  pub second_count : (length g ≡ n → ⊥) → (eqb (length r) (s.states * s.states) && eqb (length g) s.states) ≡ false
  second_count h = and_right _ _ (ne_eqb (length g) s.states (λ e. h (e ∙ sym en)))

  counted : length r ≡ n * n → length g ≡ n → (eqb (length r) (s.states * s.states) && eqb (length g) s.states) ≡ true
  counted h k = and_from _ _ (eq-eqb (length r) (s.states * s.states) (h ∙ ap (λ k. k * k) en)) (eq-eqb (length g) s.states (k ∙ en))

  table_first : first_no (table_questions u n r) ≡ first_no (table_questions s.units s.states r)
  table_first = ap (λ k. first_no (table_questions u k r)) en ∙ ap (λ w. first_no (table_questions w s.states r)) eu

  guess_first : length g ≡ n → first_no (guess_questions u (length g) g) ≡ first_no (guess_questions s.units s.states g)
  guess_first h = ap (λ k. first_no (guess_questions u k g)) (h ∙ en) ∙ ap (λ w. first_no (guess_questions w s.states g)) eu

  pub count_no : (eqb (length r) (s.states * s.states) && eqb (length g) s.states) ≡ false → first_no (number_questions s r g) ≡ Some (Count (length r) (length g))
  count_no h = no_here _ _ _ h

  pub table_no : (t : ℕ) → length r ≡ n * n → length g ≡ n → t < length r → FirstBeyond (50 * u) r t → first_no (number_questions s r g) ≡ Some (TableTooLarge (t / n) (t % n))
  table_no t h k l b =
      let below : t < n * n = omega arith in
      no_after _ _ _ _ (counted h k) (earlier (table_questions s.units s.states r) (guess_questions s.units s.states g) _ (sym table_first ∙ first_beyond (50 * u) (n * n) t r (λ t. TableTooLarge (t / n) (t % n)) below b))

  table_yes : (kept : List ℤ) → length r ≡ n * n → Copied (50 * u) (length r) r kept → first_no (table_questions s.units s.states r) ≡ None
  table_yes kept h c = sym table_first ∙ all_yes (n * n) _ (λ i l. c.inside i (omega arith))

  pub guess_no : (i : ℕ) (kept : List ℤ) → length r ≡ n * n → length g ≡ n → Copied (50 * u) (length r) r kept → i < length g → FirstBeyond (100 * u) g i → first_no (number_questions s r g) ≡ Some (GuessTooLarge i)
  guess_no i kept h k c l b = no_after _ _ _ _ (counted h k) (later (table_questions s.units s.states r) (guess_questions s.units s.states g) (table_yes kept h c) ∙ sym (guess_first k) ∙ first_beyond (100 * u) (length g) i g GuessTooLarge l b)

  pub numbers_yes : (kept also : List ℤ) → length r ≡ n * n → length g ≡ n → Copied (50 * u) (length r) r kept → Copied (100 * u) (length g) g also → first_no (number_questions s r g) ≡ None
  numbers_yes kept also h k c d = no_after _ _ _ _ (counted h k) (later (table_questions s.units s.states r) (guess_questions s.units s.states g) (table_yes kept h c) ∙ sym (guess_first k) ∙ all_yes (length g) _ d.inside)
