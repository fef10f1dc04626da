-- the questions of a proposal one after the other, and what is prepared where all are a yes
use Rattle.std.proofs.Common.{◌≡◌, ℕ, ◌+◌, ◌*◌, ◌/◌, ◌%◌, ◌<◌, ◌≤◌, ◌&&◌, eqb, List, ◌∷◌, ◌++◌, length, get_or, ℤ, pos, Some, None, sym, ap, ◌∙◌, subst, append_assoc, one-mul, arith}
use Rattle.std.proofs.lemmas.Nat.{mul-add-lt, div-mul-add, mod-mul-add}
use Rattle.std.proofs.lemmas.List.{get_or_past}
use Rattle.std.proofs.lemmas.Bool.{eq-eqb, eqb-true, and_parts}
use Rattle.span.specs.declared.scale.Scale.{Ghosts}
use Rattle.span.specs.declared.span.Span.{Span}
use Rattle.span.specs.Questions.{Question, ask, first_no}
use Rattle.method.specs.Method as method
use Rattle.system.specs.declared.system.System.{System}
use Rattle.system.specs.Figures.{Small, Narrow, spans}
use Rattle.span.proofs.Verdicts.{no_after}
use Rattle.prepare.specs.declared.fault.Fault.{Fault}
use Rattle.prepare.specs.declared.fault.Fault.TheVariants.{Count}
use Rattle.prepare.specs.declared.prepared.Prepared.{Prepared}
use Rattle.prepare.specs.declared.proposal.Proposal.{Proposal}
use Rattle.prepare.specs.Numbers.{Kept, number_questions, offered}
use Rattle.prepare.specs.Proposals.{PreparedFor, Tabled, game, offer, table_questions, guess_questions, residual_questions, iteration_questions, propose_questions}
use Rattle.prepare.specs.Rows.{Limited}
use Rattle.prepare.proofs.Filling.{limited_narrow}
use Rattle.prepare.proofs.Firsts.{later, earlier, all_yes, first_yes}
use Rattle.prepare.proofs.Known.{offered_same}

module _ (S : ℕ) (s : System) (r g : List ℤ) (es : S ≡ s.units) where
  after_numbers : List (Question Fault)
  after_numbers = residual_questions S (game s) (offer s.states r g) ++ iteration_questions S (game s) (offer s.states r g)

  count : Question Fault
  count = ask (eqb (length r) (s.states * s.states) && eqb (length g) s.states) (Count (length r) (length g))

  split : first_no (propose_questions S s r g) ≡ first_no (number_questions s r g ++ after_numbers)
  unfolding after_numbers count
  split =
      no_after _ _ _ _ (eq-eqb S s.units es) (
      ap (λ w. first_no (count ∷ (table_questions w s.states r ++ (guess_questions w s.states g ++ after_numbers)))) es
      ∙ ap (λ (l : List (Question Fault)). first_no (count ∷ l)) (sym (append_assoc (table_questions s.units s.states r) (guess_questions s.units s.states g) after_numbers)))

  pub numbers_no : (f : Fault) → first_no (number_questions s r g) ≡ Some f → first_no (propose_questions S s r g) ≡ Some f
  numbers_no f h = split ∙ earlier (number_questions s r g) after_numbers f h

  module _ {X : Type 0} {T : Ghosts X} (p : Proposal X T) (none : first_no (number_questions s r g) ≡ None) (k : Kept s r g p) where
    same : offered p ≡ offer s.states r g
    same = offered_same s r g p k

    -- what is known of the proposal and its system, of the numbers and the system given
    given : (P : System → method.Proposal → Type 0) → P p.system.now (offered p) → P s (offer s.states r g)
    given P h = subst (λ (t : System). P t (offer s.states r g)) k.system (subst (λ (H : method.Proposal). P p.system.now H) same h)

    pub residual_no : (f : Fault) → first_no (residual_questions S (game p.system.now) (offered p)) ≡ Some f → first_no (propose_questions S s r g) ≡ Some f
    unfolding after_numbers
    residual_no f h =
        split ∙ later (number_questions s r g) after_numbers none
        ∙ earlier (residual_questions S (game s) (offer s.states r g)) (iteration_questions S (game s) (offer s.states r g)) f (given (λ t H. first_no (residual_questions S (game t) H) ≡ Some f) h)

    module _ (z : List Span) (lz : Limited S 49 p.system.now.states (method.residual S (game p.system.now) (offered p)) z) where
      residual_given : Limited S 49 s.states (method.residual S (game s) (offer s.states r g)) z
      residual_given = given (λ t H. Limited S 49 t.states (method.residual S (game t) H) z) lz

      residual_yes : first_no (propose_questions S s r g) ≡ first_no (iteration_questions S (game s) (offer s.states r g))
      unfolding after_numbers
      residual_yes =
          split ∙ later (number_questions s r g) after_numbers none
          ∙ later (residual_questions S (game s) (offer s.states r g)) (iteration_questions S (game s) (offer s.states r g)) (all_yes s.states _ residual_given.inside)

      pub iteration_no : (f : Fault) → first_no (iteration_questions S (game p.system.now) (offered p)) ≡ Some f → first_no (propose_questions S s r g) ≡ Some f
      iteration_no f h = residual_yes ∙ given (λ t H. first_no (iteration_questions S (game t) H) ≡ Some f) h

      module _ (y : List Span) (ly : Limited S 1 (p.system.now.states * p.system.now.states) (λ t. method.iteration S (game p.system.now) (offered p) (t / p.system.now.states) (t % p.system.now.states)) y) where
        iteration_given : Limited S 1 (s.states * s.states) (λ t. method.iteration S (game s) (offer s.states r g) (t / s.states) (t % s.states)) y
        iteration_given = given (λ u H. Limited S 1 (u.states * u.states) (λ t. method.iteration S (game u) H (t / u.states) (t % u.states)) y) ly

        pub all_asked : first_no (propose_questions S s r g) ≡ None
        all_asked = residual_yes ∙ all_yes (s.states * s.states) _ iteration_given.inside

        guesses_long : length g ≡ s.states
        guesses_long = eqb-true (length g) s.states (and_parts (eqb (length r) (s.states * s.states)) (eqb (length g) s.states) (first_yes _ _ _ none)).1

        cell_is : (i j : ℕ) → i < s.states → j < s.states → spans y (i * s.states + j) ≡ method.iteration S (game s) (offer s.states r g) i j
        cell_is i j h l =
            iteration_given.before (i * s.states + j) (mul-add-lt i s.states j s.states h l)
            ∙ ap (λ a. method.iteration S (game s) (offer s.states r g) a ((i * s.states + j) % s.states)) (div-mul-add i s.states j l)
            ∙ ap (λ b. method.iteration S (game s) (offer s.states r g) i b) (mod-mul-add i s.states j l)

        pub prepared : (q : Prepared) → q.units ≡ S → q.states ≡ s.states → q.guesses ≡ p.guesses → q.residual ≡ z → q.iteration ≡ y → PreparedFor S (game s) (offer s.states r g) q
        prepared q eu en eg ez ey = record {
          units = eu;
          states = en;
          guess = λ i h. ap (λ xs. get_or xs i (pos 0)) eg ∙ k.guesses i;
          residual_is = λ i h. ap (λ xs. spans xs i) ez ∙ residual_given.before i h;
          iteration_is = λ i j h l. ap (λ xs. spans xs (i * s.states + j)) ey ∙ cell_is i j h l;
          guess_rest = λ i h. ap (λ xs. get_or xs i (pos 0)) eg ∙ k.guesses i ∙ get_or_past g i (pos 0) (omega (arith, guesses_long));
          residual_rest = λ i h. ap (λ xs. spans xs i) ez ∙ residual_given.after i h;
          iteration_rest = λ t h. ap (λ xs. spans xs t) ey ∙ iteration_given.after t h;
        }

        table_long : length r ≡ s.states * s.states
        table_long = eqb-true (length r) (s.states * s.states) ((and_parts (eqb (length r) (s.states * s.states)) (eqb (length g) s.states) (first_yes _ _ _ none)).0)

        pub tabled : (q : Prepared) → q.table ≡ p.table → Tabled s.states (offer s.states r g) q
        tabled q et = record {
          table_is = λ i j h l. ap (λ xs. get_or xs (i * s.states + j) (pos 0)) et ∙ k.table (i * s.states + j);
          table_rest = λ t h. ap (λ xs. get_or xs t (pos 0)) et ∙ k.table t ∙ get_or_past r t (pos 0) (omega (arith, table_long));
        }

        -- what a prepared struct keeps, at the units u that the system tells
        module _ (u : ℕ) (e : u ≡ s.units) where
          pub kept_scale : (2 ≤ u) × (u ≤ 1048576)
          kept_scale = (omega (arith, s.scale.0), omega (arith, s.scale.1))

          same_scale : T.unit ≡ s.units
          same_scale = p.scaled ∙ ap (λ (t : System). t.units) k.system

          pub kept_guesses : Small (100 * u) p.guesses
          kept_guesses = subst (λ (w : ℕ). Small (100 * w) p.guesses) (same_scale ∙ sym e) p.guessed

          pub kept_residual : Narrow (49 * u) z
          kept_residual = subst (λ (w : ℕ). Narrow (49 * w) z) (es ∙ sym e) (limited_narrow S 49 _ _ z lz)

          pub kept_iteration : Narrow u y
          kept_iteration = subst (λ (w : ℕ). Narrow w y) (one-mul S ∙ es ∙ sym e) (limited_narrow S 1 _ _ y ly)
