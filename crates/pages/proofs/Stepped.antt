-- what the lines of an input put to a run, line by line
use Rattle.std.proofs.Common.{◌≡◌, ℕ, suc, ◌+◌, ◌<◌, ◌≤◌, List, [], ◌∷◌, ◌++◌, length, get_or, drop, sym, refl, ap, ◌∙◌, append_assoc, append-nil, add-one, drop-cons}
use Rattle.std.proofs.lemmas.List.{drop_all}
use Rattle.pages.specs.declared.posed.Posed.{Posed}
use Rattle.pages.specs.Puts as puts
use Rattle.pages.specs.Puts.{first_puts, posed_puts}
use Rattle.pages.specs.declared.step.Step.{Step}
use Rattle.pages.specs.declared.step.Step.TheVariants.{NoCall, Bad, Pure, Put}
use Rattle.pages.specs.Steps.{all_puts, puts_of}

module _ (steps : List Step) (i : ℕ) (old : List puts.Put) (sofar : old ++ all_puts (drop i steps) ≡ all_puts steps) where
  pub all_put : length steps ≤ i → old ≡ all_puts steps
  all_put h = sym (append-nil old) ∙ ap (λ l. old ++ all_puts l) (sym (drop_all i steps h)) ∙ sofar

  pub step_put : (step : Step) {new : List puts.Put} → i < length steps → step ≡ get_or steps i step → new ≡ old ++ puts_of step → new ++ all_puts (drop (i + 1) steps) ≡ all_puts steps
  step_put step h is put =
      ap (λ l. l ++ all_puts (drop (i + 1) steps)) put ∙ append_assoc old (puts_of step) (all_puts (drop (i + 1) steps)) ∙ ap (λ l. old ++ l) left ∙ sofar
    where
      left : puts_of step ++ all_puts (drop (i + 1) steps) ≡ all_puts (drop i steps)
      left = ap (λ n. puts_of step ++ all_puts (drop n steps)) (add-one i) ∙ ap (λ s. puts_of s ++ all_puts (drop (suc i) steps)) is ∙ ap all_puts (sym (drop-cons steps i step h))

pub one_put : (a : Posed) (n : ℕ) (old : List puts.Put) {now new : List puts.Put} (next : puts.Put) → now ≡ old ++ first_puts n (posed_puts a) → new ≡ now ++ (next ∷ []) → next ≡ posed_puts a n → new ≡ old ++ first_puts (n + 1) (posed_puts a)
one_put a n old next e put is =
    put ∙ ap (λ l. l ++ (next ∷ [])) e ∙ append_assoc old (first_puts n (posed_puts a)) (next ∷ []) ∙ ap (λ x. old ++ (first_puts n (posed_puts a) ++ (x ∷ []))) is ∙ ap (λ m. old ++ first_puts m (posed_puts a)) (sym (add-one n))

-- other lines put nothing
pub no_puts : (step : Step) → ((a : Posed) → step ≡ Put a → ⊥) → puts_of step ≡ []
no_puts NoCall n = refl
no_puts (Bad what) n = refl
no_puts (Pure call) n = refl
no_puts (Put a) n = absurd (n a refl)
