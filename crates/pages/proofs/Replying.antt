-- the replies among outcomes, one outcome after another
use Rattle.std.proofs.Common.{◌≡◌, ℕ, suc, ◌+◌, ◌<◌, ◌≤◌, List, [], ◌++◌, length, get_or, drop, sym, refl, ap, ◌∙◌, append_assoc, append-nil, add-one, drop-cons}
use Rattle.std.proofs.lemmas.List.{drop_all}
use Rattle.law.specs.declared.ask.Reply.{Reply}
use Rattle.filing.specs.declared.step.Outcome.{Outcome}
use Rattle.filing.specs.declared.step.Outcome.TheVariants.{Replied, Checked, Wrote}
use Rattle.pages.specs.Replied.{replied, reply_in}

module _ (outcomes : List Outcome) (i : ℕ) (old : List Reply) (sofar : old ++ replied (drop i outcomes) ≡ replied outcomes) where
  pub all_replied : length outcomes ≤ i → old ≡ replied outcomes
  all_replied h = sym (append-nil old) ∙ ap (λ l. old ++ replied l) (sym (drop_all i outcomes h)) ∙ sofar

  pub one_replied : (o : Outcome) {new : List Reply} → i < length outcomes → o ≡ get_or outcomes i o → new ≡ old ++ reply_in o → new ++ replied (drop (i + 1) outcomes) ≡ replied outcomes
  one_replied o h is put =
      ap (λ l. l ++ replied (drop (i + 1) outcomes)) put ∙ append_assoc old (reply_in o) (replied (drop (i + 1) outcomes)) ∙ ap (λ l. old ++ l) left ∙ sofar
    where
      left : reply_in o ++ replied (drop (i + 1) outcomes) ≡ replied (drop i outcomes)
      left = ap (λ n. reply_in o ++ replied (drop n outcomes)) (add-one i) ∙ ap (λ s. reply_in s ++ replied (drop (suc i) outcomes)) is ∙ ap replied (sym (drop-cons outcomes i o h))

-- other outcomes hold no reply
pub no_reply : (o : Outcome) → ((r : Reply) → o ≡ Replied r → ⊥) → reply_in o ≡ []
no_reply (Replied r) n = absurd (n r refl)
no_reply (Checked c) n = refl
no_reply (Wrote w) n = refl
