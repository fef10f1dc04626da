-- one digit more of a figure, with the comma that may follow it
use Rattle.std.proofs.Common.{◌≡◌, ℕ, suc, ◌<◌, true, false, cond, List, [], ◌∷◌, ◌++◌, length, get_or, IsAscii, sym, refl, ap, ◌∙◌, subst, append_assoc, append-nil, arith, lit<}
use lib.Utf8.{encode}
use Rattle.std.proofs.lemmas.Str.{encode_ascii}
use Rattle.wording.specs.Grouping.{commas, whole_groups}

-- text, then the digits that are left, are the whole figure
pub record Sofar (text rest all : List ℕ) : Type 0 where
  pub plain : IsAscii rest
  pub whole : text ++ commas rest ≡ commas all

module _ {text rest all : List ℕ} (old : Sofar text rest all) where
  pub done : length rest ≡ 0 → text ≡ commas all
  done e = sym (append-nil text) ∙ ap (λ l. text ++ l) (none rest e) ∙ old.whole
    where
      none : (l : List ℕ) → length l ≡ 0 → [] ≡ commas l
      none [] e = refl
      none (x ∷ l) e = absurd (omega arith)

  module _ {d : ℕ} {next : List ℕ} (steps : rest ≡ d ∷ next) where
    low : d < 128
    low = subst (λ l. get_or l 0 0 < 128) steps (old.plain 0)

    next_plain : IsAscii next
    next_plain i = subst (λ l. get_or l (suc i) 0 < 128) steps (old.plain (suc i))

    before : text ++ commas (d ∷ next) ≡ commas all
    before = ap (λ l. text ++ commas l) (sym steps) ∙ old.whole

    put : {more : List ℕ} → more ≡ text ++ encode d → more ≡ text ++ (d ∷ [])
    put e = e ∙ ap (λ l. text ++ l) (encode_ascii d low)

    pub digit : {more : List ℕ} → more ≡ text ++ encode d → whole_groups (length next) ≡ false → Sofar more next all
    digit {more} e w = record {
      plain = next_plain;
      whole = ap (λ t. t ++ commas next) (put e) ∙ append_assoc text (d ∷ []) (commas next) ∙ ap (λ b. text ++ (d ∷ cond b (44 ∷ commas next) (commas next))) (sym w) ∙ before;
    }

    pub digit_comma : {more most : List ℕ} → more ≡ text ++ encode d → most ≡ more ++ encode 44 → whole_groups (length next) ≡ true → Sofar most next all
    digit_comma {more} {most} e f w = record {
      plain = next_plain;
      whole = ap (λ t. t ++ commas next) (f ∙ ap (λ l. more ++ l) (encode_ascii 44 (lit< tt)) ∙ ap (λ t. t ++ (44 ∷ [])) (put e)) ∙ simp append_assoc (ap (λ b. text ++ (d ∷ cond b (44 ∷ commas next) (commas next))) (sym w) ∙ before);
    }
