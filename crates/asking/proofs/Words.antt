-- words read one after another: where one is a number the next is asked, else it is told
use Rattle.std.proofs.Common.{◌≡◌, ℕ, ◌<◌, List, [], length, get_or, ℤ, Ok, Err, Result, sym, ap, ◌∙◌, subst, arith, Bor}
use lib.ListN.{length-map}
use Rattle.std.proofs.lemmas.List.{get_or-map}
use Rattle.asking.specs.declared.asked.Asked.{Asked}
use Rattle.asking.specs.declared.figure.Form.{Form}
use Rattle.asking.specs.declared.figure.Form.TheVariants as form
use Rattle.asking.specs.declared.kind.Kind.{Kind}
use Rattle.asking.specs.declared.mistake.Mistake.{Mistake}
use Rattle.asking.specs.declared.mistake.Mistake.TheVariants.{UnknownCall, WrongCount, NoStroke, NotANumber}
use Rattle.asking.specs.Figures.{Amount, Told, Whole}
use Rattle.asking.specs.Lines.{Counted, at, texts}

pub as_many : (words : List (Bor (List ℕ))) → length (texts words) ≡ length words
as_many words = length-map words (λ w. w.now)

pub at_place : (words : List (Bor (List ℕ))) (i : ℕ) (d : Bor (List ℕ)) → i < length words → at (texts words) i ≡ (get_or words i d).now
at_place words i d h = get_or-map (λ w. w.now) words i d [] h

pub enough : {kind : Kind} {k : ℕ} {r : Result Asked Mistake} {P : Type 0} (words : List (Bor (List ℕ))) → length words ≡ k → P → Counted kind k (texts words) r P
enough words e p = record { enough = λ _. p; wrong = λ n. absurd (n (as_many words ∙ e)) }

pub wrong_count : {kind : Kind} {k : ℕ} {P : Type 0} {mistake : Mistake} (words : List (Bor (List ℕ))) → (length words ≡ k → ⊥) → mistake ≡ WrongCount kind (length words) → Counted kind k (texts words) (Err mistake) P
wrong_count {kind} words n e = record { enough = λ m. absurd (n (sym (as_many words) ∙ m)); wrong = λ _. ap (λ y. Err y) (e ∙ ap (λ l. WrongCount kind l) (sym (as_many words))) }

pub passed : (S T : Type 0) (form : Form) (word : List ℕ) (e : Mistake) → Told {T = S} form word (Err e) → Told {T = T} form word (Err e)
passed S T form word (UnknownCall name) t = t
passed S T form word (WrongCount kind given) t = t
passed S T form word NoStroke t = t
passed S T form word (NotANumber f bad) t = t

module _ {T : Type 0} {form : Form} {word place : List ℕ} {r : Result T Mistake} (same : place ≡ word) where
  pub whole : {P : ℕ → Type 0} (n : ℕ) → Whole form word (Ok n) (λ m. ◌≡◌ {A = Result ℕ Mistake} (Ok n) (Ok m)) → P n → Whole form place r P
  whole {P} n w p = subst (λ t. Whole form t r P) (sym same) (record {
    read = λ h. let e = w.read h in subst P (cc) p;
    told = λ no. absurd (w.told no);
  })

  pub no_whole : {P : ℕ → Type 0} (e : Mistake) → Whole {T = ℕ} form word (Err e) (λ m. Err e ≡ Ok m) → r ≡ Err e → Whole form place r P
  no_whole {P} e w is = subst (λ t. Whole form t r P) (sym same) (record {
    read = λ h. let e = w.read h in let z : ◌≡◌ {A = ℕ} 0 1 = cc in absurd (omega arith);
    told = λ no. subst (Told form word) (sym is) (passed ℕ T form word e (w.told no));
  })

module _ {T : Type 0} {word place : List ℕ} {r : Result T Mistake} (same : place ≡ word) where
  pub amount : {P : ℤ → Type 0} (n : ℤ) → Amount word (Ok n) (λ m. ◌≡◌ {A = Result ℤ Mistake} (Ok n) (Ok m)) → P n → Amount place r P
  amount {P} n w p = subst (λ t. Amount t r P) (sym same) (record {
    read = λ h. let e = w.read h in subst P (cc) p;
    told = λ no. absurd (w.told no);
  })

  pub no_amount : {P : ℤ → Type 0} (e : Mistake) → Amount {T = ℤ} word (Err e) (λ m. Err e ≡ Ok m) → r ≡ Err e → Amount place r P
  no_amount {P} e w is = subst (λ t. Amount t r P) (sym same) (record {
    read = λ h. let e = w.read h in let z : ◌≡◌ {A = ℕ} 0 1 = cc in absurd (omega arith);
    told = λ no. subst (Told form.Amount word) (sym is) (passed ℤ T form.Amount word e (w.told no));
  })
