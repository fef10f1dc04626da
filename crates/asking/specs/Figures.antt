-- numbers as a line's words write them, and what is told of a word that is none
use Rattle.std.specs.Prelude.{◌≡◌, ℕ, ◌^◌, ◌<◌, List, ℤ, Ok, Err, Result, FitsSigned}
use Rattle.std.specs.Int.{w32}
use Rattle.std.specs.Str.Parse.{IsNumeral, without_leading_plus, without_leading_sign, signed_digits_value, digits_value}
use Rattle.asking.specs.declared.figure.Form.{Form}
use Rattle.asking.specs.declared.figure.Form.TheVariants as form
use Rattle.asking.specs.declared.mistake.Mistake.{Mistake}
use Rattle.asking.specs.declared.mistake.Mistake.TheVariants.{UnknownCall, WrongCount, NoStroke, NotANumber}

-- one decimal digit or more after a sign or none, with a value that fits; only an amount may have a minus
abbrev pub IsNumber : Form → List ℕ → Type 0
IsNumber form.Place word = IsNumeral 10 (without_leading_plus word) × (digits_value 10 (without_leading_plus word) < 2 ^ 32)
IsNumber form.Trials word = IsNumeral 10 (without_leading_plus word) × (digits_value 10 (without_leading_plus word) < 2 ^ 8)
IsNumber form.Amount word = IsNumeral 10 (without_leading_sign word) × FitsSigned w32 (signed_digits_value 10 word)

-- the word is told, with the form that was expected
abbrev pub Told : {T : Type 0} → Form → List ℕ → Result T Mistake → Type 0
Told form word (Ok x) = ⊥
Told form word (Err (UnknownCall name)) = ⊥
Told form word (Err (WrongCount kind given)) = ⊥
Told form word (Err NoStroke) = ⊥
Told form word (Err (NotANumber f bad)) = (f ≡ form) × (bad.now ≡ word)

-- a number is one that the word gives; where it gives none the word is told
abbrev pub Numbered : {N E : Type 0} → (List ℕ → Result N E → Type 0) → Form → List ℕ → Result N Mistake → Type 0
Numbered gives form word (Ok n) = gives word (Ok n)
Numbered {N} {E} gives form word (Err m) = ((e : E) × gives word (Err e)) × Told {T = N} form word (Err m)

-- where the word is such a number P holds of it, else the word is told
pub record Whole {T : Type 0} (form : Form) (word : List ℕ) (r : Result T Mistake) (P : ℕ → Type 0) : Type 0 where
  pub read : IsNumber form word → P (digits_value 10 (without_leading_plus word))
  pub told : (IsNumber form word → ⊥) → Told form word r

pub record Amount {T : Type 0} (word : List ℕ) (r : Result T Mistake) (P : ℤ → Type 0) : Type 0 where
  pub read : IsNumber form.Amount word → P (signed_digits_value 10 word)
  pub told : (IsNumber form.Amount word → ⊥) → Told form.Amount word r
