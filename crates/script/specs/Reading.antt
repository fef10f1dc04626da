-- what a line's words are taken as
use Rattle.std.specs.Prelude.{◌≡◌, ℕ, ◌<◌, List, [], map, length, ℤ, pos, Some, None, Ok, Err, Option, Result, FitsSigned, ◌≢◌, slice_index_or}
use Rattle.std.specs.Borrow.{Bor}
use Rattle.std.specs.Int.{w64}
use Rattle.std.specs.Str.Parse.{IsNumeral, without_leading_sign, signed_digits_value}
use Rattle.script.specs.declared.call.Call.{Call}
use Rattle.script.specs.declared.kind.Kind.{Kind}
use Rattle.script.specs.declared.mistake.Mistake.{Mistake}
use Rattle.script.specs.declared.mistake.Mistake.TheVariants.{UnknownCall, WrongCount, NotANumber}
use Rattle.script.specs.Calls.{kind_of, numbers_of}
use Rattle.script.specs.Kinds.{name_of, takes}

abbrev pub texts : List (Bor (List ℕ)) → List (List ℕ)
texts words = map (λ w. w.now) words

-- a sign or none, one decimal digit or more, and a value that fits signed 64 bits
abbrev pub IsNumber : List ℕ → Type 0
IsNumber word = IsNumeral 10 (without_leading_sign word) × FitsSigned w64 (signed_digits_value 10 word)

abbrev pub Number : List ℕ → Option ℤ → Type 0
Number word None = IsNumber word → ⊥
Number word (Some n) = IsNumber word × (n ≡ signed_digits_value 10 word)

-- the words before k are the numbers ns
abbrev pub Written : List (List ℕ) → List ℤ → ℕ → Type 0
Written words ns k = (i : ℕ) → i < k → Number (slice_index_or words i []) (Some (slice_index_or ns i (pos 0)))

-- the first of the words that is no number
pub record FirstBad (words : List (List ℕ)) (word : List ℕ) : Type 0 where
  pub place : ℕ
  pub within : place < length words
  pub is : word ≡ slice_index_or words place []
  pub bad : IsNumber word → ⊥
  pub before : (i : ℕ) → i < place → IsNumber (slice_index_or words i [])

abbrev pub Numbers : List (List ℕ) → Result (List ℤ) Mistake → Type 0
Numbers words (Ok ns) = (length ns ≡ 4) × Written words ns (length words)
Numbers words (Err (UnknownCall word)) = ⊥
Numbers words (Err (WrongCount kind given)) = ⊥
Numbers words (Err (NotANumber word)) = FirstBad words word.now

-- the name is asked first, then the count, and then each word in turn
abbrev pub Read : List ℕ → List (List ℕ) → Result Call Mistake → Type 0
Read name words (Ok call) = (name ≡ name_of (kind_of call)) × (length words ≡ length (numbers_of call)) × Written words (numbers_of call) (length words)
Read name words (Err (UnknownCall word)) = (word.now ≡ name) × ((k : Kind) → name ≢ name_of k)
Read name words (Err (WrongCount kind given)) = (name ≡ name_of kind) × (given ≡ length words) × (given ≢ takes kind)
Read name words (Err (NotANumber word)) = ((k : Kind) × (name ≡ name_of k) × (length words ≡ takes k)) × FirstBad words word.now
