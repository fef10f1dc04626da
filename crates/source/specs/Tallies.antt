-- entries in a row, at places of one kind: where one stands, and what adding to one leaves
use Rattle.std.specs.Prelude.{◌≡◌, ℕ, ◌+◌, ◌<◌, ◌≤◌, max, ◌⊎◌, List, length, ℤ, pos, ◌+ℤ◌, Some, None, Ok, Err, Option, Result, ◌≢◌, slice_index_or, slice_set, unsigned_abs}
use Rattle.source.specs.declared.entry.Entry.{Entry}
use Rattle.source.specs.declared.entry.Refusal.{Refusal}
use Rattle.source.specs.declared.entry.Refusal.TheVariants.{NoRoom, TooLarge}
use Rattle.source.specs.Meaning.{limit}

abbrev pub entry : {P : Type 0} → P → ℤ → Entry P
entry p s = record { place = p; sum = s }

-- none of the first n entries is at p
abbrev pub NoneAt : {P : Type 0} → List (Entry P) → ℕ → P → Type 0
NoneAt {P} xs n p = (k : ℕ) (e : Entry P) → k < n → k < length xs → e ≡ slice_index_or xs k e → e.place ≢ p

-- entry i is the first at p among the first n, and its sum is s
pub record FirstAt {P : Type 0} (xs : List (Entry P)) (n : ℕ) (p : P) (i : ℕ) (s : ℤ) : Type 0 where
  pub used : i < n
  pub there : i < length xs
  pub here : entry p s ≡ slice_index_or xs i (entry p s)
  pub before : NoneAt xs i p

-- what the first n entries tell of p
abbrev pub Told : {P : Type 0} → List (Entry P) → ℕ → P → Option ℤ → Type 0
Told xs n p (Some s) = (i : ℕ) × FirstAt xs n p i s
Told xs n p None = NoneAt xs n p

-- entry i has p's sum s, or is the next and has none yet
abbrev pub Slot : {P : Type 0} → List (Entry P) → ℕ → P → ℕ → ℤ → Type 0
Slot xs n p i s = FirstAt xs n p i s ⊎ (NoneAt xs n p × (i ≡ n) × (n < length xs) × (s ≡ pos 0))

-- a is added at p in entry i
abbrev pub AddedAt : {P : Type 0} → List (Entry P) → ℕ → P → ℤ → ℕ → List (Entry P) → Type 0
AddedAt xs n p a i ys = (s : ℤ) × Slot xs n p i s × (unsigned_abs (s +ℤ a) ≤ limit) × (ys ≡ slice_set xs i (entry p (s +ℤ a)))

-- why a is not added at p
abbrev pub Refused : {P : Type 0} → List (Entry P) → ℕ → P → ℤ → Refusal → Type 0
Refused xs n p a NoRoom = NoneAt xs n p × (length xs ≤ n)
Refused xs n p a TooLarge = (i : ℕ) × (s : ℤ) × Slot xs n p i s × (limit < unsigned_abs (s +ℤ a))

-- adding a at p to the first n of xs answered r, left ys and has m entries used
abbrev pub Added : {P : Type 0} → List (Entry P) → ℕ → P → ℤ → Result (Unit {0}) Refusal → List (Entry P) → ℕ → Type 0
Added xs n p a (Ok x) ys m = (i : ℕ) × AddedAt xs n p a i ys × (m ≡ max n (i + 1))
Added xs n p a (Err f) ys m = Refused xs n p a f × (ys ≡ xs) × (m ≡ n)
