-- what a line's words ask: its name, then how many words follow, then each in turn
use Rattle.std.specs.Prelude.{◌≡◌, ℕ, ◌+◌, ◌<◌, ◌⊎◌, List, [], ◌∷◌, map, length, take, drop, ℤ, Some, None, Ok, Err, vec_items, codes, Option, Result, Vec, ◌≢◌, slice_index_or}
use Rattle.std.specs.Borrow.{Bor}
use Rattle.std.specs.declared.alloc.Global.{Global}
use Rattle.source.specs.declared.place.Place.TheVariants.{Matrix, Payout}
use Rattle.asking.specs.declared.asked.Asked.{Asked}
use Rattle.asking.specs.declared.asked.Asked.TheVariants as asked
use Rattle.asking.specs.declared.figure.Form.TheVariants.{Place, Trials}
use Rattle.asking.specs.declared.kind.Kind.{Kind}
use Rattle.asking.specs.declared.kind.Kind.TheVariants as kind
use Rattle.asking.specs.declared.mistake.Mistake.{Mistake}
use Rattle.asking.specs.declared.mistake.Mistake.TheVariants.{UnknownCall, WrongCount, NoStroke, NotANumber}
use Rattle.asking.specs.declared.mistake.Unread.{Unread}
use Rattle.asking.specs.declared.mistake.Unread.TheVariants.{Mistaken, OutOfMemory}
use Rattle.asking.specs.Figures.{Whole, Amount}
use Rattle.asking.specs.Kinds.{name_of}

abbrev pub texts : List (Bor (List ℕ)) → List (List ℕ)
texts words = map (λ w. w.now) words

abbrev pub at : List (List ℕ) → ℕ → List ℕ
at words i = slice_index_or words i []

-- P of what was read or of the mistake; nothing where memory ran out
abbrev pub Heard : {T : Type 0} → Result T Unread → (Result T Mistake → Type 0) → Type 0
Heard (Ok x) P = P (Ok x)
Heard (Err (Mistaken m)) P = P (Err m)
Heard (Err (OutOfMemory e)) P = Unit {0}

-- where k words were given P holds, else the count is told
pub record Counted (kind : Kind) (k : ℕ) (words : List (List ℕ)) (r : Result Asked Mistake) (P : Type 0) : Type 0 where
  pub enough : length words ≡ k → P
  pub wrong : (length words ≢ k) → r ≡ Err (WrongCount kind (length words))

abbrev pub SaysOpen : List (List ℕ) → Result Asked Mistake → Type 0
SaysOpen ws r = Counted kind.Open 2 ws r (Whole Place (at ws 0) r (λ n. Whole Place (at ws 1) r (λ k. r ≡ Ok (asked.Open n k))))

abbrev pub SaysMatrix : List (List ℕ) → Result Asked Mistake → Type 0
SaysMatrix ws r = Counted kind.PostMatrix 4 ws r (Whole Place (at ws 0) r (λ v. Whole Place (at ws 1) r (λ i. Whole Place (at ws 2) r (λ j. Amount (at ws 3) r (λ a. r ≡ Ok (asked.Post (Matrix v i j) a))))))

abbrev pub SaysPayout : List (List ℕ) → Result Asked Mistake → Type 0
SaysPayout ws r = Counted kind.PostPayout 3 ws r (Whole Place (at ws 0) r (λ v. Whole Place (at ws 1) r (λ i. Amount (at ws 2) r (λ a. r ≡ Ok (asked.Post (Payout v i) a)))))

abbrev pub SaysRange : List (List ℕ) → Result Asked Mistake → Type 0
SaysRange ws r = Counted kind.Range 3 ws r (Whole Place (at ws 0) r (λ v. Amount (at ws 1) r (λ low. Amount (at ws 2) r (λ high. r ≡ Ok (asked.Range v low high)))))

abbrev pub SaysRun : List (List ℕ) → Result Asked Mistake → Type 0
SaysRun ws r = Counted kind.Run 1 ws r (Whole Trials (at ws 0) r (λ t. r ≡ Ok (asked.Run t)))

abbrev pub SaysRow : List (List ℕ) → Result Asked Mistake → Type 0
SaysRow ws r = Counted kind.Row 1 ws r (Whole Place (at ws 0) r (λ i. r ≡ Ok (asked.Row i)))

abbrev pub SaysAlone : Kind → Asked → List (List ℕ) → Result Asked Mistake → Type 0
SaysAlone k a ws r = Counted k 0 ws r (r ≡ Ok a)

-- each word in turn is an amount, and P holds of their list; else the first that is none is told
abbrev pub Amounts : {T : Type 0} → List (List ℕ) → Result T Mistake → (List ℤ → Type 0) → Type 0
Amounts [] r P = P []
Amounts (w ∷ ws) r P = Amount w r (λ n. Amounts ws r (λ ns. P (n ∷ ns)))

-- r holds these numbers
abbrev pub Got : {T : Type 0} → (T → List ℤ) → List ℤ → Result T Mistake → Type 0
Got items ns (Ok x) = items x ≡ ns
Got items ns (Err e) = ⊥

pub record FirstStroke (words : List (List ℕ)) (s : ℕ) : Type 0 where
  pub within : s < length words
  pub here : at words s ≡ codes "/"
  pub before : (k : ℕ) → k < s → at words k ≢ codes "/"

abbrev pub NoneStroke : List (List ℕ) → Type 0
NoneStroke words = (s : ℕ) → s < length words → at words s ≢ codes "/"

-- where the first stroke stands, if one does
abbrev pub Stroke : List (List ℕ) → Option ℕ → Type 0
Stroke words (Some s) = FirstStroke words s
Stroke words None = NoneStroke words

-- P holds of the words before the first stroke and of those after it; where none stands, that is told
pub record Parted (words : List (List ℕ)) (r : Result Asked Mistake) (P : List (List ℕ) → List (List ℕ) → Type 0) : Type 0 where
  pub parted : (s : ℕ) → s < length words → at words s ≡ codes "/" → ((k : ℕ) → k < s → at words k ≢ codes "/") → P (take s words) (drop (s + 1) words)
  pub unparted : NoneStroke words → r ≡ Err NoStroke

-- r asks for a proposal of these numbers, or for a try of them
abbrev pub Proposes : List ℤ → List ℤ → Result Asked Mistake → Type 0
Proposes rs gs r = (t : Vec ℤ Global) × (g : Vec ℤ Global) × (r ≡ Ok (asked.Propose t g)) × (vec_items t ≡ rs) × (vec_items g ≡ gs)

abbrev pub Tries : List ℤ → Result Asked Mistake → Type 0
Tries ns r = (v : Vec ℤ Global) × (r ≡ Ok (asked.Try v)) × (vec_items v ≡ ns)

abbrev pub SaysPropose : List (List ℕ) → Result Asked Mistake → Type 0
SaysPropose ws r = Parted ws r (λ before after. Amounts before r (λ rs. Amounts after r (λ gs. Proposes rs gs r)))

abbrev pub SaysTry : List (List ℕ) → Result Asked Mistake → Type 0
SaysTry ws r = Amounts ws r (λ ns. Tries ns r)

-- what the words after the name ask
abbrev pub Says : Kind → List (List ℕ) → Result Asked Mistake → Type 0
Says kind.Open ws r = SaysOpen ws r
Says kind.PostMatrix ws r = SaysMatrix ws r
Says kind.PostPayout ws r = SaysPayout ws r
Says kind.Range ws r = SaysRange ws r
Says kind.Propose ws r = SaysPropose ws r
Says kind.Try ws r = SaysTry ws r
Says kind.Run ws r = SaysRun ws r
Says kind.Narrow ws r = SaysAlone kind.Narrow asked.Narrow ws r
Says kind.Row ws r = SaysRow ws r
Says kind.Table ws r = SaysAlone kind.Table asked.Table ws r

abbrev pub Unknown : List ℕ → Result Asked Mistake → Type 0
Unknown name (Ok a) = ⊥
Unknown name (Err (UnknownCall word)) = word.now ≡ name
Unknown name (Err (WrongCount kind given)) = ⊥
Unknown name (Err NoStroke) = ⊥
Unknown name (Err (NotANumber form word)) = ⊥

-- a line's name is asked first
abbrev pub Line : List ℕ → List (List ℕ) → Result Asked Mistake → Type 0
Line name ws r = ((k : Kind) × (name ≡ name_of k) × Says k ws r) ⊎ (((k : Kind) → name ≢ name_of k) × Unknown name r)
