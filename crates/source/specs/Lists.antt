-- what a list of entries means: the first entries, one for each place held
use Rattle.std.specs.Prelude.{◌≡◌, ℕ, zero, suc, ◌≤◌, Bool, true, false, cond, ◌||◌, List, [], ◌∷◌, map, length, take, ℤ, pos, Ok, Err, Result}
use Rattle.source.specs.declared.entry.Entry.{Entry}
use Rattle.source.specs.declared.entry.MatrixPlace.{MatrixPlace}
use Rattle.source.specs.declared.entry.PayoutPlace.{PayoutPlace}
use Rattle.source.specs.declared.entry.Refusal.{Refusal}
use Rattle.source.specs.declared.entry.Refusal.TheVariants.{NoRoom, TooLarge}
use Rattle.source.specs.declared.fault.Fault.{Fault}
use Rattle.source.specs.declared.fault.Fault.TheVariants.{Full, SumTooLarge}
use Rattle.source.specs.declared.place.Place.{Place}
use Rattle.source.specs.declared.place.Place.TheVariants.{Matrix, Payout}
use Rattle.source.specs.Meaning.{Meaning, Kind, matrix, payout, by_kind, kind_of, in_range, same}

abbrev pub of_matrix : MatrixPlace → Place
of_matrix p = Matrix p.part p.row p.column

abbrev pub of_payout : PayoutPlace → Place
of_payout p = Payout p.part p.row

-- the places of the first n entries
abbrev pub places_of : {P : Type 0} → (P → Place) → ℕ → List (Entry P) → List Place
places_of f n xs = map (λ e. f e.place) (take n xs)

abbrev pub listed : List Place → Place → Bool
listed [] q = false
listed (p ∷ ps) q = same p q || listed ps q

-- the sum of the first entry at a place among the first n
abbrev pub sum_of : {P : Type 0} → (P → Place) → ℕ → List (Entry P) → Place → ℤ
sum_of f zero xs q = pos 0
sum_of f (suc n) [] q = pos 0
sum_of f (suc n) (e ∷ xs) q = cond (same (f e.place) q) e.sum (sum_of f n xs q)

-- pairwise different, in range, of one kind
abbrev pub Apart : Kind → List Place → Type 0
Apart k [] = Unit {0}
Apart k (p ∷ ps) = (kind_of p ≡ k) × (in_range p ≡ true) × (listed ps p ≡ false) × Apart k ps

abbrev pub Kept : {P : Type 0} → Kind → (P → Place) → ℕ → List (Entry P) → Type 0
Kept k f n xs = (n ≤ length xs) × Apart k (places_of f n xs)

abbrev pub list_means : List (Entry MatrixPlace) → ℕ → List (Entry PayoutPlace) → ℕ → Meaning
list_means xs m ys n = record {
  coefficient = λ q. by_kind (sum_of of_matrix m xs q) (sum_of of_payout n ys q) (kind_of q);
  held = λ q. by_kind (listed (places_of of_matrix m xs) q) (listed (places_of of_payout n ys) q) (kind_of q);
  capacity = by_kind (length xs) (length ys);
  standing = λ q. false;
}

abbrev pub ListSound : List (Entry MatrixPlace) → ℕ → List (Entry PayoutPlace) → ℕ → Type 0
ListSound xs m ys n = Kept matrix of_matrix m xs × Kept payout of_payout n ys

-- a list with room for that many of each kind that nothing was posted to
abbrev pub list_opened : ℕ → ℕ → Meaning
list_opened m n = record {
  coefficient = λ q. pos 0;
  held = λ q. false;
  capacity = by_kind m n;
  standing = λ q. false;
}

-- why a tally added nothing, as the source tells it
abbrev pub refused_at : Place → Refusal → Fault
refused_at p NoRoom = Full p
refused_at p TooLarge = SumTooLarge p

-- a tally's answer as the source's
abbrev pub answer_of : Place → Result (Unit {0}) Refusal → Result (Unit {0}) Fault
answer_of p (Ok x) = Ok x
answer_of p (Err f) = Err (refused_at p f)
