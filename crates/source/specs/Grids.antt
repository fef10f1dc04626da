-- what a grid of numbers means: a place's number stands at the place's index
use Rattle.std.specs.Prelude.{◌≡◌, ℕ, Bool, cond, ◌&&◌, List, [], ◌∷◌, length, ℤ, pos, ◌+ℤ◌, Some, None, Ok, Err, Option, Result, nat_le, nat_lt, slice_index_or, slice_set, unsigned_abs}
use Rattle.span.specs.Questions.{Question, ask, first_no}
use Rattle.source.specs.declared.fault.Fault.{Fault}
use Rattle.source.specs.declared.fault.Fault.TheVariants.{OutOfRange, Full, SumTooLarge}
use Rattle.source.specs.declared.place.Place.{Place}
use Rattle.source.specs.Meaning.{Meaning, by_kind, kind_of, in_range, index_of, count, limit}

-- the places in range whose index a run of m numbers for the matrix, or of n for the payouts, reaches
abbrev pub stands : ℕ → ℕ → Place → Bool
stands m n p = in_range p && nat_lt (index_of p) (by_kind m n (kind_of p))

-- a grid of such runs that nothing was posted to
abbrev pub grid_opened : ℕ → ℕ → Meaning
grid_opened m n = record {
  coefficient = λ q. pos 0;
  held = stands m n;
  capacity = count (stands m n);
  standing = stands m n;
}

abbrev pub grid_means : List ℤ → List ℤ → Meaning
grid_means xs ys = record {
  coefficient = λ q. cond (stands (length xs) (length ys) q) (slice_index_or (by_kind xs ys (kind_of q)) (index_of q) (pos 0)) (pos 0);
  held = stands (length xs) (length ys);
  capacity = count (stands (length xs) (length ys));
  standing = stands (length xs) (length ys);
}

-- ---- one run of numbers
-- the number at a place that the run reaches
abbrev pub run_asked : List ℤ → Place → Option ℤ
run_asked xs p = cond (in_range p && nat_lt (index_of p) (length xs)) (Some (slice_index_or xs (index_of p) (pos 0))) None

abbrev pub run_questions : List ℤ → Place → ℤ → List (Question Fault)
run_questions xs p a =
    ask (in_range p) (OutOfRange p)
    ∷ ask (nat_lt (index_of p) (length xs)) (Full p)
    ∷ ask (nat_le (unsigned_abs (slice_index_or xs (index_of p) (pos 0) +ℤ a)) limit) (SumTooLarge p)
    ∷ []

-- a post on the run xs answered r and left ys
abbrev pub RunPosted : List ℤ → Place → ℤ → Result (Unit {0}) Fault → List ℤ → Type 0
RunPosted xs p a (Ok x) ys =
    (first_no (run_questions xs p a) ≡ None) × (ys ≡ slice_set xs (index_of p) (slice_index_or xs (index_of p) (pos 0) +ℤ a))
RunPosted xs p a (Err f) ys = (first_no (run_questions xs p a) ≡ Some f) × (ys ≡ xs)
