-- what a source of coefficients means
use Rattle.std.specs.Prelude.{◌≡◌, ℕ, zero, suc, ◌+◌, ◌*◌, ◌/◌, ◌%◌, Bool, false, cond, ◌&&◌, ◌||◌, List, [], ◌∷◌, ℤ, pos, ◌+ℤ◌, Some, None, Ok, Err, Option, Result, ◌==◌, nat_le, nat_lt, unsigned_abs}
use Rattle.span.specs.Questions.{Question, ask, first_no}
use Rattle.source.specs.declared.fault.Fault.{Fault}
use Rattle.source.specs.declared.fault.Fault.TheVariants.{OutOfRange, Full, SumTooLarge}
use Rattle.source.specs.declared.place.Place.{Place}
use Rattle.source.specs.declared.place.Place.TheVariants.{Matrix, Payout}

pub data Kind : Type 0 where
  matrix : Kind
  payout : Kind

abbrev pub kind_of : Place → Kind
kind_of (Matrix v i j) = matrix
kind_of (Payout v i) = payout

-- one for each kind
abbrev pub by_kind : {A : Type 0} → A → A → Kind → A
by_kind x y matrix = x
by_kind x y payout = y

-- places of one kind are the same exactly when all numbers are equal
abbrev pub same : Place → Place → Bool
same (Matrix v i j) (Matrix w r c) = v == w && i == r && j == c
same (Matrix v i j) (Payout w r) = false
same (Payout v i) (Matrix w r c) = false
same (Payout v i) (Payout w r) = v == w && i == r

-- parts go from 0 to 8, rows and columns from 0 to 11
abbrev pub in_range : Place → Bool
in_range (Matrix v i j) = nat_lt v 9 && nat_lt i 12 && nat_lt j 12
in_range (Payout v i) = nat_lt v 9 && nat_lt i 12

-- how many numbers below n pass a test
unfoldable pub counted : ℕ → (ℕ → Bool) → ℕ
counted zero f = 0
counted (suc n) f = counted n f + cond (f n) 1 0

-- the places of a kind by their index, in the order of their numbers
abbrev pub place_at : Kind → ℕ → Place
place_at matrix t = Matrix (t / 144) ((t / 12) % 12) (t % 12)
place_at payout t = Payout (t / 12) (t % 12)

-- the index of a place in range
abbrev pub index_of : Place → ℕ
index_of (Matrix v i j) = (v * 12 + i) * 12 + j
index_of (Payout v i) = v * 12 + i

abbrev pub places : Kind → ℕ
places matrix = 1296
places payout = 108

-- how many places of a kind are in a set
unfoldable pub count : (Place → Bool) → Kind → ℕ
count f k = counted (places k) (λ t. f (place_at k t))

-- the coefficient at every place, the places held, how many of a kind can be, and those that always are
pub record Meaning : Type 0 where
  pub coefficient : Place → ℤ
  pub held : Place → Bool
  pub capacity : Kind → ℕ
  pub standing : Place → Bool

-- asking a held place tells its coefficient, any other tells nothing
abbrev pub asked : Meaning → Place → Option ℤ
asked M p = cond (M.held p) (Some (M.coefficient p)) None

-- which counts as 0
abbrev pub told : Meaning → Place → ℤ
told M p = cond (M.held p) (M.coefficient p) (pos 0)

-- every coefficient 0, and only the standing places held
abbrev pub emptied : Meaning → Meaning
emptied M = record { coefficient = λ q. pos 0; held = M.standing; capacity = M.capacity; standing = M.standing }

-- the amount added at one place, which is then held; no other place altered
abbrev pub taken : Meaning → Place → ℤ → Meaning
taken M p a = record {
  coefficient = λ q. cond (same p q) (M.coefficient q +ℤ a) (M.coefficient q);
  held = λ q. same p q || M.held q;
  capacity = M.capacity;
  standing = M.standing;
}

-- the largest size of a sum
abbrev pub limit : ℕ
limit = 1073741824

abbrev pub post_questions : Meaning → Place → ℤ → List (Question Fault)
post_questions M p a =
    ask (in_range p) (OutOfRange p)
    ∷ ask (M.held p || nat_lt (count M.held (kind_of p)) (M.capacity (kind_of p))) (Full p)
    ∷ ask (nat_le (unsigned_abs (M.coefficient p +ℤ a)) limit) (SumTooLarge p)
    ∷ []

-- a post on M answered r and left N: the first no decides and changes nothing, every other post is accepted
abbrev pub Posting : Meaning → Place → ℤ → Result (Unit {0}) Fault → Meaning → Type 0
Posting M p a (Ok x) N = (first_no (post_questions M p a) ≡ None) × (N ≡ taken M p a)
Posting M p a (Err f) N = (first_no (post_questions M p a) ≡ Some f) × (N ≡ M)
