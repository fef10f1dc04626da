-- what opening a system and posting into it answer, and what they leave
use Rattle.std.specs.Prelude.{◌≡◌, ℕ, ◌*◌, Bool, ◌&&◌, List, [], ◌∷◌, replicate, ℤ, pos, ◌+ℤ◌, Some, None, Ok, Err, Result, ◌≢◌, int_le, nat_le, nat_lt, slice_index_or, slice_set}
use Rattle.span.specs.Questions.{Question, ask, first_no, within}
use Rattle.span.specs.Intervals.{point}
use Rattle.system.specs.declared.fault.Fault.{Fault}
use Rattle.system.specs.declared.fault.Fault.TheVariants.{Outside, SumTooLarge, NoSetting, RangeReversed, RangeTooWide, Size}
use Rattle.system.specs.declared.system.System.{System}
use Rattle.span.specs.Faults.{at}
use Rattle.system.specs.Figures.{FirstBeyond, Small, matrix_index, matrix_spot, payout_index, payout_spot, spans}

-- ---- opening
abbrev pub is_size : ℕ → ℕ → Bool
is_size n k = nat_le 1 n && nat_le n 12 && nat_le k 8

abbrev pub opening_questions : ℕ → ℕ → List (Question Fault)
opening_questions n k = ask (is_size n k) (Size n k) ∷ []

-- nothing posted, every setting 0..0
pub record Fresh (S n k : ℕ) (s : System) : Type 0 where
  pub units : s.units ≡ S
  pub states : s.states ≡ n
  pub settings : s.settings ≡ k
  pub matrix : s.matrix ≡ replicate 1296 (pos 0)
  pub payouts : s.payouts ≡ replicate 108 (pos 0)
  pub ranges : (v : ℕ) → spans s.ranges v ≡ point (pos 0)

abbrev pub Opened : ℕ → ℕ → ℕ → Result System Fault → Type 0
Opened S n k (Ok s) = (first_no (opening_questions n k) ≡ None) × Fresh S n k s
Opened S n k (Err f) = first_no (opening_questions n k) ≡ Some f

-- ---- posts, into the system s
abbrev pub has_coefficient : System → ℕ → ℕ → ℕ → Bool
has_coefficient s v i j = nat_le v s.settings && nat_lt i s.states && nat_lt j s.states

abbrev pub has_payout : System → ℕ → ℕ → Bool
has_payout s v i = nat_le v s.settings && nat_lt i s.states

abbrev pub has_setting : System → ℕ → Bool
has_setting s v = nat_le 1 v && nat_le v s.settings

abbrev pub matrix_questions : System → ℕ → ℕ → ℕ → ℤ → List (Question Fault)
matrix_questions s v i j a =
    ask (has_coefficient s v i j) (Outside (at v i j))
    ∷ ask (within s.units 1 (slice_index_or s.matrix (matrix_index v i j) (pos 0) +ℤ a)) (SumTooLarge (at v i j))
    ∷ []

abbrev pub payout_questions : System → ℕ → ℕ → ℤ → List (Question Fault)
payout_questions s v i a =
    ask (has_payout s v i) (Outside (at v i 12))
    ∷ ask (within s.units 100 (slice_index_or s.payouts (payout_index v i) (pos 0) +ℤ a)) (SumTooLarge (at v i 12))
    ∷ []

abbrev pub range_questions : System → ℕ → ℤ → ℤ → List (Question Fault)
range_questions s v low high =
    ask (has_setting s v) (NoSetting v)
    ∷ ask (int_le low high) (RangeReversed v)
    ∷ ask (within s.units 1 low && within s.units 1 high) (RangeTooWide v)
    ∷ []

-- ---- what an accepted one leaves: t is s but for one figure
pub record SameSize (s t : System) : Type 0 where
  pub units : t.units ≡ s.units
  pub states : t.states ≡ s.states
  pub settings : t.settings ≡ s.settings

pub record MatrixAdded (s t : System) (v i j : ℕ) (a : ℤ) : Type 0 where
  pub kept : SameSize s t
  pub matrix : t.matrix ≡ slice_set s.matrix (matrix_index v i j) (slice_index_or s.matrix (matrix_index v i j) (pos 0) +ℤ a)
  pub payouts : t.payouts ≡ s.payouts
  pub ranges : t.ranges ≡ s.ranges

pub record PayoutAdded (s t : System) (v i : ℕ) (a : ℤ) : Type 0 where
  pub kept : SameSize s t
  pub matrix : t.matrix ≡ s.matrix
  pub payouts : t.payouts ≡ slice_set s.payouts (payout_index v i) (slice_index_or s.payouts (payout_index v i) (pos 0) +ℤ a)
  pub ranges : t.ranges ≡ s.ranges

pub record RangeSet (s t : System) (v : ℕ) (low high : ℤ) : Type 0 where
  pub kept : SameSize s t
  pub matrix : t.matrix ≡ s.matrix
  pub payouts : t.payouts ≡ s.payouts
  pub here : spans t.ranges v ≡ record { low = low; high = high }
  pub elsewhere : (u : ℕ) → (u ≢ v) → spans t.ranges u ≡ spans s.ranges u

-- ---- t is s with these coefficients and payouts
pub record With (s : System) (matrix payouts : List ℤ) (t : System) : Type 0 where
  pub kept : SameSize s t
  pub matrix_is : t.matrix ≡ matrix
  pub payouts_is : t.payouts ≡ payouts
  pub ranges : t.ranges ≡ s.ranges

-- the first number that is not within its limit, coefficients before payouts
pub data Beyond (s : System) (matrix payouts : List ℤ) : Fault → Type 0 where
  in_matrix : (i : ℕ) → FirstBeyond s.units matrix i → Beyond s matrix payouts (SumTooLarge (matrix_spot i))
  in_payouts : (i : ℕ) → Small s.units matrix → FirstBeyond (100 * s.units) payouts i → Beyond s matrix payouts (SumTooLarge (payout_spot i))

abbrev pub Filled : System → List ℤ → List ℤ → Result System Fault → Type 0
Filled s matrix payouts (Ok t) = With s matrix payouts t
Filled s matrix payouts (Err f) = Beyond s matrix payouts f

-- a call on s answered r and left t: the first no decides and changes nothing; else D holds
abbrev pub Decided : {A : Type 0} → List (Question Fault) → System → System → Result A Fault → Type 0 → Type 0
Decided qs s t (Ok x) D = (first_no qs ≡ None) × D
Decided qs s t (Err f) D = (first_no qs ≡ Some f) × (t ≡ s)
