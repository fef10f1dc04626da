-- framing: what is asked of bytes before they count as a sheet
use Rattle.std.specs.Prelude.{◌≡◌, ℕ, ◌+◌, ◌-◌, ◌*◌, ◌&&◌, List, [], ◌∷◌, ◌++◌, length, Some, None, Ok, Err, Result, ◌==◌, nat_le, slice_index}
use Rattle.span.specs.Questions.{Question, ask, each, first_no}
use Rattle.sheet.specs.declared.fault.Fault.{Fault}
use Rattle.sheet.specs.declared.fault.Fault.TheVariants.{Short, OtherScale, Head, Length}
use Rattle.sheet.specs.declared.framed.Framed.{Framed}
use Rattle.sheet.specs.Bytes.{number_at, unsigned_at}
use Rattle.sheet.specs.Layout.{distance, sheet_length}
use Rattle.sheet.specs.Sheets.{Sheet}

-- an answer that the questions decide: none got a no, or this is the first
abbrev pub Passes : {A : Type 0} → List (Question Fault) → Result A Fault → Type 0
Passes qs (Ok x) = first_no qs ≡ None
Passes qs (Err f) = first_no qs ≡ Some f

-- the length is asked before the distances
abbrev pub length_asked : List ℕ → ℕ → ℕ → Question Fault
length_asked bs n k = ask (length bs == sheet_length n k) (Length 0)

-- are the five distances those of n states and k settings?
abbrev pub distances_asked : List ℕ → ℕ → ℕ → List (Question Fault)
distances_asked bs n k = each 5 (λ s. ask (unsigned_at bs (length bs - 28 + 4 * s) == distance n k s) (Length (length bs - 28 + 4 * s)))

module _ (T : ℕ) (bs : List ℕ) where
  -- from the end: 4 bytes of S, then n, k, the narrowings and a zero
  abbrev pub n_at : ℕ
  n_at = slice_index bs (length bs - 4)

  abbrev pub k_at : ℕ
  k_at = slice_index bs (length bs - 3)

  abbrev pub m_at : ℕ
  m_at = slice_index bs (length bs - 2)

  abbrev pub head_questions : List (Question Fault)
  head_questions =
      ask (nat_le 1 n_at && nat_le n_at 12) (Head (length bs - 4))
      ∷ (ask (nat_le k_at 8) (Head (length bs - 3))
      ∷ (ask (nat_le m_at 16) (Head (length bs - 2))
      ∷ (ask (slice_index bs (length bs - 1) == 0) (Head (length bs - 1))
      ∷ [])))

  abbrev pub distance_questions : List (Question Fault)
  distance_questions = distances_asked bs n_at k_at

  -- of the bytes, for the scale T
  abbrev pub framing_questions : List (Question Fault)
  framing_questions =
      ask (nat_le 28 (length bs)) Short
      ∷ (ask (unsigned_at bs (length bs - 8) == T) (OtherScale (length bs - 8))
      ∷ (head_questions
      ++ (length_asked bs n_at k_at
      ∷ distance_questions)))

  abbrev pub framed_sheet : Sheet
  framed_sheet = record { scale = T; states = n_at; settings = k_at; narrowings = m_at; number = λ t. number_at bs (4 * t) }

-- what a framed sheet keeps
pub record Frames (T : ℕ) (bs : List ℕ) (f : Framed) : Type 0 where
  pub bytes_is : f.bytes.now ≡ bs
  pub scale_is : f.units ≡ T
  pub states_is : f.states ≡ n_at T bs
  pub settings_is : f.settings ≡ k_at T bs
  pub narrowings_is : f.narrowings ≡ m_at T bs

-- the first no decides, and there is no sheet then
abbrev pub Framing : ℕ → List ℕ → Result Framed Fault → Type 0
Framing T bs (Ok f) = (first_no (framing_questions T bs) ≡ None) × Frames T bs f
Framing T bs (Err f) = first_no (framing_questions T bs) ≡ Some f

-- a framed sheet as what it says
abbrev pub sheet_in : Framed → Sheet
sheet_in f = record { scale = f.units; states = f.states; settings = f.settings; narrowings = f.narrowings; number = λ t. number_at f.bytes.now (4 * t) }
