-- the questions of a proposal's numbers alone, and the numbers as they are kept
use Rattle.std.specs.Prelude.{◌≡◌, ℕ, ◌*◌, ◌&&◌, List, ◌∷◌, ◌++◌, length, ℤ, pos, Some, None, Ok, Err, Result, ◌==◌, slice_index_or}
use Rattle.span.specs.Questions.{Question, ask, first_no}
use Rattle.span.specs.declared.scale.Scale.{Ghosts}
use Rattle.system.specs.declared.system.System.{System}
use Rattle.prepare.specs.declared.fault.Fault.{Fault}
use Rattle.prepare.specs.declared.fault.Fault.TheVariants.{Count}
use Rattle.prepare.specs.declared.proposal.Proposal.{Proposal}
use Rattle.method.specs.Method as method
use Rattle.prepare.specs.Proposals.{offer, table_questions, guess_questions}

abbrev pub number_questions : System → List ℤ → List ℤ → List (Question Fault)
number_questions s r g =
    let n : ℕ = s.states in
    ask (length r == n * n && length g == n) (Count (length r) (length g))
    ∷ (table_questions s.units n r ++ guess_questions s.units n g)

module _ {X : Type 0} {T : Ghosts X} where
  -- the kept numbers as the method's proposal
  abbrev pub offered : Proposal X T → method.Proposal
  offered p = offer p.system.now.states p.table p.guesses

  -- p is for the system s and keeps the numbers r and g, and 0 past them
  pub record Kept (s : System) (r g : List ℤ) (p : Proposal X T) : Type 0 where
    pub system : p.system.now ≡ s
    pub table : (t : ℕ) → slice_index_or p.table t (pos 0) ≡ slice_index_or r t (pos 0)
    pub guesses : (i : ℕ) → slice_index_or p.guesses i (pos 0) ≡ slice_index_or g i (pos 0)

  abbrev pub Taken : System → List ℤ → List ℤ → Result (Proposal X T) Fault → Type 0
  Taken s r g (Ok p) = (first_no (number_questions s r g) ≡ None) × Kept s r g p
  Taken s r g (Err f) = first_no (number_questions s r g) ≡ Some f
