-- what a line of an input is taken as, and what all put to one run, in order
use Rattle.std.specs.Prelude.{◌≡◌, ℕ, List, [], ◌∷◌, ◌++◌, Ok, Err, string_bytes}
use Rattle.script.specs.declared.mistake.Mistake as script
use Rattle.script.specs.Reading.{Read}
use Rattle.script.specs.Mistakes as scripts
use Rattle.asking.specs.declared.mistake.Mistake as asking
use Rattle.asking.specs.Lines.{Line}
use Rattle.asking.specs.Mistakes as askings
use Rattle.pages.specs.Puts as puts
use Rattle.pages.specs.Puts.{first_puts, posed_count, posed_puts}
use Rattle.pages.specs.declared.posed.Posed.TheVariants.{Game, Write, Check}
use Rattle.pages.specs.declared.step.Step.{Step}
use Rattle.pages.specs.declared.step.Step.TheVariants.{NoCall, Bad, Pure, Put}

-- a line of figures is its call, or what is wrong with it
abbrev pub Computes : List ℕ → List (List ℕ) → Step → Type 0
Computes name ws NoCall = ⊥
Computes name ws (Bad what) = (m : script.Mistake) × Read name ws (Err m) × (string_bytes what ≡ scripts.mistake_text m)
Computes name ws (Pure call) = Read name ws (Ok call)
Computes name ws (Put p) = ⊥

-- and so is a line that asks of a docket
abbrev pub Asks : List ℕ → List (List ℕ) → Step → Type 0
Asks name ws NoCall = ⊥
Asks name ws (Bad what) = (m : asking.Mistake) × Line name ws (Err m) × (string_bytes what ≡ askings.mistake_text m)
Asks name ws (Pure call) = ⊥
Asks name ws (Put (Game a)) = Line name ws (Ok a)
Asks name ws (Put (Write l)) = ⊥
Asks name ws (Put (Check bs own)) = ⊥

abbrev pub puts_of : Step → List puts.Put
puts_of NoCall = []
puts_of (Bad what) = []
puts_of (Pure call) = []
puts_of (Put p) = first_puts (posed_count p) (posed_puts p)

abbrev pub all_puts : List Step → List puts.Put
all_puts [] = []
all_puts (s ∷ ss) = puts_of s ++ all_puts ss
