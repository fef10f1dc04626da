-- the worked figures of posts and sheets, in millionths
use Rattle.std.specs.Prelude.{List, Option, option_map, ◌≡◌, ℕ, [], ◌∷◌, replicate, pos, Some, Ok, Err}
use Rattle.span.specs.Faults.{at}
use Rattle.span.specs.Questions.{first_no}
use Rattle.system.specs.declared.fault.Fault.TheVariants.{SumTooLarge}
use Rattle.source.specs.declared.place.Place.TheVariants.{Matrix}
use Rattle.source.specs.Grids.{grid_opened}
use Rattle.law.specs.declared.answer.Answer.TheVariants.{Done}
use Rattle.law.specs.declared.fault.Fault.TheVariants.{Figures}
use Rattle.law.specs.Calls.{Given}
use Rattle.law.specs.Calls.Given.{post}
use Rattle.law.specs.Decides.{decides}
use Rattle.sheet.specs.declared.fault.Fault.TheVariants.{OtherScale, Short}
use Rattle.sheet.specs.Faults.{number}
use Rattle.sheet.specs.Framing.{framing_questions}

-- the one coefficient of a new docket, over a grid with room for every place
abbrev pub first : ℕ → Given
first a = post (Matrix 0 0 0) (pos a)

pub record Filed : Type 0 where
  -- 600,000 and 400,000 at one matrix place pass; 1 more gets 2
  pub first_post : decides 1000000 (grid_opened 1296 108) [] (first 600000) ≡ Ok Done
  pub second_post : decides 1000000 (grid_opened 1296 108) (first 600000 ∷ []) (first 400000) ≡ Ok Done
  pub third_post : decides 1000000 (grid_opened 1296 108) (first 400000 ∷ (first 600000 ∷ [])) (first 1) ≡ Err (Figures (SumTooLarge (at 0 0 0)))
  -- 27 bytes get 30; 28 zero bytes get 31, at the first byte of S
  pub short_sheet : first_no (framing_questions 1000000 (replicate 27 0)) ≡ Some Short
  pub zero_sheet : first_no (framing_questions 1000000 (replicate 28 0)) ≡ Some (OtherScale 20)

-- the number that bytes get where a framing turns them down
abbrev pub framing_number : List ℕ → Option ℕ
framing_number bs = option_map number (first_no (framing_questions 1000000 bs))
