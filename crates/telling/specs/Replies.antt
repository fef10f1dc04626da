-- a docket's replies in words: bare for other programs, in full for people
use Rattle.std.specs.Prelude.{ℕ, List, [], ◌∷◌, ◌++◌, Some, None, Ok, Err, codes, decimal, Option, Result}
use Rattle.std.specs.Fmt.{signed_decimal}
use Rattle.span.specs.declared.span.Span.{Span}
use Rattle.span.specs.Names.{layer_name}
use Rattle.law.specs.declared.answer.Answer.{Answer}
use Rattle.law.specs.declared.answer.Answer.TheVariants.{Done, Trial}
use Rattle.law.specs.declared.ask.Reply.{Reply}
use Rattle.law.specs.declared.ask.Reply.TheVariants.{Made, Told}
use Rattle.law.specs.declared.fault.Fault.{Fault}
use Rattle.law.specs.Faults.{number, layer, place}
use Rattle.wording.specs.Wording as wording
use Rattle.law.specs.Sentences.{sentence}

-- bare
abbrev pub bare_refusal : Fault → List ℕ
bare_refusal f = codes "no " ++ (decimal (number f) ++ (codes " " ++ (layer_name (layer f) ++ (codes " " ++ (decimal (place f).part ++ (codes " " ++ (decimal (place f).row ++ (codes " " ++ decimal (place f).column))))))))

abbrev pub ends_text : Span → List ℕ
ends_text s = codes " " ++ (signed_decimal s.low ++ (codes " " ++ signed_decimal s.high))

abbrev pub bare_answer : Answer → List ℕ
bare_answer Done = codes "ok"
bare_answer (Trial t) = codes "ok " ++ decimal t

abbrev pub bare_row : Result Span Fault → List ℕ
bare_row (Ok s) = codes "ok " ++ (signed_decimal s.low ++ (codes " " ++ signed_decimal s.high))
bare_row (Err f) = bare_refusal f

abbrev pub bare_text : Reply → List ℕ
bare_text (Made (Ok a)) = bare_answer a
bare_text (Made (Err f)) = bare_refusal f
bare_text (Told row) = bare_row row

abbrev pub range_of : Reply → Option Span
range_of (Made r) = None
range_of (Told (Ok s)) = Some s
range_of (Told (Err f)) = None

abbrev pub row_then : Option Span → List ℕ → List ℕ
row_then None rest = []
row_then (Some s) rest = ends_text s ++ rest

-- the rows up to the first that is no range
abbrev pub rows_text : List Reply → List ℕ
rows_text [] = []
rows_text (r ∷ rs) = row_then (range_of r) (rows_text rs)

abbrev pub begun : Option Span → List ℕ → List ℕ → List ℕ
begun None alone rows = alone
begun (Some s) alone rows = rows

-- where the first is none, its own line
abbrev pub table_text : List Reply → List ℕ
table_text [] = codes "ok"
table_text (r ∷ rs) = begun (range_of r) (bare_text r) (codes "ok" ++ rows_text (r ∷ rs))

-- for people
abbrev pub refusal_text : Fault → List ℕ
refusal_text f = codes "turned down, " ++ (decimal (number f) ++ (codes " (" ++ (layer_name (layer f) ++ (codes "): " ++ sentence f))))

abbrev pub told_answer : Answer → List ℕ
told_answer Done = codes "done"
told_answer (Trial t) = codes "accepted at trial " ++ decimal t

abbrev pub told_row : Result Span Fault → List ℕ
told_row (Ok s) = wording.range_text s.low s.high
told_row (Err f) = refusal_text f

abbrev pub told_text : Reply → List ℕ
told_text (Made (Ok a)) = told_answer a
told_text (Made (Err f)) = refusal_text f
told_text (Told row) = told_row row
