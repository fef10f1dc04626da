-- the exact words: bare lines for other programs, sentences for people
use Rattle.std.specs.Prelude.{ℕ, List, ◌++◌, ℤ, Ok, Err, codes, decimal, Result}
use Rattle.std.specs.Fmt.{signed_decimal}
use Rattle.span.specs.declared.fault.Fault.{Fault}
use Rattle.span.specs.declared.fault.Fault.TheVariants.{LowAboveHigh, TooLarge}
use Rattle.span.specs.Faults.{number, layer}
use Rattle.span.specs.Names.{layer_name, operation_name}
use Rattle.audit.specs.declared.Finding.{Finding}
use Rattle.script.specs.declared.answer.Answer.{Answer}
use Rattle.script.specs.declared.answer.Answer.TheVariants.{Figures, Range, Row}
use Rattle.wording.specs.declared.moved.Moved.{Moved}
use Rattle.wording.specs.declared.moved.Moved.TheVariants.{Neither, Low, High, Both}
use Rattle.wording.specs.Grouping.{grouped_text}
use Rattle.wording.specs.Moves.{moved, told_of, word_of}

-- bare
abbrev pub bare_answer : Answer → List ℕ
bare_answer (Figures lower upper) = codes "ok " ++ (signed_decimal lower ++ (codes " " ++ signed_decimal upper))
bare_answer (Range s) = codes "ok " ++ (signed_decimal s.low ++ (codes " " ++ signed_decimal s.high))
bare_answer (Row f) = codes "ok " ++ (signed_decimal f.due.low ++ (codes " " ++ (signed_decimal f.due.high ++ (codes " " ++ (signed_decimal f.dropped_low ++ (codes " " ++ (signed_decimal f.dropped_high ++ (codes " " ++ word_of (moved f)))))))))

abbrev pub bare_text : Result Answer Fault → List ℕ
bare_text (Ok a) = bare_answer a
bare_text (Err e) = codes "no " ++ (decimal (number e) ++ (codes " " ++ (layer_name (layer e) ++ codes " 0 0 0")))

-- for people
abbrev pub range_text : ℤ → ℤ → List ℕ
range_text low high = grouped_text low ++ (codes ".." ++ grouped_text high)

-- what dropping printed is told only where it differs
abbrev pub printed : Finding → Moved → List ℕ
printed f m = codes "; dropping remainders printed " ++ (range_text f.dropped_low f.dropped_high ++ (codes "; " ++ told_of m))

abbrev pub ends_text : Finding → Moved → List ℕ
ends_text f Neither = codes "; " ++ told_of Neither
ends_text f Low = printed f Low
ends_text f High = printed f High
ends_text f Both = printed f Both

abbrev pub row_text : Finding → List ℕ
row_text f = codes "must read " ++ (range_text f.due.low f.due.high ++ ends_text f (moved f))

abbrev pub answer_text : Answer → List ℕ
answer_text (Figures lower upper) = grouped_text lower ++ (codes " and " ++ grouped_text upper)
answer_text (Range s) = range_text s.low s.high
answer_text (Row f) = row_text f

abbrev pub sentence_text : Fault → List ℕ
sentence_text (LowAboveHigh low high) = codes "the low end, " ++ (grouped_text low ++ (codes ", is above the high end, " ++ grouped_text high))
sentence_text (TooLarge operation) = codes "the " ++ (operation_name operation ++ codes " does not fit signed 64 bits")

abbrev pub told_text : Result Answer Fault → List ℕ
told_text (Ok a) = answer_text a
told_text (Err e) = codes "turned down, " ++ (decimal (number e) ++ (codes " (" ++ (layer_name (layer e) ++ (codes "): " ++ sentence_text e))))
