-- the exact words for a line that asks nothing
use Rattle.std.specs.Prelude.{ℕ, cond, List, ◌++◌, codes, decimal, ◌==◌}
use Rattle.asking.specs.declared.kind.Kind.{Kind}
use Rattle.asking.specs.declared.mistake.Mistake.{Mistake}
use Rattle.asking.specs.declared.mistake.Mistake.TheVariants.{UnknownCall, WrongCount, NoStroke, NotANumber}
use Rattle.asking.specs.Forms.{width_text}
use Rattle.asking.specs.Usages.{usage_text}

abbrev pub were_text : ℕ → List ℕ
were_text given = cond (given == 1) (codes "number was") (codes "numbers were")

abbrev pub count_text : Kind → ℕ → List ℕ
count_text kind given = codes "expected " ++ (usage_text kind ++ (codes "; " ++ (decimal given ++ (codes " " ++ (were_text given ++ codes " given")))))

abbrev pub mistake_text : Mistake → List ℕ
mistake_text (UnknownCall word) = codes "\"" ++ (word.now ++ codes "\" is no call; expected open, post-matrix, post-payout, range, propose, try, run, narrow, row, table, bring, span, span-add, span-sub, span-mul, span-back or audit")
mistake_text (WrongCount kind given) = count_text kind given
mistake_text NoStroke = codes "expected propose r.. / g..; no stroke parts the two lists"
mistake_text (NotANumber form word) = codes "\"" ++ (word.now ++ (codes "\" is not a whole number from " ++ width_text form))
