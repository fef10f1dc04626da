-- the exact words for a line that is no call
use Rattle.std.specs.Prelude.{ℕ, cond, List, ◌++◌, codes, decimal, ◌==◌}
use Rattle.script.specs.declared.kind.Kind.{Kind}
use Rattle.script.specs.declared.mistake.Mistake.{Mistake}
use Rattle.script.specs.declared.mistake.Mistake.TheVariants.{UnknownCall, WrongCount, NotANumber}
use Rattle.script.specs.Kinds.{name_of, takes}

abbrev pub count_text : Kind → ℕ → List ℕ
count_text kind given = name_of kind ++ (codes " takes " ++ (decimal (takes kind) ++ (codes " " ++ (cond (takes kind == 1) (codes "number") (codes "numbers") ++ (codes ", " ++ (decimal given ++ (codes " " ++ (cond (given == 1) (codes "was") (codes "were") ++ codes " given"))))))))

abbrev pub mistake_text : Mistake → List ℕ
mistake_text (UnknownCall word) = codes "\"" ++ (word.now ++ codes "\" is no call; expected bring, span, span-add, span-sub, span-mul, span-back or audit")
mistake_text (WrongCount kind given) = count_text kind given
mistake_text (NotANumber word) = codes "\"" ++ (word.now ++ codes "\" is not a whole number from -9,223,372,036,854,775,808 to 9,223,372,036,854,775,807")
