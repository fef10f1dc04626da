-- the calls by name, and how many numbers each takes
use Rattle.std.specs.Prelude.{◌≡◌, ℕ, List, Ok, Err, codes, Result, ◌≢◌}
use Rattle.script.specs.declared.kind.Kind.{Kind}
use Rattle.script.specs.declared.kind.NoKind.{NoKind}
use Rattle.script.specs.declared.kind.Kind.TheVariants.{Bring, Span, SpanAdd, SpanSub, SpanMul, SpanBack, Audit}

abbrev pub name_of : Kind → List ℕ
name_of Bring = codes "bring"
name_of Span = codes "span"
name_of SpanAdd = codes "span-add"
name_of SpanSub = codes "span-sub"
name_of SpanMul = codes "span-mul"
name_of SpanBack = codes "span-back"
name_of Audit = codes "audit"

abbrev pub takes : Kind → ℕ
takes Bring = 1
takes Span = 2
takes SpanAdd = 4
takes SpanSub = 4
takes SpanMul = 4
takes SpanBack = 2
takes Audit = 3

-- a word is read as the kind that has this name, if one has
abbrev pub IsNamed : List ℕ → Result Kind NoKind → Type 0
IsNamed word (Ok k) = word ≡ name_of k
IsNamed word (Err e) = (k : Kind) → word ≢ name_of k
