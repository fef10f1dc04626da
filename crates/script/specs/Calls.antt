-- a call taken apart again: its kind, and its numbers in their order
use Rattle.std.specs.Prelude.{List, [], ◌∷◌, ℤ}
use Rattle.script.specs.declared.call.Call.{Call}
use Rattle.script.specs.declared.call.Call.TheVariants.{Bring, Span, SpanAdd, SpanSub, SpanMul, SpanBack, Audit}
use Rattle.script.specs.declared.kind.Kind.{Kind}
use Rattle.script.specs.declared.kind.Kind.TheVariants as kind

abbrev pub kind_of : Call → Kind
kind_of (Bring v) = kind.Bring
kind_of (Span low high) = kind.Span
kind_of (SpanAdd a b c d) = kind.SpanAdd
kind_of (SpanSub a b c d) = kind.SpanSub
kind_of (SpanMul a b c d) = kind.SpanMul
kind_of (SpanBack low high) = kind.SpanBack
kind_of (Audit guess low high) = kind.Audit

abbrev pub numbers_of : Call → List ℤ
numbers_of (Bring v) = v ∷ []
numbers_of (Span low high) = low ∷ high ∷ []
numbers_of (SpanAdd a b c d) = a ∷ b ∷ c ∷ d ∷ []
numbers_of (SpanSub a b c d) = a ∷ b ∷ c ∷ d ∷ []
numbers_of (SpanMul a b c d) = a ∷ b ∷ c ∷ d ∷ []
numbers_of (SpanBack low high) = low ∷ high ∷ []
numbers_of (Audit guess low high) = guess ∷ low ∷ high ∷ []
