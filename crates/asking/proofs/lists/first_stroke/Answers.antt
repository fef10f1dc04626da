use Rattle.std.proofs.Common.{◌≡◌, codes, rules}
use borrow.Author.Tests.{tests}
use Rattle.std.proofs.lemmas.Iterator.{IsFirst-from_position, YieldsList-from_slice}
use Rattle.std.specs.Cmp.Lexicographic.{other_text, same_text}
use Rattle.asking.proofs.Amounts.{stroke_found}
use Rattle.asking.proofs.lists.first_stroke.Goals as goal

pub returns : goal.returns
returns c =
    stroke_found c.args.words.now c.position.result
    (IsFirst-from_position _ _ _ (λ w. w.now ≡ codes "/") (λ w. w.now ≡ codes "/" → ⊥) c.position.ensures.ran (YieldsList-from_slice c.args.words.now cc) (λ x q k. search (rules, tests, same_text)) (λ x q k. search (rules, tests, other_text)))
