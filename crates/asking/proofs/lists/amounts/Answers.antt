use Rattle.std.proofs.Common.{◌≡◌, [], ◌∷◌, ◌++◌, vec_items, refl, w32, SFits, rules}
use Rattle.std.proofs.lemmas.Int.{to_z-of_z}
use Rattle.std.proofs.lemmas.Result.{err_from_is_err_and}
use Rattle.asking.specs.Lines.{texts}
use Rattle.asking.proofs.Words.{as_many, at_place}
use Rattle.asking.proofs.Amounts.{all_read, bad_here, one_more}
use Rattle.asking.proofs.lists.amounts.Goals as goal

pub returns-in_err-amount : goal.returns-in_err-amount
returns-in_err-amount c =
    let p = err_from_is_err_and c.from_residual.result c.from_residual.ensures.1 in
    rw (p.1, p.2) (bad_here (texts c.args.words.now) c.loop-word.invariant c.in_err-amount.field-0.0 (rw as_many c.loop-word-test.true) (at_place c.args.words.now c.loop-word.word-index _ c.loop-word-test.true) c.in_err-amount.ensures)

pub loop-word-preserved : goal.loop-word-preserved
loop-word-preserved c =
    let f : SFits w32 c.in_ok-amount.field-0 = search rules in
    let put : vec_items c.push.new.self ≡ vec_items c.loop-word.numbers ++ (c.in_ok-amount.field-0 ∷ []) = simp to_z-of_z at c.in_ok-push.ensures.items in
    one_more (texts c.args.words.now) c.loop-word.invariant c.in_ok-amount.field-0 (rw as_many c.loop-word-test.true) (at_place c.args.words.now c.loop-word.word-index _ c.loop-word-test.true) c.in_ok-amount.ensures put

pub returns : goal.returns
returns c = all_read (texts c.args.words.now) c.loop-word.invariant c.loop-word.numbers (rw as_many c.loop-word-test.false) refl
