use Rattle.std.proofs.Common.{◌≡◌, ◌<◌, ◌≤◌, true, false, ltb, length, get_or, set, pos, nat_abs, ◌+ℤ◌, Some, None, Err, sym, ◌∙◌, refl, ap, arith, w32, SFits, rules}
use Rattle.std.proofs.lemmas.Bool.{le-leb, le-ltb, lt-leb, lt-ltb}
use Rattle.std.proofs.lemmas.Int.{to_z-of_z}
use Rattle.source.specs.declared.fault.Fault.TheVariants.{OutOfRange, Full, SumTooLarge}
use Rattle.source.specs.Meaning.{in_range, index_of, limit}
use Rattle.source.proofs.Runs.{index_told, none_told}
use Rattle.span.proofs.Verdicts.{no_none, no_here, no_after}
use Rattle.source.proofs.grid.post_run.Goals as goal

pub returns-in_err-at : goal.returns-in_err-at
returns-in_err-at c =
    let none : c.index.result ≡ None = search rules in
    let is : c.from_residual.result ≡ Err (OutOfRange c.args.place) = search rules in
    let outside = none_told (in_range c.args.place) (index_of c.args.place) (sym none ∙ c.index.ensures) in
    rw is (no_here _ _ _ outside, refl)

pub returns-in_err-held : goal.returns-in_err-held
returns-in_err-held c =
    let is : c.from_residual-in_err-held.result ≡ Err (Full c.args.place) = search rules in
    let some : c.index.result ≡ Some c.in_ok-at.at = search rules in
    let past : length c.args.run.now ≤ c.in_ok-at.at = search rules in
    let at = index_told (in_range c.args.place) (index_of c.args.place) c.in_ok-at.at (sym some ∙ c.index.ensures) in
    let beyond : ltb (index_of c.args.place) (length c.args.run.now) ≡ false = le-ltb _ _ (omega (arith, at.1, past)) in
    rw is (no_after _ _ _ _ at.0 (no_here _ _ _ beyond), refl)

pub returns-in_err-sum : goal.returns-in_err-sum
returns-in_err-sum c =
    let is : c.from_residual-in_err-sum.result ≡ Err (SumTooLarge c.args.place) = search rules in
    let none : c.sum_within.result ≡ None = search rules in
    let some : c.index.result ≡ Some c.in_ok-at.at = search rules in
    let fits : c.in_ok-at.at < length c.args.run.now = search rules in
    let at = index_told (in_range c.args.place) (index_of c.args.place) c.in_ok-at.at (sym some ∙ c.index.ensures) in
    let there : ltb (index_of c.args.place) (length c.args.run.now) ≡ true = lt-ltb _ _ (omega (arith, at.1, fits)) in
    let large : limit < nat_abs (get_or c.args.run.now c.in_ok-at.at (pos 0) +ℤ c.args.amount) = search rules in
    rw is (no_after _ _ _ _ at.0 (no_after _ _ _ _ there (no_here _ _ _ (rw (← at.1) (lt-leb _ _ large)))), refl)

pub returns : goal.returns
returns c =
    let some : c.index.result ≡ Some c.in_ok-at.at = search rules in
    let fits : c.in_ok-at.at < length c.args.run.now = search rules in
    let at = index_told (in_range c.args.place) (index_of c.args.place) c.in_ok-at.at (sym some ∙ c.index.ensures) in
    let there : ltb (index_of c.args.place) (length c.args.run.now) ≡ true = lt-ltb _ _ (omega (arith, at.1, fits)) in
    let small : nat_abs (get_or c.args.run.now c.in_ok-at.at (pos 0) +ℤ c.args.amount) ≤ limit = search rules in
    let stored : c.in_ok-sum.sum ≡ get_or c.args.run.now c.in_ok-at.at (pos 0) +ℤ c.args.amount = search rules in
    let sum : SFits w32 c.in_ok-sum.sum = search rules in
    (no_after _ _ _ _ at.0 (no_after _ _ _ _ there (no_after _ _ _ _ (rw (← at.1) (le-leb _ _ small)) no_none)), rw (← at.1, to_z-of_z w32 c.in_ok-sum.sum sum) (ap (set c.args.run.now c.in_ok-at.at) stored))
