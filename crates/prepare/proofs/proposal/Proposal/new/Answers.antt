use Rattle.std.proofs.Common.{◌≡◌, ℕ, ◌*◌, ◌/◌, ◌%◌, Ok, Err, Result, MatchResult, IsErrAnd, length, refl, subst, rules}
use Rattle.std.proofs.lemmas.Result.{err_from_is_err_and}
use Rattle.prepare.specs.declared.fault.Fault.{Fault}
use Rattle.prepare.specs.declared.fault.Fault.TheVariants.{TableTooLarge, GuessTooLarge}
use Rattle.prepare.specs.Rows.{Copied}
use Rattle.prepare.proofs.Counts.{first_count, second_count, count_no, table_no, guess_no, numbers_yes}
use Rattle.prepare.proofs.Filling.{copied_same}
use Rattle.prepare.proofs.proposal.Proposal.new.Goals as goal
use Rattle.prepare.proofs.proposal.Proposal.new.Goals.{then-table-n-via-then-table-n, then-table-n-via-else-table-n+then-guesses-n}

-- where a fault was made of the place of the first number beyond the limit
faulted : {A : Type 0} (P : A → Type 0) (Q : ℕ → Type 0) (R : ℕ → Fault → Type 0) (r : Result A ℕ) (m : Result A Fault) (f : Fault) → MatchResult r P Q → MatchResult r (λ x. m ≡ Ok x) (λ e. IsErrAnd m (R e)) → m ≡ Err f → (t : ℕ) × Q t × R t f
faulted P Q R (Ok x) m f h k e = cc
faulted P Q R (Err t) (Ok x) f h k e = cc
faulted P Q R (Err t) (Err q) f h k e = let same : q ≡ f = cc in (t, h, subst (R t) same k)

pub returns-then-table-n : goal.returns-then-table-n
returns-then-table-n g c =
    let s = c.args.system.now in
    let r = c.args.table.now in
    let h = c.args.guesses.now in
    elim c.then-table-n.branch [
      | then-table-n-via-then-table-n w ↦ count_no s r h _ _ c.states-n.ensures c.units-units.ensures (first_count s r h _ _ c.states-n.ensures c.units-units.ensures w.if-table-n.true)
      | then-table-n-via-else-table-n+then-guesses-n w ↦ count_no s r h _ _ c.states-n.ensures c.units-units.ensures (second_count s r h _ _ c.states-n.ensures c.units-units.ensures w.if-guesses-n.true)
    ]

pub returns-in_err-table : goal.returns-in_err-table
returns-in_err-table g c =
    let p = err_from_is_err_and c.from_residual.result c.from_residual.ensures.1 in
    let k = faulted _ _ _ c.limited.result c.map_err.result c.in_err-table.field-0.0 c.limited.ensures c.map_err.ensures.cases c.in_err-table.was in
    let e : c.in_err-table.field-0.0 ≡ TableTooLarge (k.0 / c.states-n.result) (k.0 % c.states-n.result) = search rules in
    rw (p.1, p.2, e) (table_no c.args.system.now c.args.table.now c.args.guesses.now _ _ c.states-n.ensures c.units-units.ensures k.0 c.if-table-n.false c.if-guesses-n.false k.1.0 k.1.1)

pub returns-in_err-guesses : goal.returns-in_err-guesses
returns-in_err-guesses g c =
    let p = err_from_is_err_and c.from_residual-in_err-guesses.result c.from_residual-in_err-guesses.ensures.1 in
    let k = faulted _ _ _ c.limited-2.result c.map_err-2.result c.in_err-guesses.field-0.0 c.limited-2.ensures c.map_err-2.ensures.cases c.in_err-guesses.was in
    let e : c.in_err-guesses.field-0.0 ≡ GuessTooLarge k.0 = search rules in
    let copied : Copied (50 * c.units-units.result) (length c.args.table.now) c.args.table.now c.in_ok-table.table = search rules in
    rw (p.1, p.2, e) (guess_no c.args.system.now c.args.table.now c.args.guesses.now _ _ c.states-n.ensures c.units-units.ensures k.0 _ c.if-table-n.false c.if-guesses-n.false copied k.1.0 k.1.1)

pub returns : goal.returns
returns g c =
    let table : Copied (50 * c.units-units.result) (length c.args.table.now) c.args.table.now c.in_ok-table.table = search rules in
    let guesses : Copied (100 * c.units-units.result) (length c.args.guesses.now) c.args.guesses.now c.in_ok-guesses.guesses = search rules in (
      numbers_yes c.args.system.now c.args.table.now c.args.guesses.now _ _ c.states-n.ensures c.units-units.ensures _ _ c.if-table-n.false c.if-guesses-n.false table guesses,
      record {
        system = refl;
        table = copied_same _ _ _ table;
        guesses = copied_same _ _ _ guesses;
      },
    )
