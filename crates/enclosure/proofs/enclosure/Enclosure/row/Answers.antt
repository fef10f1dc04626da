use Rattle.std.proofs.Common.{◌≡◌, ℕ, ◌*◌, ◌<◌, ◌≤◌, List, length, get_or, ℤ, pos, sym, refl, ap, ◌∙◌, subst, arith, w32, w64, SFits, rules}
use Rattle.std.proofs.lemmas.Int.{to_z-of_z}
use Rattle.std.proofs.lemmas.Bool.{le-ltb, lt-ltb}
use Rattle.span.specs.Intervals.{point}
use Rattle.span.specs.Spans.{ends}
use Rattle.span.proofs.Verdicts.{no_none, no_here, no_after}
use Rattle.method.specs.Method.{size}
use Rattle.method.proofs.Bounds.{interval_fits_units}
use Rattle.prepare.proofs.Additions.{fits_same, plus_same}
use Rattle.prepare.proofs.Bits.{read_narrow, spans_at}
use Rattle.prepare.proofs.Exact.{exact, fits_ok}
use Rattle.enclosure.proofs.Scales.{row_size}
use Rattle.enclosure.proofs.enclosure.Enclosure.row.Goals as goal

pub returns-then-row-states : goal.returns-then-row-states
returns-then-row-states c = no_here _ _ _ (le-ltb c.args.row c.args.self.now.prepared.states (omega (arith, c.states.ensures, c.if-row-states.true)))

pub unwrap-requires : goal.unwrap-requires
unwrap-requires c =
    let e = c.args.self.now in
    let row : ℕ = c.args.row in
    let long : length e.correction ≡ 12 = search rules in
    let there : row < length e.correction = omega (arith, e.prepared.size.1, c.if-row-states.false, c.states.ensures) in
    let narrow : SFits w32 (get_or c.guesses.result.now row (pos 0)) = search rules in
    let wide : SFits w64 c.from.result = search rules in
    let guess : ends c.point-guess.result ≡ point (get_or e.prepared.guesses row (pos 0)) = c.point-guess.ensures ∙ ap point (to_z-of_z w64 _ wide ∙ read_narrow _ _ narrow c.from.ensures ∙ ap (λ (xs : List ℤ). get_or xs row (pos 0)) c.guesses.ensures.value) in
    let sum = plus_same guess (spans_at e.correction row _ _ there refl) in
    fits_ok _ _ _ c.add.ensures.value (fits_same sum (interval_fits_units 200 e.prepared.units _ e.prepared.scale.1 (omega arith) (row_size e row)))

pub returns : goal.returns
returns c =
    let e = c.args.self.now in
    let row : ℕ = c.args.row in
    let long : length e.correction ≡ 12 = search rules in
    let there : row < length e.correction = omega (arith, e.prepared.size.1, c.if-row-states.false, c.states.ensures) in
    let narrow : SFits w32 (get_or c.guesses.result.now row (pos 0)) = search rules in
    let wide : SFits w64 c.from.result = search rules in
    let guess : ends c.point-guess.result ≡ point (get_or e.prepared.guesses row (pos 0)) = c.point-guess.ensures ∙ ap point (to_z-of_z w64 _ wide ∙ read_narrow _ _ narrow c.from.ensures ∙ ap (λ (xs : List ℤ). get_or xs row (pos 0)) c.guesses.ensures.value) in
    let sum = plus_same guess (spans_at e.correction row _ _ there refl) in
    let r = exact _ _ _ _ c.add.ensures.value c.unwrap.ensures ∙ sum in (
      no_after _ _ _ _ (lt-ltb row e.prepared.states (omega (arith, c.states.ensures, c.if-row-states.false))) no_none,
      record { range = r; within = subst (λ z. size z ≤ 200 * e.prepared.units) (sym r) (row_size e row) },
    )
