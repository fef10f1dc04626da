use Rattle.std.proofs.Common.{◌≡◌, ℕ, suc, ◌+◌, ◌-◌, ◌*◌, ◌/◌, ◌%◌, ◌^◌, ◌<◌, ◌≤◌, get_or, pos, sym, ap, ◌∙◌, subst, add-one, arith, w32, SFits, rules}
use Rattle.std.proofs.lemmas.Int.{to_z-of_z}
use Rattle.span.specs.Intervals.{point, ◌+ᵢ◌}
use Rattle.span.specs.Spans.{ends}
use Rattle.method.specs.Method.{size}
use Rattle.system.specs.Figures.{spans}
use Rattle.source.specs.Meaning.{told}
use Rattle.law.specs.History.{range_of}
use Rattle.docket.proofs.Drafts.{told_is}
use Rattle.sheet.specs.Layout.{at_box, at_claims, place_of}
use Rattle.sheet.specs.Sheets.{end}
use Rattle.sheet.proofs.Sections.{sections_of}
use Rattle.sheet.proofs.writing.number_of.Goals as goal

pub returns-then-t-ranges : goal.returns-then-t-ranges
returns-then-t-ranges g c M h b q s =
    let f : SFits w32 c.coefficient.result = search rules in
    let n = c.args.layout.states in
    let w = sections_of _ h b _ s c.args.t n c.args.layout.settings (c.requires.layout.0 ∙ q.states_is) (c.requires.layout.1 ∙ q.settings_is) in
    to_z-of_z w32 c.coefficient.result f
    ∙ c.coefficient.ensures
    ∙ ap (told (g.C.Source.meaning c.args.docket.now.source)) c.place_of.ensures
    ∙ told_is _ M h _ _ _ q (place_of n c.args.t)
    ∙ w.coefficients (omega (arith, c.ranges-2.ensures.is, c.if-t-ranges.true))

pub returns-then-t-table : goal.returns-then-t-table
returns-then-t-table g c M h b q s =
    let f : SFits w32 c.end_of.result = search rules in
    let t = c.args.t in
    let u : ℕ = t - c.ranges-then-t-table.result in
    let d = c.args.docket.now.desk in
    let w = sections_of _ h b _ s t c.args.layout.states c.args.layout.settings (c.requires.layout.0 ∙ q.states_is) (c.requires.layout.1 ∙ q.settings_is) in
    let small : size (ends c.range.result) < 2 ^ 31 = subst (λ r. size r < 2 ^ 31) (sym c.range.ensures) (omega (arith, d.figures.reach (u / 2 + 1), d.figures.scale.1)) in
    to_z-of_z w32 c.end_of.result f
    ∙ c.end_of.ensures small
    ∙ ap (λ r. end r (u % 2)) (c.range.ensures ∙ q.ranges_are (u / 2 + 1) ∙ ap (range_of h) (add-one (u / 2)))
    ∙ ap (λ r. end (range_of h (suc ((t - r) / 2))) ((t - r) % 2)) c.ranges-then-t-table.ensures.is
    ∙ w.ranges (omega (arith, c.ranges-2.ensures.is, c.if-t-ranges.false)) (omega (arith, c.table.ensures.is, c.if-t-table.true))

pub returns-then-t-guesses : goal.returns-then-t-guesses
returns-then-t-guesses g c M h b q s =
    let f : SFits w32 c.figure_at.result = search rules in
    let t = c.args.t in
    let e = c.args.held.now in
    let w = sections_of _ h b _ s t c.args.layout.states c.args.layout.settings (c.requires.layout.0 ∙ q.states_is) (c.requires.layout.1 ∙ q.settings_is) in
    to_z-of_z w32 c.figure_at.result f
    ∙ c.figure_at.ensures
    ∙ ap (λ xs. get_or xs (t - c.table-then-t-guesses-2.result) (pos 0)) (c.table-then-t-guesses.ensures.value ∙ ap (λ p. p.table) c.prepared.ensures)
    ∙ ap (λ r. get_or e.prepared.table (t - r) (pos 0)) c.table-then-t-guesses-2.ensures.is
    ∙ w.table (omega (arith, c.table.ensures.is, c.if-t-table.false)) (omega (arith, c.guesses.ensures.is, c.if-t-guesses.true))

pub returns-then-t-trial : goal.returns-then-t-trial
returns-then-t-trial g c M h b q s =
    let f : SFits w32 c.figure_at-then-t-trial.result = search rules in
    let t = c.args.t in
    let e = c.args.held.now in
    let w = sections_of _ h b _ s t c.args.layout.states c.args.layout.settings (c.requires.layout.0 ∙ q.states_is) (c.requires.layout.1 ∙ q.settings_is) in
    to_z-of_z w32 c.figure_at-then-t-trial.result f
    ∙ c.figure_at-then-t-trial.ensures
    ∙ ap (λ xs. get_or xs (t - c.guesses-then-t-trial-2.result) (pos 0)) (c.guesses-then-t-trial.ensures.value ∙ ap (λ p. p.guesses) c.prepared-then-t-trial.ensures)
    ∙ ap (λ r. get_or e.prepared.guesses (t - r) (pos 0)) c.guesses-then-t-trial-2.ensures.is
    ∙ w.guesses (omega (arith, c.guesses.ensures.is, c.if-t-guesses.false)) (omega (arith, c.trial.ensures.is, c.if-t-trial.true))

pub returns-then-t-claims : goal.returns-then-t-claims
returns-then-t-claims g c M h b q s =
    let f : SFits w32 c.end_of-then-t-claims.result = search rules in
    let t = c.args.t in
    let e = c.args.held.now in
    let u : ℕ = t - c.trial-then-t-claims.result in
    let at = c.trial-then-t-claims.ensures.is in
    let w = sections_of _ h b _ s t c.args.layout.states c.args.layout.settings (c.requires.layout.0 ∙ q.states_is) (c.requires.layout.1 ∙ q.settings_is) in
    let from : at_box c.args.layout.states c.args.layout.settings ≤ t = omega (arith, c.trial.ensures.is, c.if-t-trial.false) in
    let to : t < at_claims c.args.layout.states c.args.layout.settings = omega (arith, c.claims.ensures.is, c.if-t-claims.true) in
    let is : ends c.range_at.result ≡ spans e.trial (u / 2) = c.range_at.ensures ∙ ap (λ xs. spans xs (u / 2)) c.trial-then-t-claims-2.ensures.value in
    let near : size (spans e.trial (u / 2)) ≤ 100 * g.T.Scale.unit = subst (λ r. size (spans e.trial ((t - r) / 2)) ≤ 100 * g.T.Scale.unit) (sym at) (w.trial_size from to) in
    let small : size (ends c.range_at.result) < 2 ^ 31 = subst (λ r. size r < 2 ^ 31) (sym is) (omega (arith, g.met.T.Scale.most)) in
    to_z-of_z w32 c.end_of-then-t-claims.result f
    ∙ c.end_of-then-t-claims.ensures small
    ∙ ap (λ r. end r (u % 2)) is
    ∙ ap (λ r. end (spans e.trial ((t - r) / 2)) ((t - r) % 2)) at
    ∙ w.trial from to

pub returns-else-t-claims : goal.returns-else-t-claims
returns-else-t-claims g c M h b q s =
    let f : SFits w32 c.claim.result = search rules in
    let t = c.args.t in
    let e = c.args.held.now in
    let at = c.claims-else-t-claims.ensures.is in
    let w = sections_of _ h b _ s t c.args.layout.states c.args.layout.settings (c.requires.layout.0 ∙ q.states_is) (c.requires.layout.1 ∙ q.settings_is) in
    let from : at_claims c.args.layout.states c.args.layout.settings ≤ t = omega (arith, c.claims.ensures.is, c.if-t-claims.false) in
    to_z-of_z w32 c.claim.result f
    ∙ c.claim.ensures (subst (λ r. (t - r) / 2 < e.prepared.states) (sym at) (w.claims_row from c.requires.below))
    ∙ ap (λ r. end (point (get_or e.prepared.guesses ((t - r) / 2) (pos 0)) +ᵢ spans e.correction ((t - r) / 2)) ((t - r) % 2)) at
    ∙ w.claims from c.requires.below
