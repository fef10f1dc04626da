use Rattle.std.proofs.Common.{◌≡◌, ℕ, ◌+◌, ◌<◌, ◌≤◌, List, ◌∷◌, [], ◌++◌, length, pos, sym, refl, ap, ◌∙◌, le_refl, arith, w32, w64, SFits, rules}
use Rattle.std.proofs.lemmas.Int.{to_z-of_z}
use Rattle.std.proofs.lemmas.List.{length-append}
use Rattle.std.proofs.lemmas.Slice.Zip.{zip_turn, zip_end}
use Rattle.span.specs.declared.scale.Scale.{Ghosts}
use Rattle.span.specs.declared.span.Span.{Span}
use Rattle.span.specs.Intervals.{Interval, point, ◌*ᵢ◌, brought}
use Rattle.span.specs.Spans.{Fits, ends}
use Rattle.method.specs.Method as method
use Rattle.method.specs.Sums.{sumᵢ}
use Rattle.system.specs.Figures.{spans}
use Rattle.prepare.specs.declared.proposal.Proposal.{Proposal}
use Rattle.prepare.specs.Numbers.{offered}
use Rattle.prepare.specs.Partial.{weighed}
use Rattle.prepare.specs.Proposals.{game}
use Rattle.prepare.proofs.Additions.{fits_same, plus_same, times_same, same_sums, sum_more}
use Rattle.prepare.proofs.Bits.{read_narrow, spans_at}
use Rattle.prepare.proofs.Exact.{exact, fits_ok}
use Rattle.prepare.proofs.Limits.{correction_term, correction_sum}
use Rattle.prepare.proofs.proposal.Proposal.correction.Goals as goal

-- the spans are the leftovers, so what is weighed is the correction
module _ {X : Type 0} {T : Ghosts X} (least : 2 ≤ T.unit) (most : T.unit ≤ 1048576) (p : Proposal X T) (v i : ℕ) (xs : List Span) (h : (j : ℕ) → j < p.system.now.states → spans xs j ≡ method.leftover T.unit (game p.system.now) (offered p) v j) where
  same_weighed : (m : ℕ) → m ≤ p.system.now.states → weighed (offered p) xs i m ≡ sumᵢ m (λ j. point ((offered p).table i j) *ᵢ method.leftover T.unit (game p.system.now) (offered p) v j)
  same_weighed m l = same_sums m (λ j. point ((offered p).table i j) *ᵢ spans xs j) (λ j. point ((offered p).table i j) *ᵢ method.leftover T.unit (game p.system.now) (offered p) v j) (λ j k. times_same {s = point ((offered p).table i j)} refl (h j (omega arith)))

  term_fits : (j : ℕ) → j < p.system.now.states → Fits (point ((offered p).table i j) *ᵢ spans xs j)
  term_fits j l = fits_same (times_same {s = point ((offered p).table i j)} refl (h j l)) (correction_term least most p v i j)

  sum_fits : (m : ℕ) → m ≤ p.system.now.states → Fits (weighed (offered p) xs i m)
  sum_fits m l = fits_same (same_weighed m l) (correction_sum least most p v i m l)

pub unwrap-term-requires : goal.unwrap-term-requires
unwrap-term-requires g c =
    let p = c.args.self.now in
    let j : ℕ = length c.loop-r.yielded in
    let first : c.into_iter-r-iterator.result.a.rest.now ≡ c.row.result.now = cc in
    let second : c.into_iter-r-iterator.result.b.rest.now ≡ c.args.leftovers.now = cc in
    let turn = zip_turn c.row.result.now c.args.leftovers.now c.loop-r.yielded c.into_iter-r-iterator.result c.loop-r.r-iterator c.next.new.self c.next.result first second c.loop-r.yielded_by (c.in-Some.r, c.in-Some.e) c.in-Some.is c.next.ensures.steps in
    let below : j < p.system.now.states = omega (arith, turn.0, c.row.ensures.long) in
    let narrow : SFits w32 c.in-Some.r.now = search rules in
    let wide : SFits w64 c.from.result = search rules in
    let r : ends c.point.result ≡ point ((offered p).table c.args.row j) = c.point.ensures ∙ ap point (to_z-of_z w64 _ wide ∙ read_narrow _ _ narrow c.from.ensures ∙ turn.2 (pos 0) ∙ c.row.ensures.numbers j below) in
    let e : ends c.in-Some.e.now ≡ spans c.args.leftovers.now j = spans_at c.args.leftovers.now j c.in-Some.e.now c.in-Some.e.now turn.1 (turn.3 c.in-Some.e.now) in
    fits_ok _ _ _ c.multiply.ensures.value (fits_same (times_same r e) (term_fits g.met.T.Scale.least g.met.T.Scale.most p c.args.part c.args.row c.args.leftovers.now c.requires.leftovers j below))

pub unwrap-sum-requires : goal.unwrap-sum-requires
unwrap-sum-requires g c =
    let p = c.args.self.now in
    let j : ℕ = length c.loop-r.yielded in
    let first : c.into_iter-r-iterator.result.a.rest.now ≡ c.row.result.now = cc in
    let second : c.into_iter-r-iterator.result.b.rest.now ≡ c.args.leftovers.now = cc in
    let turn = zip_turn c.row.result.now c.args.leftovers.now c.loop-r.yielded c.into_iter-r-iterator.result c.loop-r.r-iterator c.next.new.self c.next.result first second c.loop-r.yielded_by (c.in-Some.r, c.in-Some.e) c.in-Some.is c.next.ensures.steps in
    let below : j < p.system.now.states = omega (arith, turn.0, c.row.ensures.long) in
    let narrow : SFits w32 c.in-Some.r.now = search rules in
    let wide : SFits w64 c.from.result = search rules in
    let r : ends c.point.result ≡ point ((offered p).table c.args.row j) = c.point.ensures ∙ ap point (to_z-of_z w64 _ wide ∙ read_narrow _ _ narrow c.from.ensures ∙ turn.2 (pos 0) ∙ c.row.ensures.numbers j below) in
    let e : ends c.in-Some.e.now ≡ spans c.args.leftovers.now j = spans_at c.args.leftovers.now j c.in-Some.e.now c.in-Some.e.now turn.1 (turn.3 c.in-Some.e.now) in
    let f : ℕ → Interval = λ j. point ((offered p).table c.args.row j) *ᵢ spans c.args.leftovers.now j in
    let term = exact _ _ _ _ c.multiply.ensures.value c.unwrap-term.ensures ∙ times_same r e in
    fits_ok _ _ _ c.add.ensures.value (fits_same (plus_same c.loop-r.invariant.2 term ∙ sum_more j f) (sum_fits g.met.T.Scale.least g.met.T.Scale.most p c.args.part c.args.row c.args.leftovers.now c.requires.leftovers (j + 1) (omega arith)))

pub loop-r-preserved : goal.loop-r-preserved
loop-r-preserved g c =
    let p = c.args.self.now in
    let j : ℕ = length c.loop-r.yielded in
    let first : c.into_iter-r-iterator.result.a.rest.now ≡ c.row.result.now = cc in
    let second : c.into_iter-r-iterator.result.b.rest.now ≡ c.args.leftovers.now = cc in
    let turn = zip_turn c.row.result.now c.args.leftovers.now c.loop-r.yielded c.into_iter-r-iterator.result c.loop-r.r-iterator c.next.new.self c.next.result first second c.loop-r.yielded_by (c.in-Some.r, c.in-Some.e) c.in-Some.is c.next.ensures.steps in
    let below : j < p.system.now.states = omega (arith, turn.0, c.row.ensures.long) in
    let narrow : SFits w32 c.in-Some.r.now = search rules in
    let wide : SFits w64 c.from.result = search rules in
    let r : ends c.point.result ≡ point ((offered p).table c.args.row j) = c.point.ensures ∙ ap point (to_z-of_z w64 _ wide ∙ read_narrow _ _ narrow c.from.ensures ∙ turn.2 (pos 0) ∙ c.row.ensures.numbers j below) in
    let e : ends c.in-Some.e.now ≡ spans c.args.leftovers.now j = spans_at c.args.leftovers.now j c.in-Some.e.now c.in-Some.e.now turn.1 (turn.3 c.in-Some.e.now) in
    let f : ℕ → Interval = λ j. point ((offered p).table c.args.row j) *ᵢ spans c.args.leftovers.now j in
    let term = exact _ _ _ _ c.multiply.ensures.value c.unwrap-term.ensures ∙ times_same r e in
    let next : length (c.loop-r.yielded ++ (c.in-Some.r, c.in-Some.e) ∷ []) ≡ j + 1 = simp length-append in
    ((tt, tt), tt, exact _ _ _ _ c.add.ensures.value c.unwrap-sum.ensures ∙ plus_same c.loop-r.invariant.2 term ∙ sum_more j f ∙ ap (λ m. sumᵢ m f) (sym next))

pub returns : goal.returns
unfolding method.correction
returns g c =
    let p = c.args.self.now in
    let n : ℕ = p.system.now.states in
    let first : c.into_iter-r-iterator.result.a.rest.now ≡ c.row.result.now = cc in
    let second : c.into_iter-r-iterator.result.b.rest.now ≡ c.args.leftovers.now = cc in
    let end = zip_end c.row.result.now c.args.leftovers.now c.loop-r.yielded c.into_iter-r-iterator.result c.loop-r.r-iterator c.next.new.self c.next.result first second c.loop-r.yielded_by c.in-None.is c.next.ensures.steps in
    let long : length c.args.leftovers.now ≡ 12 = search rules in
    let all : length c.loop-r.yielded ≡ n = omega (arith, end, c.row.ensures.long) in
    c.bring_back.ensures.value ∙ ap (brought g.T.Scale.unit) (c.loop-r.invariant.2 ∙ ap (weighed (offered p) c.args.leftovers.now c.args.row) all ∙ same_weighed g.met.T.Scale.least g.met.T.Scale.most p c.args.part c.args.row c.args.leftovers.now c.requires.leftovers n (le_refl n))
