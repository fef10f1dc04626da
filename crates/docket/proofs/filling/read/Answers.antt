use Rattle.std.proofs.Common.{◌<◌, ◌≢◌, length, ◌∙◌, arith, get_or-set_other, get_or-set_same, w32, SFits, rules, below_more}
use Rattle.std.proofs.lemmas.Int.{to_z-of_z}
use Rattle.docket.proofs.filling.read.Goals as goal

pub loop-at-preserved : goal.loop-at-preserved
loop-at-preserved g c =
    let f : SFits w32 c.number_at.result = search rules in
    let there : c.loop-at.at < length c.loop-at.numbers = omega arith in
    below_more _ _
    (λ t l.
    let apart : t ≢ c.loop-at.at = omega arith in
    let kept = c.loop-at.invariant t l in
    (kept.0, kept.1, rw get_or-set_other kept.2))
    (c.place_at.result, c.place_at.ensures, rw get_or-set_same (to_z-of_z w32 c.number_at.result f ∙ c.number_at.ensures))

pub returns-clause-reads : goal.returns-clause-reads
returns-clause-reads g c t l = c.loop-at.invariant t (omega arith)
