use Rattle.std.proofs.Common.{◌≡◌, true, false, refl, rules}
use Rattle.source.specs.declared.entry.MatrixPlace.{MatrixPlace}
use Rattle.source.specs.declared.entry.PayoutPlace.{PayoutPlace}
use Rattle.source.specs.Lists.{answer_of}
use Rattle.source.specs.Meaning.{in_range}
use Rattle.source.proofs.Listings.{matrix_answer, payout_answer}
use Rattle.span.proofs.Verdicts.{no_here}
use Rattle.source.proofs.list.kept.ListSource.post.Goals as goal
use Rattle.source.proofs.list.kept.ListSource.post.Goals.{in-Matrix, in-Payout}

pub returns-then-not-in_range : goal.returns-then-not-in_range
returns-then-not-in_range c sound =
    let outside : in_range c.args.place ≡ false = search rules in
    ((no_here _ _ _ outside, refl), sound)

pub returns : goal.returns
returns c sound =
    let list = c.args.self.now in
    let inside : in_range c.args.place ≡ true = search rules in
    let is : c.map_err.result ≡ answer_of c.match-place.place c.match-place.added = search rules in
    elim c.match-place.branch [
      | in-Matrix w ↦
          let p : MatrixPlace = record { part = w.in-Matrix.part; row = w.in-Matrix.row; column = w.in-Matrix.column } in
          rw w.self-is (matrix_answer list.matrix.entries.now list.matrix.used list.payouts.entries.now list.payouts.used c.args.place c.args.amount w.add-added.result c.map_err.result inside c.ranges.amount sound w.add-added.new.self.used p w.add-added.new.self.entries.now w.in-Matrix.is (rw (w.place-is, w.added-is) at is) w.add-added.ensures)
      | in-Payout w ↦
          let p : PayoutPlace = record { part = w.in-Payout.part; row = w.in-Payout.row } in
          rw w.self-is (payout_answer list.matrix.entries.now list.matrix.used list.payouts.entries.now list.payouts.used c.args.place c.args.amount w.add-added-in-Payout.result c.map_err.result inside c.ranges.amount sound w.add-added-in-Payout.new.self.used p w.add-added-in-Payout.new.self.entries.now w.in-Payout.is (rw (w.place-is, w.added-is) at is) w.add-added-in-Payout.ensures)
    ]
