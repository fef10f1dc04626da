use Rattle.std.proofs.Common.{◌≡◌, ◌*◌, ◌<◌, ◌≤◌, true, false, ◌+ℤ◌, nat_abs, Err, w32, SFits, rules}
use Rattle.std.proofs.lemmas.Bool.{le-leb, lt-leb}
use Rattle.std.proofs.lemmas.Int.{to_z-of_z}
use Rattle.system.specs.declared.fault.Fault.TheVariants.{Outside, SumTooLarge}
use Rattle.source.specs.Faults.{spot_of}
use Rattle.source.specs.Meaning.{told}
use Rattle.law.specs.declared.fault.Fault.TheVariants as fault
use Rattle.law.specs.Decides.{has_place, wholes}
use Rattle.docket.proofs.Drafts.{outside, too_large, taken_in, not_taken}
use Rattle.docket.proofs.docket.Docket.post.Goals as goal

pub returns-then-not-has_place-clause-replied : goal.returns-then-not-has_place-clause-replied
returns-then-not-has_place-clause-replied g c M h q =
    let is : c.into.result ≡ fault.Figures (Outside (spot_of c.args.place)) = search rules in
    let no : has_place c.args.self.now.desk.figures.states c.args.self.now.desk.figures.settings c.args.place ≡ false = search rules in
    rw is (outside _ M h _ _ _ q c.args.place c.args.amount no)

pub returns-then-is_none-clause-replied : goal.returns-then-is_none-clause-replied
returns-then-is_none-clause-replied g c M h q =
    let is : c.into-then-is_none.result ≡ fault.Figures (SumTooLarge (spot_of c.args.place)) = search rules in
    let yes : has_place c.args.self.now.desk.figures.states c.args.self.now.desk.figures.settings c.args.place ≡ true = search rules in
    let large : wholes c.args.place * g.T.Scale.unit < nat_abs (told (g.C.Source.meaning c.args.self.now.source) c.args.place +ℤ c.args.amount) = search rules in
    rw is (too_large _ M h _ _ _ q c.args.place c.args.amount yes (lt-leb _ _ large))

pub returns-in_err-post-clause-replied : goal.returns-in_err-post-clause-replied
returns-in_err-post-clause-replied g c M h q =
    let is : c.from_residual.result ≡ Err (fault.Source c.in_err-post.field-0.0) = search rules in
    let yes : has_place c.args.self.now.desk.figures.states c.args.self.now.desk.figures.settings c.args.place ≡ true = search rules in
    let small : nat_abs (told (g.C.Source.meaning c.args.self.now.source) c.args.place +ℤ c.args.amount) ≤ wholes c.args.place * g.T.Scale.unit = search rules in
    let f : SFits w32 c.args.amount = c.ranges.amount in
    let t = simp to_z-of_z at (c.in_err-post.ensures q.sound) in
    rw is (not_taken _ M h _ _ _ q c.args.place c.args.amount c.in_err-post.field-0.0 _ _ yes (le-leb _ _ small) t.0 t.1)

pub returns-clause-replied : goal.returns-clause-replied
returns-clause-replied g c M h q =
    let yes : has_place c.args.self.now.desk.figures.states c.args.self.now.desk.figures.settings c.args.place ≡ true = search rules in
    let small : nat_abs (told (g.C.Source.meaning c.args.self.now.source) c.args.place +ℤ c.args.amount) ≤ wholes c.args.place * g.T.Scale.unit = search rules in
    let f : SFits w32 c.args.amount = c.ranges.amount in
    let t = simp to_z-of_z at (c.in_ok-post.ensures q.sound) in
    taken_in _ M h _ _ _ q c.args.place c.args.amount _ _ yes (le-leb _ _ small) t.0 t.1
