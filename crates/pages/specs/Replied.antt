-- the replies among what came of a run's steps
use Rattle.std.specs.Prelude.{List, [], ◌∷◌, ◌++◌}
use Rattle.law.specs.declared.ask.Reply.{Reply}
use Rattle.filing.specs.declared.step.Outcome.{Outcome}
use Rattle.filing.specs.declared.step.Outcome.TheVariants.{Replied, Checked, Wrote}

abbrev pub reply_in : Outcome → List Reply
reply_in (Replied r) = r ∷ []
reply_in (Checked c) = []
reply_in (Wrote w) = []

abbrev pub replied : List Outcome → List Reply
replied [] = []
replied (o ∷ os) = reply_in o ++ replied os
