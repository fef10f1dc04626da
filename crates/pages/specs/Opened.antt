-- what a new source means, by its make and its room
use Rattle.source.specs.Grids.{grid_opened}
use Rattle.source.specs.Lists.{list_opened}
use Rattle.source.specs.Meaning.{Meaning}
use Rattle.pages.specs.declared.store.Make.{Make}
use Rattle.pages.specs.declared.store.Make.TheVariants.{Grid, List}
use Rattle.pages.specs.declared.store.Store.{Store}

abbrev pub opened_as : Make → Store → Meaning
opened_as Grid s = grid_opened s.matrix s.payout
opened_as List s = list_opened s.matrix s.payout

abbrev pub opened : Store → Meaning
opened s = opened_as s.make s
