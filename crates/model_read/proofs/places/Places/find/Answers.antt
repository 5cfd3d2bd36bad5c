use Rattle.std.proofs.Common.{ap, ◌∙◌}
use Rattle.model_read.specs.NamesPlaced.{listed_place}
use Rattle.model_read.proofs.NamesInTables.{lookup-place}
use Rattle.model_read.proofs.places.Places.find.Goals as goal

pub returns : goal.returns
returns c = c.copied.ensures ∙ c.get.ensures.value ∙ lookup-place c.args.name.now c.self.inside.table.entries ∙ ap (listed_place c.args.name.now) c.self.view_is
