use Rattle.std.proofs.Common.{rules}
use Rattle.model_read.proofs.NamesInTables.{one_listed}
use Rattle.model_read.proofs.places.Places.add_new.Goals as goal

pub returns : goal.returns
returns c = one_listed c.self.inside.table.entries c.insert.new.self.entries c.in_ok-key.key c.args.place c.args.name.now c.args.self.now c.self.view_is (search rules) c.requires.new c.in_ok-insert.ensures.entries
