-- Where each vertex has changed, all aims may be old.
use Rattle.model_core.specs.Code.Views.{graph_of}
use Rattle.twin_rules.proofs.FingerprintsRenewed.{all-old}
use Rattle.twin_rules.proofs.fingerprint_table.FingerprintTable.fill.Goals as goal

pub renew-requires : goal.renew-requires
renew-requires c = all-old (graph_of c.args.model.now) c.fill_without_aims.new.self c.args.asked.now.changed c.fill_without_aims.ensures c.requires.changed
