use Rattle.std.proofs.Common.{ap, ◌∙◌}
use Rattle.std.specs.Option.{option_map}
use Rattle.model_core.specs.Static.Meanings.{meaning_of}
use Rattle.sig_types.specs.Seen.{meaning_seen}
use Rattle.sig_types.proofs.Lookups.{lookup-meaning}
use Rattle.sig_types.proofs.names.Names.find.Goals as goal

pub returns : goal.returns
returns c =
    ap (option_map meaning_seen) (c.copied.ensures ∙ c.get.ensures.value) ∙ lookup-meaning c.args.name.now c.self.inside.table.entries
    ∙ ap (λ ds. meaning_of ds c.args.name.now) c.self.view_is
