-- Of the targets and their values.
use Rattle.std.proofs.Common.{map}
use Rattle.model_core.specs.Code.Views.{expression_of, location_of}
use Rattle.model_core.specs.Static.Meanings.{meaning_of}
use Rattle.one_pass.proofs.SetsRead.{set_read}
use Rattle.one_pass.proofs.changes.set.Goals as goal

pub returns : goal.returns
returns c =
    let all = c.in_ok-targets.field-0 in
    set_read (meaning_of c.args.names.now) c.args.is_two _ _ _ c.args.cursor.now c.word.new.self c.targets.new.cursor c.symbol.new.self c.values.new.cursor c.symbol-2.new.self (map location_of all.targets) (map expression_of c.in_ok-values.values) all.kinds.items
    c.in_ok-word.ensures.reads c.in_ok-targets.ensures.reads c.in_ok-symbol.ensures.reads (rw c.as_slice.ensures.value at c.in_ok-values.ensures) c.in_ok-symbol-2.ensures.reads (rw c.targets_limit-limit.ensures.is at c.in_ok-targets.ensures.within)
