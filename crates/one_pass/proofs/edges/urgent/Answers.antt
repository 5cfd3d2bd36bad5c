use Rattle.std.proofs.Common.{map}
use Rattle.model_core.specs.Code.Views.{expression_of}
use Rattle.model_core.specs.Static.Meanings.{meaning_of}
use Rattle.one_pass.proofs.EdgesRead.{urgent_read}
use Rattle.one_pass.proofs.edges.urgent.Goals as goal

pub returns : goal.returns
returns c = λ is_two.
    rw (c.free.ensures, c.of-condition.ensures)
    (urgent_read (meaning_of c.args.names.now) c.args.taken.now is_two c.in_ok-word.field-0 c.in_ok-symbol.field-0 c.args.cursor.now c.word.new.self c.read_destination.new.cursor c.condition.new.cursor c.symbol.new.self
    c.in_ok-carried.carried.target (map expression_of c.in_ok-carried.carried.values) (expression_of c.in_ok-condition.field-0)
    c.in_ok-word.ensures.reads c.in_ok-carried.ensures c.in_ok-condition.ensures c.in_ok-symbol.ensures.reads)
