use Rattle.std.proofs.Common.{map}
use Rattle.model_core.specs.Code.Views.{expression_of, edge_delay_of}
use Rattle.model_core.specs.Static.Meanings.{meaning_of}
use Rattle.one_pass.proofs.EdgesRead.{schedule_read}
use Rattle.one_pass.proofs.edges.schedule.Goals as goal

pub returns : goal.returns
returns c =
    let m = meaning_of c.args.names.now in
    rw (c.free.ensures, c.of-condition.ensures, c.free-2.ensures, c.of-delay.ensures)
    (schedule_read m c.args.taken.now c.args.is_two c.in_ok-word.field-0 c.in_ok-symbol.field-0 c.args.cursor.now c.word.new.self c.read_destination.new.cursor c.after.new.cursor c.priority.new.cursor c.condition.new.cursor c.symbol.new.self
    c.in_ok-carried.carried.target c.in_ok-priority.priority (map expression_of c.in_ok-carried.carried.values) (edge_delay_of c.in_ok-after.field-0) (expression_of c.in_ok-condition.field-0)
    c.in_ok-word.ensures.reads c.in_ok-carried.ensures (c.in_ok-after.ensures c.args.taken.now) (c.in_ok-priority.ensures m) c.in_ok-condition.ensures c.in_ok-symbol.ensures.reads)
