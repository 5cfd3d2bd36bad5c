use Rattle.std.proofs.Common.{length}
use Rattle.model_core.specs.Run.Pending.{is_of}
use Rattle.event_heap.specs.Inner.Held.{top_of}
use Rattle.event_heap.proofs.PendingLaws.{rest-is, numbers-rest, fewer-entries, few-comparisons}
use Rattle.event_heap.proofs.pending.HeapPendingPending.cancel_next.Goals as goal

pub invariant_of-self : goal.invariant_of-self
invariant_of-self g c = record {
  numbers = numbers-rest (is_of c.args.vertex) c.self.inside.numbered c.self.inside.heaps.events c.take-gone.new.self.events (top_of c.self.inside.heaps c.args.vertex) c.take-gone.ensures.next c.self.invariant.numbers;
  games = c.replay.ensures.games;
  vertices = c.replay.ensures.vertices;
}

pub returns-clause-deleted : goal.returns-clause-deleted
returns-clause-deleted g c = rw (← c.self.view_is, c.take-gone.ensures.count) (fewer-entries (is_of c.args.vertex) c.self.inside.heaps.events c.take-gone.new.self.events (top_of c.self.inside.heaps c.args.vertex) c.take-gone.ensures.next)

pub returns-clause-entries : goal.returns-clause-entries
returns-clause-entries g c = rw (← c.self.view_is) (rest-is (is_of c.args.vertex) c.self.inside.heaps.events c.take-gone.new.self.events (top_of c.self.inside.heaps c.args.vertex) c.take-gone.ensures.next)

pub returns-clause-ticks : goal.returns-clause-ticks
returns-clause-ticks g c = rw (← c.self.view_is) (few-comparisons c.self.inside.heaps.events (length c.self.inside.heaps.tops) c.args.steps.now c.take-gone.new.steps c.replay.new.steps c.take-gone.ensures.ticks (rw (← c.take-gone.ensures.vertices) c.replay.ensures.ticks))
