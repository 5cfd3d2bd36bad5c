use Rattle.event_heap.proofs.HeldLaws.{next-listed}
use Rattle.event_heap.proofs.heaps.Heaps.show_firsts.Goals as goal

pub returns : goal.returns
returns c u = rw (← c.self.view_is) (next-listed c.self.inside.nodes.items c.self.inside.roots.items c.self.inside.free c.self.invariant.0 u)
