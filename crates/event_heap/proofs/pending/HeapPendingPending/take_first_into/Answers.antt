use Rattle.std.proofs.Common.{◌≡◌, true, length, refl, sym, ◌∙◌, arith}
use Rattle.std.proofs.lemmas.Bool.Decides.{nat_tests}
use Rattle.model_core.specs.Run.Pending.{is_of}
use Rattle.event_heap.specs.Inner.Held.{top_of}
use Rattle.event_heap.proofs.PendingLaws.{keyless, next-is, rest-is, numbers-rest, few-comparisons, taken-next}
use Rattle.event_heap.proofs.pending.HeapPendingPending.take_first_into.Goals as goal

pub invariant_of-self : goal.invariant_of-self
invariant_of-self g c = record {
  numbers = numbers-rest (is_of c.in-Some.vertex) c.self.inside.numbered c.self.inside.heaps.events c.take.new.self.events (top_of c.self.inside.heaps c.in-Some.vertex) c.take.ensures.next c.self.invariant.numbers;
  games = c.replay_either_way.ensures.games;
  vertices = c.replay_either_way.ensures.vertices;
}

pub returns-clause-gives : goal.returns-clause-gives
returns-clause-gives g c =
    rw (← c.self.view_is) (c.copy_first.ensures ∙ sym (next-is (λ e. true) c.self.inside.heaps.events c.take.new.self.events (top_of c.self.inside.heaps c.in-Some.vertex) (taken-next c.self.inside.heaps c.in-Some.vertex c.take.new.self.events (top_of c.self.inside.heaps c.in-Some.vertex) c.in-Some.ensures refl c.take.ensures.next)))

pub returns-clause-entries : goal.returns-clause-entries
returns-clause-entries g c =
    rw (← c.self.view_is) (rest-is (λ e. true) c.self.inside.heaps.events c.take.new.self.events (top_of c.self.inside.heaps c.in-Some.vertex) (taken-next c.self.inside.heaps c.in-Some.vertex c.take.new.self.events (top_of c.self.inside.heaps c.in-Some.vertex) c.in-Some.ensures refl c.take.ensures.next))

pub returns-clause-ticks : goal.returns-clause-ticks
returns-clause-ticks g c = rw (← c.self.view_is) (few-comparisons c.self.inside.heaps.events (length c.self.inside.heaps.tops) c.args.steps.now c.take.new.steps c.replay_either_way.new.steps c.take.ensures.ticks (rw (← c.take.ensures.vertices) c.replay_either_way.ensures.ticks))

pub copy_first-requires : goal.copy_first-requires
copy_first-requires g c =
    let (x, top, next) = c.in-Some.ensures in
    rw top refl

pub replay_either_way-requires-clause-alone : goal.replay_either_way-requires-clause-alone
replay_either_way-requires-clause-alone g c e u other =
    let none : length c.take.new.self.events ≡ 0 = grind (arith, nat_tests) in
    keyless c.take.new.self c.self.inside.tournament u (rw (c.take.ensures.others u other) (c.self.invariant.games u)) (c.show_firsts.ensures u) none
