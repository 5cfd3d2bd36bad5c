-- The pending list and the streams after edges: what stays, and that edges can be treated again.
use Rattle.std.proofs.Common.{◌≡◌, ℕ, ◌+◌, ◌≤◌, ◌<◌, ◌^◌, List, Option, refl, sym, ◌∙◌, subst, arith}
use Rattle.std.specs.Prelude.{IsTrue, length}
use Rattle.sig_base.specs.declared.limits.TheConstants.{CHANGES_MAX, EDGES_MAX, EVENTS_MAX}
use Rattle.model_core.specs.declared.model.Model.{Model}
use Rattle.model_core.specs.EventGraph.{EventGraph}
use Rattle.model_core.specs.Run.Changes.{taken_from}
use Rattle.model_core.specs.Run.Pending.{Entry}
use Rattle.model_core.specs.Run.State.{State, in_range}
use Rattle.model_core.specs.Run.Step.{Fault}
use Rattle.run_control.specs.Running.{Running}
use Rattle.run_control.specs.SoundRun.{SoundRun, AreOfVertices}
use Rattle.run_control.specs.Turns.{StepKeeps}
use Rattle.run_control.specs.Inner.Planning.{Planning, CanPlan, PlanKeeps}

-- one after the other
pub kept_then : (a b c m n o : ℕ) (p q r : Planning) → PlanKeeps a m p q → PlanKeeps b n q r → a + b ≤ c → m + n ≤ o → PlanKeeps c o p r
kept_then a b c m n o p q r first second words events = record {
  seed = second.seed ∙ first.seed;
  counted = λ stream. omega (arith, words, first.counted stream, second.counted stream);
  numbered = omega (arith, events, first.numbered, second.numbered);
  room = omega (arith, first.room, second.room);
  vertices = second.vertices ∙ first.vertices;
  of_vertices = λ all. second.of_vertices (first.of_vertices all);
}

-- where words are taken alone
pub words_taken : (words : ℕ) (view p : Planning) (seed : ℕ) (taken : List ℕ) → view ≡ p → seed ≡ view.seed → ((stream : ℕ) → taken_from taken stream ≤ taken_from view.planned.taken stream + words)
    → PlanKeeps words 0 p (record view { seed = seed; planned = record view.planned { taken = taken } })
words_taken words view p seed taken is same counted = subst (λ (x : Planning). PlanKeeps words 0 x (record view { seed = seed; planned = record view.planned { taken = taken } })) is (record {
  seed = same;
  counted = counted;
  numbered = omega arith;
  room = omega arith;
  vertices = refl;
  of_vertices = λ all. all;
})

-- where the pending list changes alone
pub pending_changed : (words events : ℕ) (view p : Planning) (pending : List Entry) (spare numbered vertices : ℕ) → view ≡ p → numbered ≤ view.numbered + events → view.spare + length view.planned.pending ≤ spare + length pending → vertices ≡ view.vertices
    → (AreOfVertices view.vertices view.planned.pending → AreOfVertices view.vertices pending) → PlanKeeps words events p (record { seed = view.seed; planned = record view.planned { pending = pending }; spare = spare; numbered = numbered; vertices = vertices })
pending_changed words events view p pending spare numbered vertices is few room same kept =
    subst (λ (x : Planning). PlanKeeps words events x (record { seed = view.seed; planned = record view.planned { pending = pending }; spare = spare; numbered = numbered; vertices = vertices })) is (record {
      seed = refl;
      counted = λ stream. omega arith;
      numbered = few;
      room = room;
      vertices = same;
      of_vertices = λ all. subst (λ n. AreOfVertices n pending) (sym same) (kept all);
    })

-- after edges, edges can be treated again
pub plans_again : (g : EventGraph) (a b c m n o : ℕ) (p q : Planning) → CanPlan g c o p → PlanKeeps a m p q → a + b ≤ c → m + n ≤ o → CanPlan g b n q
plans_again g a b c m n o p q can kept words events = record {
  made_for = kept.vertices ∙ can.made_for;
  few_taken = λ stream. omega (arith, words, can.few_taken stream, kept.counted stream);
  few_numbered = omega (arith, events, can.few_numbered, kept.numbered);
}

-- ---- a step

-- a run with these parts
abbrev pub run_of : Model → Planning → State → ℕ → ℕ → Option Fault → Running
run_of m p s clock turns fault = record {
  model = m;
  seed = p.seed;
  now = record { clock = clock; state = s; taken = p.planned.taken; pending = p.planned.pending };
  spare = p.spare;
  numbered = p.numbered;
  turns = turns;
  faulted = fault;
}

module _ (g : EventGraph) (s : State) (p : Planning) (turns : ℕ) (sound : SoundRun g s p.planned.taken turns p.numbered p.vertices p.planned.pending) where
  -- where the next event was taken off, its vertex can plan
  pub sound_plans : (q : Planning) → turns < EVENTS_MAX → PlanKeeps 0 0 p q → CanPlan g (2 ^ 61) EDGES_MAX q
  sound_plans q few kept = record {
    made_for = kept.vertices ∙ sound.made_for;
    few_taken = λ stream. omega (arith, few, sound.words stream, kept.counted stream);
    few_numbered = omega (arith, few, sound.numbers, kept.numbered);
  }

  -- and the run is sound again
  pub sound_again : (t : State) (q r : Planning) → IsTrue (in_range g t) → PlanKeeps 0 0 p q → PlanKeeps (CHANGES_MAX + EDGES_MAX) EDGES_MAX q r → SoundRun g t r.planned.taken (turns + 1) r.numbered r.vertices r.planned.pending
  sound_again t q r inside before after =
      let kept = kept_then 0 (CHANGES_MAX + EDGES_MAX) (CHANGES_MAX + EDGES_MAX) 0 EDGES_MAX EDGES_MAX p q r before after (omega arith) (omega arith) in
      let made_for = kept.vertices ∙ sound.made_for in
      record {
        possible = sound.possible;
        inside = inside;
        words = λ stream. omega (arith, sound.words stream, kept.counted stream);
        numbers = omega (arith, sound.numbers, kept.numbered);
        made_for = made_for;
        of_vertices = subst (λ n. AreOfVertices n r.planned.pending) made_for (kept.of_vertices (subst (λ n. AreOfVertices n p.planned.pending) (sym sound.made_for) sound.of_vertices));
      }

-- the facts that a step keeps
pub step_kept : (m : Model) (s t : State) (p q r : Planning) (clock time turns : ℕ) (before after : Option Fault) (run : Running) → run_of m p s clock turns before ≡ run → PlanKeeps 0 0 p q → PlanKeeps (CHANGES_MAX + EDGES_MAX) EDGES_MAX q r → StepKeeps run (run_of m r t time (turns + 1) after)
step_kept m s t p q r clock time turns before after run is first second =
    let kept = kept_then 0 (CHANGES_MAX + EDGES_MAX) (CHANGES_MAX + EDGES_MAX) 0 EDGES_MAX EDGES_MAX p q r first second (omega arith) (omega arith) in
    subst (λ (x : Running). StepKeeps x (run_of m r t time (turns + 1) after)) is (record {
      model = refl;
      seed = kept.seed;
      counted = omega arith;
      words = kept.counted;
      numbered = kept.numbered;
      room = kept.room;
    })
