-- The pending list and the streams, which edges change, and what they leave of both.
use Rattle.std.specs.Prelude.{◌≡◌, ℕ, ◌+◌, ◌≤◌, ◌<◌, ◌^◌, length}
use Rattle.model_core.specs.EventGraph.{EventGraph}
use Rattle.model_core.specs.Run.Changes.{taken_from}
use Rattle.model_core.specs.Run.Edges.{EdgeState}
use Rattle.run_control.specs.SoundRun.{AreOfVertices}

-- the seed of the run; the pending list and the words taken; and for how many events more the list has room, how many were
-- ever scheduled in it, and for how many vertices it was made
pub record Planning : Type 0 where
  pub seed : ℕ
  pub planned : EdgeState
  pub spare : ℕ
  pub numbered : ℕ
  pub vertices : ℕ

-- the list is one for the model, and fewer than 2^62 words of each stream are taken and events scheduled, also after so many
-- words and events more
pub record CanPlan (g : EventGraph) (words events : ℕ) (p : Planning) : Type 0 where
  pub made_for : p.vertices ≡ length g.vertices
  pub few_taken : (stream : ℕ) → taken_from p.planned.taken stream + words < 2 ^ 62
  pub few_numbered : p.numbered + events < 2 ^ 62

-- At most so many words of a stream are taken, and so many events scheduled. The room for events, pending ones among them,
-- never falls, and each pending event stays one of a vertex for which the list was made.
pub record PlanKeeps (words events : ℕ) (p later : Planning) : Type 0 where
  pub seed : later.seed ≡ p.seed
  pub counted : (stream : ℕ) → taken_from later.planned.taken stream ≤ taken_from p.planned.taken stream + words
  pub numbered : later.numbered ≤ p.numbered + events
  pub room : p.spare + length p.planned.pending ≤ later.spare + length later.planned.pending
  pub vertices : later.vertices ≡ p.vertices
  pub of_vertices : AreOfVertices p.vertices p.planned.pending → AreOfVertices later.vertices later.planned.pending
