use Rattle.std.proofs.Common.{ap, length, sym, ◌∙◌, arith}
use Rattle.std.specs.Vec.Iter.{into_iter_items}
use Rattle.model_core.specs.Code.Views.{vertex_of}
use Rattle.model_core.specs.Code.WrittenViews.{written_vertex}
use Rattle.model_core.specs.Text.Numbering.{vertex}
use Rattle.model_core.specs.Static.Meanings.{meaning_of}
use Rattle.model_core.specs.Static.PartFaults.{vertex_faults}
use Rattle.static_laws.proofs.ListChecks.{taken_turn, all_taken}
use Rattle.sig_types.proofs.vertices.vertices.Goals as goal

pub loop-raw-preserved : goal.loop-raw-preserved
loop-raw-preserved c =
    let m = meaning_of c.args.names.now in
    let was = c.loop-raw.invariant.counted in
    let gone = c.in-Some.ensures.steps.1 in
    let short = ap length c.in-Some.ensures.steps.0 in
    record {
      so_far = taken_turn m vertex_of written_vertex (vertex_faults m c.args.taken.now) vertex _ _ _ c.args.raws (into_iter_items c.loop-raw.raw-iterator) (into_iter_items c.next.new.self) c.in-Some.raw c.loop-raw.vertices.items _ c.in_ok-vertex.vertex
          c.in-Some.ensures.steps.0 c.in_ok-push.ensures.items c.loop-raw.invariant.so_far c.in_ok-vertex.ensures;
      counted = omega arith;
    }

pub returns : goal.returns
returns c =
    let m = meaning_of c.args.names.now in
    rw c.from_vec.ensures (all_taken m vertex_of written_vertex (vertex_faults m c.args.taken.now) vertex _ _ c.args.raws (into_iter_items c.loop-raw.raw-iterator) c.loop-raw.vertices.items (sym c.loop-raw.invariant.counted ∙ c.in-None.ensures.steps.0) c.loop-raw.invariant.so_far)
