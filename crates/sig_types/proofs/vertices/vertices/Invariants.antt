use Rattle.std.proofs.Common.{◌≡◌, length}
use Rattle.std.specs.Vec.Iter.{into_iter_items, into_iter_len}
use Rattle.model_core.specs.Code.Views.{vertex_of}
use Rattle.model_core.specs.Code.WrittenViews.{written_vertex}
use Rattle.model_core.specs.Text.Numbering.{vertex}
use Rattle.model_core.specs.Static.Meanings.{meaning_of}
use Rattle.model_core.specs.Static.PartFaults.{vertex_faults}
use Rattle.static_laws.proofs.ListChecks.{CheckedTo}
use Rattle.sig_types.proofs.vertices.vertices.Given as goal

-- the vertices before those that are left are checked
abbrev pub invariant-loop-raw : goal.invariant-loop-raw
invariant-loop-raw l = record {
  so_far : CheckedTo (meaning_of l.names) vertex_of written_vertex (vertex_faults (meaning_of l.names) l.taken) vertex l.fn.fault l.fault l.fn.raws (into_iter_items l.raw-iterator) l.vertices.items;
  counted : into_iter_len l.raw-iterator ≡ length (into_iter_items l.raw-iterator);
}
