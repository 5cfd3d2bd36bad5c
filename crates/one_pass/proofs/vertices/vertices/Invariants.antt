use Rattle.std.proofs.Common.{map, take}
use Rattle.model_core.specs.Code.Views.{vertex_of}
use Rattle.model_core.specs.Code.WrittenViews.{written_vertex}
use Rattle.model_core.specs.Text.Language.{vertex_format}
use Rattle.model_core.specs.Text.Numbering as numbering
use Rattle.model_core.specs.Static.Meanings.{meaning_of}
use Rattle.one_pass.specs.Inner.AllFaults.{all_vertex_faults}
use Rattle.one_pass.specs.Inner.ReadParts.{AllBeginAlike}
use Rattle.one_pass.proofs.PartsInTurn.{TakenSoFar}
use Rattle.one_pass.proofs.vertices.vertices.Given as goal

-- the vertices that were read are those before what is left, and begin as expected
abbrev pub invariant-loop-begun : goal.invariant-loop-begun
invariant-loop-begun l = record {
  so_far : TakenSoFar vertex_format (meaning_of l.names) (all_vertex_faults l.is_two (meaning_of l.names) l.taken) numbering.vertex vertex_of l.fn.fault l.fault l.fn.cursor l.cursor l.vertices.items;
  alike : AllBeginAlike so_far.seen (map written_vertex (take l.begun-index l.expected));
}
