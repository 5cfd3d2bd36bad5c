use Rattle.std.proofs.Common.{◌≡◌, drop}
use Rattle.range_infer.specs.Inner.Readers.{put_each, put_vertex}
use Rattle.range_infer.proofs.readers.put_vertices.Given as goal

abbrev pub invariant-loop-vertex : goal.invariant-loop-vertex
invariant-loop-vertex l = put_each put_vertex l.vertex l.readers.items (drop l.vertex l.reads) ≡ put_each put_vertex 0 l.initial.readers.items l.reads
