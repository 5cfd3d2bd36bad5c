use Rattle.std.proofs.Common.{◌≡◌, true, drop}
use Rattle.range_infer.specs.Inner.Readers.{put_each, put_edge, put_edges}
use Rattle.range_infer.proofs.readers.put_edges.Given as goal

abbrev pub invariant-loop-place : goal.invariant-loop-place
invariant-loop-place l = put_each (λ k. put_edge (record { vertex = l.vertex; is_edge = true; place = k })) l.place l.readers.items (drop l.place l.carried) ≡ put_edges l.vertex l.initial.readers.items l.carried
