use Rattle.std.proofs.Common.{◌≡◌, false, drop}
use Rattle.range_infer.specs.Inner.Readers.{put_each, put_values, put_changes}
use Rattle.range_infer.proofs.readers.put_changes.Given as goal

abbrev pub invariant-loop-place : goal.invariant-loop-place
invariant-loop-place l = put_each (λ k. put_values (record { vertex = l.vertex; is_edge = false; place = k })) l.place l.readers.items (drop l.place l.sets) ≡ put_changes l.vertex l.initial.readers.items l.sets
