use Rattle.std.proofs.Common.{◌≡◌, map, take}
use Rattle.model_core.specs.Code.WrittenViews.{written_name}
use Rattle.one_pass.proofs.beginnings.same_names.Given as goal

-- the names before this place are the same
abbrev pub invariant-loop-place : goal.invariant-loop-place
invariant-loop-place l = map written_name (take l.place l.a) ≡ map written_name (take l.place l.b)
