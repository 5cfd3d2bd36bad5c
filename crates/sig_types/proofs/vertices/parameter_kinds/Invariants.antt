use Rattle.std.proofs.Common.{◌≡◌, map, take}
use Rattle.model_core.specs.Code.WrittenViews.{written_vertex}
use Rattle.model_core.specs.Static.Meanings.{meaning_of}
use Rattle.model_core.specs.Static.PartFaults.{kinds_taken}
use Rattle.sig_types.proofs.vertices.parameter_kinds.Given as goal

-- what the vertices before this one take
abbrev pub invariant-loop-raw : goal.invariant-loop-raw
invariant-loop-raw l = l.taken.items ≡ map (kinds_taken (meaning_of l.names)) (map written_vertex (take l.raw-index l.raws))
