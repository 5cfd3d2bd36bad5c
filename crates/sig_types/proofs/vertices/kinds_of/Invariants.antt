use Rattle.std.proofs.Common.{◌≡◌, map, take}
use Rattle.model_core.specs.Code.WrittenViews.{written_name}
use Rattle.model_core.specs.Static.Meanings.{meaning_of}
use Rattle.model_core.specs.Static.PartFaults.{parameter_kind}
use Rattle.sig_types.proofs.vertices.kinds_of.Given as goal

-- the kinds of the parameters before this one
abbrev pub invariant-loop-raw : goal.invariant-loop-raw
invariant-loop-raw l = l.kinds.items ≡ map (parameter_kind (meaning_of l.names)) (map written_name (take l.raw-index l.raws))
