use Rattle.std.proofs.Common.{◌≡◌, ◌++◌, drop}
use Rattle.std.specs.Option.{option_map}
use Rattle.model_core.specs.Text.Numbering.{each_numbered}
use Rattle.model_read.specs.NamesPlaced.{listed_place}
use Rattle.reduction_cert.proofs.by_name.all_named.Given as goal

abbrev pub invariant-loop-name : goal.invariant-loop-name
invariant-loop-name l =
    each_numbered (λ name. listed_place name l.places) l.names
    ≡ option_map (λ later. l.found.items ++ later) (each_numbered (λ name. listed_place name l.places) (drop l.name-index l.names))
