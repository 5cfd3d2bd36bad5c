use Rattle.std.proofs.Common.{map, take}
use Rattle.std.specs.List.{flat_map}
use Rattle.model_core.specs.Code.Views.{edge_of}
use Rattle.model_core.specs.Code.WrittenViews.{written_edge}
use Rattle.model_core.specs.Text.Numbering.{each_numbered, edge}
use Rattle.model_core.specs.Static.Meanings.{meaning_of}
use Rattle.model_core.specs.Static.PartFaults.{edge_faults}
use Rattle.static_laws.specs.Checked.{CheckedPart}
use Rattle.sig_types.proofs.edges.edges.Given as goal

-- the edges before this one are checked
abbrev pub invariant-loop-raw : goal.invariant-loop-raw
invariant-loop-raw l =
    let seen = map written_edge (take l.raw-index l.raws) in
    CheckedPart (meaning_of l.names) l.fn.fault l.fault (flat_map (edge_faults (meaning_of l.names) l.taken) seen) (λ d. each_numbered (edge d) seen) (map edge_of l.edges.items)
