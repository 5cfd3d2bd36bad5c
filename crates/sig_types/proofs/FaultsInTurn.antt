-- The faults of the parts of a list, reported one part after another.
use Rattle.std.proofs.Common.{◌≡◌, ℕ, ◌+◌, ◌<◌, List, [], length, get_or, take, map, Option}
use Rattle.std.specs.List.{flat_map}
use Rattle.std.proofs.lemmas.List.{flat_map_more}
use Rattle.sig_base.proofs.Lists.{seen_more}
use Rattle.model_core.specs.Static.FaultOrder.{StaticFault, earliest_fault}
use Rattle.static_laws.proofs.Checks.{earliest_in_turn}

-- a turn of a loop that reports the faults of parts
pub report_turn : {X W : Type 0} (w : X → W) (F : W → List StaticFault) (t0 t1 t2 : Option StaticFault) (raws : List X) (i : ℕ) (x : X) → i < length raws → x ≡ get_or raws i x
    → t1 ≡ earliest_fault t0 (flat_map F (map w (take i raws))) → t2 ≡ earliest_fault t1 (F (w x)) → t2 ≡ earliest_fault t0 (flat_map F (map w (take (i + 1) raws)))
report_turn w F t0 t1 t2 raws i x lt is e f =
    rw (seen_more w raws i x lt is, ← flat_map_more F [] (map w (take i raws)) (w x)) (earliest_in_turn t0 t1 t2 (flat_map F (map w (take i raws))) (F (w x)) e f)
