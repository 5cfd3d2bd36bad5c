use Rattle.std.proofs.Common.{◌≡◌, ◌++◌, List, ℕ, take, codes}
use Rattle.std.specs.List.{flat_map}
use Rattle.reduction_cert.proofs.certificate.put_names.Given as goal

abbrev pub invariant-loop-name : goal.invariant-loop-name
invariant-loop-name l = l.out.items ≡ l.initial.out.items ++ flat_map (λ (name : List ℕ). codes " " ++ name) (take l.name-index l.names)
