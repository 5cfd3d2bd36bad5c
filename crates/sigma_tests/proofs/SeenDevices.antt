-- Calls over devices that are what is seen of them.
use Rattle.std.proofs.Common.{◌≡◌, ℕ, false, true, List, [], ◌∷◌}
use Rattle.std.specs.Prelude.{Option, Some}
use Rattle.sig_base.specs.Sink.{Outlet}
use Rattle.sig_base.specs.Source.{Inlet}

-- what is seen of a device is the device
abbrev pub inlet : Inlet → Inlet
inlet i = i

abbrev pub outlet : Outlet → Outlet
outlet o = o

pub never_true : false ≡ true → ⊥
never_true e = cc

pub some_bytes : (byte : ℕ) (rest : List ℕ) → ◌≡◌ {A = Option (List ℕ)} (Some (byte ∷ rest)) (Some []) → ⊥
some_bytes byte rest e = cc
