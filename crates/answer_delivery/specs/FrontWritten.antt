-- That only the first of some bytes were written.
use Rattle.std.specs.Prelude.{◌≤◌, ℕ, List, length, take}
use Rattle.sig_base.specs.Sink.{Outlet, GrowsBy}

-- the output grew by a front of these bytes
abbrev pub GrowsByFront : Outlet → Outlet → List ℕ → Type 0
GrowsByFront old new bytes = (n : ℕ) × (n ≤ length bytes) × GrowsBy old.written new.written (take n bytes)
