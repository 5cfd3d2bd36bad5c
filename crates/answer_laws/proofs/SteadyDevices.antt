-- A device whose calls never fail has a count of failed calls that never rises.
use Rattle.std.proofs.Common.{inl, inr, arith}
use Rattle.sig_base.specs.Faults.{HasRisen}

pub no_rise : HasRisen 0 0 → ⊥
no_rise (inl h) = omega arith
no_rise (inr (p, q)) = omega arith
