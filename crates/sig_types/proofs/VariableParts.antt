-- The check of a variable from those of its size, bounds and initial value.
use Rattle.std.proofs.Common.{◌≡◌, ℕ, ℤ, pos, Bool, false, List, ◌++◌, Option, Some, None, refl, ap, append_assoc}
use Rattle.std.specs.Option.{option_map}
use Rattle.model_core.specs.declared.model.Kind.TheVariants as kinds
use Rattle.model_core.specs.EventGraph as graph
use Rattle.model_core.specs.Text.Written as written
use Rattle.model_core.specs.Text.Written.{WrittenSigned, WrittenKind, WrittenLiteral, WrittenVariable}
use Rattle.model_core.specs.Text.Numbering.{◌>>=◌, initial, signed, size, variable, variable_of_kind}
use Rattle.model_core.specs.Static.FaultOrder.{StaticFault, earliest_fault}
use Rattle.model_core.specs.Static.RuleTable.{name_too_long, literal_too_large, empty_range, initial_outside}
use Rattle.model_core.specs.Static.PartFaults.{if_written, size_faults, range_faults, variable_faults}
use Rattle.sig_types.specs.declared.variables.Range.{Range}
use Rattle.static_laws.specs.Checked.{CheckedPlain}
use Rattle.sig_types.specs.Inner.HeldAsDeclared.{initial_faults, numbered_range}
use Rattle.static_laws.proofs.Checks.{both, made, before, after_faults}

bounds_first : (lo hi : WrittenSigned) (clip : Bool) (l : WrittenLiteral) → range_faults (written.RangeKind lo hi clip) l ≡ (literal_too_large lo ++ literal_too_large hi ++ empty_range lo hi) ++ initial_faults lo hi l
bounds_first lo hi clip (written.TruthLiteral at b) = refl
bounds_first lo hi clip (written.SignedLiteral s) = append_assoc (literal_too_large lo ++ literal_too_large hi ++ empty_range lo hi) (literal_too_large s) (initial_outside lo hi s)

pub bounds_checked : (t0 t1 t2 t3 t4 : Option StaticFault) (lo hi : WrittenSigned) (clip : Bool) (l : WrittenLiteral) (x y z : ℤ)
    → CheckedPlain t0 t1 (literal_too_large lo) (signed lo) x → CheckedPlain t1 t2 (literal_too_large hi) (signed hi) y → t3 ≡ earliest_fault t2 (empty_range lo hi)
    → CheckedPlain t3 t4 (initial_faults lo hi l) (initial l) z
    → CheckedPlain t0 t4 (range_faults (written.RangeKind lo hi clip) l) (numbered_range (written.RangeKind lo hi clip) l) (record { kind = kinds.Range; lo = x; hi = y; clip = clip; initial = z })
bounds_checked t0 t1 t2 t3 t4 lo hi clip l x y z c d empty e =
    rw (bounds_first lo hi clip l) (made (λ h. rw (h.0.0, h.0.1, h.1) refl) (both (before t3 (empty_range lo hi) (both c d) empty) e))

-- a variable of this size that holds this
abbrev sized : List ℕ → ℕ → Range → graph.Variable
sized name n r = record { name = name; size = n; kind = r.kind; lo = r.lo; hi = r.hi; clip = r.clip; initial = r.initial }

by_range : (v : WrittenVariable) (kind : WrittenKind) (n : ℕ) (r : Range) → size v.size ≡ Some n → numbered_range kind v.initial ≡ Some r → variable_of_kind v kind ≡ Some (sized v.name.name n r)
by_range v written.TruthKind n r e h = rw e (held (initial v.initial) h)
  where
    held : (o : Option ℤ) → option_map (λ start. record { kind = kinds.Truth; lo = pos 0; hi = pos 1; clip = false; initial = start }) o ≡ Some r
        → (o >>= λ start. Some (record { name = v.name.name; size = n; kind = kinds.Truth; lo = pos 0; hi = pos 1; clip = false; initial = start })) ≡ Some (sized v.name.name n r)
    held None p = cc
    held (Some start) p = ap (option_map (sized v.name.name n)) p
by_range v (written.RangeKind lo hi clip) n r e h = rw e (held (signed lo) (signed hi) (initial v.initial) h)
  where
    held : (o p q : Option ℤ) → (o >>= λ least. p >>= λ greatest. q >>= λ start. Some (record { kind = kinds.Range; lo = least; hi = greatest; clip = clip; initial = start })) ≡ Some r
        → (o >>= λ least. p >>= λ greatest. q >>= λ start. Some (record { name = v.name.name; size = n; kind = kinds.Range; lo = least; hi = greatest; clip = clip; initial = start })) ≡ Some (sized v.name.name n r)
    held None p q i = cc
    held (Some least) None q i = cc
    held (Some least) (Some greatest) None i = cc
    held (Some least) (Some greatest) (Some start) i = ap (option_map (sized v.name.name n)) i

pub variable_checked : (t0 t1 t2 t3 : Option StaticFault) (v : WrittenVariable) (n : ℕ) (r : Range)
    → t1 ≡ earliest_fault t0 (name_too_long v.name) → CheckedPlain t1 t2 (if_written size_faults v.size) (size v.size) n
    → CheckedPlain t2 t3 (range_faults v.kind v.initial) (numbered_range v.kind v.initial) r
    → CheckedPlain t0 t3 (variable_faults v) (variable v) (sized v.name.name n r)
variable_checked t0 t1 t2 t3 v n r named c d = made (λ h. by_range v v.kind n r h.0 h.1) (both (after_faults t0 (name_too_long v.name) named c) d)
