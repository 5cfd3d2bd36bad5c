-- Truth values lie between the ends of their bounds, and their variables are declared from 0 to 1.
use Rattle.std.proofs.Common.{◌≡◌, zero, suc, ℤ, pos, ◌≤ℤ◌, Bool, true, false, not, cond, List, [], ◌∷◌, Ok, refl, arith}
use Rattle.std.specs.List.{AllByRecursion}
use Rattle.std.proofs.lemmas.Int.{ints}
use Rattle.model_core.specs.declared.bounds.Bounds.{Bounds}
use Rattle.model_core.specs.declared.model.Kind.{Kind}
use Rattle.model_core.specs.declared.model.Kind.TheVariants as kinds
use Rattle.model_core.specs.EventGraph.{Variable}
use Rattle.model_core.specs.Run.Value.{OrFault, number_of}
use Rattle.model_core.specs.Static.OwnRules.{FitsKind, KeepsVariable}
use Rattle.model_core.specs.Rules.BoundsHold.{NumberIn, TruthIn}
use Rattle.model_core.specs.Rules.RangesHold.{ZeroToOne, TruthsAreDeclared}
use Rattle.bound_laws.proofs.Soundness.Promise.{TruthShape, BoundsHold}

truth_declared : (v : Variable) (k : Kind) → v.kind ≡ k → FitsKind k v → k ≡ kinds.Truth → ZeroToOne v
truth_declared v kinds.Truth same fits e = record { low = fits.least; high = fits.greatest }
truth_declared v kinds.Range same fits e = cc

pub truths_declared : (variables : List Variable) → AllByRecursion KeepsVariable variables → TruthsAreDeclared variables
truths_declared [] keep v e = cc
truths_declared (w ∷ variables) keep zero e = truth_declared w w.kind refl keep.0.range e
truths_declared (w ∷ variables) keep (suc v) e = truths_declared variables keep.1 v e

from_zero-number : (t : Bool) → pos 0 ≤ℤ number_of t
from_zero-number true = omega (arith, ints)
from_zero-number false = omega (arith, ints)

to_one-number : (t : Bool) → number_of t ≤ℤ pos 1
to_one-number true = omega (arith, ints)
to_one-number false = omega (arith, ints)

truth_ends : (t : Bool) (b : Bounds) (x : ℤ) → TruthShape b → x ≡ number_of t → cond t b.can_true b.can_false ≡ true → NumberIn b x
truth_ends true b x shape is can = record { low = rw (shape.low, is) (to_one-number (not b.can_false)); high = rw (shape.high, is, can) (omega (arith, ints)) }
truth_ends false b x shape is can = record { low = rw (shape.low, is, can) (omega (arith, ints)); high = rw (shape.high, is) (from_zero-number b.can_true) }

-- a truth value lies between the ends too
pub within_ends : (k : Kind) (b : Bounds) (r : OrFault ℤ) (x : ℤ) → BoundsHold k b r → r ≡ Ok x → NumberIn b x
within_ends kinds.Range b r x h done = h.inside x done
within_ends kinds.Truth b r x h done =
    let i : TruthIn b x = h.inside x done in
    truth_ends i.truth b x h.shape i.value i.can
