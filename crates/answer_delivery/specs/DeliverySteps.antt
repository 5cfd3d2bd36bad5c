-- The two steps of delivering: writing bytes, and finishing the output.
use Rattle.std.specs.Prelude.{◌≡◌, ◌<◌, ℕ, true, false, List, [], length, Result, Ok, Err}
use Rattle.sig_base.specs.Faults.{HasRisen}
use Rattle.sig_base.specs.Sink.{Outlet, GrowsBy}
use Rattle.sig_base.specs.Source.{Stays}
use Rattle.answer_delivery.specs.declared.delivering.DeliveryOutcome.{DeliveryOutcome}
use Rattle.answer_delivery.specs.declared.delivering.DeliveryOutcome.TheVariants as said
use Rattle.answer_delivery.specs.declared.status.End.{End}
use Rattle.answer_delivery.specs.declared.status.Failure.{Failure}
use Rattle.answer_delivery.specs.declared.status.Failure.TheVariants as failures
use Rattle.answer_delivery.specs.FrontWritten.{GrowsByFront}

-- what writing bytes at once did: writing some leaves the output unsettled, and writing none leaves it as it was
abbrev pub Written : {A : Type 0} → List ℕ → Result A Failure → Outlet → Outlet → Type 0
Written bytes (Ok done) o p = GrowsBy o.written p.written bytes × (0 < length bytes → p.settled ≡ false) × (p.faults ≡ o.faults) × (bytes ≡ [] → p.settled ≡ o.settled)
Written bytes (Err failures.WriteFault) o p = GrowsByFront o p bytes × (p.settled ≡ false) × HasRisen o.faults p.faults
Written bytes (Err e) o p = ⊥

-- what finishing the output did, after all of the bytes
abbrev pub Closed : End → Result DeliveryOutcome Failure → Outlet → Outlet → Type 0
Closed end (Ok (said.Gave e)) o p = (e ≡ end) × Stays o.written p.written × (p.settled ≡ true) × (p.faults ≡ o.faults)
Closed end (Err failures.WriteFault) o p = Stays o.written p.written × (p.settled ≡ o.settled) × HasRisen o.faults p.faults
Closed end r o p = ⊥
