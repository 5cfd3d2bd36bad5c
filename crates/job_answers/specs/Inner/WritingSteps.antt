-- The clauses between the steps of writing an answer as it comes.
use Rattle.std.specs.Prelude.{◌≡◌, ◌⊎◌, ℕ, false, List, Result, Ok, Err}
use Rattle.sig_base.specs.Faults.{HasRisen}
use Rattle.sig_base.specs.Sink.{Outlet, GrowsBy}
use Rattle.answer_delivery.specs.declared.status.End.{End}
use Rattle.answer_delivery.specs.declared.status.Failure.{Failure}
use Rattle.answer_delivery.specs.declared.status.Failure.TheVariants as failures
use Rattle.answer_delivery.specs.DeliverySteps.{Written}
use Rattle.answer_delivery.specs.FrontWritten.{GrowsByFront}

-- what writing bytes piece by piece did: the same as at once, but that memory may be refused after a front of them
abbrev pub WritesPieces : List ℕ → Result Unit Failure → Outlet → Outlet → Type 0
WritesPieces bytes (Err failures.NoMemory) o p = GrowsByFront o p bytes × (p.faults ≡ o.faults)
WritesPieces bytes r o p = Written bytes r o p

-- What writing bytes as they come did; how the job ends is clear at last. Memory may be refused after a front of them
-- where `Short` holds.
abbrev pub StreamsBytes : {K : Type 0} → (K → Outlet) → End → List ℕ → Type 0 → Result End Failure → K → K → Type 0
StreamsBytes seen end bytes Short (Ok e) o p = (e ≡ end) × GrowsBy (seen o).written (seen p).written bytes × ((seen p).settled ≡ false) × ((seen p).faults ≡ (seen o).faults)
StreamsBytes seen end bytes Short (Err failures.WriteFault) o p = GrowsByFront (seen o) (seen p) bytes × ((seen p).settled ≡ false) × HasRisen (seen o).faults (seen p).faults
StreamsBytes seen end bytes Short (Err failures.NoMemory) o p = ((p ≡ o) ⊎ (Short × GrowsByFront (seen o) (seen p) bytes)) × ((seen p).faults ≡ (seen o).faults)
StreamsBytes seen end bytes Short (Err e) o p = ⊥
