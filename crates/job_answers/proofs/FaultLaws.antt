-- The law of static faults, in one record: each written model has one first fault, or is accepted.
use Rattle.std.specs.Prelude.{◌≡◌, ◌↔◌, Some, None}
use Rattle.model_core.specs.Static.FaultOrder.{StaticFault}
use Rattle.job_answers.proofs.ModelTerms.{EventGraph, WrittenModel, IsFirstFault, first_fault, Accepted}

pub record FaultLaws : Type 0 where
  pub first_is_fault : (m : WrittenModel) (f : StaticFault) → first_fault m ≡ Some f ↔ IsFirstFault m f.kind f.at
  pub accepted : (m : WrittenModel) → first_fault m ≡ None ↔ ((g : EventGraph) × Accepted m g)
