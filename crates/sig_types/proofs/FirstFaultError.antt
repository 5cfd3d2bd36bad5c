-- An error that names the first fault is the right one.
use Rattle.std.proofs.Common.{◌≡◌, ℕ, Some, Result, Err}
use Rattle.model_core.specs.declared.static_kind.StaticKind.{StaticKind}
use Rattle.model_core.specs.Text.Written.{WrittenModel}
use Rattle.model_core.specs.Static.ModelFaults.{first_fault, IsFirstFault}
use Rattle.static_laws.proofs.OneFirstFault.{found_is_first_fault}
use Rattle.sig_types.specs.declared.error.StaticError.{StaticError}
use Rattle.sig_types.specs.declared.error.StaticError.TheVariants as errors
use Rattle.sig_types.specs.declared.first_fault.Fault.{Fault}

pub is_first_fault : {A : Type 0} (m : WrittenModel) (f : Fault) (kind : StaticKind) (at : ℕ) → first_fault m ≡ Some (record { at = f.at; kind = f.kind }) → ◌≡◌ {A = Result A StaticError} (Err (errors.Fault f.kind f.at)) (Err (errors.Fault kind at)) → IsFirstFault m kind at
is_first_fault m f kind at first is =
    let one : f.kind ≡ kind = cc in
    let place : f.at ≡ at = cc in
    rw (← one, ← place) ((found_is_first_fault m (record { at = f.at; kind = f.kind })).0 first)
