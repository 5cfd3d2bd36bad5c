-- Small inputs and outputs, which are what is seen of them.
use Rattle.std.specs.Prelude.{◌≡◌, ℕ, Bool, true, false, List, [], Some}
use Rattle.sig_base.specs.Sink.{Outlet}
use Rattle.sig_base.specs.Source.{Inlet}
use Rattle.answer_delivery.specs.declared.status.Status.{Status}
use Rattle.sigma_top.specs.StatusTable.{Ends}
use Rattle.sigma_top.specs.Promises.{KeepsPromises}

-- an input that has these bytes left, of which so many calls failed
abbrev pub input_of : List ℕ → ℕ → Inlet
input_of bytes faults = record { left = Some bytes; faults = faults }

-- an output that took these bytes, of which so many calls failed, and which is finished or not
abbrev pub output_of : List ℕ → ℕ → Bool → Outlet
output_of bytes faults settled = record { written = Some bytes; faults = faults; settled = settled }

-- an output that took nothing
abbrev pub untouched : Outlet
untouched = output_of [] 0 true

-- an error output that took this line
abbrev pub with_line : List ℕ → Outlet
with_line line = output_of line 0 true

-- the table of statuses over such devices
abbrev pub EndsSo : Status → List (List ℕ) → Inlet → Inlet → Outlet → Outlet → Outlet → Outlet → Type 0
EndsSo status words i j o p e f = Ends {S = Inlet} {K = Outlet} {E = Outlet} (λ i. i) (λ o. o) (λ e. e) words i j o p e f status

-- the promises of a call with these words that ended with this status, read this text and wrote these bytes
abbrev pub PromisesSo : Status → List (List ℕ) → List ℕ → List ℕ → Type 0
PromisesSo status words text out = KeepsPromises (λ s. status ≡ s) words (input_of text 0) (output_of [] 0 false) (output_of out 0 true)
