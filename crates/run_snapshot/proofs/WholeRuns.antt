-- A run that is going on after some steps goes on as the whole run does, whatever the stop times.
use Rattle.std.proofs.Common.{◌≡◌, ℕ, ◌+◌, ℤ, List, Some, sym, ap, ◌∙◌, arith}
use Rattle.model_core.specs.EventGraph.{EventGraph}
use Rattle.model_core.specs.Run.Machine.{Reached, ahead}
use Rattle.model_core.specs.Run.History.{Moment, start, look, look_from, reached_from}
use Rattle.model_core.specs.Saved.GoingOn.{GoesOn}
use Rattle.run_laws.proofs.OnTime.{starts-on_time}
use Rattle.run_snapshot.proofs.OtherStops.{forwards, reached-too}

-- as the laws of runs say it
abbrev pub Onward : EventGraph → ℕ → Type 0
Onward g seed = (until n k : ℕ) (m : Moment) (r : Reached Moment) → reached_from g seed until n m ≡ Some r → look_from g seed until (n + k) m ≡ ahead r.notes (look_from g seed until k r.moment)

pub goes_on : (g : EventGraph) (seed : ℕ) → Onward g seed → (starts : List ℤ) (until n : ℕ) (r : Reached Moment) → reached_from g seed until n (start g starts) ≡ Some r → (look g seed starts until n).history ≡ r.notes → GoesOn g seed starts until n r.moment
goes_on g seed onward starts until n r there shown =
    let ahead_of = forwards g seed until n (start g starts) r (starts-on_time g starts) there in
    record {
      reaches = there ∙ ap (λ notes. Some (record r { notes = notes })) (sym shown);
      early = ahead_of.soon (omega arith);
      whole = λ later more soon.
          onward later n more (start g starts) r (reached-too g seed until later n (start g starts) r (starts-on_time g starts) there soon)
          ∙ ap (λ notes. ahead notes (look_from g seed later more r.moment)) (sym shown);
    }
