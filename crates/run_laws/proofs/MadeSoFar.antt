-- A loop that makes one part after the other: what all of them make, and what they leave at the first that faults.
use Rattle.std.proofs.Common.{◌≡◌, List, ◌∷◌, Ok, Err, sym, ap, ◌∙◌}
use Rattle.sig_base.specs.declared.fault.FaultKind.{FaultKind}
use Rattle.model_core.specs.Run.Value.{OrFault, ◌>>=◌, in_turn}
use Rattle.model_core.specs.Run.LeftByFaults.{or_left, left_in_turn}

module _ {A S : Type 0} (f : A → S → OrFault S) (left : A → S → S) (all : List A) (first : S) where
  -- what remains to be made at s comes to what all come to at the start
  pub record MadeSoFar (remaining : List A) (s : S) : Type 0 where
    pub makes : in_turn f remaining s ≡ in_turn f all first
    pub leaves : left_in_turn f left remaining s ≡ left_in_turn f left all first

  pub made_more : (remaining later : List A) (a : A) (s t : S) → remaining ≡ a ∷ later → f a s ≡ Ok t → MadeSoFar remaining s → MadeSoFar later t
  made_more remaining later a s t is ok h = record {
    makes = sym (ap (λ as_. in_turn f as_ s) is ∙ ap (λ r. r >>= in_turn f later) ok) ∙ h.makes;
    leaves = sym (ap (λ as_. left_in_turn f left as_ s) is ∙ ap (λ r. or_left r (left a s) (left_in_turn f left later)) ok) ∙ h.leaves;
  }

  -- a part faults
  pub record Faults (k : FaultKind) (s : S) : Type 0 where
    pub makes : in_turn f all first ≡ Err k
    pub leaves : left_in_turn f left all first ≡ s

  pub made_fault : (remaining later : List A) (a : A) (s : S) (k : FaultKind) → remaining ≡ a ∷ later → f a s ≡ Err k → MadeSoFar remaining s → Faults k (left a s)
  made_fault remaining later a s k is fault h = record {
    makes = sym h.makes ∙ ap (λ as_. in_turn f as_ s) is ∙ ap (λ r. r >>= in_turn f later) fault;
    leaves = sym h.leaves ∙ ap (λ as_. left_in_turn f left as_ s) is ∙ ap (λ r. or_left r (left a s) (left_in_turn f left later)) fault;
  }
