-- Texts that are put after what was put before.
use Rattle.std.proofs.Common.{◌≡◌, ℕ, List, ◌++◌, Result, Ok, Err, ◌∙◌, ap, append_assoc}
use Rattle.std.specs.Prelude.{OnOk}

pub one_more : (old mid new text x : List ℕ) → mid ≡ old ++ text → new ≡ mid ++ x → new ≡ old ++ (text ++ x)
one_more old mid new text x first second = second ∙ ap (λ (m : List ℕ). m ++ x) first ∙ append_assoc old text x

pub two_more : (old mid new text x y : List ℕ) → mid ≡ old ++ text → new ≡ (mid ++ x) ++ y → new ≡ old ++ ((text ++ x) ++ y)
two_more old mid new text x y first second = one_more old (mid ++ x) new (text ++ x) y (ap (λ (m : List ℕ). m ++ x) first ∙ append_assoc old text x) second

pub at_last : {A E : Type 0} (r : Result A E) (old mid new text x : List ℕ) → mid ≡ old ++ text → OnOk r (new ≡ mid ++ x) → OnOk r (new ≡ old ++ (text ++ x))
at_last (Ok y) old mid new text x first second = one_more old mid new text x first second
at_last (Err e) old mid new text x first second = tt
