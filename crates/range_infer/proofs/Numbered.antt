-- One range for each place, one after the other.
use Rattle.std.proofs.Common.{◌≡◌, ℕ, ◌+◌, List, [], ◌∷◌, ◌++◌, map, sym, ◌∙◌, ap₂, arith}
use Rattle.std.specs.List.{range_with_len}
use Rattle.std.proofs.lemmas.List.FromFn.{map-range_with_len_more}
use Rattle.model_core.specs.declared.var_range.VarRange.{VarRange}

pub numbered-more : (f : ℕ → VarRange) (n : ℕ) (before new : List VarRange) (x : VarRange) → before ≡ map f (range_with_len 0 n) → x ≡ f n → new ≡ before ++ x ∷ [] → new ≡ map f (range_with_len 0 (n + 1))
numbered-more f n before new x so is pushed =
    pushed ∙ (ap₂ (λ (xs : List VarRange) (y : VarRange). xs ++ y ∷ []) so is ∙ sym (map-range_with_len_more f 0 n n (omega arith)))
