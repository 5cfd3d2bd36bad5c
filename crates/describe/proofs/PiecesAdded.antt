-- Texts that are added one after the other.
use Rattle.std.proofs.Common.{◌≡◌, ℕ, List, ◌++◌, ◌∙◌, append_assoc}
use Rattle.std.specs.Prelude.{Result, OnOk}
use Rattle.std.proofs.lemmas.Result.{on_ok_weaker}

-- what the last call leaves is the whole
pub all_added : {T E : Type 0} (r : Result T E) (after left whole : List ℕ) → OnOk r (after ≡ left) → left ≡ whole → OnOk r (after ≡ whole)
all_added r after left whole last all = on_ok_weaker {P = after ≡ left} {Q = after ≡ whole} r (λ e. e ∙ all) last

-- six texts after another one
pub six_texts_after : (s a b c d e f : List ℕ) → s ++ a ++ b ++ c ++ d ++ e ++ f ≡ s ++ (a ++ b ++ c ++ d ++ e ++ f)
six_texts_after s a b c d e f = simp append_assoc
