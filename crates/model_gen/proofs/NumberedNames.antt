-- Names that are a letter with a number after it: they are names, they are short, and no two are the same.
use Rattle.std.proofs.Common.{◌≡◌, ℕ, zero, suc, ◌+◌, ◌%◌, ◌^◌, ◌≤◌, ◌<◌, Bool, true, false, List, [], ◌∷◌, ◌++◌, map, length, refl, arith}
use Rattle.std.specs.Prelude.{codes, decimal}
use Rattle.std.specs.List.{AllByRecursion, IsDistinct, range_with_len}
use Rattle.std.proofs.lemmas.Grind.{common_steps}
use Rattle.std.proofs.lemmas.Fmt.{decimal_injective, decimal_by_steps, length-decimal-le}
use Rattle.std.proofs.lemmas.Bool.{false_from_ne_true}
use lib.Pointwise.{bytes_decides}
use Rattle.model_core.specs.Text.Lexing.{is_word_byte, same_bytes}
use Rattle.model_core.specs.Text.Spellable.{IsName}
use Rattle.model_core.proofs.EachOne.{every-append, every-joined}
use Rattle.model_gen.proofs.MadeInTurn.{each_made}

-- ---- digits

digit_byte : (d : ℕ) → d < 10 → is_word_byte (48 + d) ≡ true
digit_byte d below = grind (arith, common_steps)

pub digit_bytes : (n : ℕ) → n < 2 ^ 64 → AllByRecursion (λ c. is_word_byte c ≡ true) (decimal n)
digit_bytes n small =
    decimal_by_steps (λ n ds. AllByRecursion (λ c. is_word_byte c ≡ true) ds) (λ n below. (digit_byte n below, tt))
    (λ n ds above all. every-append (λ c. is_word_byte c ≡ true) ds (48 + n % 10) all (digit_byte (n % 10) (omega arith))) n small

pub few_digits : (n : ℕ) → n < 1000 → length (decimal n) ≤ 3
few_digits n small = length-decimal-le 3 n (omega arith) (omega arith) (omega arith)

-- ---- names

pub made_counter_named : (n : ℕ) → n < 1000 → IsName (codes "C" ++ decimal n)
made_counter_named n small = record { begins = refl; all = (refl, digit_bytes n (omega arith)); free = refl }

pub made_vertex_named : (n : ℕ) → n < 1000 → IsName (codes "E" ++ decimal n)
made_vertex_named n small = record { begins = refl; all = (refl, digit_bytes n (omega arith)); free = refl }

-- ---- no two are the same

pub digits_apart : (m n : ℕ) → m < n → n < 1000 → same_bytes (decimal m) (decimal n) ≡ false
digits_apart m n below small =
    false_from_ne_true (same_bytes (decimal m) (decimal n))
    (λ same. let equal : m ≡ n = decimal_injective m n (omega arith) (omega arith) ((bytes_decides (decimal m) (decimal n)).0 same) in omega arith)

-- after one letter, by the result of the numbers' test
pub numbered_apart : (name : ℕ → List ℕ) → ((m n : ℕ) → m < n → n < 1000 → same_bytes (name m) (name n) ≡ false) → (a n : ℕ) → a + n ≤ 1000 → IsDistinct same_bytes (map name (range_with_len a n))
unfolding IsDistinct
numbered_apart name apart a zero within = tt
numbered_apart name apart a (suc n) within = (each_made (λ y. same_bytes (name a) y ≡ false) name (a + 1) n 1000 (omega arith) (λ i from below. apart a i (omega arith) below), numbered_apart name apart (a + 1) n (omega arith))

pub distinct_joined : {A : Type 0} (same : A → A → Bool) (xs ys : List A) → IsDistinct same xs → IsDistinct same ys → AllByRecursion (λ x. AllByRecursion (λ y. same x y ≡ false) ys) xs → IsDistinct same (xs ++ ys)
unfolding IsDistinct
distinct_joined same [] ys first second apart = second
distinct_joined same (x ∷ xs) ys first second apart = (every-joined (λ y. same x y ≡ false) xs ys first.0 apart.0, distinct_joined same xs ys first.1 second apart.1)
