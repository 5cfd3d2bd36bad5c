-- The first word of bytes ends at their first 0, and the words after it are those of the bytes past that.
use Rattle.std.proofs.Common.{◌≡◌, ◌⊎◌, inl, inr, ℕ, zero, suc, ◌+◌, ◌<◌, List, [], ◌∷◌, ◌++◌, length, take, drop, refl, sym, ap, subst, ◌∙◌, arith, true, All, IsUtf8}
use Rattle.std.proofs.lemmas.Bool.{eqb-true}
use Rattle.std.proofs.lemmas.List.{append-nil, length-append, take_all, drop_all, get_or-append-add}
use Rattle.std.specs.Prelude.{slice_index}
use Rattle.memchr.specs.Find.{is_byte}
use Rattle.answer_delivery.specs.declared.status.Failure.{Failure}
use Rattle.answer_delivery.specs.declared.status.Failure.TheVariants as failures
use Rattle.sigma_page.specs.PageWords.{ended_words, onto_first}

-- the byte at this place is 0
abbrev Ends : List ℕ → ℕ → Type 0
Ends bytes k = is_byte 0 (slice_index bytes k) ≡ true

pub first_word_ends : (bytes : List ℕ) (end : ℕ) → end < length bytes → Ends bytes end → ((k : ℕ) → k < end → Ends bytes k → ⊥)
    → ended_words bytes ≡ take end bytes ∷ ended_words (drop (end + 1) bytes)
unfolding ended_words onto_first
first_word_ends [] end within is before = absurd (omega (arith, within))
first_word_ends (zero ∷ bytes) zero within is before = refl
first_word_ends (zero ∷ bytes) (suc n) within is before = absurd (before 0 (omega arith) refl)
first_word_ends (suc b ∷ bytes) zero within is before = let zero_is : suc b ≡ 0 = eqb-true _ _ is in absurd (omega (arith, zero_is))
first_word_ends (suc b ∷ bytes) (suc n) within is before =
    let one_more : suc (n + 1) ≡ suc n + 1 = omega arith in
    ap (onto_first (suc b)) (first_word_ends bytes n (omega (arith, within)) is (λ k below. before (suc k) (omega (arith, below))))
    ∙ ap (λ k. (suc b ∷ take n bytes) ∷ ended_words (drop k (suc b ∷ bytes))) one_more

pub last_word_is_all : (bytes : List ℕ) → 0 < length bytes → ((k : ℕ) → k < length bytes → Ends bytes k → ⊥) → ended_words bytes ≡ bytes ∷ []
unfolding ended_words onto_first
last_word_is_all [] some none = absurd (omega (arith, some))
last_word_is_all (zero ∷ bytes) some none = absurd (none 0 some refl)
last_word_is_all (suc b ∷ []) some none = refl
last_word_is_all (suc b ∷ c ∷ bytes) some none = ap (onto_first (suc b)) (last_word_is_all (c ∷ bytes) (omega arith) (λ k below. none (suc k) (omega (arith, below))))

-- past all bytes there is no word
pub no_word_past : (bytes : List ℕ) (n : ℕ) → ended_words (take n (drop (length bytes) bytes)) ≡ []
unfolding ended_words
no_word_past bytes n = ap ended_words (ap (take n) (drop_all (length bytes) bytes (omega arith)) ∙ take_all n [] (omega arith))

-- ---- words that are taken one by one

-- all words
pub words_done : (words all : List (List ℕ)) (rest : List ℕ) → rest ≡ [] → words ++ ended_words rest ≡ all → words ≡ all
unfolding ended_words
words_done words all rest none taken = sym (append-nil words) ∙ ap (λ r. words ++ ended_words r) (sym none) ∙ taken

-- one word that isn't UTF-8
pub one_word_counts : (words : List (List ℕ)) (first : List ℕ) (left others all : List (List ℕ)) → words ++ left ≡ all → left ≡ first ∷ others → (IsUtf8 first → ⊥) → All IsUtf8 all → ⊥
one_word_counts words first left others all taken cut wrong right =
    let whole : words ++ first ∷ others ≡ all = ap (λ ws. words ++ ws) (sym cut) ∙ taken in
    let right_here : All IsUtf8 (words ++ first ∷ others) = subst (λ (ws : List (List ℕ)). All IsUtf8 ws) (sym whole) right in
    wrong (subst IsUtf8 (get_or-append-add words (first ∷ others) 0 first) (right_here (length words + 0) first (omega (arith, length-append words (first ∷ others)))))

pub wrong_word_counts : (why : Failure) (words : List (List ℕ)) (first : List ℕ) (left others all : List (List ℕ)) → (why ≡ failures.NoMemory) ⊎ ((why ≡ failures.Usage) × (IsUtf8 first → ⊥))
    → words ++ left ≡ all → left ≡ first ∷ others → (why ≡ failures.NoMemory) ⊎ ((why ≡ failures.Usage) × (All IsUtf8 all → ⊥))
wrong_word_counts why words first left others all (inl is) taken cut = inl is
wrong_word_counts why words first left others all (inr h) taken cut = inr (h.0, one_word_counts words first left others all taken cut h.1)

-- ---- computed: a blank ends no word, a 0 does, and the last word may lack it

words_of_ended : ended_words (114 ∷ 0 ∷ 0 ∷ 97 ∷ 32 ∷ 98 ∷ 0 ∷ []) ≡ (114 ∷ []) ∷ [] ∷ (97 ∷ 32 ∷ 98 ∷ []) ∷ []
unfolding ended_words onto_first
words_of_ended = refl

words_of_unended : ended_words (114 ∷ 0 ∷ 97 ∷ []) ≡ (114 ∷ []) ∷ (97 ∷ []) ∷ []
unfolding ended_words onto_first
words_of_unended = refl
