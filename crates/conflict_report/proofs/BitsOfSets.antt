-- Sets of vertices as bits: with one vertex more, with words more, and joined.
use Rattle.std.proofs.Common.{◌≡◌, ◌⊎◌, inl, inr, not, ℕ, zero, suc, ◌+◌, ◌/◌, ◌%◌, ◌^◌, ◌*◌, ◌<◌, ◌≤◌, ◌==◌, false, ◌||◌, List, [], ◌∷◌, ◌++◌, length, take, get_or, bit_and, bit_or, max, w64, refl, sym, ap, ap₂, subst, ◌∙◌, arith}
use Rattle.std.specs.Prelude.{replicate}
use Rattle.std.specs.Int.{bit_at}
use Rattle.std.specs.Int.Bits.{or_zero_r}
use Rattle.std.proofs.Math.ListN.{set}
use Rattle.std.proofs.lemmas.Bool.{cases_eq, cases_lt, ne_eqb}
use Rattle.std.proofs.lemmas.Bool.Decides.{nat_tests}
use Rattle.std.proofs.lemmas.List.{get_or-set_same, get_or-set_other, get_or-take, get_or_past, get_or_default, length-take}
use Rattle.std.proofs.lemmas.Nat.{one_shl, pow_pos}
use Rattle.std.proofs.lemmas.Nat.Bits.{bit_at-zero, bit_at-lt, bit_at_or, and_pow, bit_at_set_same, bit_at_set_other}
use Rattle.model_core.proofs.Among.{first_true}
use Rattle.model_core.proofs.PlacesChanged.{same_number}
use Rattle.run_laws.proofs.InRange.{replicate-get}
use Rattle.conflict_report.specs.Inner.NumberHolders.{has_vertex}

-- no words have none
pub none-has : (place : ℕ) → has_vertex [] place ≡ false
unfolding has_vertex
none-has place = ap (λ b. b == 1) (bit_at-zero (place % 64))

-- the same words have the same
same-has : (old new : List ℕ) → ((i : ℕ) → get_or new i 0 ≡ get_or old i 0) → (place : ℕ) → has_vertex new place ≡ has_vertex old place
unfolding has_vertex
same-has old new same place = ap (λ word. bit_at word (place % 64) == 1) (same (place / 64))

-- ---- words of no bits after the others

pub padded : {A : Type 0} (d : A) (xs : List A) (n i : ℕ) → get_or (xs ++ replicate n d) i d ≡ get_or xs i d
padded d [] n i = replicate-get n i d
padded d (x ∷ xs) n zero = refl
padded d (x ∷ xs) n (suc i) = padded d xs n i

-- ---- one bit asked for, and one set

of_bit : (b p : ℕ) → b < 2 → 0 < p → not (b * p == 0) ≡ (b == 1)
of_bit zero p small some = ap not (same_number (0 * p) 0 (omega arith))
of_bit (suc zero) p small some = ap not (ne_eqb (1 * p) 0 (λ e. absurd (omega (arith, e))))
of_bit (suc (suc b)) p small some = absurd (omega arith)

bit-asked : (word i : ℕ) → i < 64 → not (bit_and word (1 * 2 ^ i % 2 ^ 64) == 0) ≡ (bit_at word i == 1)
bit-asked word i small = ap (λ n. not (n == 0)) (ap (bit_and word) (one_shl i 64 small) ∙ and_pow word i) ∙ of_bit (bit_at word i) (2 ^ i) (bit_at-lt word i) (pow_pos i)

-- the bit of a vertex, in its word
pub asked : (words now : List ℕ) (place word : ℕ) → words ≡ now → place / 64 < length words → word ≡ get_or words (place / 64) word → not (bit_and word (1 * 2 ^ (place % 64) % 2 ^ 64) == 0) ≡ has_vertex now place
unfolding has_vertex
asked words now place word same inside is =
    bit-asked word (place % 64) (omega arith)
    ∙ ap (λ w. bit_at w (place % 64) == 1) (is ∙ get_or_default words (place / 64) word 0 inside ∙ ap (λ (ws : List ℕ). get_or ws (place / 64) 0) same)

-- where there is no word for it
pub unasked : (words now : List ℕ) (place : ℕ) → words ≡ now → length words ≤ place / 64 → false ≡ has_vertex now place
unfolding has_vertex
unasked words now place same beyond =
    sym (ap (λ b. b == 1) (bit_at-zero (place % 64))) ∙ ap (λ w. bit_at w (place % 64) == 1) (sym (get_or_past words (place / 64) 0 beyond) ∙ ap (λ (ws : List ℕ). get_or ws (place / 64) 0) same)

bit-put : (word i j : ℕ) → i < 64 → (bit_at (bit_or word (1 * 2 ^ i % 2 ^ 64)) j == 1) ≡ ((i == j) || (bit_at word j == 1))
bit-put word i j small = by (cases_eq j i) where
  by : (j ≡ i) ⊎ (j ≡ i → ⊥) → (bit_at (bit_or word (1 * 2 ^ i % 2 ^ 64)) j == 1) ≡ ((i == j) || (bit_at word j == 1))
  by (inl same) =
      ap (λ n. bit_at (bit_or word (1 * 2 ^ i % 2 ^ 64)) n == 1) same ∙ ap (λ b. b == 1) (bit_at_set_same w64 word i small) ∙ sym (first_true (i == j) (bit_at word j == 1) (same_number i j (sym same)))
  by (inr apart) =
      ap (λ b. b == 1) (bit_at_set_other w64 word i small j apart) ∙ ap (λ b. b || (bit_at word j == 1)) (sym (ne_eqb i j (λ e. apart (sym e))))

same-places : (p k : ℕ) → k / 64 ≡ p / 64 → (p % 64 == k % 64) ≡ (p == k)
same-places p k word = by (cases_eq p k) where
  by : (p ≡ k) ⊎ (p ≡ k → ⊥) → (p % 64 == k % 64) ≡ (p == k)
  by (inl same) = same_number (p % 64) (k % 64) (ap (λ n. n % 64) same) ∙ sym (same_number p k same)
  by (inr apart) = ne_eqb (p % 64) (k % 64) (λ e. apart (omega arith)) ∙ sym (ne_eqb p k apart)

-- the vertex at a place is put into its word
put-has : (words : List ℕ) (place : ℕ) → place / 64 < length words → (k : ℕ) → has_vertex (set words (place / 64) (bit_or (get_or words (place / 64) 0) (1 * 2 ^ (place % 64) % 2 ^ 64))) k ≡ ((place == k) || has_vertex words k)
unfolding has_vertex
put-has words place inside k = by (cases_eq (k / 64) (place / 64)) where
  by : (k / 64 ≡ place / 64) ⊎ (k / 64 ≡ place / 64 → ⊥) → (bit_at (get_or (set words (place / 64) (bit_or (get_or words (place / 64) 0) (1 * 2 ^ (place % 64) % 2 ^ 64))) (k / 64) 0) (k % 64) == 1) ≡ ((place == k) || (bit_at (get_or words (k / 64) 0) (k % 64) == 1))
  by (inl same) =
      ap (λ i. bit_at (get_or (set words (place / 64) (bit_or (get_or words (place / 64) 0) (1 * 2 ^ (place % 64) % 2 ^ 64))) i 0) (k % 64) == 1) same
      ∙ ap (λ w. bit_at w (k % 64) == 1) (get_or-set_same words (place / 64) (bit_or (get_or words (place / 64) 0) (1 * 2 ^ (place % 64) % 2 ^ 64)) 0 inside)
      ∙ bit-put (get_or words (place / 64) 0) (place % 64) (k % 64) (omega arith)
      ∙ ap₂ (λ b i. b || (bit_at (get_or words i 0) (k % 64) == 1)) (same-places place k same) (sym same)
  by (inr apart) =
      ap (λ w. bit_at w (k % 64) == 1) (get_or-set_other words (place / 64) (k / 64) (bit_or (get_or words (place / 64) 0) (1 * 2 ^ (place % 64) % 2 ^ 64)) 0 apart)
      ∙ ap (λ b. b || (bit_at (get_or words (k / 64) 0) (k % 64) == 1)) (sym (ne_eqb place k (λ e. apart (ap (λ n. n / 64) (sym e)))))

-- ---- two sets joined

taken-elsewhere : (xs : List ℕ) (i j : ℕ) → (j ≡ i → ⊥) → get_or (take i xs) j 0 ≡ get_or (take (i + 1) xs) j 0
taken-elsewhere xs i j apart = by (cases_lt j i) where
  by : (j < i) ⊎ (i ≤ j) → get_or (take i xs) j 0 ≡ get_or (take (i + 1) xs) j 0
  by (inl before) = get_or-take i xs j 0 before ∙ sym (get_or-take (i + 1) xs j 0 (omega arith))
  by (inr past) = get_or_past (take i xs) j 0 (omega (arith, length-take i xs)) ∙ sym (get_or_past (take (i + 1) xs) j 0 (omega (arith, length-take (i + 1) xs)))

-- one word more is joined
pub join-more : (words old others : List ℕ) (i : ℕ) → i < length words → i < length others → ((j : ℕ) → get_or words j 0 ≡ bit_or (get_or old j 0) (get_or (take i others) j 0)) → (j : ℕ) → get_or (set words i (bit_or (get_or words i 0) (get_or others i 0))) j 0 ≡ bit_or (get_or old j 0) (get_or (take (i + 1) others) j 0)
join-more words old others i inside below so_far j = by (cases_eq j i) where
  not_joined_yet : get_or words i 0 ≡ get_or old i 0
  not_joined_yet = so_far i ∙ ap (bit_or (get_or old i 0)) (get_or_past (take i others) i 0 (omega (arith, length-take i others))) ∙ or_zero_r (get_or old i 0)

  by : (j ≡ i) ⊎ (j ≡ i → ⊥) → get_or (set words i (bit_or (get_or words i 0) (get_or others i 0))) j 0 ≡ bit_or (get_or old j 0) (get_or (take (i + 1) others) j 0)
  by (inl same) =
      ap (λ n. get_or (set words i (bit_or (get_or words i 0) (get_or others i 0))) n 0) same
      ∙ get_or-set_same words i (bit_or (get_or words i 0) (get_or others i 0)) 0 inside
      ∙ ap₂ bit_or (not_joined_yet ∙ ap (λ n. get_or old n 0) (sym same)) (sym (get_or-take (i + 1) others i 0 (omega arith)) ∙ ap (λ n. get_or (take (i + 1) others) n 0) (sym same))
  by (inr apart) = get_or-set_other words i j (bit_or (get_or words i 0) (get_or others i 0)) 0 apart ∙ so_far j ∙ ap (bit_or (get_or old j 0)) (taken-elsewhere others i j apart)

two-bits : (a b : ℕ) → a < 2 → b < 2 → (max a b == 1) ≡ ((a == 1) || (b == 1))
two-bits a b x y = grind (arith, nat_tests)

joined-has : (old others new : List ℕ) → ((i : ℕ) → get_or new i 0 ≡ bit_or (get_or old i 0) (get_or others i 0)) → (place : ℕ) → has_vertex new place ≡ (has_vertex old place || has_vertex others place)
unfolding has_vertex
joined-has old others new joined place =
    let i = place % 64 in
    let a = get_or old (place / 64) 0 in
    let b = get_or others (place / 64) 0 in
    ap (λ word. bit_at word i == 1) (joined (place / 64)) ∙ ap (λ c. c == 1) (bit_at_or a b i) ∙ two-bits (bit_at a i) (bit_at b i) (bit_at-lt a i) (bit_at-lt b i)

-- ---- after words were added

-- a vertex is put into its word
pub put-into : (old grown words : List ℕ) (place word : ℕ) → ((i : ℕ) → get_or grown i 0 ≡ get_or old i 0) → place / 64 + 1 ≤ length grown → words ≡ grown → word ≡ get_or words (place / 64) word → (j : ℕ) → has_vertex (set words (place / 64) (bit_or word (1 * 2 ^ (place % 64) % 2 ^ 64))) j ≡ ((place == j) || has_vertex old j)
put-into old grown words place word same long opened is j =
    let inside : place / 64 < length words = subst (λ (ws : List ℕ). place / 64 < length ws) (sym opened) (omega arith) in
    ap (λ w. has_vertex (set words (place / 64) (bit_or w (1 * 2 ^ (place % 64) % 2 ^ 64))) j) (is ∙ get_or_default words (place / 64) word 0 inside)
    ∙ put-has words place inside j ∙ ap (λ b. (place == j) || b) (ap (λ (ws : List ℕ). has_vertex ws j) opened ∙ same-has old grown same j)

-- another set is joined
pub joined-into : (old grown words others opened new whole : List ℕ) → whole ≡ new → ((i : ℕ) → get_or grown i 0 ≡ get_or old i 0) → words ≡ grown → opened ≡ others → ((i : ℕ) → get_or new i 0 ≡ bit_or (get_or words i 0) (get_or opened i 0)) → (j : ℕ) → has_vertex whole j ≡ (has_vertex old j || has_vertex others j)
joined-into old grown words others opened new whole all same is their joined j =
    ap (λ (ws : List ℕ). has_vertex ws j) all
    ∙ joined-has old others new (λ i. joined i ∙ ap₂ bit_or (ap (λ (ws : List ℕ). get_or ws i 0) is ∙ same i) (ap (λ (ws : List ℕ). get_or ws i 0) their)) j
