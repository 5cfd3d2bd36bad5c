-- A list that a function gives, number by number: how long it is, its elements by their places, and one number more.
use Rattle.std.proofs.Common.{◌≡◌, ℕ, ◌+◌, ◌-◌, ◌<◌, ◌≤◌, List, ◌∷◌, [], ◌++◌, length, map, get_or, sym, ap, ◌∙◌, arith}
use Rattle.std.specs.List.{range_with_len, flat_map}
use Rattle.std.proofs.lemmas.List.{length-map, get_or-map, map-id}
use Rattle.std.proofs.lemmas.List.FromFn.{length-map-range_with_len, get_or-map-range_with_len, map-range_with_len_more}
use Rattle.sig_base.proofs.Lists.{one_more}

-- where a list is seen as that of a function, it is as long
pub as-many : {X Y : Type 0} (view : X → Y) (f : ℕ → Y) (xs : List X) (n : ℕ) → map view xs ≡ map f (range_with_len 0 n) → length xs ≡ n
as-many view f xs n same = sym (length-map xs view) ∙ ap length same ∙ length-map-range_with_len f 0 n

-- and an element is seen as the function's value at its place
pub seen-at : {X Y : Type 0} (view : X → Y) (f : ℕ → Y) (xs : List X) (n i : ℕ) (x : X) → map view xs ≡ map f (range_with_len 0 n) → i < length xs → x ≡ get_or xs i x → view x ≡ f i
seen-at view f xs n i x same below is =
    let long = as-many view f xs n same in
    ap view is ∙ sym (get_or-map view xs i x (view x) below) ∙ ap (λ ys. get_or ys i (view x)) same ∙ get_or-map-range_with_len f 0 n i i (view x) (omega (arith, long, below)) (omega arith)

range-more : (a n b : ℕ) → a + n ≡ b → range_with_len a (n + 1) ≡ range_with_len a n ++ b ∷ []
range-more a n b is = sym (map-id (range_with_len a (n + 1))) ∙ map-range_with_len_more (λ (k : ℕ). k) a n b is ∙ ap (λ ks. ks ++ b ∷ []) (map-id (range_with_len a n))

-- the numbers from a up to b, and b
range-up_to : (a b : ℕ) → a ≤ b → range_with_len a (b + 1 - a) ≡ range_with_len a (b - a) ++ b ∷ []
range-up_to a b below =
    let longer : b + 1 - a ≡ b - a + 1 = omega arith in
    ap (range_with_len a) longer ∙ range-more a (b - a) b (omega arith)

-- what the next number gives joins what those before it gave
pub next_joined : {X : Type 0} (f : ℕ → List X) (start before after : List X) (a b : ℕ) → a ≤ b → after ≡ before ++ f b → before ≡ start ++ flat_map f (range_with_len a (b - a)) → after ≡ start ++ flat_map f (range_with_len a (b + 1 - a))
next_joined f start before after a b below added so_far = one_more f start before after (range_with_len a (b - a)) (range_with_len a (b + 1 - a)) b (range-up_to a b below) added so_far

-- the same from 0 on
pub one_number_more : {X : Type 0} (f : ℕ → List X) (start before after : List X) (n : ℕ) → after ≡ before ++ f n → before ≡ start ++ flat_map f (range_with_len 0 n) → after ≡ start ++ flat_map f (range_with_len 0 (n + 1))
one_number_more f start before after n added so_far = one_more f start before after (range_with_len 0 n) (range_with_len 0 (n + 1)) n (range-more 0 n n (omega arith)) added so_far
