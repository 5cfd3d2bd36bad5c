-- Pairs through the leaders of streams entail what pairs between all draws of a stream do.
use Rattle.std.proofs.Common.{◌≡◌, ◌⊎◌, inl, inr, ℕ, ◌<◌, ◌==◌, nat_lt, Bool, true, false, ◌&&◌, cond, List, [], ◌∷◌, ◌++◌, map, Some, None, Option, refl, sym, ap, subst, arith, ◌∙◌}
use Rattle.std.specs.Prelude.{filter, is_none}
use Rattle.std.specs.Option.{option_map_or}
use Rattle.std.specs.List.{flat_map}
use Rattle.std.proofs.lemmas.Bool.Decides.{nat_tests}
use Rattle.std.proofs.lemmas.Bool.{eqb-true}
use Rattle.model_core.specs.Rules.LeastRelations.{Entailed, over_pair}
use Rattle.model_core.specs.Rules.Needed.{needed_by_streams}
use Rattle.model_core.proofs.Among.{Among, contained-among, among-map, among-of_map, among-front, among-back, among-flat_map, among-either, among-filter, among-of_flat_map}
use Rattle.model_core.proofs.PlacesChanged.{same_number}
use Rattle.mark_laws.proofs.EntailedMarks.{entailed-below, Implied}
use Rattle.var_slicing.specs.Inner.Leading.{leader, next_leaders, leaders_after, leaders_of, leader_pairs}

-- ---- what flat maps and filters hold

pub among-filtered : {A : Type 0} (test : A → Bool) (xs : List A) (x : A) → Among x (filter test xs) → Among x xs × (test x ≡ true)
among-filtered test [] x among = absurd among
among-filtered {A} test (y ∷ xs) x among = tested (test y) refl among (among-filtered test xs x) where
  tested : (b : Bool) → test y ≡ b → Among x (cond b (y ∷ filter test xs) (filter test xs)) → (Among x (filter test xs) → Among x xs × (test x ≡ true)) → Among x (y ∷ xs) × (test x ≡ true)
  tested true is (inl e) rest = (inl e, subst (λ z. test z ≡ true) e is)
  tested true is (inr later) rest = let (among, passes) = rest later in (inr among, passes)
  tested false is later rest = let (among, passes) = rest later in (inr among, passes)

-- ---- leaders

leader-append : (xs ys : List (ℕ × ℕ)) (s l : ℕ) → leader xs s ≡ Some l → leader (xs ++ ys) s ≡ Some l
leader-append [] ys s l is = cc
leader-append ((r, v) ∷ xs) ys s l is = tested (r == s) is (leader-append xs ys s l) where
  tested : (b : Bool) → cond b (Some v) (leader xs s) ≡ Some l → (leader xs s ≡ Some l → leader (xs ++ ys) s ≡ Some l) → cond b (Some v) (leader (xs ++ ys) s) ≡ Some l
  tested true e rest = e
  tested false e rest = rest e

leader-last : (xs : List (ℕ × ℕ)) (s v : ℕ) → leader xs s ≡ None → leader (xs ++ (s, v) ∷ []) s ≡ Some v
leader-last [] s v none = ap (λ b. cond b (Some v) None) (same_number s s refl)
leader-last ((r, w) ∷ xs) s v none = tested (r == s) none (leader-last xs s v) where
  tested : (b : Bool) → cond b (Some w) (leader xs s) ≡ None → (leader xs s ≡ None → leader (xs ++ (s, v) ∷ []) s ≡ Some v) → cond b (Some w) (leader (xs ++ (s, v) ∷ []) s) ≡ Some v
  tested true e rest = cc
  tested false e rest = rest e

leader-among : (xs : List (ℕ × ℕ)) (s l : ℕ) → leader xs s ≡ Some l → Among (s, l) xs
leader-among [] s l is = cc
leader-among ((r, v) ∷ xs) s l is = tested (r == s) refl is (leader-among xs s l) where
  tested : (b : Bool) → (r == s) ≡ b → cond b (Some v) (leader xs s) ≡ Some l → (leader xs s ≡ Some l → Among (s, l) xs) → Among (s, l) ((r, v) ∷ xs)
  tested true same e rest = inl (let first : r ≡ s = eqb-true r s same in let second : v ≡ l = cc in cc)
  tested false same e rest = inr (rest e)

-- there is a leader
abbrev HasLeader : List (ℕ × ℕ) → ℕ → Type 0
HasLeader leaders s = (l : ℕ) × (leader leaders s ≡ Some l)

module _ (count : ℕ) where
  next-keeps : (leaders : List (ℕ × ℕ)) (r v s : ℕ) → HasLeader leaders s → HasLeader (next_leaders count leaders r v) s
  next-keeps leaders r v s (l, is) = tested (nat_lt v count && is_none (leader leaders r)) where
    tested : (b : Bool) → HasLeader (cond b (leaders ++ (r, v) ∷ []) leaders) s
    tested true = (l, leader-append leaders ((r, v) ∷ []) s l is)
    tested false = (l, is)

  next-has : (leaders : List (ℕ × ℕ)) (s v : ℕ) → v < count → HasLeader (next_leaders count leaders s v) s
  next-has leaders s v below = tested (leader leaders s) refl where
    small : nat_lt v count ≡ true
    small = grind (arith, nat_tests)

    tested : (o : Option ℕ) → leader leaders s ≡ o → HasLeader (next_leaders count leaders s v) s
    tested (Some l) is = next-keeps leaders s v s (l, is)
    tested None is =
        let adds : (nat_lt v count && is_none (leader leaders s)) ≡ true = ap (λ b. b && is_none (leader leaders s)) small ∙ ap is_none is in
        subst (λ (b : Bool). HasLeader (cond b (leaders ++ (s, v) ∷ []) leaders) s) (sym adds) (v, leader-last leaders s v is)

  after-keeps : (draws leaders : List (ℕ × ℕ)) (s : ℕ) → HasLeader leaders s → HasLeader (leaders_after count leaders draws) s
  after-keeps [] leaders s has = has
  after-keeps ((r, v) ∷ draws) leaders s has = after-keeps draws (next_leaders count leaders r v) s (next-keeps leaders r v s has)

  -- each stream of which a variable below the count is drawn has a leader
  after-has : (draws leaders : List (ℕ × ℕ)) (s v : ℕ) → Among (s, v) draws → v < count → HasLeader (leaders_after count leaders draws) s
  after-has [] leaders s v among below = absurd among
  after-has ((r, w) ∷ draws) leaders s v (inr later) below = after-has draws (next_leaders count leaders r w) s v later below
  after-has ((r, w) ∷ draws) leaders s v (inl e) below =
      let first : r ≡ s = ap (λ (p : ℕ × ℕ). p.0) e in
      let second : w ≡ v = ap (λ (p : ℕ × ℕ). p.1) e in
      after-keeps draws (next_leaders count leaders r w) s
      (subst (λ (n : ℕ). HasLeader (next_leaders count leaders r w) n) first (next-has leaders r w (omega (arith, second, below))))

  -- leaders are draws
  next-draws : (leaders draws : List (ℕ × ℕ)) (r w : ℕ) → ((p : ℕ × ℕ) → Among p leaders → Among p draws) → Among (r, w) draws → (p : ℕ × ℕ) → Among p (next_leaders count leaders r w) → Among p draws
  next-draws leaders draws r w are drawn p among = tested (nat_lt w count && is_none (leader leaders r)) among where
    last : Among p leaders ⊎ Among p ((r, w) ∷ []) → Among p draws
    last (inl h) = are p h
    last (inr (inl e)) = subst (λ (q : ℕ × ℕ). Among q draws) e drawn
    last (inr (inr none)) = absurd none

    tested : (b : Bool) → Among p (cond b (leaders ++ (r, w) ∷ []) leaders) → Among p draws
    tested true h = last (among-either leaders ((r, w) ∷ []) p h)
    tested false h = are p h

  after-draws : (later leaders draws : List (ℕ × ℕ)) → ((p : ℕ × ℕ) → Among p leaders → Among p draws) → ((p : ℕ × ℕ) → Among p later → Among p draws) → (p : ℕ × ℕ) → Among p (leaders_after count leaders later) → Among p draws
  after-draws [] leaders draws are rest p among = are p among
  after-draws ((r, w) ∷ later) leaders draws are rest p among =
      after-draws later (next_leaders count leaders r w) draws (next-draws leaders draws r w are (rest (r, w) (inl refl))) (λ q h. rest q (inr h)) p among

  -- ---- pairs

  abbrev pub through_leaders : List (ℕ × ℕ) → List (ℕ × ℕ)
  through_leaders draws = flat_map (leader_pairs (leaders_of count draws)) draws

  leader-draw : (draws : List (ℕ × ℕ)) (s l : ℕ) → leader (leaders_of count draws) s ≡ Some l → Among (s, l) draws
  leader-draw draws s l is = after-draws draws [] draws (λ p none. absurd none) (λ p h. h) (s, l) (leader-among (leaders_of count draws) s l is)

  to_leader : (draws : List (ℕ × ℕ)) (s v l : ℕ) → Among (s, v) draws → leader (leaders_of count draws) s ≡ Some l → Among (v, l) (through_leaders draws)
  to_leader draws s v l among is =
      among-flat_map (leader_pairs (leaders_of count draws)) draws (s, v) (v, l) among
      (subst (λ (o : Option ℕ). Among {A = ℕ × ℕ} (v, l) (option_map_or (λ l. (l, v) ∷ (v, l) ∷ []) o [])) (sym is) (inr (inl refl)))

  from_leader : (draws : List (ℕ × ℕ)) (s v l : ℕ) → Among (s, v) draws → leader (leaders_of count draws) s ≡ Some l → Among (l, v) (through_leaders draws)
  from_leader draws s v l among is =
      among-flat_map (leader_pairs (leaders_of count draws)) draws (s, v) (l, v) among
      (subst (λ (o : Option ℕ). Among {A = ℕ × ℕ} (l, v) (option_map_or (λ l. (l, v) ∷ (v, l) ∷ []) o [])) (sym is) (inl refl))

  -- leaders are below the count
  next-below : (leaders : List (ℕ × ℕ)) (r w : ℕ) → ((s l : ℕ) → Among {A = ℕ × ℕ} (s, l) leaders → l < count) → (s l : ℕ) → Among {A = ℕ × ℕ} (s, l) (next_leaders count leaders r w) → l < count
  next-below leaders r w below s l h = tested (nat_lt w count) refl (is_none (leader leaders r)) h where
    last : w < count → Among {A = ℕ × ℕ} (s, l) leaders ⊎ Among {A = ℕ × ℕ} (s, l) ((r, w) ∷ []) → l < count
    last small (inl h) = below s l h
    last small (inr (inl e)) = let second : w ≡ l = ap (λ (p : ℕ × ℕ). p.1) e in omega (arith, small, second)
    last small (inr (inr none)) = absurd none

    tested : (a : Bool) → nat_lt w count ≡ a → (b : Bool) → Among {A = ℕ × ℕ} (s, l) (cond (a && b) (leaders ++ (r, w) ∷ []) leaders) → l < count
    tested true is true h = last (let small : w < count = grind (arith, nat_tests) in small) (among-either leaders ((r, w) ∷ []) (s, l) h)
    tested true is false h = below s l h
    tested false is b h = below s l h

  after-below : (draws leaders : List (ℕ × ℕ)) → ((s l : ℕ) → Among {A = ℕ × ℕ} (s, l) leaders → l < count) → (s l : ℕ) → Among {A = ℕ × ℕ} (s, l) (leaders_after count leaders draws) → l < count
  after-below [] leaders below s l among = below s l among
  after-below ((r, w) ∷ draws) leaders below s l among = after-below draws (next_leaders count leaders r w) (next-below leaders r w below) s l among

  leader-below : (draws : List (ℕ × ℕ)) (s l : ℕ) → leader (leaders_of count draws) s ≡ Some l → l < count
  leader-below draws s l is = after-below draws [] (λ r w none. absurd none) s l (leader-among (leaders_of count draws) s l is)

  -- ---- both kinds of pairs are of one stream

  abbrev OneStream : List (ℕ × ℕ) → ℕ → ℕ → Type 0
  OneStream draws j k = (s : ℕ) × Among (s, j) draws × Among (s, k) draws

  led-one_stream : (draws : List (ℕ × ℕ)) (j k : ℕ) → Among (j, k) (through_leaders draws) → OneStream draws j k
  led-one_stream draws j k among =
      let (p, drawn, there) = among-of_flat_map (leader_pairs (leaders_of count draws)) draws (j, k) among in
      by p.0 p.1 drawn (leader (leaders_of count draws) p.0) refl there where
        by : (s v : ℕ) → Among (s, v) draws → (o : Option ℕ) → leader (leaders_of count draws) s ≡ o → Among {A = ℕ × ℕ} (j, k) (option_map_or (λ l. (l, v) ∷ (v, l) ∷ []) o []) → OneStream draws j k
        by s v drawn None is none = absurd none
        by s v drawn (Some l) is (inl e) =
            let first : l ≡ j = ap (λ (p : ℕ × ℕ). p.0) e in
            let second : v ≡ k = ap (λ (p : ℕ × ℕ). p.1) e in
            (s, subst (λ (n : ℕ). Among (s, n) draws) first (leader-draw draws s l is), subst (λ (n : ℕ). Among (s, n) draws) second drawn)
        by s v drawn (Some l) is (inr (inl e)) =
            let first : v ≡ j = ap (λ (p : ℕ × ℕ). p.0) e in
            let second : l ≡ k = ap (λ (p : ℕ × ℕ). p.1) e in
            (s, subst (λ (n : ℕ). Among (s, n) draws) first drawn, subst (λ (n : ℕ). Among (s, n) draws) second (leader-draw draws s l is))
        by s v drawn (Some l) is (inr (inr none)) = absurd none

  streams-one_stream : (draws : List (ℕ × ℕ)) (j k : ℕ) → Among (j, k) (needed_by_streams draws) → OneStream draws j k
  streams-one_stream draws j k among =
      let (p, drawn, there) = among-of_flat_map (λ ((s, v) : ℕ × ℕ). map (λ ((r, w) : ℕ × ℕ). let q : ℕ × ℕ = (v, w) in q) (filter (λ ((r, w) : ℕ × ℕ). r == s) draws)) draws (j, k) among in
      let (q, kept, is) = among-of_map (λ ((r, w) : ℕ × ℕ). let q : ℕ × ℕ = (p.1, w) in q) (filter (λ ((r, w) : ℕ × ℕ). r == p.0) draws) (j, k) there in
      let (also, same) = among-filtered (λ ((r, w) : ℕ × ℕ). r == p.0) draws q kept in
      let first : p.1 ≡ j = ap (λ (p : ℕ × ℕ). p.0) is in
      let second : q.1 ≡ k = ap (λ (p : ℕ × ℕ). p.1) is in
      let stream : q.0 ≡ p.0 = eqb-true q.0 p.0 same in
      (p.0, subst (λ (n : ℕ). Among (p.0, n) draws) first drawn, subst (λ (n : ℕ). Among (p.0, n) draws) second (subst (λ (n : ℕ). Among (n, q.1) draws) stream also))

  pub one_stream-streams : (draws : List (ℕ × ℕ)) (j k : ℕ) → OneStream draws j k → Among (j, k) (needed_by_streams draws)
  one_stream-streams draws j k (s, here, there) =
      among-flat_map (λ ((s, v) : ℕ × ℕ). map (λ ((r, w) : ℕ × ℕ). let q : ℕ × ℕ = (v, w) in q) (filter (λ ((r, w) : ℕ × ℕ). r == s) draws)) draws (s, j) (j, k) here
      (among-map (λ ((r, w) : ℕ × ℕ). let q : ℕ × ℕ = (j, w) in q) (filter (λ ((r, w) : ℕ × ℕ). r == s) draws) (s, k)
      (among-filter (λ ((r, w) : ℕ × ℕ). r == s) draws (s, k) there (same_number s s refl)))

  pub streams-led : (first : List ℕ) (pairs draws : List (ℕ × ℕ)) → Implied count first (pairs ++ needed_by_streams draws) (pairs ++ through_leaders draws)
  streams-led first pairs draws = record { over = λ j k among below before. by j k below before (among-either pairs (needed_by_streams draws) (j, k) among) } where
    by : (j k : ℕ) → k < count → Entailed count first (pairs ++ through_leaders draws) j → Among (j, k) pairs ⊎ Among (j, k) (needed_by_streams draws) → Entailed count first (pairs ++ through_leaders draws) k
    by j k below before (inl h) = over_pair j k below before (contained-among (pairs ++ through_leaders draws) (j, k) (among-front pairs (through_leaders draws) (j, k) h))
    by j k below before (inr h) =
        let (s, here, there) = streams-one_stream draws j k h in
        let (l, is) = after-has draws [] s j here (entailed-below count first (pairs ++ through_leaders draws) before) in
        over_pair l k below
        (over_pair j l (leader-below draws s l is) before (contained-among (pairs ++ through_leaders draws) (j, l) (among-back pairs (through_leaders draws) (j, l) (to_leader draws s j l here is))))
        (contained-among (pairs ++ through_leaders draws) (l, k) (among-back pairs (through_leaders draws) (l, k) (from_leader draws s k l there is)))

  pub led-streams : (first : List ℕ) (pairs draws : List (ℕ × ℕ)) → Implied count first (pairs ++ through_leaders draws) (pairs ++ needed_by_streams draws)
  led-streams first pairs draws = record { over = λ j k among below before. over_pair j k below before (contained-among (pairs ++ needed_by_streams draws) (j, k) (by j k (among-either pairs (through_leaders draws) (j, k) among))) } where
    by : (j k : ℕ) → Among (j, k) pairs ⊎ Among (j, k) (through_leaders draws) → Among (j, k) (pairs ++ needed_by_streams draws)
    by j k (inl h) = among-front pairs (needed_by_streams draws) (j, k) h
    by j k (inr h) = among-back pairs (needed_by_streams draws) (j, k) (one_stream-streams draws j k (led-one_stream draws j k h))
