-- Names that occur earlier in a list, as more of them are known.
use Rattle.std.proofs.Common.{◌≡◌, ℕ, zero, suc, ◌<◌, Bool, true, false, cond, not, ◌||◌, nat_eq, List, [], ◌∷◌, ◌++◌, length, get_or, map, arith, Option, refl, sym, ap, ◌∙◌, append_assoc}
use Rattle.std.specs.List.{list_any}
use Rattle.std.proofs.lemmas.List.{map_push}
use lib.Pointwise.{pointwise, bytes_decides}
use Rattle.model_core.specs.declared.static_kind.StaticKind.TheVariants as rules
use Rattle.model_core.specs.declared.raw.RawName.{RawName}
use Rattle.model_core.specs.Code.WrittenViews.{written_name}
use Rattle.model_core.specs.Text.Lexing.{same_bytes}
use Rattle.model_core.specs.Text.Written.{WrittenName}
use Rattle.model_core.specs.Static.FaultOrder.{StaticFault, earliest_fault, fault_where}
use Rattle.model_core.specs.Static.RuleTable.{duplicate_name}
use Rattle.model_core.specs.Static.PartFaults.{repeated_names}
use Rattle.sig_types.specs.Seen.{bytes_of}
use Rattle.static_laws.proofs.Checks.{earliest_in_turn}
use Rattle.std.proofs.lemmas.List.{append-nil}
use Rattle.std.proofs.Math.Bool.{or-false, not-not}

-- the names of a list before these, the last first
abbrev pub names_before : List (List ℕ) → List WrittenName → List (List ℕ)
names_before earlier [] = earlier
names_before earlier (n ∷ ns) = names_before (n.name ∷ earlier) ns

repeated_names-push : (earlier : List (List ℕ)) (ns : List WrittenName) (n : WrittenName) → repeated_names earlier (ns ++ n ∷ []) ≡ repeated_names earlier ns ++ duplicate_name (names_before earlier ns) n
repeated_names-push earlier [] n = append-nil (duplicate_name earlier n)
repeated_names-push earlier (m ∷ ns) n =
    ap (λ fs. duplicate_name earlier m ++ fs) (repeated_names-push (m.name ∷ earlier) ns n)
    ∙ sym (append_assoc (duplicate_name earlier m) (repeated_names (m.name ∷ earlier) ns) (duplicate_name (names_before (m.name ∷ earlier) ns) n))

names_before-push : (earlier : List (List ℕ)) (ns : List WrittenName) (n : WrittenName) → names_before earlier (ns ++ n ∷ []) ≡ n.name ∷ names_before earlier ns
names_before-push earlier [] n = refl
names_before-push earlier (m ∷ ns) n = names_before-push (m.name ∷ earlier) ns n

-- both lists have the same names
abbrev pub SameNames : List (List ℕ) → List (List ℕ) → Type 0
SameNames xs ys = (name : List ℕ) → list_any (same_bytes name) xs ≡ list_any (same_bytes name) ys

any-push : (name : List ℕ) (xs : List (List ℕ)) (x : List ℕ) → list_any (same_bytes name) (xs ++ x ∷ []) ≡ (same_bytes name x || list_any (same_bytes name) xs)
any-push name [] x = refl
any-push name (y ∷ xs) x = ap (λ b. same_bytes name y || b) (any-push name xs x) ∙ swap (same_bytes name y) (same_bytes name x) (list_any (same_bytes name) xs)
  where
    swap : (a b c : Bool) → (a || (b || c)) ≡ (b || (a || c))
    swap true true c = refl
    swap true false c = refl
    swap false b c = refl

-- the names known, with one more unless it was known
one_more_known : (xs more ys : List (List ℕ)) (x : List ℕ) (b : Bool) → list_any (same_bytes x) xs ≡ b → more ≡ cond b xs (xs ++ x ∷ []) → SameNames xs ys → SameNames more (x ∷ ys)
one_more_known xs more ys x true known is same = λ name. ap (list_any (same_bytes name)) is ∙ same name ∙ by_name name (same_bytes name x) refl
  where
    by_name : (name : List ℕ) (b : Bool) → same_bytes name x ≡ b → list_any (same_bytes name) ys ≡ (b || list_any (same_bytes name) ys)
    by_name name true e = ap (λ n. list_any (same_bytes n) ys) ((bytes_decides name x).0 e) ∙ sym (same x) ∙ known
    by_name name false e = refl
one_more_known xs more ys x false known is same = λ name. ap (list_any (same_bytes name)) is ∙ any-push name xs x ∙ ap (λ b. same_bytes name x || b) (same name)

-- a turn of a loop that reports what occurs earlier
pub repeat_turn : (t0 t1 t2 : Option StaticFault) (keys : List (List ℕ)) (seen : List WrittenName) (n : WrittenName) (new : Bool)
    → SameNames keys (names_before [] seen) → new ≡ not (list_any (same_bytes n.name) keys)
    → t1 ≡ earliest_fault t0 (repeated_names [] seen) → t2 ≡ earliest_fault t1 (fault_where (not new) rules.DuplicateName n.at)
    → t2 ≡ earliest_fault t0 (repeated_names [] (seen ++ n ∷ []))
repeat_turn t0 t1 t2 keys seen n new same is so_far later =
    let found : not new ≡ list_any (same_bytes n.name) (names_before [] seen) = ap not is ∙ not-not (list_any (same_bytes n.name) keys) ∙ same n.name in
    rw (repeated_names-push [] seen n)
    (earliest_in_turn t0 t1 t2 (repeated_names [] seen) (duplicate_name (names_before [] seen) n) so_far (later ∙ ap (λ b. earliest_fault t1 (fault_where b rules.DuplicateName n.at)) found))

-- ---- names that a set has as its keys

module _ {K : Type 0} (items : K → List ℕ) where
  any-keys : (name : List ℕ) (keys : List K) → list_any (λ k. pointwise nat_eq name (items k)) keys ≡ list_any (same_bytes name) (map items keys)
  any-keys name [] = refl
  any-keys name (k ∷ keys) = ap (λ b. same_bytes name (items k) || b) (any-keys name keys)

  map-cond : (b : Bool) (keys : List K) (k : K) → map items (cond b keys (keys ++ k ∷ [])) ≡ cond b (map items keys) (map items keys ++ items k ∷ [])
  map-cond true keys k = refl
  map-cond false keys k = map_push items keys k

  pub repeat_key : (t0 t1 t2 : Option StaticFault) (keys : List K) (key : List ℕ) (seen : List WrittenName) (n : WrittenName) (new : Bool) → key ≡ n.name
      → new ≡ not (list_any (λ j. pointwise nat_eq key (items j)) keys) → SameNames (map items keys) (names_before [] seen)
      → t1 ≡ earliest_fault t0 (repeated_names [] seen) → t2 ≡ earliest_fault t1 (fault_where (not new) rules.DuplicateName n.at)
      → t2 ≡ earliest_fault t0 (repeated_names [] (seen ++ n ∷ []))
  repeat_key t0 t1 t2 keys key seen n new is added same so_far later =
      let new_is : new ≡ not (list_any (same_bytes n.name) (map items keys)) = added ∙ ap not (any-keys key keys ∙ ap (λ name. list_any (same_bytes name) (map items keys)) is) in
      repeat_turn t0 t1 t2 (map items keys) seen n new same new_is so_far later

  pub known_key : (keys after : List K) (k : K) (seen : List WrittenName) (n : WrittenName) → items k ≡ n.name
      → after ≡ cond (list_any (λ j. pointwise nat_eq (items k) (items j)) keys) keys (keys ++ k ∷ []) → SameNames (map items keys) (names_before [] seen)
      → SameNames (map items after) (names_before [] (seen ++ n ∷ []))
  known_key keys after k seen n is put same =
      let b = list_any (λ j. pointwise nat_eq (items k) (items j)) keys in
      rw (names_before-push [] seen n)
      (one_more_known (map items keys) (map items after) (names_before [] seen) n.name b
      (sym (any-keys (items k) keys ∙ ap (λ name. list_any (same_bytes name) (map items keys)) is))
      (ap (map items) put ∙ map-cond b keys k ∙ ap (λ name. cond b (map items keys) (map items keys ++ name ∷ [])) is) same)

-- ---- names that are looked for in the list itself

same_after : (earlier : List (List ℕ)) (ns : List WrittenName) (name : List ℕ) → list_any (same_bytes name) (names_before earlier ns) ≡ (list_any (same_bytes name) (map (λ (n : WrittenName). n.name) ns) || list_any (same_bytes name) earlier)
same_after earlier [] name = refl
same_after earlier (n ∷ ns) name =
    same_after (n.name ∷ earlier) ns name ∙ swap (list_any (same_bytes name) (map (λ (m : WrittenName). m.name) ns)) (same_bytes name n.name) (list_any (same_bytes name) earlier)
  where
    swap : (a b c : Bool) → (a || (b || c)) ≡ ((b || a) || c)
    swap true true c = refl
    swap true false c = refl
    swap false true c = refl
    swap false false c = refl

-- a turn of a loop that looks for each name among those before it
pub few_turn : (t0 t1 t2 : Option StaticFault) (seen : List WrittenName) (n : WrittenName) (again : Bool)
    → again ≡ list_any (same_bytes n.name) (map (λ (m : WrittenName). m.name) seen)
    → t1 ≡ earliest_fault t0 (repeated_names [] seen) → t2 ≡ earliest_fault t1 (fault_where again rules.DuplicateName n.at)
    → t2 ≡ earliest_fault t0 (repeated_names [] (seen ++ n ∷ []))
few_turn t0 t1 t2 seen n again is so_far later =
    let found : again ≡ list_any (same_bytes n.name) (names_before [] seen)
    = is ∙ sym (same_after [] seen n.name ∙ or-false (list_any (same_bytes n.name) (map (λ (m : WrittenName). m.name) seen))) in
    rw (repeated_names-push [] seen n)
    (earliest_in_turn t0 t1 t2 (repeated_names [] seen) (duplicate_name (names_before [] seen) n) so_far (later ∙ ap (λ b. earliest_fault t1 (fault_where b rules.DuplicateName n.at)) found))

pub names_seen : (raws : List RawName) → map bytes_of raws ≡ map (λ (m : WrittenName). m.name) (map written_name raws)
names_seen [] = refl
names_seen (r ∷ raws) = ap (λ ns. r.name ∷ ns) (names_seen raws)

-- a name that is at a place is among the names
pub among_at : (name : List ℕ) (raws : List RawName) (i : ℕ) (r : RawName) → i < length raws → r ≡ get_or raws i r → same_bytes name r.name ≡ true → true ≡ list_any (same_bytes name) (map bytes_of raws)
among_at name [] i r lt is same = absurd (omega arith)
among_at name (x ∷ raws) zero r lt is same = rw (← is, same) refl
among_at name (x ∷ raws) (suc i) r lt is same = either (same_bytes name x.name) (among_at name raws i r (omega arith) is same)
  where
    either : (b : Bool) → true ≡ list_any (same_bytes name) (map bytes_of raws) → true ≡ (b || list_any (same_bytes name) (map bytes_of raws))
    either true h = refl
    either false h = h
