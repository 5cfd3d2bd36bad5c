-- The parts that read a variable that moved give what all parts give that are looked at.
use Rattle.std.proofs.Common.{◌≡◌, inl, inr, ℕ, zero, suc, Bool, true, false, ◌&&◌, ◌||◌, cond, List, [], ◌∷◌, map, Contains, refl, sym, ◌∙◌, ap, subst}
use Rattle.std.specs.List.{AllByRecursion, flat_map, list_any}
use Rattle.std.proofs.lemmas.List.Folds.{list_any-append}
use Rattle.model_core.specs.EventGraph.{EventGraph, EventVertex, EventEdge, StateChange, Set, Draw, Variable, Location, is_scheduling}
use Rattle.model_core.specs.Run.Step.{vertex_at}
use Rattle.model_core.specs.Rules.Uses.{variables_in}
use Rattle.model_core.specs.Rules.BoundsOf.{bounds_under}
use Rattle.model_core.specs.Ranges.Refined.{refined}
use Rattle.model_core.specs.declared.incoming.Incoming.{Incoming}
use Rattle.model_core.proofs.Among.{Among, among-contained, contained-among, among-flat_map, of-among, each-among, any-among, among-any}
use Rattle.model_core.proofs.EachOne.{every-joined, every-front, every-after, every-flat_map, either_false}
use Rattle.range_infer.specs.declared.part_reads.ValueReads.{ValueReads}
use Rattle.range_infer.specs.declared.readers.PartPlace.{PartPlace}
use Rattle.range_infer.specs.Inner.Moved.{is_moved}
use Rattle.range_infer.specs.Inner.PartReads.{each_reads, set_reads, carried_reads, parts_read}
use Rattle.range_infer.specs.Inner.Readers.{one_at, value_vars, edge_vars, vertex_part_vars, part_vars}
use Rattle.range_infer.specs.Inner.LookedAt.{looks_at_value, assigned_seen, change_seen, values_seen, edge_seen, vertex_seen, vertex_part_seen, part_seen}
use Rattle.range_infer.proofs.AssignedBeside.{nothing_seen}

-- ---- elements by their places

one-among : {A : Type 0} (k : ℕ) (xs : List A) (x : A) → Among x (one_at k xs) → Among x xs
one-among zero [] x among = absurd among
one-among (suc k) [] x among = absurd among
one-among zero (y ∷ xs) x (inl same) = inl same
one-among zero (y ∷ xs) x (inr none) = absurd none
one-among (suc k) (y ∷ xs) x among = inr (one-among k xs x among)

place-of : {A : Type 0} (xs : List A) (x : A) → Among x xs → (k : ℕ) × Among x (one_at k xs)
place-of [] x among = absurd among
place-of (y ∷ xs) x (inl same) = (zero, inl same)
place-of (y ∷ xs) x (inr later) = let (k, there) = place-of xs x later in (suc k, there)

one-map : {A B : Type 0} (f : A → B) (k : ℕ) (xs : List A) (x : A) → Among x (one_at k xs) → Among (f x) (one_at k (map f xs))
one-map f zero [] x among = absurd among
one-map f (suc k) [] x among = absurd among
one-map f zero (y ∷ xs) x (inl same) = inl (ap f same)
one-map f zero (y ∷ xs) x (inr none) = absurd none
one-map f (suc k) (y ∷ xs) x among = one-map f k xs x among

module _ (P : Incoming → Type 0) where
  all_of : {A : Type 0} (f : A → List Incoming) (xs : List A) → AllByRecursion (λ (x : A). AllByRecursion P (f x)) xs → AllByRecursion P (flat_map f xs)
  all_of f [] all = tt
  all_of f (x ∷ xs) all = every-joined P (f x) (flat_map f xs) all.0 (all_of f xs all.1)

  by_places : {A : Type 0} (f : A → List Incoming) (xs : List A) → ((k : ℕ) (x : A) → Among x (one_at k xs) → AllByRecursion P (f x)) → AllByRecursion P (flat_map f xs)
  by_places {A} f xs each = all_of f xs (each-among (λ (x : A). AllByRecursion P (f x)) xs (λ x among. let (k, there) = place-of xs x among in each k x there))

  one_of : {A : Type 0} (f : A → List Incoming) (xs : List A) (x : A) → AllByRecursion P (flat_map f xs) → Among x xs → AllByRecursion P (f x)
  one_of {A} f xs x all among = of-among (λ (x : A). AllByRecursion P (f x)) xs x (every-flat_map P f xs all) among

  one_place : {A : Type 0} (f : A → List Incoming) (k : ℕ) (xs : List A) → AllByRecursion P (flat_map f xs) → AllByRecursion P (flat_map f (one_at k xs))
  one_place {A} f k xs all = all_of f (one_at k xs) (each-among (λ (x : A). AllByRecursion P (f x)) (one_at k xs) (λ x among. one_of f xs x all (one-among k xs x among)))

  module _ (g : EventGraph) (moved : List Bool) (rs : List Variable) where
    abbrev change : StateChange → List Incoming
    change = change_seen g false moved rs

    abbrev edge : EventEdge → List Incoming
    edge = edge_seen g false moved rs

    -- ---- each part gives some of what all give

    vertex_part : (p : PartPlace) (u : EventVertex) → AllByRecursion P (vertex_seen g false moved rs u) → AllByRecursion P (vertex_part_seen g false moved rs p u)
    vertex_part p u all = by p.is_edge where
      by : (b : Bool) → AllByRecursion P (cond b (flat_map edge (one_at p.place u.edges)) (flat_map change (one_at p.place u.changes)))
      by true = one_place edge p.place u.edges (every-after P (flat_map change u.changes) (flat_map edge u.edges) all)
      by false = one_place change p.place u.changes (every-front P (flat_map change u.changes) (flat_map edge u.edges) all)

    pub of_all : (us : List EventVertex) (parts : List PartPlace) → AllByRecursion P (flat_map (vertex_seen g false moved rs) us) → AllByRecursion P (flat_map (part_seen g false moved rs us) parts)
    of_all us parts all =
        all_of (part_seen g false moved rs us) parts (each-among (λ (p : PartPlace). AllByRecursion P (part_seen g false moved rs us p)) parts (λ p among.
        all_of (vertex_part_seen g false moved rs p) (one_at p.vertex us) (each-among (λ (u : EventVertex). AllByRecursion P (vertex_part_seen g false moved rs p u)) (one_at p.vertex us) (λ u there.
        vertex_part p u (one_of (vertex_seen g false moved rs) us u all (one-among p.vertex us u there))))))

    -- ---- a part that reads none gives none

    no_value_seen : (values : List ValueReads) → list_any (is_moved moved) (value_vars values) ≡ false → list_any (looks_at_value false moved) values ≡ false
    no_value_seen [] none = refl
    no_value_seen (value ∷ values) none =
        let (here, later) = either_false (list_any (is_moved moved) value.vars) (list_any (is_moved moved) (value_vars values)) (sym (list_any-append (is_moved moved) value.vars (value_vars values)) ∙ none) in
        ap (λ (b : Bool). b || list_any (looks_at_value false moved) values) here ∙ no_value_seen values later

    quiet_change : (c : StateChange) → list_any (is_moved moved) (value_vars (set_reads c)) ≡ false → change c ≡ []
    quiet_change (Set targets values) none = nothing_seen false moved rs (map (λ (l : Location). l.variable) targets) values (no_value_seen (each_reads values) none)
    quiet_change (Draw target stream choice) none = refl

    quiet_values : (k some : Bool) (left : List Incoming) → some ≡ false → cond (k && some) left [] ≡ []
    quiet_values false some left none = refl
    quiet_values true true left none = cc
    quiet_values true false left none = refl

    quiet_edge : (e : EventEdge) → list_any (is_moved moved) (edge_vars (carried_reads e)) ≡ false → edge e ≡ []
    quiet_edge e none =
        let left : List Incoming = cond (bounds_under refined rs e.condition).can_true (assigned_seen false moved (refined e.condition true rs) (vertex_at g e.target).parameters e.values) [] in
        let (condition, values) = either_false (list_any (is_moved moved) (variables_in e.condition)) (list_any (is_moved moved) (value_vars (each_reads e.values))) (sym (list_any-append (is_moved moved) (variables_in e.condition) (value_vars (each_reads e.values))) ∙ none) in
        ap (λ (b : Bool). values_seen g b moved rs e) condition ∙ quiet_values (is_scheduling e.kind) (list_any (looks_at_value false moved) (each_reads e.values)) left (no_value_seen (each_reads e.values) values)

    -- ---- where all that read one are there

    module _ (us : List EventVertex) (parts : List PartPlace) (are_all : (p : PartPlace) (v : ℕ) → Contains (part_vars (map parts_read us) p) v → is_moved moved v ≡ true → Contains parts p)
        (held : AllByRecursion P (flat_map (part_seen g false moved rs us) parts)) where
      there : (p : PartPlace) (u : EventVertex) → Among u (one_at p.vertex us) → list_any (is_moved moved) (vertex_part_vars p (parts_read u)) ≡ true → AllByRecursion P (vertex_part_seen g false moved rs p u)
      there p u named some =
          let (v, among, is) = any-among (is_moved moved) (vertex_part_vars p (parts_read u)) some in
          let reads = among-flat_map (vertex_part_vars p) (one_at p.vertex (map parts_read us)) (parts_read u) v (one-map parts_read p.vertex us u named) among in
          let found = among-contained parts p (are_all p v (contained-among (part_vars (map parts_read us) p) v reads) is) in
          one_of (vertex_part_seen g false moved rs p) (one_at p.vertex us) u (one_of (part_seen g false moved rs us) parts p held found) named

      -- of a vertex the part at a place, which is in this list
      part_held : {A R : Type 0} (gives : A → List Incoming) (reads : A → R) (vars : R → List ℕ) (xs : List A) (p : PartPlace) (u : EventVertex)
          → flat_map vars (one_at p.place (map reads xs)) ≡ vertex_part_vars p (parts_read u) → vertex_part_seen g false moved rs p u ≡ flat_map gives (one_at p.place xs)
          → ((x : A) → list_any (is_moved moved) (vars (reads x)) ≡ false → gives x ≡ [])
          → Among u (one_at p.vertex us) → (x : A) → Among x (one_at p.place xs) → AllByRecursion P (gives x)
      part_held gives reads vars xs p u read seen quiet named x here = by (list_any (is_moved moved) (vars (reads x))) refl where
        by : (b : Bool) → list_any (is_moved moved) (vars (reads x)) ≡ b → AllByRecursion P (gives x)
        by false none = subst (AllByRecursion P) (sym (quiet x none)) tt
        by true some =
            let (v, among, is) = any-among (is_moved moved) (vars (reads x)) some in
            let has = subst (Among v) read (among-flat_map vars (one_at p.place (map reads xs)) (reads x) v (one-map reads p.place xs x here) among) in
            one_of gives (one_at p.place xs) x (subst (AllByRecursion P) seen (there p u named (among-any (is_moved moved) (vertex_part_vars p (parts_read u)) v has is))) here

      change_held : (i : ℕ) (u : EventVertex) → Among u (one_at i us) → (j : ℕ) (c : StateChange) → Among c (one_at j u.changes) → AllByRecursion P (change c)
      change_held i u named j = part_held change set_reads value_vars u.changes (record { vertex = i; is_edge = false; place = j }) u refl refl quiet_change named

      edge_held : (i : ℕ) (u : EventVertex) → Among u (one_at i us) → (j : ℕ) (e : EventEdge) → Among e (one_at j u.edges) → AllByRecursion P (edge e)
      edge_held i u named j = part_held edge carried_reads edge_vars u.edges (record { vertex = i; is_edge = true; place = j }) u refl refl quiet_edge named

      pub all_seen_too : AllByRecursion P (flat_map (vertex_seen g false moved rs) us)
      all_seen_too = by_places (vertex_seen g false moved rs) us (λ i u named.
          every-joined P (flat_map change u.changes) (flat_map edge u.edges) (by_places change u.changes (change_held i u named)) (by_places edge u.edges (edge_held i u named)))
