-- Drop, merge and slice where no rule of edges is applicable: each application that the code makes is the first rule's.
use Rattle.std.proofs.Common.{◌≡◌, ℕ, zero, suc, ◌+◌, ◌<◌, ◌≤◌, ◌==◌, Bool, true, false, not, cond, nat_eq, eq-eqb, ◌&&◌, List, [], ◌∷◌, ◌++◌, map, length, Option, Some, None, refl, sym, ap, ◌∙◌, subst, arith}
use Rattle.std.specs.Prelude.{filter, is_none, nat_lt}
use Rattle.std.specs.List.{AllByRecursion, range_with_len}
use Rattle.std.specs.Option.{option_map, option_map_or, option_and_then, option_or}
use Rattle.std.proofs.lemmas.Bool.{ltb-true}
use lib.Pointwise.{pointwise}
use Rattle.sig_base.proofs.Lists.{first_found-of}
use Rattle.model_core.specs.Text.Canonical.{variable_name, vertex_name}
use Rattle.model_core.specs.EventGraph.{EventEdge, EventVertex, Variable, EventGraph}
use Rattle.model_core.specs.Static.Reading.{IsValid}
use Rattle.model_core.specs.Run.Step.{vertex_at}
use Rattle.model_core.specs.Rules.Conditions.{first_failed}
use Rattle.model_core.specs.Rules.MarkedPlaces.{unmarked_places, is_marked}
use Rattle.model_core.specs.Rules.Settle.{first_settle}
use Rattle.model_core.specs.Rules.Reached.{reached_marks, unreached}
use Rattle.model_core.specs.Rules.Drop.{is_nonempty_list, lists_exactly, drop_conditions, dropped}
use Rattle.model_core.specs.Rules.UrgentEdges.{plain_urgent_edge}
use Rattle.model_core.specs.Rules.Merge.{merge_conditions, merged, merge_at, first_merge}
use Rattle.model_core.specs.Rules.Needed.{needed_at_once, needed_beside, needed_marks, unneeded}
use Rattle.model_core.specs.Rules.Slice.{slice_conditions, sliced}
use Rattle.model_core.specs.Rules.Reduction.{RuleApplication, Prune, Settle, Drop, Merge, Slice, place_of_vertex, vertices_named, two_vertices_named, variables_named, unless_failed, applied, at_edge, drop_of, merge_of, slice_of, first_given, first_rule}
use Rattle.mark_laws.proofs.EntailedMarks.{entailed_marks-long}
use Rattle.mark_laws.proofs.ReachedLong.{reached_marks-long}
use Rattle.model_core.proofs.AllHold.{every-holds}
use Rattle.model_core.proofs.BothTrue.{and_first, and_second}
use Rattle.reducer.specs.Inner.LaterRules.{NoEdgeRule, MadeAndNoted, nothing_more, MadeThenDrop}
use Rattle.reducer.proofs.PlacesByName.{variables_distinct, vertices_distinct, place_of_its_name, places_of_their_names}

-- ---- the first rule where no rule of edges is applicable

abbrev pub later_rule : EventGraph → Option RuleApplication
later_rule g = first_given (drop_of g (unreached g) ∷ merge_of g (first_merge g) ∷ slice_of g (unneeded g) ∷ [])

pub later_is_first : (g : EventGraph) → NoEdgeRule g → first_rule g ≡ later_rule g
later_is_first g none =
    ap (λ (o : Option (ℕ × ℕ)). option_or (at_edge g Prune o) (option_or (at_edge g Settle (first_settle g)) (later_rule g))) none.refuted
    ∙ ap (λ (o : Option (ℕ × ℕ)). option_or (at_edge g Settle o) (later_rule g)) none.settled

-- what is made where the first rule is to be made
later_made : (g h : EventGraph) (before after : List RuleApplication) (made : Bool) → NoEdgeRule g → MadeAndNoted (later_rule g) made g h before after → MadeAndNoted (first_rule g) made g h before after
later_made g h before after made none m = subst (λ (o : Option RuleApplication). MadeAndNoted o made g h before after) (sym (later_is_first g none)) m

-- a drop
pub drop_is_made : (g h : EventGraph) (before after : List RuleApplication) → NoEdgeRule g → (made : Bool) → made ≡ true → MadeAndNoted (drop_of g (unreached g)) made g h before after → MadeAndNoted (first_rule g) true g h before after
drop_is_made g h before after none true e (a, is, made, noted) = later_made g h before after true none (a, ap (λ (o : Option RuleApplication). option_or o (first_given (merge_of g (first_merge g) ∷ slice_of g (unneeded g) ∷ []))) is, made, noted)
drop_is_made g h before after none false e made = cc

or_none : (o : Option RuleApplication) → option_or o None ≡ o
or_none None = refl
or_none (Some a) = refl

-- nothing to drop, and a merge
pub merge_is_made : (g k h : EventGraph) (before between after : List RuleApplication) → NoEdgeRule g → (dropped merged : Bool) → dropped ≡ false → merged ≡ true → MadeAndNoted (drop_of g (unreached g)) dropped g k before between → MadeAndNoted (merge_of k (first_merge k)) merged k h between after → MadeAndNoted (first_rule g) true g h before after
merge_is_made g k h before between after none true merged d m drop merge = cc
merge_is_made g k h before between after none false false d m drop merge = cc
merge_is_made g k h before between after none false true d m (no_drop, same, unnoted) (a, is, made, noted) =
    let at_g = subst (λ (k : EventGraph). merge_of k (first_merge k) ≡ Some a) same is in
    later_made g h before after true none (
      a,
      ap (λ (o : Option RuleApplication). option_or o (first_given (merge_of g (first_merge g) ∷ slice_of g (unneeded g) ∷ []))) no_drop ∙ ap (λ (o : Option RuleApplication). option_or o (first_given (slice_of g (unneeded g) ∷ []))) at_g,
      subst (λ (k : EventGraph). applied k a ≡ Some h) same made,
      noted ∙ ap (λ (before : List RuleApplication). before ++ a ∷ []) unnoted,
    )

-- the same where the drop after the merge may be made as well
pub merge_on_is_made : (g k h : EventGraph) (before between after : List RuleApplication) → NoEdgeRule g → (dropped merged : Bool) → dropped ≡ false → merged ≡ true → MadeAndNoted (drop_of g (unreached g)) dropped g k before between → MadeThenDrop (λ g. merge_of g (first_merge g)) merged k h between after → MadeThenDrop first_rule true g h before after
merge_on_is_made g k h before between after none dropped true d m drop (next, middle, merge, more) = (next, middle, merge_is_made g k next before between middle none dropped true d refl drop merge, more)
merge_on_is_made g k h before between after none dropped false d m drop merge = cc

-- an application alone, or none
pub one_made : (rule : EventGraph → Option RuleApplication) (g h : EventGraph) (before after : List RuleApplication) (made : Bool) → MadeAndNoted (rule g) made g h before after → MadeThenDrop rule made g h before after
one_made rule g h before after true made = (h, after, made, nothing_more refl refl)
one_made rule g h before after false none = none

pub none_made : (rule : EventGraph → Option RuleApplication) (g h : EventGraph) (before after : List RuleApplication) (made : Bool) → made ≡ false → MadeThenDrop rule made g h before after → MadeAndNoted (rule g) made g h before after
none_made rule g h before after true e made = cc
none_made rule g h before after false e none = none

-- nothing to drop nor to merge, and a slice or none
pub slice_is_made : (g k l h : EventGraph) (before between later after : List RuleApplication) → NoEdgeRule g → (dropped merged : Bool) → dropped ≡ false → merged ≡ false → MadeAndNoted (drop_of g (unreached g)) dropped g k before between → MadeAndNoted (merge_of k (first_merge k)) merged k l between later → (made : Bool) → MadeAndNoted (slice_of l (unneeded l)) made l h later after → MadeAndNoted (first_rule g) made g h before after
slice_is_made g k l h before between later after none true merged d m drop merge made last = cc
slice_is_made g k l h before between later after none false true d m drop merge made last = cc
slice_is_made g k l h before between later after none false false d m (no_drop, same, unnoted) (no_merge, same_too, unnoted_too) made last =
    let all_same : l ≡ g = same_too ∙ same in
    let all_unnoted : later ≡ before = unnoted_too ∙ unnoted in
    let no_merge_at_g = subst (λ (k : EventGraph). merge_of k (first_merge k) ≡ None) same no_merge in
    let slices : later_rule g ≡ slice_of g (unneeded g) =
    ap (λ (o : Option RuleApplication). option_or o (first_given (merge_of g (first_merge g) ∷ slice_of g (unneeded g) ∷ []))) no_drop
    ∙ ap (λ (o : Option RuleApplication). option_or o (first_given (slice_of g (unneeded g) ∷ []))) no_merge_at_g
    ∙ or_none (slice_of g (unneeded g)) in
    later_made g h before after made none
    (subst (λ (o : Option RuleApplication). MadeAndNoted o made g h before after) (sym slices)
    (subst (λ (before : List RuleApplication). MadeAndNoted (slice_of g (unneeded g)) made g h before after) all_unnoted
    (subst (λ (l : EventGraph). MadeAndNoted (slice_of l (unneeded l)) made l h later after) all_same last)))

-- ---- lists of places

range_within : (a n limit : ℕ) → a + n ≤ limit → AllByRecursion (λ k. k < limit) (range_with_len a n)
range_within a zero limit le = tt
range_within a (suc n) limit le = (omega (arith, le), range_within (a + 1) n limit (omega (arith, le)))

all_filtered : (P : ℕ → Type 0) (test : ℕ → Bool) (ks : List ℕ) → AllByRecursion P ks → AllByRecursion P (filter test ks)
all_filtered P test [] all = tt
all_filtered P test (k ∷ ks) all = one (test k) (all_filtered P test ks all.1) where
  one : (b : Bool) → AllByRecursion P (filter test ks) → AllByRecursion P (cond b (k ∷ filter test ks) (filter test ks))
  one true more = (all.0, more)
  one false more = more

pub unmarked-within : (marks : List Bool) (limit : ℕ) → length marks ≡ limit → AllByRecursion (λ k. k < limit) (unmarked_places marks)
unmarked-within marks limit long = all_filtered (λ k. k < limit) (λ k. not (is_marked marks k)) (range_with_len 0 (length marks)) (range_within 0 (length marks) limit (omega (arith, long)))

exactly_itself : (ks : List ℕ) → lists_exactly ks ks ≡ true
exactly_itself [] = refl
exactly_itself (k ∷ ks) = ap (λ b. b && pointwise nat_eq ks ks) (eq-eqb k k refl) ∙ exactly_itself ks

-- the conditions of drop and slice hold of exactly those that are wanted
pub exactly_hold : (ks wanted : List ℕ) → (length ks ≡ 0 → ⊥) → ks ≡ wanted → first_failed (is_nonempty_list ks ∷ lists_exactly ks wanted ∷ []) ≡ None
exactly_hold [] wanted some is = absurd (some refl)
exactly_hold (v ∷ vs) wanted some is = ap (λ b. first_failed (true ∷ b ∷ [])) (ap (lists_exactly (v ∷ vs)) (sym is) ∙ exactly_itself (v ∷ vs))

-- ---- drop

pub drop_made : (g h : EventGraph) (ks : List ℕ) (before after : List RuleApplication) → IsValid g → (length ks ≡ 0 → ⊥) → ks ≡ unreached g → h ≡ dropped g ks → after ≡ before ++ Drop (map (vertex_name g) ks) ∷ [] → MadeAndNoted (drop_of g (unreached g)) true g h before after
drop_made g h [] before after valid some is left noted = absurd (some refl)
drop_made g h (v ∷ vs) before after valid some is left noted =
    let ks = v ∷ vs in
    let within = subst (AllByRecursion (λ k. k < length g.vertices)) (sym is) (unmarked-within (reached_marks g) (length g.vertices) (reached_marks-long g)) in
    let named : vertices_named g (map (vertex_name g) ks) ≡ Some ks = places_of_their_names (λ (v : EventVertex). v.name) g.vertices ks within (vertices_distinct g valid) in (
      Drop (map (vertex_name g) ks),
      ap (drop_of g) (sym is),
      ap (λ (o : Option (List ℕ)). unless_failed (option_map_or (λ vertices. first_failed (drop_conditions g vertices)) o (Some 2)) (option_map_or (λ vertices. dropped g vertices) o g)) named
          ∙ ap (λ o. unless_failed o (dropped g ks)) (exactly_hold ks (unreached g) some is) ∙ ap (λ (h : EventGraph). Some h) (sym left),
      noted,
    )

pub drop_not_made : (g h : EventGraph) (ks : List ℕ) (before after : List RuleApplication) → length ks ≡ 0 → ks ≡ unreached g → h ≡ g → after ≡ before → MadeAndNoted (drop_of g (unreached g)) false g h before after
drop_not_made g h [] before after none is left noted = (ap (drop_of g) (sym is), left, noted)
drop_not_made g h (k ∷ ks) before after none is left noted = cc

-- ---- slice

pub slice_made : (g h : EventGraph) (ks : List ℕ) (before after : List RuleApplication) → IsValid g → (length ks ≡ 0 → ⊥) → ks ≡ unneeded g → h ≡ sliced g ks → after ≡ before ++ Slice (map (variable_name g) ks) ∷ [] → MadeAndNoted (slice_of g (unneeded g)) true g h before after
slice_made g h [] before after valid some is left noted = absurd (some refl)
slice_made g h (v ∷ vs) before after valid some is left noted =
    let ks = v ∷ vs in
    let within = subst (AllByRecursion (λ k. k < length g.variables)) (sym is) (unmarked-within (needed_marks g) (length g.variables) (entailed_marks-long (length g.variables) (needed_at_once g) (needed_beside g))) in
    let named : variables_named g (map (variable_name g) ks) ≡ Some ks = places_of_their_names (λ (v : Variable). v.name) g.variables ks within (variables_distinct g valid) in (
      Slice (map (variable_name g) ks),
      ap (slice_of g) (sym is),
      ap (λ (o : Option (List ℕ)). unless_failed (option_map_or (λ variables. first_failed (slice_conditions g variables)) o (Some 2)) (option_map_or (λ variables. sliced g variables) o g)) named
          ∙ ap (λ o. unless_failed o (sliced g ks)) (exactly_hold ks (unneeded g) some is) ∙ ap (λ (h : EventGraph). Some h) (sym left),
      noted,
    )

pub slice_not_made : (g h : EventGraph) (ks : List ℕ) (before after : List RuleApplication) → length ks ≡ 0 → ks ≡ unneeded g → h ≡ g → after ≡ before → MadeAndNoted (slice_of g (unneeded g)) false g h before after
slice_not_made g h [] before after none is left noted = (ap (slice_of g) (sym is), left, noted)
slice_not_made g h (k ∷ ks) before after none is left noted = cc

-- ---- merge

merge_at-holds : (g : EventGraph) (place first second : ℕ) → merge_at g place ≡ Some (first, second) → first_failed (merge_conditions g first second) ≡ None
merge_at-holds g place first second e = one (plain_urgent_edge (vertex_at g place)) e where
  one : (o : Option EventEdge) → option_map_or (λ (e : EventEdge). cond {A = Option (ℕ × ℕ)} (is_none (first_failed (merge_conditions g place e.target))) (Some (place, e.target)) None) o None ≡ Some (first, second) → first_failed (merge_conditions g first second) ≡ None
  one None e = cc
  one (Some edge) e = tested (first_failed (merge_conditions g place edge.target)) refl e where
    tested : (o : Option ℕ) → first_failed (merge_conditions g place edge.target) ≡ o → cond {A = Option (ℕ × ℕ)} (is_none o) (Some (place, edge.target)) None ≡ Some (first, second) → first_failed (merge_conditions g first second) ≡ None
    tested None holds e =
        let at_first : place ≡ first = ap (λ (o : Option (ℕ × ℕ)). option_map_or (λ ((a, b) : ℕ × ℕ). a) o place) e in
        let at_second : edge.target ≡ second = ap (λ (o : Option (ℕ × ℕ)). option_map_or (λ ((a, b) : ℕ × ℕ). b) o place) e in
        subst (λ (k : ℕ). first_failed (merge_conditions g first k) ≡ None) at_second (subst (λ (k : ℕ). first_failed (merge_conditions g k edge.target) ≡ None) at_first holds)
    tested (Some n) holds e = cc

pub merge_holds : (g : EventGraph) (first second : ℕ) → first_merge g ≡ Some (first, second) → first_failed (merge_conditions g first second) ≡ None
merge_holds g first second is =
    let (place, at_place) = first_found-of (merge_at g) (range_with_len 0 (length g.vertices)) (first, second) is in
    merge_at-holds g place first second at_place

-- the two vertices of a merge are there
pub both_exist : (g : EventGraph) (first second : ℕ) → first_failed (merge_conditions g first second) ≡ None → (nat_lt first (length g.vertices) ≡ true) × (nat_lt second (length g.vertices) ≡ true)
both_exist g first second holds =
    let all = (every-holds (merge_conditions g first second) holds).0 in
    let apart = and_first (nat_lt first (length g.vertices) && nat_lt second (length g.vertices) && not (first == second)) _ all in
    let both = and_first (nat_lt first (length g.vertices) && nat_lt second (length g.vertices)) _ apart in
    (and_first (nat_lt first (length g.vertices)) _ both, and_second (nat_lt first (length g.vertices)) _ both)

pub merge_made : (g h : EventGraph) (first second : ℕ) (before after : List RuleApplication) → IsValid g → first_merge g ≡ Some (first, second) → h ≡ merged g first second → after ≡ before ++ Merge (vertex_name g first) (vertex_name g second) ∷ [] → MadeAndNoted (merge_of g (first_merge g)) true g h before after
merge_made g h first second before after valid is left noted =
    let holds = merge_holds g first second is in
    let (exist, targets) = both_exist g first second holds in
    let distinct = vertices_distinct g valid in
    let at_first : place_of_vertex (vertex_name g first) g.vertices ≡ Some first = place_of_its_name (λ (v : EventVertex). v.name) g.vertices first (ltb-true first (length g.vertices) exist) distinct in
    let at_second : place_of_vertex (vertex_name g second) g.vertices ≡ Some second = place_of_its_name (λ (v : EventVertex). v.name) g.vertices second (ltb-true second (length g.vertices) targets) distinct in
    let named : two_vertices_named g (vertex_name g first) (vertex_name g second) ≡ Some (first, second) =
    ap (option_and_then (λ first. option_map (λ second. (first, second)) (place_of_vertex (vertex_name g second) g.vertices))) at_first ∙ ap (option_map (λ second. (first, second))) at_second in (
      Merge (vertex_name g first) (vertex_name g second),
      ap (merge_of g) is,
      ap (λ (o : Option (ℕ × ℕ)). unless_failed (option_map_or (λ (first, second). first_failed (merge_conditions g first second)) o (Some 1)) (option_map_or (λ (first, second). merged g first second) o g)) named
          ∙ ap (λ o. unless_failed o (merged g first second)) holds ∙ ap (λ (h : EventGraph). Some h) (sym left),
      noted,
    )

pub merge_not_made : (g h : EventGraph) (before after : List RuleApplication) → first_merge g ≡ None → h ≡ g → after ≡ before → MadeAndNoted (merge_of g (first_merge g)) false g h before after
merge_not_made g h before after none left noted = (ap (merge_of g) none, left, noted)
