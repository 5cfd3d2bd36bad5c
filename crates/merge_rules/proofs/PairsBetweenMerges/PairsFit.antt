-- Whether two fit, as the code asks it, and that the two can be merged exactly where they fit and the text isn't too long.
use Rattle.std.proofs.Common.{◌≡◌, ℕ, suc, ◌<◌, ◌==◌, nat_lt, nat_le, Bool, true, false, not, ◌&&◌, ◌||◌, cond, List, [], ◌∷◌, ◌++◌, length, take, drop, Option, Some, None, is_none, refl, sym, ◌∙◌, ap, ap₂}
use Rattle.std.specs.Prelude.{slice_get, filter_map}
use Rattle.std.specs.List.{list_all, list_any, range_with_len, cons_option}
use Rattle.std.specs.Option.{option_map, option_map_or}
use Rattle.sig_base.specs.declared.limits.TheConstants.{TEXT_MAX}
use Rattle.sig_base.proofs.Tests.{none-is_none}
use Rattle.model_core.specs.EventGraph.{EventGraph, EventVertex, EventEdge, has_drawn_delay}
use Rattle.model_core.specs.Run.Step.{no_vertex, vertex_at}
use Rattle.model_core.specs.Text.Canonical.{canonical}
use Rattle.model_core.specs.Rules.BoundsOfParts.{quiet_edge}
use Rattle.model_core.specs.Rules.Conditions.{first_failed}
use Rattle.model_core.specs.Rules.Uses.{vertex_writes}
use Rattle.model_core.specs.Rules.UrgentEdges.{plain_urgent, plain_urgent_edge, single_urgent}
use Rattle.model_core.specs.Rules.Merge.{leads_to, cancels, is_watched_vertex, reads_none_of, happens_unseen, values_at_once, other_edges, has_few_parts, merged_with, merged, merge_conditions, merge_at, first_merge}
use Rattle.model_core.proofs.PlacesChanged.{same_number, placed-there}
use Rattle.model_core.proofs.BothTrue.{and_first}
use Rattle.merge_rules.specs.PairFits.{target_at_once, pair_conditions, pair_fits}
use Rattle.merge_rules.specs.Growth.{growth, pair_growth}
use Rattle.merge_rules.specs.declared.growth.Growth.{Growth}

-- ---- conditions that all hold

abbrev all_hold : List Bool → Bool
all_hold bs = list_all (λ (b : Bool). b) bs

still_none : (o : Option ℕ) → is_none (option_map (λ n. suc n) o) ≡ is_none o
still_none None = refl
still_none (Some n) = refl

none-all : (bs : List Bool) → is_none (first_failed bs) ≡ all_hold bs
none-all [] = refl
none-all (true ∷ bs) = still_none (first_failed bs) ∙ none-all bs
none-all (false ∷ bs) = refl

and-true : (a : Bool) → (a && true) ≡ a
and-true true = refl
and-true false = refl

and-three : (a b c : Bool) → ((a && b) && c) ≡ (a && (b && c))
and-three true b c = refl
and-three false b c = refl

all-last : (bs : List Bool) (w : Bool) → all_hold (bs ++ w ∷ []) ≡ (all_hold bs && w)
all-last [] w = and-true w
all-last (b ∷ bs) w = ap (λ c. b && c) (all-last bs w) ∙ sym (and-three b (all_hold bs) w)

-- ---- two that fit

leads_to-target : (second : ℕ) (o : Option EventEdge) → option_map (λ (e : EventEdge). e.target) o ≡ Some second → option_map_or (leads_to second) o false ≡ true
leads_to-target second None is = cc
leads_to-target second (Some e) is = same_number e.target second (let same : e.target ≡ second = cc in same)

module _ (g : EventGraph) (first second : ℕ) (single : single_urgent g ≡ true) (target : target_at_once (vertex_at g first) ≡ Some second) (there : first < length g.vertices) where
  abbrev a : EventVertex
  a = vertex_at g first

  abbrev b : EventVertex
  b = vertex_at g second

  abbrev seven : List Bool
  seven = take 7 (merge_conditions g first second)

  abbrev few : Bool
  few = has_few_parts (vertex_at (merged g first second) first)

  abbrev short : Bool
  short = nat_le (length (canonical (merged g first second))) TEXT_MAX

  abbrev six : List Bool
  six = take 6 (pair_conditions g first second)

  seven-six : all_hold seven ≡ all_hold six
  seven-six = λ i.
      (ap (λ c. nat_lt first (length g.vertices) && nat_lt second (length g.vertices) && not (first == second) && c) (leads_to-target second (plain_urgent_edge a) target) ∙ and-true (nat_lt first (length g.vertices) && nat_lt second (length g.vertices) && not (first == second))) i
      && (is_none (plain_urgent b) && (single i && all_hold (take 4 (not (is_watched_vertex g second) ∷ not (list_any (cancels second) a.edges) ∷ list_all (λ e. quiet_edge g e && reads_none_of (vertex_writes b) e && not (has_drawn_delay e)) (other_edges a) ∷ (not (is_watched_vertex g first) || happens_unseen g b (values_at_once a)) ∷ []))))

  few-is : has_few_parts (merged_with b a) ≡ few
  few-is = ap has_few_parts (sym (placed-there (merged_with b) first g.vertices no_vertex there))

  fits-is : pair_fits g first ≡ (is_none (first_failed seven) && few)
  fits-is =
      ap (λ o. option_map_or (λ second. is_none (first_failed (pair_conditions g first second))) o false) target
      ∙ none-all (pair_conditions g first second)
      ∙ all-last six (has_few_parts (merged_with b a))
      ∙ ap₂ (λ x y. x && y) (sym seven-six ∙ sym (none-all seven)) few-is

  pub refused : (failed : Option ℕ) (n : ℕ) → failed ≡ first_failed seven → failed ≡ Some n → false ≡ pair_fits g first
  refused failed n is some = sym (fits-is ∙ ap (λ o. is_none o && few) (sym is ∙ some))

  pub fitting : (failed : Option ℕ) (is_few : Bool) → failed ≡ first_failed seven → failed ≡ None → is_few ≡ few → is_few ≡ pair_fits g first
  fitting failed is_few is none few_parts-merged = few_parts-merged ∙ sym (fits-is ∙ ap (λ o. is_none o && few) (sym is ∙ none))

  pub seven-hold : pair_fits g first ≡ true → first_failed seven ≡ None
  seven-hold fits = none-is_none (first_failed seven) (and_first (is_none (first_failed seven)) few (sym fits-is ∙ fits))

  -- ---- and can be merged

  whole : is_none (first_failed (merge_conditions g first second)) ≡ (pair_fits g first && short)
  whole =
      none-all (merge_conditions g first second)
      ∙ all-last seven (few && short)
      ∙ sym (and-three (all_hold seven) few short)
      ∙ ap (λ c. c && short) (ap (λ c. c && few) (sym (none-all seven)) ∙ sym fits-is)

  merge-is : merge_at g first ≡ cond (pair_fits g first && short) (Some (first, second)) None
  merge-is = by (plain_urgent_edge a) target where
    by : (o : Option EventEdge) → option_map (λ (e : EventEdge). e.target) o ≡ Some second
        → option_map_or (λ (e : EventEdge). cond {A = Option (ℕ × ℕ)} (is_none (first_failed (merge_conditions g first e.target))) (Some (first, e.target)) None) o None ≡ cond (pair_fits g first && short) (Some (first, second)) None
    by None is = cc
    by (Some e) is =
        ap (λ t. cond {A = Option (ℕ × ℕ)} (is_none (first_failed (merge_conditions g first t))) (Some (first, t)) None) (let same : e.target ≡ second = cc in same)
        ∙ ap (λ c. cond {A = Option (ℕ × ℕ)} c (Some (first, second)) None) whole

  pub found-short : (is_short : Bool) → pair_fits g first ≡ true → is_short ≡ short → is_short ≡ true → Some (first, second) ≡ merge_at g first
  found-short is_short fit s is_so = sym (merge-is ∙ ap₂ (λ x y. cond {A = Option (ℕ × ℕ)} (x && y) (Some (first, second)) None) fit (sym s ∙ is_so))

  pub refused-long : (is_short : Bool) → pair_fits g first ≡ true → is_short ≡ short → is_short ≡ false → None ≡ merge_at g first
  refused-long is_short fit s long = sym (merge-is ∙ ap₂ (λ x y. cond {A = Option (ℕ × ℕ)} (x && y) (Some (first, second)) None) fit (sym s ∙ long))

  pub refused-unfit : pair_fits g first ≡ false → None ≡ merge_at g first
  refused-unfit unfit = sym (merge-is ∙ ap (λ x. cond {A = Option (ℕ × ℕ)} (x && short) (Some (first, second)) None) unfit)

-- ---- what is kept of the two, and what it says

chosen : {X : Type 0} (b : Bool) (x y : X) → Some y ≡ cond b (Some x) None → (b ≡ true) × (y ≡ x)
chosen true x y e = (refl, let same : y ≡ x = cc in same)
chosen false x y e = cc

unchosen : {X : Type 0} (b : Bool) (x : X) → None ≡ cond b (Some x) None → b ≡ false
unchosen true x e = cc
unchosen false x e = refl

pub pair_growth-some : (g : EventGraph) (first : ℕ) (grows : Growth) → Some grows ≡ pair_growth g first → (pair_fits g first ≡ true) × (grows ≡ growth g first)
pair_growth-some g first grows is = chosen (pair_fits g first) (growth g first) grows is

pub pair_growth-none : (g : EventGraph) (first : ℕ) → None ≡ pair_growth g first → pair_fits g first ≡ false
pair_growth-none g first is = unchosen (pair_fits g first) (growth g first) is

-- ---- none

pub led-nowhere : (g : EventGraph) (first : ℕ) → target_at_once (vertex_at g first) ≡ None → None ≡ merge_at g first
led-nowhere g first none = by (plain_urgent_edge (vertex_at g first)) none where
  by : (o : Option EventEdge) → option_map (λ (e : EventEdge). e.target) o ≡ None
      → None ≡ option_map_or (λ (e : EventEdge). cond {A = Option (ℕ × ℕ)} (is_none (first_failed (merge_conditions g first e.target))) (Some (first, e.target)) None) o None
  by None is = refl
  by (Some e) is = cc

third_false : (x y : Bool) (z : Bool) → (x && (y && (false && z))) ≡ false
third_false true true z = refl
third_false true false z = refl
third_false false y z = refl

none-single : (g : EventGraph) (single : single_urgent g ≡ false) (first : ℕ) → merge_at g first ≡ None
none-single g single first = by (plain_urgent_edge (vertex_at g first)) where
  failing : (second : ℕ) → is_none (first_failed (merge_conditions g first second)) ≡ false
  failing second =
      none-all (merge_conditions g first second)
      ∙ ap (λ c. all_hold (take 1 (merge_conditions g first second) ++ is_none (plain_urgent (vertex_at g second)) ∷ c ∷ drop 3 (merge_conditions g first second))) single
      ∙ third_false _ (is_none (plain_urgent (vertex_at g second))) (all_hold (drop 3 (merge_conditions g first second)))

  by : (o : Option EventEdge) → option_map_or (λ (e : EventEdge). cond {A = Option (ℕ × ℕ)} (is_none (first_failed (merge_conditions g first e.target))) (Some (first, e.target)) None) o None ≡ None
  by None = refl
  by (Some e) = ap (λ c. cond {A = Option (ℕ × ℕ)} c (Some (first, e.target)) None) (failing e.target)

none-given : {X : Type 0} (h : ℕ → Option X) → ((k : ℕ) → h k ≡ None) → (ks : List ℕ) → filter_map h ks ≡ []
none-given h none [] = refl
none-given h none (k ∷ ks) = ap₂ (λ o rest. cons_option o rest) (none k) (none-given h none ks)

pub not-single : (g : EventGraph) → single_urgent g ≡ false → None ≡ first_merge g
not-single g single = sym (ap (λ ms. slice_get ms 0) (none-given (merge_at g) (none-single g single) (range_with_len 0 (length g.vertices))))
