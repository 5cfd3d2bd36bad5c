-- Urgent edges whose conditions are refuted exclude all others. Those that compare one and the same with numbers exclude each
-- other by the numbers alone.
use Rattle.std.proofs.Common.{◌≡◌, ℤ, Bool, true, false, not, ◌&&◌, ◌||◌, cond, List, [], ◌∷◌, ℕ, zero, suc, map, filter, take, drop, slice_get, length, ◌+◌, ◌≤◌, Option, Some, None, option_map, arith, refl, sym, ◌∙◌, ap, ap₂}
use Rattle.std.specs.List.{list_all, list_any, remove}
use Rattle.std.specs.Option.{option_map_or, option_and_then}
use Rattle.std.proofs.lemmas.List.{take-map, drop-map}
use Rattle.std.proofs.lemmas.Bool.{le-leb}
use Rattle.sig_base.specs.declared.limits.TheConstants.{EDGES_MAX}
use Rattle.model_core.specs.declared.vertex.Edge.{Edge}
use Rattle.model_core.specs.Code.Views.{edge_of}
use Rattle.model_core.specs.Rules.BoundsTable.{fits}
use Rattle.std.proofs.lemmas.List.Folds.{list_any-append}
use Rattle.model_core.specs.Rules.PlacedEdges.{with_place}
use Rattle.model_core.specs.EventGraph.{EventGraph, EventEdge, Operator, Expression, Number, Truth, Clock, Scalar, Cell, Negative, Not, Binary, If}
use Rattle.model_core.specs.Rules.BoundsOf.{bounds_of, refuted}
use Rattle.model_core.specs.Rules.Exclusive.{same_expression, is_comparison, literal_number, Comparison, comparison_of, some_meets_both, is_negation_of, compare_apart, exclusive}
use Rattle.model_core.specs.Rules.UrgentEdges.{is_urgent, each_pair, urgent_conditions}
use Rattle.model_core.proofs.EachOne.{either_false}
use Rattle.model_core.proofs.SameExpressions.{same_itself, true-same_expression}
use Rattle.range_bounds.specs.declared.compared_alike.Compared.{Compared}
use Rattle.range_bounds.specs.LiveEdges.{is_live, may_take_any_condition}
use Rattle.range_bounds.specs.Inner.ComparedAlike.{live_conditions, comparison_with, compares_this, all_compare_this, never_both, AreCompared}

-- ---- conditions that are refuted

module _ (g : EventGraph) where
  abbrev never : Expression → Bool
  never c = refuted (bounds_of g c)

  or_true : (a : Bool) → (a || true) ≡ true
  or_true true = refl
  or_true false = refl

  -- such a one excludes any other, on both sides
  first_never : (a b : Expression) → never a ≡ true → exclusive g a b ≡ true
  first_never a b is = ap (λ n. (is_negation_of a b || is_negation_of b a) || (n || never b) || compare_apart (comparison_of a) (comparison_of b)) is ∙ ap (λ r. r || compare_apart (comparison_of a) (comparison_of b)) (or_true (is_negation_of a b || is_negation_of b a))

  second_never : (a b : Expression) → never b ≡ true → exclusive g a b ≡ true
  second_never a b is =
      ap (λ n. (is_negation_of a b || is_negation_of b a) || (never a || n) || compare_apart (comparison_of a) (comparison_of b)) is
      ∙ ap (λ r. (is_negation_of a b || is_negation_of b a) || r || compare_apart (comparison_of a) (comparison_of b)) (or_true (never a))
      ∙ ap (λ r. r || compare_apart (comparison_of a) (comparison_of b)) (or_true (is_negation_of a b || is_negation_of b a))

  pub all_excluded : (a : Expression) (cs : List Expression) → never a ≡ true → list_all (exclusive g a) cs ≡ true
  all_excluded a [] is = refl
  all_excluded a (c ∷ cs) is = ap₂ (λ x y. x && y) (first_never a c is) (all_excluded a cs is)

  all_live : (a : Expression) (es : List EventEdge) → list_all (exclusive g a) (urgent_conditions es) ≡ list_all (exclusive g a) (live_conditions g es)
  all_live a [] = refl
  all_live a (e ∷ es) = by (is_urgent e) (never e.condition) refl (all_live a es) where
    by : (urgent never_true : Bool) → never e.condition ≡ never_true → list_all (exclusive g a) (urgent_conditions es) ≡ list_all (exclusive g a) (live_conditions g es)
        → list_all (exclusive g a) (map (λ (e : EventEdge). e.condition) (cond urgent (e ∷ filter is_urgent es) (filter is_urgent es))) ≡ list_all (exclusive g a) (map (λ (e : EventEdge). e.condition) (cond (urgent && not never_true) (e ∷ filter (is_live g) es) (filter (is_live g) es)))
    by false n is rest = rest
    by true false is rest = ap (λ r. exclusive g a e.condition && r) rest
    by true true is rest = ap (λ x. x && list_all (exclusive g a) (urgent_conditions es)) (second_never a e.condition is) ∙ rest

  pub pairs_live : (es : List EventEdge) → each_pair (exclusive g) (urgent_conditions es) ≡ each_pair (exclusive g) (live_conditions g es)
  pairs_live [] = refl
  pairs_live (e ∷ es) = by (is_urgent e) (never e.condition) refl (pairs_live es) where
    by : (urgent never_true : Bool) → never e.condition ≡ never_true → each_pair (exclusive g) (urgent_conditions es) ≡ each_pair (exclusive g) (live_conditions g es)
        → each_pair (exclusive g) (map (λ (e : EventEdge). e.condition) (cond urgent (e ∷ filter is_urgent es) (filter is_urgent es))) ≡ each_pair (exclusive g) (map (λ (e : EventEdge). e.condition) (cond (urgent && not never_true) (e ∷ filter (is_live g) es) (filter (is_live g) es)))
    by false n is rest = rest
    by true false is rest = ap₂ (λ x y. x && y) (all_live e.condition es) rest
    by true true is rest = ap (λ x. x && each_pair (exclusive g) (urgent_conditions es)) (all_excluded e.condition (urgent_conditions es) is) ∙ rest

  -- ---- conditions that compare the same with numbers

  -- a comparison is the negation of none
  no_negation : (a b : Expression) (c : Comparison) → comparison_of a ≡ Some c → is_negation_of a b ≡ false
  no_negation (Number n) b c is = refl
  no_negation (Truth t) b c is = refl
  no_negation Clock b c is = refl
  no_negation (Scalar v) b c is = refl
  no_negation (Cell v i) b c is = refl
  no_negation (Negative a) b c is = refl
  no_negation (Not a) b c is = cc
  no_negation (Binary op x y) b c is = refl
  no_negation (If t x y) b c is = refl

  exclusive-never_both : (left : Expression) (a b : Expression) (x y : Compared) → never a ≡ false → never b ≡ false → comparison_of a ≡ Some (comparison_with left x) → comparison_of b ≡ Some (comparison_with left y) → exclusive g a b ≡ never_both x y
  exclusive-never_both left a b x y a_lives b_lives is_x is_y =
      ap₂ (λ p q. (p || q) || (never a || never b) || compare_apart (comparison_of a) (comparison_of b)) (no_negation a b (comparison_with left x) is_x) (no_negation b a (comparison_with left y) is_y)
      ∙ ap₂ (λ p q. (p || q) || compare_apart (comparison_of a) (comparison_of b)) a_lives b_lives
      ∙ ap₂ compare_apart is_x is_y
      ∙ ap (λ same. same && not (some_meets_both (comparison_with left x) (comparison_with left y))) (same_itself left)

  -- these conditions live
  abbrev Live : List Expression → Type 0
  Live cs = map never cs ≡ map (λ c. false) cs

  abbrev Alike : Expression → List Expression → List Compared → Type 0
  Alike left cs all = map comparison_of cs ≡ map (λ (c : Compared). Some (comparison_with left c)) all

  first_of : {A : Type 0} {x y : A} {xs ys : List A} → (x ∷ xs) ≡ (y ∷ ys) → x ≡ y
  first_of e = cc

  rest_of : {A : Type 0} {x y : A} {xs ys : List A} → (x ∷ xs) ≡ (y ∷ ys) → xs ≡ ys
  rest_of e = cc

  all_exclusive-never_both : (left a : Expression) (x : Compared) → never a ≡ false → comparison_of a ≡ Some (comparison_with left x) → (cs : List Expression) (all : List Compared) → Live cs → Alike left cs all → list_all (exclusive g a) cs ≡ list_all (never_both x) all
  all_exclusive-never_both left a x lives is [] [] live alike = refl
  all_exclusive-never_both left a x lives is [] (y ∷ all) live alike = cc
  all_exclusive-never_both left a x lives is (c ∷ cs) [] live alike = cc
  all_exclusive-never_both left a x lives is (c ∷ cs) (y ∷ all) live alike = ap₂ (λ p q. p && q) (exclusive-never_both left a c x y lives (first_of live) is (first_of alike)) (all_exclusive-never_both left a x lives is cs all (rest_of live) (rest_of alike))

  each_pair-never_both : (left : Expression) (cs : List Expression) (all : List Compared) → Live cs → Alike left cs all → each_pair (exclusive g) cs ≡ each_pair never_both all
  each_pair-never_both left [] [] live alike = refl
  each_pair-never_both left [] (y ∷ all) live alike = cc
  each_pair-never_both left (c ∷ cs) [] live alike = cc
  each_pair-never_both left (c ∷ cs) (y ∷ all) live alike = ap₂ (λ p q. p && q) (all_exclusive-never_both left c y (first_of live) (first_of alike) cs all (rest_of live) (rest_of alike)) (each_pair-never_both left cs all (rest_of live) (rest_of alike))

  lives : (es : List EventEdge) → Live (live_conditions g es)
  lives [] = refl
  lives (e ∷ es) = by (is_urgent e) (never e.condition) refl (lives es) where
    by : (urgent never_true : Bool) → never e.condition ≡ never_true → Live (live_conditions g es) → Live (map (λ (e : EventEdge). e.condition) (cond (urgent && not never_true) (e ∷ filter (is_live g) es) (filter (is_live g) es)))
    by false n is rest = rest
    by true false is rest = ap₂ (λ b bs. b ∷ bs) is rest
    by true true is rest = rest

  -- if all live edges compare one and the same with numbers, these decide whether any two exclude each other
  pub never_both-urgent : (left : Expression) (es : List EventEdge) (all : List Compared) → AreCompared g left es all → each_pair never_both all ≡ each_pair (exclusive g) (urgent_conditions es)
  never_both-urgent left es all alike = sym (each_pair-never_both left (live_conditions g es) all (lives es) alike) ∙ sym (pairs_live es)

  -- an edge that isn't live excludes all others
  pub each_pair-not_live : (e : EventEdge) (es : List EventEdge) → is_live g e ≡ false → each_pair (exclusive g) (urgent_conditions (e ∷ es)) ≡ each_pair (exclusive g) (urgent_conditions es)
  each_pair-not_live e es live = by (is_urgent e) (never e.condition) refl live where
    by : (urgent never_true : Bool) → never e.condition ≡ never_true → (urgent && not never_true) ≡ false
        → each_pair (exclusive g) (map (λ (e : EventEdge). e.condition) (cond urgent (e ∷ filter is_urgent es) (filter is_urgent es))) ≡ each_pair (exclusive g) (urgent_conditions es)
    by false n is live = refl
    by true false is live = cc
    by true true is live = ap (λ x. x && each_pair (exclusive g) (urgent_conditions es)) (all_excluded e.condition (urgent_conditions es) is)

  -- ---- an edge that gets another condition

  abbrev given : Expression → EventEdge → EventEdge
  given c e = record e { condition = c }

  -- where it isn't urgent, the conditions of those that are stay as they are
  calm_given : (c : Expression) (es : List EventEdge) (k : ℕ) → option_map_or is_urgent (slice_get es k) false ≡ false → urgent_conditions (with_place (given c) k es) ≡ urgent_conditions es
  calm_given c [] k calm = refl
  calm_given c (x ∷ es) zero calm =
      ap (λ (b : Bool). map (λ (e : EventEdge). e.condition) (cond b (given c x ∷ filter is_urgent es) (filter is_urgent es))) calm
      ∙ sym (ap (λ (b : Bool). map (λ (e : EventEdge). e.condition) (cond b (x ∷ filter is_urgent es) (filter is_urgent es))) calm)
  calm_given c (x ∷ es) (suc k) calm = one (is_urgent x) (calm_given c es k calm) where
    one : (b : Bool) → urgent_conditions (with_place (given c) k es) ≡ urgent_conditions es
        → map (λ (e : EventEdge). e.condition) (cond b (x ∷ filter is_urgent (with_place (given c) k es)) (filter is_urgent (with_place (given c) k es))) ≡ map (λ (e : EventEdge). e.condition) (cond b (x ∷ filter is_urgent es) (filter is_urgent es))
    one true same = ap (λ cs. x.condition ∷ cs) same
    one false same = same

  none_live : (es : List EventEdge) → list_any (is_live g) es ≡ false → live_conditions g es ≡ []
  none_live [] none = refl
  none_live (e ∷ es) none =
      let (here, later) = either_false (is_live g e) (list_any (is_live g) es) none in
      ap (λ (b : Bool). map (λ (e : EventEdge). e.condition) (cond b (e ∷ filter (is_live g) es) (filter (is_live g) es))) here ∙ none_live es later

  -- where no other one is live, it excludes them
  aside_given : (c : Expression) (es : List EventEdge) (k : ℕ) → list_any (is_live g) (take k es) ≡ false → list_any (is_live g) (drop (suc k) es) ≡ false → each_pair (exclusive g) (urgent_conditions (with_place (given c) k es)) ≡ true
  aside_given c [] k before none_after = refl
  aside_given c (x ∷ es) zero before none_after = by (is_urgent x) where
    pairs : each_pair (exclusive g) (urgent_conditions es) ≡ true
    pairs = pairs_live es ∙ ap (each_pair (exclusive g)) (none_live es none_after)

    by : (b : Bool) → each_pair (exclusive g) (map (λ (e : EventEdge). e.condition) (cond b (given c x ∷ filter is_urgent es) (filter is_urgent es))) ≡ true
    by true = ap₂ (λ p q. p && q) (all_live c es ∙ ap (list_all (exclusive g c)) (none_live es none_after)) pairs
    by false = pairs
  aside_given c (x ∷ es) (suc k) before none_after =
      let (here, later) = either_false (is_live g x) (list_any (is_live g) (take k es)) before in
      each_pair-not_live x (with_place (given c) k es) here ∙ aside_given c es k later none_after

  -- the urgent edges still exclude each other, whatever condition that one gets
  pub any_condition_serves : (es : List EventEdge) (k : ℕ) → may_take_any_condition g es k ≡ true → (c : Expression) → each_pair (exclusive g) (urgent_conditions es) ≡ true → each_pair (exclusive g) (urgent_conditions (with_place (given c) k es)) ≡ true
  any_condition_serves es k may c pairs = by (option_map_or is_urgent (slice_get es k) false) (list_any (is_live g) (remove es k)) refl refl may where
    by : (urgent live : Bool) → option_map_or is_urgent (slice_get es k) false ≡ urgent → list_any (is_live g) (remove es k) ≡ live → (not urgent || not live) ≡ true → each_pair (exclusive g) (urgent_conditions (with_place (given c) k es)) ≡ true
    by false live is others may = ap (each_pair (exclusive g)) (calm_given c es k is) ∙ pairs
    by true true is others may = cc
    by true false is others may =
        let (before, none_after) = either_false (list_any (is_live g) (take k es)) (list_any (is_live g) (drop (suc k) es)) (sym (list_any-append (is_live g) (take k es) (drop (suc k) es)) ∙ others) in
        aside_given c es k before none_after

-- a comparison of the same with a number
pub comparison_of-number : (op : Operator) (operand left number : Expression) (n : ℤ) → is_comparison op ≡ true → same_expression operand left ≡ true → literal_number number ≡ Some n → comparison_of (Binary op operand number) ≡ Some (record { left = left; operator = op; number = n })
comparison_of-number op operand left number n compares same is =
    ap (λ b. cond b (option_map (λ n. record { left = operand; operator = op; number = n }) (literal_number number)) None) compares
    ∙ ap (option_map (λ n. record { left = operand; operator = op; number = n })) is
    ∙ ap (λ e. Some (record { left = e; operator = op; number = n })) (true-same_expression operand left same)

-- such a number is that of the literal
pub some_fits : (o : Option ℤ) (n : ℤ) → Some n ≡ option_and_then (λ n. cond (fits n) (Some n) None) o → (o ≡ Some n) × (fits n ≡ true)
some_fits None n e = cc
some_fits (Some m) n e = by (fits m) refl e where
  by : (b : Bool) → fits m ≡ b → Some n ≡ cond b (Some m) None → (Some m ≡ Some n) × (fits n ≡ true)
  by false is e = cc
  by true is e = let same : n ≡ m = cc in (sym e, ap fits same ∙ is)

-- where no edge is left, all that are live compare the expression, and there are no more than were counted
pub all_compared : (left : Expression) (live rest : List Expression) (n : ℕ) → rest ≡ [] → list_all (compares_this left) rest ≡ list_all (compares_this left) live → n + length rest ≡ length live → n ≤ EDGES_MAX → true ≡ all_compare_this left live
all_compared left live rest n none compared counted within =
    let all : list_all (compares_this left) live ≡ true = sym compared ∙ ap (list_all (compares_this left)) none in
    let empty : length rest ≡ 0 = ap length none in
    let few : length live ≤ EDGES_MAX = omega (arith, empty, counted, within) in
    sym (ap₂ (λ a b. a && b) all (le-leb (length live) EDGES_MAX few))

-- the others are those before the place and those after it
pub any-removed : (p : EventEdge → Bool) (es : List Edge) (k : ℕ) → list_any p (remove (map edge_of es) k) ≡ (list_any p (map edge_of (take k es)) || list_any p (map edge_of (drop (k + 1) es)))
any-removed p es k =
    let next : suc k ≡ k + 1 = omega arith in
    list_any-append p (take k (map edge_of es)) (drop (suc k) (map edge_of es))
    ∙ ap₂ (λ a b. a || b) (ap (list_any p) (take-map edge_of k es)) (ap (list_any p) (ap (λ n. drop n (map edge_of es)) next ∙ drop-map edge_of (k + 1) es))
