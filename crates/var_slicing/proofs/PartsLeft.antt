-- Expressions, locations and values that are left where variables go: kinds, texts, openings and what a text can write.
use Rattle.std.proofs.Common.{◌≡◌, ℕ, zero, pos, ◌+◌, ◌<◌, ◌≤◌, Bool, true, false, List, [], ◌∷◌, ◌++◌, map, length, Option, Some, None, option_map, refl, sym, ap, ap₂, subst, arith, ◌∙◌}
use Rattle.std.specs.Prelude.{IfSome, codes, decimal}
use Rattle.std.specs.List.{AllByRecursion, AllZip}
use Rattle.model_core.specs.declared.model.Kind.{Kind}
use Rattle.model_core.specs.declared.model.Kind.TheVariants as kinds
use Rattle.model_core.specs.EventGraph.{EventGraph, Expression, Number, Location, Choice, Uniform, ByTable, Delay, Fixed, Drawn}
use Rattle.model_core.specs.Text.Canonical.{variable_name, expression_text, expression_texts, location_text, choice_text, source_text, delay_text}
use Rattle.model_core.specs.Text.Spellable.{extent, SpellableExpression, SpellableLocation, SpellableSource, SpellableDelay, expression_openings, openings_together, location_openings, values_openings}
use Rattle.model_core.specs.Static.HasKind.{IsVariable, HasKind}
use Rattle.model_core.specs.Static.OwnRules.{IsLocationOfKind, KeepsSource, KeepsDelay}
use Rattle.model_core.specs.Rules.MarkedPlaces.{rank}
use Rattle.model_core.specs.Rules.Uses.{variables_in}
use Rattle.model_core.specs.Rules.Slice.{expression_renumbered, delay_renumbered, location_renumbered, items_where_marked, sliced_values, sliced_parameters, sliced_targets, of_marked_variables}
use Rattle.mark_laws.proofs.Marks.{Marked, rank-within, get-marked}
use Rattle.model_core.proofs.EachOne.{every-map, every-images}
use Rattle.var_slicing.proofs.HeldByAll.{held-both}
use Rattle.var_slicing.proofs.ValuesLeft.{ReadsMarked}
use Rattle.var_slicing.proofs.ChangesLeft.{IndexReadsMarked}
use Rattle.var_slicing.proofs.EdgesLeft.{DelayReadsMarked}
use Rattle.var_slicing.proofs.NeedsClosed.{variables-below}
use Rattle.model_core.proofs.SomeOfAList.{SomeOf, some-items_where_marked, some-map, some-hold, some-few, some-openings}
use Rattle.var_slicing.proofs.RenumberedTexts.{openings-renumbered, index_openings-renumbered, spellable-renumbered, IsDeclared, variable-declared, kind-renumbered, name-renumbered, text-renumbered, index_text-renumbered}
use Rattle.var_slicing.proofs.KeptBeside.{variables_of, targets-kept, TargetMarked, TargetsRead, ValuesRead, targets-marked, values-marked, parameters-kept, parameters-marked, zip-kept, zip-mapped}

pub mapped-alike : {A B C : Type 0} (P : A → Type 0) (f : A → B) (p : B → C) (q : A → C) → ((x : A) → P x → p (f x) ≡ q x) → (xs : List A) → AllByRecursion P xs → map p (map f xs) ≡ map q xs
mapped-alike P f p q same [] all = refl
mapped-alike P f p q same (x ∷ xs) all = ap₂ (λ y ys. y ∷ ys) (same x all.0) (mapped-alike P f p q same xs all.1)

openings-alike : {A : Type 0} (f : A → A) (openings : A → ℕ) → ((x : A) → openings (f x) ≡ openings x) → (xs : List A) → openings_together openings (map f xs) ≡ openings_together openings xs
openings-alike f openings same [] = refl
openings-alike f openings same (x ∷ xs) = ap₂ (λ (i j : ℕ). i + j) (same x) (openings-alike f openings same xs)

module _ (g : EventGraph) (marks : List Bool) where
  abbrev h : EventGraph
  h = of_marked_variables g marks

  abbrev f : ℕ → ℕ
  f = rank marks

  abbrev count : ℕ
  count = length g.variables

  abbrev left_count : ℕ
  left_count = length h.variables

  -- ---- variables

  pub declared-left : (v : ℕ) → Marked marks v → IsDeclared g h f v
  declared-left v marked = get-marked marks g.variables v marked

  pub all-declared : (vs : List ℕ) → AllByRecursion (Marked marks) vs → AllByRecursion (IsDeclared g h f) vs
  all-declared vs all = every-map (Marked marks) (IsDeclared g h f) declared-left vs all

  pub rank-below_left : (v : ℕ) → Marked marks v → v < count → f v < left_count
  rank-below_left v marked below = rank-within marks g.variables v marked below

  all-below_left : (vs : List ℕ) → AllByRecursion (Marked marks) vs → AllByRecursion (λ v. v < count) vs → AllByRecursion (λ v. f v < left_count) vs
  all-below_left vs all below = every-map (λ v. Marked marks v × (v < count)) (λ v. f v < left_count) (λ v both. rank-below_left v both.0 both.1) vs (held-both (Marked marks) (λ v. v < count) vs all below)

  pub name-left : (v : ℕ) → Marked marks v → variable_name h (f v) ≡ variable_name g v
  name-left v marked = name-renumbered g h f v (declared-left v marked)

  pub variable-of_left : (v : ℕ) (array : Bool) (k : Kind) → Marked marks v → IsVariable g.variables v array k → IsVariable h.variables (f v) array k
  variable-of_left v array k marked is = variable-declared g h f v array k (declared-left v marked) is

  -- ---- expressions

  pub kind-of_left : (e : Expression) (k : Kind) → ReadsMarked marks e → HasKind g.variables e k → HasKind h.variables (expression_renumbered f e) k
  kind-of_left e k reads has = kind-renumbered g h f e k (all-declared (variables_in e) reads) has

  pub text-of_left : (e : Expression) → ReadsMarked marks e → expression_text h (expression_renumbered f e) ≡ expression_text g e
  text-of_left e reads = text-renumbered g h f e (all-declared (variables_in e) reads)

  pub spellable-left : (e : Expression) → ReadsMarked marks e → SpellableExpression count e → SpellableExpression left_count (expression_renumbered f e)
  spellable-left e reads s = spellable-renumbered f left_count count e (all-below_left (variables_in e) reads (variables-below count e s)) s

  -- ---- sources of draws

  pub source-keeps : (tables : ℕ) (old new : List (List ℕ)) (stream : ℕ) (choice : Choice) → KeepsSource g.variables tables old stream choice → KeepsSource h.variables tables new stream choice
  source-keeps tables old new stream (Uniform lo hi) k = k
  source-keeps tables old new stream (ByTable t) k = k

  pub source-spellable : (stream : ℕ) (choice : Choice) → SpellableSource (extent g) stream choice → SpellableSource (extent h) stream choice
  source-spellable stream (Uniform lo hi) s = s
  source-spellable stream (ByTable t) s = s

  choice_text-left : (choice : Choice) → choice_text h choice ≡ choice_text g choice
  choice_text-left (Uniform lo hi) = refl
  choice_text-left (ByTable t) = refl

  pub source_text-left : (stream : ℕ) (choice : Choice) → source_text h stream choice ≡ source_text g stream choice
  source_text-left stream choice = ap (λ t. codes " from " ++ decimal stream ++ t) (choice_text-left choice)

  -- ---- delays

  pub delay-keeps : (tables : ℕ) (old new : List (List ℕ)) (delay : Delay) → DelayReadsMarked marks delay → KeepsDelay g.variables tables old delay → KeepsDelay h.variables tables new (delay_renumbered f delay)
  delay-keeps tables old new (Fixed e) reads k = kind-of_left e kinds.Range reads k
  delay-keeps tables old new (Drawn stream choice) reads k = source-keeps tables old new stream choice k

  pub delay-spellable : (delay : Delay) → DelayReadsMarked marks delay → SpellableDelay (extent g) delay → SpellableDelay (extent h) (delay_renumbered f delay)
  delay-spellable (Fixed e) reads s = spellable-left e reads s
  delay-spellable (Drawn stream choice) reads s = source-spellable stream choice s

  -- `after 0` is left out of both
  pub delay_text-left : (delay : Delay) → DelayReadsMarked marks delay → delay_text h (delay_renumbered f delay) ≡ delay_text g delay
  delay_text-left (Fixed (Number (pos zero))) reads = refl
  delay_text-left (Fixed e) reads = ap (λ t. codes " after " ++ t) (text-of_left e reads)
  delay_text-left (Drawn stream choice) reads = ap (λ t. codes " after draw" ++ t) (source_text-left stream choice)

  -- ---- locations

  module _ (tables : ℕ) (old new : List (List ℕ)) where
    location-takes : (v : ℕ) → Marked marks v → (i : Option Expression) → IndexReadsMarked marks i → (k : Kind) → IsLocationOfKind g.variables tables old (record { variable = v; index = i }) k → IsLocationOfKind h.variables tables new (location_renumbered f (record { variable = v; index = i })) k
    location-takes v marked None reads k takes = variable-of_left v false k marked takes
    location-takes v marked (Some e) reads k takes = (variable-of_left v true k marked takes.0, kind-of_left e kinds.Range reads takes.1)

    pub takes-left : (l : Location) (k : Kind) → TargetMarked marks l → IsLocationOfKind g.variables tables old l k → IsLocationOfKind h.variables tables new (location_renumbered f l) k
    takes-left l k (marked, reads) takes = location-takes l.variable marked l.index reads k takes

  pub location_text-left : (l : Location) → TargetMarked marks l → location_text h (location_renumbered f l) ≡ location_text g l
  location_text-left l (marked, reads) = ap₂ (λ (s t : List ℕ). s ++ t) (name-left l.variable marked) (index_text-renumbered g h f l.index (all-declared _ reads))

  index-spellable : (i : Option Expression) → IndexReadsMarked marks i → IfSome i (SpellableExpression count) → IfSome (option_map (expression_renumbered f) i) (SpellableExpression left_count)
  index-spellable None reads s = tt
  index-spellable (Some e) reads s = spellable-left e reads s

  pub location-spellable : (l : Location) → TargetMarked marks l × SpellableLocation count l → SpellableLocation left_count (location_renumbered f l)
  location-spellable l ((marked, reads), s) = record { variable = rank-below_left l.variable marked s.variable; index = index-spellable l.index reads s.index }

  pub location_openings-left : (l : Location) → location_openings (location_renumbered f l) ≡ location_openings l
  location_openings-left l = index_openings-renumbered f l.index

  -- ---- targets

  pub target-texts : (ls : List Location) → TargetsRead marks ls → SomeOf (map (location_text h) (sliced_targets marks ls)) (map (location_text g) ls)
  target-texts ls reads =
      let kept = items_where_marked marks (variables_of ls) ls in
      subst (λ (ts : List (List ℕ)). SomeOf ts (map (location_text g) ls))
      (sym (ap (map (location_text h)) (targets-kept marks ls) ∙ mapped-alike (TargetMarked marks) (location_renumbered f) (location_text h) (location_text g) location_text-left kept (targets-marked marks ls reads)))
      (some-map (location_text g) (some-items_where_marked marks (variables_of ls) ls))

  pub targets-spellable : (ls : List Location) → TargetsRead marks ls → AllByRecursion (SpellableLocation count) ls → AllByRecursion (SpellableLocation left_count) (sliced_targets marks ls)
  targets-spellable ls reads s =
      let kept = items_where_marked marks (variables_of ls) ls in
      subst (AllByRecursion (SpellableLocation left_count)) (sym (targets-kept marks ls))
      (every-images (λ l. TargetMarked marks l × SpellableLocation count l) (SpellableLocation left_count) (location_renumbered f) location-spellable kept
      (held-both (TargetMarked marks) (SpellableLocation count) kept (targets-marked marks ls reads) (some-hold (SpellableLocation count) (some-items_where_marked marks (variables_of ls) ls) s)))

  pub target-openings : (ls : List Location) → openings_together location_openings (sliced_targets marks ls) ≤ openings_together location_openings ls
  target-openings ls =
      let kept = items_where_marked marks (variables_of ls) ls in
      let same = ap (openings_together location_openings) (targets-kept marks ls) ∙ openings-alike (location_renumbered f) location_openings location_openings-left kept in
      let fewer = some-openings location_openings (some-items_where_marked marks (variables_of ls) ls) in
      omega (arith, same, fewer)

  -- ---- values

  pub value-texts : (vs : List ℕ) (es : List Expression) → ValuesRead marks vs es → SomeOf (expression_texts h (sliced_values marks vs es)) (expression_texts g es)
  value-texts vs es reads =
      subst (λ (ts : List (List ℕ)). SomeOf ts (expression_texts g es))
      (sym (mapped-alike (ReadsMarked marks) (expression_renumbered f) (expression_text h) (expression_text g) text-of_left (items_where_marked marks vs es) (values-marked marks vs es reads)))
      (some-map (expression_text g) (some-items_where_marked marks vs es))

  pub values-spellable : (vs : List ℕ) (es : List Expression) → ValuesRead marks vs es → AllByRecursion (SpellableExpression count) es → AllByRecursion (SpellableExpression left_count) (sliced_values marks vs es)
  values-spellable vs es reads s =
      let kept = items_where_marked marks vs es in
      every-images (λ e. ReadsMarked marks e × SpellableExpression count e) (SpellableExpression left_count) (expression_renumbered f) (λ e both. spellable-left e both.0 both.1) kept
      (held-both (ReadsMarked marks) (SpellableExpression count) kept (values-marked marks vs es reads) (some-hold (SpellableExpression count) (some-items_where_marked marks vs es) s))

  pub value-openings : (vs : List ℕ) (es : List Expression) → openings_together expression_openings (sliced_values marks vs es) ≤ openings_together expression_openings es
  value-openings vs es =
      let same = openings-alike (expression_renumbered f) expression_openings (openings-renumbered f) (items_where_marked marks vs es) in
      let fewer = some-openings expression_openings (some-items_where_marked marks vs es) in
      omega (arith, same, fewer)

  enclosed-openings : (es kept : List Expression) → SomeOf kept es → openings_together expression_openings (map (expression_renumbered f) kept) ≤ openings_together expression_openings es → values_openings (map (expression_renumbered f) kept) ≤ values_openings es
  enclosed-openings es [] some fewer = omega arith
  enclosed-openings [] (e ∷ kept) some fewer = let few = some-few some in absurd (omega (arith, few))
  enclosed-openings (x ∷ es) (e ∷ kept) some fewer = omega (arith, fewer)

  -- in their parentheses
  pub values_openings-left : (vs : List ℕ) (es : List Expression) → values_openings (sliced_values marks vs es) ≤ values_openings es
  values_openings-left vs es = enclosed-openings es (items_where_marked marks vs es) (some-items_where_marked marks vs es) (value-openings vs es)

  -- what values there are, beside the kinds that stay
  pub values-given : (vs : List ℕ) (es : List Expression) (ks : List Kind) → ValuesRead marks vs es → AllZip (HasKind g.variables) es ks → AllZip (HasKind h.variables) (sliced_values marks vs es) (items_where_marked marks vs ks)
  values-given vs es ks reads given =
      zip-mapped (ReadsMarked marks) (HasKind g.variables) (HasKind h.variables) (expression_renumbered f) kind-of_left (items_where_marked marks vs es) (items_where_marked marks vs ks) (values-marked marks vs es reads) (zip-kept (HasKind g.variables) marks vs es ks given)

  -- ---- parameters

  pub parameter-names : (vs : List ℕ) → SomeOf (map (variable_name h) (sliced_parameters marks vs)) (map (variable_name g) vs)
  parameter-names vs =
      subst (λ (ts : List (List ℕ)). SomeOf ts (map (variable_name g) vs))
      (sym (ap (map (variable_name h)) (parameters-kept marks vs) ∙ mapped-alike (Marked marks) f (variable_name h) (variable_name g) name-left (items_where_marked marks vs vs) (parameters-marked marks vs)))
      (some-map (variable_name g) (some-items_where_marked marks vs vs))

  pub parameters-below_left : (vs : List ℕ) → AllByRecursion (λ v. v < count) vs → AllByRecursion (λ v. v < left_count) (sliced_parameters marks vs)
  parameters-below_left vs below =
      let kept = items_where_marked marks vs vs in
      subst (AllByRecursion (λ v. v < left_count)) (sym (parameters-kept marks vs))
      (every-images (λ v. Marked marks v × (v < count)) (λ v. v < left_count) f (λ v both. rank-below_left v both.0 both.1) kept
      (held-both (Marked marks) (λ v. v < count) kept (parameters-marked marks vs) (some-hold (λ v. v < count) (some-items_where_marked marks vs vs) below)))
