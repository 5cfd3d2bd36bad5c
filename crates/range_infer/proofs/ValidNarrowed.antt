-- A valid model with other ranges that fit it is valid, where they hold the initial values and the text isn't too long.
use Rattle.std.proofs.Common.{◌≡◌, ℕ, suc, ◌+◌, ◌<◌, ◌≤◌, ℤ, pos, negsuc, ◌≤ℤ◌, true, false, nat_eq, slice_index_or, List, [], ◌∷◌, ◌++◌, length, map, Option, Some, None, refl, sym, ◌∙◌, ap, subst, arith}
use Rattle.std.specs.List.{AllByRecursion, AllZip, IsDistinct, sum_by}
use Rattle.std.proofs.lemmas.Int.{ints}
use Rattle.std.proofs.lemmas.List.Sums.{sum_by-cons}
use Rattle.sig_base.specs.declared.limits.TheConstants.{TEXT_MAX, CELLS_MAX, VARIABLES_MAX}
use Rattle.model_core.specs.declared.model.Kind.{Kind}
use Rattle.model_core.specs.declared.model.Kind.TheVariants as kinds
use Rattle.model_core.specs.EventGraph.{EventGraph, EventVertex, EventEdge, Delay, Fixed, Drawn, EdgeKind, Schedule, Urgent, CancelNext, CancelEqual, CancelAll, StateChange, Set, Draw, Choice, Uniform, ByTable, Location, Expression, Variable, WeightTable}
use Rattle.model_core.specs.Run.State.{no_variable, variable_at}
use Rattle.model_core.specs.Text.Lexing.{same_bytes}
use Rattle.model_core.specs.Text.Canonical.{canonical}
use Rattle.model_core.specs.Text.Spellable.{Extent, extent, IsSigned, HasWrittenRange, SpellableVariable, SpellableVertex, SpellableWatched, IsSpellable}
use Rattle.model_core.specs.Static.HasKind.{IsVariable, HasKind}
use Rattle.model_core.specs.Static.OwnRules.{IsLiteral, FitsKind, KeepsVariable, IsLocationOfKind, IsParameter, CarriedFitKinds, KeepsSource, KeepsChange, CarriesValues, KeepsDelay, KeepsTiming, KeepsEdge, KeepsVertex, IsWatchable, watch_number, parameters_of, KeepsParts, KeepsStaticRules}
use Rattle.model_core.proofs.EachOne.{every-map, every-both}
use Rattle.model_core.specs.declared.var_range.VarRange.{VarRange}
use Rattle.model_core.specs.Ranges.OtherRanges.{LiesIn, declared_range, with_range, with_ranges, model_with_ranges, range_at}
use Rattle.model_core.specs.Ranges.Inductive.{Encloses, Fitting}
use Rattle.range_infer.proofs.NarrowModels.{truth_fixed}
use Rattle.range_infer.proofs.ModelWithRanges.{is_variable, has_kind, as_many_variables}

-- ---- variables

-- what is known of a range and of the variable that it is for
record DeclarableRange (v : Variable) (r : VarRange) : Type 0 where
  ordered : r.lo ≤ℤ r.hi
  inside : Encloses (declared_range v) r
  begins : LiesIn r v.initial
  truth : v.kind ≡ kinds.Truth → r ≡ declared_range v

between_literals : (a b x : ℤ) → IsLiteral a → IsLiteral b → a ≤ℤ x → x ≤ℤ b → IsLiteral x
between_literals a b x i j low high = record { least = omega (arith, ints, i.least); greatest = omega (arith, ints, j.greatest) }

of_kind : (k : Kind) (v : Variable) (r : VarRange) → v.kind ≡ k → DeclarableRange v r → FitsKind k v → FitsKind k (with_range v r)
of_kind kinds.Truth v r is declarable fits =
    let same = declarable.truth is in
    record { least = ap (λ (r : VarRange). r.lo) same ∙ fits.least; greatest = ap (λ (r : VarRange). r.hi) same ∙ fits.greatest; exact = fits.exact }
of_kind kinds.Range v r is declarable fits = record {
  least = between_literals v.lo v.hi r.lo fits.least fits.greatest declarable.inside.low (omega (arith, ints, declarable.ordered, declarable.inside.high));
  greatest = between_literals v.lo v.hi r.hi fits.least fits.greatest (omega (arith, ints, declarable.ordered, declarable.inside.low)) declarable.inside.high;
  start = fits.start;
  ordered = declarable.ordered;
}

variable_keeps : (v : Variable) (r : VarRange) → DeclarableRange v r → KeepsVariable v → KeepsVariable (with_range v r)
variable_keeps v r declarable k = record { name = k.name; size = k.size; range = of_kind v.kind v r refl declarable k.range; from_lo = declarable.begins.low; to_hi = declarable.begins.high }

literal_signed : (x : ℤ) → IsLiteral x → IsSigned x
literal_signed (pos n) i = let most = i.greatest in omega (arith, ints, most)
literal_signed (negsuc n) i = let least = i.least in omega (arith, ints, least)

written_range : (k : Kind) (v : Variable) (r : VarRange) → v.kind ≡ k → DeclarableRange v r → FitsKind k v → HasWrittenRange v k → HasWrittenRange (with_range v r) k
written_range kinds.Truth v r is declarable fits h =
    let same = declarable.truth is in
    (ap (λ (r : VarRange). r.lo) same ∙ h.0, ap (λ (r : VarRange). r.hi) same ∙ h.1, h.2)
written_range kinds.Range v r is declarable fits h =
    let k = of_kind kinds.Range v r is declarable fits in (literal_signed r.lo k.least, literal_signed r.hi k.greatest)

variable_written : (v : Variable) (r : VarRange) → DeclarableRange v r → KeepsVariable v → SpellableVariable v → SpellableVariable (with_range v r)
variable_written v r declarable keeps s = record { name = s.name; size = s.size; range = written_range v.kind v r refl declarable keeps.range s.range; initial = s.initial }

-- a fact of each variable with its range
each_ranged : (P Q : Variable → Type 0) → ((v : Variable) (r : VarRange) → DeclarableRange v r → P v → Q (with_range v r)) → (vs : List Variable) (rs : List VarRange) → length rs ≡ length vs → ((k : ℕ) → k < length vs → DeclarableRange (slice_index_or vs k no_variable) (range_at rs k)) → AllByRecursion P vs → AllByRecursion Q (with_ranges vs rs)
each_ranged P Q f [] rs e declarable all = tt
each_ranged P Q f (v ∷ vs) [] e declarable all = absurd (omega arith)
each_ranged P Q f (v ∷ vs) (r ∷ rs) e declarable (p, all) = (f v r (declarable 0 (omega arith)) p, each_ranged P Q f vs rs (omega arith) (λ k small. declarable (suc k) (omega arith)) all)

names_same : (vs : List Variable) (rs : List VarRange) → map (λ (v : Variable). v.name) vs ≡ map (λ (v : Variable). v.name) (with_ranges vs rs)
names_same [] rs = refl
names_same (v ∷ vs) [] = refl
names_same (v ∷ vs) (r ∷ rs) = ap (λ (ns : List (List ℕ)). v.name ∷ ns) (names_same vs rs)

cells_same : (vs : List Variable) (rs : List VarRange) → sum_by (λ (v : Variable). v.size) vs ≡ sum_by (λ (v : Variable). v.size) (with_ranges vs rs)
cells_same [] rs = refl
cells_same (v ∷ vs) [] = refl
cells_same (v ∷ vs) (r ∷ rs) =
    sum_by-cons (λ (v : Variable). v.size) v vs ∙ ap (λ (n : ℕ). v.size + n) (cells_same vs rs) ∙ sym (sum_by-cons (λ (v : Variable). v.size) (with_range v r) (with_ranges vs rs))

-- ---- lists side by side

zip-map : {A B : Type 0} (P Q : A → B → Type 0) → ((a : A) (b : B) → P a b → Q a b) → (xs : List A) (ys : List B) → AllZip P xs ys → AllZip Q xs ys
zip-map P Q f [] [] all = tt
zip-map P Q f [] (y ∷ ys) all = absurd all
zip-map P Q f (x ∷ xs) [] all = absurd all
zip-map P Q f (x ∷ xs) (y ∷ ys) (p, all) = (f x y p, zip-map P Q f xs ys all)

-- ---- vertices

module _ (vs : List Variable) (rs : List VarRange) (tables : ℕ) (takes : List (List ℕ)) where
  abbrev ws : List Variable
  ws = with_ranges vs rs

  takes_kind : (l : Location) (k : Kind) → IsLocationOfKind vs tables takes l k → IsLocationOfKind ws tables takes l k
  takes_kind l k t = by l.variable l.index t where
    by : (v : ℕ) (i : Option Expression) → IsLocationOfKind vs tables takes (record { variable = v; index = i }) k → IsLocationOfKind ws tables takes (record { variable = v; index = i }) k
    by v None t = is_variable vs rs v false k t
    by v (Some i) t = (is_variable vs rs v true k t.0, has_kind vs rs i kinds.Range t.1)

  given : (es : List Expression) (ks : List Kind) → AllZip (HasKind vs) es ks → AllZip (HasKind ws) es ks
  given es ks all = zip-map (HasKind vs) (HasKind ws) (has_kind vs rs) es ks all

  source_keeps : (stream : ℕ) (choice : Choice) → KeepsSource vs tables takes stream choice → KeepsSource ws tables takes stream choice
  source_keeps stream (Uniform lo hi) k = k
  source_keeps stream (ByTable t) k = k

  change_keeps : (c : StateChange) → KeepsChange vs tables takes c → KeepsChange ws tables takes c
  change_keeps (Set targets values) k = (k.0, record { kinds = k.1.kinds; taken = zip-map (IsLocationOfKind vs tables takes) (IsLocationOfKind ws tables takes) takes_kind targets k.1.kinds k.1.taken; given = given values k.1.kinds k.1.given })
  change_keeps (Draw target stream choice) k = (takes_kind target kinds.Range k.0, source_keeps stream choice k.1)

  carried : (parameters : List ℕ) (values : List Expression) → CarriedFitKinds vs tables takes parameters values → CarriedFitKinds ws tables takes parameters values
  carried parameters values t = record { kinds = t.kinds; taken = zip-map (λ v k. IsVariable vs v false k) (λ v k. IsVariable ws v false k) (λ v k. is_variable vs rs v false k) parameters t.kinds t.taken; given = given values t.kinds t.given }

  carries : (kind : EdgeKind) (parameters : List ℕ) (values : List Expression) → CarriesValues vs tables takes kind parameters values → CarriesValues ws tables takes kind parameters values
  carries (Schedule delay priority) parameters values c = carried parameters values c
  carries Urgent parameters values c = carried parameters values c
  carries CancelNext parameters values c = c
  carries CancelEqual parameters values c = carried parameters values c
  carries CancelAll parameters values c = c

  delay_keeps : (delay : Delay) → KeepsDelay vs tables takes delay → KeepsDelay ws tables takes delay
  delay_keeps (Fixed e) k = has_kind vs rs e kinds.Range k
  delay_keeps (Drawn stream choice) k = source_keeps stream choice k

  timing : (kind : EdgeKind) → KeepsTiming vs tables takes kind → KeepsTiming ws tables takes kind
  timing (Schedule delay priority) t = (delay_keeps delay t.0, t.1, t.2)
  timing Urgent t = tt
  timing CancelNext t = tt
  timing CancelEqual t = tt
  timing CancelAll t = tt

  edge_keeps : (e : EventEdge) → KeepsEdge vs tables takes e → KeepsEdge ws tables takes e
  edge_keeps e k = record { parameters = k.parameters; target = k.target; carries = carries e.kind k.parameters e.values k.carries; timing = timing e.kind k.timing; condition = has_kind vs rs e.condition kinds.Truth k.condition }

  vertex_keeps : (v : EventVertex) → KeepsVertex vs tables takes v → KeepsVertex ws tables takes v
  vertex_keeps v k = record {
    name = k.name;
    parameters = every-map (IsParameter vs tables takes) (IsParameter ws tables takes) (λ p (kind, is). (kind, is_variable vs rs p false kind is)) v.parameters k.parameters;
    each_once = k.each_once;
    few_parameters = k.few_parameters;
    changes = every-map (KeepsChange vs tables takes) (KeepsChange ws tables takes) change_keeps v.changes k.changes;
    few_changes = k.few_changes;
    edges = every-map (KeepsEdge vs tables takes) (KeepsEdge ws tables takes) edge_keeps v.edges k.edges;
    few_edges = k.few_edges;
  }

-- ---- the model

module _ (g : EventGraph) (ranges : List VarRange) (fitting : Fitting g ranges) (begins : (v : ℕ) → v < length g.variables → LiesIn (range_at ranges v) (variable_at g v).initial) where
  abbrev h : EventGraph
  h = model_with_ranges g ranges

  many : length h.variables ≡ length g.variables
  many = as_many_variables g.variables ranges

  declarable : (k : ℕ) → k < length g.variables → DeclarableRange (variable_at g k) (range_at ranges k)
  declarable k small =
      let f = fitting.each k small in
      record { ordered = f.ordered; inside = f.inside; begins = begins k small; truth = λ is. f.fixed (truth_fixed g k is) }

  parts_keep : KeepsParts g → KeepsParts h
  parts_keep k = record {
    name = k.name;
    declared_once = subst (λ (ns : List (List ℕ)). IsDistinct same_bytes (ns ++ map (λ (t : WeightTable). t.name) g.tables ++ map (λ (v : EventVertex). v.name) g.vertices)) (names_same g.variables ranges) k.declared_once;
    variables = each_ranged KeepsVariable KeepsVariable variable_keeps g.variables ranges fitting.as_many declarable k.variables;
    few_variables = subst (λ (n : ℕ). n ≤ VARIABLES_MAX) (sym many) k.few_variables;
    tables = k.tables;
    few_tables = k.few_tables;
    watch = subst (λ (n : ℕ). AllByRecursion (IsWatchable n (length g.vertices)) g.watch) (sym many) k.watch;
    watched_once = subst (λ (n : ℕ). IsDistinct nat_eq (map (watch_number n) g.watch)) (sym many) k.watched_once;
    vertices = every-map (KeepsVertex g.variables (length g.tables) (parameters_of g)) (KeepsVertex h.variables (length g.tables) (parameters_of g)) (vertex_keeps g.variables ranges (length g.tables) (parameters_of g)) g.vertices k.vertices;
    few_vertices = k.few_vertices;
  }

  pub narrowed_rules : KeepsStaticRules g → length (canonical h) ≤ TEXT_MAX → KeepsStaticRules h
  narrowed_rules k short = record { parts = parts_keep k.parts; few_cells = subst (λ (n : ℕ). n ≤ CELLS_MAX) (cells_same g.variables ranges) k.few_cells; short = short }

  extent_same : extent g ≡ extent h
  extent_same = ap (λ (n : ℕ). let x : Extent = record { variables = n; tables = length g.tables; vertices = length g.vertices } in x) (sym many)

  pub narrowed_spellable : KeepsParts g → IsSpellable g → IsSpellable h
  narrowed_spellable k s = record {
    name = s.name;
    variables = each_ranged (λ v. KeepsVariable v × SpellableVariable v) SpellableVariable (λ v r declarable both. variable_written v r declarable both.0 both.1) g.variables ranges fitting.as_many declarable (every-both KeepsVariable SpellableVariable (λ v. KeepsVariable v × SpellableVariable v) (λ v keeps written. (keeps, written)) g.variables k.variables s.variables);
    tables = s.tables;
    watch = subst (λ (x : Extent). AllByRecursion (SpellableWatched x) g.watch) extent_same s.watch;
    has_vertex = s.has_vertex;
    vertices = subst (λ (x : Extent). AllByRecursion (SpellableVertex x) g.vertices) extent_same s.vertices;
  }
