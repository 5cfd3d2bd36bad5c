-- The events that a model's edges schedule are good to save.
use Rattle.std.proofs.Common.{◌≡◌, ℕ, zero, suc, ◌+◌, ◌-◌, ◌^◌, ◌<◌, ◌≤◌, ℤ, pos, negsuc, Bool, true, false, List, [], ◌∷◌, map, length, slice_index_or, Some, Ok, refl, sym, ap, ◌∙◌, subst, arith, IsTrue}
use Rattle.std.specs.Prelude.{slice_get}
use Rattle.std.specs.List.{AllByRecursion, AllZip}
use Rattle.std.proofs.lemmas.Int.{ints}
use Rattle.sig_base.specs.Stream.{word}
use Rattle.sig_base.proofs.Lists.{slice_index_or-all}
use Rattle.model_core.specs.declared.model.Kind.{Kind}
use Rattle.model_core.specs.declared.model.Kind.TheVariants as kinds
use Rattle.model_core.specs.EventGraph.{EventGraph, Variable, EventVertex, EventEdge, Delay, Fixed, Drawn, EdgeKind, Schedule, Urgent, CancelNext, CancelEqual, CancelAll, Choice, Uniform, ByTable, Expression, Weighted, WeightTable}
use Rattle.model_core.specs.Run.State.{State, variable_at, in_range}
use Rattle.model_core.specs.Run.Value.{each, value_of, number_of}
use Rattle.model_core.specs.Run.Changes.{no_table, taken_from, one_more, drawn_value}
use Rattle.model_core.specs.Run.Edges.{Waiting, delay_ticks, delay_of, carried_values}
use Rattle.model_core.specs.Run.Step.{no_vertex, vertex_at}
use Rattle.model_core.specs.Text.Spellable.{IsSigned, extent, SpellableExpression, SpellableDelay, SpellableKind, SpellableEdge, SpellableVertex, SpellableVariable, IsSpellable, HasWrittenRange}
use Rattle.model_core.specs.Static.HasKind.{HasKind}
use Rattle.model_core.specs.Static.OwnRules.{IsLiteral, FitsKind, KeepsVariable, KeepsRow, KeepsTable, KeepsChoice, CarriesValues, KeepsDelay, KeepsTiming, KeepsEdge, KeepsVertex, CarriedFitKinds, parameters_of, KeepsParts}
use Rattle.model_core.proofs.Results.{bind_ok}
use Rattle.model_core.proofs.EachOne.{every-both, every-map}
use Rattle.static_laws.proofs.StaticTwins.Zips.{zip_length}
use Rattle.model_core.specs.Rules.RangesHold.{TruthsAreDeclared, ZeroToOne}
use Rattle.run_laws.proofs.MadeEntries.{SchedulesOnly}
use Rattle.bound_laws.proofs.Soundness.DeclaredRanges.{declared_sound}
use Rattle.bound_laws.proofs.Soundness.DrawnValues.{word_small, choice_in}
use Rattle.model_core.specs.Saved.SavedRun.{IsWide, IsGoodEntry}
use Rattle.run_snapshot.proofs.WideValues.{WideRange, value-wide}

-- the image at a place
got-image : {A B : Type 0} (f : A → B) (xs : List A) (d : A) (k : ℕ) (y : B) → slice_get (map f xs) k ≡ Some y → (k < length xs) × (f (slice_index_or xs k d) ≡ y)
got-image f [] d k y e = cc
got-image f (x ∷ xs) d zero y e = (omega arith, cc)
got-image f (x ∷ xs) d (suc k) y e = let (below, same) = got-image f xs d k y e in (omega (arith, below), same)

signed-wide : (x : ℤ) → IsSigned x → IsWide x
signed-wide (pos n) s = record { least = omega (arith, ints); greatest = omega (arith, ints, s) }
signed-wide (negsuc n) s = record { least = omega (arith, ints, s); greatest = omega (arith, ints) }

literal-wide : (x : ℤ) → IsLiteral x → IsWide x
literal-wide x l = record { least = omega (arith, ints, l.least); greatest = omega (arith, ints, l.greatest) }

-- ---- ranges

written-wide : (v : Variable) (kind : Kind) → HasWrittenRange v kind → WideRange v
written-wide v kinds.Truth (lo, hi, clip) = record { lo = subst IsWide (sym lo) (signed-wide (pos 0) (omega arith)); hi = subst IsWide (sym hi) (signed-wide (pos 1) (omega arith)) }
written-wide v kinds.Range (lo, hi) = record { lo = signed-wide v.lo lo; hi = signed-wide v.hi hi }

pub ranges-wide : (g : EventGraph) → IsSpellable g → (v : ℕ) → WideRange (variable_at g v)
ranges-wide g spelled v =
    slice_index_or-all WideRange g.variables _ v (every-map SpellableVariable WideRange (λ v s. written-wide v v.kind s.range) g.variables spelled.variables) (record { lo = signed-wide (pos 0) (omega arith); hi = signed-wide (pos 0) (omega arith) })

truth-declared : (v : Variable) (kind : Kind) → FitsKind kind v → kind ≡ kinds.Truth → ZeroToOne v
truth-declared v kinds.Truth fits e = record { low = fits.least; high = fits.greatest }
truth-declared v kinds.Range fits e = cc

truths-declared : (g : EventGraph) → AllByRecursion KeepsVariable g.variables → TruthsAreDeclared g.variables
truths-declared g kept v =
    slice_index_or-all (λ (v : Variable). v.kind ≡ kinds.Truth → ZeroToOne v) g.variables _ v (every-map KeepsVariable _ (λ v k. truth-declared v v.kind k.range) g.variables kept) (λ e. cc)

-- ---- draws

rows-wide : (rows : List Weighted) → AllByRecursion KeepsRow rows → AllByRecursion IsWide (map (λ (r : Weighted). r.value) rows)
rows-wide [] kept = tt
rows-wide (r ∷ rows) (here, kept) = (literal-wide r.value here.value, rows-wide rows kept)

-- the value that a choice picks by a word of 32 bits
drawn_value-wide : (g : EventGraph) (choice : Choice) (w : ℕ) → AllByRecursion KeepsTable g.tables → KeepsChoice g.variables (length g.tables) (parameters_of g) choice → w < 2 ^ 32 → IsWide (drawn_value g choice w)
drawn_value-wide g (Uniform lo hi) w tables kept small =
    let within = choice_in g (Uniform lo hi) (length g.tables) (parameters_of g) w tables kept small in
    record { least = omega (arith, ints, kept.0.least, within.low); greatest = omega (arith, ints, kept.1.greatest, within.high) }
drawn_value-wide g (ByTable t) w tables kept small =
    slice_index_or-all IsWide (map (λ (r : Weighted). r.value) (slice_index_or g.tables t no_table).rows) (pos 0) _
    (slice_index_or-all (λ (table : WeightTable). AllByRecursion IsWide (map (λ (r : Weighted). r.value) table.rows)) g.tables no_table t (every-map KeepsTable _ (λ table kept. rows-wide table.rows kept.rows) g.tables tables) tt)
    (signed-wide (pos 0) (omega arith))

-- ---- values

number-wide : (b : Bool) → IsWide (number_of b)
number-wide true = signed-wide (pos 1) (omega arith)
number-wide false = signed-wide (pos 0) (omega arith)

module _ (g : EventGraph) (parts : KeepsParts g) (spelled : IsSpellable g) (seed : ℕ) (s : State) (clk : ℕ) (early : clk ≤ 2 ^ 48) (inside : IsTrue (in_range g s)) where
  of-kind-wide : (kind : Kind) (n : ℕ) (e : Expression) (x : ℤ) → HasKind g.variables e kind → SpellableExpression n e → value_of g s clk e ≡ Ok x → IsWide x
  of-kind-wide kinds.Truth n e x is fits done =
      let holds = (declared_sound g s clk e kinds.Truth early inside (truths-declared g parts.variables) is).inside x done in
      subst IsWide (sym holds.value) (number-wide holds.truth)
  of-kind-wide kinds.Range n e x is fits done = value-wide g s clk early inside (ranges-wide g spelled) n e x is fits done

  each-wide : (n : ℕ) (es : List Expression) (ks : List Kind) (xs : List ℤ) → AllZip (HasKind g.variables) es ks → AllByRecursion (SpellableExpression n) es → each (value_of g s clk) es ≡ Ok xs → (length xs ≡ length es) × AllByRecursion IsWide xs
  each-wide n [] [] xs kinds fits done = let same : [] ≡ xs = cc in subst (λ (xs : List ℤ). (length xs ≡ 0) × AllByRecursion IsWide xs) same (refl, tt)
  each-wide n [] (k ∷ ks) xs kinds fits done = absurd kinds
  each-wide n (e ∷ es) [] xs kinds fits done = absurd kinds
  each-wide n (e ∷ es) (k ∷ ks) xs (is, kinds) (here, fits) done =
      let (y, first, later) = bind_ok (value_of g s clk e) _ xs done in
      let (ys, others, at_end) = bind_ok (each (value_of g s clk) es) (λ ys. Ok (y ∷ ys)) xs later in
      let (long, wide) = each-wide n es ks ys kinds fits others in
      let same : y ∷ ys ≡ xs = cc in
      subst (λ (xs : List ℤ). (length xs ≡ suc (length es)) × AllByRecursion IsWide xs) same (ap suc long, (of-kind-wide k n e y is here first, wide))

  -- ---- edges

  ticks-near : (x : ℤ) (n : ℕ) → IsWide x → delay_ticks x ≡ Ok n → n ≤ 2 ^ 63 - 1
  ticks-near (pos k) n w e = let same : k ≡ n = cc in omega (arith, ints, w.greatest, same)
  ticks-near (negsuc k) n w e = cc

  delay-near : (delay : Delay) (taken : List ℕ) (wait : Waiting) → KeepsDelay g.variables (length g.tables) (parameters_of g) delay → SpellableDelay (extent g) delay → delay_of g seed s clk delay taken ≡ Ok wait → wait.ticks ≤ 2 ^ 63 - 1
  delay-near (Fixed e) taken wait is fits done =
      let (x, at_value, later) = bind_ok (value_of g s clk e) _ wait done in
      let (ticks, at_ticks, at_end) = bind_ok (delay_ticks x) (λ n. Ok (record { ticks = n; taken = taken })) wait later in
      let same : ticks ≡ wait.ticks = cc in
      subst (λ (n : ℕ). n ≤ 2 ^ 63 - 1) same (ticks-near x ticks (of-kind-wide kinds.Range (length g.variables) e x is fits at_value) at_ticks)
  delay-near (Drawn stream choice) taken wait is fits done =
      let w = word seed stream (taken_from taken stream) in
      let (ticks, at_ticks, at_end) = bind_ok (delay_ticks (drawn_value g choice w)) (λ n. Ok (record { ticks = n; taken = one_more taken stream })) wait done in
      let same : ticks ≡ wait.ticks = cc in
      subst (λ (n : ℕ). n ≤ 2 ^ 63 - 1) same (ticks-near (drawn_value g choice w) ticks (drawn_value-wide g choice w parts.tables is.1 (word_small seed stream (taken_from taken stream))) at_ticks)

  -- an event of this vertex, scheduled now or soon
  made-good : (e : EventEdge) (parameters : List ℕ) (ticks priority : ℕ) (values : List ℤ) → slice_get (parameters_of g) e.target ≡ Some parameters → ticks ≤ 2 ^ 63 - 1 → priority ≤ 255 → CarriedFitKinds g.variables (length g.tables) (parameters_of g) parameters e.values → AllByRecursion (SpellableExpression (length g.variables)) e.values → carried_values g s clk e ≡ Ok values
      → IsGoodEntry g clk (record { time = clk + ticks; priority = priority; vertex = e.target; values = values })
  made-good e parameters ticks priority values target near low carries fits at_values =
      let (there, same) = got-image (λ (v : EventVertex). v.parameters) g.vertices no_vertex e.target parameters target in
      let (long, wide) = each-wide (length g.variables) e.values carries.kinds values carries.given fits at_values in
      let as_many : length e.values ≡ length parameters = zip_length _ e.values carries.kinds carries.given ∙ sym (zip_length _ parameters carries.kinds carries.taken) in
      record {
        from_now = omega arith;
        near = omega (arith, near);
        priority = low;
        vertex = there;
        matched = long ∙ as_many ∙ ap length (sym same);
        wide = wide;
      }

  kind-good : (e : EventEdge) (kind : EdgeKind) (parameters : List ℕ) → slice_get (parameters_of g) e.target ≡ Some parameters → CarriesValues g.variables (length g.tables) (parameters_of g) kind parameters e.values → KeepsTiming g.variables (length g.tables) (parameters_of g) kind → SpellableKind (extent g) kind → AllByRecursion (SpellableExpression (length g.variables)) e.values
      → SchedulesOnly (IsGoodEntry g clk) g seed s clk e kind
  kind-good e (Schedule delay priority) parameters target carries timing written fits =
      λ taken wait values at_delay at_values. made-good e parameters wait.ticks priority values target (delay-near delay taken wait timing.0 written.0 at_delay) timing.2 carries fits at_values
  kind-good e Urgent parameters target carries timing written fits =
      λ values at_values. subst (λ (t : ℕ). IsGoodEntry g clk (record { time = t; priority = 0; vertex = e.target; values = values })) (omega arith) (made-good e parameters 0 0 values target (omega arith) (omega arith) carries fits at_values)
  kind-good e CancelNext parameters target carries timing written fits = tt
  kind-good e CancelEqual parameters target carries timing written fits = tt
  kind-good e CancelAll parameters target carries timing written fits = tt

  edge-good : (e : EventEdge) → KeepsEdge g.variables (length g.tables) (parameters_of g) e → SpellableEdge (extent g) e → SchedulesOnly (IsGoodEntry g clk) g seed s clk e e.kind
  edge-good e kept written = kind-good e e.kind kept.parameters kept.target kept.carries kept.timing written.kind written.values

  -- every edge of a vertex schedules such events only
  pub edges-good : (k : ℕ) → AllByRecursion (λ e. SchedulesOnly (IsGoodEntry g clk) g seed s clk e e.kind) (vertex_at g k).edges
  edges-good k =
      every-both (KeepsEdge g.variables (length g.tables) (parameters_of g)) (SpellableEdge (extent g)) _ edge-good (vertex_at g k).edges
      (slice_index_or-all (λ (v : EventVertex). AllByRecursion (KeepsEdge g.variables (length g.tables) (parameters_of g)) v.edges) g.vertices _ k (every-map (KeepsVertex g.variables (length g.tables) (parameters_of g)) _ (λ v kept. kept.edges) g.vertices parts.vertices) tt)
      (slice_index_or-all (λ (v : EventVertex). AllByRecursion (SpellableEdge (extent g)) v.edges) g.vertices _ k (every-map (SpellableVertex (extent g)) _ (λ v written. written.edges) g.vertices spelled.vertices) tt)
