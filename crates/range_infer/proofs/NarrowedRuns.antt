-- Runs of a model and of the same with inductive ranges declared are the same, in lock step with each moment as it is, and stay within
-- these ranges.
use Rattle.std.proofs.Common.{◌≡◌, inl, inr, ℕ, ◌≤◌, ◌^◌, ℤ, true, IsTrue, List, [], ◌∷◌, map, zip, Some, None, Ok, refl, sym, ◌∙◌, ap, ap₂, subst, le_trans}
use Rattle.std.proofs.lemmas.List.{map-id}
use Rattle.std.specs.Prelude.{replicate}
use Rattle.std.specs.List.{AllByRecursion}
use Rattle.model_core.specs.EventGraph.{EventGraph, EventVertex, EventEdge, StateChange, Watched, WatchedVariable, WatchedVertex}
use Rattle.model_core.specs.Run.State.{State, scalar, variable_at, in_range}
use Rattle.model_core.specs.Run.Value.{OrFault, in_turn}
use Rattle.model_core.specs.Run.Changes.{ChangeState, make_change}
use Rattle.model_core.specs.Run.Pending.{Entry, EntryAndRest, next_entry}
use Rattle.model_core.specs.Run.Edges.{EdgeState, treat_edge}
use Rattle.model_core.specs.Run.Step.{Configuration, vertex_at, receive, occur}
use Rattle.model_core.specs.Run.Machine.{Note, Goes, Reached}
use Rattle.model_core.specs.Run.History.{Moment, next_move, start, reached_from}
use Rattle.model_core.specs.Run.Same.{Same, watched_name_of, VariableNamed, Parameter, parameter}
use Rattle.model_core.specs.Static.OwnRules.{KeepsParts}
use Rattle.model_core.proofs.Alongside.{Alongside, both_go, both_fail, alongside-equal, alongside-known, bind-alongside, in_turn-alongside}
use Rattle.model_core.proofs.Among.{Among}
use Rattle.run_laws.proofs.InRange.{in_range-kept, runs_keep_range}
use Rattle.run_laws.proofs.Keeping.{received, faulted-ok}
use Rattle.run_laws.proofs.GoingMoves.{move-by, reached-keeps}
use Rattle.run_laws.proofs.MappedPending.{taken_off_mapped, next_among-every}
use Rattle.run_laws.proofs.EdgesAlike.{unchanged, entries_in_order-unchanged, configuration-unchanged}
use Rattle.run_laws.proofs.LockStep.{configuration_mapped, Follows, follows-looks}
use Rattle.bound_laws.proofs.BeginsInRange.{kept_models_begin_in_range}
use Rattle.model_core.specs.declared.var_range.VarRange.{VarRange}
use Rattle.model_core.specs.Ranges.OtherRanges.{with_range, model_with_ranges}
use Rattle.model_core.specs.Ranges.Inductive.{is_fixed, Fitting, Inductive}
use Rattle.range_infer.proofs.ModelWithRanges.{same_but_range, range_given, same_start}
use Rattle.range_infer.proofs.NarrowModels.{fits_everywhere, parameter_fixed, begins_in_range, ChangeInRanges, EdgeInRanges, VertexInRanges, vertices_in_ranges}
use Rattle.range_infer.proofs.SameStores.{StoreFits, same_stores, fixed_fits}
use Rattle.range_infer.proofs.SameChanges.{same_change}
use Rattle.range_infer.proofs.SameEdges.{EntryFits, PlannedFits, same_edge, edge_fits}

-- at each moment that a run reaches the values lie within the declared ranges
pub stays_declared : (g : EventGraph) → KeepsParts g → (seed until n : ℕ) (starts : List ℤ) (r : Reached Moment) → reached_from g seed until n (start g starts) ≡ Some r → IsTrue (in_range g r.moment.now.state)
stays_declared g keeps seed until n starts r there =
    reached-keeps (next_move g seed until) (λ k m. IsTrue (in_range g m.now.state)) (λ k m later notes inside goes. runs_keep_range g seed until m later notes inside goes) n 0 (start g starts) r (kept_models_begin_in_range g keeps) there

-- one value, of which a fact holds
abbrev OneAnd : {S : Type 0} → (S → Type 0) → S → S → Type 0
OneAnd Q s t = (s ≡ t) × Q s

one-and : {S : Type 0} (Q : S → Type 0) {r q : OrFault S} → r ≡ q → ((s : S) → r ≡ Ok s → Q s) → Alongside (OneAnd Q) r q
one-and {S} Q e in_ranges = alongside-known (λ (s t : S). s ≡ t) Q (alongside-equal (λ (s t : S). s ≡ t) (λ s. refl) e) in_ranges

module _ (g : EventGraph) (ranges : List VarRange) (keeps : KeepsParts g) (fitting : Fitting g ranges) (inductive : Inductive g ranges) where
  abbrev h : EventGraph
  h = model_with_ranges g ranges

  abbrev Fits : Entry → Type 0
  Fits = EntryFits g ranges fitting keeps

  -- the state lies within the ranges, and what is kept of the values of pending entries lies within them too
  pub record Sound (c : Configuration) : Type 0 where
    pub inside : IsTrue (in_range h c.state)
    pub pending : AllByRecursion Fits c.pending

  abbrev Inside : State → Type 0
  Inside s = IsTrue (in_range h s)

  receives : (k : ℕ) (values : List ℤ) → AllByRecursion (StoreFits g ranges fitting) (zip (map scalar (vertex_at g k).parameters) values) → (s : State) → Inside s → Alongside (OneAnd Inside) (receive g (vertex_at g k).parameters values s) (receive h (vertex_at g k).parameters values s)
  receives k values fits s inside =
      let same = same_stores g ranges fitting (zip (map scalar (vertex_at g k).parameters) values) fits s in
      one-and Inside same (λ t done. received h Inside (in_range-kept h) (vertex_at g k).parameters values s t inside (sym same ∙ done))

  abbrev DrawnInside : ChangeState → Type 0
  DrawnInside d = Inside d.state

  changes_made : (seed clk : ℕ) → clk ≤ 2 ^ 48 → (v : EventVertex) → VertexInRanges g ranges v → (d : ChangeState) → DrawnInside d → Alongside (OneAnd DrawnInside) (in_turn (make_change g seed clk) v.changes d) (in_turn (make_change h seed clk) v.changes d)
  changes_made seed clk early v in_ranges d inside =
      subst (λ (cs : List StateChange). Alongside (OneAnd DrawnInside) (in_turn (make_change g seed clk) v.changes d) (in_turn (make_change h seed clk) cs d)) (map-id v.changes)
      (in_turn-alongside (ChangeInRanges g ranges) (λ c. c) (OneAnd DrawnInside) (make_change g seed clk) (make_change h seed clk) (λ c in_ranges d d2 (one, inside).
      let same = same_change g ranges fitting keeps seed clk early c d inside in_ranges in
      subst (λ (d2 : ChangeState). Alongside (OneAnd DrawnInside) (make_change g seed clk c d) (make_change h seed clk c d2)) one
      (one-and DrawnInside same (λ e done. (in_range-kept h).by_change seed clk c d e inside (sym same ∙ done)))) v.changes in_ranges.changes d d (refl, inside))

  abbrev PlanFits : EdgeState → Type 0
  PlanFits = PlannedFits g ranges fitting keeps

  edges_treated : (seed clk : ℕ) → clk ≤ 2 ^ 48 → (v : EventVertex) → VertexInRanges g ranges v → (s : State) → Inside s → (p : EdgeState) → PlanFits p → Alongside (OneAnd PlanFits) (in_turn (treat_edge g seed s clk) v.edges p) (in_turn (treat_edge h seed s clk) v.edges p)
  edges_treated seed clk early v in_ranges s inside p fits =
      subst (λ (es : List EventEdge). Alongside (OneAnd PlanFits) (in_turn (treat_edge g seed s clk) v.edges p) (in_turn (treat_edge h seed s clk) es p)) (map-id v.edges)
      (in_turn-alongside (EdgeInRanges g ranges) (λ e. e) (OneAnd PlanFits) (treat_edge g seed s clk) (treat_edge h seed s clk) (λ e in_ranges p p2 (one, fits).
      subst (λ (p2 : EdgeState). Alongside (OneAnd PlanFits) (treat_edge g seed s clk e p) (treat_edge h seed s clk e p2)) one
      (one-and PlanFits (same_edge g ranges fitting keeps seed s clk e p) (λ q done. edge_fits g ranges fitting keeps s inside clk early seed e in_ranges p q fits done))) v.edges in_ranges.edges p p (refl, fits))

  occurs : (seed : ℕ) (n : EntryAndRest) → n.entry.time ≤ 2 ^ 48 → Fits n.entry → AllByRecursion Fits n.others → (s : State) (taken : List ℕ) → Inside s → Alongside (OneAnd Sound) (occur g seed (vertex_at g n.entry.vertex) n s taken) (occur h seed (vertex_at g n.entry.vertex) n s taken)
  occurs seed n due fit fits s taken inside =
      let v = vertex_at g n.entry.vertex in
      let in_ranges = vertices_in_ranges g ranges keeps inductive n.entry.vertex in
      let clk = n.entry.time in
      bind-alongside (OneAnd Inside) (OneAnd Sound) (receives n.entry.vertex n.entry.values fit s inside) _ _ (λ t t2 (one, in_t).
      bind-alongside (OneAnd DrawnInside) (OneAnd Sound) (subst (λ (t2 : State). Alongside (OneAnd DrawnInside) (in_turn (make_change g seed clk) v.changes (record { state = t; taken = taken })) (in_turn (make_change h seed clk) v.changes (record { state = t2; taken = taken }))) one (changes_made seed clk due v in_ranges (record { state = t; taken = taken }) in_t)) _ _ (λ d d2 (one, in_d).
      bind-alongside (OneAnd PlanFits) (OneAnd Sound) (subst (λ (d2 : ChangeState). Alongside (OneAnd PlanFits) (in_turn (treat_edge g seed d.state clk) v.edges (record { pending = n.others; taken = d.taken })) (in_turn (treat_edge h seed d2.state clk) v.edges (record { pending = n.others; taken = d2.taken }))) one (edges_treated seed clk due v in_ranges d.state in_d (record { pending = n.others; taken = d.taken }) fits)) _ _ (λ p p2 (same, fit).
      both_go (ap₂ (λ (d : ChangeState) (p : EdgeState). record { clock = clk; state = d.state; taken = p.taken; pending = p.pending }) one same, record { inside = in_d; pending = fit }))))

  -- ---- each step is followed

  abbrev Mapped : Configuration → Configuration → Type 0
  Mapped c d = (configuration_mapped (λ s. s) (λ words. words) unchanged c ≡ d) × Sound c

  as_mapped : {r q : OrFault Configuration} → Alongside (OneAnd Sound) r q → Alongside Mapped r q
  as_mapped (both_go {s = c} {t = d} (same, sound)) = both_go (configuration-unchanged c ∙ same, sound)
  as_mapped (both_fail k) = both_fail k

  steps_same : (seed : ℕ) (c : Configuration) (n : EntryAndRest) → Sound c → next_entry c.pending ≡ Some n → n.entry.time ≤ 2 ^ 48 → Alongside Mapped (occur g seed (vertex_at g n.entry.vertex) n c.state c.taken) (occur h seed (vertex_at h n.entry.vertex) (taken_off_mapped unchanged n) c.state c.taken)
  steps_same seed c n sound next due =
      let (fit, fits) = next_among-every Fits (λ e. true) c.pending sound.pending n next in
      subst (λ (m : EntryAndRest). Alongside Mapped (occur g seed (vertex_at g n.entry.vertex) n c.state c.taken) (occur h seed (vertex_at g n.entry.vertex) m c.state c.taken)) (sym (entries_in_order-unchanged n))
      (as_mapped (occurs seed n due fit fits c.state c.taken sound.inside))

  follows : (seed : ℕ) → Follows g h (λ s. s) (λ words. words) (λ v. v) (λ e. e.values) Sound seed
  follows seed = record {
    watched = λ s. refl;
    places = λ c n sound next. refl;
    steps = steps_same seed;
  }

  -- ---- as runs begin

  is_parameter : (v : ℕ) → Among v (vertex_at g 0).parameters → is_fixed g v ≡ true
  is_parameter v there = parameter_fixed g v there

  first_fits : (vs : List ℕ) → ((v : ℕ) → Among v vs → is_fixed g v ≡ true) → (values : List ℤ) → AllByRecursion (StoreFits g ranges fitting) (zip (map scalar vs) values)
  first_fits [] fixed values = tt
  first_fits (v ∷ vs) fixed [] = tt
  first_fits (v ∷ vs) fixed (x ∷ values) = (fixed_fits g ranges fitting (scalar v) x (fixed v (inl refl)), first_fits vs (λ w there. fixed w (inr there)) values)

  begins_sound : (starts : List ℤ) → Sound (start g starts).now
  begins_sound starts = record {
    inside = subst (λ (s : State). IsTrue (in_range h s)) (sym (same_start g ranges)) (begins_in_range g ranges fitting inductive);
    pending = (first_fits (vertex_at g 0).parameters is_parameter starts, tt);
  }

  begins_so : (starts : List ℤ) → record { now = configuration_mapped (λ s. s) (λ words. words) unchanged (start g starts).now; noted = None } ≡ start h starts
  begins_so starts = ap (λ (s : State). let m : Moment = record { now = record { clock = 0; state = s; taken = replicate 64 0; pending = record { time = 0; priority = 5; vertex = 0; values = starts } ∷ [] }; noted = None } in m) (same_start g ranges)

  -- ---- at each moment that a run reaches

  sound_after : {r q : OrFault Configuration} → Alongside (OneAnd Sound) r q → (c : Configuration) → r ≡ Ok c → Sound c
  sound_after (both_go {s = d} (same, sound)) c e = let one : d ≡ c = cc in subst Sound one sound
  sound_after (both_fail k) c e = cc

  moves_sound : (seed until : ℕ) → until ≤ 2 ^ 48 → (m later : Moment) (notes : List Note) → Sound m.now → next_move g seed until m ≡ Goes notes later → Sound later.now
  moves_sound seed until early m later notes sound goes =
      let (n, by) = move-by g seed until m notes later goes in
      let (fit, fits) = next_among-every Fits (λ e. true) m.now.pending sound.pending n by.due in
      sound_after (occurs seed n (le_trans by.soon early) fit fits m.now.state m.now.taken sound.inside) later.now (faulted-ok n.entry.time _ later.now by.steps)

  pub stays_inside : (seed until : ℕ) → until ≤ 2 ^ 48 → (n : ℕ) (starts : List ℤ) (r : Reached Moment) → reached_from g seed until n (start g starts) ≡ Some r → Inside r.moment.now.state
  stays_inside seed until early n starts r there =
      (reached-keeps (next_move g seed until) (λ k m. Sound m.now) (λ k m later notes sound goes. moves_sound seed until early m later notes sound goes) n 0 (start g starts) r (begins_sound starts) there).inside

  -- ---- what is seen

  thing_same : (w : Watched) → watched_name_of g w ≡ watched_name_of h w
  thing_same (WatchedVariable v) = ap VariableNamed (sym (same_but_range g.variables ranges v).name)
  thing_same (WatchedVertex v) = refl

  parameters_same : (vs : List ℕ) → ((v : ℕ) → Among v vs → is_fixed g v ≡ true) → map (λ v. parameter (variable_at g v)) vs ≡ map (λ v. parameter (variable_at h v)) vs
  parameters_same [] fixed = refl
  parameters_same (v ∷ vs) fixed =
      let as_declared = (fits_everywhere g ranges fitting v).fixed (fixed v (inl refl)) in
      let same : variable_at h v ≡ variable_at g v = range_given g.variables ranges fitting.as_many v ∙ ap (with_range (variable_at g v)) as_declared in
      ap₂ (λ (p : Parameter) (ps : List Parameter). p ∷ ps) (ap parameter (sym same)) (parameters_same vs (λ w there. fixed w (inr there)))

  pub narrowed-same : Same g h
  narrowed-same = record {
    watched = λ i. map (λ w. thing_same w i) g.watch;
    started = parameters_same (vertex_at g 0).parameters is_parameter;
    runs = λ seed fits starts allowed until early.
        follows-looks g h (λ s. s) (λ words. words) (λ v. v) (λ e. e.values) Sound seed (follows seed) until early starts (begins_so starts) (begins_sound starts);
  }
