-- The trees of edges follow a run: they have its effects and take its words, or the first check that fails is the fault.
use Rattle.std.proofs.Common.{◌≡◌, ℕ, ◌+◌, ℤ, pos, Bool, true, false, cond, List, [], ◌∷◌, ◌++◌, map, Some, Ok, Err, ◌⊎◌, inl, inr, refl, sym, ap, ap₂, ◌∙◌, subst, arith}
use Rattle.std.specs.List.{AllByRecursion}
use Rattle.sig_base.specs.declared.fault.FaultKind.{FaultKind}
use Rattle.model_core.specs.EventGraph.{EventGraph, EventEdge, EdgeKind, Schedule, Urgent, CancelNext, CancelEqual, CancelAll, Fixed, Drawn}
use Rattle.model_core.specs.Run.State.{State}
use Rattle.model_core.specs.Run.Value.{OrFault, is_one, value_of}
use Rattle.model_core.specs.Run.Value as run
use Rattle.model_core.specs.Run.Changes.{one_more}
use Rattle.model_core.specs.Run.Edges.{delay_of, carried_values}
use Rattle.tree_laws.specs.SumValues.{Valuation}
use Rattle.tree_laws.specs.SumEnds.{Ground}
use Rattle.tree_laws.specs.Meaning.{Meets}
use Rattle.tree_laws.specs.Trees.{CaseTree, tree_value}
use Rattle.tree_laws.specs.TreeConditions.{number_tree, is_zero_tree}
use Rattle.tree_laws.specs.Valued.{Noted, Valued, SoFar, valued}
use Rattle.tree_laws.specs.ChecksHold.{Fine, FailedIn}
use Rattle.tree_laws.specs.ValuesAgree.{Agrees, TruthsWhereAsked}
use Rattle.tree_laws.proofs.Gives.{Gives, gives_some, then_gives, gives_weaker}
use Rattle.tree_laws.proofs.ConditionTrees.{constant-value, is_zero-value}
use Rattle.tree_laws.proofs.NotedChecks.{skip}
use Rattle.tree_laws.proofs.StoppedTrees.{expression-stopped}
use Rattle.pair_laws.specs.Effects.{Effect, Appends, EffectsAndTaken, acting, edge_effects, edges_effects}
use Rattle.pair_laws.specs.Exchanges.{effects_made}
use Rattle.pair_laws.specs.EdgesNow.{FormNow, Schedules, TakesNext, TakesEqual, TakesAll, EdgeNow, effect_as, effect_at}
use Rattle.event_laws.specs.Making.{WordTaken, TreesMade, with_words}
use Rattle.event_laws.specs.ChangesMade.{always, all_valued}
use Rattle.event_laws.specs.EdgesFit.{KindFits, EdgeFits}
use Rattle.event_laws.specs.EdgesMade.{EdgeTrees, DelayMade, EdgesMade, delay_made, edge_with, edge_bare, at_once, edge_of_kind, edge_made, edges_made, ticks_of, edge_now}
use Rattle.event_laws.specs.WordsAre.{taken_after, WordsAre}
use Rattle.event_laws.proofs.ReachedTogether.{Reaches, reach, reach_known, HasValue}
use Rattle.event_laws.proofs.ListsValued.{HaveValues, expression-reached, all-stopped, all-idle, all-reached}
use Rattle.event_laws.proofs.WordsMeet.{words-meet}
use Rattle.event_laws.proofs.ChangesFollow.{bind_some}
use Rattle.event_laws.proofs.DelaysFollow.{words_of_delay, IsWaiting, delay-words, delay-stopped, delay-idle, delay-reached}

-- the words after an edge of this kind
abbrev pub words_of_kind : CaseTree → EdgeKind → List WordTaken → List WordTaken
words_of_kind guard (Schedule delay priority) words = words_of_delay guard delay words
words_of_kind guard kind words = words

module _ (v : Valuation) (g : EventGraph) (base : Ground) (so_far : SoFar) (seed : ℕ) (taken : List ℕ) (meets : Meets (with_words g base []) v) where
  -- ---- a check that failed stays the first that fails

  edge_with-stopped : (f : FaultKind) (form : FormNow) (guard : CaseTree) (e : EventEdge) (d : DelayMade) → WordsAre v g seed taken d.words → FailedIn v f d.noted → Gives (edge_with g base so_far form guard e d) (λ (w : EdgesMade). FailedIn v f w.noted)
  edge_with-stopped f form guard e d are failed =
      then_gives (λ (w : TreesMade). FailedIn v f w.noted) (λ (w : EdgesMade). FailedIn v f w.noted) (all_valued g (with_words g base d.words) so_far guard e.values d.noted) _ (all-stopped v _ (words-meet v g base meets seed taken d.words are) g so_far f e.values guard d.noted failed)
      (λ ws failed. gives_some _ _ failed)

  -- ---- values

  module _ (s : State) (clk : ℕ) (agrees : Agrees v g s clk so_far) (guard : CaseTree) (e : EventEdge) (asks : AllByRecursion (TruthsWhereAsked g s clk) e.values) where
    edge_with-idle : (form : FormNow) (d : DelayMade) → WordsAre v g seed taken d.words → Fine v d.noted → tree_value v guard ≡ pos 0
        → Gives (edge_with g base so_far form guard e d) (λ (w : EdgesMade). Fine v w.noted × ((effects_made (map (λ t. effect_at clk (edge_now v t)) w.edges) ≡ []) × (w.words ≡ d.words)))
    edge_with-idle form d are fine zero =
        let Q : EdgesMade → Type 0 = λ w. Fine v w.noted × ((effects_made (map (λ t. effect_at clk (edge_now v t)) w.edges) ≡ []) × (w.words ≡ d.words)) in
        then_gives (λ (w : TreesMade). Fine v w.noted) Q (all_valued g (with_words g base d.words) so_far guard e.values d.noted) _ (all-idle v _ (words-meet v g base meets seed taken d.words are) g s clk so_far agrees e.values asks guard d.noted fine zero)
        (λ ws fine. gives_some Q _ (fine, (none form d.tree ws.trees, refl))) where
          none : (form : FormNow) (delay : CaseTree) (values : List CaseTree) → effects_made (effect_at clk (edge_now v (record { form = form; target = e.target; condition = guard; delay = delay; values = values })) ∷ []) ≡ []
          none form delay values = ap (λ x. cond (is_one x) (effect_as clk (edge_now v (record { form = form; target = e.target; condition = guard; delay = delay; values = values })) form ∷ []) []) zero

    -- ---- where the condition is true

    -- the effects and the words of a run, beside the edges that are made
    abbrev pub HasEffects : EffectsAndTaken → EdgesMade → Type 0
    HasEffects ea w = (ea.effects ≡ effects_made (map (λ t. effect_at clk (edge_now v t)) w.edges)) × (ea.taken ≡ taken_after v taken w.words)

    -- the edge at this moment
    abbrev edge_at : FormNow → Bool → ℕ → List ℤ → EdgeNow
    edge_at form holds delay xs = record { holds = holds; form = form; target = e.target; delay = delay; values = xs }

    one_effect : (form : FormNow) (h : Bool) (dl k : ℕ) (ys xs : List ℤ) → h ≡ true → dl ≡ k → ys ≡ xs → effect_as clk (edge_at form true k xs) form ∷ [] ≡ cond h (effect_as clk (edge_at form h dl ys) form ∷ []) []
    one_effect form h dl k ys xs holds delay values =
        sym (ap (λ h. cond h (effect_as clk (edge_at form h dl ys) form ∷ []) []) holds ∙ ap (λ d. effect_as clk (edge_at form true d ys) form ∷ []) delay ∙ ap (λ zs. effect_as clk (edge_at form true k zs) form ∷ []) values)

    edge_with-reached : (form : FormNow) (d : DelayMade) → WordsAre v g seed taken d.words → Fine v d.noted → tree_value v guard ≡ pos 1 → (k : ℕ) → tree_value v d.tree ≡ pos k → (now : List ℕ) → now ≡ taken_after v taken d.words
        → Gives (edge_with g base so_far form guard e d) (Reaches v (λ (w : EdgesMade). w.noted) HasEffects (run.◌>>=◌ (carried_values g s clk e) (λ xs. Ok (record { effects = effect_as clk (edge_at form true k xs) form ∷ []; taken = now }))))
    edge_with-reached form d are fine one k is now counted =
        let meet = words-meet v g base meets seed taken d.words are in
        reach v (λ (w : TreesMade). w.noted) (λ (w : EdgesMade). w.noted) (HaveValues v _ meet g s clk so_far agrees) HasEffects (all_valued g (with_words g base d.words) so_far guard e.values d.noted) _ (carried_values g s clk e) _
        (all-reached v _ meet g s clk so_far agrees e.values asks guard d.noted fine one)
        (λ ws f failed. gives_some _ _ failed)
        (λ ws xs at_xs fine are_xs. gives_some _ _ (fine, (one_effect form (is_one (tree_value v guard)) (ticks_of (tree_value v d.tree)) k (map (tree_value v) ws.trees) xs (ap is_one one) (ap ticks_of is) are_xs, counted)))

    edge_bare-reached : (form : FormNow) (d : DelayMade) → Fine v d.noted → tree_value v guard ≡ pos 1 → (k : ℕ) → tree_value v d.tree ≡ pos k → (now : List ℕ) → now ≡ taken_after v taken d.words
        → Gives (edge_bare g base so_far form guard e d) (Reaches v (λ (w : EdgesMade). w.noted) HasEffects (Ok (record { effects = effect_as clk (edge_at form true k []) form ∷ []; taken = now })))
    edge_bare-reached form d fine one k is now counted =
        gives_some _ _ (fine, (one_effect form (is_one (tree_value v guard)) (ticks_of (tree_value v d.tree)) k [] [] (ap is_one one) (ap ticks_of is) refl, counted))

    edge_bare-idle : (form : FormNow) (d : DelayMade) → Fine v d.noted → tree_value v guard ≡ pos 0
        → Gives (edge_bare g base so_far form guard e d) (λ (w : EdgesMade). Fine v w.noted × ((effects_made (map (λ t. effect_at clk (edge_now v t)) w.edges) ≡ []) × (w.words ≡ d.words)))
    edge_bare-idle form d fine zero =
        gives_some _ _ (fine, (ap (λ x. cond (is_one x) (effect_as clk (edge_at form (is_one (tree_value v guard)) (ticks_of (tree_value v d.tree)) []) form ∷ []) []) zero, refl))

    at_zero : tree_value v (number_tree (pos 0)) ≡ pos 0
    at_zero = constant-value v (with_words g base []) meets (pos 0)

    -- ---- by kinds

    pub kind-reached : (kind : EdgeKind) → KindFits g s clk kind → (words : List WordTaken) → WordsAre v g seed taken words → WordsAre v g seed taken (words_of_kind guard kind words) → (now : List ℕ) → now ≡ taken_after v taken words
        → (n : Noted) → Fine v n → tree_value v guard ≡ pos 1 → Gives (edge_of_kind g base so_far guard e kind n words) (Reaches v (λ (w : EdgesMade). w.noted) HasEffects (acting g seed s clk e kind now))
    unfolding edge_of_kind
    kind-reached (Schedule delay priority) fits words before are now counted n fine one =
        reach_known v (λ (d : DelayMade). d.words ≡ words_of_delay guard delay words) (λ (d : DelayMade). d.noted) (λ (w : EdgesMade). w.noted) (IsWaiting v g base so_far seed taken meets guard words s clk agrees delay) HasEffects (delay_made g base so_far guard delay n words) _ (delay_of g seed s clk delay now) _
        (delay-words v g base so_far guard words delay n)
        (delay-reached v g base so_far seed taken meets guard words s clk agrees delay fits are now counted n fine one)
        (λ d f same failed. edge_with-stopped f (Schedules priority) guard e d (subst (WordsAre v g seed taken) (sym same) are) failed)
        (λ d wait same fine (is, (taken_so, also)). edge_with-reached (Schedules priority) d (subst (WordsAre v g seed taken) (sym same) are) fine one wait.ticks is wait.taken taken_so)
    kind-reached Urgent fits words before are now counted n fine one =
        let whole : clk + 0 ≡ clk = omega arith in
        subst (λ t. Gives (edge_with g base so_far (Schedules 0) guard e (at_once g base so_far n words)) (Reaches v (λ (w : EdgesMade). w.noted) HasEffects (run.◌>>=◌ (carried_values g s clk e) (λ xs. Ok (record { effects = Appends (record { time = t; priority = 0; vertex = e.target; values = xs }) ∷ []; taken = now }))))) whole
        (edge_with-reached (Schedules 0) (at_once g base so_far n words) before fine one 0 at_zero now counted)
    kind-reached CancelNext fits words before are now counted n fine one = edge_bare-reached TakesNext (at_once g base so_far n words) fine one 0 at_zero now counted
    kind-reached CancelEqual fits words before are now counted n fine one = edge_with-reached TakesEqual (at_once g base so_far n words) before fine one 0 at_zero now counted
    kind-reached CancelAll fits words before are now counted n fine one = edge_bare-reached TakesAll (at_once g base so_far n words) fine one 0 at_zero now counted

    -- a word whose guard is 0 isn't taken
    untaken : (kind : EdgeKind) (words : List WordTaken) → tree_value v guard ≡ pos 0 → taken_after v taken (words_of_kind guard kind words) ≡ taken_after v taken words
    untaken (Schedule (Fixed i) priority) words zero = refl
    untaken (Schedule (Drawn stream choice) priority) words zero = ap (λ x. cond (is_one x) (one_more (taken_after v taken words) stream) (taken_after v taken words)) zero
    untaken Urgent words zero = refl
    untaken CancelNext words zero = refl
    untaken CancelEqual words zero = refl
    untaken CancelAll words zero = refl

    -- where the condition is false nothing is done, and all checks pass
    abbrev pub IsIdle : List WordTaken → EdgesMade → Type 0
    IsIdle words w = Fine v w.noted × ((effects_made (map (λ t. effect_at clk (edge_now v t)) w.edges) ≡ []) × (w.words ≡ words))

    pub kind-idle : (kind : EdgeKind) → KindFits g s clk kind → (words : List WordTaken) → WordsAre v g seed taken words → WordsAre v g seed taken (words_of_kind guard kind words)
        → (n : Noted) → Fine v n → tree_value v guard ≡ pos 0 → Gives (edge_of_kind g base so_far guard e kind n words) (IsIdle (words_of_kind guard kind words))
    unfolding edge_of_kind
    kind-idle (Schedule delay priority) fits words before are n fine zero =
        then_gives (λ (d : DelayMade). Fine v d.noted × (d.words ≡ words_of_delay guard delay words)) (IsIdle (words_of_delay guard delay words)) (delay_made g base so_far guard delay n words) _ (delay-idle v g base so_far seed taken meets guard words s clk agrees delay fits are n fine zero)
        (λ d (fine, same). gives_weaker (IsIdle (words_of_delay guard delay words)) _ (edge_with-idle (Schedules priority) d (subst (WordsAre v g seed taken) (sym same) are) fine zero) (λ w (fine, (none, also)). (fine, (none, also ∙ same))))
    kind-idle Urgent fits words before are n fine zero = edge_with-idle (Schedules 0) (at_once g base so_far n words) before fine zero
    kind-idle CancelNext fits words before are n fine zero = edge_bare-idle TakesNext (at_once g base so_far n words) fine zero
    kind-idle CancelEqual fits words before are n fine zero = edge_with-idle TakesEqual (at_once g base so_far n words) before fine zero
    kind-idle CancelAll fits words before are n fine zero = edge_bare-idle TakesAll (at_once g base so_far n words) fine zero

  -- ---- edges whose condition isn't known

  kind-words : (guard : CaseTree) (e : EventEdge) (kind : EdgeKind) (n : Noted) (words : List WordTaken) → Gives (edge_of_kind g base so_far guard e kind n words) (λ (w : EdgesMade). w.words ≡ words_of_kind guard kind words)
  unfolding edge_of_kind
  kind-words guard e (Schedule delay priority) n words =
      then_gives (λ (d : DelayMade). d.words ≡ words_of_delay guard delay words) (λ (w : EdgesMade). w.words ≡ words_of_delay guard delay words) (delay_made g base so_far guard delay n words) _ (delay-words v g base so_far guard words delay n)
      (λ d same. skip (λ (w : EdgesMade). w.words ≡ words_of_delay guard delay words) (all_valued g (with_words g base d.words) so_far guard e.values d.noted) _ (λ ws. gives_some _ _ same))
  kind-words guard e Urgent n words = skip (λ (w : EdgesMade). w.words ≡ words) (all_valued g (with_words g base words) so_far guard e.values n) _ (λ ws. gives_some _ _ refl)
  kind-words guard e CancelNext n words = gives_some _ _ refl
  kind-words guard e CancelEqual n words = skip (λ (w : EdgesMade). w.words ≡ words) (all_valued g (with_words g base words) so_far guard e.values n) _ (λ ws. gives_some _ _ refl)
  kind-words guard e CancelAll n words = gives_some _ _ refl

  words_before_kind : (guard : CaseTree) (kind : EdgeKind) (words : List WordTaken) → WordsAre v g seed taken (words_of_kind guard kind words) → WordsAre v g seed taken words
  words_before_kind guard (Schedule (Fixed i) priority) words are = are
  words_before_kind guard (Schedule (Drawn stream choice) priority) words are = are.1
  words_before_kind guard Urgent words are = are
  words_before_kind guard CancelNext words are = are
  words_before_kind guard CancelEqual words are = are
  words_before_kind guard CancelAll words are = are

  kind-stopped : (f : FaultKind) (guard : CaseTree) (e : EventEdge) (kind : EdgeKind) (n : Noted) (words : List WordTaken) → WordsAre v g seed taken (words_of_kind guard kind words) → FailedIn v f n → Gives (edge_of_kind g base so_far guard e kind n words) (λ (w : EdgesMade). FailedIn v f w.noted)
  unfolding edge_of_kind
  kind-stopped f guard e (Schedule delay priority) n words are failed =
      then_gives (λ (d : DelayMade). (d.words ≡ words_of_delay guard delay words) × FailedIn v f d.noted) (λ (w : EdgesMade). FailedIn v f w.noted) (delay_made g base so_far guard delay n words) _
      (record { gives = λ d is. ((delay-words v g base so_far guard words delay n).gives d is, (delay-stopped v g base so_far seed taken meets guard words delay are f n failed).gives d is) })
      (λ d (same, failed). edge_with-stopped f (Schedules priority) guard e d (subst (WordsAre v g seed taken) (sym same) are) failed)
  kind-stopped f guard e Urgent n words are failed = edge_with-stopped f (Schedules 0) guard e (at_once g base so_far n words) are failed
  kind-stopped f guard e CancelNext n words are failed = gives_some _ _ failed
  kind-stopped f guard e CancelEqual n words are failed = edge_with-stopped f TakesEqual guard e (at_once g base so_far n words) are failed
  kind-stopped f guard e CancelAll n words are failed = gives_some _ _ failed

  -- an edge that is left out, or made by its kind
  abbrev FromCondition : EventEdge → List WordTaken → Valued → EdgesMade → Type 0
  FromCondition e words c w = ((is_zero_tree c.tree ≡ true) × (w ≡ record { edges = []; noted = c.noted; words = words })) ⊎ (edge_of_kind g base so_far c.tree e e.kind c.noted words ≡ Some w)

  from_condition : (e : EventEdge) (words : List WordTaken) (c : Valued) (w : EdgesMade) → cond (is_zero_tree c.tree) (Some (record { edges = []; noted = c.noted; words = words })) (edge_of_kind g base so_far c.tree e e.kind c.noted words) ≡ Some w → FromCondition e words c w
  from_condition e words c w made = by (is_zero_tree c.tree) refl made where
    by : (b : Bool) → is_zero_tree c.tree ≡ b → cond b (Some (record { edges = []; noted = c.noted; words = words })) (edge_of_kind g base so_far c.tree e e.kind c.noted words) ≡ Some w → FromCondition e words c w
    by true zero made = inl (zero, cc)
    by false other made = inr made

  edge-grows : (e : EventEdge) (n : Noted) (words : List WordTaken) (w : EdgesMade) → edge_made g base so_far e n words ≡ Some w → WordsAre v g seed taken w.words → WordsAre v g seed taken words
  unfolding edge_made
  edge-grows e n words w made are =
      let (c, at_c, rest) = bind_some (valued (with_words g base words) g so_far e.condition always n) _ w made in
      elim (from_condition e words c w rest) [
        | inl out ↦ subst (λ (w : EdgesMade). WordsAre v g seed taken w.words) out.1 are
        | inr made ↦ words_before_kind c.tree e.kind words (subst (WordsAre v g seed taken) ((kind-words c.tree e e.kind c.noted words).gives w made) are)
      ]

  edge-stopped : (f : FaultKind) (e : EventEdge) (n : Noted) (words : List WordTaken) (w : EdgesMade) → edge_made g base so_far e n words ≡ Some w → WordsAre v g seed taken w.words → FailedIn v f n → FailedIn v f w.noted
  unfolding edge_made
  edge-stopped f e n words w made are failed =
      let before = edge-grows e n words w made are in
      let (c, at_c, rest) = bind_some (valued (with_words g base words) g so_far e.condition always n) _ w made in
      let failed_c = (expression-stopped v _ (words-meet v g base meets seed taken words before) g so_far f e.condition always n failed).gives c at_c in
      elim (from_condition e words c w rest) [
        | inl out ↦ subst (λ (w : EdgesMade). FailedIn v f w.noted) (sym out.1) failed_c
        | inr made ↦ (kind-stopped f c.tree e e.kind c.noted words (subst (WordsAre v g seed taken) ((kind-words c.tree e e.kind c.noted words).gives w made) are) failed_c).gives w made
      ]

  pub edges-grow : (es : List EventEdge) (n : Noted) (words : List WordTaken) (w : EdgesMade) → edges_made g base so_far es n words ≡ Some w → WordsAre v g seed taken w.words → WordsAre v g seed taken words
  unfolding edges_made
  edges-grow [] n words w made are = let same : record { edges = []; noted = n; words = words } ≡ w = cc in subst (λ (w : EdgesMade). WordsAre v g seed taken w.words) (sym same) are
  edges-grow (e ∷ es) n words w made are =
      let (one, at_one, rest) = bind_some (edge_made g base so_far e n words) _ w made in
      let (more, at_more, last) = bind_some (edges_made g base so_far es one.noted one.words) _ w rest in
      let same : record { edges = one.edges ++ more.edges; noted = more.noted; words = more.words } ≡ w = cc in
      edge-grows e n words one at_one (edges-grow es one.noted one.words more at_more (subst (λ (w : EdgesMade). WordsAre v g seed taken w.words) (sym same) are))

  pub edges-stopped : (f : FaultKind) (es : List EventEdge) (n : Noted) (words : List WordTaken) (w : EdgesMade) → edges_made g base so_far es n words ≡ Some w → WordsAre v g seed taken w.words → FailedIn v f n → FailedIn v f w.noted
  unfolding edges_made
  edges-stopped f [] n words w made are failed = let same : record { edges = []; noted = n; words = words } ≡ w = cc in subst (λ (w : EdgesMade). FailedIn v f w.noted) same failed
  edges-stopped f (e ∷ es) n words w made are failed =
      let (one, at_one, rest) = bind_some (edge_made g base so_far e n words) _ w made in
      let (more, at_more, last) = bind_some (edges_made g base so_far es one.noted one.words) _ w rest in
      let same : record { edges = one.edges ++ more.edges; noted = more.noted; words = more.words } ≡ w = cc in
      let are_more = subst (λ (w : EdgesMade). WordsAre v g seed taken w.words) (sym same) are in
      subst (λ (w : EdgesMade). FailedIn v f w.noted) same
      (edges-stopped f es one.noted one.words more at_more are_more (edge-stopped f e n words one at_one (edges-grow es one.noted one.words more at_more are_more) failed))

  -- ---- the edges follow the run

  module _ (s : State) (clk : ℕ) (agrees : Agrees v g s clk so_far) where
    -- the effects and the words of a run, beside the edges that are made
    abbrev pub EffectsAre : EffectsAndTaken → EdgesMade → Type 0
    EffectsAre ea w = (ea.effects ≡ effects_made (map (λ t. effect_at clk (edge_now v t)) w.edges)) × (ea.taken ≡ taken_after v taken w.words)

    -- where the condition is false
    false_condition : (x : ℤ) → x ≡ pos 0 → is_one x ≡ false
    false_condition x e = ap is_one e

    true_condition : (x : ℤ) → x ≡ pos 1 → is_one x ≡ true
    true_condition x e = ap is_one e

    module _ (e : EventEdge) (fits : EdgeFits g s clk e) (now : List ℕ) (words : List WordTaken) (before : WordsAre v g seed taken words) (counted : now ≡ taken_after v taken words) where
      -- once the condition has a value
      by_value : (c : Valued) (w : EdgesMade) → FromCondition e words c w → WordsAre v g seed taken w.words → Fine v c.noted → (x : ℤ) → tree_value v c.tree ≡ x → (x ≡ pos 1) ⊎ (x ≡ pos 0)
          → Reaches v (λ (w : EdgesMade). w.noted) EffectsAre (cond (is_one x) (acting g seed s clk e e.kind now) (Ok (record { effects = []; taken = now }))) w
      by_value c w (inl (zero, out)) are fine x is truth =
          let none : x ≡ pos 0 = sym is ∙ is_zero-value v (with_words g base []) meets c.tree zero in
          subst (λ b. Reaches v (λ (w : EdgesMade). w.noted) EffectsAre (cond b (acting g seed s clk e e.kind now) (Ok (record { effects = []; taken = now }))) w) (sym (false_condition x none))
          (subst (λ (w : EdgesMade). Reaches v (λ (w : EdgesMade). w.noted) EffectsAre (Ok (record { effects = []; taken = now })) w) (sym out) (fine, (refl, counted)))
      by_value c w (inr made) are fine x is (inl one) =
          let after = subst (WordsAre v g seed taken) ((kind-words c.tree e e.kind c.noted words).gives w made) are in
          subst (λ b. Reaches v (λ (w : EdgesMade). w.noted) EffectsAre (cond b (acting g seed s clk e e.kind now) (Ok (record { effects = []; taken = now }))) w) (sym (true_condition x one))
          ((kind-reached s clk agrees c.tree e fits.values e.kind fits.kind words before after now counted c.noted fine (is ∙ one)).gives w made)
      by_value c w (inr made) are fine x is (inr none) =
          let after = subst (WordsAre v g seed taken) ((kind-words c.tree e e.kind c.noted words).gives w made) are in
          let (fine_w, (nothing, same)) = (kind-idle s clk agrees c.tree e fits.values e.kind fits.kind words before after c.noted fine (is ∙ none)).gives w made in
          subst (λ b. Reaches v (λ (w : EdgesMade). w.noted) EffectsAre (cond b (acting g seed s clk e e.kind now) (Ok (record { effects = []; taken = now }))) w) (sym (false_condition x none))
          (fine_w, (sym nothing, counted ∙ sym (untaken s clk agrees c.tree e fits.values e.kind words (is ∙ none)) ∙ ap (taken_after v taken) (sym same)))

      edge-follows : (n : Noted) (w : EdgesMade) → edge_made g base so_far e n words ≡ Some w → WordsAre v g seed taken w.words → Fine v n → Reaches v (λ (w : EdgesMade). w.noted) EffectsAre (edge_effects g seed s clk e now) w
      unfolding edge_made
      edge-follows n w made are fine =
          let (c, at_c, rest) = bind_some (valued (with_words g base words) g so_far e.condition always n) _ w made in
          let meet = words-meet v g base meets seed taken words before in
          by c rest (value_of g s clk e.condition) refl ((expression-reached v _ meet g s clk so_far agrees e.condition fits.condition always n fine (constant-value v _ meet (pos 1))).gives c at_c) where
            by : (c : Valued) → cond (is_zero_tree c.tree) (Some (record { edges = []; noted = c.noted; words = words })) (edge_of_kind g base so_far c.tree e e.kind c.noted words) ≡ Some w
                → (r : OrFault ℤ) → value_of g s clk e.condition ≡ r → Reaches v (λ (w : Valued). w.noted) (HasValue v) r c
                → Reaches v (λ (w : EdgesMade). w.noted) EffectsAre (run.◌>>=◌ r (λ x. cond (is_one x) (acting g seed s clk e e.kind now) (Ok (record { effects = []; taken = now })))) w
            by c rest (Ok x) at_x (fine, is) = by_value c w (from_condition e words c w rest) are fine x is (fits.truth x at_x)
            by c rest (Err f) at_x failed =
                elim (from_condition e words c w rest) [
                  | inl out ↦ subst (λ (w : EdgesMade). FailedIn v f w.noted) (sym out.1) failed
                  | inr made ↦ (kind-stopped f c.tree e e.kind c.noted words (subst (WordsAre v g seed taken) ((kind-words c.tree e e.kind c.noted words).gives w made) are) failed).gives w made
                ]

    effects_both : (xs ys : List EdgeTrees) → effects_made (map (λ t. effect_at clk (edge_now v t)) (xs ++ ys)) ≡ effects_made (map (λ t. effect_at clk (edge_now v t)) xs) ++ effects_made (map (λ t. effect_at clk (edge_now v t)) ys)
    effects_both [] ys = refl
    effects_both (x ∷ xs) ys =
        ap (λ l. cond (edge_now v x).holds ((effect_at clk (edge_now v x)).effect ∷ l) l) (effects_both xs ys)
        ∙ chosen (edge_now v x).holds (effect_at clk (edge_now v x)).effect (effects_made (map (λ t. effect_at clk (edge_now v t)) xs)) (effects_made (map (λ t. effect_at clk (edge_now v t)) ys)) where
          chosen : (b : Bool) (f : Effect) (fs hs : List Effect) → cond b (f ∷ fs ++ hs) (fs ++ hs) ≡ cond b (f ∷ fs) fs ++ hs
          chosen true f fs hs = refl
          chosen false f fs hs = refl

    pub edges-follow : (es : List EventEdge) → AllByRecursion (EdgeFits g s clk) es → (now : List ℕ) (words : List WordTaken) → now ≡ taken_after v taken words → (n : Noted) (w : EdgesMade) → edges_made g base so_far es n words ≡ Some w → WordsAre v g seed taken w.words → Fine v n
        → Reaches v (λ (w : EdgesMade). w.noted) EffectsAre (edges_effects g seed s clk es now) w
    unfolding edges_made
    edges-follow [] fits now words counted n w made are fine =
        let same : record { edges = []; noted = n; words = words } ≡ w = cc in
        subst (λ (w : EdgesMade). Reaches v (λ (w : EdgesMade). w.noted) EffectsAre (Ok (record { effects = []; taken = now })) w) same (fine, (refl, counted))
    edges-follow (e ∷ es) (fit, fits) now words counted n w made are fine =
        let (one, at_one, rest) = bind_some (edge_made g base so_far e n words) _ w made in
        let (more, at_more, last) = bind_some (edges_made g base so_far es one.noted one.words) _ w rest in
        let same : record { edges = one.edges ++ more.edges; noted = more.noted; words = more.words } ≡ w = cc in
        let are_more = subst (λ (w : EdgesMade). WordsAre v g seed taken w.words) (sym same) are in
        let are_one = edges-grow es one.noted one.words more at_more are_more in
        subst (λ (w : EdgesMade). Reaches v (λ (w : EdgesMade). w.noted) EffectsAre (edges_effects g seed s clk (e ∷ es) now) w) same
        (by one more at_more are_more (edge_effects g seed s clk e now) (edge-follows e fit now words (edge-grows e n words one at_one are_one) counted n one at_one are_one fine)
        (λ ea counted_one fine_one. edges-follow es fits ea.taken one.words counted_one one.noted more at_more are_more fine_one)) where
          by_more : (one more : EdgesMade) (ea : EffectsAndTaken) → EffectsAre ea one → (q : OrFault EffectsAndTaken) → Reaches v (λ (w : EdgesMade). w.noted) EffectsAre q more
              → Reaches v (λ (w : EdgesMade). w.noted) EffectsAre (run.◌>>=◌ q (λ (more : EffectsAndTaken). Ok (record { effects = ea.effects ++ more.effects; taken = more.taken }))) (record { edges = one.edges ++ more.edges; noted = more.noted; words = more.words })
          by_more one more ea are (Ok eb) (fine, (same, counted)) = (fine, (ap₂ (λ xs ys. xs ++ ys) are.0 same ∙ sym (effects_both one.edges more.edges), counted))
          by_more one more ea are (Err f) failed = failed

          by : (one more : EdgesMade) → edges_made g base so_far es one.noted one.words ≡ Some more → WordsAre v g seed taken more.words → (r : OrFault EffectsAndTaken) → Reaches v (λ (w : EdgesMade). w.noted) EffectsAre r one
              → ((ea : EffectsAndTaken) → ea.taken ≡ taken_after v taken one.words → Fine v one.noted → Reaches v (λ (w : EdgesMade). w.noted) EffectsAre (edges_effects g seed s clk es ea.taken) more)
              → Reaches v (λ (w : EdgesMade). w.noted) EffectsAre (run.◌>>=◌ r (λ (one : EffectsAndTaken). run.◌>>=◌ (edges_effects g seed s clk es one.taken) (λ (more : EffectsAndTaken). Ok (record { effects = one.effects ++ more.effects; taken = more.taken })))) (record { edges = one.edges ++ more.edges; noted = more.noted; words = more.words })
          by one more at_more are (Ok ea) (fine, (same, counted)) later = by_more one more ea (same, counted) (edges_effects g seed s clk es ea.taken) (later ea counted fine)
          by one more at_more are (Err f) failed later = edges-stopped f es one.noted one.words more at_more are failed
