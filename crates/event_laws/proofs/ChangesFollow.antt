-- The trees of changes follow a run.
use Rattle.std.proofs.Common.{◌≡◌, ℕ, ℤ, pos, int_le, true, cond, List, [], ◌∷◌, map, zip, length, suc, IsTrue, Option, Some, None, Ok, Err, refl, sym, ap, ◌∙◌, subst, arith}
use Rattle.std.specs.List.{AllByRecursion}
use Rattle.std.proofs.lemmas.Int.{ints}
use Rattle.sig_base.specs.declared.fault.FaultKind.{FaultKind}
use Rattle.sig_base.specs.Stream.{word}
use Rattle.model_core.proofs.BothTrue.{and_first, and_second}
use Rattle.model_core.proofs.Results.{bind_ok}
use Rattle.model_core.specs.EventGraph.{EventGraph, Expression, Location, StateChange, Set, Draw}
use Rattle.model_core.specs.Run.State.{State, Place, scalar, variable_at, cell_at, within, in_range, with_cell}
use Rattle.model_core.specs.Run.Value.{OrFault, in_turn, is_one, indexed, value_of, place_at, place_of}
use Rattle.model_core.specs.Run.Value as run
use Rattle.model_core.specs.Run.Changes.{ChangeState, kept, store, set_all, taken_from, one_more, drawn_value, make_change}
use Rattle.run_laws.proofs.InRange.{cells_lie_in_range, in_range-kept}
use Rattle.run_laws.proofs.CellsThere.{indexed_is_declared}
use Rattle.tree_laws.specs.LinearSums.{WordAtom}
use Rattle.tree_laws.specs.SumValues.{Valuation, atom_value}
use Rattle.tree_laws.specs.Limits.{◌>>=◌}
use Rattle.tree_laws.specs.SumEnds.{Ground}
use Rattle.tree_laws.specs.Meaning.{Meets}
use Rattle.tree_laws.specs.Trees.{CaseTree, tree_value}
use Rattle.tree_laws.specs.TreeConditions.{read_tree}
use Rattle.tree_laws.specs.Valued.{Valued}
use Rattle.tree_laws.specs.ChecksHold.{Fine, FailedIn}
use Rattle.tree_laws.specs.ValuesAgree.{Agrees}
use Rattle.tree_laws.proofs.Gives.{Gives, gives_some, then_gives, gives_weaker}
use Rattle.tree_laws.proofs.CasesOfTrees.{Has}
use Rattle.tree_laws.proofs.ConditionTrees.{constant-value, read_tree-value}
use Rattle.tree_laws.proofs.NotedChecks.{skip}
use Rattle.event_laws.specs.Making.{WordTaken, Making, TreesMade, with_words}
use Rattle.event_laws.specs.ChangesMade.{always, PlaceTree, PlaceMade, PlacesMade, all_valued, placed, all_placed, kept_tree, all_kept, stored, all_stored, set_made, draw_made, change_made, changes_made}
use Rattle.event_laws.specs.ChangesFit.{TruthFits, PairsFit, LocationFits, ChangeFits, AlwaysFits}
use Rattle.event_laws.specs.WordsAre.{taken_after, WordsAre}
use Rattle.event_laws.specs.Follows.{Follows, FollowsResult}
use Rattle.event_laws.proofs.ReachedTogether.{Reaches, reach, HasValue}
use Rattle.event_laws.proofs.ListsValued.{HaveValues, all-stopped, all-reached}
use Rattle.event_laws.proofs.PlacesValued.{PlaceIs, PlacesAre, PlaceHas, PlacesHave, place-reached, place-stopped, places-reached, places-stopped}
use Rattle.event_laws.proofs.KeptValues.{kept_at, TreesFit, KeptAre, kept-value, kept-stopped, all_kept-reached, all_kept-stopped}
use Rattle.event_laws.proofs.CellsWritten.{in_range-laid_out}
use Rattle.event_laws.proofs.StoredTrees.{put_all, stores_in_two, store-agrees, stores-agree}
use Rattle.event_laws.proofs.WordsMeet.{words-meet}

-- ranges of which a state has values aren't empty
some_range : (g : EventGraph) (s : State) → IsTrue (in_range g s) → (i : ℕ) → int_le (variable_at g i).lo (variable_at g i).hi ≡ true
some_range g s inside i =
    let x = cell_at s (record { variable = i; index = 0 }) in
    let lies = cells_lie_in_range g s i 0 inside (omega arith) in
    between (variable_at g i).lo x (variable_at g i).hi (and_first (int_le (variable_at g i).lo x) _ lies) (and_second (int_le (variable_at g i).lo x) _ lies) where
      between : (lo x hi : ℤ) → int_le lo x ≡ true → int_le x hi ≡ true → int_le lo hi ≡ true
      between lo x hi e h = grind (arith, ints)

pub bind_some : {A B : Type 0} (o : Option A) (f : A → Option B) (y : B) → (o >>= f) ≡ Some y → (x : A) × (o ≡ Some x) × (f x ≡ Some y)
bind_some (Some x) f y e = (x, refl, e)
bind_some None f y e = cc

each-long : {A B : Type 0} (f : A → OrFault B) (as_ : List A) (bs : List B) → run.each f as_ ≡ Ok bs → length bs ≡ length as_
each-long f [] bs e = let none : [] ≡ bs = cc in ap length (sym none)
each-long f (a ∷ as_) bs e =
    let (b, at_b, rest) = bind_ok (f a) _ bs e in
    let (cs, at_cs, last) = bind_ok (run.each f as_) _ bs rest in
    let same : b ∷ cs ≡ bs = cc in
    ap length (sym same) ∙ ap suc (each-long f as_ cs at_cs)

map-long : {A B : Type 0} (f : A → B) (as_ : List A) → length (map f as_) ≡ length as_
map-long f [] = refl
map-long f (a ∷ as_) = ap suc (map-long f as_)

pub regrouped : {A B C : Type 0} (r : OrFault A) (f : A → OrFault B) (h : B → OrFault C) → run.◌>>=◌ r (λ x. run.◌>>=◌ (f x) h) ≡ run.◌>>=◌ (run.◌>>=◌ r f) h
regrouped (Ok x) f h = refl
regrouped (Err k) f h = refl

-- a location's place is one of its variable
place_named : (g : EventGraph) (s : State) (clk : ℕ) (l : Location) (p : Place) → place_of g s clk l ≡ Ok p → p.variable ≡ l.variable
place_named g s clk l p e = by l.index e where
  by : (index : Option Expression) → place_at g s clk l.variable index ≡ Ok p → p.variable ≡ l.variable
  by None e = let same : scalar l.variable ≡ p = cc in ap (λ (q : Place). q.variable) (sym same)
  by (Some i) e =
      let (x, at_x, at_p) = bind_ok (value_of g s clk i) (indexed g l.variable) p e in
      (indexed_is_declared g l.variable x p (sym at_p)).0

module _ (v : Valuation) (g : EventGraph) (clk : ℕ) where
  -- the values of a state, and the words that were taken
  abbrev HasState : List WordTaken → State → Making → Type 0
  HasState words s m = Agrees v g s clk m.values × (m.words ≡ words)

  abbrev HasChanged : List ℕ → ChangeState → Making → Type 0
  HasChanged taken d m = Agrees v g d.state clk m.values × (d.taken ≡ taken_after v taken m.words)

  -- trees of right sides are truth values where such are stored
  trees_fit : (s : State) (targets : List Location) (rights : List Expression) → PairsFit g s clk targets rights → (xs : List ℤ) → run.each (value_of g s clk) rights ≡ Ok xs
      → (ps : List Place) → run.each (place_of g s clk) targets ≡ Ok ps → (qs : List PlaceTree) → PlacesAre v g ps qs → (ts : List CaseTree) → map (tree_value v) ts ≡ xs → TreesFit v g qs ts
  trees_fit s targets rights fit xs at_xs ps at_ps [] are ts is = tt
  trees_fit s targets rights fit xs at_xs ps at_ps (q ∷ qs) are [] is = tt
  trees_fit s targets rights fit xs at_xs [] at_ps (q ∷ qs) are (t ∷ ts) is = absurd are
  trees_fit s [] rights fit xs at_xs (p ∷ ps) at_ps (q ∷ qs) are (t ∷ ts) is = absurd cc
  trees_fit s (l ∷ ls) [] fit xs at_xs (p ∷ ps) at_ps (q ∷ qs) are (t ∷ ts) is = absurd cc
  trees_fit s (l ∷ ls) (e ∷ es) fit xs at_xs (p ∷ ps) at_ps (q ∷ qs) are (t ∷ ts) is =
      let (x, at_x, more_xs) = bind_ok (value_of g s clk e) _ xs at_xs in
      let (ys, at_ys, all_xs) = bind_ok (run.each (value_of g s clk) es) _ xs more_xs in
      let (o, at_o, more_ps) = bind_ok (place_of g s clk l) _ (p ∷ ps) at_ps in
      let (os, at_os, all_ps) = bind_ok (run.each (place_of g s clk) ls) _ (p ∷ ps) more_ps in
      let same_xs : tree_value v t ∷ map (tree_value v) ts ≡ x ∷ ys = cc in
      let same_ps : o ∷ os ≡ p ∷ ps = cc in
      let is_x : x ≡ tree_value v t = cc in
      let are_ys : map (tree_value v) ts ≡ ys = cc in
      let is_p : o ≡ p = cc in
      let are_ps : os ≡ ps = cc in
      let named : l.variable ≡ q.variable = sym (place_named g s clk l o at_o) ∙ ap (λ (p : Place). p.variable) is_p ∙ are.0.variable in (
        subst (λ i. TruthFits g s clk i (tree_value v t)) named (subst (TruthFits g s clk l.variable) is_x (fit.0 x at_x)),
        trees_fit s ls es fit.1 ys at_ys ps (at_os ∙ ap Ok are_ps) qs are.1 ts are_ys,
      )

  -- ---- one set

  module _ (base : Ground) (meets : Meets base v) (m : Making) (f : FaultKind) where
    kept_stopped : (ps : PlacesMade) (ts : List CaseTree) → FailedIn v f ps.noted
        → Gives (all_kept g base ps.places ts ps.noted >>= λ kept. all_stored base kept.noted.known ps.places kept.trees m.values >>= λ later. Some (record { values = later; noted = kept.noted; words = m.words })) (λ (m : Making). FailedIn v f m.noted)
    kept_stopped ps ts failed =
        let Q : Making → Type 0 = λ m. FailedIn v f m.noted in
        then_gives (λ (w : TreesMade). FailedIn v f w.noted) Q (all_kept g base ps.places ts ps.noted) _ (all_kept-stopped v base meets g ps.places ts f ps.noted failed)
        (λ kept failed. skip Q (all_stored base kept.noted.known ps.places kept.trees m.values) _ (λ later. gives_some Q _ failed))

    placed_stopped : (targets : List Location) (w : TreesMade) → FailedIn v f w.noted
        → Gives (all_placed g base m.values targets w.noted >>= λ places. all_kept g base places.places w.trees places.noted >>= λ kept. all_stored base kept.noted.known places.places kept.trees m.values >>= λ later. Some (record { values = later; noted = kept.noted; words = m.words })) (λ (m : Making). FailedIn v f m.noted)
    placed_stopped targets w failed =
        then_gives (λ (w : PlacesMade). FailedIn v f w.noted) (λ (m : Making). FailedIn v f m.noted) (all_placed g base m.values targets w.noted) _ (places-stopped v base meets g m.values f targets w.noted failed)
        (λ places failed. kept_stopped places w.trees failed)

    pub set-stopped : (targets : List Location) (rights : List Expression) → FailedIn v f m.noted → Gives (set_made g base targets rights m) (λ (m : Making). FailedIn v f m.noted)
    set-stopped targets rights failed =
        then_gives (λ (w : TreesMade). FailedIn v f w.noted) (λ (m : Making). FailedIn v f m.noted) (all_valued g base m.values always rights m.noted) _ (all-stopped v base meets g m.values f rights always m.noted failed)
        (λ w failed. placed_stopped targets w failed)

  module _ (base : Ground) (meets : Meets base v) (s : State) (m : Making) (agrees : Agrees v g s clk m.values) where
    pub set-follows : IsTrue (in_range g s) → (targets : List Location) (rights : List Expression) → ChangeFits g s clk (Set targets rights) → Fine v m.noted
        → Gives (set_made g base targets rights m) (Reaches v (λ (m : Making). m.noted) (HasState m.words) (set_all g clk targets rights s))
    set-follows inside targets rights fits fine =
        reach v (λ (w : TreesMade). w.noted) (λ (m : Making). m.noted) (HaveValues v base meets g s clk m.values agrees) (HasState m.words) (all_valued g base m.values always rights m.noted) _ (run.each (value_of g s clk) rights) _
        (all-reached v base meets g s clk m.values agrees rights fits.0 always m.noted fine (constant-value v base meets (pos 1)))
        (λ w f failed. placed_stopped base meets m f targets w failed)
        (λ w xs at_xs fine are_xs.
        reach v (λ (w : PlacesMade). w.noted) (λ (m : Making). m.noted) (PlacesHave v base meets g s clk m.values agrees) (HasState m.words) (all_placed g base m.values targets w.noted) _ (run.each (place_of g s clk) targets) _
        (places-reached v base meets g s clk m.values agrees targets fits.1.0 w.noted fine)
        (λ places f failed. kept_stopped base meets m f places w.trees failed)
        (λ places ps at_ps fine are_ps. after_places places w xs at_xs ps at_ps fine are_xs are_ps)) where
          after_places : (places : PlacesMade) (w : TreesMade) (xs : List ℤ) → run.each (value_of g s clk) rights ≡ Ok xs → (ps : List Place) → run.each (place_of g s clk) targets ≡ Ok ps → Fine v places.noted → map (tree_value v) w.trees ≡ xs → PlacesAre v g ps places.places
              → Gives (all_kept g base places.places w.trees places.noted >>= λ kept. all_stored base kept.noted.known places.places kept.trees m.values >>= λ later. Some (record { values = later; noted = kept.noted; words = m.words })) (Reaches v (λ (m : Making). m.noted) (HasState m.words) (in_turn (store g) (zip ps xs) s))
          after_places places w xs at_xs ps at_ps fine are_xs are_ps =
              subst (λ r. Gives (all_kept g base places.places w.trees places.noted >>= λ kept. all_stored base kept.noted.known places.places kept.trees m.values >>= λ later. Some (record { values = later; noted = kept.noted; words = m.words })) (Reaches v (λ (m : Making). m.noted) (HasState m.words) r)) (sym (stores_in_two g (zip ps xs) s))
              (reach v (λ (w : TreesMade). w.noted) (λ (m : Making). m.noted) (KeptAre v g) (HasState m.words) (all_kept g base places.places w.trees places.noted) _ (run.each (kept_at g) (zip ps xs)) _
              (subst (λ ys. Gives (all_kept g base places.places w.trees places.noted) (Reaches v (λ (w : TreesMade). w.noted) (KeptAre v g) (run.each (kept_at g) (zip ps ys)))) are_xs
              (all_kept-reached v base meets g (some_range g s inside) ps places.places are_ps w.trees (trees_fit s targets rights fits.1.1 xs at_xs ps at_ps places.places are_ps w.trees are_xs) places.noted fine))
              (λ kept f failed. skip (λ (m : Making). FailedIn v f m.noted) (all_stored base kept.noted.known places.places kept.trees m.values) _ (λ later. gives_some _ _ failed))
              (λ kept ys at_ys fine are_ys.
              let Q : Making → Type 0 = Reaches v (λ (m : Making). m.noted) (HasState m.words) (Ok (put_all (zip ps xs) ys s)) in
              let long : length kept.trees ≡ length (zip ps xs) = sym (map-long (tree_value v) kept.trees) ∙ ap length are_ys ∙ each-long (kept_at g) (zip ps xs) ys at_ys in
              then_gives (Agrees v g (put_all (zip ps xs) (map (tree_value v) kept.trees) s) clk) Q (all_stored base kept.noted.known places.places kept.trees m.values) _
              (stores-agree v base meets g clk kept.noted.known fine.holds ps places.places are_ps xs kept.trees long s (in_range-laid_out g s inside) m.values agrees)
              (λ later agree. gives_some Q _ (fine, (subst (λ ys. Agrees v g (put_all (zip ps xs) ys s) clk later) are_ys agree, refl)))))

  -- ---- one draw

  module _ (base : Ground) (seed : ℕ) (taken : List ℕ) (meets : Meets (with_words g base []) v) (m : Making) (w : WordTaken) (words : WordsAre v g seed taken (w ∷ m.words)) where
    before_word : Meets (with_words g base m.words) v
    before_word = words-meet v g base meets seed taken m.words words.1

    after_word : Meets (with_words g base (w ∷ m.words)) v
    after_word = words-meet v g base meets seed taken (w ∷ m.words) words

    -- the value is kept and stored
    kept_word : (p : PlaceMade) → (t : CaseTree) → Option Making
    kept_word p t = do
      kept ← kept_tree (with_words g base (w ∷ m.words)) (variable_at g p.place.variable) t p.noted
      later ← stored (with_words g base (w ∷ m.words)) kept.noted.known p.place kept.tree m.values
      Some (record { values = later; noted = kept.noted; words = w ∷ m.words })

    kept_word-stopped : (f : FaultKind) (p : PlaceMade) (t : CaseTree) → FailedIn v f p.noted → Gives (kept_word p t) (λ (m : Making). FailedIn v f m.noted)
    unfolding kept_word
    kept_word-stopped f p t failed =
        let Q : Making → Type 0 = λ m. FailedIn v f m.noted in
        then_gives (λ (w : Valued). FailedIn v f w.noted) Q (kept_tree (with_words g base (w ∷ m.words)) (variable_at g p.place.variable) t p.noted) _ (kept-stopped v _ after_word (variable_at g p.place.variable) t f p.noted failed)
        (λ kept failed. skip Q (stored (with_words g base (w ∷ m.words)) kept.noted.known p.place kept.tree m.values) _ (λ later. gives_some Q _ failed))

    word_stopped : (f : FaultKind) (p : PlaceMade) → FailedIn v f p.noted → Gives (read_tree (with_words g base (w ∷ m.words)) p.noted.known (WordAtom (length m.words)) >>= kept_word p) (λ (m : Making). FailedIn v f m.noted)
    word_stopped f p failed = skip (λ (m : Making). FailedIn v f m.noted) (read_tree (with_words g base (w ∷ m.words)) p.noted.known (WordAtom (length m.words))) _ (λ t. kept_word-stopped f p t failed)

    pub draw-stopped : (f : FaultKind) (target : Location) → FailedIn v f m.noted → Gives (draw_made g base target w m) (λ (m : Making). FailedIn v f m.noted)
    unfolding kept_word
    draw-stopped f target failed =
        then_gives (λ (p : PlaceMade). FailedIn v f p.noted) (λ (m : Making). FailedIn v f m.noted) (placed g (with_words g base m.words) m.values target m.noted) _ (place-stopped v _ before_word g m.values f target m.noted failed)
        (λ p failed. word_stopped f p failed)

    module _ (s : State) (agrees : Agrees v g s clk m.values) (now : List ℕ) (counted : now ≡ taken_after v taken m.words) (always_taken : tree_value v w.guard ≡ pos 1) where
      abbrev pub pick : ℤ
      pick = drawn_value g w.choice (word seed w.stream (taken_from now w.stream))

      picked : v.word (length m.words) ≡ pick
      picked = words.0.picked always_taken ∙ ap (λ (ts : List ℕ). drawn_value g w.choice (word seed w.stream (taken_from ts w.stream))) (sym counted)

      word_read : atom_value v (WordAtom (length m.words)) ≡ pick
      unfolding atom_value
      word_read = picked

      one_taken : one_more now w.stream ≡ taken_after v taken (w ∷ m.words)
      one_taken = ap (λ ts. one_more ts w.stream) counted ∙ sym (ap (λ y. cond (is_one y) (one_more (taken_after v taken m.words) w.stream) (taken_after v taken m.words)) always_taken)

      -- the state in which the value is stored, and the words
      with_word : Place → ℤ → OrFault ChangeState
      with_word p y = Ok (record { state = with_cell s p y; taken = one_more now w.stream })

      kept_word-follows : IsTrue (in_range g s) → (p : Place) (q : PlaceMade) → PlaceIs v g p q.place → ((i : ℕ) → i ≡ q.place.variable → TruthFits g s clk i pick) → Fine v q.noted → (t : CaseTree) → tree_value v t ≡ pick
          → Gives (kept_word q t) (Reaches v (λ (m : Making). m.noted) (HasChanged taken) (run.◌>>=◌ (kept (variable_at g p.variable) pick) (with_word p)))
      unfolding kept_word with_word
      kept_word-follows inside p q is fits fine t is_t =
          reach v (λ (w : Valued). w.noted) (λ (m : Making). m.noted) (HasValue v) (HasChanged taken) (kept_tree (with_words g base (w ∷ m.words)) (variable_at g q.place.variable) t q.noted) _ (kept (variable_at g p.variable) pick) _
          (subst (λ i. Gives (kept_tree (with_words g base (w ∷ m.words)) (variable_at g q.place.variable) t q.noted) (Reaches v (λ (w : Valued). w.noted) (HasValue v) (kept (variable_at g i) pick))) (sym is.variable)
          (subst (λ y. Gives (kept_tree (with_words g base (w ∷ m.words)) (variable_at g q.place.variable) t q.noted) (Reaches v (λ (w : Valued). w.noted) (HasValue v) (kept (variable_at g q.place.variable) y))) is_t
          (kept-value v _ after_word (variable_at g q.place.variable) t q.noted fine (some_range g s inside q.place.variable) (λ truth. subst (λ y. within (variable_at g q.place.variable).lo (variable_at g q.place.variable).hi y ≡ true) (sym is_t) (fits q.place.variable refl truth)))))
          (λ kept f failed. skip (λ (m : Making). FailedIn v f m.noted) (stored (with_words g base (w ∷ m.words)) kept.noted.known q.place kept.tree m.values) _ (λ later. gives_some _ _ failed))
          (λ kept y at_y fine is_y.
          let Q : Making → Type 0 = Reaches v (λ (m : Making). m.noted) (HasChanged taken) (Ok (record { state = with_cell s p y; taken = one_more now w.stream })) in
          then_gives (Agrees v g (with_cell s p y) clk) Q (stored (with_words g base (w ∷ m.words)) kept.noted.known q.place kept.tree m.values) _
          (store-agrees v _ after_word g clk s (in_range-laid_out g s inside) m.values agrees p kept.tree y is_y is.declared kept.noted.known fine.holds q.place is)
          (λ later agree. gives_some Q _ (fine, (agree, one_taken))))

      pub draw-follows : IsTrue (in_range g s) → (target : Location) → LocationFits g s clk target → TruthFits g s clk target.variable pick → Fine v m.noted
          → Gives (draw_made g base target w m) (Reaches v (λ (m : Making). m.noted) (HasChanged taken)
          (run.◌>>=◌ (place_of g s clk target) (λ p. run.◌>>=◌ (store g (p, pick) s) (λ s. Ok (record { state = s; taken = one_more now w.stream })))))
      unfolding kept_word with_word
      draw-follows inside target fits truth fine =
          reach v (λ (p : PlaceMade). p.noted) (λ (m : Making). m.noted) (PlaceHas v _ before_word g s clk m.values agrees) (HasChanged taken) (placed g (with_words g base m.words) m.values target m.noted) _ (place_of g s clk target) _
          (place-reached v _ before_word g s clk m.values agrees target fits m.noted fine)
          (λ p f failed. word_stopped f p failed)
          (λ q p at_p fine is.
          subst (λ r. Gives (read_tree (with_words g base (w ∷ m.words)) q.noted.known (WordAtom (length m.words)) >>= kept_word q) (Reaches v (λ (m : Making). m.noted) (HasChanged taken) r)) (regrouped (kept (variable_at g p.variable) pick) (λ y. Ok (with_cell s p y)) (λ s. Ok (record { state = s; taken = one_more now w.stream })))
          (then_gives (Has v pick) (Reaches v (λ (m : Making). m.noted) (HasChanged taken) (run.◌>>=◌ (kept (variable_at g p.variable) pick) (with_word p))) (read_tree (with_words g base (w ∷ m.words)) q.noted.known (WordAtom (length m.words))) _
          (gives_weaker (Has v pick) _ (read_tree-value v _ after_word q.noted.known fine.holds (WordAtom (length m.words))) (λ t e. e ∙ word_read))
          (λ t is_t. kept_word-follows inside p q is (λ i same. subst (λ j. TruthFits g s clk j pick) (sym (place_named g s clk target p at_p) ∙ is.variable ∙ sym same) truth) fine t is_t)))

  -- ---- all changes

  -- the words after a change
  abbrev words_after : StateChange → Making → List WordTaken
  words_after (Set targets rights) m = m.words
  words_after (Draw target stream choice) m = record { stream = stream; guard = always; choice = choice } ∷ m.words

  module _ (base : Ground) where
    change-words : (c : StateChange) (m : Making) → Gives (change_made g base c m) (λ n. n.words ≡ words_after c m)
    unfolding change_made
    change-words (Set targets rights) m =
        let now = with_words g base m.words in
        skip (λ (n : Making). n.words ≡ m.words) (all_valued g now m.values always rights m.noted) _ (λ w.
        skip (λ (n : Making). n.words ≡ m.words) (all_placed g now m.values targets w.noted) _ (λ ps.
        skip (λ (n : Making). n.words ≡ m.words) (all_kept g now ps.places w.trees ps.noted) _ (λ kept.
        skip (λ (n : Making). n.words ≡ m.words) (all_stored now kept.noted.known ps.places kept.trees m.values) _ (λ later. gives_some _ _ refl))))
    change-words (Draw target stream choice) m =
        let w : WordTaken = record { stream = stream; guard = always; choice = choice } in
        let then = with_words g base (w ∷ m.words) in
        skip (λ (n : Making). n.words ≡ w ∷ m.words) (placed g (with_words g base m.words) m.values target m.noted) _ (λ p.
        skip (λ (n : Making). n.words ≡ w ∷ m.words) (read_tree then p.noted.known (WordAtom (length m.words))) _ (λ t.
        skip (λ (n : Making). n.words ≡ w ∷ m.words) (kept_tree then (variable_at g p.place.variable) t p.noted) _ (λ kept.
        skip (λ (n : Making). n.words ≡ w ∷ m.words) (stored then kept.noted.known p.place kept.tree m.values) _ (λ later. gives_some _ _ refl))))

    module _ (seed : ℕ) (taken : List ℕ) (meets : Meets (with_words g base []) v) where
      words_before : (c : StateChange) (m : Making) → WordsAre v g seed taken (words_after c m) → WordsAre v g seed taken m.words
      words_before (Set targets rights) m words = words
      words_before (Draw target stream choice) m words = words.1

      -- the words taken before are those of the run too
      pub words-grow : (cs : List StateChange) (m n : Making) → changes_made g base cs m ≡ Some n → WordsAre v g seed taken n.words → WordsAre v g seed taken m.words
      unfolding changes_made
      words-grow [] m n e words = let same : m ≡ n = cc in subst (λ (m : Making). WordsAre v g seed taken m.words) (sym same) words
      words-grow (c ∷ cs) m n e words =
          let (later, first, rest) = bind_some (change_made g base c m) (changes_made g base cs) n e in
          words_before c m (subst (WordsAre v g seed taken) ((change-words c m).gives later first) (words-grow cs later n rest words))

      -- ---- a check that failed stays the first that fails

      change-stopped : (f : FaultKind) (c : StateChange) (m n : Making) → WordsAre v g seed taken (words_after c m) → change_made g base c m ≡ Some n → FailedIn v f m.noted → FailedIn v f n.noted
      unfolding change_made
      change-stopped f (Set targets rights) m n words e failed =
          (set-stopped (with_words g base m.words) (words-meet v g base meets seed taken m.words words) m f targets rights failed).gives n e
      change-stopped f (Draw target stream choice) m n words e failed = (draw-stopped base seed taken meets m _ words f target failed).gives n e

      pub changes-stopped : (f : FaultKind) (cs : List StateChange) (m n : Making) → WordsAre v g seed taken n.words → changes_made g base cs m ≡ Some n → FailedIn v f m.noted → FailedIn v f n.noted
      unfolding changes_made
      changes-stopped f [] m n words e failed = let same : m ≡ n = cc in subst (λ (m : Making). FailedIn v f m.noted) same failed
      changes-stopped f (c ∷ cs) m n words e failed =
          let (later, first, rest) = bind_some (change_made g base c m) (changes_made g base cs) n e in
          let grown = subst (WordsAre v g seed taken) ((change-words c m).gives later first) (words-grow cs later n rest words) in
          changes-stopped f cs later n words rest (change-stopped f c m later grown first failed)

      -- ---- the trees follow the run

      set_alone : (taken_now : List ℕ) (r : OrFault State) (m n : Making) → taken_now ≡ taken_after v taken m.words → Reaches v (λ (m : Making). m.noted) (HasState m.words) r n
          → FollowsResult v g clk taken (run.◌>>=◌ r (λ s. Ok (record { state = s; taken = taken_now }))) n
      set_alone now (Ok s) m n counted (fine, (agree, same)) = record { fine = fine; agrees = agree; words = counted ∙ ap (taken_after v taken) (sym same) }
      set_alone now (Err f) m n counted failed = failed

      draw_alone : (r : OrFault ChangeState) (n : Making) → Reaches v (λ (m : Making). m.noted) (HasChanged taken) r n → FollowsResult v g clk taken r n
      draw_alone (Ok d) n (fine, (agree, counted)) = record { fine = fine; agrees = agree; words = counted }
      draw_alone (Err f) n failed = failed

      change-follows : (c : StateChange) (d : ChangeState) → IsTrue (in_range g d.state) → ChangeFits g d.state clk c → (m n : Making) → Follows v g clk taken d m → WordsAre v g seed taken (words_after c m) → change_made g base c m ≡ Some n
          → FollowsResult v g clk taken (make_change g seed clk c d) n
      unfolding change_made
      change-follows (Set targets rights) d inside fits m n follows words e =
          set_alone d.taken (set_all g clk targets rights d.state) m n follows.words
          ((set-follows (with_words g base m.words) (words-meet v g base meets seed taken m.words words) d.state m follows.agrees inside targets rights fits follows.fine).gives n e)
      change-follows (Draw target stream choice) d inside fits m n follows words e =
          draw_alone _ n
          ((draw-follows base seed taken meets m _ words d.state follows.agrees d.taken follows.words (constant-value v _ (words-meet v g base meets seed taken m.words words.1) (pos 1)) inside target fits.0 (fits.1 seed (taken_from d.taken stream)) follows.fine).gives n e)

      pub changes-follow : (cs : List StateChange) → AllByRecursion (AlwaysFits g clk) cs → (d : ChangeState) → IsTrue (in_range g d.state) → (m n : Making) → Follows v g clk taken d m → WordsAre v g seed taken n.words → changes_made g base cs m ≡ Some n
          → FollowsResult v g clk taken (in_turn (make_change g seed clk) cs d) n
      unfolding changes_made
      changes-follow [] fits d inside m n follows words e = let same : m ≡ n = cc in subst (Follows v g clk taken d) same follows
      changes-follow (c ∷ cs) (fit, fits) d inside m n follows words e =
          let (later, first, rest) = bind_some (change_made g base c m) (changes_made g base cs) n e in
          let grown = words-grow cs later n rest words in
          let one = change-follows c d inside (fit d.state inside) m later follows (subst (WordsAre v g seed taken) ((change-words c m).gives later first) grown) first in
          by later rest (make_change g seed clk c d) refl one (λ d2 inside2 follows2. changes-follow cs fits d2 inside2 later n follows2 words rest) where
            by : (later : Making) → changes_made g base cs later ≡ Some n → (r : OrFault ChangeState) → make_change g seed clk c d ≡ r → FollowsResult v g clk taken r later
                → ((d2 : ChangeState) → IsTrue (in_range g d2.state) → Follows v g clk taken d2 later → FollowsResult v g clk taken (in_turn (make_change g seed clk) cs d2) n)
                → FollowsResult v g clk taken (run.◌>>=◌ r (in_turn (make_change g seed clk) cs)) n
            by later rest (Ok d2) made one more = more d2 ((in_range-kept g).by_change seed clk c d d2 inside made) one
            by later rest (Err f) made one more = changes-stopped f cs later n words rest one
