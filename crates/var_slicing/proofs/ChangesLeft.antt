-- The changes of an event, and what is left of them where variables go.
use Rattle.std.proofs.Common.{◌≡◌, ℕ, ◌+◌, ℤ, pos, negsuc, nat_lt, Bool, true, false, cond, List, [], ◌∷◌, map, zip, slice_set, Option, Some, None, option_map, Ok, Err, refl, sym, ◌∙◌, ap, ap₂, subst}
use Rattle.std.specs.List.{AllByRecursion, flat_map}
use Rattle.sig_base.specs.declared.fault.FaultKind.TheVariants as faults
use Rattle.sig_base.specs.Stream.{word}
use Rattle.model_core.specs.EventGraph.{EventGraph, Variable, Expression, Location, Choice, Uniform, ByTable, StateChange, Set, Draw}
use Rattle.model_core.specs.Run.State.{State, Place, variable_at, with_cell}
use Rattle.model_core.specs.Run.Value.{OrFault, ◌>>=◌, each, in_turn, value_of, place_at, place_of, indexed}
use Rattle.model_core.specs.Run.Changes.{ChangeState, kept, store, set_all, taken_from, one_more, drawn_value, make_change}
use Rattle.model_core.specs.Rules.MarkedPlaces.{rank, marked_of, is_marked}
use Rattle.model_core.specs.Rules.Uses.{index_reads}
use Rattle.model_core.specs.Rules.Slice.{expression_renumbered, location_renumbered, items_where_marked, sliced_values, sliced_targets, set_or_nothing, sliced_change, of_marked_variables}
use Rattle.model_core.proofs.Results.{bind_ok, in_turn-append, bind_unit}
use Rattle.model_core.proofs.Alongside.{Alongside, both_go, both_fail, alongside-known, bind-alongside, bind-alongside-same, bind-alongside-left}
use Rattle.run_laws.proofs.PlaceVariables.{place-variable}
use Rattle.mark_laws.proofs.Marks.{Marked}
use Rattle.var_slicing.proofs.StoresLeft.{place_left, stores_left, StateLeft, store-left, stores-left, variable-left, marked_of-skip}
use Rattle.var_slicing.proofs.ValuesLeft.{places_left, zip-left, CanBeStored, stored-storable, ValuesFit, ValuesKept, value-left, values-alongside}
use Rattle.var_slicing.proofs.MaskedWords.{words_left, words_left-from, words_left-set, words_left-skip}

-- ---- lists of steps

-- an index, if there is one, reads marked variables alone
abbrev pub IndexReadsMarked : List Bool → Option Expression → Type 0
IndexReadsMarked marks i = AllByRecursion (Marked marks) (index_reads i)

-- a target that stays has an index that reads marked variables alone, and one that goes has a place
abbrev pub TargetFits : EventGraph → List Bool → State → ℕ → Location → Type 0
TargetFits g marks s clk l = (Marked marks l.variable → IndexReadsMarked marks l.index) × (is_marked marks l.variable ≡ false → (p : Place) × (place_of g s clk l ≡ Ok p))

module _ (g : EventGraph) (marks : List Bool) (s t : State) (left : StateLeft marks s t) (clk : ℕ) where
  abbrev h : EventGraph
  h = of_marked_variables g marks

  -- a place and its new one
  abbrev Placed : ℕ → Place → Place → Type 0
  Placed v p q = (place_left marks p ≡ q) × (p.variable ≡ v)

  index-placed : (v : ℕ) → Marked marks v → (x : ℤ) → Alongside (Placed v) (indexed g v x) (indexed h (rank marks v) x)
  index-placed v marked (pos i) =
      subst (λ n. Alongside (Placed v) (indexed g v (pos i)) (cond (nat_lt i n) (Ok (record { variable = rank marks v; index = i })) (Err faults.IndexOutside))) (sym (ap (λ (v : Variable). v.size) (variable-left g marks v marked))) (tested (nat_lt i (variable_at g v).size)) where
        tested : (b : Bool) → Alongside (Placed v) (cond b (Ok (record { variable = v; index = i })) (Err faults.IndexOutside)) (cond b (Ok (record { variable = rank marks v; index = i })) (Err faults.IndexOutside))
        tested true = both_go (refl, refl)
        tested false = both_fail faults.IndexOutside
  index-placed v marked (negsuc i) = both_fail faults.IndexOutside

  place-alongside : (v : ℕ) → Marked marks v → (i : Option Expression) → IndexReadsMarked marks i → Alongside (Placed v) (place_at g s clk v i) (place_at h t clk (rank marks v) (option_map (expression_renumbered (rank marks)) i))
  place-alongside v marked None reads = both_go (refl, refl)
  place-alongside v marked (Some e) reads =
      subst (λ (r : OrFault ℤ). Alongside (Placed v) (value_of g s clk e >>= indexed g v) (r >>= indexed h (rank marks v))) (sym (value-left g marks s t left clk e reads))
      (bind-alongside-same (Placed v) (value_of g s clk e) _ _ (λ x is. index-placed v marked x))

  abbrev Places : List Location → List Place → List Place → Type 0
  Places ls ps qs = (places_left marks ps ≡ qs) × (map (λ p. p.variable) ps ≡ map (λ l. l.variable) ls)

  targets-alongside : (ls : List Location) → AllByRecursion (TargetFits g marks s clk) ls → Alongside (Places ls) (each (place_of g s clk) ls) (each (place_of h t clk) (sliced_targets marks ls))
  targets-alongside [] fit = both_go (refl, refl)
  targets-alongside (l ∷ ls) ((reads, quiet), fit) = one (is_marked marks l.variable) refl (targets-alongside ls fit) where
    one : (b : Bool) → is_marked marks l.variable ≡ b → Alongside (Places ls) (each (place_of g s clk) ls) (each (place_of h t clk) (sliced_targets marks ls)) → Alongside (Places (l ∷ ls)) (each (place_of g s clk) (l ∷ ls)) (each (place_of h t clk) (cond b (location_renumbered (rank marks) l ∷ sliced_targets marks ls) (sliced_targets marks ls)))
    one true marked later =
        bind-alongside (Placed l.variable) (Places (l ∷ ls)) (place-alongside l.variable marked l.index (reads marked)) _ _ (λ p q (same, is).
        bind-alongside (Places ls) (Places (l ∷ ls)) later _ _ (λ ps qs (sames, are).
        both_go (ap (λ b. cond b (place_left marks p ∷ places_left marks ps) (places_left marks ps)) (ap (is_marked marks) is ∙ marked) ∙ ap₂ (λ q qs. q ∷ qs) same sames, ap₂ (λ v vs. v ∷ vs) is are)))
    one false unmarked later =
        let (p, there) = quiet unmarked in
        let is : p.variable ≡ l.variable = place-variable g s clk l.variable l.index p there in
        subst (λ (r : OrFault Place). Alongside (Places (l ∷ ls)) (r >>= λ p. each (place_of g s clk) ls >>= λ ps. Ok (p ∷ ps)) (each (place_of h t clk) (sliced_targets marks ls))) (sym there)
        (bind-alongside-left (Places ls) (Places (l ∷ ls)) later _ (λ ps qs (sames, are).
        both_go (ap (λ b. cond b (place_left marks p ∷ places_left marks ps) (places_left marks ps)) (ap (is_marked marks) is ∙ unmarked) ∙ sames, ap₂ (λ v vs. v ∷ vs) is are)))

  pub set-alongside : (targets : List Location) (rights : List Expression) → AllByRecursion (TargetFits g marks s clk) targets → ValuesFit g marks s clk (map (λ l. l.variable) targets) rights → Alongside (StateLeft marks) (set_all g clk targets rights s) (set_all h clk (sliced_targets marks targets) (sliced_values marks (map (λ l. l.variable) targets) rights) t)
  set-alongside targets rights fit_targets fit =
      let vs = map (λ (l : Location). l.variable) targets in
      bind-alongside (ValuesKept g marks vs) (StateLeft marks) (values-alongside g marks s t left clk vs rights fit) _ _ (λ xs ys (same, stored).
      bind-alongside (Places targets) (StateLeft marks) (targets-alongside targets fit_targets) _ _ (λ ps qs (sames, are).
      let stores : stores_left marks (zip ps xs) ≡ zip qs ys = zip-left marks ps xs ∙ ap₂ (λ qs (ys : List ℤ). zip qs ys) sames (ap (λ us. items_where_marked marks us xs) are ∙ same) in
      subst (λ (zs : List (Place × ℤ)). Alongside (StateLeft marks) (in_turn (store g) (zip ps xs) s) (in_turn (store h) zs t)) stores
      (stores-left g marks (zip ps xs) (stored-storable g marks ps xs (subst (λ us. CanBeStored g marks us xs) (sym are) stored)) s t left)))

-- what is left of a state and of the words taken
abbrev pub DrawnLeft : List Bool → List Bool → ChangeState → ChangeState → Type 0
DrawnLeft marks live d e = (marked_of marks d.state ≡ e.state) × (words_left live d.taken ≡ e.taken)

same_pick : (g : EventGraph) (marks : List Bool) (choice : Choice) (w : ℕ) → drawn_value (of_marked_variables g marks) choice w ≡ drawn_value g choice w
same_pick g marks (Uniform lo hi) w = refl
same_pick g marks (ByTable t) w = refl

-- what is drawn from a live stream
pub same_drawn : (g : EventGraph) (marks live : List Bool) (seed : ℕ) (choice : Choice) (stream : ℕ) (taken : List ℕ) → Marked live stream → drawn_value (of_marked_variables g marks) choice (word seed stream (taken_from (words_left live taken) stream)) ≡ drawn_value g choice (word seed stream (taken_from taken stream))
same_drawn g marks live seed choice stream taken lives = same_pick g marks choice (word seed stream (taken_from (words_left live taken) stream)) ∙ ap (λ n. drawn_value g choice (word seed stream n)) (words_left-from live taken stream lives)

same_from : (live : List Bool) (stream : ℕ) (d e : ChangeState) → words_left live d.taken ≡ e.taken → Marked live stream → taken_from e.taken stream ≡ taken_from d.taken stream
same_from live stream d e taken lives = ap (λ ts. taken_from ts stream) (sym taken) ∙ words_left-from live d.taken stream lives

module _ (g : EventGraph) (marks live : List Bool) (seed clk : ℕ) where
  abbrev result : EventGraph
  result = of_marked_variables g marks

  -- in this state the change reads marked variables alone for what stays, and what goes doesn't fault; a stream is live
  -- where a variable that stays is drawn from it
  abbrev pub ChangeFits : ChangeState → StateChange → Type 0
  ChangeFits d (Set targets rights) = AllByRecursion (TargetFits g marks d.state clk) targets × ValuesFit g marks d.state clk (map (λ l. l.variable) targets) rights
  ChangeFits d (Draw target stream choice) = (Marked marks target.variable → IndexReadsMarked marks target.index × Marked live stream) × (is_marked marks target.variable ≡ false → (is_marked live stream ≡ false) × ((e : ChangeState) × (make_change g seed clk (Draw target stream choice) d ≡ Ok e)))

  lone_set : (ls : List Location) (es : List Expression) (e : ChangeState) → in_turn (make_change result seed clk) (set_or_nothing ls es) e ≡ (set_all result clk ls es e.state >>= λ s. Ok (record e { state = s }))
  lone_set [] [] e = refl
  lone_set [] (x ∷ es) e = bind_unit (set_all result clk [] (x ∷ es) e.state >>= λ s. Ok (record e { state = s }))
  lone_set (l ∷ ls) es e = bind_unit (set_all result clk (l ∷ ls) es e.state >>= λ s. Ok (record e { state = s }))

  same_word : (choice : Choice) (stream : ℕ) (d e : ChangeState) → words_left live d.taken ≡ e.taken → Marked live stream → drawn_value result choice (word seed stream (taken_from e.taken stream)) ≡ drawn_value g choice (word seed stream (taken_from d.taken stream))
  same_word choice stream d e taken lives = ap (λ (ts : List ℕ). drawn_value result choice (word seed stream (taken_from ts stream))) (sym taken) ∙ same_drawn g marks live seed choice stream d.taken lives

  draw-kept : (target : Location) (stream : ℕ) (choice : Choice) (d e : ChangeState) → DrawnLeft marks live d e → Marked marks target.variable → IndexReadsMarked marks target.index → Marked live stream → Alongside (DrawnLeft marks live) (make_change g seed clk (Draw target stream choice) d) (make_change result seed clk (Draw (location_renumbered (rank marks) target) stream choice) e)
  draw-kept target stream choice d e (left, taken) marked reads lives =
      let v = target.variable in
      let x = drawn_value g choice (word seed stream (taken_from d.taken stream)) in
      let Rest : Place → ℤ → OrFault ChangeState = λ q z. store result (q, z) e.state >>= λ s. Ok (record { state = s; taken = one_more e.taken stream }) in
      bind-alongside (Placed g marks d.state e.state left clk v) (DrawnLeft marks live) (place-alongside g marks d.state e.state left clk v marked target.index reads) _ _ (λ p q (same, is).
      subst (λ (q : Place). Alongside (DrawnLeft marks live) (store g (p, x) d.state >>= λ s. Ok (record { state = s; taken = one_more d.taken stream })) (Rest q (drawn_value result choice (word seed stream (taken_from e.taken stream))))) same
      (subst (λ (z : ℤ). Alongside (DrawnLeft marks live) (store g (p, x) d.state >>= λ s. Ok (record { state = s; taken = one_more d.taken stream })) (Rest (place_left marks p) z)) (sym (same_word choice stream d e taken lives))
      (bind-alongside (StateLeft marks) (DrawnLeft marks live) (store-left g marks p x (ap (is_marked marks) is ∙ marked) d.state e.state left) _ _ (λ s t left2.
      both_go (left2, words_left-set live d.taken stream (taken_from d.taken stream + 1) lives ∙ ap₂ (λ (ts : List ℕ) (n : ℕ). slice_set ts stream (n + 1)) taken (sym (same_from live stream d e taken lives)))))))

  draw-skipped : (target : Location) (stream : ℕ) (choice : Choice) (d e e2 : ChangeState) → DrawnLeft marks live d e → is_marked marks target.variable ≡ false → is_marked live stream ≡ false → make_change g seed clk (Draw target stream choice) d ≡ Ok e2 → Alongside (DrawnLeft marks live) (make_change g seed clk (Draw target stream choice) d) (Ok e)
  draw-skipped target stream choice d e e2 (left, taken) unmarked dead done =
      let x = drawn_value g choice (word seed stream (taken_from d.taken stream)) in
      let (p, there, after_place) = bind_ok (place_of g d.state clk target) _ e2 done in
      let (s, stored, at_end) = bind_ok (store g (p, x) d.state) (λ s. Ok (record { state = s; taken = one_more d.taken stream })) e2 after_place in
      let (y, keeps, is_stored) = bind_ok (kept (variable_at g p.variable) x) (λ y. Ok (with_cell d.state p y)) s stored in
      let is : p.variable ≡ target.variable = place-variable g d.state clk target.variable target.index p there in
      let same_state : with_cell d.state p y ≡ s = cc in
      let same : record { state = s; taken = one_more d.taken stream } ≡ e2 = cc in
      subst (λ (r : OrFault ChangeState). Alongside (DrawnLeft marks live) r (Ok e)) (sym done)
      (subst (λ (f : ChangeState). Alongside (DrawnLeft marks live) (Ok f) (Ok e)) same
      (both_go (ap (marked_of marks) (sym same_state) ∙ marked_of-skip marks d.state p.variable _ (ap (is_marked marks) is ∙ unmarked) ∙ left, words_left-skip live d.taken stream _ dead ∙ taken)))

  pub change-alongside : (c : StateChange) (d e : ChangeState) → DrawnLeft marks live d e → ChangeFits d c → Alongside (DrawnLeft marks live) (make_change g seed clk c d) (in_turn (make_change result seed clk) (sliced_change marks c) e)
  change-alongside (Set targets rights) d e (left, taken) (fit_targets, fit_rights) =
      subst (λ (r : OrFault ChangeState). Alongside (DrawnLeft marks live) (make_change g seed clk (Set targets rights) d) r) (sym (lone_set (sliced_targets marks targets) (sliced_values marks (map (λ l. l.variable) targets) rights) e))
      (bind-alongside (StateLeft marks) (DrawnLeft marks live) (set-alongside g marks d.state e.state left clk targets rights fit_targets fit_rights) _ _ (λ s t is. both_go (is, taken)))
  change-alongside (Draw target stream choice) d e drawn (stays, goes) = one (is_marked marks target.variable) refl where
    one : (b : Bool) → is_marked marks target.variable ≡ b → Alongside (DrawnLeft marks live) (make_change g seed clk (Draw target stream choice) d) (in_turn (make_change result seed clk) (cond b (Draw (location_renumbered (rank marks) target) stream choice ∷ []) []) e)
    one true marked =
        let (reads, lives) = stays marked in
        subst (λ (r : OrFault ChangeState). Alongside (DrawnLeft marks live) (make_change g seed clk (Draw target stream choice) d) r) (sym (bind_unit (make_change result seed clk (Draw (location_renumbered (rank marks) target) stream choice) e)))
        (draw-kept target stream choice d e drawn marked reads lives)
    one false unmarked =
        let (dead, (e2, done)) = goes unmarked in draw-skipped target stream choice d e e2 drawn unmarked dead done

  -- all changes of an event: Q is known of each state between them
  pub changes-alongside : (Q : ChangeState → Type 0) → ((c : StateChange) (d e : ChangeState) → Q d → make_change g seed clk c d ≡ Ok e → Q e) → (cs : List StateChange) → AllByRecursion (λ c. (d : ChangeState) → Q d → ChangeFits d c) cs → (d e : ChangeState) → DrawnLeft marks live d e → Q d → Alongside (λ d e. DrawnLeft marks live d e × Q d) (in_turn (make_change g seed clk) cs d) (in_turn (make_change result seed clk) (flat_map (sliced_change marks) cs) e)
  changes-alongside Q keeps [] fit d e is q = both_go (is, q)
  changes-alongside Q keeps (c ∷ cs) (now, fit) d e is q =
      subst (λ (r : OrFault ChangeState). Alongside (λ d e. DrawnLeft marks live d e × Q d) (in_turn (make_change g seed clk) (c ∷ cs) d) r) (sym (in_turn-append (make_change result seed clk) (sliced_change marks c) (flat_map (sliced_change marks) cs) e))
      (bind-alongside (λ (d e : ChangeState). DrawnLeft marks live d e × Q d) (λ (d e : ChangeState). DrawnLeft marks live d e × Q d) (alongside-known (DrawnLeft marks live) Q (change-alongside c d e is (now d q)) (λ e2 done. keeps c d e2 q done)) _ _ (λ d2 e2 (is2, q2). changes-alongside Q keeps cs fit d2 e2 is2 q2))
