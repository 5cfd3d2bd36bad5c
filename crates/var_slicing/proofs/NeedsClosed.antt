-- The marks of what is needed hold all that the parts of a model need, and what isn't marked may be left out quietly.
use Rattle.std.proofs.Common.{◌≡◌, inl, inr, ℕ, ◌<◌, ◌≤◌, ◌==◌, Bool, true, false, ◌&&◌, cond, List, [], ◌∷◌, ◌++◌, length, map, zip, Option, Some, None, refl, sym, ap, subst, arith}
use Rattle.std.specs.Prelude.{◌||◌, filter, IfSome}
use Rattle.std.specs.List.{AllByRecursion, flat_map, list_any, range_with_len}
use Rattle.std.specs.Option.{option_map_or}
use Rattle.std.proofs.lemmas.Bool.{and_from, false_from_ne_true, eqb-true}
use Rattle.sig_base.proofs.Lists.{slice_index_or-all}
use Rattle.model_core.specs.EventGraph.{EventGraph, Expression, Number, Truth, Clock, Scalar, Cell, Negative, Not, Binary, If, Location, Choice, StateChange, Set, Draw, Delay, Fixed, Drawn, EdgeKind, Schedule, Urgent, CancelNext, CancelEqual, CancelAll, EventEdge, EventVertex, Variable, Watched, WatchedVariable, WatchedVertex, scalar_location, is_scheduling, watched_variables, delay_given}
use Rattle.model_core.specs.Run.Step.{no_vertex, vertex_at}
use Rattle.model_core.specs.Text.Spellable.{Extent, extent, SpellableExpression, SpellableLocation, SpellableChange, SpellableDelay, SpellableKind, SpellableEdge, SpellableVertex, SpellableWatched, IsSpellable}
use Rattle.model_core.specs.Static.OwnRules.{KeepsChange, KeepsTiming, KeepsEdge, KeepsVertex, parameters_of, KeepsParts}
use Rattle.model_core.specs.Rules.BoundsOfParts.{quiet_set, quiet_change}
use Rattle.model_core.specs.Rules.MarkedPlaces.{is_marked, is_among}
use Rattle.model_core.specs.Rules.Uses.{variables_in, index_reads, location_reads, delay_reads, edge_streams, delay_streams}
use Rattle.model_core.specs.Rules.Needed.{all_changes, all_edges, carried_pairs, compares_values, compared_parameters, deciding_reads, faulting_target, faulting_writes, faulting_parameters, needed_by_edge, all_draws, drawn_from, needed_by_delays, needed_at_once, each_beside, needed_by_targets, needed_by_parameters, streams_drawn, needed_by_streams, needed_beside}
use Rattle.model_core.proofs.Among.{Among, among-map, among-front, among-back, among-flat_map, of-among, each-among, either_true, first_true, second_true, any-among, among-any, among-filter, among-of_flat_map}
use Rattle.mark_laws.proofs.Marks.{Marked}
use Rattle.mark_laws.proofs.MarksBelow.{tested-marked, marked-tested}
use Rattle.model_core.proofs.PlacesChanged.{same_number}
use Rattle.model_core.proofs.BothTrue.{and_first, and_second}
use Rattle.mark_laws.proofs.EntailedMarks.{HoldEntailed, place-among}
use Rattle.model_core.proofs.EachOne.{every-joined}
use Rattle.var_slicing.proofs.LeadingLaws.{one_stream-streams}
use Rattle.var_slicing.proofs.ValuesLeft.{ReadsMarked, both_marks}
use Rattle.var_slicing.proofs.ChangesLeft.{IndexReadsMarked}
use Rattle.var_slicing.proofs.EdgesLeft.{DelayReadsMarked}
use Rattle.var_slicing.proofs.SlicedRuns.{WatchedMarked}

-- ---- what the parts need

-- a location that stays and what it takes read marked variables alone, and one that goes takes it quietly
abbrev pub StoreNeeds : EventGraph → List Bool → Location → Expression → Type 0
StoreNeeds g marks l e = (Marked marks l.variable → IndexReadsMarked marks l.index × ReadsMarked marks e) × (is_marked marks l.variable ≡ false → quiet_set g l e ≡ true)

abbrev pub SetNeeds : EventGraph → List Bool → Location × Expression → Type 0
SetNeeds g marks (l, e) = StoreNeeds g marks l e

abbrev pub ChangeNeeds : EventGraph → List Bool → List Bool → StateChange → Type 0
ChangeNeeds g marks live (Set targets rights) = AllByRecursion (SetNeeds g marks) (zip targets rights)
ChangeNeeds g marks live (Draw target stream choice) = (Marked marks target.variable → IndexReadsMarked marks target.index × Marked live stream) × (is_marked marks target.variable ≡ false → (is_marked live stream ≡ false) × (quiet_change g (Draw target stream choice) ≡ true))

abbrev pub ParameterNeeds : EventGraph → List Bool → ℕ × Expression → Type 0
ParameterNeeds g marks (v, e) = StoreNeeds g marks (scalar_location v) e

abbrev pub CarriedNeed : EventGraph → List Bool → EventEdge → Type 0
CarriedNeed g marks e = AllByRecursion (ParameterNeeds g marks) (carried_pairs g e)

abbrev pub KindNeeds : EventGraph → List Bool → EventEdge → EdgeKind → Type 0
KindNeeds g marks e (Schedule delay priority) = DelayReadsMarked marks delay × CarriedNeed g marks e
KindNeeds g marks e Urgent = CarriedNeed g marks e
KindNeeds g marks e CancelNext = Unit {0}
KindNeeds g marks e CancelEqual = AllByRecursion (Marked marks) (vertex_at g e.target).parameters × CarriedNeed g marks e
KindNeeds g marks e CancelAll = Unit {0}

abbrev pub EdgeNeeds : EventGraph → List Bool → EventEdge → Type 0
EdgeNeeds g marks e = ReadsMarked marks e.condition × KindNeeds g marks e e.kind

-- the stream of a drawn delay is live
abbrev pub DelayLives : List Bool → EventEdge → Type 0
DelayLives live e = AllByRecursion (Marked live) (edge_streams e)

pub record NeedsHold (g : EventGraph) (marks live : List Bool) : Type 0 where
  pub watched : AllByRecursion (WatchedMarked marks) g.watch
  pub first : AllByRecursion (Marked marks) (vertex_at g 0).parameters
  pub changes : AllByRecursion (λ (v : EventVertex). AllByRecursion (ChangeNeeds g marks live) v.changes) g.vertices
  pub edges : AllByRecursion (λ (v : EventVertex). AllByRecursion (EdgeNeeds g marks) v.edges) g.vertices
  pub delays : AllByRecursion (λ (v : EventVertex). AllByRecursion (DelayLives live) v.edges) g.vertices

-- ---- streams

-- the streams from which delays are drawn
abbrev delays_drawn : EventGraph → List ℕ
delays_drawn g = flat_map edge_streams (all_edges g)

abbrev draws_marked : List Bool → ℕ → ℕ × ℕ → Bool
draws_marked marks s (r, v) = (r == s) && is_marked marks v

-- a marked variable is drawn from this stream, or a delay is
abbrev is_live : EventGraph → List Bool → ℕ → Bool
is_live g marks s = list_any (draws_marked marks s) (all_draws g) || is_among (delays_drawn g) s

-- the streams from which a marked variable or a delay is drawn
abbrev pub live_streams : EventGraph → List Bool → List Bool
live_streams g marks = map (is_live g marks) (range_with_len 0 64)

-- ---- tests, and elements of pairs

true_unless : (b : Bool) (v : ℕ) → (Among v (cond b [] (v ∷ [])) → ⊥) → b ≡ true
true_unless true v never = refl
true_unless false v never = absurd (never (inl refl))

the_variable : (b : Bool) (u v : ℕ) → Among v (cond b [] (u ∷ [])) → u ≡ v
the_variable true u v h = absurd h
the_variable false u v (inl e) = e
the_variable false u v (inr h) = absurd h

among-first : {A B : Type 0} (xs : List A) (ys : List B) (x : A) (y : B) → Among (x, y) (zip xs ys) → Among x xs
among-first [] ys x y h = absurd h
among-first (z ∷ xs) [] x y h = absurd h
among-first {A} {B} (z ∷ xs) (w ∷ ys) x y (inl e) = inl (ap (λ (p : A × B). p.0) e)
among-first (z ∷ xs) (w ∷ ys) x y (inr h) = inr (among-first xs ys x y h)

among-second : {A B : Type 0} (xs : List A) (ys : List B) (x : A) (y : B) → Among (x, y) (zip xs ys) → Among y ys
among-second [] ys x y h = absurd h
among-second (z ∷ xs) [] x y h = absurd h
among-second {A} {B} (z ∷ xs) (w ∷ ys) x y (inl e) = inl (ap (λ (p : A × B). p.1) e)
among-second (z ∷ xs) (w ∷ ys) x y (inr h) = inr (among-second xs ys x y h)

-- ---- variables of written parts

abbrev AllBelow : ℕ → List ℕ → Type 0
AllBelow n vs = AllByRecursion (λ v. v < n) vs

pub variables-below : (n : ℕ) (e : Expression) → SpellableExpression n e → AllBelow n (variables_in e)
variables-below n (Number k) s = tt
variables-below n (Truth b) s = tt
variables-below n Clock s = tt
variables-below n (Scalar v) s = (s, tt)
variables-below n (Cell v e) s = (s.0, variables-below n e s.1)
variables-below n (Negative a) s = variables-below n a s
variables-below n (Not a) s = variables-below n a s
variables-below n (Binary op a b) s = every-joined (λ v. v < n) (variables_in a) (variables_in b) (variables-below n a s.0) (variables-below n b s.1)
variables-below n (If c a b) s =
    every-joined (λ v. v < n) (variables_in c ++ variables_in a) (variables_in b) (every-joined (λ v. v < n) (variables_in c) (variables_in a) (variables-below n c s.0) (variables-below n a s.1)) (variables-below n b s.2)

delay-below : (x : Extent) (delay : Delay) → SpellableDelay x delay → AllBelow x.variables (delay_reads delay)
delay-below x (Fixed e) s = variables-below x.variables e s
delay-below x (Drawn stream choice) s = tt

streams-few : (variables : List Variable) (tables : ℕ) (takes : List (List ℕ)) (kind : EdgeKind) → KeepsTiming variables tables takes kind → AllByRecursion (λ s. s ≤ 63) (option_map_or delay_streams (delay_given kind) [])
streams-few variables tables takes (Schedule (Fixed e) priority) k = tt
streams-few variables tables takes (Schedule (Drawn stream choice) priority) k = (k.0.0, tt)
streams-few variables tables takes Urgent k = tt
streams-few variables tables takes CancelNext k = tt
streams-few variables tables takes CancelEqual k = tt
streams-few variables tables takes CancelAll k = tt

-- a variable that is drawn from one of these streams is among those that are
among-drawn_from : (streams : List ℕ) (draws : List (ℕ × ℕ)) (s v : ℕ) → is_among streams s ≡ true → Among (s, v) draws → Among v (drawn_from streams draws)
among-drawn_from streams draws s v of_delay there =
    among-map (λ ((s, v) : ℕ × ℕ). v) (filter (λ (s, v). is_among streams s) draws) (s, v) (among-filter (λ ((s, v) : ℕ × ℕ). is_among streams s) draws (s, v) there of_delay)

location-below : (n : ℕ) (l : Location) → SpellableLocation n l → AllBelow n (location_reads l)
location-below n l s = index l.index s.index where
  index : (i : Option Expression) → IfSome i (SpellableExpression n) → AllBelow n (index_reads i)
  index None s = tt
  index (Some e) s = variables-below n e s

module _ (g : EventGraph) (s : IsSpellable g) (keeps : KeepsParts g) (marks : List Bool) (hold : HoldEntailed (length g.variables) (needed_at_once g) (needed_beside g) marks) where
  abbrev count : ℕ
  count = length g.variables

  abbrev live : List Bool
  live = live_streams g marks

  begin-marked : (xs : List ℕ) → AllBelow count xs → ((w : ℕ) → Among w xs → Among w (needed_at_once g)) → AllByRecursion (Marked marks) xs
  begin-marked xs below into = each-among (Marked marks) xs (λ w there. hold.begins w (into w there) (of-among (λ v. v < count) xs w below there))

  led-marked : (v : ℕ) → Marked marks v → (xs : List ℕ) → AllBelow count xs → ((w : ℕ) → Among w xs → Among (v, w) (needed_beside g)) → AllByRecursion (Marked marks) xs
  led-marked v marked xs below into = each-among (Marked marks) xs (λ w there. hold.leads v w marked (into w there) (of-among (λ v. v < count) xs w below there))

  -- ---- these are among what is needed

  abbrev at_writes : List ℕ
  at_writes = flat_map (faulting_writes g) (all_changes g)

  abbrev at_edges : List ℕ
  at_edges = flat_map (needed_by_edge g) (all_edges g)

  abbrev of_parts : List ℕ
  of_parts = watched_variables g.watch ++ (vertex_at g 0).parameters ++ at_writes ++ at_edges

  of-part : (w : ℕ) → Among w of_parts → Among w (needed_at_once g)
  of-part w h = among-front of_parts (needed_by_delays g) w h

  of-watch : (w : ℕ) → Among w (watched_variables g.watch) → Among w (needed_at_once g)
  of-watch w h = of-part w (among-front (watched_variables g.watch ++ (vertex_at g 0).parameters ++ at_writes) at_edges w (among-front (watched_variables g.watch ++ (vertex_at g 0).parameters) at_writes w (among-front (watched_variables g.watch) (vertex_at g 0).parameters w h)))

  of-first : (w : ℕ) → Among w (vertex_at g 0).parameters → Among w (needed_at_once g)
  of-first w h = of-part w (among-front (watched_variables g.watch ++ (vertex_at g 0).parameters ++ at_writes) at_edges w (among-front (watched_variables g.watch ++ (vertex_at g 0).parameters) at_writes w (among-back (watched_variables g.watch) (vertex_at g 0).parameters w h)))

  of-write : (c : StateChange) → Among c (all_changes g) → (w : ℕ) → Among w (faulting_writes g c) → Among w (needed_at_once g)
  of-write c there w h = of-part w (among-front (watched_variables g.watch ++ (vertex_at g 0).parameters ++ at_writes) at_edges w (among-back (watched_variables g.watch ++ (vertex_at g 0).parameters) at_writes w (among-flat_map (faulting_writes g) (all_changes g) c w there h)))

  of-edge : (e : EventEdge) → Among e (all_edges g) → (w : ℕ) → Among w (needed_by_edge g e) → Among w (needed_at_once g)
  of-edge e there w h = of-part w (among-back (watched_variables g.watch ++ (vertex_at g 0).parameters ++ at_writes) at_edges w (among-flat_map (needed_by_edge g) (all_edges g) e w there h))

  of-delays : (w : ℕ) → Among w (needed_by_delays g) → Among w (needed_at_once g)
  of-delays w h = among-back of_parts (needed_by_delays g) w h

  abbrev by_targets : List (ℕ × ℕ)
  by_targets = flat_map needed_by_targets (all_changes g)

  abbrev by_parameters : List (ℕ × ℕ)
  by_parameters = flat_map (needed_by_parameters g) (all_edges g)

  beside-target : (c : StateChange) → Among c (all_changes g) → (p : ℕ × ℕ) → Among p (needed_by_targets c) → Among p (needed_beside g)
  beside-target c there p h = among-front (by_targets ++ by_parameters) (needed_by_streams (all_draws g)) p (among-front by_targets by_parameters p (among-flat_map needed_by_targets (all_changes g) c p there h))

  beside-parameter : (e : EventEdge) → Among e (all_edges g) → (p : ℕ × ℕ) → Among p (needed_by_parameters g e) → Among p (needed_beside g)
  beside-parameter e there p h = among-front (by_targets ++ by_parameters) (needed_by_streams (all_draws g)) p (among-back by_targets by_parameters p (among-flat_map (needed_by_parameters g) (all_edges g) e p there h))

  beside-stream : (p : ℕ × ℕ) → Among p (needed_by_streams (all_draws g)) → Among p (needed_beside g)
  beside-stream p h = among-back (by_targets ++ by_parameters) (needed_by_streams (all_draws g)) p h

  -- ---- changes

  abbrev of_set : Location × Expression → List ℕ
  of_set (l, e) = faulting_target g l e

  abbrev beside_set : Location × Expression → List (ℕ × ℕ)
  beside_set (l, e) = each_beside l.variable (location_reads l ++ variables_in e)

  set-needs : (targets : List Location) (rights : List Expression) → Among (Set targets rights) (all_changes g) → AllByRecursion (SpellableLocation count) targets → AllByRecursion (SpellableExpression count) rights → (p : Location × Expression) → Among p (zip targets rights) → SetNeeds g marks p
  set-needs targets rights there locations values (l, e) among =
      let location = of-among (SpellableLocation count) targets l locations (among-first targets rights l e among) in
      let value = of-among (SpellableExpression count) rights e values (among-second targets rights l e among) in
      let led : (w : ℕ) → Among w (location_reads l ++ variables_in e) → Among (l.variable, w) (needed_beside g) = λ w h. beside-target (Set targets rights) there (l.variable, w) (among-flat_map beside_set (zip targets rights) (l, e) (l.variable, w) among (among-map (λ w. (l.variable, w)) (location_reads l ++ variables_in e) w h)) in (
        (λ marked. (led-marked l.variable marked (location_reads l) (location-below count l location) (λ w h. led w (among-front (location_reads l) (variables_in e) w h)), led-marked l.variable marked (variables_in e) (variables-below count e value) (λ w h. led w (among-back (location_reads l) (variables_in e) w h)))),
        λ unmarked. true_unless (quiet_set g l e) l.variable (λ faults. both_marks marks l.variable (hold.begins l.variable (of-write (Set targets rights) there l.variable (among-flat_map of_set (zip targets rights) (l, e) l.variable among faults)) location.variable) unmarked),
      )

  -- a variable that is drawn from a stream of a marked one is marked
  drawn_too : (stream v w : ℕ) → Among (stream, v) (all_draws g) → Among (stream, w) (all_draws g) → w < count → Marked marks v → Marked marks w
  drawn_too stream v w here there below marked = hold.leads v w marked (beside-stream (v, w) (one_stream-streams count (all_draws g) v w (stream, here, there))) below

  draw-live : (target : Location) (stream : ℕ) (choice : Choice) → Among (Draw target stream choice) (all_changes g) → stream ≤ 63 → Marked marks target.variable → Marked live stream
  draw-live target stream choice there few marked =
      let drawn = among-flat_map streams_drawn (all_changes g) (Draw target stream choice) (stream, target.variable) there (inl refl) in
      tested-marked (is_live g marks) 64 stream (omega (arith, few)) (first_true (list_any (draws_marked marks stream) (all_draws g)) (is_among (delays_drawn g) stream)
      (among-any (draws_marked marks stream) (all_draws g) (stream, target.variable) drawn (and_from (stream == stream) (is_marked marks target.variable) (same_number stream stream refl) marked)))

  draw-dead : (target : Location) (stream : ℕ) (choice : Choice) → Among (Draw target stream choice) (all_changes g) → target.variable < count → is_marked marks target.variable ≡ false → is_marked live stream ≡ false
  draw-dead target stream choice there below unmarked = false_from_ne_true (is_marked live stream) (λ lives.
      let drawn = among-flat_map streams_drawn (all_changes g) (Draw target stream choice) (stream, target.variable) there (inl refl) in
      elim (either_true (list_any (draws_marked marks stream) (all_draws g)) (is_among (delays_drawn g) stream) (marked-tested (is_live g marks) 64 stream lives)) [
        | inl h ↦
            let ((r, v), drawn_so, test) = any-among (draws_marked marks stream) (all_draws g) h in
            let same = eqb-true r stream (and_first (r == stream) (is_marked marks v) test) in
            both_marks marks target.variable (drawn_too stream v target.variable (subst (λ (r : ℕ). Among (r, v) (all_draws g)) same drawn_so) drawn below (and_second (r == stream) (is_marked marks v) test)) unmarked
        | inr h ↦ both_marks marks target.variable (hold.begins target.variable (of-delays target.variable (among-drawn_from (delays_drawn g) (all_draws g) stream target.variable h drawn)) below) unmarked
      ])

  change-needs : (c : StateChange) → Among c (all_changes g) → SpellableChange (extent g) c → KeepsChange g.variables (length g.tables) (parameters_of g) c → ChangeNeeds g marks live c
  change-needs (Set targets rights) there spelled rules = each-among (SetNeeds g marks) (zip targets rights) (set-needs targets rights there spelled.parts.1 spelled.parts.3)
  change-needs (Draw target stream choice) there spelled rules =
      let location = spelled.parts.0 in (
        (λ marked. (led-marked target.variable marked (location_reads target) (location-below count target location) (λ w h. beside-target (Draw target stream choice) there (target.variable, w) (among-map (λ w. (target.variable, w)) (location_reads target) w h)), draw-live target stream choice there rules.1.0 marked)),
        λ unmarked. (draw-dead target stream choice there location.variable unmarked, true_unless (quiet_change g (Draw target stream choice)) target.variable (λ faults. both_marks marks target.variable (hold.begins target.variable (of-write (Draw target stream choice) there target.variable faults) location.variable) unmarked)),
      )

  -- ---- edges

  abbrev of_carried : ℕ × Expression → List ℕ
  of_carried (v, x) = faulting_target g (scalar_location v) x

  abbrev beside_carried : ℕ × Expression → List (ℕ × ℕ)
  beside_carried (v, x) = each_beside v (variables_in x)

  vertices_written : (v : EventVertex) → Among v g.vertices → SpellableVertex (extent g) v
  vertices_written v there = of-among (SpellableVertex (extent g)) g.vertices v s.vertices there

  parameters-below : (k : ℕ) → AllBelow count (vertex_at g k).parameters
  parameters-below k = slice_index_or-all (λ (v : EventVertex). AllBelow count v.parameters) g.vertices no_vertex k (each-among (λ (v : EventVertex). AllBelow count v.parameters) g.vertices (λ v there. (vertices_written v there).parameters)) tt

  compared-marked : (e : EventEdge) → Among e (all_edges g) → e.kind ≡ CancelEqual → AllByRecursion (Marked marks) (vertex_at g e.target).parameters
  compared-marked e there is = begin-marked (vertex_at g e.target).parameters (parameters-below e.target) (λ w h.
      of-edge e there w (among-front (compared_parameters g e ++ deciding_reads e) (faulting_parameters g e) w (among-front (compared_parameters g e) (deciding_reads e) w
      (subst (λ (k : EdgeKind). Among w (cond (compares_values k) (vertex_at g e.target).parameters [])) (sym is) h))))

  carried-needs : (e : EventEdge) → Among e (all_edges g) → SpellableEdge (extent g) e → ((v : ℕ) → Among v (flat_map of_carried (carried_pairs g e)) → is_marked marks v ≡ false → ⊥) → CarriedNeed g marks e
  carried-needs e there spelled goes = each-among (ParameterNeeds g marks) (carried_pairs g e) (λ ((v, x) : ℕ × Expression) among.
      let value = of-among (SpellableExpression count) e.values x spelled.values (among-second (vertex_at g e.target).parameters e.values v x among) in (
        (λ marked. (tt, led-marked v marked (variables_in x) (variables-below count x value) (λ w h. beside-parameter e there (v, w) (among-flat_map beside_carried (carried_pairs g e) (v, x) (v, w) among (among-map (λ w. (v, w)) (variables_in x) w h))))),
        λ unmarked. true_unless (quiet_set g (scalar_location v) x) v (λ faults. goes v (among-flat_map of_carried (carried_pairs g e) (v, x) v among faults) unmarked),
      ))

  faulting-marked : (e : EventEdge) → Among e (all_edges g) → is_scheduling e.kind ≡ true → (v : ℕ) → Among v (flat_map of_carried (carried_pairs g e)) → v < count → Marked marks v
  faulting-marked e there is v h below =
      hold.begins v (of-edge e there v (among-back (compared_parameters g e ++ deciding_reads e) (faulting_parameters g e) v
      (subst (λ (b : Bool). Among v (cond b (flat_map of_carried (carried_pairs g e)) [])) (sym is) h))) below

  of_carried-below : (e : EventEdge) (v : ℕ) → Among v (flat_map of_carried (carried_pairs g e)) → v < count
  of_carried-below e v h =
      let ((u, x), among, faults) = among-of_flat_map of_carried (carried_pairs g e) v h in
      let same : u ≡ v = the_variable (quiet_set g (scalar_location u) x) u v faults in
      subst (λ v. v < count) same (of-among (λ v. v < count) (vertex_at g e.target).parameters u (parameters-below e.target) (among-first (vertex_at g e.target).parameters e.values u x among))

  quiet-carried : (e : EventEdge) → Among e (all_edges g) → SpellableEdge (extent g) e → is_scheduling e.kind ≡ true → CarriedNeed g marks e
  quiet-carried e there spelled is = carried-needs e there spelled (λ v h unmarked. both_marks marks v (faulting-marked e there is v h (of_carried-below e v h)) unmarked)

  compared-carried : (e : EventEdge) → Among e (all_edges g) → SpellableEdge (extent g) e → e.kind ≡ CancelEqual → CarriedNeed g marks e
  compared-carried e there spelled is = carried-needs e there spelled (λ v h unmarked.
      let ((u, x), among, faults) = among-of_flat_map of_carried (carried_pairs g e) v h in
      let same : u ≡ v = the_variable (quiet_set g (scalar_location u) x) u v faults in
      both_marks marks v (subst (Marked marks) same (of-among (Marked marks) (vertex_at g e.target).parameters u (compared-marked e there is) (among-first (vertex_at g e.target).parameters e.values u x among))) unmarked)

  deciding-marked : (e : EventEdge) → Among e (all_edges g) → (xs : List ℕ) → AllBelow count xs → ((w : ℕ) → Among w xs → Among w (deciding_reads e)) → AllByRecursion (Marked marks) xs
  deciding-marked e there xs below into = begin-marked xs below (λ w h.
      of-edge e there w (among-front (compared_parameters g e ++ deciding_reads e) (faulting_parameters g e) w (among-back (compared_parameters g e) (deciding_reads e) w (into w h))))

  delay-marked : (e : EventEdge) → Among e (all_edges g) → SpellableEdge (extent g) e → (delay : Delay) (priority : ℕ) → e.kind ≡ Schedule delay priority → DelayReadsMarked marks delay
  delay-marked e there spelled delay priority is =
      let written = subst (SpellableKind (extent g)) is spelled.kind in
      deciding-marked e there (delay_reads delay) (delay-below (extent g) delay written.0) (λ w h. among-back (variables_in e.condition) (option_map_or delay_reads (delay_given e.kind) []) w (subst (λ (k : EdgeKind). Among w (option_map_or delay_reads (delay_given k) [])) (sym is) h))

  kind-needs : (e : EventEdge) → Among e (all_edges g) → SpellableEdge (extent g) e → (kind : EdgeKind) → e.kind ≡ kind → KindNeeds g marks e kind
  kind-needs e there spelled (Schedule delay priority) is = (delay-marked e there spelled delay priority is, quiet-carried e there spelled (ap is_scheduling is))
  kind-needs e there spelled Urgent is = quiet-carried e there spelled (ap is_scheduling is)
  kind-needs e there spelled CancelNext is = tt
  kind-needs e there spelled CancelEqual is = (compared-marked e there is, compared-carried e there spelled is)
  kind-needs e there spelled CancelAll is = tt

  edge-needs : (e : EventEdge) → Among e (all_edges g) → SpellableEdge (extent g) e → EdgeNeeds g marks e
  edge-needs e there spelled = (deciding-marked e there (variables_in e.condition) (variables-below count e.condition spelled.condition) (λ w h. among-front (variables_in e.condition) (option_map_or delay_reads (delay_given e.kind) []) w h), kind-needs e there spelled e.kind refl)

  delay-lives : (e : EventEdge) → Among e (all_edges g) → KeepsEdge g.variables (length g.tables) (parameters_of g) e → DelayLives live e
  delay-lives e there rules = each-among (Marked live) (edge_streams e) (λ stream drawn.
      let few = of-among (λ s. s ≤ 63) (edge_streams e) stream (streams-few g.variables (length g.tables) (parameters_of g) e.kind rules.timing) drawn in
      tested-marked (is_live g marks) 64 stream (omega (arith, few)) (second_true (list_any (draws_marked marks stream) (all_draws g)) (is_among (delays_drawn g) stream)
      (place-among (delays_drawn g) stream (among-flat_map edge_streams (all_edges g) e stream there drawn))))

  -- ---- all parts

  watched-marked : (watch : List Watched) → AllByRecursion (SpellableWatched (extent g)) watch → ((w : ℕ) → Among w (watched_variables watch) → Among w (needed_at_once g)) → AllByRecursion (WatchedMarked marks) watch
  watched-marked [] spelled into = tt
  watched-marked (WatchedVariable v ∷ watch) spelled into = (hold.begins v (into v (inl refl)) spelled.0, watched-marked watch spelled.1 (λ w h. into w (inr h)))
  watched-marked (WatchedVertex v ∷ watch) spelled into = (tt, watched-marked watch spelled.1 into)

  pub marks-hold_needs : NeedsHold g marks live
  marks-hold_needs = record {
    watched = watched-marked g.watch s.watch of-watch;
    first = begin-marked (vertex_at g 0).parameters (parameters-below 0) of-first;
    changes = each-among (λ (v : EventVertex). AllByRecursion (ChangeNeeds g marks live) v.changes) g.vertices (λ v there. each-among (ChangeNeeds g marks live) v.changes (λ c among.
        change-needs c (among-flat_map (λ (v : EventVertex). v.changes) g.vertices v c there among) (of-among (SpellableChange (extent g)) v.changes c (vertices_written v there).changes among)
        (of-among (KeepsChange g.variables (length g.tables) (parameters_of g)) v.changes c (of-among (KeepsVertex g.variables (length g.tables) (parameters_of g)) g.vertices v keeps.vertices there).changes among)));
    edges = each-among (λ (v : EventVertex). AllByRecursion (EdgeNeeds g marks) v.edges) g.vertices (λ v there. each-among (EdgeNeeds g marks) v.edges (λ e among.
        edge-needs e (among-flat_map (λ (v : EventVertex). v.edges) g.vertices v e there among) (of-among (SpellableEdge (extent g)) v.edges e (vertices_written v there).edges among)));
    delays = each-among (λ (v : EventVertex). AllByRecursion (DelayLives live) v.edges) g.vertices (λ v there. each-among (DelayLives live) v.edges (λ e among.
        delay-lives e (among-flat_map (λ (v : EventVertex). v.edges) g.vertices v e there among) (of-among (KeepsEdge g.variables (length g.tables) (parameters_of g)) v.edges e (of-among (KeepsVertex g.variables (length g.tables) (parameters_of g)) g.vertices v keeps.vertices there).edges among)));
  }
