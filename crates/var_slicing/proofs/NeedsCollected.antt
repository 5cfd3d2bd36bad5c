-- What is collected part by part is what is needed, but for what is marked anyway, and entails what the definition says.
use Rattle.std.proofs.Common.{◌≡◌, ◌⊎◌, inl, inr, ℕ, ◌<◌, Bool, List, [], ◌∷◌, ◌++◌, length, zip, refl, sym, ap, ap₂, subst, ◌∙◌, append-nil, append_assoc}
use Rattle.std.specs.Prelude.{not}
use Rattle.std.specs.List.{flat_map}
use Rattle.std.proofs.lemmas.Bool.{not-false}
use Rattle.std.proofs.lemmas.Grind.{flat_map-append}
use Rattle.model_core.specs.EventGraph.{EventGraph, Expression, Location, EventVertex, EventEdge, StateChange, Set, Draw, watched_variables}
use Rattle.model_core.specs.Run.Step.{vertex_at}
use Rattle.model_core.specs.Rules.MarkedPlaces.{is_marked}
use Rattle.model_core.specs.Rules.Uses.{variables_in, location_reads, edge_streams}
use Rattle.model_core.specs.Rules.Entailed.{entailed_marks}
use Rattle.model_core.specs.Rules.LeastRelations.{Entailed, from_first, over_pair}
use Rattle.model_core.specs.Rules.Needed.{all_changes, all_edges, carried_pairs, each_beside, compared_parameters, deciding_reads, faulting_writes, faulting_parameters, needed_by_edge, needed_by_targets, needed_by_parameters, needed_by_delays, streams_drawn, all_draws, needed_at_once, needed_beside, needed_marks}
use Rattle.model_core.proofs.Among.{Among, contained-among, among-front, among-back, among-either, among-flat_map, among-of_flat_map}
use Rattle.mark_laws.proofs.Marks.{Marked}
use Rattle.mark_laws.proofs.EntailedMarks.{Implied, marks-implied, entailed_marks-entailed}
use Rattle.mark_laws.specs.PlacePairs.{pairs_from}
use Rattle.var_slicing.specs.Inner.Leading.{leaders_of, leader_pairs}
use Rattle.var_slicing.specs.Inner.Linking.{no_lists, lists_of_pairs}
use Rattle.var_slicing.specs.Inner.Needing.{Collected, nothing, added_each, needed_to_decide, with_streams, with_edge, with_edges, with_all_edges, collected_at_once, open_pairs, target_pairs, value_pairs, with_targets, with_change, with_changes, with_all_changes, edge_pairs, with_value_pairs, with_drawn, marked_at_once, with_all_pairs, all_needs}
use Rattle.var_slicing.specs.Inner.Faulting.{faulting_unless}
use Rattle.var_slicing.specs.Inner.MarkedTwice.{marked_over, marked_with_faults}
use Rattle.var_slicing.proofs.AllWatched.{no_pair}
use Rattle.var_slicing.proofs.LinkedLaws.{lists_of_pairs-length, pairs-lists_of_pairs, lists_of_pairs-pairs}
use Rattle.var_slicing.proofs.LeadingLaws.{through_leaders, streams-led, led-streams}
use Rattle.var_slicing.proofs.DelayStreams.{streams-both, drawn-once}
use Rattle.var_slicing.proofs.LeavingOut.{LeavesOut, left-joined, left-each, left-filtered}
use Rattle.var_slicing.proofs.ReadsBeside.{reads-added}
use Rattle.var_slicing.proofs.FaultsAdded.{added-flat, all_faulting, faults-left}
use Rattle.var_slicing.proofs.MarkedAgain.{Covered, entailed-covered, front-covered, marks-covered}

-- ---- pairs, one part after the other

module _ (marks : List Bool) where
  abbrev open_by_targets : StateChange → List (ℕ × ℕ)
  open_by_targets (Set targets rights) = flat_map (λ ((l, e) : Location × Expression). target_pairs marks l e) (zip targets rights)
  open_by_targets (Draw target stream choice) = open_pairs marks (each_beside target.variable (location_reads target))

  targets-added : (c : StateChange) (pairs : List (ℕ × ℕ)) → with_targets marks c pairs ≡ pairs ++ open_by_targets c
  targets-added (Set targets rights) pairs = refl
  targets-added (Draw target stream choice) pairs = reads-added marks target.variable pairs (location_reads target)

  changes-append : (cs ds : List StateChange) (n : Collected) → with_changes marks (cs ++ ds) n ≡ with_changes marks ds (with_changes marks cs n)
  changes-append [] ds n = refl
  changes-append (c ∷ cs) ds n = changes-append cs ds (with_change marks c n)

  changes-of_all : (vs : List EventVertex) (n : Collected) → with_all_changes marks vs n ≡ with_changes marks (flat_map (λ (v : EventVertex). v.changes) vs) n
  changes-of_all [] n = refl
  changes-of_all (v ∷ vs) n =
      changes-of_all vs (with_changes marks v.changes n) ∙ sym (changes-append v.changes (flat_map (λ (v : EventVertex). v.changes) vs) n)

  changes-added : (cs : List StateChange) (n : Collected) → with_changes marks cs n ≡ record { first = n.first; pairs = n.pairs ++ flat_map open_by_targets cs; draws = n.draws ++ flat_map streams_drawn cs; delays = n.delays }
  changes-added [] n = λ i. record { first = n.first; pairs = sym (append-nil n.pairs) i; draws = sym (append-nil n.draws) i; delays = n.delays }
  changes-added (c ∷ cs) n =
      let paired : with_targets marks c n.pairs ++ flat_map open_by_targets cs ≡ n.pairs ++ flat_map open_by_targets (c ∷ cs)
      = ap (λ (ps : List (ℕ × ℕ)). ps ++ flat_map open_by_targets cs) (targets-added c n.pairs) ∙ append_assoc n.pairs (open_by_targets c) (flat_map open_by_targets cs) in
      changes-added cs (with_change marks c n)
      ∙ (λ i. record { first = n.first; pairs = paired i; draws = append_assoc n.draws (streams_drawn c) (flat_map streams_drawn cs) i; delays = n.delays })

  carried-added : (g : EventGraph) (vs : List EventVertex) (pairs : List (ℕ × ℕ)) → with_value_pairs marks g vs pairs ≡ pairs ++ flat_map (edge_pairs marks g) (flat_map (λ (v : EventVertex). v.edges) vs)
  carried-added g [] pairs = sym (append-nil pairs)
  carried-added g (v ∷ vs) pairs =
      let later = flat_map (λ (v : EventVertex). v.edges) vs in
      carried-added g vs (added_each (edge_pairs marks g) v.edges pairs)
      ∙ ap (λ (ps : List (ℕ × ℕ)). ps ++ flat_map (edge_pairs marks g) later) (added-flat (edge_pairs marks g) v.edges pairs)
      ∙ append_assoc pairs (flat_map (edge_pairs marks g) v.edges) (flat_map (edge_pairs marks g) later)
      ∙ ap (λ (ps : List (ℕ × ℕ)). pairs ++ ps) (sym (flat_map-append (edge_pairs marks g) v.edges later))

  -- ---- what is left out leads to what is marked

  abbrev LeadsToMarked : ℕ × ℕ → Type 0
  LeadsToMarked p = Marked marks p.1

  abbrev Leaves : List (ℕ × ℕ) → List (ℕ × ℕ) → Type 0
  Leaves = LeavesOut LeadsToMarked

  open-left : (pairs : List (ℕ × ℕ)) → Leaves pairs (open_pairs marks pairs)
  open-left pairs = left-filtered LeadsToMarked (λ ((v, w) : ℕ × ℕ). not (is_marked marks w)) (λ p closed. not-false (is_marked marks p.1) closed) pairs

  targets-left : (c : StateChange) → Leaves (needed_by_targets c) (open_by_targets c)
  targets-left (Set targets rights) =
      left-each LeadsToMarked (λ ((l, e) : Location × Expression). each_beside l.variable (location_reads l ++ variables_in e)) (λ ((l, e) : Location × Expression). target_pairs marks l e)
      (λ (p : Location × Expression). open-left (each_beside p.0.variable (location_reads p.0 ++ variables_in p.1))) (zip targets rights)
  targets-left (Draw target stream choice) = open-left (each_beside target.variable (location_reads target))

  parameters-left : (g : EventGraph) (e : EventEdge) → Leaves (needed_by_parameters g e) (edge_pairs marks g e)
  parameters-left g e =
      left-each LeadsToMarked (λ ((v, x) : ℕ × Expression). each_beside v (variables_in x)) (λ ((v, x) : ℕ × Expression). value_pairs marks v x)
      (λ (p : ℕ × Expression). open-left (each_beside p.0 (variables_in p.1))) (carried_pairs g e)

module _ (g : EventGraph) where
  edges-append : (es fs : List EventEdge) (n : Collected) → with_edges g (es ++ fs) n ≡ with_edges g fs (with_edges g es n)
  edges-append [] fs n = refl
  edges-append (e ∷ es) fs n = edges-append es fs (with_edge g e n)

  edges-of_all : (vs : List EventVertex) (n : Collected) → with_all_edges g vs n ≡ with_edges g (flat_map (λ (v : EventVertex). v.edges) vs) n
  edges-of_all [] n = refl
  edges-of_all (v ∷ vs) n = edges-of_all vs (with_edges g v.edges n) ∙ sym (edges-append v.edges (flat_map (λ (v : EventVertex). v.edges) vs) n)

  edges-added : (es : List EventEdge) (n : Collected) → with_edges g es n ≡ record { first = n.first ++ flat_map (needed_to_decide g) es; pairs = n.pairs; draws = n.draws; delays = with_streams n.delays (flat_map edge_streams es) }
  edges-added [] n = λ i. record { first = sym (append-nil n.first) i; pairs = n.pairs; draws = n.draws; delays = n.delays }
  edges-added (e ∷ es) n =
      edges-added es (with_edge g e n)
      ∙ (λ i. record {
        first = append_assoc n.first (needed_to_decide g e) (flat_map (needed_to_decide g) es) i;
        pairs = n.pairs;
        draws = n.draws;
        delays = streams-both n.delays (edge_streams e) (flat_map edge_streams es) i;
      })

  -- ---- all that is collected

  abbrev at_begin : List ℕ
  at_begin = watched_variables g.watch ++ (vertex_at g 0).parameters

  abbrev to_decide : List ℕ
  to_decide = flat_map (needed_to_decide g) (all_edges g)

  -- what is needed at once, but for what may fault and what is drawn from a stream of a delay
  abbrev first_of_all : List ℕ
  first_of_all = at_begin ++ to_decide

  -- the streams from which delays are drawn, each once
  abbrev delays_once : List ℕ
  delays_once = with_streams [] (flat_map edge_streams (all_edges g))

  at_once-all : collected_at_once g ≡ record { first = first_of_all; pairs = []; draws = []; delays = delays_once }
  at_once-all = edges-of_all g.vertices (record nothing { first = at_begin }) ∙ edges-added (all_edges g) (record nothing { first = at_begin })

  abbrev marks : List Bool
  marks = marked_at_once g

  -- the pairs of targets and parameters that don't lead to what is known
  abbrev still_open : List (ℕ × ℕ)
  still_open = flat_map (open_by_targets marks) (all_changes g) ++ flat_map (edge_pairs marks g) (all_edges g)

  -- all of them
  abbrev plain_pairs : List (ℕ × ℕ)
  plain_pairs = flat_map needed_by_targets (all_changes g) ++ flat_map (needed_by_parameters g) (all_edges g)

  abbrev without_faults : List ℕ
  without_faults = first_of_all ++ needed_by_delays g

  pub all_needs-all : all_needs g ≡ record { first = without_faults; pairs = still_open; draws = all_draws g; delays = delays_once }
  all_needs-all =
      let begun : Collected = record { first = first_of_all; pairs = []; draws = []; delays = delays_once } in
      let paired : List (ℕ × ℕ) → Collected = λ ps. record { first = first_of_all; pairs = ps; draws = all_draws g; delays = delays_once } in
      ap (λ (n : Collected). with_drawn (with_all_pairs marks g n)) at_once-all
      ∙ ap (λ (n : Collected). with_drawn (record n { pairs = with_value_pairs marks g g.vertices n.pairs })) (changes-of_all marks g.vertices begun ∙ changes-added marks (all_changes g) begun)
      ∙ ap (λ (ps : List (ℕ × ℕ)). with_drawn (paired ps)) (carried-added marks g g.vertices (flat_map (open_by_targets marks) (all_changes g)))
      ∙ (λ i. record { first = first_of_all ++ drawn-once (flat_map edge_streams (all_edges g)) (all_draws g) i; pairs = still_open; draws = all_draws g; delays = delays_once })

  -- ---- marks over the list of each variable

  abbrev count : ℕ
  count = length g.variables

  abbrev led : List (ℕ × ℕ)
  led = through_leaders count (all_draws g)

  abbrev HoldsFirst : List ℕ → Type 0
  HoldsFirst first = (k : ℕ) → Among k first_of_all → Among k first

  pairs-left : LeavesOut (LeadsToMarked marks) plain_pairs still_open
  pairs-left =
      left-joined (LeadsToMarked marks) (flat_map needed_by_targets (all_changes g)) (flat_map (open_by_targets marks) (all_changes g)) (flat_map (needed_by_parameters g) (all_edges g)) (flat_map (edge_pairs marks g) (all_edges g))
      (left-each (LeadsToMarked marks) needed_by_targets (open_by_targets marks) (targets-left marks) (all_changes g))
      (left-each (LeadsToMarked marks) (needed_by_parameters g) (edge_pairs marks g) (parameters-left marks g) (all_edges g))

  -- what is known is entailed over any pairs
  marked_at_once-entailed : (first : List ℕ) → HoldsFirst first → (pairs : List (ℕ × ℕ)) (k : ℕ) → Marked marks k → Entailed count first pairs k
  marked_at_once-entailed first holds pairs k marked =
      no_pair count (collected_at_once g).first first pairs (λ k there. holds k (subst (λ (n : Collected). Among k n.first) at_once-all there)) (entailed_marks-entailed count (collected_at_once g).first [] k marked)

  plain-open : (first : List ℕ) → HoldsFirst first → Implied count first (plain_pairs ++ led) (still_open ++ led)
  plain-open first holds = record { over = λ j k among below before. by j k below before (among-either plain_pairs led (j, k) among) } where
    over : (j k : ℕ) → k < count → Entailed count first (still_open ++ led) j → Among (j, k) (still_open ++ led) → Entailed count first (still_open ++ led) k
    over j k below before there = over_pair j k below before (contained-among (still_open ++ led) (j, k) there)

    by : (j k : ℕ) → k < count → Entailed count first (still_open ++ led) j → Among (j, k) plain_pairs ⊎ Among (j, k) led → Entailed count first (still_open ++ led) k
    by j k below before (inr h) = over j k below before (among-back still_open led (j, k) h)
    by j k below before (inl h) = elim (pairs-left.0 (j, k) h) [
      | inl marked ↦ marked_at_once-entailed first holds (still_open ++ led) k marked
      | inr stays ↦ over j k below before (among-front still_open led (j, k) stays)
    ]

  open-plain : (first : List ℕ) → Implied count first (still_open ++ led) (plain_pairs ++ led)
  open-plain first = record { over = λ j k among below before. over_pair j k below before (contained-among (plain_pairs ++ led) (j, k) (by j k (among-either still_open led (j, k) among))) } where
    by : (j k : ℕ) → Among (j, k) still_open ⊎ Among (j, k) led → Among (j, k) (plain_pairs ++ led)
    by j k (inl h) = among-front plain_pairs led (j, k) (pairs-left.1 (j, k) h)
    by j k (inr h) = among-back plain_pairs led (j, k) h

  abbrev next : List (List ℕ)
  next = lists_of_pairs (still_open ++ led) (no_lists count)

  over-all : (first : List ℕ) → HoldsFirst first → marked_over next first ≡ entailed_marks count first (needed_beside g)
  over-all first holds =
      ap (λ (n : ℕ). entailed_marks n first (pairs_from 0 next)) (lists_of_pairs-length (still_open ++ led) count)
      ∙ marks-implied count first (pairs_from 0 next) (still_open ++ led) (lists_of_pairs-pairs (still_open ++ led) count first) (pairs-lists_of_pairs (still_open ++ led) count first)
      ∙ marks-implied count first (still_open ++ led) (plain_pairs ++ led) (open-plain first) (plain-open first holds)
      ∙ marks-implied count first (plain_pairs ++ led) (needed_beside g) (led-streams count first plain_pairs (all_draws g)) (streams-led count first plain_pairs (all_draws g))

  -- ---- what may fault is added where nothing is marked

  abbrev found : List Bool
  found = marked_over next without_faults

  abbrev faults : List ℕ
  faults = faulting_unless found g

  abbrev writes : List ℕ
  writes = flat_map (faulting_writes g) (all_changes g)

  abbrev at_edges : List ℕ
  at_edges = flat_map (needed_by_edge g) (all_edges g)

  first-held : HoldsFirst without_faults
  first-held k there = among-front first_of_all (needed_by_delays g) k there

  first-in : (k : ℕ) → Among k first_of_all → Among k (without_faults ++ faults)
  first-in k there = among-front without_faults faults k (first-held k there)

  -- these are among what is needed at once
  needs-part : (k : ℕ) → Among k (at_begin ++ writes ++ at_edges) → Among k (needed_at_once g)
  needs-part k h = among-front (at_begin ++ writes ++ at_edges) (needed_by_delays g) k h

  needs-edge : (e : EventEdge) → Among e (all_edges g) → (k : ℕ) → Among k (needed_by_edge g e) → Among k (needed_at_once g)
  needs-edge e there k h = needs-part k (among-back (at_begin ++ writes) at_edges k (among-flat_map (needed_by_edge g) (all_edges g) e k there h))

  needs-fault : (k : ℕ) → Among k (all_faulting found g) → Among k (needed_at_once g)
  needs-fault k h = elim (among-either writes (flat_map (faulting_parameters g) (all_edges g)) k h) [
    | inl written ↦ needs-part k (among-front (at_begin ++ writes) at_edges k (among-back at_begin writes k written))
    | inr given ↦
        let (e, there, faults) = among-of_flat_map (faulting_parameters g) (all_edges g) k given in
        needs-edge e there k (among-back (compared_parameters g e ++ deciding_reads e) (faulting_parameters g e) k faults)
  ]

  needs-first : (k : ℕ) → Among k first_of_all → Among k (needed_at_once g)
  needs-first k h = elim (among-either at_begin to_decide k h) [
    | inl begins ↦ needs-part k (among-front (at_begin ++ writes) at_edges k (among-front at_begin writes k begins))
    | inr decides ↦
        let (e, there, reads) = among-of_flat_map (needed_to_decide g) (all_edges g) k decides in
        needs-edge e there k (among-front (compared_parameters g e ++ deciding_reads e) (faulting_parameters g e) k reads)
  ]

  needs-all : (k : ℕ) → Among k (without_faults ++ faults) → Among k (needed_at_once g)
  needs-all k h = elim (among-either without_faults faults k h) [
    | inl plain ↦ elim (among-either first_of_all (needed_by_delays g) k plain) [
      | inl first ↦ needs-first k first
      | inr drawn ↦ among-back (at_begin ++ writes ++ at_edges) (needed_by_delays g) k drawn
    ]
    | inr faulting ↦ needs-fault k ((faults-left found g).1 k faulting)
  ]

  -- what may fault is added_each, or marked already
  fault-covered : (k : ℕ) → k < count → Among k (all_faulting found g) → Entailed count (without_faults ++ faults) (needed_beside g) k
  fault-covered k below h = elim ((faults-left found g).0 k h) [
    | inl marked ↦
        entailed-covered count (needed_beside g) without_faults (without_faults ++ faults) (front-covered count (needed_beside g) without_faults faults)
        (entailed_marks-entailed count without_faults (needed_beside g) k (subst (λ (marks : List Bool). Marked marks k) (over-all without_faults first-held) marked))
    | inr stays ↦ from_first k below (contained-among (without_faults ++ faults) k (among-back without_faults faults k stays))
  ]

  needed-covered : Covered count (needed_beside g) (needed_at_once g) (without_faults ++ faults)
  needed-covered k below h = elim (among-either (at_begin ++ writes ++ at_edges) (needed_by_delays g) k h) [
    | inl parts ↦ elim (among-either (at_begin ++ writes) at_edges k parts) [
      | inl begins ↦ elim (among-either at_begin writes k begins) [
        | inl first ↦ there (first-in k (among-front at_begin to_decide k first))
        | inr written ↦ fault-covered k below (among-front writes (flat_map (faulting_parameters g) (all_edges g)) k written)
      ]
      | inr edges ↦
          let (e, at, needs) = among-of_flat_map (needed_by_edge g) (all_edges g) k edges in
          elim (among-either (compared_parameters g e ++ deciding_reads e) (faulting_parameters g e) k needs) [
            | inl reads ↦ there (first-in k (among-back at_begin to_decide k (among-flat_map (needed_to_decide g) (all_edges g) e k at reads)))
            | inr given ↦ fault-covered k below (among-back writes (flat_map (faulting_parameters g) (all_edges g)) k (among-flat_map (faulting_parameters g) (all_edges g) e k at given))
          ]
    ]
    | inr drawn ↦ there (among-front without_faults faults k (among-back first_of_all (needed_by_delays g) k drawn))
  ] where
    there : Among k (without_faults ++ faults) → Entailed count (without_faults ++ faults) (needed_beside g) k
    there among = from_first k below (contained-among (without_faults ++ faults) k among)

  pub twice-needed : marked_with_faults g next without_faults ≡ needed_marks g
  twice-needed =
      over-all (without_faults ++ faults) first-in
      ∙ marks-covered count (needed_beside g) (without_faults ++ faults) (needed_at_once g) (λ k below h. from_first k below (contained-among (needed_at_once g) k (needs-all k h))) needed-covered

-- from what the calls give
pub needed-marked : (g : EventGraph) (n : Collected) (pairs : List (ℕ × ℕ)) (next : List (List ℕ)) (size : ℕ) → n ≡ all_needs g → size ≡ length g.variables → pairs ≡ n.pairs ++ flat_map (leader_pairs (leaders_of size n.draws)) n.draws → next ≡ lists_of_pairs pairs (no_lists size) → marked_with_faults g next n.first ≡ needed_marks g
needed-marked g n pairs next size all sized paired listed =
    let whole : n ≡ record { first = without_faults g; pairs = still_open g; draws = all_draws g; delays = delays_once g } = all ∙ all_needs-all g in
    let of : Collected → ℕ → List (List ℕ) = λ m k. lists_of_pairs (m.pairs ++ flat_map (leader_pairs (leaders_of k m.draws)) m.draws) (no_lists k) in
    let lists : next ≡ of n size = listed ∙ ap (λ (ps : List (ℕ × ℕ)). lists_of_pairs ps (no_lists size)) paired in
    ap (λ (ls : List (List ℕ)). marked_with_faults g ls n.first) lists
    ∙ ap₂ (λ (m : Collected) (k : ℕ). marked_with_faults g (of m k) m.first) whole sized
    ∙ twice-needed g
