-- What may fault and isn't marked: all that may fault, but for what is marked.
use Rattle.std.proofs.Common.{◌≡◌, ◌⊎◌, inl, inr, ℕ, Bool, true, false, cond, List, [], ◌∷◌, ◌++◌, zip, refl, sym, ap, subst, ◌∙◌, append-nil, append_assoc}
use Rattle.std.specs.List.{flat_map}
use Rattle.model_core.specs.EventGraph.{EventGraph, EventVertex, EventEdge, Expression, Location, StateChange, Set, Draw, is_scheduling, scalar_location}
use Rattle.model_core.specs.Rules.BoundsOfParts.{quiet_set, quiet_change}
use Rattle.model_core.specs.Rules.MarkedPlaces.{is_marked}
use Rattle.model_core.specs.Rules.Needed.{all_changes, all_edges, carried_pairs, faulting_target, faulting_writes, faulting_parameters}
use Rattle.mark_laws.proofs.Marks.{Marked}
use Rattle.model_core.proofs.Among.{Among, among-front, among-back, among-either, among-flat_map, among-of_flat_map}
use Rattle.var_slicing.specs.Inner.Needing.{added_each}
use Rattle.var_slicing.specs.Inner.Faulting.{fault_unless, faults_in_change, faults_in_edge, faults_in_vertex, with_faults, faulting_unless}
use Rattle.var_slicing.proofs.LeavingOut.{LeavesOut, left-each}

pub added-flat : {A C : Type 0} (f : A → List C) (xs : List A) (out : List C) → added_each f xs out ≡ out ++ flat_map f xs
added-flat f [] out = sym (append-nil out)
added-flat f (x ∷ xs) out = added-flat f xs (out ++ f x) ∙ append_assoc out (f x) (flat_map f xs)

module _ (marks : List Bool) (g : EventGraph) where
  pub faults-added : (vs : List EventVertex) (out : List ℕ) → with_faults marks g vs out ≡ out ++ flat_map (faults_in_vertex marks g) vs
  faults-added [] out = sym (append-nil out)
  faults-added (v ∷ vs) out =
      let changed = flat_map (faults_in_change marks g) v.changes in
      let carried = flat_map (faults_in_edge marks g) v.edges in
      faults-added vs (added_each (faults_in_edge marks g) v.edges (added_each (faults_in_change marks g) v.changes out))
      ∙ ap (λ (so_far : List ℕ). so_far ++ flat_map (faults_in_vertex marks g) vs)
      (added-flat (faults_in_edge marks g) v.edges (added_each (faults_in_change marks g) v.changes out)
      ∙ ap (λ (so_far : List ℕ). so_far ++ carried) (added-flat (faults_in_change marks g) v.changes out)
      ∙ append_assoc out changed carried)
      ∙ append_assoc out (changed ++ carried) (flat_map (faults_in_vertex marks g) vs)

  -- ---- what is left out is marked

  abbrev Leaves : List ℕ → List ℕ → Type 0
  Leaves = LeavesOut (Marked marks)

  one-left : (v : ℕ) (quiet : Bool) → Leaves (cond quiet [] (v ∷ [])) (fault_unless marks v quiet)
  one-left v true = by (is_marked marks v) where
    by : (b : Bool) → Leaves [] (cond b [] [])
    by true = (λ x none. absurd none, λ x none. absurd none)
    by false = (λ x none. absurd none, λ x none. absurd none)
  one-left v false = by (is_marked marks v) refl where
    alone : is_marked marks v ≡ true → (x : ℕ) → Among x (v ∷ []) → Marked marks x ⊎ Among x []
    alone marked x (inl same) = inl (subst (Marked marks) same marked)
    alone marked x (inr none) = absurd none

    by : (b : Bool) → is_marked marks v ≡ b → Leaves (v ∷ []) (cond b [] (v ∷ []))
    by true marked = (alone marked, λ x none. absurd none)
    by false other = (λ x h. inr h, λ x h. h)

  change-left : (c : StateChange) → Leaves (faulting_writes g c) (faults_in_change marks g c)
  change-left (Set targets rights) =
      left-each (Marked marks) (λ ((l, e) : Location × Expression). faulting_target g l e) (λ ((l, e) : Location × Expression). fault_unless marks l.variable (quiet_set g l e))
      (λ (p : Location × Expression). one-left p.0.variable (quiet_set g p.0 p.1)) (zip targets rights)
  change-left (Draw target stream choice) = one-left target.variable (quiet_change g (Draw target stream choice))

  abbrev given_whole : EventEdge → List ℕ
  given_whole e = flat_map (λ ((v, x) : ℕ × Expression). faulting_target g (scalar_location v) x) (carried_pairs g e)

  abbrev given_fewer : EventEdge → List ℕ
  given_fewer e = flat_map (λ ((v, x) : ℕ × Expression). fault_unless marks v (quiet_set g (scalar_location v) x)) (carried_pairs g e)

  given-left : (e : EventEdge) → Leaves (given_whole e) (given_fewer e)
  given-left e =
      left-each (Marked marks) (λ ((v, x) : ℕ × Expression). faulting_target g (scalar_location v) x) (λ ((v, x) : ℕ × Expression). fault_unless marks v (quiet_set g (scalar_location v) x))
      (λ (p : ℕ × Expression). one-left p.0 (quiet_set g (scalar_location p.0) p.1)) (carried_pairs g e)

  edge-left : (e : EventEdge) → Leaves (faulting_parameters g e) (faults_in_edge marks g e)
  edge-left e = by (is_scheduling e.kind) where
    by : (b : Bool) → Leaves (cond b (given_whole e) []) (cond b (given_fewer e) [])
    by true = given-left e
    by false = (λ x none. absurd none, λ x none. absurd none)

  -- ---- all vertices

  abbrev changed : EventVertex → List ℕ
  changed v = flat_map (faults_in_change marks g) v.changes

  abbrev carried : EventVertex → List ℕ
  carried v = flat_map (faults_in_edge marks g) v.edges

  -- all that may fault
  abbrev pub all_faulting : List ℕ
  all_faulting = flat_map (faulting_writes g) (all_changes g) ++ flat_map (faulting_parameters g) (all_edges g)

  change-fault : (k : ℕ) (c : StateChange) → Among c (all_changes g) → Among k (faults_in_change marks g c) → Among k (faulting_unless marks g)
  change-fault k c there h =
      let (v, at, among) = among-of_flat_map (λ (v : EventVertex). v.changes) g.vertices c there in
      among-flat_map (faults_in_vertex marks g) g.vertices v k at (among-front (changed v) (carried v) k (among-flat_map (faults_in_change marks g) v.changes c k among h))

  edge-fault : (k : ℕ) (e : EventEdge) → Among e (all_edges g) → Among k (faults_in_edge marks g e) → Among k (faulting_unless marks g)
  edge-fault k e there h =
      let (v, at, among) = among-of_flat_map (λ (v : EventVertex). v.edges) g.vertices e there in
      among-flat_map (faults_in_vertex marks g) g.vertices v k at (among-back (changed v) (carried v) k (among-flat_map (faults_in_edge marks g) v.edges e k among h))

  pub faults-left : Leaves all_faulting (faulting_unless marks g)
  faults-left = (to, from) where
    to : (k : ℕ) → Among k all_faulting → Marked marks k ⊎ Among k (faulting_unless marks g)
    to k h = elim (among-either (flat_map (faulting_writes g) (all_changes g)) (flat_map (faulting_parameters g) (all_edges g)) k h) [
      | inl written ↦
          let (c, there, faults) = among-of_flat_map (faulting_writes g) (all_changes g) k written in
          elim ((change-left c).0 k faults) [ inl marked ↦ inl marked | inr stays ↦ inr (change-fault k c there stays) ]
      | inr given ↦
          let (e, there, faults) = among-of_flat_map (faulting_parameters g) (all_edges g) k given in
          elim ((edge-left e).0 k faults) [ inl marked ↦ inl marked | inr stays ↦ inr (edge-fault k e there stays) ]
    ]

    from : (k : ℕ) → Among k (faulting_unless marks g) → Among k all_faulting
    from k h =
        let (v, at, among) = among-of_flat_map (faults_in_vertex marks g) g.vertices k h in
        elim (among-either (changed v) (carried v) k among) [
          | inl written ↦
              let (c, there, faults) = among-of_flat_map (faults_in_change marks g) v.changes k written in
              among-front (flat_map (faulting_writes g) (all_changes g)) (flat_map (faulting_parameters g) (all_edges g)) k
              (among-flat_map (faulting_writes g) (all_changes g) c k (among-flat_map (λ (v : EventVertex). v.changes) g.vertices v c at there) ((change-left c).1 k faults))
          | inr given ↦
              let (e, there, faults) = among-of_flat_map (faults_in_edge marks g) v.edges k given in
              among-back (flat_map (faulting_writes g) (all_changes g)) (flat_map (faulting_parameters g) (all_edges g)) k
              (among-flat_map (faulting_parameters g) (all_edges g) e k (among-flat_map (λ (v : EventVertex). v.edges) g.vertices v e at there) ((edge-left e).1 k faults))
        ]
