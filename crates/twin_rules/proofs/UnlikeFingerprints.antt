-- Vertices that are alike have the same prints, but for the aims of one that leads to one of the two.
use Rattle.std.proofs.Common.{◌≡◌, ℕ, ◌==◌, Bool, true, false, not, ◌&&◌, ◌||◌, cond, List, [], ◌∷◌, map, slice_get, Some, refl, sym, ◌∙◌, ap, ap₂, eq-eqb}
use Rattle.std.specs.List.{list_any}
use Rattle.std.proofs.lemmas.Bool.{false≢true}
use Rattle.model_core.specs.EventGraph.{EventGraph, EventEdge}
use Rattle.model_core.specs.Run.Step.{vertex_at}
use Rattle.model_core.specs.Rules.Drop.{edge_renumbered}
use Rattle.model_core.specs.Rules.Merge.{leads_to}
use Rattle.model_core.specs.Rules.Fuse.{standing_for}
use Rattle.model_core.proofs.EachOne.{either_false}
use Rattle.twin_rules.specs.declared.vertex_fingerprint.VertexFingerprint.{VertexFingerprint}
use Rattle.twin_rules.specs.Inner.ComparedPairs.{are_alike, some_leads}
use Rattle.twin_rules.specs.Inner.Fingerprints.{half, list_fingerprint, change_fingerprint, edge_fingerprint, vertex_fingerprint}
use Rattle.twin_rules.specs.Inner.KeptFingerprints.{number_in, targets_fingerprint_at, AreFingerprints}
use Rattle.twin_rules.specs.Inner.KeptRows.{fingerprints_agree}
use Rattle.twin_rules.proofs.AlikeVertices.{AreAlike}
use Rattle.twin_rules.proofs.PairsStillApart.{are_alike-alike}
use Rattle.twin_rules.proofs.VertexFingerprints.{edges-print, whole_print}

-- ---- what they do

same-doing : (g : EventGraph) (keep gone : ℕ) → AreAlike g keep gone → vertex_fingerprint (vertex_at g keep) ≡ vertex_fingerprint (vertex_at g gone)
same-doing g keep gone are =
    let a = vertex_at g keep in
    let b = vertex_at g gone in
    let s = standing_for keep gone in
    let edges : map edge_fingerprint a.edges ≡ map edge_fingerprint b.edges = sym (edges-print s a.edges) ∙ (ap (map edge_fingerprint) are.edges ∙ edges-print s b.edges) in
    ap (λ ps. whole_print ps (map change_fingerprint a.changes) (map edge_fingerprint a.edges)) are.parameters
    ∙ (ap (λ cs. whole_print b.parameters (map change_fingerprint cs) (map edge_fingerprint a.edges)) are.changes
    ∙ ap (whole_print b.parameters (map change_fingerprint b.changes)) edges)

-- ---- where they lead

-- a target that is neither of the two is the same on both sides
same-target : (keep gone t u : ℕ) → (t == keep) ≡ false → (t == gone) ≡ false → standing_for keep gone t ≡ standing_for keep gone u → t ≡ u
same-target keep gone t u not_keep not_gone same = by (u == gone) refl where
  mine : standing_for keep gone t ≡ t
  mine = ap (λ b. cond b keep t) not_gone

  by : (b : Bool) → (u == gone) ≡ b → t ≡ u
  by true is =
      let to_keep : t ≡ keep = sym mine ∙ (same ∙ ap (λ b. cond b keep u) is) in
      absurd (false≢true (sym not_keep ∙ eq-eqb t keep to_keep))
  by false is = sym mine ∙ (same ∙ ap (λ b. cond b keep u) is)

same-targets : (keep gone : ℕ) (number : ℕ → ℕ) (as_ bs : List EventEdge) → list_any (leads_to keep) as_ ≡ false → list_any (leads_to gone) as_ ≡ false → map (edge_renumbered (standing_for keep gone)) as_ ≡ map (edge_renumbered (standing_for keep gone)) bs → map (λ (e : EventEdge). number e.target) as_ ≡ map (λ (e : EventEdge). number e.target) bs
same-targets keep gone number [] [] none none_too same = refl
same-targets keep gone number [] (b ∷ bs) none none_too same = cc
same-targets keep gone number (a ∷ as_) [] none none_too same = cc
same-targets keep gone number (a ∷ as_) (b ∷ bs) none none_too same =
    let (here, later) = either_false (a.target == keep) (list_any (leads_to keep) as_) none in
    let (here_too, later_too) = either_false (a.target == gone) (list_any (leads_to gone) as_) none_too in
    let first : edge_renumbered (standing_for keep gone) a ≡ edge_renumbered (standing_for keep gone) b = cc in
    let rest : map (edge_renumbered (standing_for keep gone)) as_ ≡ map (edge_renumbered (standing_for keep gone)) bs = cc in
    ap₂ (λ n ns. n ∷ ns) (ap number (same-target keep gone a.target b.target here here_too (ap (λ (e : EventEdge). e.target) first))) (same-targets keep gone number as_ bs later later_too rest)

same-aims : (g : EventGraph) (keep gone : ℕ) (table : List VertexFingerprint) → AreAlike g keep gone → some_leads g keep keep ≡ false → some_leads g keep gone ≡ false → targets_fingerprint_at g table keep ≡ targets_fingerprint_at g table gone
same-aims g keep gone table are loops leads = ap (λ ns. half (list_fingerprint ns)) (same-targets keep gone (number_in table) (vertex_at g keep).edges (vertex_at g gone).edges loops leads are.edges)

-- ---- so they fit

module _ (g : EventGraph) (keep gone : ℕ) (table : List VertexFingerprint) (prints : AreFingerprints g table) (own other : VertexFingerprint) (is : slice_get table keep ≡ Some own) (is_other : slice_get table gone ≡ Some other) (leads : Bool) (none : leads ≡ false → (some_leads g keep keep ≡ false) × (some_leads g keep gone ≡ false)) where
  aims-fit : AreAlike g keep gone → (b : Bool) → leads ≡ b → (own.aims == other.aims || b) ≡ true
  aims-fit are true tested = by (own.aims == other.aims) where
    by : (b : Bool) → (b || true) ≡ true
    by true = refl
    by false = refl
  aims-fit are false tested =
      let (loops, leads_there) = none tested in
      let same : own.aims ≡ other.aims = (prints keep own is).aims tt ∙ (same-aims g keep gone table are loops leads_there ∙ sym ((prints gone other is_other).aims tt)) in
      ap (λ b. b || false) (eq-eqb own.aims other.aims same)

  alike-fit : AreAlike g keep gone → fingerprints_agree own other leads ≡ true
  alike-fit are =
      let doing : (own.doing == other.doing) ≡ true = eq-eqb own.doing other.doing ((prints keep own is).doing ∙ (ap half (same-doing g keep gone are) ∙ sym ((prints gone other is_other).doing))) in
      let mine : own.barred ≡ false = (prints keep own is).barred ∙ ap₂ (λ a b. a || b) are.keep_unwatched are.keep_uncancelled in
      let others : other.barred ≡ false = (prints gone other is_other).barred ∙ ap₂ (λ a b. a || b) are.gone_unwatched are.gone_uncancelled in
      λ i. doing i && aims-fit are leads refl i && not (mine i) && not (others i)

  pub unlike_fingerprints : fingerprints_agree own other leads ≡ false → are_alike g keep gone ≡ false
  unlike_fingerprints unfit = by (are_alike g keep gone) refl where
    by : (b : Bool) → are_alike g keep gone ≡ b → b ≡ false
    by false tested = refl
    by true tested = sym (alike-fit (are_alike-alike g keep gone tested)) ∙ unfit
