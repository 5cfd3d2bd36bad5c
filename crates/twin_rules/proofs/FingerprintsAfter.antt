-- What is kept of the vertices is kept of them where they are when two others are fused, but for the aims of those that
-- led to the one that is gone.
use Rattle.std.proofs.Common.{◌≡◌, ℕ, ◌==◌, Bool, false, List, slice_get, Option, Some, sym, ◌∙◌, ap}
use Rattle.std.specs.List.{remove}
use Rattle.std.specs.Option.{option_map_or}
use Rattle.sig_base.specs.declared.limits.TheConstants.{VERTICES_MAX}
use Rattle.model_core.specs.EventGraph.{EventGraph, EventVertex}
use Rattle.model_core.specs.Run.Step.{vertex_at}
use Rattle.model_core.specs.Rules.Drop.{vertex_renumbered}
use Rattle.model_core.specs.Rules.Merge.{leads_to}
use Rattle.model_core.specs.Rules.Fuse.{fused_place, fused}
use Rattle.model_core.proofs.EachOne.{every-fails}
use Rattle.model_core.proofs.PlacesChanged.{apart-turned}
use Rattle.model_core.proofs.PlacesTakenOff.{get-without}
use Rattle.model_core.proofs.FusedPlaces.{fused-get, standing-itself}
use Rattle.twin_rules.specs.declared.vertex_fingerprint.VertexFingerprint.{VertexFingerprint}
use Rattle.twin_rules.specs.Inner.ComparedPairs.{has_changed, place_before, some_leads}
use Rattle.twin_rules.specs.Inner.Fingerprints.{half, vertex_fingerprint, targets_fingerprint}
use Rattle.twin_rules.specs.Inner.MarkedVertices.{is_barred}
use Rattle.twin_rules.specs.Inner.KeptFingerprints.{number_in, AreFingerprints, AreFingerprintsBut}
use Rattle.twin_rules.proofs.AlikeVertices.{AreAlike}
use Rattle.twin_rules.proofs.StillApart.{placed}
use Rattle.twin_rules.proofs.PairsStillApart.{stays-apart, and-back}
use Rattle.twin_rules.proofs.BarredAfter.{barred-after}
use Rattle.twin_rules.proofs.VertexFingerprints.{print-renumbered, aims-moved}

module _ (g : EventGraph) (keep gone : ℕ) (are : AreAlike g keep gone) (table : List VertexFingerprint) (changed : List Bool) where
  abbrev h : EventGraph
  h = fused g keep gone

  abbrev left : List VertexFingerprint
  left = remove table gone

  -- a vertex keeps its number
  same-number : (v : ℕ) → (v == gone) ≡ false → number_in left (fused_place keep gone v) ≡ number_in table v
  same-number v apart =
      ap (λ (o : Option VertexFingerprint). option_map_or (λ (p : VertexFingerprint). p.number) o VERTICES_MAX)
      (fused-get keep gone are.first table v ∙ ap (slice_get table) (standing-itself keep gone are.first v apart))

  pub prints-after : AreFingerprints g table → ((x : ℕ) → has_changed changed x ≡ false → some_leads g (place_before gone x) gone ≡ false) → AreFingerprintsBut h left changed
  prints-after prints unchanged x p is =
      let apart = stays-apart gone x in
      let back = and-back gone x in
      let was : slice_get table (place_before gone x) ≡ Some p = sym (get-without table gone (place_before gone x) (apart-turned (place_before gone x) gone apart)) ∙ (ap (slice_get left) back ∙ is) in
      let held = prints (place_before gone x) p was in
      let there : vertex_at h x ≡ vertex_renumbered (fused_place keep gone) (vertex_at g (place_before gone x)) = ap (vertex_at h) (sym back) ∙ placed g keep gone are (place_before gone x) apart in
      record {
        doing = held.doing ∙ ap half (sym (ap vertex_fingerprint there ∙ print-renumbered (fused_place keep gone) (vertex_at g (place_before gone x))));
        barred = held.barred ∙ sym (ap (is_barred h) (sym back) ∙ barred-after g keep gone are (place_before gone x) apart);
        aims = λ stays. held.aims tt ∙ ap half (sym (ap (λ (v : EventVertex). targets_fingerprint (number_in left) v.edges) there
            ∙ aims-moved (fused_place keep gone) (number_in table) (number_in left) gone same-number (vertex_at g (place_before gone x)).edges (every-fails (leads_to gone) (vertex_at g (place_before gone x)).edges (unchanged x stays))));
      }
