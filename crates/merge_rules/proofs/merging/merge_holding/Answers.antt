-- The result's text is within its limit, so its length was counted to the end, and that of the lines given away as well.
use Rattle.std.proofs.Common.{◌≡◌, ◌∙◌, ℕ, ◌+◌, ◌-◌, ◌^◌, ◌≤◌, Bool, Some, refl, sym, ap, subst, length, arith}
use Rattle.std.specs.Option.{option_and_then}
use Rattle.model_core.specs.EventGraph.{EventGraph}
use Rattle.model_core.specs.Text.Canonical.{version_line, canonical}
use Rattle.model_core.specs.Text.VersionNeeded.{needs_version_two}
use Rattle.model_core.specs.Code.Views.{graph_of}
use Rattle.model_core.specs.Rules.Merge.{merge_conditions, merged}
use Rattle.merge_rules.proofs.MergedText.LimitsTested.{first_among, second_among, urgent_there, urgent_at}
use Rattle.model_core.specs.Rules.UrgentEdges.{single_urgent}
use Rattle.merge_rules.proofs.ConditionsAsked.PairsFound.{front_holds}
use Rattle.model_facts.specs.FactsOfModel.{VersionIsRight}
use Rattle.model_facts.specs.KnownLengths.{BodiesAreRight}
use Rattle.vertex_laws.proofs.ChangedLines.{version_within}
use Rattle.merge_rules.proofs.BodiesKept.{others-merged, others-left}
use Rattle.merge_rules.specs.Hollowed.{merged_leaving}
use Rattle.merge_rules.proofs.HollowedText.{two_apart, version_left, leaving_measured, leaving_body, leaving_single}
use Rattle.merge_rules.proofs.merging.merge_holding.Goals as goal

-- ---- the places and the edge, as the code reads them

pub merged_length-bytes-requires-clause-holds : goal.merged_length-bytes-requires-clause-holds
merged_length-bytes-requires-clause-holds c = front_holds 7 (merge_conditions (graph_of c.args.model.now) c.args.vertex c.args.target) c.requires.holds

pub bounds-as_slice-vertex : goal.bounds-as_slice-vertex
bounds-as_slice-vertex c =
    first_among c.args.model.now c.args.vertex c.args.target (front_holds 7 (merge_conditions (graph_of c.args.model.now) c.args.vertex c.args.target) c.requires.holds)
    c.as_slice.result.now c.as_slice.ensures

pub urgent_place-place-requires : goal.urgent_place-place-requires
urgent_place-place-requires c =
    urgent_there c.args.model.now c.args.vertex c.args.target (front_holds 7 (merge_conditions (graph_of c.args.model.now) c.args.vertex c.args.target) c.requires.holds)
    c.as_slice.result.now c.as_slice.ensures c.index-as_slice-vertex.result c.index-as_slice-vertex.is

pub put_together-requires-clause-first : goal.put_together-requires-clause-first
put_together-requires-clause-first c =
    first_among c.args.model.now c.args.vertex c.args.target (front_holds 7 (merge_conditions (graph_of c.args.model.now) c.args.vertex c.args.target) c.requires.holds)
    c.args.model.now.vertices refl

pub put_together-requires-clause-target : goal.put_together-requires-clause-target
put_together-requires-clause-target c =
    second_among c.args.model.now c.args.vertex c.args.target (front_holds 7 (merge_conditions (graph_of c.args.model.now) c.args.vertex c.args.target) c.requires.holds)
    c.args.model.now.vertices refl

pub put_together-requires-clause-at : goal.put_together-requires-clause-at
put_together-requires-clause-at c =
    urgent_at c.args.model.now c.args.vertex c.args.target (front_holds 7 (merge_conditions (graph_of c.args.model.now) c.args.vertex c.args.target) c.requires.holds)
    c.as_slice.result.now c.as_slice.ensures c.index-as_slice-vertex.result c.index-as_slice-vertex.is c.urgent_place-place.result c.urgent_place-place.ensures.at

pub put_together-requires-clause-apart : goal.put_together-requires-clause-apart
put_together-requires-clause-apart c = two_apart (graph_of c.args.model.now) c.args.vertex c.args.target c.requires.holds

-- ---- what is known of the result

-- how many bytes the result's text has after the line of its version, which the model's text has where the result's has it
rest_of : (g h : EventGraph) (whole version rest : ℕ) → whole ≡ length (canonical h) → version ≡ length (version_line (needs_version_two g)) → needs_version_two h ≡ needs_version_two g → rest ≡ whole - version
    → (version ≤ whole) × (length (version_line (needs_version_two h)) + rest ≡ length (canonical h))
rest_of g h whole version rest is version_is same rest_is =
    let line = ap (λ b. length (version_line b)) same in
    let within = version_within h in
    (omega (arith, is, version_is, line, within), omega (arith, is, version_is, line, within, rest_is))

pub overflow_sub-facts : goal.overflow_sub-facts
overflow_sub-facts c =
    (leaving_measured (graph_of c.args.model.now) c.args.vertex c.args.target c.requires.holds c.args.second (2 ^ 64 - 1) c.merged_length-bytes.result c.find_body-body.result c.bytes_leaving-gone.result (omega arith) c.merged_length-bytes.ensures c.find_body-body.ensures.is c.bytes_leaving-gone.ensures).0

pub overflow_sub-facts-2 : goal.overflow_sub-facts-2
overflow_sub-facts-2 c =
    let g = graph_of c.args.model.now in
    let measured = leaving_measured g c.args.vertex c.args.target c.requires.holds c.args.second (2 ^ 64 - 1) c.merged_length-bytes.result c.find_body-body.result c.bytes_leaving-gone.result (omega arith) c.merged_length-bytes.ensures c.find_body-body.ensures.is c.bytes_leaving-gone.ensures in
    (rest_of g (merged_leaving c.args.second g c.args.vertex c.args.target) _ _ _ measured.1 (c.version_length-version.ensures ∙ ap (λ b. length (version_line b)) c.find_version.ensures.is) (version_left g c.args.vertex c.args.target c.requires.holds c.args.second) refl).0

pub returns-clause-facts : goal.returns-clause-facts
returns-clause-facts c =
    let g = graph_of c.args.model.now in
    let holds = c.requires.holds in
    let result = merged_leaving c.args.second g c.args.vertex c.args.target in
    let measured = leaving_measured g c.args.vertex c.args.target holds c.args.second (2 ^ 64 - 1) c.merged_length-bytes.result c.find_body-body.result c.bytes_leaving-gone.result (omega arith) c.merged_length-bytes.ensures c.find_body-body.ensures.is c.bytes_leaving-gone.ensures in
    let body = leaving_body g c.args.vertex c.args.target holds c.args.second (2 ^ 64 - 1) c.find_body-body.result c.bytes_leaving-gone.result c.find_body-body.ensures.is c.bytes_leaving-gone.ensures in
    let joined = c.put.ensures.right g (merged g c.args.vertex c.args.target) (others-merged g c.args.vertex c.args.target) c.merged_body-joined.ensures.is c.find_version.ensures.facts.bodies in
    let bodies = c.put-2.ensures.right (merged g c.args.vertex c.args.target) result (others-left c.args.second g c.args.vertex c.args.target) body.1 joined in
    let done = c.in_ok-put_together.ensures.done in
    let version = version_left g c.args.vertex c.args.target holds c.args.second in
    let lines = rest_of g result _ _ _ measured.1 (c.version_length-version.ensures ∙ ap (λ b. length (version_line b)) c.find_version.ensures.is) version refl in
    record {
      lines = subst (λ (h : EventGraph). length (version_line (needs_version_two h)) + (c.merged_length-bytes.result - c.bytes_leaving-gone.result - c.version_length-version.result) ≡ length (canonical h)) (sym done) lines.1;
      version = subst (λ (h : EventGraph). VersionIsRight h c.find_version.new.self.version_two) (sym done) (subst (VersionIsRight result) (sym c.find_version.ensures.kept) (c.find_version.ensures.is ∙ sym version));
      single = sym (ap single_urgent done ∙ leaving_single g c.args.vertex c.args.target holds c.args.second);
      bodies = subst (λ (h : EventGraph). BodiesAreRight h c.put-2.new.self) (sym done) bodies;
    }

pub returns-clause-measured : goal.returns-clause-measured
returns-clause-measured c =
    let g = graph_of c.args.model.now in
    let result = merged_leaving c.args.second g c.args.vertex c.args.target in
    let measured = leaving_measured g c.args.vertex c.args.target c.requires.holds c.args.second (2 ^ 64 - 1) c.merged_length-bytes.result c.find_body-body.result c.bytes_leaving-gone.result (omega arith) c.merged_length-bytes.ensures c.find_body-body.ensures.is c.bytes_leaving-gone.ensures in
    let version = version_left g c.args.vertex c.args.target c.requires.holds c.args.second in
    let lines = rest_of g result _ _ _ measured.1 (c.version_length-version.ensures ∙ ap (λ b. length (version_line b)) c.find_version.ensures.is) version refl in (
      ap (option_and_then (λ (two : Bool). Some (length (version_line two) + (c.merged_length-bytes.result - c.bytes_leaving-gone.result - c.version_length-version.result)))) (c.find_version.ensures.kept ∙ ap Some (c.find_version.ensures.is ∙ sym version))
          ∙ ap Some (lines.1 ∙ ap (λ (h : EventGraph). length (canonical h)) (sym c.in_ok-put_together.ensures.done)),
      refl,
    )

-- ---- what the calls for its lengths want

pub find_body-body-requires-clause-there : goal.find_body-body-requires-clause-there
find_body-body-requires-clause-there c = second_among c.args.model.now c.args.vertex c.args.target (front_holds 7 (merge_conditions (graph_of c.args.model.now) c.args.vertex c.args.target) c.requires.holds) c.args.model.now.vertices refl

pub grows_by-grows-requires-clause-holds : goal.grows_by-grows-requires-clause-holds
grows_by-grows-requires-clause-holds c = front_holds 7 (merge_conditions (graph_of c.args.model.now) c.args.vertex c.args.target) c.requires.holds

pub merged_length-bytes-requires-clause-measured : goal.merged_length-bytes-requires-clause-measured
merged_length-bytes-requires-clause-measured c = c.text_length.ensures.measured (graph_of c.args.model.now) c.find_version.ensures.facts
