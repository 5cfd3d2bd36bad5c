-- Each turn fuses the first twins, and there is a vertex less.
use Rattle.std.proofs.Common.{◌∙◌, sym, subst, List}
use Rattle.model_core.specs.EventGraph.{EventGraph}
use Rattle.model_core.specs.Rules.Fuse.{fused}
use Rattle.model_core.specs.Code.Views.{graph_of}
use Rattle.twin_rules.specs.declared.vertex_fingerprint.VertexFingerprint.{VertexFingerprint}
use Rattle.twin_rules.specs.Inner.ComparedPairs.{NoneAlike, NoneAlikeBefore}
use Rattle.twin_rules.specs.Inner.KeptFingerprints.{AreFingerprintsBut}
use Rattle.twin_rules.specs.Inner.LedTo.{MarksTargets}
use Rattle.twin_rules.proofs.AlikeVertices.{conditions_say}
use Rattle.twin_rules.proofs.FirstTwins.{first-are-twins}
use Rattle.twin_rules.proofs.FusingEnds.{vertex-there, vertex-less}
use Rattle.twin_rules.proofs.FusedSoFar.{one-more-fused, all-fused}
use Rattle.twin_rules.proofs.FingerprintsAfter.{prints-after}
use Rattle.twin_rules.proofs.TargetsAfter.{targets-after}
use Rattle.twin_rules.proofs.fusing_all.fuse_all.Goals as goal

pub fuse-requires : goal.fuse-requires
fuse-requires c = record {
  asked = c.loop-keep.invariant.asked;
  found = sym c.first_twins_in.ensures.found ∙ c.in-Some.is;
  led = λ none. c.loop-keep.invariant.targets c.in-Some.gone (sym c.has.ensures ∙ none);
  none_alike = λ none_alike. subst (NoneAlikeBefore (graph_of c.loop-keep.model)) c.in-Some.is (c.first_twins_in.ensures.none_alike none_alike);
}

pub fuse_at-requires : goal.fuse_at-requires
fuse_at-requires c = vertex-there c.loop-keep.model c.in-Some.keep c.in-Some.gone (sym c.first_twins_in.ensures.found ∙ c.in-Some.is)

pub renew-requires : goal.renew-requires
renew-requires c =
    let g = graph_of c.loop-keep.model in
    let keep = c.in-Some.keep in
    let gone = c.in-Some.gone in
    let are = (conditions_say g keep gone (first-are-twins g keep gone (sym c.first_twins_in.ensures.found ∙ c.in-Some.is))).alike in
    let changed = c.fuse.new.self.changed in
    subst (λ (h : EventGraph). AreFingerprintsBut h c.forget.new.self changed) (sym c.fuse_at.ensures)
    (subst (λ (table : List VertexFingerprint). AreFingerprintsBut (fused g keep gone) table changed) (sym c.forget.ensures)
    (prints-after g keep gone are c.loop-keep.prints changed c.loop-keep.invariant.prints c.fuse.ensures.changed))

pub loop-keep-smaller : goal.loop-keep-smaller
loop-keep-smaller c = vertex-less c.loop-keep.model c.fuse_at.new.model c.in-Some.keep c.in-Some.gone (sym c.first_twins_in.ensures.found ∙ c.in-Some.is) c.fuse_at.ensures

pub loop-keep-preserved : goal.loop-keep-preserved
loop-keep-preserved c = record {
  fused = one-more-fused _ _ _ _ _ _ (sym c.first_twins_in.ensures.found ∙ c.in-Some.is) c.fuse_at.ensures c.loop-keep.invariant.fused;
  asked = subst (λ (g : EventGraph). NoneAlike g c.fuse.new.self) (sym c.fuse_at.ensures) c.fuse.ensures.asked;
  skips = c.fuse.ensures.skips;
  prints = c.renew.ensures;
  targets =
      let g = graph_of c.loop-keep.model in
      let keep = c.in-Some.keep in
      let gone = c.in-Some.gone in
      let are = (conditions_say g keep gone (first-are-twins g keep gone (sym c.first_twins_in.ensures.found ∙ c.in-Some.is))).alike in
      subst (λ (h : EventGraph). MarksTargets h c.fuse-in-Some.new.self) (sym c.fuse_at.ensures) (targets-after g keep gone are c.loop-keep.led c.fuse-in-Some.new.self c.fuse-in-Some.ensures c.loop-keep.invariant.targets);
}

pub returns : goal.returns
returns c = all-fused _ _ _ (sym c.first_twins_in.ensures.found ∙ c.in_default.is) c.loop-keep.invariant.fused
