-- What holds of a model between two fusings, as the loop over the first twins makes them.
use Rattle.std.proofs.Common.{◌≡◌, ℕ, Bool, true, length, None, Some, ap, ◌∙◌, subst}
use Rattle.std.proofs.lemmas.Bool.{le-leb}
use Rattle.sig_base.specs.declared.limits.TheConstants.{TEXT_MAX}
use Rattle.model_core.specs.EventGraph.{EventGraph}
use Rattle.model_core.specs.Text.Canonical.{canonical}
use Rattle.model_core.specs.Rules.Fuse.{fused, has_short_text, first_twins, Fused, no_twins, fuse_first}
use Rattle.twin_rules.proofs.AlikeVertices.{conditions_say}
use Rattle.twin_rules.proofs.FirstTwins.{first-are-twins}

pub record FusedSoFar (begun now : EventGraph) (short : Bool) : Type 0 where
  pub leads : (h : EventGraph) → Fused now h → Fused begun h
  pub within_limits : short ≡ true → has_short_text now ≡ true

pub fused-short : (g : EventGraph) (keep gone : ℕ) → first_twins g ≡ Some (keep, gone) → has_short_text (fused g keep gone) ≡ true
fused-short g keep gone found = le-leb (length (canonical (fused g keep gone))) TEXT_MAX (conditions_say g keep gone (first-are-twins g keep gone found)).short

pub one-more-fused : (begun now next : EventGraph) (short : Bool) (keep gone : ℕ) → first_twins now ≡ Some (keep, gone) → next ≡ fused now keep gone → FusedSoFar begun now short → FusedSoFar begun next true
one-more-fused begun now next short keep gone found is so_far = record {
  leads = λ h later. so_far.leads h (fuse_first keep gone found (subst (λ (g : EventGraph). Fused g h) is later));
  within_limits = λ e. ap has_short_text is ∙ fused-short now keep gone found;
}

pub all-fused : (begun now : EventGraph) (short : Bool) → first_twins now ≡ None → FusedSoFar begun now short → Fused begun now
all-fused begun now short none so_far = so_far.leads now (no_twins none)
