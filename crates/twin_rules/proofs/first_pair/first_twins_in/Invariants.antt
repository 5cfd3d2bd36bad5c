use Rattle.std.proofs.Common.{◌≡◌, ℕ, ◌<◌, true, false, length}
use Rattle.std.specs.Option.{option_map}
use Rattle.model_core.specs.Rules.Fuse.{first_twin_of, first_twins}
use Rattle.model_core.specs.Code.Views.{graph_of}
use Rattle.twin_rules.specs.Inner.ComparedPairs.{are_alike}
use Rattle.twin_rules.proofs.FirstFound.{first_found}
use Rattle.twin_rules.proofs.first_pair.first_twins_in.Given as goal

abbrev pub invariant-loop-keep : goal.invariant-loop-keep
invariant-loop-keep l = record {
  found : first_found (λ (keep : ℕ). option_map {U = ℕ × ℕ} (λ gone. (keep, gone)) (first_twin_of (graph_of l.model) keep)) l.keep (length l.model.vertices) ≡ first_twins (graph_of l.model);
  none_alike : l.none_alike ≡ true → (x y : ℕ) → x < l.keep → are_alike (graph_of l.model) x y ≡ false;
}
