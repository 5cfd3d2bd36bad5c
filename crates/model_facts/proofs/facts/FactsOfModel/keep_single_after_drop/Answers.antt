-- Of single vertices nothing is known.
use Rattle.std.proofs.Common.{sym, subst}
use Rattle.model_core.specs.Rules.Drop.{dropped}
use Rattle.model_facts.specs.KnownLengths.{BodiesAreRight}
use Rattle.model_facts.proofs.facts.FactsOfModel.keep_single_after_drop.Goals as goal

pub returns : goal.returns
returns c = λ g vertices is. record {
  lines = tt;
  version = tt;
  single = c.single_without_parts-self.ensures.dropped g vertices is;
  bodies = subst (BodiesAreRight (dropped g vertices)) (sym c.forget.ensures) (λ k. tt);
}
