use Rattle.model_core.specs.Code.Views.{graph_of}
use Rattle.model_facts.proofs.after_drop.keep_after_drop.Goals as goal

pub returns-clause-facts : goal.returns-clause-facts
returns-clause-facts c = λ holds. record {
  lines = c.lines_without-facts.ensures.right holds;
  version = c.version_without-facts.ensures.right holds;
  single = c.single_without_parts-facts.ensures.dropped (graph_of c.args.model.now) c.args.vertices.now c.requires.facts;
  bodies = c.keep_bodies_without.ensures.are (graph_of c.args.model.now) c.requires.facts.bodies holds;
}
