use Rattle.model_core.specs.Code.Views.{graph_of}
use Rattle.model_facts.proofs.facts.FactsOfModel.find_bytes.Goals as goal

pub returns-clause-is : goal.returns-clause-is
returns-clause-is c = c.text_length.ensures.measured (graph_of c.args.model.now) c.measure.ensures
