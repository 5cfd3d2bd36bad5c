-- The number is kept already, or is counted and kept.
use Rattle.std.proofs.Common.{◌∙◌, ℕ, Option, refl, sym, subst}
use Rattle.model_core.specs.Code.Views.{graph_of}
use Rattle.model_core.specs.Run.Step.{vertex_at}
use Rattle.vertex_laws.specs.BodyLines.{body_lines}
use Rattle.model_facts.specs.KnownLengths.{LengthIsRight}
use Rattle.model_facts.proofs.BodiesKept.{are-alike}
use Rattle.model_facts.proofs.facts.FactsOfModel.find_body.Goals as goal

pub returns-in-Some-clause-is : goal.returns-in-Some-clause-is
returns-in-Some-clause-is c =
    let g = graph_of c.args.model.now in
    let lines = body_lines g (vertex_at g c.args.vertex) in
    subst (λ (n : Option ℕ). LengthIsRight n lines) (sym c.get.ensures ∙ c.in-Some.is) (c.requires.facts.bodies c.args.vertex)

pub returns-clause-facts : goal.returns-clause-facts
returns-clause-facts c =
    let g = graph_of c.args.model.now in
    let was = c.requires.facts in record {
      lines = was.lines;
      version = was.version;
      single = was.single;
      bodies = c.put.ensures.right g g (λ k apart. refl) c.body_at-bytes.ensures (are-alike g c.args.self.now.bodies c.make_room.new.self c.make_room.ensures was.bodies);
    }
