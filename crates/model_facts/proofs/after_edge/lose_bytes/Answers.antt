-- What is known of the text and of the vertex loses the bytes, and the others have the lines that they had.
use Rattle.std.proofs.Common.{◌∙◌, ℕ, List, Option, sym, ap, ap₂, subst}
use Rattle.model_core.specs.Run.Step.{vertex_at}
use Rattle.vertex_laws.specs.BodyLines.{body_lines}
use Rattle.model_facts.specs.KnownLengths.{LengthIsRight}
use Rattle.model_facts.specs.FactsAfterEdge.{bytes_left}
use Rattle.model_facts.proofs.BodiesKept.{lost-there}
use Rattle.model_facts.proofs.EdgesChanged.{lines-left, body-left}
use Rattle.model_facts.proofs.after_edge.lose_bytes.Goals as goal

pub returns-clause-loses : goal.returns-clause-loses
returns-clause-loses c = λ g h bytes gone loses lines bodies version single. record {
  lines = lines-left g h c.args.vertex bytes c.args.gone c.args.facts.now.lines _ loses gone c.bytes_after_loss-facts.ensures.left lines;
  version = version;
  single = single;
  bodies =
      c.put.ensures.right g h loses.others
      (body-left g h c.args.vertex bytes c.args.gone _ c.bytes_after_loss-body.result loses gone c.bytes_after_loss-body.ensures.left (subst (λ n. LengthIsRight n (body_lines g (vertex_at g c.args.vertex))) (sym c.get.ensures) (bodies c.args.vertex))) bodies;
}

pub returns-clause-is : goal.returns-clause-is
returns-clause-is c =
    let facts = c.args.facts.now in
    ap₂ (λ (lines : Option ℕ) (bodies : List (Option ℕ)). record facts { lines = lines; bodies = bodies }) c.bytes_after_loss-facts.ensures.is
    (c.put.ensures.is ∙ lost-there c.args.gone facts.bodies c.args.vertex c.bytes_after_loss-body.result (c.bytes_after_loss-body.ensures.is ∙ ap (λ bytes. bytes_left bytes c.args.gone) c.get.ensures))
