-- The bit in the word of the vertex, or no word.
use Rattle.std.proofs.Common.{◌∙◌}
use Rattle.conflict_report.proofs.BitsOfSets.{asked, unasked}
use Rattle.conflict_report.proofs.vertex_set.VertexSet.has.Goals as goal

pub returns-in-Some : goal.returns-in-Some
returns-in-Some c =
    let found = c.in-Some.ensures.lookup in
    asked c.deref.result.now c.args.self.now c.args.place c.in-Some.word.now (c.deref.ensures.value ∙ c.self.view_is) found.3.0 found.1

pub returns-in-None : goal.returns-in-None
returns-in-None c = unasked c.deref.result.now c.args.self.now c.args.place (c.deref.ensures.value ∙ c.self.view_is) c.in-None.ensures.lookup.3
