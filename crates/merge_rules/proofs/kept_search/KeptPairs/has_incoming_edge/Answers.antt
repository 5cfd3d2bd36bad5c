use Rattle.std.proofs.Common.{◌<◌, length, sym, subst, arith}
use Rattle.merge_rules.specs.KeptPairs.{PairsAreRight}
use Rattle.merge_rules.proofs.PairsBetweenMerges.PairsKept.{incoming-any}
use Rattle.merge_rules.proofs.kept_search.KeptPairs.has_incoming_edge.Goals as goal

pub returns : goal.returns
returns c = λ g kept.
    let there : c.args.vertex < length g.vertices = omega (arith, c.requires, kept.long) in
    incoming-any g c.self.inside.pairs.items (subst (PairsAreRight g) (sym c.self.view_is) kept) c.args.vertex c.index.result.now there c.index.ensures
