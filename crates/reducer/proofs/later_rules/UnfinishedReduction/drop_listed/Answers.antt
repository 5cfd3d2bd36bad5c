-- Dropped and noted are the vertices that can't be reached.
use Rattle.std.proofs.Common.{◌≡◌, [], subst, sym}
use Rattle.std.proofs.lemmas.Result.{on_ok_weaker}
use Rattle.model_core.specs.Code.Views.{graph_of}
use Rattle.model_core.specs.EventGraph.{EventGraph}
use Rattle.model_core.specs.Rules.Reached.{unreached}
use Rattle.reducer.proofs.FirstLaterRule.{exactly_hold, drop_made}
use Rattle.reducer.proofs.later_rules.UnfinishedReduction.drop_listed.Goals as goal

pub returns-clause-made : goal.returns-clause-made
returns-clause-made c =
    let g = graph_of c.args.self.now.model in
    on_ok_weaker c.drop_unreached.result
    (λ done. drop_made g _ _ _ _ c.requires.valid c.requires.some c.requires.unreached done c.in_ok-note_drop.ensures)
    c.drop_unreached.ensures.done

pub returns-clause-all : goal.returns-clause-all
returns-clause-all c =
    let g = graph_of c.args.self.now.model in
    on_ok_weaker c.drop_unreached.result
    (λ done. subst (λ (h : EventGraph). unreached h ≡ []) (sym done) (c.dropping_keeps_the_meaning.ensures.all_reached g c.args.vertices.now c.requires.valid (exactly_hold c.args.vertices.now (unreached g) c.requires.some c.requires.unreached)))
    c.drop_unreached.ensures.done
