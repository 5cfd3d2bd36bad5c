use Rattle.std.proofs.Common.{sym, subst}
use Rattle.std.proofs.lemmas.List.{length-map}
use Rattle.model_core.specs.Code.Views.{graph_of, variable_of}
use Rattle.model_facts.specs.NothingCounted.{NothingCounted}
use Rattle.model_facts.proofs.progress.Progress.begin.Goals as goal

pub returns : goal.returns
returns c = record {
  facts = c.begin.ensures (graph_of c.args.model.now);
  counts = subst (λ n. NothingCounted n c.in_ok-begin.field-0) (sym (length-map c.args.model.now.vars variable_of)) (c.new_counts_count_nothing.ensures _ _ c.in_ok-begin.ensures);
  reached = λ all. cc;
}
