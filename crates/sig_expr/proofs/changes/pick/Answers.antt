use Rattle.std.proofs.Common.{rules, ap, sym, ◌∙◌, w64}
use Rattle.std.proofs.lemmas.Int.{to_z-of_z}
use Rattle.random_streams.specs.Draws.{next_word}
use Rattle.model_core.specs.Run.Changes.{drawn_value}
use Rattle.model_core.specs.Code.Views.{graph_of, choice_of}
use Rattle.sig_expr.proofs.Picks.{table_picked}
use Rattle.sig_expr.proofs.changes.pick.Goals as goal

pub returns-in-ByTable-clause-value : goal.returns-in-ByTable-clause-value
returns-in-ByTable-clause-value c =
    to_z-of_z w64 c.table.result (search rules) ∙ c.table.ensures.value
    ∙ table_picked c.args.model.now c.in-ByTable.table c.index-as_slice-table.result (next_word c.args.streams.now c.args.stream) (rw c.in-ByTable.is at c.requires.possible.possible).declared (rw c.as_slice.ensures at c.index-as_slice-table.is)
    ∙ ap (λ choice. drawn_value (graph_of c.args.model.now) (choice_of choice) (next_word c.args.streams.now c.args.stream)) (sym c.in-ByTable.is)
