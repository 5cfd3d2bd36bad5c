-- The table, with the count for places beyond its end, gives each rank.
use Rattle.std.proofs.Common.{◌∙◌, ap, ℕ, List, Bool, slice_index_or}
use Rattle.model_core.specs.Rules.MarkedPlaces.{rank}
use Rattle.mark_laws.proofs.Ranks.{rank-in_table}
use Rattle.marked_walks.proofs.staying_places.Staying.number.Goals as goal

pub returns : goal.returns
returns c =
    let s = c.self.inside in
    c.number_in.ensures
    ∙ ap (λ (table : List ℕ). slice_index_or table c.args.place s.count) c.as_slice.ensures.value
    ∙ rank-in_table s.marks.items s.numbers.items s.count c.self.invariant.numbers c.self.invariant.count c.args.place
    ∙ ap (λ (marks : List Bool). rank marks c.args.place) c.self.view_is
