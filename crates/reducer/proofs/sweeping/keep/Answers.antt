-- The edge goes, is at its new place already, or moves there.
use Rattle.std.proofs.Common.{◌∙◌, ap, not}
use Rattle.std.proofs.lemmas.List.Filters.{FiltersInPlace-more_no, FiltersInPlace-more_here, FiltersInPlace-more_swap}
use Rattle.sig_base.proofs.Lists.{get_or-there}
use Rattle.reducer.proofs.sweeping.keep.Goals as goal

pub returns-then-refuted-clause-moved : goal.returns-then-refuted-clause-moved
returns-then-refuted-clause-moved c = λ passes all placed is_filtered.
    let (e, is) = get_or-there c.args.edges.now.items c.args.place c.requires.there in
    FiltersInPlace-more_no placed c.requires.there (is_filtered e is ∙ ap not c.if-refuted.true) is

pub returns-then-kept-place-clause-moved : goal.returns-then-kept-place-clause-moved
returns-then-kept-place-clause-moved c = λ passes all placed is_filtered.
    let (e, is) = get_or-there c.args.edges.now.items c.args.place c.requires.there in
    FiltersInPlace-more_here placed c.requires.there (is_filtered e is ∙ ap not c.if-refuted.false) is c.if-kept-place.true

pub returns-clause-moved : goal.returns-clause-moved
returns-clause-moved c = λ passes all placed is_filtered.
    let (e, is) = get_or-there c.args.edges.now.items c.args.place c.requires.there in
    FiltersInPlace-more_swap placed c.requires.there (is_filtered e is ∙ ap not c.if-refuted.false) is c.swap.ensures.by_index
