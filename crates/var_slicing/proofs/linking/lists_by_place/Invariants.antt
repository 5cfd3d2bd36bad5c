use Rattle.std.proofs.Common.{◌≡◌, drop}
use Rattle.var_slicing.specs.Inner.Linking.{no_lists, lists_of_pairs}
use Rattle.var_slicing.proofs.linking.lists_by_place.Given as goal

abbrev pub invariant-loop-pair : goal.invariant-loop-pair
invariant-loop-pair l = lists_of_pairs (drop l.pair-index l.pairs) l.lists.items ≡ lists_of_pairs l.pairs (no_lists l.count)
