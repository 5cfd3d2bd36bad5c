-- What dropping gives where its conditions hold: the graph of the vertices that can be reached.
use Rattle.std.proofs.Common.{◌≡◌, ℕ, List, None, sym, ap, ◌∙◌}
use Rattle.model_core.specs.EventGraph.{EventGraph}
use Rattle.model_core.specs.Rules.Conditions.{first_failed}
use Rattle.model_core.specs.Rules.Reached.{reached_marks, unreached}
use Rattle.model_core.specs.Rules.Drop.{is_nonempty_list, lists_exactly, drop_conditions, staying_marks, only_marked, dropped}
use Rattle.edge_pruning.proofs.FewerOrFreer.{both_hold}
use Rattle.mark_laws.proofs.ReachedLong.{reached_marks-long}
use Rattle.mark_laws.proofs.StayingMarks.{staying-unmarked, exactly-equal}

pub lists_unreached : (g : EventGraph) (vertices : List ℕ) → first_failed (drop_conditions g vertices) ≡ None → vertices ≡ unreached g
lists_unreached g vertices none = exactly-equal vertices (unreached g) (both_hold (is_nonempty_list vertices) (lists_exactly vertices (unreached g)) none).1

-- without what can't be reached there are the marked vertices
pub without_unreached : (g : EventGraph) → dropped g (unreached g) ≡ only_marked g (reached_marks g)
without_unreached g = ap (only_marked g) (ap (staying_marks (unreached g)) (sym (reached_marks-long g)) ∙ staying-unmarked (reached_marks g))
