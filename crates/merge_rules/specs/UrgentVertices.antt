-- The vertices with one urgent edge, whose condition always holds: a merge begins with one of them.
use Rattle.std.specs.Prelude.{ℕ, Bool, List, is_some, count_by}
use Rattle.model_core.specs.EventGraph.{EventVertex}
use Rattle.model_core.specs.Rules.UrgentEdges.{plain_urgent}

abbrev pub has_plain : EventVertex → Bool
has_plain v = is_some (plain_urgent v)

-- how many of these vertices have such an edge
abbrev pub plain_count : List EventVertex → ℕ
plain_count vs = count_by has_plain vs
