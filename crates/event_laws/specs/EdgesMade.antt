-- The trees of an event's edges.
use Rattle.std.specs.Prelude.{ℕ, ℤ, pos, negsuc, cond, List, [], ◌∷◌, ◌++◌, length, map, Option, Some}
use Rattle.sig_base.specs.declared.fault.FaultKind.TheVariants as faults
use Rattle.model_core.specs.EventGraph.{EventGraph, EventEdge, EdgeKind, Schedule, Urgent, CancelNext, CancelEqual, CancelAll, Delay, Fixed, Drawn}
use Rattle.model_core.specs.Run.Value.{is_one}
use Rattle.tree_laws.specs.LinearSums.{WordAtom}
use Rattle.tree_laws.specs.SumValues.{Valuation}
use Rattle.tree_laws.specs.Limits.{◌>>=◌}
use Rattle.tree_laws.specs.SumEnds.{Ground}
use Rattle.tree_laws.specs.Trees.{CaseTree, tree_value}
use Rattle.tree_laws.specs.TreeConditions.{number_tree, is_zero_tree, at_most_tree, opposite_tree, read_tree}
use Rattle.tree_laws.specs.Valued.{Noted, SoFar, note, valued}
use Rattle.pair_laws.specs.EdgesNow.{FormNow, Schedules, TakesNext, TakesEqual, TakesAll, EdgeNow}
use Rattle.event_laws.specs.Making.{WordTaken, with_words}
use Rattle.event_laws.specs.ChangesMade.{always, all_valued}

-- the form and target of an edge, and the trees of its condition, its delay and its values
pub record EdgeTrees : Type 0 where
  pub form : FormNow
  pub target : ℕ
  pub condition : CaseTree
  pub delay : CaseTree
  pub values : List CaseTree

pub record DelayMade : Type 0 where
  pub tree : CaseTree
  pub noted : Noted
  pub words : List WordTaken

pub record EdgesMade : Type 0 where
  pub edges : List EdgeTrees
  pub noted : Noted
  pub words : List WordTaken

module _ (g : EventGraph) (base : Ground) (so_far : SoFar) where
  -- a delay isn't below 0
  abbrev pub delay_checked : Ground → CaseTree → CaseTree → Noted → List WordTaken → Option DelayMade
  delay_checked now guard t n words = do
    below ← at_most_tree now n.known t (negsuc 0)
    c ← opposite_tree now n.known below
    m ← note now faults.NegativeDelay guard c n
    Some (record { tree = t; noted = m; words = words })

  unfoldable pub delay_made : CaseTree → Delay → Noted → List WordTaken → Option DelayMade
  delay_made guard (Fixed e) n words = do
    w ← valued (with_words g base words) g so_far e guard n
    delay_checked (with_words g base words) guard w.tree w.noted words
  delay_made guard (Drawn stream choice) n words = do
    t ← read_tree (with_words g base (record { stream = stream; guard = guard; choice = choice } ∷ words)) n.known (WordAtom (length words))
    delay_checked (with_words g base (record { stream = stream; guard = guard; choice = choice } ∷ words)) guard t n (record { stream = stream; guard = guard; choice = choice } ∷ words)

  -- the one edge that is made, with these values
  abbrev pub edge_with : FormNow → CaseTree → EventEdge → DelayMade → Option EdgesMade
  edge_with form guard e d = do
    ws ← all_valued g (with_words g base d.words) so_far guard e.values d.noted
    Some (record { edges = record { form = form; target = e.target; condition = guard; delay = d.tree; values = ws.trees } ∷ []; noted = ws.noted; words = d.words })

  abbrev pub edge_bare : FormNow → CaseTree → EventEdge → DelayMade → Option EdgesMade
  edge_bare form guard e d = Some (record { edges = record { form = form; target = e.target; condition = guard; delay = d.tree; values = [] } ∷ []; noted = d.noted; words = d.words })

  -- an edge without a delay
  abbrev pub at_once : Noted → List WordTaken → DelayMade
  at_once n words = record { tree = number_tree (pos 0); noted = n; words = words }

  -- an edge of this kind whose condition is the guard
  unfoldable pub edge_of_kind : CaseTree → EventEdge → EdgeKind → Noted → List WordTaken → Option EdgesMade
  edge_of_kind guard e (Schedule delay priority) n words = do
    d ← delay_made guard delay n words
    edge_with (Schedules priority) guard e d
  edge_of_kind guard e Urgent n words = edge_with (Schedules 0) guard e (at_once n words)
  edge_of_kind guard e CancelNext n words = edge_bare TakesNext guard e (at_once n words)
  edge_of_kind guard e CancelEqual n words = edge_with TakesEqual guard e (at_once n words)
  edge_of_kind guard e CancelAll n words = edge_bare TakesAll guard e (at_once n words)

  -- an edge whose condition is 0 is left out
  unfoldable pub edge_made : EventEdge → Noted → List WordTaken → Option EdgesMade
  edge_made e n words = do
    c ← valued (with_words g base words) g so_far e.condition always n
    cond (is_zero_tree c.tree) (Some (record { edges = []; noted = c.noted; words = words })) (edge_of_kind c.tree e e.kind c.noted words)

  unfoldable pub edges_made : List EventEdge → Noted → List WordTaken → Option EdgesMade
  edges_made [] n words = Some (record { edges = []; noted = n; words = words })
  edges_made (e ∷ es) n words = do
    one ← edge_made e n words
    more ← edges_made es one.noted one.words
    Some (record { edges = one.edges ++ more.edges; noted = more.noted; words = more.words })

-- ---- an edge at one moment

abbrev pub ticks_of : ℤ → ℕ
ticks_of (pos n) = n
ticks_of (negsuc n) = 0

abbrev pub edge_now : Valuation → EdgeTrees → EdgeNow
edge_now v e = record {
  holds = is_one (tree_value v e.condition);
  form = e.form;
  target = e.target;
  delay = ticks_of (tree_value v e.delay);
  values = map (tree_value v) e.values;
}
