-- The first edge that passes a test, where none before it does.
use Rattle.std.proofs.Common.{◌≡◌, ℕ, ◌+◌, Bool, true, cond, List, [], ◌∷◌, ◌++◌, length, Some, ap, ◌∙◌, arith}
use Rattle.std.specs.List.{position_from}
use Rattle.model_core.specs.EventGraph.{EventEdge, EventVertex}
use Rattle.model_core.specs.Rules.PlacedEdges.{edge_or, first_edge}
use Rattle.model_core.proofs.NoEdgePasses.{NoneOf, NoneIn, position_from-none}

position_from-after : (test : EventEdge → Bool) (n : ℕ) (kept : List EventEdge) (e : EventEdge) (es : List EventEdge) → NoneOf test kept → test e ≡ true → position_from test n (kept ++ e ∷ es) ≡ Some (n + length kept)
position_from-after test n [] e es none here = ap (λ b. cond b (Some n) (position_from test (n + 1) es)) here ∙ ap Some (omega arith)
position_from-after test n (k ∷ kept) e es none here =
    ap (λ b. cond b (Some n) (position_from test (n + 1) (kept ++ e ∷ es))) none.0 ∙ position_from-after test (n + 1) kept e es none.1 here ∙ ap Some (omega arith)

pub first_edge-after : (test : EventEdge → Bool) (n : ℕ) (front : List EventVertex) (v : EventVertex) (later : List EventVertex) (kept : List EventEdge) (e : EventEdge) (es : List EventEdge) → NoneIn test front → NoneOf test kept → v.edges ≡ kept ++ e ∷ es → test e ≡ true → first_edge test n (front ++ v ∷ later) ≡ Some (n + length front, length kept)
first_edge-after test n [] v later kept e es front none edges here =
    ap (λ o. edge_or n o (first_edge test (n + 1) later)) (ap (position_from test 0) edges ∙ position_from-after test 0 kept e es none here)
    ∙ ap (λ i. Some (i, 0 + length kept)) (let moved : n ≡ n + 0 = omega arith in moved) ∙ ap (λ j. Some (n + 0, j)) (let same : 0 + length kept ≡ length kept = omega arith in same)
first_edge-after test n (w ∷ front) v later kept e es clean none edges here =
    ap (λ o. edge_or n o (first_edge test (n + 1) (front ++ v ∷ later))) (position_from-none test 0 w.edges clean.0)
    ∙ first_edge-after test (n + 1) front v later kept e es clean.1 none edges here ∙ ap (λ i. Some (i, length kept)) (omega arith)
