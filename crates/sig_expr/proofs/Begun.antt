-- The cells of a state as a run begins.
use Rattle.std.proofs.Common.{◌≡◌, ◌≤◌, ◌<◌, ◌+◌, ℕ, ℤ, List, [], ◌∷◌, ◌++◌, length, map, take, get_or, replicate, refl, ap, sym, ◌∙◌}
use Rattle.std.proofs.lemmas.List.{take_all, take_more, length-replicate}
use Rattle.model_core.specs.declared.model.Var.{Var}
use Rattle.model_core.specs.declared.model.Model.{Model}
use Rattle.model_core.specs.Run.State.{cell_count, initial_state}
use Rattle.model_core.specs.Code.Views.{graph_of, variable_of}
use Rattle.sig_expr.specs.declared.state.Span.{Span}
use Rattle.sig_expr.specs.Inner.Pieces.{pieces}
use Rattle.sig_expr.proofs.PieceLaws.{CutSoFar, cut_more}

abbrev pub cells_for : Var → List ℤ
cells_for v = replicate (cell_count (variable_of v)) v.initial

-- the cells of one variable more
pub begun_more : (vars : List Var) (i : ℕ) (v : Var) (xs new : List ℤ) (spans spans_new : List Span) (p : Span)
    → i < length vars → v ≡ get_or vars i v → new ≡ xs ++ cells_for v → spans_new ≡ spans ++ p ∷ [] → p.from ≡ length xs → p.size ≡ cell_count (variable_of v)
    → CutSoFar cells_for (take i vars) xs spans → CutSoFar cells_for (take (i + 1) vars) new spans_new
begun_more vars i v xs new spans spans_new p below is added pushed from size h =
    cut_more cells_for (take i vars) (take (i + 1) vars) v xs (cells_for v) new spans spans_new p
    (take_more vars i v below ∙ ap (λ w. take i vars ++ w ∷ []) (sym is)) added pushed refl from (size ∙ sym (length-replicate (cell_count (variable_of v)) v.initial)) h

cells-views : (vars : List Var) → map cells_for vars ≡ map (λ v. replicate (cell_count v) v.initial) (map variable_of vars)
cells-views [] = refl
cells-views (v ∷ vars) = ap (λ xs. cells_for v ∷ xs) (cells-views vars)

pub all_begun : (m : Model) (i : ℕ) (xs : List ℤ) (spans : List Span) → CutSoFar cells_for (take i m.vars) xs spans → length m.vars ≤ i → pieces xs spans ≡ initial_state (graph_of m)
all_begun m i xs spans h all = h.cut ∙ ap (map cells_for) (take_all i m.vars all) ∙ cells-views m.vars
