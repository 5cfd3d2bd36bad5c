-- What is read in one part after the other is read in all.
use Rattle.std.proofs.Common.{◌∙◌, List, ℕ, sym, ap}
use Rattle.model_core.specs.Rules.Uses.{variables_in}
use Rattle.model_core.specs.Code.Views.{expression_of}
use Rattle.var_slicing.specs.Inner.Needing.{with_reads}
use Rattle.var_slicing.proofs.ReadsBeside.{reads-joined, three-joined}
use Rattle.var_slicing.proofs.reads_beside.+add_reads_beside.Goals as goal

pub returns-in_ok-add_reads_beside-in-Binary-2 : goal.returns-in_ok-add_reads_beside-in-Binary-2
returns-in_ok-add_reads_beside-in-Binary-2 t c =
    let marks = c.args.marks.now in
    let left = variables_in (expression_of c.deref-in-Binary.result.now) in
    let right = variables_in (expression_of c.deref-in-Binary-2.result.now) in
    rw (c.in-Binary.is, ← c.deref-in-Binary.ensures, ← c.deref-in-Binary-2.ensures)
    (c.in_ok-add_reads_beside-in-Binary-2.ensures
    ∙ ap (λ (pairs : List (ℕ × ℕ)). with_reads marks c.args.var pairs right) c.in_ok-add_reads_beside-in-Binary.ensures
    ∙ sym (reads-joined marks c.args.var c.args.pairs.now.items left right))

pub returns-in_ok-add_reads_beside-in-If-3 : goal.returns-in_ok-add_reads_beside-in-If-3
returns-in_ok-add_reads_beside-in-If-3 t c =
    let marks = c.args.marks.now in
    let v = c.args.var in
    let first = variables_in (expression_of c.deref-in-If.result.now) in
    let second = variables_in (expression_of c.deref-in-If-2.result.now) in
    let third = variables_in (expression_of c.deref-in-If-3.result.now) in
    rw (c.in-If.is, ← c.deref-in-If.ensures, ← c.deref-in-If-2.ensures, ← c.deref-in-If-3.ensures)
    (c.in_ok-add_reads_beside-in-If-3.ensures
    ∙ ap (λ (pairs : List (ℕ × ℕ)). with_reads marks v pairs third) c.in_ok-add_reads_beside-in-If-2.ensures
    ∙ ap (λ (pairs : List (ℕ × ℕ)). with_reads marks v (with_reads marks v pairs second) third) c.in_ok-add_reads_beside-in-If.ensures
    ∙ sym (three-joined marks v c.args.pairs.now.items first second third))
