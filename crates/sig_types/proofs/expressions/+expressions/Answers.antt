use Rattle.std.proofs.Common.{◌≡◌, refl}
use Rattle.model_core.specs.declared.static_kind.StaticKind.TheVariants as rules
use Rattle.model_core.specs.Code.Views.{operator_of}
use Rattle.model_core.specs.Code.WrittenViews.{written_name, written_expression}
use Rattle.model_core.specs.Static.FaultOrder.{fault_where}
use Rattle.model_core.specs.Static.Meanings.{meaning_of}
use Rattle.model_core.specs.Static.PartFaults.{kind_faults}
use Rattle.static_laws.proofs.Checks.{before}
use Rattle.sig_types.proofs.Operands.{place-written, cell, negative, negated, binary, choice}
use Rattle.sig_types.proofs.expressions.+expressions.Goals as goal

pub operand-returns-clause-checked : goal.operand-returns-clause-checked
operand-returns-clause-checked t c =
    let same : kind_faults (meaning_of c.args.names.now) c.args.wanted (written_expression c.args.raw.now) ≡ fault_where c.kinds_differ-differs.result rules.KindMismatch c.args.raw.now.at
    = rw (place-written, c.kinds_differ-differs.ensures, c.in_ok-typed.ensures.kind) refl in
    rw same (before _ _ c.in_ok-typed.ensures.checked c.note.ensures)

pub typed_expression-returns-in_ok-index-in-Cell-clause-checked : goal.typed_expression-returns-in_ok-index-in-Cell-clause-checked
typed_expression-returns-in_ok-index-in-Cell-clause-checked t c =
    rw c.in-Cell.is
    (cell (meaning_of c.args.names.now) c.args.raw.now.at _ _ _ (written_name c.in-Cell.name) (written_expression c.in-Cell.index.value) _ _ c.variable-var-in-Cell.ensures.checked c.in_ok-index-in-Cell.ensures.checked)

pub typed_expression-returns-in_ok-number-in-Neg-clause-checked : goal.typed_expression-returns-in_ok-number-in-Neg-clause-checked
typed_expression-returns-in_ok-number-in-Neg-clause-checked t c =
    rw c.in-Neg.is (negative (meaning_of c.args.names.now) c.args.raw.now.at _ _ (written_expression c.in-Neg.number.value) _ c.in_ok-number-in-Neg.ensures.checked)

pub typed_expression-returns-in_ok-truth-in-Not-clause-checked : goal.typed_expression-returns-in_ok-truth-in-Not-clause-checked
typed_expression-returns-in_ok-truth-in-Not-clause-checked t c =
    rw c.in-Not.is (negated (meaning_of c.args.names.now) c.args.raw.now.at _ _ (written_expression c.in-Not.truth.value) _ c.in_ok-truth-in-Not.ensures.checked)

pub typed_expression-returns-in_ok-right-in-Binary-clause-checked : goal.typed_expression-returns-in_ok-right-in-Binary-clause-checked
typed_expression-returns-in_ok-right-in-Binary-clause-checked t c =
    rw c.in-Binary.is
    (binary (meaning_of c.args.names.now) c.args.raw.now.at _ _ _ (operator_of c.in-Binary.op) (written_expression c.in-Binary.left.value) (written_expression c.in-Binary.right.value) _ _ _ _ _
    c.operand_kind-wanted.ensures c.in_ok-left-in-Binary.ensures.kind c.right_kind.ensures c.in_ok-left-in-Binary.ensures.checked c.in_ok-right-in-Binary.ensures.checked)

pub typed_expression-returns-in_ok-no-in-If-clause-checked : goal.typed_expression-returns-in_ok-no-in-If-clause-checked
typed_expression-returns-in_ok-no-in-If-clause-checked t c =
    rw c.in-If.is
    (choice (meaning_of c.args.names.now) c.args.raw.now.at _ _ _ _ (written_expression c.in-If.test.value) (written_expression c.in-If.yes.value) (written_expression c.in-If.no.value) _ _ _ _
    c.in_ok-yes-in-If.ensures.kind c.in_ok-test-in-If.ensures.checked c.in_ok-yes-in-If.ensures.checked c.in_ok-no-in-If.ensures.checked)
