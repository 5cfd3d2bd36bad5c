-- A scalar, or a cell.
use Rattle.std.proofs.Common.{sym}
use Rattle.model_core.specs.Code.Views.{expression_of}
use Rattle.model_core.specs.Static.Meanings.{meaning_of}
use Rattle.model_read.specs.Spelled.{spelled_name}
use Rattle.one_pass.proofs.TargetsRead.{scalar_read, cell_read}
use Rattle.one_pass.proofs.changes.target.Goals as goal
use Rattle.one_pass.proofs.changes.target.Goals.{then-is_array+in_ok-bracketed, else-is_array}

pub returns-clause-reads : goal.returns-clause-reads
returns-clause-reads c =
    let m = meaning_of c.args.names.now in
    let n = spelled_name c.in_ok-name.name in
    let var = c.in_ok-var.var in
    elim c.if-is_array.branch [
      | then-is_array+in_ok-bracketed w ↦
          let index = w.in_ok-bracketed in
          rw (w.cursor-is, w.index-is, w.into_expr.ensures) (cell_read m n var.part var.kind w.bracketed.new.read.kind (expression_of w.bracketed.new.read.expr) c.args.cursor.now c.spelling.new.self w.bracketed.new.cursor c.in_ok-name.ensures.reads (sym w.if-is_array.ensures)
          (rw w.if-is_array.true at c.in_ok-var.ensures.unbroken) c.in_ok-var.ensures.numbers (rw w.if-is_array.true at c.in_ok-var.ensures.kind) index.ensures.taken.reads index.ensures.ranged)
      | else-is_array w ↦
          rw (w.cursor-is, w.index-is) (scalar_read m n var.part var.kind c.args.cursor.now c.spelling.new.self c.in_ok-name.ensures.reads (sym w.if-is_array.ensures)
          (rw w.if-is_array.false at c.in_ok-var.ensures.unbroken) c.in_ok-var.ensures.numbers (rw w.if-is_array.false at c.in_ok-var.ensures.kind))
    ]
