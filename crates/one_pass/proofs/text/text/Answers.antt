-- A whole text, from its parts; and where it is stuck.
use Rattle.std.proofs.lemmas.Result.{err_from_is_err_and}
use Rattle.model_core.specs.Code.Views.{graph_of}
use Rattle.model_core.specs.Code.WrittenViews.{written_model}
use Rattle.model_read.specs.Beginnings.{with_vertices}
use Rattle.one_pass.proofs.WholeReads.{text-read, text-stuck, beginning-stuck}
use Rattle.one_pass.proofs.TextRead.{model_decided}
use Rattle.one_pass.proofs.text.text.Goals as goal

pub returns-clause-ok : goal.returns-clause-ok
returns-clause-ok c =
    let read = c.in_ok-model.ensures.ok in
    let begun = written_model c.in_ok-begun.begun in
    let end_at = c.in_ok-end_at.end_at in
    let version = rw c.requires at c.in_ok-begun.ensures.version in
    record {
      written = with_vertices begun read.vertices end_at;
      read = text-read begun c.args.cursor.now c.declarations.new.cursor c.in_ok-begun.ensures.reads read.vertices end_at c.after_declarations.new.cursor c.ending.new.cursor read.read c.in_ok-end_at.ensures;
      decided = model_decided (with_vertices begun read.vertices end_at) (graph_of c.in_ok-model.model) c.declarations.new.fault c.after_declarations.new.fault c.report_long_text.new.fault version (read.checked end_at) c.report_long_text.ensures.none c.report_long_text.ensures.some;
    }

pub returns-in_err-begun-clause-unexpected : goal.returns-in_err-begun-clause-unexpected
returns-in_err-begun-clause-unexpected c =
    let p = err_from_is_err_and c.from_residual.result c.from_residual.ensures.1 in
    rw (p.1, p.2) (λ is. beginning-stuck c.args.cursor.now c.declarations.new.cursor (c.in_err-begun.ensures.unexpected is))

pub returns-in_err-model-clause-unexpected : goal.returns-in_err-model-clause-unexpected
returns-in_err-model-clause-unexpected c =
    let p = err_from_is_err_and c.from_residual-in_err-model.result c.from_residual-in_err-model.ensures.1 in
    rw (p.1, p.2) (λ is. text-stuck (written_model c.in_ok-begun.begun) c.args.cursor.now c.declarations.new.cursor c.in_ok-begun.ensures.reads c.after_declarations.new.cursor (c.in_err-model.ensures.unexpected is))

pub returns-in_err-end_at-clause-unexpected : goal.returns-in_err-end_at-clause-unexpected
returns-in_err-end_at-clause-unexpected c =
    let p = err_from_is_err_and c.from_residual-in_err-end_at.result c.from_residual-in_err-end_at.ensures.1 in
    let read = c.in_ok-model.ensures.ok in
    rw p.1 (λ is. text-stuck (written_model c.in_ok-begun.begun) c.args.cursor.now c.declarations.new.cursor c.in_ok-begun.ensures.reads c.ending.new.cursor (rw read.read (c.in_err-end_at.ensures (p.2 is))))
