-- One vertex more is read, or no more comes.
use Rattle.std.proofs.Common.{map, take, sym, subst, arith}
use Rattle.std.proofs.lemmas.List.{take_all}
use Rattle.sig_base.proofs.Lists.{seen_more}
use Rattle.model_core.specs.Code.Views.{vertex_of}
use Rattle.model_core.specs.Code.WrittenViews.{written_vertex}
use Rattle.model_core.specs.Text.Language.{vertex_format}
use Rattle.model_core.specs.Text.Numbering as numbering
use Rattle.model_core.specs.Static.Meanings.{meaning_of}
use Rattle.text_laws.specs.SomeTokens.{vertex-some}
use Rattle.one_pass.specs.Inner.AllFaults.{all_vertex_faults}
use Rattle.one_pass.specs.Inner.ReadParts.{AllBeginAlike}
use Rattle.one_pass.proofs.PartsInTurn.{none_taken, one_more_taken, all_taken}
use Rattle.one_pass.proofs.Alike.{alike-push}
use Rattle.one_pass.proofs.WholeReads.{vertices-stuck}
use Rattle.one_pass.proofs.VerticesRead.{vertices_taken}
use Rattle.one_pass.proofs.vertices.vertices.Goals as goal

pub loop-begun-init : goal.loop-begun-init
unfolding none_taken
loop-begun-init c =
    let m = meaning_of c.args.names.now in
    rw c.in_ok-vertices.ensures.items (record { so_far = none_taken vertex_format m (all_vertex_faults c.args.is_two m c.args.taken.now) numbering.vertex vertex_of c.args.fault.now c.args.cursor.now; alike = tt })

pub loop-begun-preserved : goal.loop-begun-preserved
unfolding one_more_taken
loop-begun-preserved c =
    let m = meaning_of c.args.names.now in
    let so_far = c.loop-begun.invariant.so_far in
    let read = c.in-Ok.ensures in
    record {
      so_far = one_more_taken vertex_format m (all_vertex_faults c.args.is_two m c.args.taken.now) numbering.vertex vertex_of vertex-some c.args.fault.now c.loop-begun.fault c.vertex.new.fault c.args.cursor.now c.loop-begun.cursor c.vertex.new.cursor
          c.loop-begun.vertices.items c.push.new.self.items c.in-Ok.read (sym c.if-not-begins-2.ensures) c.in_ok-push-in-Ok.ensures.items so_far read.part;
      alike = rw (seen_more written_vertex c.args.expected.now c.loop-begun.begun-index c.begun-item.result c.loop-begun-test.true c.begun-item.is)
          (alike-push so_far.seen (map written_vertex (take c.loop-begun.begun-index c.args.expected.now)) read.part.written (written_vertex c.begun-item.result) c.loop-begun.invariant.alike read.alike);
    }

pub returns-clause-ok : goal.returns-clause-ok
unfolding all_taken
returns-clause-ok c =
    let m = meaning_of c.args.names.now in
    let so_far = c.loop-begun.invariant.so_far in
    rw c.from_vec.ensures (vertices_taken c.args.is_two m c.args.taken.now (map written_vertex c.args.expected.now) c.args.fault.now c.loop-begun.fault c.args.cursor.now c.loop-begun.cursor (map vertex_of c.loop-begun.vertices.items) (sym c.if-not-begins.ensures)
    (all_taken vertex_format m (all_vertex_faults c.args.is_two m c.args.taken.now) numbering.vertex vertex_of vertex-some c.args.fault.now c.loop-begun.fault c.args.cursor.now c.loop-begun.cursor c.loop-begun.vertices.items (sym c.if-begins.ensures) so_far)
    (subst (λ xs. AllBeginAlike so_far.seen (map written_vertex xs)) (take_all c.loop-begun.begun-index c.args.expected.now (omega (arith, c.loop-begun-test.false))) c.loop-begun.invariant.alike))

-- ---- where no more is read

pub returns-then-not-begins-2-clause-unexpected : goal.returns-then-not-begins-2-clause-unexpected
returns-then-not-begins-2-clause-unexpected c =
    let so_far = c.loop-begun.invariant.so_far in
    λ is. vertices-stuck vertex_format vertex-some c.args.cursor.now c.loop-begun.cursor c.reason.new.cursor so_far.seen (sym c.if-not-begins.ensures) so_far.read (c.reason.ensures is)

pub returns-then-begins-clause-unexpected : goal.returns-then-begins-clause-unexpected
returns-then-begins-clause-unexpected c =
    let so_far = c.loop-begun.invariant.so_far in
    λ is. vertices-stuck vertex_format vertex-some c.args.cursor.now c.loop-begun.cursor c.reason-then-begins.new.cursor so_far.seen (sym c.if-not-begins.ensures) so_far.read (c.reason-then-begins.ensures is)

pub returns-in-Err-Unexpected-clause-unexpected : goal.returns-in-Err-Unexpected-clause-unexpected
returns-in-Err-Unexpected-clause-unexpected c =
    let so_far = c.loop-begun.invariant.so_far in
    let rest = rw c.again-from.ensures at c.reason-in-Err-Unexpected.ensures in
    λ is. vertices-stuck vertex_format vertex-some c.args.cursor.now c.loop-begun.cursor c.reason-in-Err-Unexpected.new.cursor so_far.seen (sym c.if-not-begins.ensures) so_far.read (rest is)
