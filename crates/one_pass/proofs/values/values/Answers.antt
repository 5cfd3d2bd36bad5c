-- One value more is read, or no comma comes.
use Rattle.std.proofs.Common.{◌≡◌, map, length, refl, sym, ap, ◌∙◌, arith}
use Rattle.std.proofs.lemmas.List.{map_push, length-map}
use Rattle.model_core.specs.declared.token.Symbol.TheVariants.{Comma}
use Rattle.model_core.specs.Code.Views.{expression_of}
use Rattle.model_core.specs.Text.Format.{mark, ◌*>◌}
use Rattle.model_core.specs.Text.Expressions.{expression_format}
use Rattle.model_core.specs.Static.Meanings.{meaning_of}
use Rattle.text_laws.proofs.ReadLoop.{shorter}
use Rattle.static_laws.specs.Wanted.{wanted}
use Rattle.one_pass.proofs.ValuesRead.{one_listed, one_more_listed, all_listed}
use Rattle.one_pass.proofs.values.values.Goals as goal

pub loop-alloc-init : goal.loop-alloc-init
loop-alloc-init c =
    rw (c.in_ok-push.ensures.ok, c.from_vec-all.ensures, c.in_ok-with_capacity.ensures.items) (one_listed (meaning_of c.args.names.now) c.args.kinds.now c.args.cursor.now c.value.new.cursor (expression_of c.in_ok-value.field-0) (rw c.wanted_at.ensures at c.in_ok-value.ensures))

pub loop-alloc-smaller : goal.loop-alloc-smaller
loop-alloc-smaller c =
    let value = c.in_ok-next.ensures in
    let s = shorter (mark Comma *> expression_format) refl c.loop-alloc.cursor value.written c.next.new.cursor value.read in
    omega arith

pub loop-alloc-preserved : goal.loop-alloc-preserved
loop-alloc-preserved c =
    let all = c.loop-alloc.all in
    let wanted-is : c.wanted_at-wanted.result ≡ wanted c.args.kinds.now (length (map expression_of all)) = c.wanted_at-wanted.ensures ∙ ap (wanted c.args.kinds.now) (c.len.ensures ∙ sym (length-map all expression_of)) in
    one_more_listed (meaning_of c.args.names.now) c.args.kinds.now c.args.cursor.now c.loop-alloc.cursor c.next.new.cursor (map expression_of all) (map expression_of c.push-in-loop-alloc.new.self) (expression_of c.in_ok-next.field-0)
    (sym c.loop-alloc-test.ensures) (rw c.in_ok-push-2.ensures.ok (map_push expression_of all c.in_ok-next.field-0)) c.loop-alloc.invariant (rw wanted-is at c.in_ok-next.ensures)

pub returns : goal.returns
returns c =
    let all = c.loop-alloc.all in
    let size = length-map all expression_of in
    let counted : length (map expression_of all) ≡ length c.args.kinds.now = omega (arith, size, c.len-2.ensures, c.if-len-kinds.false) in
    rw c.packed.ensures (all_listed (meaning_of c.args.names.now) c.args.kinds.now c.args.cursor.now c.loop-alloc.cursor (map expression_of all) (sym c.loop-alloc-test.ensures) counted c.loop-alloc.invariant)
