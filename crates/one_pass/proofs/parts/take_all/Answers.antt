-- One part more is read, or no more comes.
use Rattle.std.proofs.Common.{List, sym, subst, arith}
use Rattle.model_core.specs.Text.Lexing.{Lexeme}
use Rattle.model_core.specs.Static.Meanings.{meaning_of}
use Rattle.text_laws.proofs.ReadLoop.{shorter}
use Rattle.one_pass.specs.Inner.ReadParts.{ReadChecked}
use Rattle.one_pass.proofs.Sure.{sure_is_checked}
use Rattle.one_pass.proofs.PartsInTurn.{one_more_taken, all_taken}
use Rattle.one_pass.proofs.parts.take_all.Goals as goal

-- a part that surely breaks no static rule
pub loop-alloc-smaller-in_ok-push-in-Ok : goal.loop-alloc-smaller-in_ok-push-in-Ok
loop-alloc-smaller-in_ok-push-in-Ok g c =
    let part = c.in-Ok.ensures in
    let s = shorter g.T.Part.format g.met.T.Part.some_tokens c.loop-alloc.cursor part.written c.take_sure.new.cursor part.read in
    omega arith

pub loop-alloc-preserved-in_ok-push-in-Ok : goal.loop-alloc-preserved-in_ok-push-in-Ok
loop-alloc-preserved-in_ok-push-in-Ok g c =
    let m = meaning_of c.args.names.now in
    let faults = g.T.Part.faults c.args.is_two m c.args.taken.now in
    one_more_taken g.T.Part.format m faults g.T.Part.number g.T.Part.plain g.met.T.Part.some_tokens c.args.fault.now c.loop-alloc.fault c.loop-alloc.fault c.args.cursor.now c.loop-alloc.cursor c.take_sure.new.cursor
    c.loop-alloc.parts c.push.new.self c.in-Ok.part (sym c.loop-alloc-test.ensures) c.in_ok-push-in-Ok.ensures.ok c.loop-alloc.invariant
    (sure_is_checked g.T.Part.format m faults g.T.Part.number c.loop-alloc.fault c.loop-alloc.cursor c.take_sure.new.cursor (g.T.Part.plain c.in-Ok.part) c.in-Ok.ensures)

-- one that was read once more, from where it begins
pub loop-alloc-smaller : goal.loop-alloc-smaller
loop-alloc-smaller g c =
    let part = subst (λ (before : List Lexeme). ReadChecked g.T.Part.format (meaning_of c.args.names.now) (g.T.Part.faults c.args.is_two (meaning_of c.args.names.now) c.args.taken.now) g.T.Part.number c.loop-alloc.fault c.take_checked.new.fault before c.take_checked.new.cursor (g.T.Part.plain c.in_ok-take_checked-in-Err-Unexpected.field-0)) c.again-begun.ensures c.in_ok-take_checked-in-Err-Unexpected.ensures in
    let s = shorter g.T.Part.format g.met.T.Part.some_tokens c.loop-alloc.cursor part.written c.take_checked.new.cursor part.read in
    omega arith

pub loop-alloc-preserved : goal.loop-alloc-preserved
loop-alloc-preserved g c =
    let m = meaning_of c.args.names.now in
    let faults = g.T.Part.faults c.args.is_two m c.args.taken.now in
    one_more_taken g.T.Part.format m faults g.T.Part.number g.T.Part.plain g.met.T.Part.some_tokens c.args.fault.now c.loop-alloc.fault c.take_checked.new.fault c.args.cursor.now c.loop-alloc.cursor c.take_checked.new.cursor
    c.loop-alloc.parts c.push-in-Err-Unexpected.new.self c.in_ok-take_checked-in-Err-Unexpected.field-0 (sym c.loop-alloc-test.ensures) c.in_ok-push-in-Err-Unexpected.ensures.ok c.loop-alloc.invariant
    (subst (λ (before : List Lexeme). ReadChecked g.T.Part.format m faults g.T.Part.number c.loop-alloc.fault c.take_checked.new.fault before c.take_checked.new.cursor (g.T.Part.plain c.in_ok-take_checked-in-Err-Unexpected.field-0)) c.again-begun.ensures c.in_ok-take_checked-in-Err-Unexpected.ensures)

pub returns : goal.returns
returns g c =
    let m = meaning_of c.args.names.now in
    rw c.packed.ensures (all_taken g.T.Part.format m (g.T.Part.faults c.args.is_two m c.args.taken.now) g.T.Part.number g.T.Part.plain g.met.T.Part.some_tokens c.args.fault.now c.loop-alloc.fault c.args.cursor.now c.loop-alloc.cursor c.loop-alloc.parts
    (sym c.loop-alloc-test.ensures) c.loop-alloc.invariant)
