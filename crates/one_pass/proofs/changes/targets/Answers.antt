-- One target more is read, or no more comes.
use Rattle.std.proofs.Common.{[], ◌∷◌, map, sym, arith}
use Rattle.std.proofs.lemmas.List.{map_push, length-append}
use Rattle.model_core.specs.Code.Views.{location_of}
use Rattle.model_core.specs.Text.Language.{target_format}
use Rattle.model_core.specs.Static.Meanings.{meaning_of}
use Rattle.one_pass.specs.Inner.ReadTargets.{IsTarget}
use Rattle.one_pass.proofs.RowsInTurn.{first_read, next_read, all_read}
use Rattle.one_pass.proofs.changes.targets.Goals as goal

pub loop-alloc-init : goal.loop-alloc-init
loop-alloc-init c =
    let first = c.in_ok-first.ensures.reads in
    rw (c.in_ok-targets.ensures, c.push.ensures.items, c.new-kinds.ensures) (record {
      so_far = first_read target_format (IsTarget (meaning_of c.args.names.now)) c.args.cursor.now c.target.new.cursor first.written (location_of c.in_ok-first.first.part) c.in_ok-first.first.kind first.is_read first.target;
      within = omega arith;
    })

pub loop-alloc-preserved : goal.loop-alloc-preserved
loop-alloc-preserved c =
    let next = c.in_ok-next.ensures.reads in
    let part = c.in_ok-next.next.part in
    let so_far = c.loop-alloc in
    rw (c.in_ok-push.ensures.ok, map_push location_of so_far.targets part, c.push-in-loop-alloc-2.ensures.items) (record {
      so_far = next_read target_format (IsTarget (meaning_of c.args.names.now)) c.args.cursor.now so_far.cursor c.symbol.new.self c.target-in-loop-alloc.new.cursor _ next.written (location_of part) c.in_ok-next.next.kind
          (map location_of so_far.targets) so_far.kinds.items c.in_ok-symbol.ensures.reads next.is_read next.target so_far.invariant.so_far;
      within = let longer = length-append so_far.kinds.items (c.in_ok-next.next.kind ∷ []) in let here = c.len.ensures.value in let short = c.if-len-limit.false in omega arith;
    })

pub returns : goal.returns
returns c =
    let l = c.loop-alloc in
    rw c.packed.ensures (record {
      reads = all_read target_format (IsTarget (meaning_of c.args.names.now)) c.args.cursor.now l.cursor (map location_of l.targets) l.kinds.items (sym c.loop-alloc-test.ensures) l.invariant.so_far;
      within = l.invariant.within;
    })
