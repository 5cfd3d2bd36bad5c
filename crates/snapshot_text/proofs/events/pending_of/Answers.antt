-- One pending event more, or one that is bad, and all of them.
use Rattle.std.proofs.Common.{List, map, drop, sym, ap, ◌+◌, ◌++◌, ◌∙◌, append-nil, drop_of_length-le}
use Rattle.sig_base.proofs.Lists.{one_left}
use Rattle.model_core.specs.Code.Views.{graph_of}
use Rattle.model_core.specs.Text.SnapshotGrammar.{WrittenPending}
use Rattle.model_core.specs.Saved.GoodSnapshots.{first_bad_part, pending_part, saved_entry}
use Rattle.snapshot_text.specs.declared.parts.RawPending.{RawPending}
use Rattle.snapshot_text.specs.Inner.RawParts.{written_pending}
use Rattle.snapshot_text.proofs.JudgedParts.{one_part_more, one_part_reported}
use Rattle.snapshot_text.proofs.events.pending_of.Goals as goal

pub loop-raw-preserved : goal.loop-raw-preserved
loop-raw-preserved c =
    let g = graph_of c.args.model.now in
    let clock = c.args.clock in
    let raws = c.args.raws.now in
    let out = c.loop-raw.entries.items in
    let left = sym (ap (map written_pending) (one_left raws c.loop-raw.raw-index c.raw-item.result c.loop-raw-test.true c.raw-item.is)) in
    rw (c.in_ok-push.ensures.items)
    (one_part_more (pending_part g) (saved_entry g clock) (written_pending c.raw-item.result) (map written_pending (drop (c.loop-raw.raw-index + 1) raws)) c.in-Some.entry out _ _ c.in-Some.ensures
    (ap (λ (l : List WrittenPending). first_bad_part (map (pending_part g) l)) left ∙ c.loop-raw.invariant.0)
    (ap (λ (l : List WrittenPending). out ++ map (saved_entry g clock) l) left ∙ c.loop-raw.invariant.1))

pub returns-in_default : goal.returns-in_default
returns-in_default c =
    let g = graph_of c.args.model.now in
    let raws = c.args.raws.now in
    let left = sym (ap (map written_pending) (one_left raws c.loop-raw.raw-index c.raw-item.result c.loop-raw-test.true c.raw-item.is)) in
    one_part_reported (pending_part g) (saved_entry g c.args.clock) (written_pending c.raw-item.result) (map written_pending (drop (c.loop-raw.raw-index + 1) raws)) _ c.in_default.ensures
    (ap (λ (l : List WrittenPending). first_bad_part (map (pending_part g) l)) left ∙ c.loop-raw.invariant.0)

pub returns : goal.returns
returns c =
    let g = graph_of c.args.model.now in
    let out = c.loop-raw.entries.items in
    let none = drop_of_length-le c.args.raws.now c.loop-raw-test.false in (
      sym c.loop-raw.invariant.0 ∙ ap (λ (l : List RawPending). first_bad_part (map (pending_part g) (map written_pending l))) none,
      c.from_vec.ensures ∙ sym (append-nil out) ∙ ap (λ (l : List RawPending). out ++ map (saved_entry g c.args.clock) (map written_pending l)) (sym none) ∙ c.loop-raw.invariant.1,
    )
