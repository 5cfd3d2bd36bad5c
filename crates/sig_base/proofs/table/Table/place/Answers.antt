use Rattle.std.proofs.Common.{◌*◌, ◌/◌, ◌≤◌, ◌^◌, map, slice_index_or, sym, ap, ◌∙◌}
use Rattle.std.proofs.Math.Nat.{div-mul-le_self}
use Rattle.sig_base.specs.declared.table.Row.{Row}
use Rattle.sig_base.specs.Stream.{share, place_exceeding}
use Rattle.sig_base.specs.RunningSums.{AtMostBefore}
use Rattle.sig_base.proofs.SumsSearched.{first_above, share_rises, before_rises, start_known}
use Rattle.sig_base.proofs.table.Table.place.Goals as goal

pub place_from-requires : goal.place_from-requires
place_from-requires c =
    let t = c.args.self.now in
    let part = c.args.word / 2 ^ t.shift in
    let later : share (part * 2 ^ t.shift) t.total ≤ share c.args.word t.total = share_rises (part * 2 ^ t.shift) c.args.word t.total (div-mul-le_self c.args.word (2 ^ t.shift)) in
    let raised : AtMostBefore t.sums (share c.args.word t.total) (slice_index_or t.starts part 0) =
    before_rises t.sums (share (part * 2 ^ t.shift) t.total) (share c.args.word t.total) (slice_index_or t.starts part 0) later (start_known t.sums t.starts t.total t.shift t.started part) in
    rw (c.start_for-start.ensures, c.as_slice.ensures, c.as_slice-2.ensures, c.share_of-x.ensures.value) raised

pub returns : goal.returns
returns c =
    let t = c.args.self.now in
    let weights = map (λ (r : Row). r.weight) t.rows in
    λ few.
    sym (first_above weights c.as_slice-2.result.now c.share_of-x.result c.place_from.result (c.as_slice-2.ensures ∙ t.summed few) c.place_from.ensures.before c.place_from.ensures.above)
    ∙ ap (place_exceeding weights) (c.share_of-x.ensures.value ∙ ap (share c.args.word) (t.totalled few))
