use Rattle.std.proofs.Common.{map, take, ap, ◌∙◌}
use Rattle.std.specs.List.{list_any}
use Rattle.sig_base.proofs.Lists.{seen_more}
use Rattle.model_core.specs.Code.WrittenViews.{written_name}
use Rattle.model_core.specs.Text.Lexing.{same_bytes}
use Rattle.sig_types.specs.Seen.{bytes_of}
use Rattle.sig_types.proofs.EarlierNames.{few_turn, names_seen}
use Rattle.sig_types.proofs.repeats.report_few_repeats.Goals as goal

pub loop-place-preserved : goal.loop-place-preserved
loop-place-preserved c =
    let l = c.loop-place in
    let x = c.index-raws-place.result in
    let before = take l.place c.args.raws.now in
    rw (seen_more written_name c.args.raws.now l.place x c.loop-place-test.true c.index-raws-place.is)
    (few_turn _ _ _ (map written_name before) (written_name x) c.is_among-again.result
    (c.is_among-again.ensures ∙ ap (λ n. list_any (same_bytes n) (map bytes_of before)) c.as_slice.ensures ∙ ap (list_any (same_bytes x.name)) (names_seen before)) l.invariant c.note.ensures)
