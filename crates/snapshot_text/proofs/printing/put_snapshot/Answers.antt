-- All lines are the whole text.
use Rattle.std.proofs.Common.{List, ℕ, ◌++◌, ◌/◌, ◌%◌, ◌^◌, ap, ◌∙◌}
use Rattle.model_core.specs.Saved.SavedRun.{SavedRun}
use Rattle.model_core.specs.Code.Views.{graph_of}
use Rattle.snapshot_text.specs.Inner.Lines.{seed_lines, clock_lines, last_lines}
use Rattle.snapshot_text.proofs.PrintedLines.{whole-text}
use Rattle.snapshot_text.proofs.printing.put_snapshot.Goals as goal

pub returns : goal.returns
returns c =
    let g = graph_of c.args.model.now in
    let s = c.args.snapshot.now in
    let is = c.snapshot.view_is in
    let out = c.args.out.now.items in
    let seed = c.in_ok-put_seed.ensures ∙ ap (λ (x : SavedRun). out ++ seed_lines (x.seed / 2 ^ 32) (x.seed % 2 ^ 32)) is in
    let clock = c.in_ok-put_clock.ensures ∙ ap (λ (x : SavedRun). c.put_seed.new.out.items ++ clock_lines x.clock x.events) is in
    c.in_ok-put_last_lines.ensures ∙ ap (λ (l : List ℕ). l ++ last_lines g s) (clock ∙ ap (λ (l : List ℕ). l ++ clock_lines s.clock s.events) seed) ∙ whole-text g s out
