-- What was read is the front of what was left, and leaves it.
use Rattle.std.proofs.Common.{ℕ, ◌-◌, List, length, take, drop, sym, ap, ◌∙◌, arith}
use Rattle.std.proofs.lemmas.List.{drop-drop, length-take-le}
use Rattle.sig_base.specs.Memory.{Supply}
use Rattle.sig_base.proofs.SourceLemmas.{copied-shows}
use Rattle.sig_base.proofs.memory_source.MemorySourceSource.read.Goals as goal

pub returns-clause-ok : goal.returns-clause-ok
returns-clause-ok c =
    let n = c.min-count.result in
    let s = c.self.inside in
    let calls = c.one_more-self-inside.result in
    let with_left : List ℕ → Supply = λ l. record { left = l; piece = s.piece; failing = s.failing; calls = calls; faults = s.faults } in
    ap with_left (sym (drop-drop n s.taken s.content)) ∙ ap (λ (v : Supply). record v { left = drop n v.left; calls = calls }) c.self.view_is

pub returns-clause-shows : goal.returns-clause-shows
returns-clause-shows c =
    let n = c.min-count.result in
    let taken = c.self.inside.taken in
    copied-shows n taken c.as_slice-2.result.now c.copy_from_slice.new.self (drop n c.args.into.now) _ c.copy_from_slice.ensures.after
    (c.copy_from_slice.ensures.len ∙ length-take-le n c.args.into.now (omega (arith, c.min-count.ensures)))
    (ap (drop taken) c.as_slice-2.ensures ∙ ap (λ (v : Supply). v.left) c.self.view_is)

pub copy_from_slice-requires : goal.copy_from_slice-requires
copy_from_slice-requires c =
    let n = c.min-count.result in
    let taken = c.self.inside.taken in
    let all = c.as_slice-2.result.now in
    length-take-le n c.args.into.now (omega (arith, c.min-count.ensures))
    ∙ sym (length-take-le n (take (length all - taken) (drop taken all)) (omega (arith, c.min-count.ensures, c.min.ensures)))
