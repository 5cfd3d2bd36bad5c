-- One read more, and the two ends: the source was empty, or one byte more than the limit was read.
use Rattle.std.proofs.Common.{arith, refl, ◌∙◌}
use Rattle.sig_base.proofs.SourceLemmas.{Takes-more, Shows-more, all-at_end, past_limit}
use Rattle.sig_base.proofs.taking.take_all.Goals as goal

pub returns-then-is_end-clause-all : goal.returns-then-is_end-clause-all
returns-then-is_end-clause-all g c =
    let before = c.loop-filled.invariant in
    let read = c.in_ok-count.ensures in
    all-at_end _ _ _ c.loop-filled.filled c.in_ok-count.count c.loop-filled.bytes.items c.from_vec.result before.takes before.shows
    (cc c.in_ok-make_room.ensures.kept) (read.end c.if-is_end.true) read.takes

pub loop-filled-preserved : goal.loop-filled-preserved
loop-filled-preserved g c =
    let before = c.loop-filled.invariant in
    let read = c.in_ok-count.ensures in
    record {
      filled = omega (arith, read.within);
      bounded = omega (arith, c.in_ok-make_room.ensures.bounded);
      takes = Takes-more _ _ _ c.loop-filled.filled c.in_ok-count.count before.takes read.takes;
      shows = Shows-more _ _ c.loop-filled.filled c.in_ok-count.count c.loop-filled.bytes.items _ before.takes before.shows (c.read_more.ensures.kept ∙ c.in_ok-make_room.ensures.kept) read.shows;
      steady = read.steady ∙ before.steady;
    }

pub returns-clause-too_long : goal.returns-clause-too_long
returns-clause-too_long g c = λ _. past_limit _ _ c.loop-filled.filled c.args.limit (omega arith) c.loop-filled.invariant.takes

pub returns-clause-taken : goal.returns-clause-taken
returns-clause-taken g c = (c.loop-filled.filled, omega arith, c.loop-filled.invariant.takes, ((λ _. omega arith), λ _. refl))
