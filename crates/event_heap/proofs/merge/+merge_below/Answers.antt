use Rattle.std.proofs.Common.{◌<◌, length, rules, Some, sym, ◌∙◌, arith}
use Rattle.event_heap.proofs.NodeTreeLaws.{root-there}
use Rattle.event_heap.proofs.MergeSteps.{can_compare, top_there, apart_right, apart_hung, hung_on, below_none, below_hung, below_kept, seat_fits, seated_over, seated_rank, less_hung, less_kept, ticks_hung, ticks_kept, ticks_none}
use Rattle.event_heap.proofs.merge.+merge_below.Goals as goal

pub right_of-requires : goal.right_of-requires
right_of-requires g t c = let (s, u, h) = c.requires in top_there c.args.nodes.now s u c.args.top c.args.other (Some c.args.other) h

-- ---- where the root has no right heap

pub hang-requires : goal.hang-requires
hang-requires g t c = let (s, u, h) = c.requires in top_there c.args.nodes.now s u c.args.top c.args.other (Some c.args.other) h

pub rank_of-rank-requires : goal.rank_of-rank-requires
rank_of-rank-requires g t c =
    let (s, u, h) = c.requires in
    let there : c.args.other < length c.args.nodes.now = root-there c.args.nodes.now u (Some c.args.other) h.other in
    omega (arith, there, (hung_on c.args.nodes.now c.hang.new.nodes s u c.args.top c.args.other h c.hang.ensures).count)

pub seat-requires-clause-there : goal.seat-requires-clause-there
seat-requires-clause-there g t c =
    let (s, u, h) = c.requires in
    let k = hung_on c.args.nodes.now c.hang.new.nodes s u c.args.top c.args.other h c.hang.ensures in
    omega (arith, k.within, k.count)

pub seat-requires-clause-fits : goal.seat-requires-clause-fits
seat-requires-clause-fits g t c =
    let (s, u, h) = c.requires in
    let k = hung_on c.args.nodes.now c.hang.new.nodes s u c.args.top c.args.other h c.hang.ensures in
    let below = below_none c.args.nodes.now c.hang.new.nodes s u c.args.top c.args.other (sym c.in_default.is ∙ c.right_of.ensures) k h in
    seat_fits c.args.nodes.now c.hang.new.nodes c.hang.new.nodes s u c.args.top c.args.other c.args.other c.rank_of-rank.result h below c.rank_of-rank.ensures

pub returns-in_default-clause-merged : goal.returns-in_default-clause-merged
returns-in_default-clause-merged g t c s u h =
    let k = hung_on c.args.nodes.now c.hang.new.nodes s u c.args.top c.args.other h c.hang.ensures in
    let below = below_none c.args.nodes.now c.hang.new.nodes s u c.args.top c.args.other (sym c.in_default.is ∙ c.right_of.ensures) k h in
    seated_over c.args.nodes.now c.hang.new.nodes c.hang.new.nodes s u c.args.top c.args.other c.args.other c.rank_of-rank.result h below c.rank_of-rank.ensures c.seat.new.nodes c.seat.ensures.nodes

pub returns-in_default-clause-rank : goal.returns-in_default-clause-rank
returns-in_default-clause-rank g t c =
    let (s, u, h) = c.requires in
    let k = hung_on c.args.nodes.now c.hang.new.nodes s u c.args.top c.args.other h c.hang.ensures in
    let below = below_none c.args.nodes.now c.hang.new.nodes s u c.args.top c.args.other (sym c.in_default.is ∙ c.right_of.ensures) k h in
    seated_rank c.args.nodes.now c.hang.new.nodes c.hang.new.nodes s u c.args.top c.args.other c.args.other c.rank_of-rank.result h below c.seat.new.nodes c.seat.result c.seat.ensures.nodes c.seat.ensures.rank

pub returns-in_default-clause-ticks : goal.returns-in_default-clause-ticks
returns-in_default-clause-ticks g t c s u h = ticks_none c.args.nodes.now s u c.args.top (Some c.args.other) c.args.steps.now h

pub comes_first-requires : goal.comes_first-requires
comes_first-requires g t c =
    let (s, u, h) = c.requires in
    let (r, apart, whole) = apart_right c.args.nodes.now s u c.args.top c.args.other c.in-Some.right (sym c.in-Some.is ∙ c.right_of.ensures) h in
    can_compare c.args.nodes.now r u c.in-Some.right c.args.other apart

-- ---- where the root of the other heap comes before that of the right one

pub merge_below-rank-requires : goal.merge_below-rank-requires
merge_below-rank-requires g t c κs within =
    let (s, u, h) = c.requires in
    let k = hung_on c.args.nodes.now c.hang-then-comes_first.new.nodes s u c.args.top c.args.other h c.hang-then-comes_first.ensures in
    let (r, apart, whole) = apart_hung c.args.nodes.now s u c.args.top c.args.other c.hang-then-comes_first.new.nodes c.in-Some.right (sym c.in-Some.is ∙ c.right_of.ensures) h k in
    (less_hung c.args.nodes.now s u c.args.top c.args.other c.in-Some.right (sym c.in-Some.is ∙ c.right_of.ensures) h c.hang-then-comes_first.new.nodes t k c.decreases, (search rules, (u, r, apart)))

pub seat-requires-then-comes_first-clause-fits : goal.seat-requires-then-comes_first-clause-fits
seat-requires-then-comes_first-clause-fits g t c =
    let (s, u, h) = c.requires in
    let k = hung_on c.args.nodes.now c.hang-then-comes_first.new.nodes s u c.args.top c.args.other h c.hang-then-comes_first.ensures in
    let below = below_hung c.args.nodes.now c.hang-then-comes_first.new.nodes c.merge_below-rank.new.nodes s u c.args.top c.args.other c.in-Some.right (sym c.in-Some.is ∙ c.right_of.ensures) k (λ y x p q. sym (c.comes_first.ensures.before y x p q) ∙ c.if-comes_first.true) c.merge_below-rank.ensures.merged h in
    seat_fits c.args.nodes.now c.hang-then-comes_first.new.nodes c.merge_below-rank.new.nodes s u c.args.top c.args.other c.args.other c.merge_below-rank.result h below c.merge_below-rank.ensures.rank

pub returns-then-comes_first-clause-merged : goal.returns-then-comes_first-clause-merged
returns-then-comes_first-clause-merged g t c s u h =
    let k = hung_on c.args.nodes.now c.hang-then-comes_first.new.nodes s u c.args.top c.args.other h c.hang-then-comes_first.ensures in
    let below = below_hung c.args.nodes.now c.hang-then-comes_first.new.nodes c.merge_below-rank.new.nodes s u c.args.top c.args.other c.in-Some.right (sym c.in-Some.is ∙ c.right_of.ensures) k (λ y x p q. sym (c.comes_first.ensures.before y x p q) ∙ c.if-comes_first.true) c.merge_below-rank.ensures.merged h in
    seated_over c.args.nodes.now c.hang-then-comes_first.new.nodes c.merge_below-rank.new.nodes s u c.args.top c.args.other c.args.other c.merge_below-rank.result h below c.merge_below-rank.ensures.rank c.seat-then-comes_first.new.nodes c.seat-then-comes_first.ensures.nodes

pub returns-then-comes_first-clause-ticks : goal.returns-then-comes_first-clause-ticks
returns-then-comes_first-clause-ticks g t c s u h =
    let k = hung_on c.args.nodes.now c.hang-then-comes_first.new.nodes s u c.args.top c.args.other h c.hang-then-comes_first.ensures in
    ticks_hung c.args.nodes.now s u c.args.top c.args.other c.in-Some.right (sym c.in-Some.is ∙ c.right_of.ensures) h c.hang-then-comes_first.new.nodes c.args.steps.now c.comes_first.new.steps c.merge_below-rank.new.steps k c.comes_first.ensures.ticks c.merge_below-rank.ensures.ticks

-- ---- where it doesn't

pub merge_below-rank-requires-else-comes_first : goal.merge_below-rank-requires-else-comes_first
merge_below-rank-requires-else-comes_first g t c κs within =
    let (s, u, h) = c.requires in
    let (r, apart, whole) = apart_right c.args.nodes.now s u c.args.top c.args.other c.in-Some.right (sym c.in-Some.is ∙ c.right_of.ensures) h in
    (less_kept c.args.nodes.now s u c.args.top c.args.other c.in-Some.right (sym c.in-Some.is ∙ c.right_of.ensures) h t c.decreases, (search rules, (r, u, apart)))

pub seat-requires-else-comes_first-clause-fits : goal.seat-requires-else-comes_first-clause-fits
seat-requires-else-comes_first-clause-fits g t c =
    let (s, u, h) = c.requires in
    let below = below_kept c.args.nodes.now c.merge_below-rank-else-comes_first.new.nodes s u c.args.top c.args.other c.in-Some.right (sym c.in-Some.is ∙ c.right_of.ensures) (λ y x p q. sym (c.comes_first.ensures.before y x p q) ∙ c.if-comes_first.false) c.merge_below-rank-else-comes_first.ensures.merged h in
    seat_fits c.args.nodes.now c.args.nodes.now c.merge_below-rank-else-comes_first.new.nodes s u c.args.top c.args.other c.in-Some.right c.merge_below-rank-else-comes_first.result h below c.merge_below-rank-else-comes_first.ensures.rank

pub returns-else-comes_first-clause-merged : goal.returns-else-comes_first-clause-merged
returns-else-comes_first-clause-merged g t c s u h =
    let below = below_kept c.args.nodes.now c.merge_below-rank-else-comes_first.new.nodes s u c.args.top c.args.other c.in-Some.right (sym c.in-Some.is ∙ c.right_of.ensures) (λ y x p q. sym (c.comes_first.ensures.before y x p q) ∙ c.if-comes_first.false) c.merge_below-rank-else-comes_first.ensures.merged h in
    seated_over c.args.nodes.now c.args.nodes.now c.merge_below-rank-else-comes_first.new.nodes s u c.args.top c.args.other c.in-Some.right c.merge_below-rank-else-comes_first.result h below c.merge_below-rank-else-comes_first.ensures.rank c.seat-else-comes_first.new.nodes c.seat-else-comes_first.ensures.nodes

pub returns-else-comes_first-clause-ticks : goal.returns-else-comes_first-clause-ticks
returns-else-comes_first-clause-ticks g t c s u h = ticks_kept c.args.nodes.now s u c.args.top c.args.other c.in-Some.right (sym c.in-Some.is ∙ c.right_of.ensures) h c.args.steps.now c.comes_first.new.steps c.merge_below-rank-else-comes_first.new.steps c.comes_first.ensures.ticks c.merge_below-rank-else-comes_first.ensures.ticks
