use Rattle.tally_report.proofs.tally_taker.TallyTakerNoteTakerUnit.take_on.Goals as goal

-- counting adds to no area
pub invariant_of-self : goal.invariant_of-self
invariant_of-self c = c.count_at.ensures.small c.self.inside.since c.self.invariant
