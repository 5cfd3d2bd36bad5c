use Rattle.sig_types.proofs.edges.after.Goals as goal

pub returns-in-Some : goal.returns-in-Some
returns-in-Some c = rw c.in-Some.is c.delay.ensures
