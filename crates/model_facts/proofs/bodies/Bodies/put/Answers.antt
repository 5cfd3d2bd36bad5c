-- The number at the place is another one, and the others are as they were.
use Rattle.std.proofs.Common.{sym, subst}
use Rattle.model_facts.specs.KnownLengths.{BodiesAreRight}
use Rattle.model_facts.proofs.BodiesKept.{are-put}
use Rattle.model_facts.proofs.bodies.Bodies.put.Goals as goal

pub returns-clause-right : goal.returns-clause-right
returns-clause-right c = λ g h same right are. subst (BodiesAreRight h) (sym c.write.ensures) (are-put g h c.args.place c.args.number c.args.self.now same right are)
