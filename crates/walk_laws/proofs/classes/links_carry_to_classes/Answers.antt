use Rattle.walk_laws.proofs.ClassesCarry.{class-carries}
use Rattle.walk_laws.proofs.classes.links_carry_to_classes.Goals as goal

pub returns : goal.returns
returns c = λ val links all n m e. class-carries val links all n m e
