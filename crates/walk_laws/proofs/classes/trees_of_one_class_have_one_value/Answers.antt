use Rattle.walk_laws.specs.ByClass.{of_one_class}
use Rattle.walk_laws.proofs.TreesByClass.{trees-agree}
use Rattle.walk_laws.proofs.classes.trees_of_one_class_have_one_value.Goals as goal

pub returns : goal.returns
returns c = λ k l v w alike t u e. c.agreeing_trees_have_one_value.ensures (of_one_class k l) v w alike t u (trees-agree k l t u e)
