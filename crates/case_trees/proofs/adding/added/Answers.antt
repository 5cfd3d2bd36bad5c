-- The sum whose limits are tested is that of the definition.
use Rattle.std.proofs.Common.{◌≡◌, ◌∙◌, ℤ, Result, FitsSigned, sym, rules}
use Rattle.std.specs.Int.{w128}
use Rattle.std.proofs.lemmas.Int.{to_z-of_z}
use Rattle.tree_laws.specs.LinearSums.{SumTerms}
use Rattle.tree_laws.specs.Limits.{limited}
use Rattle.case_trees.specs.declared.sum.Sum.{Sum}
use Rattle.case_trees.specs.declared.tree_error.TreeError.{TreeError}
use Rattle.case_trees.specs.Views.{Gave, sum_of}
use Rattle.case_trees.proofs.adding.added.Goals as goal

gave_same : (ts us : SumTerms) (m n : ℤ) (r : Result Sum TreeError) → ts ≡ us → m ≡ n → Gave sum_of (limited (record { terms = ts; constant = m })) r → Gave sum_of (limited (record { terms = us; constant = n })) r
gave_same ts us m n r e f h = rw (sym e) (rw (sym f) h)

pub returns : goal.returns
returns g c =
    let fits : FitsSigned w128 c.constants_added-constant.result = search rules in
    gave_same _ _ _ _ c.limited.result c.in_ok-terms.ensures (to_z-of_z w128 c.constants_added-constant.result fits ∙ c.constants_added-constant.ensures) c.limited.ensures
