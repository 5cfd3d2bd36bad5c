use Rattle.std.proofs.Common.{refl}
use Rattle.model_core.specs.Rules.BoundsTable.{least_of, greatest_of}
use Rattle.tree_laws.specs.LinearSums.{same_atom, same_terms, with_term, terms_added, terms_scaled, gcd_within, terms_gcd, terms_divided}
use Rattle.tree_laws.specs.Limits.{count, small_coefficients}
use Rattle.tree_laws.specs.SumEnds.{known_of, atom_ends, terms_ends}
use Rattle.tree_laws.specs.SumSettled.{settled_atom, settled_terms}
use Rattle.tree_laws.specs.Trees.{same_tree, cases_in, tree_decided}
use Rattle.tree_laws.specs.TreesJoined.{cases, heads, joined_within}
use Rattle.tree_laws.specs.TreeConditions.{spliced, learned, tree_ends}
use Rattle.tree_laws.specs.Valued.{valued}
use Rattle.worked_trees.proofs.computed_trees.a_quotient_has_one_check.Goals as goal

pub returns : goal.returns
unfolding valued learned tree_ends same_atom same_terms with_term terms_added terms_scaled gcd_within terms_gcd terms_divided count small_coefficients known_of atom_ends terms_ends settled_atom settled_terms same_tree cases_in cases tree_decided heads joined_within spliced least_of greatest_of
returns c = refl
