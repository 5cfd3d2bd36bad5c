use Rattle.std.proofs.Common.{refl}
use Rattle.tree_laws.specs.LinearSums.{same_atom, same_terms, with_term, terms_added, terms_scaled, gcd_within, terms_gcd, terms_divided}
use Rattle.tree_laws.specs.Limits.{count, small_coefficients}
use Rattle.tree_laws.specs.SumEnds.{known_of, atom_ends, terms_ends}
use Rattle.tree_laws.specs.SumSettled.{settled_atom, settled_terms}
use Rattle.tree_laws.specs.Trees.{same_tree, cases_in, tree_decided}
use Rattle.tree_laws.specs.TreesJoined.{cases, heads, joined_within}
use Rattle.tree_laws.specs.TreeConditions.{spliced}
use Rattle.model_core.specs.Rules.BoundsTable.{least_of, greatest_of}
use Rattle.worked_trees.proofs.computed_limits.limits_end_where_they_say.Goals as goal

pub returns-clause-coefficients : goal.returns-clause-coefficients
unfolding same_atom same_terms with_term terms_added terms_scaled gcd_within terms_gcd terms_divided count small_coefficients known_of atom_ends terms_ends settled_atom settled_terms same_tree cases_in cases tree_decided heads joined_within spliced least_of greatest_of
returns-clause-coefficients c = refl

pub returns-clause-constants : goal.returns-clause-constants
unfolding same_atom same_terms with_term terms_added terms_scaled gcd_within terms_gcd terms_divided count small_coefficients known_of atom_ends terms_ends settled_atom settled_terms same_tree cases_in cases tree_decided heads joined_within spliced least_of greatest_of
returns-clause-constants c = refl

pub returns-clause-terms : goal.returns-clause-terms
unfolding same_atom same_terms with_term terms_added terms_scaled gcd_within terms_gcd terms_divided count small_coefficients known_of atom_ends terms_ends settled_atom settled_terms same_tree cases_in cases tree_decided heads joined_within spliced least_of greatest_of
returns-clause-terms c = refl

pub returns-clause-leaves : goal.returns-clause-leaves
unfolding same_atom same_terms with_term terms_added terms_scaled gcd_within terms_gcd terms_divided count small_coefficients known_of atom_ends terms_ends settled_atom settled_terms same_tree cases_in cases tree_decided heads joined_within spliced least_of greatest_of
returns-clause-leaves c = refl

pub returns-clause-ends_first : goal.returns-clause-ends_first
unfolding same_atom same_terms with_term terms_added terms_scaled gcd_within terms_gcd terms_divided count small_coefficients known_of atom_ends terms_ends settled_atom settled_terms same_tree cases_in cases tree_decided heads joined_within spliced least_of greatest_of
returns-clause-ends_first c = refl

pub returns-clause-choice : goal.returns-clause-choice
unfolding same_atom same_terms with_term terms_added terms_scaled gcd_within terms_gcd terms_divided count small_coefficients known_of atom_ends terms_ends settled_atom settled_terms same_tree cases_in cases tree_decided heads joined_within spliced least_of greatest_of
returns-clause-choice c = refl
