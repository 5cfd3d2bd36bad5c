-- Trees computed.
use Rattle.std.proofs.Common.{◌≡◌, pos, negsuc, sym, ◌∙◌, Some, refl}
use Rattle.tree_laws.specs.LinearSums.{VariableAtom, NoTerms, Term, same_atom, same_terms, with_term, terms_added, terms_scaled, gcd_within, terms_gcd, terms_divided}
use Rattle.tree_laws.specs.Limits.{count, small_coefficients}
use Rattle.tree_laws.specs.SumEnds.{known_of, atom_ends, terms_ends}
use Rattle.tree_laws.specs.SumSettled.{settled_atom, settled_terms}
use Rattle.tree_laws.specs.Trees.{Case, same_tree, cases_in, tree_decided}
use Rattle.tree_laws.specs.TreesJoined.{cases, heads, joined_within}
use Rattle.tree_laws.specs.TreeConditions.{number_tree, spliced}
use Rattle.model_core.specs.Rules.BoundsTable.{least_of, greatest_of}
use Rattle.worked_trees.specs.SmallModel.{sum_of, difference_of, over, is_less, is_equal, is_no_greater, turned, pick, least_of_two, greatest_of_two, literal, X, Y, LANE, B, C}

pub there_and_back : difference_of (sum_of X Y) Y ≡ X
unfolding same_atom same_terms with_term terms_added terms_scaled gcd_within terms_gcd terms_divided count small_coefficients known_of atom_ends terms_ends settled_atom settled_terms same_tree cases_in cases tree_decided heads joined_within spliced least_of greatest_of
there_and_back = refl

-- `not (X < Y)` is `X >= Y`, one case of one list
pub opposite_comparison : turned (is_less X Y) ≡ is_no_greater Y X
unfolding same_atom same_terms with_term terms_added terms_scaled gcd_within terms_gcd terms_divided count small_coefficients known_of atom_ends terms_ends settled_atom settled_terms same_tree cases_in cases tree_decided heads joined_within spliced least_of greatest_of
opposite_comparison = refl

pub opposite_tree : is_no_greater Y X ≡ Some (Case (Term (pos 1) (VariableAtom 0) (Term (negsuc 0) (VariableAtom 1) NoTerms)) (negsuc 0) (number_tree (pos 0)) (number_tree (pos 1)))
unfolding same_atom same_terms with_term terms_added terms_scaled gcd_within terms_gcd terms_divided count small_coefficients known_of atom_ends terms_ends settled_atom settled_terms same_tree cases_in cases tree_decided heads joined_within spliced least_of greatest_of
opposite_tree = refl

-- `not X = 0` is `X >= 1`
pub not_zero : turned (is_equal X (literal 0)) ≡ is_no_greater (literal 1) X
unfolding same_atom same_terms with_term terms_added terms_scaled gcd_within terms_gcd terms_divided count small_coefficients known_of atom_ends terms_ends settled_atom settled_terms same_tree cases_in cases tree_decided heads joined_within spliced least_of greatest_of
not_zero = refl

-- `9 / X + X - X` is `9 / X`
pub quotient_stays : difference_of (sum_of (over (literal 9) X) X) X ≡ over (literal 9) X
unfolding same_atom same_terms with_term terms_added terms_scaled gcd_within terms_gcd terms_divided count small_coefficients known_of atom_ends terms_ends settled_atom settled_terms same_tree cases_in cases tree_decided heads joined_within spliced least_of greatest_of
quotient_stays = refl

-- `min(LANE + 1, 12)` is `if LANE < 12 then LANE + 1 else LANE`
pub load_come : least_of_two (sum_of LANE (literal 1)) (literal 12) ≡ pick (is_less LANE (literal 12)) (sum_of LANE (literal 1)) LANE
unfolding same_atom same_terms with_term terms_added terms_scaled gcd_within terms_gcd terms_divided count small_coefficients known_of atom_ends terms_ends settled_atom settled_terms same_tree cases_in cases tree_decided heads joined_within spliced least_of greatest_of
load_come = refl

-- `max(LANE - 6, 0)` is `LANE - min(LANE, 6)`
pub load_run : greatest_of_two (difference_of LANE (literal 6)) (literal 0) ≡ difference_of LANE (least_of_two LANE (literal 6))
unfolding same_atom same_terms with_term terms_added terms_scaled gcd_within terms_gcd terms_divided count small_coefficients known_of atom_ends terms_ends settled_atom settled_terms same_tree cases_in cases tree_decided heads joined_within spliced least_of greatest_of
load_run = refl

-- `B and C` is `C and B`
pub truths : pick B C (literal 0) ≡ pick C B (literal 0)
unfolding same_atom same_terms with_term terms_added terms_scaled gcd_within terms_gcd terms_divided count small_coefficients known_of atom_ends terms_ends settled_atom settled_terms same_tree cases_in cases tree_decided heads joined_within spliced least_of greatest_of
truths = refl

-- `X = Y` is `Y = X`
pub equal_turned : is_equal X Y ≡ is_equal Y X
unfolding same_atom same_terms with_term terms_added terms_scaled gcd_within terms_gcd terms_divided count small_coefficients known_of atom_ends terms_ends settled_atom settled_terms same_tree cases_in cases tree_decided heads joined_within spliced least_of greatest_of
equal_turned = refl

-- `min(X, Y)` is `min(Y, X)`
pub least_turned : least_of_two X Y ≡ least_of_two Y X
unfolding same_atom same_terms with_term terms_added terms_scaled gcd_within terms_gcd terms_divided count small_coefficients known_of atom_ends terms_ends settled_atom settled_terms same_tree cases_in cases tree_decided heads joined_within spliced least_of greatest_of
least_turned = refl

pub equal_tree : is_equal X Y ≡ Some (Case (Term (pos 1) (VariableAtom 0) (Term (negsuc 0) (VariableAtom 1) NoTerms)) (negsuc 0) (number_tree (pos 0)) (Case (Term (pos 1) (VariableAtom 0) (Term (negsuc 0) (VariableAtom 1) NoTerms)) (pos 0) (number_tree (pos 1)) (number_tree (pos 0))))
unfolding same_atom same_terms with_term terms_added terms_scaled gcd_within terms_gcd terms_divided count small_coefficients known_of atom_ends terms_ends settled_atom settled_terms same_tree cases_in cases tree_decided heads joined_within spliced least_of greatest_of
equal_tree = refl

pub twice_tree : turned (turned (is_equal X Y)) ≡ Some (Case (Term (pos 1) (VariableAtom 0) (Term (negsuc 0) (VariableAtom 1) NoTerms)) (negsuc 0) (number_tree (pos 0)) (Case (Term (pos 1) (VariableAtom 0) (Term (negsuc 0) (VariableAtom 1) NoTerms)) (pos 0) (number_tree (pos 1)) (number_tree (pos 0))))
unfolding same_atom same_terms with_term terms_added terms_scaled gcd_within terms_gcd terms_divided count small_coefficients known_of atom_ends terms_ends settled_atom settled_terms same_tree cases_in cases tree_decided heads joined_within spliced least_of greatest_of
twice_tree = refl

-- `not` twice
pub twice_not : turned (turned (is_equal X Y)) ≡ is_equal X Y
twice_not = twice_tree ∙ sym equal_tree
