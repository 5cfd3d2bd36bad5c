-- Trees: sums in the cases of primitive lists.
use Rattle.std.specs.Prelude.{zero, suc, ◌+◌, ℕ, ℤ, pos, negsuc, ◌+ℤ◌, ◌-ℤ◌, ◌*ℤ◌, int_lt, int_le, Bool, false, not, ◌&&◌, cond, Option, Some}
use Rattle.std.specs.Ordering.{int_eq}
use Rattle.tree_laws.specs.LinearSums.{SumTerms, LinearSum, same_sum, same_terms, sum_added, sum_scaled, divisor, primitive}
use Rattle.tree_laws.specs.SumValues.{Valuation, terms_value, sum_value}
use Rattle.tree_laws.specs.Limits.{◌>>=◌, Interval}
use Rattle.tree_laws.specs.SumEnds.{Ground, Known, primitive_ends}

-- `Case P m low high`: low where P is at most m, and else high
pub data CaseTree : Type 0 where
  Leaf : LinearSum → CaseTree
  Case : SumTerms → ℤ → CaseTree → CaseTree → CaseTree

module _ (v : Valuation) where
  unfoldable pub tree_value : CaseTree → ℤ
  tree_value (Leaf s) = sum_value v s
  tree_value (Case p m low high) = cond (int_le (terms_value v p) m) (tree_value low) (tree_value high)

unfoldable pub same_tree : CaseTree → CaseTree → Bool
same_tree (Leaf s) (Leaf t) = same_sum s t
same_tree (Case p m a b) (Case q n c d) = same_terms p q && (int_eq m n && (same_tree a c && same_tree b d))
same_tree t u = false

unfoldable pub cases_in : CaseTree → ℕ
cases_in (Leaf s) = zero
cases_in (Case p m low high) = suc (cases_in low + cases_in high)

-- a sum is `c * P + k` with c other than 0, and `c * m + k = 0`
abbrev pub vanishes_at : SumTerms → ℤ → LinearSum → Bool
vanishes_at p m d = same_terms (primitive d.terms) p && (not (int_eq (divisor d.terms) (pos 0)) && int_eq (divisor d.terms *ℤ m +ℤ d.constant) (pos 0))

-- a case by the ends of its list, or other where they don't decide it
abbrev pub decided_case : Interval → ℤ → CaseTree → CaseTree → CaseTree → CaseTree
decided_case e m low high other = cond (int_le e.hi m) low (cond (int_lt m e.lo) high (cond (same_tree low high) low other))

module _ (base : Ground) where
  -- two leaves have one value where P is m
  abbrev pub meet_at : SumTerms → ℤ → CaseTree → CaseTree → Bool
  meet_at p m (Leaf s) (Leaf t) = vanishes_at p m (sum_added base.before s (sum_scaled (negsuc 0) t))
  meet_at p m low high = false

  module _ (k : Known) where
    unfoldable pub tree_decided : CaseTree → Option CaseTree
    tree_decided (Leaf s) = Some (Leaf s)
    tree_decided (Case p m low high) = do
      e ← primitive_ends base k p
      cond (int_le e.hi m) (tree_decided low) (cond (int_lt m e.lo) (tree_decided high) (Some (Case p m low high)))

    -- of two leaves that meet at m, the case is the one at m - 1; that the leaves meet there too can't be
    abbrev pub case_of : SumTerms → ℤ → CaseTree → CaseTree → Option CaseTree
    case_of p m low high = do
      e ← primitive_ends base k p
      Some (decided_case e m low high (cond (meet_at p m low high) (decided_case e (m -ℤ pos 1) low high (Case p (m -ℤ pos 1) low high)) (Case p m low high)))
