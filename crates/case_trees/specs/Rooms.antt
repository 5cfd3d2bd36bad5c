-- How large the code's numbers are while sums are made, and lists of terms that have room for more.
use Rattle.std.specs.Prelude.{ℕ, ◌^◌, ℤ, ◌+ℤ◌, Bool, true, ◌&&◌}
use Rattle.tree_laws.specs.LinearSums.{SumAtom, SumTerms, NoTerms, Term, terms_added}
use Rattle.tree_laws.specs.Limits.{up_to}

abbrev pub COEFFICIENT_ROOM : ℕ
COEFFICIENT_ROOM = 2 ^ 62

abbrev pub NUMBER_ROOM : ℕ
NUMBER_ROOM = 2 ^ 81

-- each coefficient and c add up to one that has room
unfoldable pub has_room : ℤ → SumTerms → Bool
has_room c NoTerms = true
has_room c (Term d a ts) = up_to COEFFICIENT_ROOM (c +ℤ d) && has_room c ts

-- each step has room where the first list is added to the second
unfoldable pub have_room : (SumAtom → SumAtom → Bool) → SumTerms → SumTerms → Bool
have_room before NoTerms us = true
have_room before (Term c a ts) us = have_room before ts us && has_room c (terms_added before ts us)
