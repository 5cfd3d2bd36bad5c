-- A loop that goes along a list and adds something for each item: one item more.
use Rattle.std.proofs.Common.{◌≡◌, ℕ, ◌+◌, ◌<◌, List, ◌∷◌, map, drop, length, get_or, sym, ap, ◌∙◌}
use Rattle.sig_base.proofs.Lists.{remaining_more}

-- as added adds what the first item gives, and then the others
pub one_in_turn : {X A S : Type 0} (view : X → A) (added : List A → S → S) (xs : List X) (i : ℕ) (x : X) (before after : S) {all : S} → i < length xs → x ≡ get_or xs i x
    → ((later : List A) → added later after ≡ added (view x ∷ later) before) → added (map view (drop i xs)) before ≡ all → added (map view (drop (i + 1) xs)) after ≡ all
one_in_turn view added xs i x before after below is adds so_far =
    adds (map view (drop (i + 1) xs)) ∙ sym (ap (λ later. added later before) (remaining_more view xs i x below is)) ∙ so_far
