-- One item more of a walk: it is of ranges, or of operands.
use Rattle.std.proofs.Common.{◌≡◌, ℕ, ◌+◌, ◌<◌, true, false, List, [], ◌∷◌, length, take, reverse, slice_index_or, sym, ◌∙◌, ap, ap₂, subst}
use Rattle.std.proofs.lemmas.List.{take_more}
use Rattle.std.proofs.lemmas.List.Sums.{fold-append}
use Rattle.model_core.specs.declared.bounds.Bounds.{Bounds}
use Rattle.model_core.specs.EventGraph.{Variable}
use Rattle.range_infer.specs.declared.postfix.PostfixItem.{PostfixItem}
use Rattle.range_infer.specs.declared.ranges_left.RangesLeft.{RangesLeft}
use Rattle.range_infer.specs.Inner.RangesLeft.{variables_left}
use Rattle.range_infer.specs.Inner.KeptRanges.{LeftOnWalk}
use Rattle.range_infer.specs.Inner.Postfix.{Walk, is_of_ranges, after_item, walked}
use Rattle.range_infer.proofs.PostfixBounds.{walk, of_ranges, of_operands}

walk_more : (w : Walk) (xs : List PostfixItem) (i : ℕ) (d : PostfixItem) → i < length xs → walk w (take (i + 1) xs) ≡ walked (walk w (take i xs)) (slice_index_or xs i d)
walk_more w xs i d small = ap (walk w) (take_more xs i d small) ∙ fold-append walked w (take i xs) (slice_index_or xs i d ∷ [])

-- what is known of a walk over so many of these items
pub record WalkedOver (first : RangesLeft) (w : Walk) (now : RangesLeft) (before : List Bounds) (kept : List ℕ) (last : Bounds) : Type 0 where
  pub found : last ∷ reverse before ≡ w.found
  pub on_walk : LeftOnWalk first now (reverse kept) w

module _ (first : RangesLeft) (w : Walk) (xs : List PostfixItem) (i : ℕ) (d : PostfixItem) (small : i < length xs) (now : RangesLeft) (before : List Bounds) (kept : List ℕ) (last : Bounds) (walked_so : WalkedOver first (walk w (take i xs)) now before kept last) where
  abbrev before_it : Walk
  before_it = walk w (take i xs)

  abbrev it : PostfixItem
  it = slice_index_or xs i d

  pub ranges_more : is_of_ranges it ≡ true → (next : RangesLeft) (after : List ℕ) → ((f : RangesLeft) (u : Walk) → is_of_ranges it ≡ true → LeftOnWalk f now (reverse kept) u → LeftOnWalk f next (reverse after) (walked u it)) → WalkedOver first (walk w (take (i + 1) xs)) next before after last
  ranges_more is next after goes =
      let more = walk_more w xs i d small in
      record {
        found = walked_so.found ∙ (sym (of_ranges before_it it is) ∙ ap (λ (u : Walk). u.found) (sym more));
        on_walk = subst (LeftOnWalk first next (reverse after)) (sym more) (goes first before_it is walked_so.on_walk);
      }

  pub operand_more : is_of_ranges it ≡ false → (after : List Bounds) (next : Bounds) → next ∷ reverse after ≡ after_item (variables_left now) (last ∷ reverse before) it → WalkedOver first (walk w (take (i + 1) xs)) now after kept next
  operand_more is after next found =
      let more = walk_more w xs i d small ∙ of_operands before_it it is in
      record {
        found = found ∙ (ap₂ (λ (rs : List Variable) (fs : List Bounds). after_item rs fs it) walked_so.on_walk.ranges walked_so.found ∙ ap (λ (u : Walk). u.found) (sym more));
        on_walk = subst (LeftOnWalk first now (reverse kept)) (sym more) (record { ranges = walked_so.on_walk.ranges; kept = walked_so.on_walk.kept });
      }

-- the same, under other names
pub same_walk : (first : RangesLeft) (w : Walk) (left now : RangesLeft) (xs before : List Bounds) (ns kept : List ℕ) (b last : Bounds) → left ≡ now → xs ≡ before → ns ≡ kept → b ≡ last → WalkedOver first w left xs ns b → WalkedOver first w now before kept last
same_walk first w left now xs before ns kept b last one two three four so = record {
  found = sym (ap₂ (λ (x : Bounds) (ys : List Bounds). x ∷ reverse ys) four two) ∙ so.found;
  on_walk = subst (λ (l : RangesLeft). LeftOnWalk first l (reverse kept) w) one (subst (λ (ms : List ℕ). LeftOnWalk first left (reverse ms) w) three so.on_walk);
}
