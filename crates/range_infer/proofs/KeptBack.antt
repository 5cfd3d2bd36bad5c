-- Ranges that are kept on a walk are put back.
use Rattle.std.proofs.Common.{◌≡◌, ℕ, List, [], ◌∷◌, ◌++◌, length, reverse, refl, sym, ◌∙◌, ap, subst, arith}
use Rattle.std.proofs.lemmas.List.{reverse-append}
use Rattle.model_core.specs.EventGraph.{Variable}
use Rattle.range_infer.specs.declared.ranges_left.RangesLeft.{RangesLeft}
use Rattle.range_infer.specs.declared.postfix.PostfixItem.TheVariants as items
use Rattle.range_infer.specs.Inner.RangesLeft.{variables_left, StaysLeft, RestoresTo}
use Rattle.range_infer.specs.Inner.Postfix.{Walk, walked}
use Rattle.range_infer.specs.Inner.KeptRanges.{AreKept, LeftOnWalk}
use Rattle.range_infer.proofs.RestoredRanges.{same_variables, stays-back, back-trans}

abbrev pub itself : (a : RangesLeft) → StaysLeft a a
itself a = record { model = refl; ranges = refl; replaced = refl }

kept-back : (first a b : RangesLeft) (ns : List ℕ) (kept : List (List Variable)) → RestoresTo a b → AreKept first ns kept a → AreKept first ns kept b
kept-back first a b [] [] back are = back-trans first a b are back
kept-back first a b (n ∷ ns) (rs ∷ kept) back (old, many, since, same, before) = (old, many, back-trans old a b since back, same, before)
kept-back first a b [] (rs ∷ kept) back are = absurd are
kept-back first a b (n ∷ ns) [] back are = absurd are

pub all-back : (first now : RangesLeft) (ns : List ℕ) (kept : List (List Variable)) → AreKept first ns kept now → RestoresTo first now
all-back first now [] [] are = are
all-back first now (n ∷ ns) (rs ∷ kept) (old, many, since, same, before) = back-trans first old now (all-back first old ns kept before) since
all-back first now [] (rs ∷ kept) are = absurd are
all-back first now (n ∷ ns) [] are = absurd are

pub begins : (first now : RangesLeft) (w : Walk) → StaysLeft first now → variables_left first ≡ w.ranges → w.kept ≡ [] → LeftOnWalk first now [] w
begins first now w stays is none = record {
  ranges = same_variables first now stays ∙ is;
  kept = subst (λ (kept : List (List Variable)). AreKept first [] kept now) (sym none) (stays-back first now stays);
}

pub one_kept : (first now : RangesLeft) (ns : List ℕ) (n : ℕ) (w : Walk) → n ≡ length now.replaced.items → LeftOnWalk first now ns w → LeftOnWalk first now (n ∷ ns) (walked w items.Kept)
one_kept first now ns n w many on_walk = record {
  ranges = on_walk.ranges;
  kept = (now, many, stays-back now now (itself now), on_walk.ranges, on_walk.kept);
}

pub one_back : (first now next : RangesLeft) (ns : List ℕ) (n : ℕ) (w : Walk) → ((old : RangesLeft) → n ≡ length old.replaced.items → RestoresTo old now → StaysLeft old next) → LeftOnWalk first now (n ∷ ns) w → LeftOnWalk first next ns (walked w items.PutBack)
one_back first now next ns n w forgot on_walk = by w.kept on_walk.kept where
  by : (kept : List (List Variable)) → AreKept first (n ∷ ns) kept now → let u : Walk = record { ranges = w.ranges; kept = kept; found = w.found } in LeftOnWalk first next ns (walked u items.PutBack)
  by [] are = absurd are
  by (rs ∷ kept) (old, many, since, same, before) =
      let stays = forgot old many since in
      record { ranges = same_variables old next stays ∙ same; kept = kept-back first old next ns kept (stays-back old next stays) before }

pub none_back : (first now : RangesLeft) (w : Walk) → LeftOnWalk first now [] w → LeftOnWalk first now [] (walked w items.PutBack)
none_back first now w on_walk = by w.kept on_walk.kept where
  by : (kept : List (List Variable)) → AreKept first [] kept now → let u : Walk = record { ranges = w.ranges; kept = kept; found = w.found } in LeftOnWalk first now [] (walked u items.PutBack)
  by [] are = record { ranges = on_walk.ranges; kept = are }
  by (rs ∷ kept) are = absurd are

pub last_back : (first now next : RangesLeft) (old new : List ℕ) (n : ℕ) (w : Walk) → old ≡ new ++ n ∷ [] → ((old : RangesLeft) → n ≡ length old.replaced.items → RestoresTo old now → StaysLeft old next) → LeftOnWalk first now (reverse old) w → LeftOnWalk first next (reverse new) (walked w items.PutBack)
last_back first now next old new n w popped forgot on_walk =
    one_back first now next (reverse new) n w forgot (subst (λ (ns : List ℕ). LeftOnWalk first now ns w) (ap reverse popped ∙ reverse-append new (n ∷ [])) on_walk)

pub nothing_back : (first now : RangesLeft) (old new : List ℕ) (w : Walk) → length old ≡ 0 → length new ≡ 0 → LeftOnWalk first now (reverse old) w → LeftOnWalk first now (reverse new) (walked w items.PutBack)
nothing_back first now [] [] w none left on_walk = none_back first now w on_walk
nothing_back first now (n ∷ old) new w none left on_walk = absurd (omega (arith, none))
nothing_back first now [] (n ∷ new) w none left on_walk = absurd (omega (arith, left))

pub last_kept : (first now : RangesLeft) (old new : List ℕ) (n : ℕ) (w : Walk) → new ≡ old ++ n ∷ [] → n ≡ length now.replaced.items → LeftOnWalk first now (reverse old) w → LeftOnWalk first now (reverse new) (walked w items.Kept)
last_kept first now old new n w pushed many on_walk =
    subst (λ (ns : List ℕ). LeftOnWalk first now ns (walked w items.Kept)) (sym (ap reverse pushed ∙ reverse-append old (n ∷ []))) (one_kept first now (reverse old) n w many on_walk)

-- ranges that are replaced
pub one_left : (first now next : RangesLeft) (ns : List ℕ) (w after : Walk) → variables_left next ≡ after.ranges → after.kept ≡ w.kept → RestoresTo now next → LeftOnWalk first now ns w → LeftOnWalk first next ns after
one_left first now next ns w after is same back on_walk = record {
  ranges = is;
  kept = subst (λ (kept : List (List Variable)). AreKept first ns kept next) (sym same) (kept-back first now next ns w.kept back on_walk.kept);
}
