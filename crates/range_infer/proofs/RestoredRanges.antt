-- What was replaced leads back to the ranges that were left before.
use Rattle.std.proofs.Common.{◌≡◌, ℕ, ◌<◌, ◌≤◌, List, [], ◌∷◌, ◌++◌, length, take, drop, slice_index_or, slice_set, refl, sym, ◌∙◌, ap, ap₂, arith, length-append}
use Rattle.std.proofs.lemmas.List.{set-set, set-get_or, take_all, drop_all, take_at, drop_at, take-append-le, drop-append-le, take-append-drop, length-take}
use Rattle.model_core.specs.declared.model.Model.{Model}
use Rattle.model_core.specs.Code.Views.{graph_of}
use Rattle.model_core.specs.declared.var_range.VarRange.{VarRange}
use Rattle.model_core.specs.Ranges.OtherRanges.{with_ranges}
use Rattle.range_infer.specs.declared.ranges_left.RangesLeft.{RangesLeft}
use Rattle.range_infer.specs.declared.replaced_range.ReplacedRange.{ReplacedRange}
use Rattle.range_infer.specs.Inner.RangesLeft.{variables_left, put_back, StaysLeft, RestoresTo}

-- ---- what stays

pub same_variables : (a b : RangesLeft) → StaysLeft a b → variables_left b ≡ variables_left a
same_variables a b same = ap₂ (λ (m : Model) (rs : List VarRange). with_ranges (graph_of m).variables rs) same.model same.ranges

pub stays-trans : (a b c : RangesLeft) → StaysLeft a b → StaysLeft b c → StaysLeft a c
stays-trans a b c first second = record {
  model = second.model ∙ first.model;
  ranges = second.ranges ∙ first.ranges;
  replaced = second.replaced ∙ first.replaced;
}

-- ---- what leads back

pub put_back-append : (rs : List VarRange) (xs ys : List ReplacedRange) → put_back rs (xs ++ ys) ≡ put_back (put_back rs ys) xs
put_back-append rs [] ys = refl
put_back-append rs (r ∷ xs) ys = ap (λ (rs : List VarRange). slice_set rs r.var r.range) (put_back-append rs xs ys)

pub stays-back : (a b : RangesLeft) → StaysLeft a b → RestoresTo a b
stays-back a b same =
    let n = length a.replaced.items in
    let few : length b.replaced.items ≤ n = omega (arith, ap length same.replaced) in
    record {
      model = same.model;
      before = take_all n b.replaced.items few ∙ same.replaced;
      back = ap (put_back b.ranges.items) (drop_all n b.replaced.items few) ∙ same.ranges;
    }

pub back-trans : (a b c : RangesLeft) → RestoresTo a b → RestoresTo b c → RestoresTo a c
back-trans a b c first second =
    let n = length a.replaced.items in
    let m = length b.replaced.items in
    let since = drop m c.replaced.items in
    let few : n ≤ m = omega (arith, ap length first.before, length-take n b.replaced.items) in
    let all : b.replaced.items ++ since ≡ c.replaced.items = ap (λ (xs : List ReplacedRange). xs ++ since) (sym second.before) ∙ take-append-drop m c.replaced.items in
    record {
      model = second.model ∙ first.model;
      before = ap (take n) (sym all) ∙ (take-append-le n b.replaced.items since few ∙ first.before);
      back =
          ap (λ (xs : List ReplacedRange). put_back c.ranges.items (drop n xs)) (sym all) ∙
          (ap (put_back c.ranges.items) (drop-append-le n b.replaced.items since few) ∙
          (put_back-append c.ranges.items (drop n b.replaced.items) since ∙
          (ap (λ (rs : List VarRange). put_back rs (drop n b.replaced.items)) second.back ∙ first.back)));
    }

pub back-stays : (a b c : RangesLeft) → RestoresTo a b → StaysLeft b c → RestoresTo a c
back-stays a b c first second = back-trans a b c first (stays-back b c second)

-- the place of one range takes another
pub one_replaced : (a b : RangesLeft) (r : ReplacedRange) (new d : VarRange) → b.model.now ≡ a.model.now → b.replaced.items ≡ a.replaced.items ++ r ∷ [] → b.ranges.items ≡ slice_set a.ranges.items r.var new → r.range ≡ slice_index_or a.ranges.items r.var d → RestoresTo a b
one_replaced a b r new d model pushed set is =
    let n = length a.replaced.items in
    record {
      model = model;
      before = ap (take n) pushed ∙ take_at a.replaced.items (r ∷ []) n refl;
      back =
          ap₂ put_back set (ap (drop n) pushed ∙ drop_at a.replaced.items (r ∷ []) n refl) ∙
          (set-set a.ranges.items r.var new r.range ∙
          (ap (slice_set a.ranges.items r.var) is ∙ set-get_or a.ranges.items r.var d));
    }

-- ---- one replaced range after the other is put back

-- so far as this: putting back the rest leads where putting back all led at first
pub record PutBackTo (n : ℕ) (first now : RangesLeft) : Type 0 where
  pub model : now.model.now ≡ first.model.now
  pub before : take n now.replaced.items ≡ take n first.replaced.items
  pub back : put_back now.ranges.items (drop n now.replaced.items) ≡ put_back first.ranges.items (drop n first.replaced.items)

pub one_put_back : (n : ℕ) (ranges next : List VarRange) (xs ys : List ReplacedRange) (r : ReplacedRange) → n < length xs → xs ≡ ys ++ r ∷ [] → next ≡ slice_set ranges r.var r.range → (take n ys ≡ take n xs) × (put_back next (drop n ys) ≡ put_back ranges (drop n xs))
one_put_back n ranges next xs ys r small popped set =
    let few : n ≤ length ys = omega (arith, small, ap length popped, length-append ys (r ∷ [])) in (
      sym (ap (take n) popped ∙ take-append-le n ys (r ∷ []) few),
      ap (λ (rs : List VarRange). put_back rs (drop n ys)) set ∙ sym (ap (λ (zs : List ReplacedRange). put_back ranges (drop n zs)) popped ∙ (ap (put_back ranges) (drop-append-le n ys (r ∷ []) few) ∙ put_back-append ranges (drop n ys) (r ∷ []))),
    )

pub ruleset restores_through = (same_variables, stays-trans, stays-back, back-trans, back-stays)
