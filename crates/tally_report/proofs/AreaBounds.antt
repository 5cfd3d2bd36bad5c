-- Areas over some ticks stay small where they are added and where a value holds on.
use Rattle.std.proofs.Common.{◌≡◌, ℕ, suc, ◌+◌, ◌-◌, ◌*◌, ◌^◌, ◌<◌, ◌≤◌, ◌∙◌, ap, sym, subst, arith}
use Rattle.std.proofs.Math.Nat.{mul-le-mul_right}
use Rattle.std.specs.Prelude.{ℤ, pos, negsuc, ◌+ℤ◌, ◌*ℤ◌}
use Rattle.std.proofs.lemmas.Int.{ints, to_z-of_z}
use mir.Syntax.{w64, w128}
use mir.Val.{SFits, to_z, of_z}
use Rattle.tally_report.specs.SmallAreas.{IsSmallArea}

pub product-small : (x : ℤ) (n : ℕ) → SFits w64 x → IsSmallArea n (x *ℤ pos n)
product-small (pos a) n f =
    let small : a < 2 ^ 63 = omega (arith, ints, f) in
    let few : a * n ≤ (2 ^ 63 - 1) * n = mul-le-mul_right n (omega (arith, small)) in
    record { above = omega (arith, ints); below = omega (arith, ints, few) }
product-small (negsuc a) n f =
    let small : suc a ≤ 2 ^ 63 = omega (arith, ints, f) in
    let few : suc a * n ≤ 2 ^ 63 * n = mul-le-mul_right n small in
    record { above = omega (arith, ints, few); below = omega (arith, ints, few) }

pub sum-small : (m n : ℕ) (x y : ℤ) → IsSmallArea m x → IsSmallArea n y → IsSmallArea (m + n) (x +ℤ y)
sum-small m n x y p q = record { above = omega (arith, ints, p.above, q.above); below = omega (arith, ints, p.below, q.below) }

pub small-fits : (n : ℕ) (x : ℤ) → IsSmallArea n x → n < 2 ^ 64 → SFits w128 x
small-fits n x p few = omega (arith, ints, p.above, p.below, few)

-- a product as the code computes it
pub area-computed : (x : ℤ) (n : ℕ) → SFits w64 x → n < 2 ^ 64 → to_z w128 (of_z w128 (to_z w128 (of_z w128 (to_z w64 (of_z w64 x))) *ℤ to_z w128 n)) ≡ x *ℤ pos n
area-computed x n f few =
    let value : to_z w128 (of_z w128 (to_z w64 (of_z w64 x))) ≡ x = omega (arith, ints, f) in
    let ticks : to_z w128 n ≡ pos n = omega (arith, ints, few) in
    let whole = to_z-of_z w128 (x *ℤ pos n) (small-fits n (x *ℤ pos n) (product-small x n f) few) in
    (λ i. to_z w128 (of_z w128 (value i *ℤ ticks i))) ∙ whole

-- an area that is small over some ticks is so over more
pub area-longer : (a b : ℕ) (area : ℤ) → a ≤ b → IsSmallArea a area → IsSmallArea b area
area-longer a b area le small = record { above = omega (arith, ints, le, small.above); below = omega (arith, ints, le, small.below) }

-- a sum as the code computes it
sum-computed : (m n : ℕ) (x y : ℤ) → IsSmallArea m x → IsSmallArea n y → m + n < 2 ^ 64 → to_z w128 (of_z w128 (to_z w128 (of_z w128 x) +ℤ to_z w128 (of_z w128 y))) ≡ x +ℤ y
sum-computed m n x y p q few =
    let first = to_z-of_z w128 x (small-fits m x p (omega (arith, few))) in
    let second = to_z-of_z w128 y (small-fits n y q (omega (arith, few))) in
    let whole = to_z-of_z w128 (x +ℤ y) (small-fits (m + n) (x +ℤ y) (sum-small m n x y p q) few) in
    (λ i. to_z w128 (of_z w128 (first i +ℤ second i))) ∙ whole

-- an area whose last value holds on, as the code computes it
pub held-computed : (a b : ℕ) (area x part : ℤ) → a ≤ b → b < 2 ^ 64 → SFits w64 x → part ≡ to_z w64 (of_z w64 x) *ℤ pos (b - a) → IsSmallArea a area → IsSmallArea (b - a) part → to_z w128 (of_z w128 (to_z w128 (of_z w128 area) +ℤ to_z w128 (of_z w128 part))) ≡ area +ℤ x *ℤ pos (b - a)
held-computed a b area x part le few f product p q =
    let value : to_z w64 (of_z w64 x) ≡ x = omega (arith, ints, f) in
    sum-computed a (b - a) area part p q (omega (arith, le, few)) ∙ ap (λ y. area +ℤ y) (product ∙ ap (λ y. y *ℤ pos (b - a)) value)

pub held-small : (a b : ℕ) (area part : ℤ) → a ≤ b → b < 2 ^ 64 → IsSmallArea a area → IsSmallArea (b - a) part → IsSmallArea b (to_z w128 (of_z w128 (to_z w128 (of_z w128 area) +ℤ to_z w128 (of_z w128 part))))
held-small a b area part le few p q =
    let upto : a + (b - a) ≡ b = omega (arith, le) in
    subst (IsSmallArea b) (sym (sum-computed a (b - a) area part p q (omega (arith, le, few)))) (subst (λ n. IsSmallArea n (area +ℤ part)) upto (sum-small a (b - a) area part p q))
