-- A round keeps ranges that fit, and those that hold initial values; ranges that a round leaves hold all that is kept.
use Rattle.std.proofs.Common.{◌≡◌, ℕ, ◌<◌, ◌≤◌, ◌==◌, ℤ, ◌≤ℤ◌, nat_le, nat_lt, int_le, int_lt, Bool, true, false, ◌&&◌, cond, List, [], ◌∷◌, length, Option, Some, None, refl, sym, ◌∙◌, ap, subst, arith}
use Rattle.std.specs.Prelude.{IfSome}
use Rattle.std.specs.Int.{int_min, int_max}
use Rattle.std.specs.List.{AllByRecursion, fold}
use Rattle.std.proofs.lemmas.Int.{ints, clamps}
use Rattle.std.proofs.lemmas.Bool.Decides.{nat_tests}
use Rattle.std.proofs.lemmas.List.{get_or_past}
use Rattle.std.proofs.lemmas.List.FromFn.{get_or-map-range_with_len, length-map-range_with_len}
use Rattle.std.proofs.lemmas.Bool.{eq-eqb}
use Rattle.model_core.specs.declared.bounds.Bounds.{Bounds}
use Rattle.model_core.specs.EventGraph.{EventGraph, Variable}
use Rattle.model_core.specs.Run.State.{no_variable, variable_at}
use Rattle.model_core.specs.Static.OwnRules.{KeepsVariable}
use Rattle.sig_base.proofs.Lists.{every-always}
use Rattle.model_core.proofs.EachOne.{every-map}
use Rattle.bound_laws.proofs.Soundness.Ends.{of_not_lt}
use Rattle.model_core.specs.declared.incoming.Incoming.{Incoming}
use Rattle.model_core.specs.declared.var_range.VarRange.{VarRange}
use Rattle.model_core.specs.Ranges.OtherRanges.{LiesIn, declared_range, no_range, range_at}
use Rattle.model_core.specs.Ranges.Incoming.{incoming, nearest_declared, overlap, kept_range}
use Rattle.model_core.specs.Ranges.Inductive.{is_fixed, Encloses, FitsVariable, Fitting, HoldsIncoming, Inductive}
use Rattle.model_core.specs.Ranges.Inference.{hull, grown_range, ends_moved, each_variable, first_range, next_range, round}
use Rattle.range_infer.proofs.NarrowModels.{fits_everywhere}

pub holds-itself : (r : VarRange) → Encloses r r
holds-itself r = record { low = omega (arith, ints); high = omega (arith, ints) }

pub holds-trans : (a b c : VarRange) → Encloses a b → Encloses b c → Encloses a c
holds-trans a b c i j = record { low = omega (arith, ints, i.low, j.low); high = omega (arith, ints, i.high, j.high) }

pub wider : (o : Option VarRange) (a b : VarRange) → Encloses b a → IfSome o (Encloses a) → IfSome o (Encloses b)
wider None a b h i = tt
wider (Some k) a b h i = holds-trans b a k h i

-- ---- what a variable keeps lies in its declared range

meets_inside : (a b : VarRange) → IfSome (overlap a b) (Encloses a)
meets_inside a b = by (int_le (int_max a.lo b.lo) (int_min a.hi b.hi)) where
  by : (t : Bool) → IfSome (cond t (Some (record { lo = int_max a.lo b.lo; hi = int_min a.hi b.hi })) None) (Encloses a)
  by true = record { low = omega (arith, ints, clamps); high = omega (arith, ints, clamps) }
  by false = tt

pub kept_range-inside : (v : Variable) (b : Bounds) → v.lo ≤ℤ v.hi → IfSome (kept_range v b) (Encloses (declared_range v))
kept_range-inside v b ordered = by v.clip where
  by : (c : Bool) → IfSome (cond c (Some (record { lo = nearest_declared v b.lo; hi = nearest_declared v b.hi })) (overlap (declared_range v) (record { lo = b.lo; hi = b.hi }))) (Encloses (declared_range v))
  by true = record { low = omega (arith, ints, clamps); high = omega (arith, ints, clamps) }
  by false = meets_inside (declared_range v) (record { lo = b.lo; hi = b.hi })

-- ---- a range grows

hull-holds : (r : VarRange) (o : Option VarRange) → Encloses (hull r o) r × IfSome o (Encloses (hull r o))
hull-holds r None = (holds-itself r, tt)
hull-holds r (Some k) = (record { low = omega (arith, ints, clamps); high = omega (arith, ints, clamps) }, record { low = omega (arith, ints, clamps); high = omega (arith, ints, clamps) })

hull-inside : (d r : VarRange) (o : Option VarRange) → Encloses d r → IfSome o (Encloses d) → Encloses d (hull r o)
hull-inside d r None h k = h
hull-inside d r (Some s) h k = record { low = omega (arith, ints, clamps, h.low, k.low); high = omega (arith, ints, clamps, h.high, k.high) }

module _ (g : EventGraph) (v : ℕ) (ordered : (variable_at g v).lo ≤ℤ (variable_at g v).hi) where
  abbrev d : VarRange
  d = declared_range (variable_at g v)

  grown_range-holds : (r : VarRange) (i : Incoming) → Encloses (grown_range g v r i) r
  grown_range-holds r i = by (i.variable == v) where
    by : (b : Bool) → Encloses (cond b (hull r (kept_range (variable_at g v) i.bounds)) r) r
    by true = (hull-holds r (kept_range (variable_at g v) i.bounds)).0
    by false = holds-itself r

  grown_range-inside : (r : VarRange) (i : Incoming) → Encloses d r → Encloses d (grown_range g v r i)
  grown_range-inside r i h = by (i.variable == v) where
    by : (b : Bool) → Encloses d (cond b (hull r (kept_range (variable_at g v) i.bounds)) r)
    by true = hull-inside d r (kept_range (variable_at g v) i.bounds) h (kept_range-inside (variable_at g v) i.bounds ordered)
    by false = h

  pub all-holds : (r : VarRange) (is : List Incoming) → Encloses (fold (grown_range g v) r is) r
  all-holds r [] = holds-itself r
  all-holds r (i ∷ is) = holds-trans (fold (grown_range g v) (grown_range g v r i) is) (grown_range g v r i) r (all-holds (grown_range g v r i) is) (grown_range-holds r i)

  pub all-inside : (r : VarRange) (is : List Incoming) → Encloses d r → Encloses d (fold (grown_range g v) r is)
  all-inside r [] h = h
  all-inside r (i ∷ is) h = all-inside (grown_range g v r i) is (grown_range-inside r i h)

  grown_range-takes : (r : VarRange) (i : Incoming) → i.variable ≡ v → IfSome (kept_range (variable_at g v) i.bounds) (Encloses (grown_range g v r i))
  grown_range-takes r i same =
      subst (λ (b : Bool). IfSome (kept_range (variable_at g v) i.bounds) (Encloses (cond b (hull r (kept_range (variable_at g v) i.bounds)) r))) (sym (eq-eqb i.variable v same))
      (hull-holds r (kept_range (variable_at g v) i.bounds)).1

  -- a range that holds the grown one holds what the variable keeps of all that it takes
  pub all-taken : (r out : VarRange) (is : List Incoming) → Encloses out (fold (grown_range g v) r is) → AllByRecursion (λ (i : Incoming). i.variable ≡ v → IfSome (kept_range (variable_at g v) i.bounds) (Encloses out)) is
  all-taken r out [] h = tt
  all-taken r out (i ∷ is) h = (
    λ same. wider (kept_range (variable_at g v) i.bounds) (grown_range g v r i) out (holds-trans out (fold (grown_range g v) (grown_range g v r i) is) (grown_range g v r i) h (all-holds (grown_range g v r i) is)) (grown_range-takes r i same),
    all-taken (grown_range g v r i) out is h,
  )

  -- and it holds the grown one if it holds this and what was before
  pub all-least : (r out : VarRange) (is : List Incoming) → Encloses out r → AllByRecursion (λ (i : Incoming). i.variable ≡ v → IfSome (kept_range (variable_at g v) i.bounds) (Encloses out)) is → Encloses out (fold (grown_range g v) r is)
  all-least r out [] h held = h
  all-least r out (i ∷ is) h held = all-least (grown_range g v r i) out is (by (i.variable == v) refl) held.1 where
    by : (b : Bool) → (i.variable == v) ≡ b → Encloses out (cond b (hull r (kept_range (variable_at g v) i.bounds)) r)
    by true e = hull-inside out r (kept_range (variable_at g v) i.bounds) h (held.0 (grind (arith, nat_tests)))
    by false e = h

-- ---- an end moves

ends_moved-holds : (late : Bool) (d r n : VarRange) → Encloses d r → Encloses d n → Encloses n r → Encloses (ends_moved late d r n) r × Encloses d (ends_moved late d r n)
ends_moved-holds late d r n a b c = (record { low = low_end (late && int_lt n.lo r.lo); high = high_end (late && int_lt r.hi n.hi) }, record { low = low_inside (late && int_lt n.lo r.lo); high = high_inside (late && int_lt r.hi n.hi) }) where
  low_end : (t : Bool) → cond t d.lo n.lo ≤ℤ r.lo
  low_end true = a.low
  low_end false = c.low

  high_end : (t : Bool) → r.hi ≤ℤ cond t d.hi n.hi
  high_end true = a.high
  high_end false = c.high

  low_inside : (t : Bool) → d.lo ≤ℤ cond t d.lo n.lo
  low_inside true = omega (arith, ints)
  low_inside false = b.low

  high_inside : (t : Bool) → cond t d.hi n.hi ≤ℤ d.hi
  high_inside true = omega (arith, ints)
  high_inside false = b.high

-- the moved ends hold what they were to move to
pub ends_moved-takes : (late : Bool) (d r n : VarRange) → Encloses d n → Encloses (ends_moved late d r n) n
ends_moved-takes late d r n inside = record { low = low_end (late && int_lt n.lo r.lo); high = high_end (late && int_lt r.hi n.hi) } where
  low_end : (t : Bool) → cond t d.lo n.lo ≤ℤ n.lo
  low_end true = inside.low
  low_end false = omega (arith, ints)

  high_end : (t : Bool) → n.hi ≤ℤ cond t d.hi n.hi
  high_end true = inside.high
  high_end false = omega (arith, ints)

-- ends that stay weren't to move
low_stays : (late : Bool) (d r n : ℤ) → d ≤ℤ n → n ≤ℤ r → cond (late && int_lt n r) d n ≡ r → r ≤ℤ n
low_stays late d r n a b e = by late (int_lt n r) refl e where
  by : (s t : Bool) → int_lt n r ≡ t → cond (s && t) d n ≡ r → r ≤ℤ n
  by true true lt e = subst (λ (x : ℤ). x ≤ℤ n) e a
  by true false lt e = of_not_lt n r lt
  by false t lt e = omega (arith, ints, e)

high_stays : (late : Bool) (d r n : ℤ) → n ≤ℤ d → r ≤ℤ n → cond (late && int_lt r n) d n ≡ r → n ≤ℤ r
high_stays late d r n a b e = by late (int_lt r n) refl e where
  by : (s t : Bool) → int_lt r n ≡ t → cond (s && t) d n ≡ r → n ≤ℤ r
  by true true lt e = subst (λ (x : ℤ). n ≤ℤ x) e a
  by true false lt e = of_not_lt r n lt
  by false t lt e = omega (arith, ints, e)

ends_moved-stays : (late : Bool) (d r n : VarRange) → Encloses d n → Encloses n r → ends_moved late d r n ≡ r → Encloses r n
ends_moved-stays late d r n b c e = record { low = low_stays late d.lo r.lo n.lo b.low c.low (ap (λ (x : VarRange). x.lo) e); high = high_stays late d.hi r.hi n.hi b.high c.high (ap (λ (x : VarRange). x.hi) e) }

-- ---- one round

pub variable_given : (g : EventGraph) (f : ℕ → VarRange) (v : ℕ) → v < length g.variables → range_at (each_variable g f) v ≡ f v
variable_given g f v small = get_or-map-range_with_len f 0 (length g.variables) v v no_range small (omega arith)

pub variables_given : (g : EventGraph) (f : ℕ → VarRange) → length (each_variable g f) ≡ length g.variables
variables_given g f = length-map-range_with_len f 0 (length g.variables)

-- where a round changes nothing, each range stays
pub stays_at : (g : EventGraph) (ranges : List VarRange) (k : ℕ) → round g k ranges ≡ ranges → (v : ℕ) → v < length g.variables → next_range g (nat_le 17 k) (incoming g ranges) ranges v ≡ range_at ranges v
stays_at g ranges k stays v small =
    sym (variable_given g (next_range g (nat_le 17 k) (incoming g ranges) ranges) v small) ∙ ap (λ (rs : List VarRange). range_at rs v) stays

-- what is known of ranges between two rounds
pub record Growing (g : EventGraph) (ranges : List VarRange) : Type 0 where
  pub fitting : Fitting g ranges
  pub begins : (v : ℕ) → v < length g.variables → LiesIn (range_at ranges v) (variable_at g v).initial

module _ (g : EventGraph) (ranges : List VarRange) (growing : Growing g ranges) where
  abbrev fits : (v : ℕ) → FitsVariable g v (range_at ranges v)
  fits v = fits_everywhere g ranges growing.fitting v

  pub ordered : (v : ℕ) → (variable_at g v).lo ≤ℤ (variable_at g v).hi
  ordered v = let f = fits v in omega (arith, ints, f.ordered, f.inside.low, f.inside.high)

  grows : (late : Bool) (takes : List Incoming) (v : ℕ) → Encloses (next_range g late takes ranges v) (range_at ranges v) × Encloses (declared_range (variable_at g v)) (next_range g late takes ranges v)
  grows late takes v = by (is_fixed g v) where
    r : VarRange
    r = range_at ranges v

    n : VarRange
    n = fold (grown_range g v) r takes

    by : (b : Bool) → Encloses (cond b r (ends_moved late (declared_range (variable_at g v)) r n)) r × Encloses (declared_range (variable_at g v)) (cond b r (ends_moved late (declared_range (variable_at g v)) r n))
    by true = (holds-itself r, (fits v).inside)
    by false = ends_moved-holds late (declared_range (variable_at g v)) r n (fits v).inside (all-inside g v (ordered v) r takes (fits v).inside) (all-holds g v (ordered v) r takes)

  next-fits : (late : Bool) (takes : List Incoming) (v : ℕ) → FitsVariable g v (next_range g late takes ranges v)
  next-fits late takes v =
      let (wide, inside) = grows late takes v in
      let f = fits v in
      record {
        ordered = omega (arith, ints, wide.low, wide.high, f.ordered);
        inside = inside;
        fixed = λ is. ap (λ (b : Bool). cond b (range_at ranges v) (ends_moved late (declared_range (variable_at g v)) (range_at ranges v) (fold (grown_range g v) (range_at ranges v) takes))) is ∙ f.fixed is;
      }

  next-begins : (late : Bool) (takes : List Incoming) (v : ℕ) → v < length g.variables → LiesIn (next_range g late takes ranges v) (variable_at g v).initial
  next-begins late takes v small =
      let (wide, inside) = grows late takes v in
      let l = growing.begins v small in
      record { low = omega (arith, ints, wide.low, l.low); high = omega (arith, ints, wide.high, l.high) }

  pub round-growing : (k : ℕ) → Growing g (round g k ranges)
  round-growing k =
      let takes = incoming g ranges in
      let next : ℕ → VarRange = next_range g (nat_le 17 k) takes ranges in
      record {
        fitting = record {
          as_many = variables_given g next;
          each = λ v small. subst (FitsVariable g v) (sym (variable_given g next v small)) (next-fits (nat_le 17 k) takes v);
        };
        begins = λ v small. subst (λ (r : VarRange). LiesIn r (variable_at g v).initial) (sym (variable_given g next v small)) (next-begins (nat_le 17 k) takes v small);
      }

  -- ---- where a round changes nothing

  -- a range that stays holds what it would have grown to
  enough : (late : Bool) (takes : List Incoming) (v : ℕ) → is_fixed g v ≡ false → next_range g late takes ranges v ≡ range_at ranges v → Encloses (range_at ranges v) (fold (grown_range g v) (range_at ranges v) takes)
  enough late takes v free stays =
      let r = range_at ranges v in
      let n = fold (grown_range g v) r takes in
      ends_moved-stays late (declared_range (variable_at g v)) r n (all-inside g v (ordered v) r takes (fits v).inside) (all-holds g v (ordered v) r takes)
      (ap (λ (b : Bool). cond b r (ends_moved late (declared_range (variable_at g v)) r n)) (sym free) ∙ stays)

  abbrev Own : ℕ → Incoming → Type 0
  Own v i = i.variable ≡ v → HoldsIncoming g ranges i

  own : (v : ℕ) (i : Incoming) → IfSome (kept_range (variable_at g v) i.bounds) (Encloses (range_at ranges v)) → Own v i
  own v i h same = subst (λ (w : ℕ). IfSome (kept_range (variable_at g w) i.bounds) (Encloses (range_at ranges w))) (sym same) h

  -- a range that is the declared one holds what its variable keeps
  as_declared : (v : ℕ) → range_at ranges v ≡ declared_range (variable_at g v) → AllByRecursion (Own v) (incoming g ranges)
  as_declared v same = every-always (Own v) (λ i. own v i (subst (λ (r : VarRange). IfSome (kept_range (variable_at g v) i.bounds) (Encloses r)) (sym same) (kept_range-inside (variable_at g v) i.bounds (ordered v)))) (incoming g ranges)

  -- so it holds all that its variable keeps
  holds_taken : (k : ℕ) → round g k ranges ≡ ranges → (v : ℕ) → AllByRecursion (Own v) (incoming g ranges)
  holds_taken k stays v = there (nat_lt v (length g.variables)) refl where
    by : (b : Bool) → is_fixed g v ≡ b → v < length g.variables → AllByRecursion (Own v) (incoming g ranges)
    by true is small = as_declared v ((fits v).fixed is)
    by false free small =
        every-map (λ (i : Incoming). i.variable ≡ v → IfSome (kept_range (variable_at g v) i.bounds) (Encloses (range_at ranges v))) (Own v) (λ i h same. own v i (h same) same) (incoming g ranges)
        (all-taken g v (ordered v) (range_at ranges v) (range_at ranges v) (incoming g ranges) (enough (nat_le 17 k) (incoming g ranges) v free (stays_at g ranges k stays v small)))

    there : (b : Bool) → nat_lt v (length g.variables) ≡ b → AllByRecursion (Own v) (incoming g ranges)
    there true e = by (is_fixed g v) refl (grind (arith, nat_tests))
    there false e =
        let after : length g.variables ≤ v = grind (arith, nat_tests) in
        as_declared v (get_or_past ranges v no_range (omega (arith, growing.fitting.as_many, after)) ∙ sym (ap declared_range (get_or_past g.variables v no_variable after)))

  each-own : (is : List Incoming) → ((v : ℕ) → AllByRecursion (Own v) is) → AllByRecursion (HoldsIncoming g ranges) is
  each-own [] h = tt
  each-own (i ∷ is) h = ((h i.variable).0 refl, each-own is (λ v. (h v).1))

  pub stays-inductive : (k : ℕ) → round g k ranges ≡ ranges → Inductive g ranges
  stays-inductive k stays = record { begins = growing.begins; takes = each-own (incoming g ranges) (holds_taken k stays) }

-- ---- the ranges with which rounds begin

pub first-growing : (g : EventGraph) → ((v : ℕ) → v < length g.variables → KeepsVariable (variable_at g v)) → Growing g (each_variable g (first_range g))
first-growing g keeps = record {
  fitting = record {
    as_many = variables_given g (first_range g);
    each = λ v small. subst (FitsVariable g v) (sym (variable_given g (first_range g) v small)) (first_fits v small);
  };
  begins = λ v small. subst (λ (r : VarRange). LiesIn r (variable_at g v).initial) (sym (variable_given g (first_range g) v small)) (first_begins v small);
} where
  start : ℕ → VarRange
  start v = record { lo = (variable_at g v).initial; hi = (variable_at g v).initial }

  first_fits : (v : ℕ) → v < length g.variables → FitsVariable g v (first_range g v)
  first_fits v small = by (is_fixed g v) refl where
    by : (b : Bool) → is_fixed g v ≡ b → FitsVariable g v (cond b (declared_range (variable_at g v)) (start v))
    by true is = let k = keeps v small in record { ordered = omega (arith, ints, k.from_lo, k.to_hi); inside = holds-itself (declared_range (variable_at g v)); fixed = λ is. refl }
    by false free = let k = keeps v small in record { ordered = omega (arith, ints); inside = record { low = k.from_lo; high = k.to_hi }; fixed = λ is. let no : ⊥ = cc in absurd no }

  first_begins : (v : ℕ) → v < length g.variables → LiesIn (first_range g v) (variable_at g v).initial
  first_begins v small = by (is_fixed g v) where
    by : (b : Bool) → LiesIn (cond b (declared_range (variable_at g v)) (start v)) (variable_at g v).initial
    by true = let k = keeps v small in record { low = k.from_lo; high = k.to_hi }
    by false = record { low = omega (arith, ints); high = omega (arith, ints) }
