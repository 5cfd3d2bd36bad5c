-- Declarations of variables and tables: nothing of them is broken exactly where what they name keeps the rules.
use Rattle.std.proofs.Common.{◌≡◌, ◌≢◌, ◌↔◌, ℕ, zero, suc, ◌+◌, ◌≤◌, ℤ, pos, negsuc, ◌≤ℤ◌, ◌+ℤ◌, Bool, true, false, List, [], ◌∷◌, ◌++◌, map, length, lit≤, Option, Some, None, refl, sym, ap, subst, ◌∙◌, append_assoc, arith}
use Rattle.std.specs.Prelude.{sum_by}
use Rattle.std.specs.List.{AllByRecursion}
use Rattle.std.proofs.lemmas.Int.{ints}
use Rattle.std.proofs.lemmas.List.{length-map}
use Rattle.std.proofs.lemmas.List.Sums.{sum_by-cons}
use Rattle.std.proofs.lemmas.Option.{same_Some}
use Rattle.sig_base.specs.declared.limits.TheConstants.{ARRAY_CELLS_MAX, ROWS_MAX, WEIGHTS_MAX}
use Rattle.model_core.specs.declared.model.Kind.TheVariants as kinds
use Rattle.model_core.specs.EventGraph.{Variable, Weighted}
use Rattle.model_core.specs.Text.Written as written
use Rattle.model_core.specs.Text.Written.{WrittenNumber, WrittenSigned, WrittenKind, WrittenLiteral, WrittenVariable, WrittenRow, WrittenTable}
use Rattle.model_core.specs.Text.Numbering as numbering
use Rattle.model_core.specs.Run.Value.{number_of}
use Rattle.model_core.specs.Text.Numbering.{◌>>=◌, each_numbered, natural_of, natural, signed}
use Rattle.model_core.specs.Static.FaultOrder.{StaticFault}
use Rattle.model_core.specs.Static.RuleTable.{certain_number, certain_value, name_too_long, kind_mismatch, number_too_large, literal_too_large, empty_range, initial_outside, weight_outside, too_many}
use Rattle.model_core.specs.Static.PartFaults.{if_written, size_faults, range_faults, variable_faults, rows_faults, table_faults}
use Rattle.model_core.specs.Static.OwnRules.{IsShort, IsLiteral, KeepsVariable, KeepsRow, KeepsTable}
use Rattle.model_core.specs.Static.WrittenByKind.{IsNoZero, SuitsKind, IsWrittenByKind}
use Rattle.static_laws.proofs.StaticTwins.MadeOf.{OfFour, of_two, of_four, of_each, each_cons, each_length}
use Rattle.model_core.proofs.EmptyLists.{left_empty, right_empty}
use Rattle.static_laws.proofs.StaticTwins.Twins.{both_empty, Twin, twin_as, twin_map, twin_two, twin_before, twin_after}
use Rattle.static_laws.proofs.StaticTwins.RowTwins.{short_name, few, size_twin, weight_twin, literal_twin, in_order, starts_inside}

-- faults that are joined in another order
pub twin_joined : {B : Type 0} (fs gs hs : List StaticFault) (o : Option B) (P : B → Type 0) → Twin (fs ++ (gs ++ hs)) o P → Twin ((fs ++ gs) ++ hs) o P
twin_joined fs gs hs o P t = subst (λ xs. Twin xs o P) (sym (append_assoc fs gs hs)) t

-- at most so many are written where at most so many are numbered
pub few_items : {A B : Type 0} (limit : ℕ) (place : A → ℕ) (f : A → Option B) (xs : List A) (ys : List B) → each_numbered f xs ≡ Some ys → too_many limit (map place xs) ≡ [] ↔ length ys ≤ limit
few_items limit place f xs ys e =
    let n : length ys ≡ length (map place xs) = each_length f xs ys e ∙ sym (length-map xs place) in
    let t = few limit (map place xs) in
    (λ h. rw n (t.0 h), λ h. t.1 (rw n at h))

-- ---- variables

-- a size that isn't 0 is at least one cell
pub some_cells : (y : ℕ) (value : Option ℤ) → (value >>= natural_of) ≡ Some y → (value ≢ Some (pos 0)) → 1 ≤ y
some_cells y None s h = cc
some_cells y (Some (negsuc k)) s h = cc
some_cells zero (Some (pos k)) s h = absurd (h (ap (λ j. Some (pos j)) (same_Some k 0 s)))
some_cells (suc y) (Some (pos k)) s h = omega arith

-- the size of an array isn't 0, and a scalar has none
given_size : (s : Option WrittenNumber) → Twin (if_written size_faults s) (numbering.size s) (λ k. (k ≤ ARRAY_CELLS_MAX) × IsNoZero s)
given_size None = record { kept = λ e. (0, refl, (lit≤ tt, tt)); unbroken = λ y s q. refl }
given_size (Some n) = twin_as _ (natural n) (λ k. (1 ≤ k) × (k ≤ ARRAY_CELLS_MAX)) (λ k. (k ≤ ARRAY_CELLS_MAX) × (n.value ≢ Some (pos 0)))
    (λ y s q. (q.1, λ z. some_size y n.value s z q.0)) (λ y s q. (some_cells y n.value s q.1, q.0)) (size_twin n)
  where
    some_size : (y : ℕ) (value : Option ℤ) → (value >>= natural_of) ≡ Some y → value ≡ Some (pos 0) → 1 ≤ y → ⊥
    some_size y value s z h = let zero : y ≡ 0 = same_Some y 0 (sym s ∙ ap (λ v. v >>= natural_of) z) in omega arith

-- the variable that is made of these
abbrev pub truth_variable : List ℕ → ℕ → ℤ → Variable
truth_variable name size initial = record { name = name; size = size; kind = kinds.Truth; lo = pos 0; hi = pos 1; clip = false; initial = initial }

abbrev pub range_variable : List ℕ → Bool → ℕ → ℤ → ℤ → ℤ → Variable
range_variable name clip size lo hi initial = record { name = name; size = size; kind = kinds.Range; lo = lo; hi = hi; clip = clip; initial = initial }

-- a truth word is within the bounds of truth values
word_within : (b : Bool) → Twin [] (Some (number_of b)) (λ z. (pos 0 ≤ℤ z) × (z ≤ℤ pos 1))
word_within true = record { kept = λ e. (pos 1, refl, (omega (arith, ints), omega (arith, ints))); unbroken = λ y s q. refl }
word_within false = record { kept = λ e. (pos 0, refl, (omega (arith, ints), omega (arith, ints))); unbroken = λ y s q. refl }

-- what is broken of a range variable after its size, and what it is numbered as
module _ (lo hi start : WrittenSigned) where
  abbrev bounds_faults : List StaticFault
  bounds_faults = literal_too_large lo ++ literal_too_large hi ++ empty_range lo hi ++ literal_too_large start ++ initial_outside lo hi start

  record Bounded (a b z : ℤ) : Type 0 where
    least : IsLiteral a
    greatest : IsLiteral b
    initial : IsLiteral z
    ordered : a ≤ℤ b
    from_lo : a ≤ℤ z
    to_hi : z ≤ℤ b

  record Numbers (a b z : ℤ) : Type 0 where
    is_lo : signed lo ≡ Some a
    is_hi : signed hi ≡ Some b
    is_initial : signed start ≡ Some z

  bounds_kept : bounds_faults ≡ [] → (a b z : ℤ) × Numbers a b z × Bounded a b z
  bounds_kept e =
      let f4 = left_empty _ (initial_outside lo hi start) e in
      let f3 = left_empty _ (literal_too_large start) f4 in
      let f2 = left_empty _ (empty_range lo hi) f3 in
      let (a, is_a, la) = (literal_twin lo).kept (left_empty (literal_too_large lo) (literal_too_large hi) f2) in
      let (b, is_b, lb) = (literal_twin hi).kept (right_empty (literal_too_large lo) (literal_too_large hi) f2) in
      let (z, is_z, lz) = (literal_twin start).kept (right_empty _ (literal_too_large start) f4) in
      let o = (in_order lo hi a b is_a is_b).0 (right_empty _ (empty_range lo hi) f3) in
      let i = (starts_inside lo hi start a b z is_a is_b is_z).0 (right_empty _ (initial_outside lo hi start) e) in
      (a, b, z, record { is_lo = is_a; is_hi = is_b; is_initial = is_z }, record { least = la; greatest = lb; initial = lz; ordered = o; from_lo = i.0; to_hi = i.1 })

  bounds_unbroken : (a b z : ℤ) → Numbers a b z → Bounded a b z → bounds_faults ≡ []
  bounds_unbroken a b z n k =
      both_empty _ (initial_outside lo hi start)
      (both_empty _ (literal_too_large start)
      (both_empty _ (empty_range lo hi)
      (both_empty (literal_too_large lo) (literal_too_large hi) ((literal_twin lo).unbroken a n.is_lo k.least) ((literal_twin hi).unbroken b n.is_hi k.greatest))
      ((in_order lo hi a b n.is_lo n.is_hi).1 k.ordered))
      ((literal_twin start).unbroken z n.is_initial k.initial))
      ((starts_inside lo hi start a b z n.is_lo n.is_hi n.is_initial).1 (k.from_lo, k.to_hi))

module _ (v : WrittenVariable) where
  abbrev front_faults : List StaticFault
  front_faults = name_too_long v.name ++ if_written size_faults v.size

  front_twin : Twin front_faults (numbering.size v.size) (λ k. IsShort v.name.name × ((k ≤ ARRAY_CELLS_MAX) × IsNoZero v.size))
  front_twin = twin_after (name_too_long v.name) (if_written size_faults v.size) (numbering.size v.size) (IsShort v.name.name) _ (short_name v.name) (given_size v.size)

  truth_twin : (b : Bool) (at : ℕ) → Twin (front_faults ++ []) (numbering.size v.size >>= λ cells. Some (number_of b) >>= λ start. Some (truth_variable v.name.name cells start)) (λ y. IsNoZero v.size × KeepsVariable y)
  truth_twin b at =
      twin_two (truth_variable v.name.name) front_faults [] (numbering.size v.size) (Some (number_of b)) _ _ _
      (λ cells start p q. (p.1.1, record { name = p.0; size = p.1.0; range = record { least = refl; greatest = refl; exact = refl }; from_lo = q.0; to_hi = q.1 }))
      (λ cells start r. ((r.1.name, (r.1.size, r.0)), (r.1.from_lo, r.1.to_hi)))
      front_twin (word_within b)

  range_twin : (lo hi start : WrittenSigned) (clip : Bool) → Twin (front_faults ++ bounds_faults lo hi start) (numbering.size v.size >>= λ cells. signed lo >>= λ least. signed hi >>= λ greatest. signed start >>= λ initial. Some (range_variable v.name.name clip cells least greatest initial)) (λ y. IsNoZero v.size × KeepsVariable y)
  range_twin lo hi start clip = record {
    kept = λ e.
        let (k, is_k, (short, (size, no_zero))) = front_twin.kept (left_empty front_faults (bounds_faults lo hi start) e) in
        let (a, b, z, n, bounded) = bounds_kept lo hi start (right_empty front_faults (bounds_faults lo hi start) e) in (
          range_variable v.name.name clip k a b z,
          rw (is_k, n.is_lo, n.is_hi, n.is_initial) refl,
          (no_zero, record { name = short; size = size; range = record { least = bounded.least; greatest = bounded.greatest; start = bounded.initial; ordered = bounded.ordered }; from_lo = bounded.from_lo; to_hi = bounded.to_hi }),
        );
    unbroken = λ y s (no_zero, keeps).
        let p = of_four (range_variable v.name.name clip) (numbering.size v.size) (signed lo) (signed hi) (signed start) y s in
        whole p (subst KeepsVariable (sym p.made) keeps) no_zero;
  }
    where
      whole : {y : Variable} (p : OfFour (range_variable v.name.name clip) (numbering.size v.size) (signed lo) (signed hi) (signed start) y) → KeepsVariable (range_variable v.name.name clip p.a p.b p.c p.d) → IsNoZero v.size → front_faults ++ bounds_faults lo hi start ≡ []
      whole p k no_zero =
          both_empty front_faults (bounds_faults lo hi start)
          (front_twin.unbroken p.a p.is_a (k.name, (k.size, no_zero)))
          (bounds_unbroken lo hi start p.b p.c p.d (record { is_lo = p.is_b; is_hi = p.is_c; is_initial = p.is_d })
          (record { least = k.range.least; greatest = k.range.greatest; initial = k.range.start; ordered = k.range.ordered; from_lo = k.from_lo; to_hi = k.to_hi }))

  by_kind : (kind : WrittenKind) (initial : WrittenLiteral) → Twin (front_faults ++ range_faults kind initial) (numbering.variable_of_kind (record v { initial = initial }) kind) (λ y. (IsNoZero v.size × SuitsKind kind initial) × KeepsVariable y)
  by_kind written.TruthKind (written.TruthLiteral at b) = twin_as _ _ (λ y. IsNoZero v.size × KeepsVariable y) _ (λ y s p. ((p.0, tt), p.1)) (λ y s p. (p.0.0, p.1)) (truth_twin b at)
  by_kind written.TruthKind (written.SignedLiteral s) = record {
    kept = λ e. let no : ⊥ = never (left_empty (kind_mismatch (Some kinds.Truth) (Some kinds.Range) s.at) (literal_too_large s) (right_empty front_faults _ e)) in absurd no;
    unbroken = λ y q r. absurd r.0.1;
  }
    where
      never : kind_mismatch (Some kinds.Truth) (Some kinds.Range) s.at ≡ [] → ⊥
      never h = cc
  by_kind (written.RangeKind lo hi clip) (written.TruthLiteral at b) = record {
    kept = λ e. let no : ⊥ = never (right_empty _ (kind_mismatch (Some kinds.Range) (Some kinds.Truth) at) (right_empty front_faults _ e)) in absurd no;
    unbroken = λ y q r. absurd r.0.1;
  }
    where
      never : kind_mismatch (Some kinds.Range) (Some kinds.Truth) at ≡ [] → ⊥
      never h = cc
  by_kind (written.RangeKind lo hi clip) (written.SignedLiteral s) = twin_as _ _ (λ y. IsNoZero v.size × KeepsVariable y) _ (λ y q p. ((p.0, tt), p.1)) (λ y q p. (p.0.0, p.1)) (range_twin lo hi s clip)

  pub variable_twin : Twin (variable_faults v) (numbering.variable v) (λ y. IsWrittenByKind v × KeepsVariable y)
  variable_twin = twin_as _ _ (λ y. (IsNoZero v.size × SuitsKind v.kind v.initial) × KeepsVariable y) _
      (λ y s p. (record { size = p.0.0; initial = p.0.1 }, p.1)) (λ y s p. ((p.0.size, p.0.initial), p.1)) (by_kind v.kind v.initial)

-- ---- tables

abbrev row_made : ℤ → ℕ → Weighted
row_made value weight = record { value = value; weight = weight }

row_twin : (before : ℕ) (r : WrittenRow) → Twin (literal_too_large r.value ++ number_too_large r.weight ++ weight_outside (pos before) r.weight) (numbering.row r) (λ y. KeepsRow y × (before + y.weight ≤ WEIGHTS_MAX))
row_twin before r =
    twin_joined (literal_too_large r.value) (number_too_large r.weight) (weight_outside (pos before) r.weight) _ _
    (twin_two row_made (literal_too_large r.value) (number_too_large r.weight ++ weight_outside (pos before) r.weight) (signed r.value) (natural r.weight) _ _ _
    (λ a b p q. (record { value = p; some = q.0 }, q.1)) (λ a b r. (r.0.value, (r.0.some, r.1)))
    (literal_twin r.value) (weight_twin before r.weight))

-- a number that has a value, and isn't negative, counts as that
pub natural_is : (n : WrittenNumber) (k : ℕ) → natural n ≡ Some k → certain_value n ≡ pos k
natural_is n k e = by_value n.value e
  where
    by_value : (value : Option ℤ) → (value >>= natural_of) ≡ Some k → certain_number value ≡ pos k
    by_value None e = cc
    by_value (Some (pos j)) e = ap pos (same_Some j k e)
    by_value (Some (negsuc j)) e = cc

row_weight : (r : WrittenRow) (y : Weighted) → numbering.row r ≡ Some y → certain_value r.weight ≡ pos y.weight
row_weight r y e = let p = of_two row_made (signed r.value) (natural r.weight) y e in natural_is r.weight p.b p.is_b ∙ ap (λ (w : Weighted). pos w.weight) p.made

abbrev weights : List Weighted → ℕ
weights ys = sum_by (λ (r : Weighted). r.weight) ys

weights-cons : (y : Weighted) (ys : List Weighted) → weights (y ∷ ys) ≡ y.weight + weights ys
weights-cons y ys = sum_by-cons (λ (r : Weighted). r.weight) y ys

-- the rows after others of this sum of weights
rows_twin : (before : ℕ) (rs : List WrittenRow) → before ≤ WEIGHTS_MAX → Twin (rows_faults (pos before) rs) (each_numbered numbering.row rs) (λ ys. AllByRecursion KeepsRow ys × (before + weights ys ≤ WEIGHTS_MAX))
rows_twin before [] h = record { kept = λ e. ([], refl, (tt, omega arith)); unbroken = λ y s q. refl }
rows_twin before (r ∷ rs) h = record {
  kept = λ e.
      let (y, is_y, k) = (row_twin before r).kept (left_empty first (rows_faults (pos before +ℤ certain_value r.weight) rs) e) in
      let (ys, is_ys, l) = (rows_twin (before + y.weight) rs k.1).kept (next y is_y (right_empty first (rows_faults (pos before +ℤ certain_value r.weight) rs) e)) in
      (y ∷ ys, each_cons numbering.row r rs y ys is_y is_ys, ((k.0, l.0), rw weights-cons (omega (arith, l.1))));
  unbroken = λ zs s q.
      let p = of_each numbering.row r rs zs s in
      let k = subst (λ ys. AllByRecursion KeepsRow ys × (before + weights ys ≤ WEIGHTS_MAX)) (sym p.made) q in
      let sum : before + (p.a.weight + weights p.b) ≤ WEIGHTS_MAX = rw weights-cons at k.1 in
      let few : before + p.a.weight ≤ WEIGHTS_MAX = omega arith in
      both_empty first (rows_faults (pos before +ℤ certain_value r.weight) rs)
      ((row_twin before r).unbroken p.a p.is_a (k.0.0, few))
      (back p.a p.is_a ((rows_twin (before + p.a.weight) rs few).unbroken p.b p.is_b (k.0.1, omega arith)));
}
  where
    first : List StaticFault
    first = literal_too_large r.value ++ number_too_large r.weight ++ weight_outside (pos before) r.weight

    next : (y : Weighted) → numbering.row r ≡ Some y → rows_faults (pos before +ℤ certain_value r.weight) rs ≡ [] → rows_faults (pos (before + y.weight)) rs ≡ []
    next y e h = rw (row_weight r y e) at h

    back : (y : Weighted) → numbering.row r ≡ Some y → rows_faults (pos (before + y.weight)) rs ≡ [] → rows_faults (pos before +ℤ certain_value r.weight) rs ≡ []
    back y e h = rw (row_weight r y e) h

pub table_twin : (t : WrittenTable) → Twin (table_faults t) (numbering.table t) KeepsTable
table_twin t =
    twin_map (λ rows. record { name = t.name.name; rows = rows }) _ (each_numbered numbering.row t.rows) Kept KeepsTable
    (λ ys p. record { name = p.0; rows = p.1.1.0; few = p.1.0; weights = p.1.1.1 })
    (λ ys k. (k.name, (k.few, (k.rows, k.weights))))
    (twin_joined (name_too_long t.name) (too_many ROWS_MAX (map (λ (r : WrittenRow). r.at) t.rows)) (rows_faults (pos 0) t.rows) _ Kept
    (twin_after (name_too_long t.name) (too_many ROWS_MAX (map (λ (r : WrittenRow). r.at) t.rows) ++ rows_faults (pos 0) t.rows) _ (IsShort t.name.name) _ (short_name t.name) few_rows))
  where
    KeptRows : List Weighted → Type 0
    KeptRows ys = (length ys ≤ ROWS_MAX) × (AllByRecursion KeepsRow ys × (weights ys ≤ WEIGHTS_MAX))

    Kept : List Weighted → Type 0
    Kept ys = IsShort t.name.name × KeptRows ys

    few_rows : Twin (too_many ROWS_MAX (map (λ (r : WrittenRow). r.at) t.rows) ++ rows_faults (pos 0) t.rows) (each_numbered numbering.row t.rows) KeptRows
    few_rows =
        twin_before (too_many ROWS_MAX (map (λ (r : WrittenRow). r.at) t.rows)) (rows_faults (pos 0) t.rows) (each_numbered numbering.row t.rows) (λ ys. length ys ≤ ROWS_MAX) _
        (λ ys s. few_items ROWS_MAX (λ (r : WrittenRow). r.at) numbering.row t.rows ys s)
        (twin_as _ _ _ _ (λ ys s p. (p.0, omega (arith, p.1))) (λ ys s p. (p.0, omega (arith, p.1))) (rows_twin 0 t.rows (lit≤ tt)))
