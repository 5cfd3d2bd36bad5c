-- The plain urgent edge of a vertex is alone among edges that aren't urgent.
use Rattle.std.proofs.Common.{◌≡◌, ℕ, zero, suc, ◌+◌, ◌≤◌, ◌<◌, ◌==◌, Bool, true, false, cond, List, [], ◌∷◌, ◌++◌, length, slice_get, Option, Some, None, refl, sym, ◌∙◌, ap, subst, arith}
use Rattle.std.specs.Prelude.{count_by}
use Rattle.std.proofs.lemmas.List.Sums.{sum_by-cons, sum_by-append}
use Rattle.std.specs.List.{AllByRecursion, remove, position_from}
use Rattle.std.specs.Option.{option_map_or, option_and_then}
use Rattle.std.proofs.lemmas.Bool.{eqb-true}
use Rattle.model_core.specs.EventGraph.{EventVertex, EventEdge, EdgeKind, Urgent, Expression, Truth, delay_given, has_drawn_delay, is_drawn}
use Rattle.model_core.specs.Rules.Settle.{is_literal_true}
use Rattle.model_core.specs.Rules.UrgentEdges.{is_urgent, is_urgent_kind, is_plain, plain_urgent, plain_urgent_edge}
use Rattle.model_core.specs.Rules.Merge.{leads_to, values_at_once, other_edges}
use Rattle.model_core.proofs.BothTrue.{and_first, and_second}
use Rattle.model_core.proofs.EachOne.{every-joined}
use Rattle.vertex_laws.proofs.ReadElement.{is_there}
use Rattle.merge_rules.proofs.OneStepForTwo.EdgesAside.{urgent_edge}

-- ---- the place of the first that passes a test

record Found {A : Type 0} (test : A → Bool) (xs : List A) (from place : ℕ) : Type 0 where
  offset : ℕ
  element : A
  offset_is : place ≡ from + offset
  there : slice_get xs offset ≡ Some element
  passes : test element ≡ true

found : {A : Type 0} (test : A → Bool) (xs : List A) (from place : ℕ) → position_from test from xs ≡ Some place → Found test xs from place
found test [] from place e = cc
found test (x ∷ xs) from place e = tested (test x) refl e (found test xs (from + 1) place) where
  tested : (b : Bool) → test x ≡ b → cond b (Some from) (position_from test (from + 1) xs) ≡ Some place → (position_from test (from + 1) xs ≡ Some place → Found test xs (from + 1) place) → Found test (x ∷ xs) from place
  tested true is e later =
      let same : from ≡ place = cc in
      record { offset = 0; element = x; offset_is = omega (arith, same); there = refl; passes = is }
  tested false is e later =
      let r = later e in
      let o = r.offset_is in
      record { offset = suc r.offset; element = r.element; offset_is = omega (arith, o); there = r.there; passes = r.passes }

-- ---- the elements before and after an element

record Around {A : Type 0} (xs : List A) (place : ℕ) (x : A) : Type 0 where
  before : List A
  after : List A
  whole : xs ≡ before ++ x ∷ after
  rest : remove xs place ≡ before ++ after

around : {A : Type 0} (xs : List A) (place : ℕ) (x : A) → slice_get xs place ≡ Some x → Around xs place x
around [] place x e = cc
around (y ∷ ys) zero x e =
    let same : y ≡ x = cc in
    record { before = []; after = ys; whole = ap (λ y. y ∷ ys) same; rest = refl }
around (y ∷ ys) (suc place) x e =
    let r = around ys place x e in
    record { before = y ∷ r.before; after = r.after; whole = ap (λ zs. y ∷ zs) r.whole; rest = ap (λ zs. y ∷ zs) r.rest }

-- ---- how many pass a test

abbrev counts : {A : Type 0} → (A → Bool) → A → ℕ
counts test x = cond (test x) 1 0

none_counted : {A : Type 0} (test : A → Bool) (xs : List A) → count_by test xs ≤ 0 → AllByRecursion (λ x. test x ≡ false) xs
none_counted test [] e = tt
none_counted test (x ∷ xs) e = tested (test x) refl (subst (λ n. n ≤ 0) (sum_by-cons (counts test) x xs) e) (none_counted test xs) where
  tested : (b : Bool) → test x ≡ b → cond b 1 0 + count_by test xs ≤ 0 → (count_by test xs ≤ 0 → AllByRecursion (λ x. test x ≡ false) xs) → AllByRecursion (λ x. test x ≡ false) (x ∷ xs)
  tested true is e later = absurd (omega (arith, e))
  tested false is e later = (is, later (omega (arith, e)))

one_counted : {A : Type 0} (test : A → Bool) (before : List A) (x : A) (after : List A) → count_by test (before ++ x ∷ after) ≡ 1 → test x ≡ true → AllByRecursion (λ x. test x ≡ false) (before ++ after)
one_counted test before x after e passes =
    let parts = sum_by-append (counts test) before (x ∷ after) in
    let here : count_by test (x ∷ after) ≡ 1 + count_by test after = sum_by-cons (counts test) x after ∙ ap (λ b. cond b 1 0 + count_by test after) passes in
    every-joined (λ x. test x ≡ false) before after (none_counted test before (omega (arith, parts, here, e))) (none_counted test after (omega (arith, parts, here, e)))

-- ---- the plain urgent edge

urgent_kind-is : (kind : EdgeKind) → is_urgent_kind kind ≡ true → kind ≡ Urgent
urgent_kind-is Urgent e = refl
urgent_kind-is kind e = cc

literal_true-is : (c : Expression) → is_literal_true c ≡ true → c ≡ Truth true
literal_true-is (Truth true) e = refl
literal_true-is c e = cc

plain_edge-is : (e : EventEdge) (second : ℕ) → is_plain e ≡ true → leads_to second e ≡ true → e ≡ urgent_edge second e.values
plain_edge-is e second plain leads = λ i. record {
  target = eqb-true e.target second leads i;
  values = e.values;
  condition = literal_true-is e.condition (and_second (is_urgent e) _ plain) i;
  kind = urgent_kind-is e.kind (and_first (is_urgent e) _ plain) i;
}

-- the plain urgent edge of a, which leads to the second vertex, among the others
pub record PlainEdge (a : EventVertex) (second : ℕ) : Type 0 where
  pub place : ℕ
  pub values : List Expression
  pub before : List EventEdge
  pub after : List EventEdge
  pub is : plain_urgent a ≡ Some place
  pub there : slice_get a.edges place ≡ Some (urgent_edge second values)
  pub whole : a.edges ≡ before ++ urgent_edge second values ∷ after
  pub rest : remove a.edges place ≡ before ++ after
  pub carries : values_at_once a ≡ values
  pub others : other_edges a ≡ before ++ after
  pub calm : AllByRecursion (λ e. is_urgent e ≡ false) (before ++ after)

counted_once : (b : Bool) (o : Option ℕ) (place : ℕ) → cond b o None ≡ Some place → (b ≡ true) × (o ≡ Some place)
counted_once true o place e = (refl, e)
counted_once false o place e = cc

plain_at : (a : EventVertex) (second place : ℕ) (e : EventEdge) → plain_urgent a ≡ Some place → slice_get a.edges place ≡ Some e → leads_to second e ≡ true → PlainEdge a second
plain_at a second place e is there leads =
    let (once, first) = counted_once (count_by is_urgent a.edges == 1) (position_from is_plain 0 a.edges) place is in
    let f = found is_plain a.edges 0 place first in
    let offset_is : f.offset ≡ place = (let o = f.offset_is in omega (arith, o)) in
    let same_edge : Some f.element ≡ Some e = sym f.there ∙ (ap (slice_get a.edges) offset_is ∙ there) in
    let same : f.element ≡ e = cc in
    let plain : is_plain e ≡ true = subst (λ e. is_plain e ≡ true) same f.passes in
    let r = around a.edges place e there in
    let edge_is = plain_edge-is e second plain leads in
    record {
      place = place;
      values = e.values;
      before = r.before;
      after = r.after;
      is = is;
      there = there ∙ ap (λ e. Some e) edge_is;
      whole = r.whole ∙ ap (λ e. r.before ++ e ∷ r.after) edge_is;
      rest = r.rest;
      carries = ap (λ o. option_map_or (λ (e : EventEdge). e.values) (option_and_then (slice_get a.edges) o) []) is ∙ ap (λ o. option_map_or (λ (e : EventEdge). e.values) o []) there;
      others = ap (λ o. option_map_or (remove a.edges) o a.edges) is ∙ r.rest;
      calm = one_counted is_urgent r.before e r.after (ap (count_by is_urgent) (sym r.whole) ∙ eqb-true (count_by is_urgent a.edges) 1 once) (and_first (is_urgent e) _ plain);
    }

pub plain_edge_of : (a : EventVertex) (second : ℕ) → option_map_or (leads_to second) (plain_urgent_edge a) false ≡ true → PlainEdge a second
plain_edge_of a second leads = at_place (plain_urgent a) refl leads where
  at_edge : (place : ℕ) → plain_urgent a ≡ Some place → (o : Option EventEdge) → slice_get a.edges place ≡ o → option_map_or (leads_to second) o false ≡ true → PlainEdge a second
  at_edge place is None there leads = cc
  at_edge place is (Some e) there leads = plain_at a second place e is there leads

  at_place : (o : Option ℕ) → plain_urgent a ≡ o → option_map_or (leads_to second) (option_and_then (slice_get a.edges) o) false ≡ true → PlainEdge a second
  at_place None is leads = cc
  at_place (Some place) is leads = at_edge place is (slice_get a.edges place) refl leads

-- the plain urgent edge draws no delay
pub plain_undrawn : (a : EventVertex) (place : ℕ) → plain_urgent a ≡ Some place → (e : EventEdge) → slice_get a.edges place ≡ Some e → has_drawn_delay e ≡ false
plain_undrawn a place is e there =
    let f = found is_plain a.edges 0 place (counted_once (count_by is_urgent a.edges == 1) (position_from is_plain 0 a.edges) place is).1 in
    let offset_is : f.offset ≡ place = (let o = f.offset_is in omega (arith, o)) in
    let same_edge : Some f.element ≡ Some e = sym f.there ∙ (ap (slice_get a.edges) offset_is ∙ there) in
    let same : f.element ≡ e = cc in
    ap (λ kind. option_map_or is_drawn (delay_given kind) false) (urgent_kind-is e.kind (and_first (is_urgent e) _ (subst (λ e. is_plain e ≡ true) same f.passes)))

pub plain_within : (a : EventVertex) (place : ℕ) → plain_urgent a ≡ Some place → place < length a.edges
plain_within a place is =
    let f = found is_plain a.edges 0 place (counted_once (count_by is_urgent a.edges == 1) (position_from is_plain 0 a.edges) place is).1 in
    let offset_is = f.offset_is in
    let below = is_there a.edges f.offset f.element f.there in
    omega (arith, offset_is, below)
