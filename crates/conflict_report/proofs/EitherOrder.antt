-- Two lists of deeds, done in either order, leave each entry equally often, where neither cancels events of a vertex on which
-- the other has deeds.
use Rattle.std.proofs.Common.{◌≡◌, ℕ, ◌+◌, ◌==◌, Bool, true, false, cond, ◌&&◌, List, [], ◌∷◌, refl, sym, ◌∙◌, ap, arith}
use Rattle.std.proofs.lemmas.List.Sums.{sum_by-cons, sum_by-append}
use Rattle.std.specs.List.{AllByRecursion}
use Rattle.model_core.specs.Run.Pending.{Entry, is_of, same_values}
use Rattle.model_core.specs.Conflicts.Orders.{same_entry, times_pending}
use Rattle.conflict_report.proofs.ListEdits.{ListEdit, AddsEvent, CutsNext, CutsEqual, CutsAll, CutsOthers, after_edit, after_edits}
use Rattle.conflict_report.proofs.EventsOfVertex.{of_vertex, Elsewhere, after_edit-elsewhere, after_edits-elsewhere, after_edits-alike}

module _ (x : Entry) where
  -- one where the test is true
  abbrev times_one : Entry → ℕ
  times_one e = cond (same_entry x e) 1 0

  none-true : (a b c : Bool) → (a && b && (false && c)) ≡ false
  none-true true true c = refl
  none-true true false c = refl
  none-true false b c = refl

  other-entry : (e : Entry) → is_of x.vertex e ≡ false → same_entry x e ≡ false
  other-entry e is =
      ap (λ (b : Bool). (x.time == e.time) && (x.priority == e.priority) && (b && same_values e.values x.values)) is ∙ none-true (x.time == e.time) (x.priority == e.priority) (same_values e.values x.values)

  -- an entry is counted among the events of its vertex
  times-of_vertex : (es : List Entry) → times_pending x es ≡ times_pending x (of_vertex x.vertex es)
  times-of_vertex [] = refl
  times-of_vertex (e ∷ es) = sum_by-cons times_one e es ∙ by (is_of x.vertex e) refl (times-of_vertex es) where
    by : (c : Bool) → is_of x.vertex e ≡ c → times_pending x es ≡ times_pending x (of_vertex x.vertex es) → times_one e + times_pending x es ≡ times_pending x (cond c (e ∷ of_vertex x.vertex es) (of_vertex x.vertex es))
    by true is later = ap (λ n. times_one e + n) later ∙ sym (sum_by-cons times_one e (of_vertex x.vertex es))
    by false is later = ap (λ (c : Bool). cond c 1 0 + times_pending x es) (other-entry e is) ∙ zero-plus (times_pending x es) ∙ later where
      zero-plus : (n : ℕ) → 0 + n ≡ n
      zero-plus n = omega arith

  -- lists with the same events of its vertex
  times-alike : (es fs : List Entry) → of_vertex x.vertex es ≡ of_vertex x.vertex fs → times_pending x es ≡ times_pending x fs
  times-alike es fs same = times-of_vertex es ∙ ap (times_pending x) same ∙ sym (times-of_vertex fs)

  -- ---- deeds that cancel none of them

  plus-zero : (n : ℕ) → n ≡ n + 0
  plus-zero n = omega arith

  cut-adds : (d : ListEdit) → Elsewhere x.vertex d → times_pending x (after_edit d []) ≡ 0 → (p : List Entry) → times_pending x (after_edit d p) ≡ times_pending x p + times_pending x (after_edit d [])
  cut-adds d away none p = times-alike (after_edit d p) p (after_edit-elsewhere x.vertex d away p) ∙ plus-zero (times_pending x p) ∙ ap (λ n. times_pending x p + n) (sym none)

  -- as many more as to the empty list
  after_edit-adds : (d : ListEdit) → CutsOthers x.vertex d → (p : List Entry) → times_pending x (after_edit d p) ≡ times_pending x p + times_pending x (after_edit d [])
  after_edit-adds (AddsEvent e) cuts p = sum_by-append times_one p (e ∷ [])
  after_edit-adds (CutsNext v) cuts p = cut-adds (CutsNext v) cuts refl p
  after_edit-adds (CutsEqual v values) cuts p = cut-adds (CutsEqual v values) cuts refl p
  after_edit-adds (CutsAll v) cuts p = cut-adds (CutsAll v) cuts refl p

  after_edits-adds : (deeds : List ListEdit) → AllByRecursion (CutsOthers x.vertex) deeds → (p : List Entry) → times_pending x (after_edits deeds p) ≡ times_pending x p + times_pending x (after_edits deeds [])
  after_edits-adds [] cuts p = plus-zero (times_pending x p)
  after_edits-adds (d ∷ deeds) (now, cuts) p =
      let here = after_edit-adds d now p in
      let later = after_edits-adds deeds cuts (after_edit d p) in
      let from_none = after_edits-adds deeds cuts (after_edit d []) in
      omega arith

  -- ---- two lists of deeds

  -- one of them has no deed on the events of the entry's vertex, or neither cancels them
  pub data DeedsAside (ds es : List ListEdit) : Type 0 where
    first_elsewhere : AllByRecursion (Elsewhere x.vertex) ds → DeedsAside ds es
    second_elsewhere : AllByRecursion (Elsewhere x.vertex) es → DeedsAside ds es
    no_cuts : AllByRecursion (CutsOthers x.vertex) ds → AllByRecursion (CutsOthers x.vertex) es → DeedsAside ds es

  beside-elsewhere : (ds es : List ListEdit) → AllByRecursion (Elsewhere x.vertex) ds → (p : List Entry) → times_pending x (after_edits es (after_edits ds p)) ≡ times_pending x (after_edits ds (after_edits es p))
  beside-elsewhere ds es away p =
      times-alike (after_edits es (after_edits ds p)) (after_edits ds (after_edits es p)) (after_edits-alike x.vertex es (after_edits ds p) p (after_edits-elsewhere x.vertex ds away p) ∙ sym (after_edits-elsewhere x.vertex ds away (after_edits es p)))

  pub either-order : (ds es : List ListEdit) → DeedsAside ds es → (p : List Entry) → times_pending x (after_edits es (after_edits ds p)) ≡ times_pending x (after_edits ds (after_edits es p))
  either-order ds es (first_elsewhere away) p = beside-elsewhere ds es away p
  either-order ds es (second_elsewhere away) p = sym (beside-elsewhere es ds away p)
  either-order ds es (no_cuts cuts others) p =
      let a = after_edits-adds es others (after_edits ds p) in
      let b = after_edits-adds ds cuts p in
      let c = after_edits-adds ds cuts (after_edits es p) in
      let d = after_edits-adds es others p in
      omega arith
