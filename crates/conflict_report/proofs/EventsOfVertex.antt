-- The pending events of one vertex, in order: what cancelling and scheduling do to them, by these events alone.
use Rattle.std.proofs.Common.{◌≡◌, ℕ, ◌==◌, Bool, true, false, not, cond, List, [], ◌∷◌, ◌++◌, filter, Option, Some, None, option_map, unwrap_or, refl, sym, ◌∙◌, ap, append-nil}
use Rattle.std.proofs.lemmas.List.Elements.{filter-append}
use Rattle.std.specs.List.{AllByRecursion}
use Rattle.model_core.specs.Run.Pending.{Entry, EntryAndRest, sooner, staying, next_or_first, next_among, is_of, is_event_with, without_next, without_all}
use Rattle.conflict_report.proofs.OtherVertices.{other-vertex, same-vertex, other-with_values}
use Rattle.conflict_report.proofs.ListEdits.{ListEdit, AddsEvent, CutsNext, CutsEqual, CutsAll, deed_vertex, after_edit, after_edits}

-- ---- a test within a filter

module _ (keep test : Entry → Bool) where
  -- an entry taken off, and what the filter keeps of the others
  abbrev kept_off : EntryAndRest → EntryAndRest
  kept_off n = record { entry = n.entry; others = filter keep n.others }

  staying-kept : (e : Entry) → keep e ≡ true → (n : EntryAndRest) → staying e (kept_off n) ≡ kept_off (staying e n)
  staying-kept e is n = ap (λ (c : Bool). let r : EntryAndRest = record { entry = n.entry; others = cond c (e ∷ filter keep n.others) (filter keep n.others) } in r) (sym is)

  staying-left_out : (e : Entry) → keep e ≡ false → (n : EntryAndRest) → kept_off n ≡ kept_off (staying e n)
  staying-left_out e is n = ap (λ (c : Bool). let r : EntryAndRest = record { entry = n.entry; others = cond c (e ∷ filter keep n.others) (filter keep n.others) } in r) (sym is)

  chosen-kept : (e : Entry) → keep e ≡ true → (es : List Entry) (n : EntryAndRest) (c : Bool) → cond c (staying e (kept_off n)) (record { entry = e; others = filter keep es }) ≡ kept_off (cond c (staying e n) (record { entry = e; others = es }))
  chosen-kept e is es n true = staying-kept e is n
  chosen-kept e is es n false = refl

  chosen_next-kept : (e : Entry) → keep e ≡ true → (es : List Entry) (c : Bool) (o : Option EntryAndRest) → cond c (next_or_first e (filter keep es) (option_map kept_off o)) (option_map (staying e) (option_map kept_off o)) ≡ option_map kept_off (cond c (next_or_first e es o) (option_map (staying e) o))
  chosen_next-kept e is es true None = refl
  chosen_next-kept e is es true (Some n) = ap (λ (n : EntryAndRest). Some n) (chosen-kept e is es n (sooner n.entry e))
  chosen_next-kept e is es false None = refl
  chosen_next-kept e is es false (Some n) = ap (λ (n : EntryAndRest). Some n) (staying-kept e is n)

  staying_next-left_out : (e : Entry) → keep e ≡ false → (o : Option EntryAndRest) → option_map kept_off o ≡ option_map kept_off (option_map (staying e) o)
  staying_next-left_out e is None = refl
  staying_next-left_out e is (Some n) = ap (λ (n : EntryAndRest). Some n) (staying-left_out e is n)

  -- what passes the test is kept
  module _ (within : (e : Entry) → keep e ≡ false → test e ≡ false) where
    next_among-filter : (es : List Entry) → next_among test (filter keep es) ≡ option_map kept_off (next_among test es)
    next_among-filter [] = refl
    next_among-filter (e ∷ es) = by (keep e) refl (next_among-filter es) where
      by : (c : Bool) → keep e ≡ c → next_among test (filter keep es) ≡ option_map kept_off (next_among test es) → next_among test (cond c (e ∷ filter keep es) (filter keep es)) ≡ option_map kept_off (cond (test e) (next_or_first e es (next_among test es)) (option_map (staying e) (next_among test es)))
      by true is later =
          ap (λ (o : Option EntryAndRest). cond (test e) (next_or_first e (filter keep es) o) (option_map (staying e) o)) later ∙ chosen_next-kept e is es (test e) (next_among test es)
      by false is later =
          later ∙ staying_next-left_out e is (next_among test es) ∙ ap (λ (c : Bool). option_map kept_off (cond c (next_or_first e es (next_among test es)) (option_map (staying e) (next_among test es)))) (sym (within e is))

    others-kept : (o : Option EntryAndRest) (es : List Entry) → unwrap_or (option_map (λ n. n.others) (option_map kept_off o)) (filter keep es) ≡ filter keep (unwrap_or (option_map (λ n. n.others) o) es)
    others-kept None es = refl
    others-kept (Some n) es = refl

    without_next-filter : (es : List Entry) → filter keep (without_next test es) ≡ without_next test (filter keep es)
    without_next-filter es = sym (ap (λ (o : Option EntryAndRest). unwrap_or (option_map (λ n. n.others) o) (filter keep es)) (next_among-filter es) ∙ others-kept (next_among test es) es)

  -- what is kept passes no test
  module _ (outside : (e : Entry) → keep e ≡ true → test e ≡ false) where
    -- what is taken off leaves of the list what the filter keeps
    abbrev Leaves : List Entry → Option EntryAndRest → Type 0
    Leaves es None = Unit {0}
    Leaves es (Some n) = filter keep n.others ≡ filter keep es

    not-kept : (e : Entry) → test e ≡ true → keep e ≡ false
    not-kept e passes = by (keep e) refl where
      by : (c : Bool) → keep e ≡ c → c ≡ false
      by true is = let fails = outside e is in cc
      by false is = refl

    left-out : (e : Entry) (es : List Entry) → test e ≡ true → filter keep es ≡ filter keep (e ∷ es)
    left-out e es passes = ap (λ (c : Bool). cond c (e ∷ filter keep es) (filter keep es)) (sym (not-kept e passes))

    next_or_staying-leaves : (e : Entry) (es : List Entry) (c : Bool) → test e ≡ c → (o : Option EntryAndRest) → Leaves es o → Leaves (e ∷ es) (cond c (next_or_first e es o) (option_map (staying e) o))
    next_or_staying-leaves e es true is None same = left-out e es is
    next_or_staying-leaves e es true is (Some n) same = chosen (sooner n.entry e) where
      chosen : (c : Bool) → filter keep (cond c (staying e n) (record { entry = e; others = es })).others ≡ filter keep (e ∷ es)
      chosen true = ap (λ (es : List Entry). cond (keep e) (e ∷ es) es) same
      chosen false = left-out e es is
    next_or_staying-leaves e es false is None same = tt
    next_or_staying-leaves e es false is (Some n) same = ap (λ (es : List Entry). cond (keep e) (e ∷ es) es) same

    next_among-leaves : (es : List Entry) → Leaves es (next_among test es)
    next_among-leaves [] = tt
    next_among-leaves (e ∷ es) = next_or_staying-leaves e es (test e) refl (next_among test es) (next_among-leaves es)

    without_next-outside : (es : List Entry) → filter keep (without_next test es) ≡ filter keep es
    without_next-outside es = by (next_among test es) (next_among-leaves es) where
      by : (o : Option EntryAndRest) → Leaves es o → filter keep (unwrap_or (option_map (λ n. n.others) o) es) ≡ filter keep es
      by None same = refl
      by (Some n) same = same

    without_all-outside : (es : List Entry) → filter keep (without_all test es) ≡ filter keep es
    without_all-outside [] = refl
    without_all-outside (e ∷ es) = by (test e) refl (without_all-outside es) where
      by : (c : Bool) → test e ≡ c → filter keep (without_all test es) ≡ filter keep es → filter keep (cond (not c) (e ∷ without_all test es) (without_all test es)) ≡ filter keep (e ∷ es)
      by true is later = later ∙ left-out e es is
      by false is later = ap (λ (es : List Entry). cond (keep e) (e ∷ es) es) later

-- two filters in either order
filters-turned : (p q : Entry → Bool) (es : List Entry) → filter p (filter q es) ≡ filter q (filter p es)
filters-turned p q [] = refl
filters-turned p q (e ∷ es) = by (p e) (q e) refl refl (filters-turned p q es) where
  by : (c d : Bool) → p e ≡ c → q e ≡ d → filter p (filter q es) ≡ filter q (filter p es) → filter p (cond d (e ∷ filter q es) (filter q es)) ≡ filter q (cond c (e ∷ filter p es) (filter p es))
  by true true is other later =
      ap (λ (c : Bool). cond c (e ∷ filter p (filter q es)) (filter p (filter q es))) is ∙ ap (λ (es : List Entry). e ∷ es) later ∙ ap (λ (c : Bool). cond c (e ∷ filter q (filter p es)) (filter q (filter p es))) (sym other)
  by true false is other later = later ∙ ap (λ (c : Bool). cond c (e ∷ filter q (filter p es)) (filter q (filter p es))) (sym other)
  by false true is other later = ap (λ (c : Bool). cond c (e ∷ filter p (filter q es)) (filter p (filter q es))) is ∙ later
  by false false is other later = later

-- ---- the events of a vertex

module _ (vertex : ℕ) where
  abbrev pub of_vertex : List Entry → List Entry
  of_vertex pending = filter (is_of vertex) pending

  -- the deed neither adds nor cancels events of the vertex
  abbrev pub Elsewhere : ListEdit → Type 0
  Elsewhere x = (deed_vertex x == vertex) ≡ false

  -- the deed adds or cancels events of the vertex
  abbrev Here : ListEdit → Type 0
  Here x = (deed_vertex x == vertex) ≡ true

  pub after_edit-elsewhere : (x : ListEdit) → Elsewhere x → (pending : List Entry) → of_vertex (after_edit x pending) ≡ of_vertex pending
  after_edit-elsewhere (AddsEvent e) away pending =
      filter-append (is_of vertex) pending (e ∷ []) ∙ ap (λ (c : Bool). of_vertex pending ++ cond c (e ∷ []) []) away ∙ append-nil (of_vertex pending)
  after_edit-elsewhere (CutsNext v) away pending = without_next-outside (is_of vertex) (is_of v) (λ e own. other-vertex vertex v e.vertex away own) pending
  after_edit-elsewhere (CutsEqual v values) away pending = without_next-outside (is_of vertex) (is_event_with v values) (λ e own. other-with_values v values e (other-vertex vertex v e.vertex away own)) pending
  after_edit-elsewhere (CutsAll v) away pending = without_all-outside (is_of vertex) (is_of v) (λ e own. other-vertex vertex v e.vertex away own) pending

  after_edit-here : (x : ListEdit) → Here x → (pending : List Entry) → of_vertex (after_edit x pending) ≡ after_edit x (of_vertex pending)
  after_edit-here (AddsEvent e) own pending = filter-append (is_of vertex) pending (e ∷ []) ∙ ap (λ (c : Bool). of_vertex pending ++ cond c (e ∷ []) []) own
  after_edit-here (CutsNext v) own pending = without_next-filter (is_of vertex) (is_of v) (λ e apart. same-vertex vertex v e.vertex own apart) pending
  after_edit-here (CutsEqual v values) own pending = without_next-filter (is_of vertex) (is_event_with v values) (λ e apart. other-with_values v values e (same-vertex vertex v e.vertex own apart)) pending
  after_edit-here (CutsAll v) own pending = filters-turned (is_of vertex) (λ e. not (is_of v e)) pending

  -- a deed does the same to lists that hold the same events of the vertex
  here-alike : (x : ListEdit) → Here x → (p q : List Entry) → of_vertex p ≡ of_vertex q → of_vertex (after_edit x p) ≡ of_vertex (after_edit x q)
  here-alike x own p q same = after_edit-here x own p ∙ ap (after_edit x) same ∙ sym (after_edit-here x own q)

  elsewhere-alike : (x : ListEdit) → Elsewhere x → (p q : List Entry) → of_vertex p ≡ of_vertex q → of_vertex (after_edit x p) ≡ of_vertex (after_edit x q)
  elsewhere-alike x away p q same = after_edit-elsewhere x away p ∙ same ∙ sym (after_edit-elsewhere x away q)

  after_edit-alike : (x : ListEdit) (p q : List Entry) → of_vertex p ≡ of_vertex q → of_vertex (after_edit x p) ≡ of_vertex (after_edit x q)
  after_edit-alike x p q same = by (deed_vertex x == vertex) refl where
    by : (c : Bool) → (deed_vertex x == vertex) ≡ c → of_vertex (after_edit x p) ≡ of_vertex (after_edit x q)
    by true is = here-alike x is p q same
    by false is = elsewhere-alike x is p q same

  pub after_edits-elsewhere : (deeds : List ListEdit) → AllByRecursion Elsewhere deeds → (pending : List Entry) → of_vertex (after_edits deeds pending) ≡ of_vertex pending
  after_edits-elsewhere [] away pending = refl
  after_edits-elsewhere (x ∷ deeds) (now, away) pending = after_edits-elsewhere deeds away (after_edit x pending) ∙ after_edit-elsewhere x now pending

  pub after_edits-alike : (deeds : List ListEdit) (p q : List Entry) → of_vertex p ≡ of_vertex q → of_vertex (after_edits deeds p) ≡ of_vertex (after_edits deeds q)
  after_edits-alike [] p q same = same
  after_edits-alike (x ∷ deeds) p q same = after_edits-alike deeds (after_edit x p) (after_edit x q) (after_edit-alike x p q same)
