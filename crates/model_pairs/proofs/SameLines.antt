-- Models that declare the same write each note alike, so lines that are apart are those of looks that are apart.
use Rattle.std.proofs.Common.{◌≡◌, ◌==◌, ℕ, zero, suc, ℤ, Bool, true, false, cond, IsTrue, List, [], ◌∷◌, ◌++◌, map, Option, Some, None, refl, sym, ap, ap₂, ◌∙◌, subst, append-nil, append_assoc}
use Rattle.std.specs.Prelude.{slice_get, codes, decimal}
use Rattle.std.specs.List.{flat_map}
use Rattle.std.specs.Option.{option_map_or}
use Rattle.std.proofs.lemmas.Grind.{flat_map-append}
use lib.Pointwise.{bytes_decides}
use Rattle.model_core.specs.declared.model.Kind.{Kind}
use Rattle.model_core.specs.EventGraph.{EventGraph, Watched, WatchedVariable, WatchedVertex, watched_variables}
use Rattle.model_core.specs.Run.State.{variable_at}
use Rattle.model_core.specs.Run.Step.{vertex_at}
use Rattle.model_core.specs.Run.Same.{Begins, watched_name_of}
use Rattle.model_core.specs.Run.Machine.{Note, At, On, RunStatus, Ended, Stopped, Faulted, Going, Look, finished}
use Rattle.model_core.specs.Text.Lexing.{same_bytes}
use Rattle.model_core.specs.Text.Canonical.{watched_name}
use Rattle.model_core.specs.Text.HistoryText.{values_text, cells_text, watched_text, name_watched_at, note_line, end_line}
use Rattle.alike_laws.specs.DeclaredAlike.{Shape, shape_at, DeclaredAlike}
use Rattle.alike_laws.specs.LooksApart.{LooksApart, OtherEnds, FirstOver, SecondOver, OtherNotes}
use Rattle.model_pairs.specs.declared.lines_apart.LinesApart.{LinesApart}
use Rattle.model_pairs.specs.LinesOfTexts.{before_lines, lines_of, first_lines_apart}
use Rattle.model_pairs.specs.RunsApart.{shown_text}
use Rattle.model_pairs.proofs.LinesDeclared.{variable_named, vertex_named}

-- ---- a note has one line in both

module _ (g h : EventGraph) where
  cells_same : (v w : ℕ) → watched_name_of g (WatchedVariable v) ≡ watched_name_of h (WatchedVariable w) → shape_at g v ≡ shape_at h w → (cells : List ℤ) → cells_text (variable_at g v) cells ≡ cells_text (variable_at h w) cells
  cells_same v w names shapes cells =
      let name : (variable_at g v).name ≡ (variable_at h w).name = cc in
      ap₂ (λ (n : List ℕ) (k : Kind). codes " " ++ n ++ codes "=" ++ values_text k cells) name (ap (λ (s : Shape). s.kind) shapes)

  watched_lines : (xs ys : List Watched) → map (watched_name_of g) xs ≡ map (watched_name_of h) ys → map (shape_at g) (watched_variables xs) ≡ map (shape_at h) (watched_variables ys) → (values : List (List ℤ)) → watched_text g xs values ≡ watched_text h ys values
  watched_lines [] [] names shapes values = refl
  watched_lines [] (y ∷ ys) names shapes values = absurd cc
  watched_lines (x ∷ xs) [] names shapes values = absurd cc
  watched_lines (WatchedVariable v ∷ xs) (WatchedVertex w ∷ ys) names shapes values = absurd cc
  watched_lines (WatchedVertex v ∷ xs) (WatchedVariable w ∷ ys) names shapes values = absurd cc
  watched_lines (WatchedVertex v ∷ xs) (WatchedVertex w ∷ ys) names shapes values =
      let rest : map (watched_name_of g) xs ≡ map (watched_name_of h) ys = cc in
      watched_lines xs ys rest shapes values
  watched_lines (WatchedVariable v ∷ xs) (WatchedVariable w ∷ ys) names shapes [] = refl
  watched_lines (WatchedVariable v ∷ xs) (WatchedVariable w ∷ ys) names shapes (cells ∷ values) =
      let name : watched_name_of g (WatchedVariable v) ≡ watched_name_of h (WatchedVariable w) = cc in
      let rest : map (watched_name_of g) xs ≡ map (watched_name_of h) ys = cc in
      let shape : shape_at g v ≡ shape_at h w = cc in
      let others : map (shape_at g) (watched_variables xs) ≡ map (shape_at h) (watched_variables ys) = cc in
      ap₂ (λ a b. a ++ b) (cells_same v w name shape cells) (watched_lines xs ys rest others values)

  one_name : (x y : Watched) → watched_name_of g x ≡ watched_name_of h y → watched_name g x ≡ watched_name h y
  one_name (WatchedVariable v) (WatchedVariable w) e = let same : (variable_at g v).name ≡ (variable_at h w).name = cc in variable_named g v ∙ same ∙ sym (variable_named h w)
  one_name (WatchedVertex v) (WatchedVertex w) e = let same : (vertex_at g v).name ≡ (vertex_at h w).name = cc in vertex_named g v ∙ same ∙ sym (vertex_named h w)
  one_name (WatchedVariable v) (WatchedVertex w) e = absurd cc
  one_name (WatchedVertex v) (WatchedVariable w) e = absurd cc

  names_at : (xs ys : List Watched) → map (watched_name_of g) xs ≡ map (watched_name_of h) ys → (place : ℕ) → option_map_or (watched_name g) (slice_get xs place) [] ≡ option_map_or (watched_name h) (slice_get ys place) []
  names_at [] [] names place = refl
  names_at [] (y ∷ ys) names place = absurd cc
  names_at (x ∷ xs) [] names place = absurd cc
  names_at (x ∷ xs) (y ∷ ys) names zero = let same : watched_name_of g x ≡ watched_name_of h y = cc in one_name x y same
  names_at (x ∷ xs) (y ∷ ys) names (suc place) = let rest : map (watched_name_of g) xs ≡ map (watched_name_of h) ys = cc in names_at xs ys rest place

  note_same : DeclaredAlike g h → (note : Note) → note_line g note ≡ note_line h note
  note_same d (At t values) = ap (λ w. codes "at " ++ decimal t ++ w ++ codes "\n") (watched_lines g.watch h.watch d.watched d.shapes values)
  note_same d (On t place values) = ap₂ (λ n w. codes "on " ++ decimal t ++ codes " " ++ n ++ w ++ codes "\n") (names_at g.watch h.watch d.watched place) (watched_lines g.watch h.watch d.watched d.shapes values)

  notes_same : DeclaredAlike g h → (notes : List Note) → flat_map (note_line g) notes ≡ flat_map (note_line h) notes
  notes_same d [] = refl
  notes_same d (note ∷ notes) = ap₂ (λ a b. a ++ b) (note_same d note) (notes_same d notes)

-- ---- lines one after the other

-- a text whose last line is ended, with another behind it
ended_lines : (front behind : List ℕ) → lines_of ((front ++ (10 ∷ [])) ++ behind) ≡ lines_of (front ++ (10 ∷ [])) ++ lines_of behind
ended_lines [] behind = refl
ended_lines (byte ∷ front) behind = by (byte == 10) refl (ended_lines front behind) where
  before : (lines : List (List ℕ)) → lines_of (front ++ (10 ∷ [])) ≡ lines → before_lines byte (lines ++ lines_of behind) ≡ before_lines byte lines ++ lines_of behind
  before (line ∷ lines) e = refl
  before [] e = absurd (none front e) where
    none : (front : List ℕ) → lines_of (front ++ (10 ∷ [])) ≡ [] → ⊥
    none [] e = absurd cc
    none (b ∷ front) e = go (b == 10) (lines_of (front ++ (10 ∷ []))) e where
      go : (t : Bool) (lines : List (List ℕ)) → cond t ((b ∷ []) ∷ lines) (before_lines b lines) ≡ [] → ⊥
      go true lines e = absurd cc
      go false [] e = absurd cc
      go false (l ∷ lines) e = absurd cc

  by : (t : Bool) → (byte == 10) ≡ t → lines_of ((front ++ (10 ∷ [])) ++ behind) ≡ lines_of (front ++ (10 ∷ [])) ++ lines_of behind
      → cond t ((byte ∷ []) ∷ lines_of ((front ++ (10 ∷ [])) ++ behind)) (before_lines byte (lines_of ((front ++ (10 ∷ [])) ++ behind)))
      ≡ cond t ((byte ∷ []) ∷ lines_of (front ++ (10 ∷ []))) (before_lines byte (lines_of (front ++ (10 ∷ [])))) ++ lines_of behind
  by true e rest = ap (λ l. (byte ∷ []) ∷ l) rest
  by false e rest = ap (before_lines byte) rest ∙ before (lines_of (front ++ (10 ∷ []))) refl

note_ended : (g : EventGraph) (note : Note) → (front : List ℕ) × (note_line g note ≡ front ++ (10 ∷ []))
note_ended g (At t values) = (codes "at " ++ decimal t ++ watched_text g g.watch values, refl)
note_ended g (On t place values) = (codes "on " ++ decimal t ++ codes " " ++ name_watched_at g place ++ watched_text g g.watch values, refl)

-- the lines of notes come before those of what is behind them
lines_of_notes : (g : EventGraph) (notes : List Note) (behind : List ℕ) → lines_of (flat_map (note_line g) notes ++ behind) ≡ lines_of (flat_map (note_line g) notes) ++ lines_of behind
lines_of_notes g [] behind = refl
lines_of_notes g (note ∷ notes) behind =
    let (front, is) = note_ended g note in
    let later = flat_map (note_line g) notes in
    ap lines_of (append_assoc (note_line g note) later behind)
    ∙ ap (λ l. lines_of (l ++ (later ++ behind))) is ∙ ended_lines front (later ++ behind)
    ∙ ap (λ ls. lines_of (front ++ (10 ∷ [])) ++ ls) (lines_of_notes g notes behind)
    ∙ sym (append_assoc (lines_of (front ++ (10 ∷ []))) (lines_of later) (lines_of behind))
    ∙ ap (λ ls. ls ++ lines_of behind) (sym (ap (λ l. lines_of (l ++ later)) is ∙ ended_lines front later))

-- ---- no lines are apart of lists of which one begins the other

same_itself : (line : List ℕ) → same_bytes line line ≡ true
same_itself line = (bytes_decides line line).1 refl

none_apart : (place : ℕ) (xs rest : List (List ℕ)) → first_lines_apart place xs (xs ++ rest) ≡ None
none_apart place [] rest = refl
none_apart place (x ∷ xs) rest = ap (λ b. cond b (first_lines_apart (suc place) xs (xs ++ rest)) (Some (record { line = place; first = x; second = x }))) (same_itself x) ∙ none_apart (suc place) xs rest

none_apart_before : (place : ℕ) (xs rest : List (List ℕ)) → first_lines_apart place (xs ++ rest) xs ≡ None
none_apart_before place [] [] = refl
none_apart_before place [] (r ∷ rest) = refl
none_apart_before place (x ∷ xs) rest = ap (λ b. cond b (first_lines_apart (suc place) (xs ++ rest) xs) (Some (record { line = place; first = x; second = x }))) (same_itself x) ∙ none_apart_before (suc place) xs rest

-- ---- looks that are apart

module _ (g h : EventGraph) (d : DeclaredAlike g h) (until events : ℕ) (a b : Look) where
  abbrev pub Apart : Type 0
  Apart = (lines : LinesApart) → first_lines_apart 1 (lines_of (shown_text g until events a)) (lines_of (shown_text h until events b)) ≡ Some lines → ⊥

  no_lines : first_lines_apart 1 (lines_of (shown_text g until events a)) (lines_of (shown_text h until events b)) ≡ None → Apart
  no_lines none lines some = let wrong : ◌≡◌ {A = Option LinesApart} (Some lines) None = sym some ∙ none in cc

  -- looks that are the same
  same_looks : a ≡ b → Apart
  same_looks e = no_lines
      (let text : shown_text g until events a ≡ shown_text h until events b =
      ap (λ (l : Look). shown_text g until events l) e
      ∙ ap (λ n. n ++ cond (finished b.standing) (end_line until events b.standing) []) (notes_same g h d b.history) in
      ap (λ t. first_lines_apart 1 (lines_of t) (lines_of (shown_text h until events b))) text
      ∙ ap (first_lines_apart 1 (lines_of (shown_text h until events b))) (sym (append-nil (lines_of (shown_text h until events b))))
      ∙ none_apart 1 (lines_of (shown_text h until events b)) [])

  -- the second goes on and shows a front of what the first shows
  second_begins : b.standing ≡ Going → Begins b.history a.history → Apart
  second_begins goes (rest, e) = no_lines
      (let notes = flat_map (note_line h) b.history in
      let behind = flat_map (note_line g) rest ++ cond (finished a.standing) (end_line until events a.standing) [] in
      let first : shown_text g until events a ≡ flat_map (note_line g) b.history ++ behind =
      ap (λ n. flat_map (note_line g) n ++ cond (finished a.standing) (end_line until events a.standing) []) (sym e)
      ∙ ap (λ t. t ++ cond (finished a.standing) (end_line until events a.standing) []) (flat_map-append (note_line g) b.history rest)
      ∙ append_assoc (flat_map (note_line g) b.history) (flat_map (note_line g) rest) (cond (finished a.standing) (end_line until events a.standing) []) in
      let second : shown_text h until events b ≡ notes = ap (λ s. notes ++ cond (finished s) (end_line until events s) []) goes ∙ append-nil notes in
      ap₂ (λ s t. first_lines_apart 1 (lines_of s) (lines_of t)) first second
      ∙ ap (λ ls. first_lines_apart 1 ls (lines_of notes)) (lines_of_notes g b.history behind)
      ∙ ap (λ t. first_lines_apart 1 (lines_of t ++ lines_of behind) (lines_of notes)) (notes_same g h d b.history)
      ∙ none_apart_before 1 (lines_of notes) (lines_of behind))

  -- the first goes on and shows a front of what the second shows
  first_begins : a.standing ≡ Going → Begins a.history b.history → Apart
  first_begins goes (rest, e) = no_lines
      (let notes = flat_map (note_line g) a.history in
      let behind = flat_map (note_line h) rest ++ cond (finished b.standing) (end_line until events b.standing) [] in
      let second : shown_text h until events b ≡ flat_map (note_line h) a.history ++ behind =
      ap (λ n. flat_map (note_line h) n ++ cond (finished b.standing) (end_line until events b.standing) []) (sym e)
      ∙ ap (λ t. t ++ cond (finished b.standing) (end_line until events b.standing) []) (flat_map-append (note_line h) a.history rest)
      ∙ append_assoc (flat_map (note_line h) a.history) (flat_map (note_line h) rest) (cond (finished b.standing) (end_line until events b.standing) []) in
      let first : shown_text g until events a ≡ notes = ap (λ s. notes ++ cond (finished s) (end_line until events s) []) goes ∙ append-nil notes in
      ap₂ (λ s t. first_lines_apart 1 (lines_of s) (lines_of t)) first second
      ∙ ap (first_lines_apart 1 (lines_of notes)) (lines_of_notes h a.history behind)
      ∙ ap (λ t. first_lines_apart 1 (lines_of notes) (lines_of t ++ lines_of behind)) (sym (notes_same g h d a.history))
      ∙ none_apart 1 (lines_of notes) (lines_of behind))

  -- lines that are apart are those of looks that are apart
  pub looks_apart : (lines : LinesApart) → first_lines_apart 1 (lines_of (shown_text g until events a)) (lines_of (shown_text h until events b)) ≡ Some lines → LooksApart a b
  looks_apart lines some = by a.standing b.standing refl refl where
    over : (l : Look) {s : RunStatus} → l.standing ≡ s → IsTrue (finished s) → IsTrue (finished l.standing)
    over l e fin = subst (λ s. IsTrue (finished s)) (sym e) fin

    by : (s t : RunStatus) → a.standing ≡ s → b.standing ≡ t → LooksApart a b
    by Going Going p q = OtherNotes p q (λ begins. first_begins p begins lines some) (λ begins. second_begins q begins lines some)
    by Going (Ended u) p q = SecondOver p (over b q refl) (λ begins. first_begins p begins lines some)
    by Going Stopped p q = SecondOver p (over b q refl) (λ begins. first_begins p begins lines some)
    by Going (Faulted u kind) p q = SecondOver p (over b q refl) (λ begins. first_begins p begins lines some)
    by (Ended u) Going p q = FirstOver (over a p refl) q (λ begins. second_begins q begins lines some)
    by Stopped Going p q = FirstOver (over a p refl) q (λ begins. second_begins q begins lines some)
    by (Faulted u kind) Going p q = FirstOver (over a p refl) q (λ begins. second_begins q begins lines some)
    by s t p q = OtherEnds (over a p refl) (over b q refl) (λ e. same_looks e lines some)
