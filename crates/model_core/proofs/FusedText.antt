-- The canonical text of a model in which one vertex replaces another: that of the model as it is, with the one named
-- in place of the other, and without the lines of the other.
use Rattle.std.proofs.Common.{◌≡◌, ℕ, ◌<◌, false, List, [], ◌∷◌, ◌++◌, map, Option, refl, sym, ◌∙◌, ap, ap₂}
use Rattle.std.specs.Prelude.{codes}
use Rattle.std.specs.List.{AllByRecursion, flat_map, remove}
use Rattle.std.specs.Option.{option_map_or}
use Rattle.model_core.specs.EventGraph.{EventGraph, EventVertex, EventEdge, Watched, WatchedVariable, WatchedVertex}
use Rattle.model_core.specs.Run.History.{watches}
use Rattle.model_core.specs.Text.Canonical.{variable_name, vertex_name, expression_texts, in_parentheses, timing_text, condition_text, edge_word, edge_line, change_line, vertex_lines, variable_line, table_line, watched_name, watch_names_line}
use Rattle.model_core.specs.Rules.Drop.{edge_renumbered, vertex_renumbered, watched_renumbered}
use Rattle.model_core.specs.Rules.Fuse.{standing_for, fused_place, fused}
use Rattle.model_core.specs.Rules.Merge.{is_watched_vertex}
use Rattle.model_core.proofs.EachOne.{every-fails}
use Rattle.model_core.proofs.Images.{shown-map}
use Rattle.model_core.proofs.FusedPlaces.{standing-itself, fused-get}

-- the lines of images, each of which is the line of its element
lines-map : {A : Type 0} (old new : A → List ℕ) (f : A → A) → ((x : A) → new (f x) ≡ old x) → (xs : List A) → flat_map new (map f xs) ≡ flat_map old xs
lines-map old new f same [] = refl
lines-map old new f same (x ∷ xs) = ap₂ (λ a b. a ++ b) (same x) (lines-map old new f same xs)

module _ (g : EventGraph) (keep gone : ℕ) (first : keep < gone) where
  abbrev h : EventGraph
  h = fused g keep gone

  abbrev f : ℕ → ℕ
  f = fused_place keep gone

  abbrev s : ℕ → ℕ
  s = standing_for keep gone

  name_same : (k : ℕ) → vertex_name h (f k) ≡ vertex_name g (s k)
  name_same k =
      shown-map (λ (v : EventVertex). v.name) (vertex_renumbered f) [] (λ v. refl) (remove g.vertices gone) (f k)
      ∙ ap (λ (o : Option EventVertex). option_map_or (λ (v : EventVertex). v.name) o []) (fused-get keep gone first g.vertices k)

  edge_same : (e : EventEdge) → edge_line h (edge_renumbered f e) ≡ edge_line g (edge_renumbered s e)
  edge_same e = ap (λ (name : List ℕ). edge_word e.kind ++ name ++ in_parentheses (expression_texts g e.values) ++ timing_text g e.kind ++ condition_text g e.condition ++ codes ";\n") (name_same e.target)

  edges_same : (es : List EventEdge) → flat_map (edge_line h) (map (edge_renumbered f) es) ≡ flat_map (edge_line g) (map (edge_renumbered s) es)
  edges_same [] = refl
  edges_same (e ∷ es) = ap₂ (λ a b. a ++ b) (edge_same e) (edges_same es)

  vertex_same : (v : EventVertex) → vertex_lines h (vertex_renumbered f v) ≡ vertex_lines g (vertex_renumbered s v)
  vertex_same v = ap (λ (lines : List ℕ). codes "vertex " ++ v.name ++ in_parentheses (map (variable_name g) v.parameters) ++ codes " {\n" ++ flat_map (change_line g) v.changes ++ lines ++ codes "}\n") (edges_same v.edges)

  pub same_lines : flat_map (λ v. vertex_lines g (vertex_renumbered s v)) (remove g.vertices gone) ≡ flat_map (vertex_lines h) h.vertices
  same_lines = sym (lines-map (λ v. vertex_lines g (vertex_renumbered s v)) (vertex_lines h) (vertex_renumbered f) vertex_same (remove g.vertices gone))

  watched_same : (w : Watched) → watches gone w ≡ false → watched_name h (watched_renumbered f w) ≡ watched_name g w
  watched_same (WatchedVariable v) apart = refl
  watched_same (WatchedVertex v) apart = name_same v ∙ ap (vertex_name g) (standing-itself keep gone first v apart)

  watch_same : (watch : List Watched) → AllByRecursion (λ w. watches gone w ≡ false) watch → map (watched_name g) watch ≡ map (watched_name h) (map (watched_renumbered f) watch)
  watch_same [] all = refl
  watch_same (w ∷ watch) all = ap₂ (λ t ts. t ∷ ts) (sym (watched_same w all.0)) (watch_same watch all.1)

  abbrev declared : List (List ℕ) → List ℕ
  declared watched = codes "model " ++ g.name ++ codes ";\n" ++ flat_map variable_line g.variables ++ flat_map table_line g.tables ++ watch_names_line watched

  pub same_declarations : is_watched_vertex g gone ≡ false → declared (map (watched_name g) g.watch) ≡ declared (map (watched_name h) h.watch)
  same_declarations unwatched = ap declared (watch_same g.watch (every-fails (watches gone) g.watch unwatched))
