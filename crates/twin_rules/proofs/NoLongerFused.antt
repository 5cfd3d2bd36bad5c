-- Where the vertex that is kept has no longer name than the one that goes, fusing makes no longer text.
use Rattle.std.proofs.Common.{◌≡◌, ℕ, zero, suc, ◌<◌, ◌≤◌, ◌==◌, nat_le, Bool, true, false, cond, List, [], ◌∷◌, ◌++◌, map, length, refl, sym, subst, arith}
use Rattle.std.proofs.lemmas.Bool.Decides.{nat_tests}
use Rattle.std.proofs.lemmas.List.{append_cancel_left}
use Rattle.std.specs.Prelude.{codes}
use Rattle.std.specs.List.{flat_map, remove}
use Rattle.std.proofs.lemmas.Bool.{eqb-true}
use Rattle.sig_base.specs.declared.limits.TheConstants.{TEXT_MAX}
use Rattle.model_core.specs.EventGraph.{EventGraph, EventVertex, EventEdge}
use Rattle.model_core.specs.Text.Canonical.{variable_name, vertex_name, expression_texts, in_parentheses, timing_text, condition_text, edge_word, edge_line, change_line, vertex_lines, variable_line, table_line, watched_name, watch_names_line, canonical}
use Rattle.model_core.specs.Rules.Drop.{edge_renumbered, vertex_renumbered}
use Rattle.model_core.specs.Rules.Fuse.{standing_for, fused_place, fused, has_short_text}
use Rattle.model_core.specs.Rules.Merge.{is_watched_vertex}
use Rattle.model_core.proofs.NoLongerTexts.{NoLonger, no_longer-after, no_longer-before, no_longer-same, no_longer-both, no_longer-each}
use Rattle.model_core.proofs.FusedText.{same_declarations, same_lines}
use Rattle.round_trip.proofs.VersionsKept.{NeedsNoMore, needed-kept, declared-shorter}
use Rattle.twin_rules.proofs.ValidFused.{some-remove}

lines-fewer : {A : Type 0} (old new : A → List ℕ) → ((x : A) → NoLonger (new x) (old x)) → (xs : List A) (k : ℕ) → NoLonger (flat_map new (remove xs k)) (flat_map old xs)
lines-fewer old new shorter [] zero = record { at_most = omega arith }
lines-fewer old new shorter [] (suc k) = record { at_most = omega arith }
lines-fewer old new shorter (x ∷ xs) zero = no_longer-both (let e : NoLonger [] (old x) = record { at_most = omega arith } in e) (no_longer-each old new shorter xs)
lines-fewer old new shorter (x ∷ xs) (suc k) = no_longer-both (shorter x) (lines-fewer old new shorter xs k)

module _ (g : EventGraph) (keep gone : ℕ) (first : keep < gone) (unwatched : is_watched_vertex g gone ≡ false) (names : length (vertex_name g keep) ≤ length (vertex_name g gone)) where
  abbrev h : EventGraph
  h = fused g keep gone

  abbrev s : ℕ → ℕ
  s = standing_for keep gone

  name-shorter : (k : ℕ) → NoLonger (vertex_name g (s k)) (vertex_name g k)
  name-shorter k = by (k == gone) refl where
    by : (b : Bool) → (k == gone) ≡ b → NoLonger (vertex_name g (cond b keep k)) (vertex_name g k)
    by true is = record { at_most = subst (λ n. length (vertex_name g keep) ≤ length (vertex_name g n)) (sym (eqb-true k gone is)) names }
    by false is = record { at_most = omega arith }

  edge-shorter : (e : EventEdge) → NoLonger (edge_line g (edge_renumbered s e)) (edge_line g e)
  edge-shorter e =
      no_longer-before (codes ";\n") (no_longer-before (condition_text g e.condition) (no_longer-before (timing_text g e.kind) (no_longer-before (in_parentheses (expression_texts g e.values)) (no_longer-after (edge_word e.kind) (name-shorter e.target)))))

  lines-map : (es : List EventEdge) → NoLonger (flat_map (edge_line g) (map (edge_renumbered s) es)) (flat_map (edge_line g) es)
  lines-map [] = record { at_most = omega arith }
  lines-map (e ∷ es) = no_longer-both (edge-shorter e) (lines-map es)

  vertex-shorter : (v : EventVertex) → NoLonger (vertex_lines g (vertex_renumbered s v)) (vertex_lines g v)
  vertex-shorter v =
      no_longer-before (codes "}\n") (no_longer-after (codes "vertex " ++ v.name ++ in_parentheses (map (variable_name g) v.parameters) ++ codes " {\n" ++ flat_map (change_line g) v.changes) (lines-map v.edges))

  needs-no_more : NeedsNoMore h g
  needs-no_more = needed-kept g (remove g.vertices gone) (fused_place keep gone) h.watch (some-remove g.vertices gone)

  watch-same : watch_names_line (map (watched_name h) h.watch) ≡ watch_names_line (map (watched_name g) g.watch)
  watch-same =
      append_cancel_left (codes "model " ++ g.name ++ codes ";\n" ++ flat_map variable_line g.variables ++ flat_map table_line g.tables) (watch_names_line (map (watched_name h) h.watch)) (watch_names_line (map (watched_name g) g.watch))
      (sym (same_declarations g keep gone first unwatched))

  pub canonical-shorter : length (canonical h) ≤ length (canonical g)
  canonical-shorter =
      (no_longer-before (codes "end\n") (no_longer-both
      (no_longer-both (declared-shorter h g needs-no_more g.name (flat_map variable_line g.variables) (flat_map table_line g.tables)) (no_longer-same _ _ watch-same))
      (subst (λ (lines : List ℕ). NoLonger lines (flat_map (vertex_lines g) g.vertices)) (same_lines g keep gone first) (lines-fewer (vertex_lines g) (λ v. vertex_lines g (vertex_renumbered s v)) vertex-shorter g.vertices gone)))).at_most

  no_more : (a b limit : ℕ) → a ≤ b → nat_le b limit ≡ true → nat_le a limit ≡ true
  no_more a b limit less within = grind (arith, nat_tests)

  pub still-short : has_short_text g ≡ true → has_short_text h ≡ true
  still-short short = no_more (length (canonical h)) (length (canonical g)) TEXT_MAX canonical-shorter short
