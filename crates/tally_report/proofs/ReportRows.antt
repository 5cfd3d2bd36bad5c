-- Rows that are put one after the other.
use Rattle.std.proofs.Common.{◌≡◌, ℕ, zero, suc, ◌+◌, ◌<◌, map, take, get_or, append-nil, List, [], ◌∷◌, ◌++◌, length, length-append, drop, refl, sym, ap, ap₂, ◌∙◌, append_assoc}
use Rattle.std.proofs.lemmas.List.{drop-drop}
use Rattle.std.proofs.lemmas.List.Concat.{flat_map-append}
use Rattle.std.proofs.lemmas.List.FromFn.{length-map-range_with_len}
use Rattle.std.specs.List.{flat_map}
use Rattle.sig_base.proofs.Lists.{seen_more}
use Rattle.model_core.specs.EventGraph.{EventGraph, Watched}
use Rattle.tally_report.specs.declared.item.Item.{Item}
use Rattle.tally_report.specs.ReportText.{cell_name, sized_names, names_watched, Heading, item_row, item_rows}

rows-none : (h : Heading) (names : List (List ℕ)) → item_rows h names [] ≡ []
rows-none h [] = refl
rows-none h (name ∷ names) = refl

rows-append : (h : Heading) (a b : List (List ℕ)) (items : List Item) → item_rows h (a ++ b) items ≡ item_rows h a items ++ item_rows h b (drop (length a) items)
rows-append h [] b items = refl
rows-append h (name ∷ a) b [] = sym (rows-none h b)
rows-append h (name ∷ a) b (item ∷ items) =
    ap (λ rows. item_row h name item ++ rows) (rows-append h a b items) ∙ sym (append_assoc (item_row h name item) (item_rows h a items) (item_rows h b (drop (length a) items)))

module _ (a b all : List (List ℕ)) (items left : List Item) (whole : all ≡ a ++ b) (here : left ≡ drop (length a) items) where
  pub rows_more : (h : Heading) (old before after : List ℕ) → before ≡ old ++ item_rows h a items → after ≡ before ++ item_rows h b left → after ≡ old ++ item_rows h all items
  rows_more h old before after so_far put =
      put ∙ ap₂ (λ (text : List ℕ) (items : List Item). text ++ item_rows h b items) so_far here
      ∙ append_assoc old (item_rows h a items) (item_rows h b (drop (length a) items))
      ∙ ap (λ rows. old ++ rows) (sym (ap (λ names. item_rows h names items) whole ∙ rows-append h a b items))

  pub items_left_more : (more : List Item) → more ≡ drop (length b) left → more ≡ drop (length all) items
  items_left_more more rest =
      rest ∙ ap (drop (length b)) here ∙ drop-drop (length b) (length a) items ∙ ap (λ n. drop n items) (sym (ap length whole ∙ length-append a b))

-- ---- the names of items

-- an array has as many names as cells
pub length-sized_names : (name : List ℕ) (n : ℕ) → (n ≡ 0 → ⊥) → length (sized_names name n) ≡ n
length-sized_names name zero some = absurd (some refl)
length-sized_names name (suc n) some = length-map-range_with_len (cell_name name) 0 (suc n)

-- the names of one thing more that is watched
pub names_more : {X : Type 0} (g : EventGraph) (view : X → Watched) (ws : List X) (i : ℕ) (w : X) → i < length ws → w ≡ get_or ws i w
    → flat_map (names_watched g) (map view (take (i + 1) ws)) ≡ flat_map (names_watched g) (map view (take i ws)) ++ names_watched g (view w)
names_more g view ws i w within is =
    ap (flat_map (names_watched g)) (seen_more view ws i w within is)
    ∙ flat_map-append (names_watched g) (map view (take i ws)) (view w ∷ [])
    ∙ ap (λ names. flat_map (names_watched g) (map view (take i ws)) ++ names) (append-nil (names_watched g (view w)))
