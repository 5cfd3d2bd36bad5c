-- Parts that only a text of version 2 can write, where numbers of vertices or variables change.
use Rattle.std.proofs.Common.{◌≡◌, ℕ, Bool, ◌||◌, List, [], ◌∷◌, map, length, nat_lt, refl, ap, ap₂}
use Rattle.std.specs.List.{list_any}
use Rattle.sig_base.specs.declared.limits.TheConstants.{PARAMETERS_MAX_VERSION_1}
use Rattle.model_core.specs.EventGraph.{EventVertex, has_drawn_delay}
use Rattle.model_core.specs.Text.VersionNeeded.{has_many_targets, has_later_parts}
use Rattle.model_core.specs.Rules.Drop.{edge_renumbered, vertex_renumbered}

-- a test that finds in each image what another one finds in its element
pub list_any-map : {A B : Type 0} (test : B → Bool) (f : A → B) (tested : A → Bool) → ((x : A) → test (f x) ≡ tested x) → (xs : List A) → list_any test (map f xs) ≡ list_any tested xs
list_any-map test f tested same [] = refl
list_any-map test f tested same (x ∷ xs) = ap₂ (λ b c. b || c) (same x) (list_any-map test f tested same xs)

-- edges that lead elsewhere have the delays that they had
pub has_later_parts-renumbered : (f : ℕ → ℕ) (v : EventVertex) → has_later_parts (vertex_renumbered f v) ≡ has_later_parts v
has_later_parts-renumbered f v = ap (λ drawn. nat_lt PARAMETERS_MAX_VERSION_1 (length v.parameters) || list_any has_many_targets v.changes || drawn) (list_any-map has_drawn_delay (edge_renumbered f) has_drawn_delay (λ e. refl) v.edges)
