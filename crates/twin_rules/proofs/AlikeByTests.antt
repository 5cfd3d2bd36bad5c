-- That no condition before that on the limits fails is one test after the other, in another order.
use Rattle.std.proofs.Common.{◌≡◌, ℕ, suc, ◌<◌, nat_lt, nat_eq, Bool, true, false, not, ◌&&◌, ◌||◌, List, [], ◌∷◌, length, Option, Some, None, refl, ◌∙◌}
use Rattle.std.specs.Prelude.{is_none}
use Rattle.std.specs.Option.{option_map}
use Rattle.std.proofs.lemmas.Bool.{lt-ltb}
use lib.Pointwise.{pointwise}
use Rattle.model_core.specs.EventGraph.{EventGraph}
use Rattle.model_core.specs.Run.Step.{vertex_at}
use Rattle.model_core.specs.Rules.Conditions.{first_failed}
use Rattle.model_core.specs.Rules.Merge.{is_watched_vertex}
use Rattle.model_core.specs.Rules.Fuse.{can_be_cancelled, same_changes, same_edges_for}
use Rattle.twin_rules.specs.Inner.ComparedPairs.{are_alike, alike_by}

abbrev all_of : List Bool → Bool
all_of [] = true
all_of (b ∷ bs) = b && all_of bs

pub mapped-none : (o : Option ℕ) → is_none (option_map suc o) ≡ is_none o
mapped-none None = refl
mapped-none (Some k) = refl

all-pass : (bs : List Bool) → is_none (first_failed bs) ≡ all_of bs
all-pass [] = refl
all-pass (true ∷ bs) = mapped-none (first_failed bs) ∙ all-pass bs
all-pass (false ∷ bs) = refl

reordered : (first here watched watched_too cancelled cancelled_too events edges : Bool) → here ≡ true → ((first && here) && ((not watched && not watched_too) && ((not cancelled && not cancelled_too) && (events && (edges && true))))) ≡ (first && (not (watched || cancelled) && (not (watched_too || cancelled_too) && (edges && events))))
reordered first false w v c d a b e = cc
reordered false true w v c d a b e = refl
reordered true true true v c d a b e = refl
reordered true true false true true d a b e = refl
reordered true true false true false d a b e = refl
reordered true true false false true d a b e = refl
reordered true true false false false true a b e = refl
reordered true true false false false false true true e = refl
reordered true true false false false false true false e = refl
reordered true true false false false false false true e = refl
reordered true true false false false false false false e = refl

pub alike-by-tests : (g : EventGraph) (keep gone : ℕ) → gone < length g.vertices → are_alike g keep gone ≡ alike_by g keep gone
alike-by-tests g keep gone less =
    let a = vertex_at g keep in
    let b = vertex_at g gone in
    all-pass ((nat_lt keep gone && nat_lt gone (length g.vertices)) ∷ (not (is_watched_vertex g keep) && not (is_watched_vertex g gone)) ∷ (not (can_be_cancelled g keep) && not (can_be_cancelled g gone)) ∷ (pointwise nat_eq a.parameters b.parameters && same_changes a.changes b.changes) ∷ same_edges_for keep gone a.edges b.edges ∷ [])
    ∙ reordered (nat_lt keep gone) (nat_lt gone (length g.vertices)) (is_watched_vertex g keep) (is_watched_vertex g gone) (can_be_cancelled g keep) (can_be_cancelled g gone) (pointwise nat_eq a.parameters b.parameters && same_changes a.changes b.changes) (same_edges_for keep gone a.edges b.edges) (lt-ltb gone (length g.vertices) less)
