-- Where every variable is watched, every variable is needed.
use Rattle.std.proofs.Common.{◌≡◌, ℕ, List, [], length, ap, arith, ◌∙◌}
use Rattle.std.specs.List.{flat_map}
use Rattle.model_core.specs.EventGraph.{EventGraph, watched_variables}
use Rattle.model_core.specs.Run.Step.{vertex_at}
use Rattle.model_core.specs.Rules.Entailed.{entailed_marks}
use Rattle.model_core.specs.Rules.LeastRelations.{Entailed, from_first, over_pair}
use Rattle.model_core.specs.Rules.Needed.{all_changes, all_edges, faulting_writes, needed_by_edge, needed_by_delays, needed_at_once, needed_beside, needed_marks, unneeded}
use Rattle.model_core.proofs.Among.{Among, among-contained, contained-among, among-front}
use Rattle.mark_laws.specs.PlacePairs.{pairs_from}
use Rattle.mark_laws.proofs.EntailedMarks.{entailed-marked, entailed_marks-long, entailed_marks-entailed, entailed_marks-hold, marks-implied}
use Rattle.mark_laws.proofs.UnmarkedPlaces.{none_unmarked, marked_all}
use Rattle.var_slicing.specs.Inner.Linking.{no_lists, lists_of_pairs}
use Rattle.var_slicing.specs.Inner.Unwatched.{unwatched}
use Rattle.var_slicing.proofs.LinkedLaws.{lists_of_pairs-length, pairs-lists_of_pairs, lists_of_pairs-pairs}

-- what is there at first, with nothing that any pair leads to, is entailed by more at first and by pairs
pub no_pair : (count : ℕ) (first whole : List ℕ) (pairs : List (ℕ × ℕ)) → ((k : ℕ) → Among k first → Among k whole) → {k : ℕ} → Entailed count first [] k → Entailed count whole pairs k
no_pair count first whole pairs more (from_first k below there) = from_first k below (contained-among whole k (more k (among-contained first k there)))
no_pair count first whole pairs more (over_pair j k below before there) = absurd (among-contained [] (j, k) there)

-- the marks that are found where the list of each place is empty
pub unlinked-marked : (first : List ℕ) (next : List (List ℕ)) (n : ℕ) → next ≡ lists_of_pairs [] (no_lists n) → entailed_marks (length next) first (pairs_from 0 next) ≡ entailed_marks n first []
unlinked-marked first next n listed = rw listed
    (ap (λ (m : ℕ). entailed_marks m first (pairs_from 0 (lists_of_pairs [] (no_lists n)))) (lists_of_pairs-length [] n)
    ∙ marks-implied n first (pairs_from 0 (lists_of_pairs [] (no_lists n))) [] (lists_of_pairs-pairs [] n first) (pairs-lists_of_pairs [] n first))

module _ (g : EventGraph) where
  watched-needed : (k : ℕ) → Among k (watched_variables g.watch) → Among k (needed_at_once g)
  watched-needed k there =
      among-front _ (needed_by_delays g) k (among-front _ (flat_map (needed_by_edge g) (all_edges g)) k (among-front _ (flat_map (faulting_writes g) (all_changes g)) k
      (among-front (watched_variables g.watch) (vertex_at g 0).parameters k there)))

  pub all-needed : unwatched g ≡ [] → unneeded g ≡ []
  all-needed none = none_unmarked (needed_marks g) (λ k below.
      let long : length (needed_marks g) ≡ length g.variables = entailed_marks-long (length g.variables) (needed_at_once g) (needed_beside g) in
      let watched_long = entailed_marks-long (length g.variables) (watched_variables g.watch) [] in
      entailed-marked (length g.variables) (needed_at_once g) (needed_beside g) (needed_marks g) (entailed_marks-hold (length g.variables) (needed_at_once g) (needed_beside g))
      (no_pair (length g.variables) (watched_variables g.watch) (needed_at_once g) (needed_beside g) watched-needed
      (entailed_marks-entailed (length g.variables) (watched_variables g.watch) [] k (marked_all (entailed_marks (length g.variables) (watched_variables g.watch) []) k none (omega (arith, below, long, watched_long))))))
