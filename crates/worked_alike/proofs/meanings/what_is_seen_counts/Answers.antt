use Rattle.std.proofs.Common.{◌≡◌, List, [], ◌∷◌, ◌++◌, map, refl, ap, lit<, lit≤}
use Rattle.sig_base.specs.declared.fault.FaultKind.TheVariants as faults
use Rattle.model_core.specs.EventGraph.{WatchedVariable}
use Rattle.model_core.specs.Run.Machine.{Note, On, Look, Ended, Faulted}
use Rattle.model_core.specs.Run.Same.{watched_name_of}
use Rattle.alike_laws.specs.DeclaredAlike.{first_kinds}
use Rattle.alike_laws.specs.LooksApart.{OtherEnds, OtherNotes}
use Rattle.worked_runs.specs.Pairs.{ends, leaves, a_first, b_first, watching_two}
use Rattle.worked_alike.specs.AskedKinds.{asking_number, asking_truth}
use Rattle.worked_alike.proofs.meanings.what_is_seen_counts.Goals as goal

other_end : Ended 5 ≡ Faulted 5 faults.RangeOutside → ⊥
other_end e = cc

pub returns-clause-ends : goal.returns-clause-ends
returns-clause-ends c = c.models_apart_are_not_alike.ensures.looks ends leaves 42 (lit< tt) [] refl 5 (lit≤ tt) 3 3 (OtherEnds refl refl (λ e. other_end (ap (λ (l : Look). l.standing) e)))

other_head : (xs ys rest : List Note) → (On 0 0 [] ∷ xs) ++ rest ≡ On 0 1 [] ∷ ys → ⊥
other_head xs ys rest e = cc

other_head_too : (xs ys rest : List Note) → (On 0 1 [] ∷ xs) ++ rest ≡ On 0 0 [] ∷ ys → ⊥
other_head_too xs ys rest e = cc

pub returns-clause-notes : goal.returns-clause-notes
returns-clause-notes c = c.models_apart_are_not_alike.ensures.looks a_first b_first 42 (lit< tt) [] refl 100 (lit≤ tt) 2 2
    (OtherNotes refl refl (λ (rest, e). other_head [] [] rest e) (λ (rest, e). other_head_too [] [] rest e))

fewer : map (watched_name_of (watching_two (WatchedVariable 0 ∷ []))) (WatchedVariable 0 ∷ []) ≡ map (watched_name_of (watching_two (WatchedVariable 0 ∷ WatchedVariable 1 ∷ []))) (WatchedVariable 0 ∷ WatchedVariable 1 ∷ []) → ⊥
fewer e = cc

pub returns-clause-watched : goal.returns-clause-watched
returns-clause-watched c = c.models_apart_are_not_alike.ensures.declared (watching_two (WatchedVariable 0 ∷ [])) (watching_two (WatchedVariable 0 ∷ WatchedVariable 1 ∷ [])) (λ declared. fewer declared.watched)

other_kinds : first_kinds asking_number ≡ first_kinds asking_truth → ⊥
other_kinds e = cc

pub returns-clause-kinds : goal.returns-clause-kinds
returns-clause-kinds c = c.models_apart_are_not_alike.ensures.declared asking_number asking_truth (λ declared. other_kinds declared.kinds)
