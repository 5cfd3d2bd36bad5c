-- Each valid model has exactly one normal form, which is valid and means the same, as a round leads to exactly one such model.
use Rattle.std.proofs.Common.{◌≡◌, ℕ, zero, suc, Bool, true, false, refl, sym, ◌∙◌, subst, true≢false}
use Rattle.model_core.specs.EventGraph.{EventGraph}
use Rattle.model_core.specs.Run.Same.{Same}
use Rattle.model_core.specs.Static.Reading.{IsValid}
use Rattle.model_core.specs.Rules.SameGraph.{same_graph}
use Rattle.model_core.proofs.SameGraphs.{graphs_decide}
use Rattle.alike_laws.specs.DeclaredAlike.{DeclaredAlike}
use Rattle.alike_laws.proofs.AlikeModels.{declared_refl, declared_trans}
use Rattle.normal_form.specs.Normal.{Round, NormalWithin, no_round_left, left_as_it_is, after_a_round}
use Rattle.normal_form.proofs.RoundLaws.{Ends, EndsOnce, KeepsValid, KeepsSame}

pub normal-ends : Ends Round → KeepsValid Round → (rounds : ℕ) → Ends (NormalWithin rounds)
normal-ends ends keeps zero g valid = (g, no_round_left)
normal-ends ends keeps (suc rounds) g valid =
    let (next, made) = ends g valid in
    by next made (same_graph g next) refl (normal-ends ends keeps rounds next (keeps g next valid made))
  where
    by : (next : EventGraph) → Round g next → (b : Bool) → same_graph g next ≡ b → (h : EventGraph) × NormalWithin rounds next h → (h : EventGraph) × NormalWithin (suc rounds) g h
    by next made true e later = (g, left_as_it_is (subst (Round g) (sym ((graphs_decide g next).0 e)) made))
    by next made false e (h, later) = (h, after_a_round next made (λ same. true≢false (sym ((graphs_decide g next).1 same) ∙ e)) later)

pub normal-once : EndsOnce Round → (rounds : ℕ) → EndsOnce (NormalWithin rounds)
normal-once once zero g _ _ no_round_left no_round_left = refl
normal-once once (suc rounds) g _ _ (left_as_it_is a) (left_as_it_is b) = refl
normal-once once (suc rounds) g _ k (left_as_it_is a) (after_a_round next b differs later) = absurd (differs (once g g next a b))
normal-once once (suc rounds) g h _ (after_a_round next a differs later) (left_as_it_is b) = absurd (differs (once g g next b a))
normal-once once (suc rounds) g h k (after_a_round next a differs later) (after_a_round other b differ others) =
    let same = once g next other a b in
    normal-once once rounds next h k later (subst (λ (m : EventGraph). NormalWithin rounds m k) (sym same) others)

pub normal-valid : KeepsValid Round → (rounds : ℕ) → KeepsValid (NormalWithin rounds)
normal-valid keeps zero g _ valid no_round_left = valid
normal-valid keeps (suc rounds) g _ valid (left_as_it_is a) = valid
normal-valid keeps (suc rounds) g h valid (after_a_round next a differs later) = normal-valid keeps rounds next h (keeps g next valid a) later

pub normal-same : KeepsValid Round → KeepsSame Round → ((g : EventGraph) → Same g g) → ((g h k : EventGraph) → Same g h → Same h k → Same g k) → (rounds : ℕ) → KeepsSame (NormalWithin rounds)
normal-same keeps same itself composes zero g _ valid no_round_left = itself g
normal-same keeps same itself composes (suc rounds) g _ valid (left_as_it_is a) = itself g
normal-same keeps same itself composes (suc rounds) g h valid (after_a_round next a differs later) =
    composes g next h (same g next valid a) (normal-same keeps same itself composes rounds next h (keeps g next valid a) later)

pub normal-declared : KeepsValid Round → ((g h : EventGraph) → IsValid g → Round g h → DeclaredAlike g h) → (rounds : ℕ) (g h : EventGraph) → IsValid g → NormalWithin rounds g h → DeclaredAlike g h
normal-declared keeps declared zero g _ valid no_round_left = declared_refl g
normal-declared keeps declared (suc rounds) g _ valid (left_as_it_is a) = declared_refl g
normal-declared keeps declared (suc rounds) g h valid (after_a_round next a differs later) =
    declared_trans g next h (declared g next valid a) (normal-declared keeps declared rounds next h (keeps g next valid a) later)
