-- A round leads from each valid model to exactly one, which is valid and means the same, as its three parts do.
use Rattle.std.proofs.Common.{◌≡◌, List, sym, subst}
use Rattle.model_core.specs.EventGraph.{EventGraph}
use Rattle.model_core.specs.Run.Same.{Same}
use Rattle.model_core.specs.Static.Reading.{IsValid}
use Rattle.model_core.specs.Ranges.Narrowed.{IsNarrowed}
use Rattle.model_core.specs.Rules.Reduction.{RuleApplication, Strategy}
use Rattle.model_core.specs.Rules.Fuse.{Fused}
use Rattle.normal_form.specs.Normal.{Round}

-- ---- what a part may be known to do

abbrev pub Ends : (EventGraph → EventGraph → Type 0) → Type 0
Ends leads = (g : EventGraph) → IsValid g → (h : EventGraph) × leads g h

abbrev pub EndsOnce : (EventGraph → EventGraph → Type 0) → Type 0
EndsOnce leads = (g h k : EventGraph) → leads g h → leads g k → h ≡ k

abbrev pub KeepsValid : (EventGraph → EventGraph → Type 0) → Type 0
KeepsValid leads = (g h : EventGraph) → IsValid g → leads g h → IsValid h

abbrev pub KeepsSame : (EventGraph → EventGraph → Type 0) → Type 0
KeepsSame leads = (g h : EventGraph) → IsValid g → leads g h → Same g h

-- the strategy, whatever its applications are
abbrev pub Reduces : EventGraph → EventGraph → Type 0
Reduces g h = (applications : List RuleApplication) × Strategy g applications h

-- ---- a round

pub round-ends : Ends IsNarrowed → KeepsValid IsNarrowed → Ends Reduces → ((g : EventGraph) → (h : EventGraph) × Fused g h) → Ends Round
round-ends narrow valid_then reduce fuse g valid =
    let (narrowed, is_narrowed) = narrow g valid in
    let (reduced, (applications, is_reduced)) = reduce narrowed (valid_then g narrowed valid is_narrowed) in
    let (fused, is_fused) = fuse reduced in
    (fused, record { narrowed = narrowed; applications = applications; reduced = reduced; is_narrowed = is_narrowed; is_reduced = is_reduced; is_fused = is_fused })

pub round-once : EndsOnce IsNarrowed → EndsOnce Reduces → EndsOnce Fused → EndsOnce Round
round-once narrow reduce fuse g h k one other =
    let narrowed = narrow g one.narrowed other.narrowed one.is_narrowed other.is_narrowed in
    let again = subst (λ (m : EventGraph). Strategy m other.applications other.reduced) (sym narrowed) other.is_reduced in
    let reduced = reduce one.narrowed one.reduced other.reduced (one.applications, one.is_reduced) (other.applications, again) in
    fuse one.reduced h k one.is_fused (subst (λ (m : EventGraph). Fused m k) (sym reduced) other.is_fused)

pub round-valid : KeepsValid IsNarrowed → KeepsValid Reduces → KeepsValid Fused → KeepsValid Round
round-valid narrow reduce fuse g h valid r =
    fuse r.reduced h (reduce r.narrowed r.reduced (narrow g r.narrowed valid r.is_narrowed) (r.applications, r.is_reduced)) r.is_fused

pub round-same : KeepsValid IsNarrowed → KeepsValid Reduces → KeepsSame IsNarrowed → KeepsSame Reduces → KeepsSame Fused → ((g h k : EventGraph) → Same g h → Same h k → Same g k) → KeepsSame Round
round-same narrow_valid reduce_valid narrow reduce fuse composes g h valid r =
    let narrowed = narrow_valid g r.narrowed valid r.is_narrowed in
    let reduced = reduce_valid r.narrowed r.reduced narrowed (r.applications, r.is_reduced) in
    composes g r.narrowed h (narrow g r.narrowed valid r.is_narrowed)
    (composes r.narrowed r.reduced h (reduce r.narrowed r.reduced narrowed (r.applications, r.is_reduced)) (fuse r.reduced h reduced r.is_fused))
