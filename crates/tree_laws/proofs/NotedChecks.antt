-- Checks that are noted: where all pass, and where one fails.
use Rattle.std.proofs.Common.{◌≡◌, ℤ, pos, int_le, Bool, true, false, ◌&&◌, cond, List, [], ◌∷◌, Option, Some, Ok, Err, ◌⊎◌, inl, inr, refl, ap, ap₂, sym, ◌∙◌, subst, arith}
use Rattle.std.proofs.lemmas.Int.{ints}
use Rattle.sig_base.proofs.Tests.{true-int_le, int_le-true}
use Rattle.model_core.proofs.BothTrue.{and_first, and_second}
use Rattle.sig_base.specs.declared.fault.FaultKind.{FaultKind}
use Rattle.sig_base.specs.declared.fault.FaultKind.TheVariants as faults
use Rattle.model_core.specs.Run.State.{within}
use Rattle.model_core.specs.Run.Value.{exact}
use Rattle.model_core.specs.Rules.BoundsTable.{lowest, highest}
use Rattle.tree_laws.specs.SumValues.{Valuation}
use Rattle.tree_laws.specs.Limits.{◌>>=◌, Interval}
use Rattle.tree_laws.specs.SumEnds.{Ground, Known}
use Rattle.tree_laws.specs.Meaning.{Within, Meets, Holds}
use Rattle.tree_laws.specs.Trees.{CaseTree, tree_value, same_tree}
use Rattle.tree_laws.specs.TreesJoined.{choose, renewed}
use Rattle.tree_laws.specs.TreeConditions.{number_tree, between_tree, learned, tree_ends}
use Rattle.tree_laws.specs.Valued.{same_fault, Check, Noted, with_check, learned_newest, note, plain, checked}
use Rattle.tree_laws.specs.ChecksHold.{Pass, Failed, Fine, FailedIn, Outcome, FineAfter, FailedAfter}
use Rattle.tree_laws.proofs.Gives.{Gives, gives_some, then_gives, gives_cond}
use Rattle.tree_laws.proofs.CasesOfTrees.{Has, true-same_tree}
use Rattle.tree_laws.proofs.JoinedTrees.{Chosen, one_not_none, choose-value, renewed-value}
use Rattle.tree_laws.proofs.ConditionTrees.{truth, constant-value, between-value, learned-value, TreeWithin, tree_ends-holds}

true-same_fault : (f h : FaultKind) → same_fault f h ≡ true → f ≡ h
true-same_fault faults.Overflow faults.Overflow e = refl
true-same_fault faults.DivisionByZero faults.DivisionByZero e = refl
true-same_fault faults.IndexOutside faults.IndexOutside e = refl
true-same_fault faults.RangeOutside faults.RangeOutside e = refl
true-same_fault faults.NegativeDelay faults.NegativeDelay e = refl
true-same_fault f h e = cc

-- one step of which nothing need be known
pub skip : {A B : Type 0} (Q : B → Type 0) (o : Option A) (f : A → Option B) → ((x : A) → Gives (f x) Q) → Gives (o >>= f) Q
skip Q o f next = then_gives (λ x. Unit {0}) Q o f (record { gives = λ x e. tt }) (λ x u. next x)

module _ (v : Valuation) where
  module _ (base : Ground) (meets : Meets base v) where
    -- nothing known holds
    pub nothing_holds : Holds v []
    unfolding Holds
    nothing_holds = tt

    kept_apart : (f : FaultKind) (kind : FaultKind) (it : Check) (older : List Check) (b : Bool) → same_fault it.kind kind ≡ b → (d : CaseTree) → (Failed v) f (it ∷ older)
        → (tree_value v it.tree ≡ pos 0 → tree_value v d ≡ pos 0) → b ≡ true → (Failed v) f (record { kind = kind; tree = d } ∷ older)
    unfolding Failed
    kept_apart f kind it older b same d (inl first) zero is = inl (record { kind = sym (true-same_fault it.kind kind (same ∙ is)) ∙ first.kind; fails = zero first.fails; others = first.others })
    kept_apart f kind it older b same d (inr before) zero is = inr before

    with_check-failed : (f kind : FaultKind) (c : CaseTree) (cs : List Check) → (Failed v) f cs → Gives (with_check base kind c cs) ((Failed v) f)
    unfolding Failed
    with_check-failed f kind c [] failed = absurd failed
    with_check-failed f kind c (it ∷ older) failed =
        gives_cond ((Failed v) f) (same_fault it.kind kind) _ _
        (λ same. then_gives (λ d. Chosen (tree_value v it.tree) (tree_value v c) (tree_value v (number_tree (pos 0))) (tree_value v d)) ((Failed v) f) (choose base [] it.tree c (number_tree (pos 0))) _ (choose-value v base meets [] nothing_holds it.tree c (number_tree (pos 0)))
        (λ d is. gives_some ((Failed v) f) _ (kept_apart f kind it older true same d failed (λ z. is.none z ∙ constant-value v base meets (pos 0)) refl)))
        (λ apart. skip ((Failed v) f) (renewed base [] c) _ (λ d. gives_some ((Failed v) f) _ (inr failed)))

    learned_newest-failed : (f : FaultKind) (k : Known) (cs : List Check) → (Failed v) f cs → Gives (learned_newest base k cs) ((FailedIn v) f)
    unfolding FailedIn
    learned_newest-failed f k [] failed = gives_some ((FailedIn v) f) _ failed
    learned_newest-failed f k (it ∷ older) failed = skip ((FailedIn v) f) (learned base k it.tree) _ (λ l. gives_some ((FailedIn v) f) _ failed)

    -- a check that failed stays the first that fails
    pub note-failed : (f kind : FaultKind) (guard condition : CaseTree) (n : Noted) → (FailedIn v) f n → Gives (note base kind guard condition n) ((FailedIn v) f)
    unfolding FailedIn
    note-failed f kind guard condition n failed =
        skip ((FailedIn v) f) (choose base n.known guard condition (number_tree (pos 1))) _
        (λ c. gives_cond ((FailedIn v) f) (same_tree c (number_tree (pos 1))) _ _
        (λ one. gives_some ((FailedIn v) f) n failed)
        (λ more. then_gives ((Failed v) f) ((FailedIn v) f) (with_check base kind c n.checks) _ (with_check-failed f kind c n.checks failed)
        (λ cs g. learned_newest-failed f n.known cs g)))

    with_check-passes : (kind : FaultKind) (c : CaseTree) (cs : List Check) → tree_value v c ≡ pos 1 → (Pass v) cs → Gives (with_check base kind c cs) (Pass v)
    unfolding Pass
    with_check-passes kind c [] one pass =
        then_gives (Has v (tree_value v c)) (Pass v) (renewed base [] c) _ (renewed-value v base meets [] nothing_holds c) (λ d e. gives_some (Pass v) _ (e ∙ one, tt))
    with_check-passes kind c (it ∷ older) one pass =
        gives_cond (Pass v) (same_fault it.kind kind) _ _
        (λ same. then_gives (λ d. Chosen (tree_value v it.tree) (tree_value v c) (tree_value v (number_tree (pos 0))) (tree_value v d)) (Pass v) (choose base [] it.tree c (number_tree (pos 0))) _ (choose-value v base meets [] nothing_holds it.tree c (number_tree (pos 0)))
        (λ d is. gives_some (Pass v) _ (is.one pass.0 ∙ one, pass.1)))
        (λ apart. then_gives (Has v (tree_value v c)) (Pass v) (renewed base [] c) _ (renewed-value v base meets [] nothing_holds c) (λ d e. gives_some (Pass v) _ (e ∙ one, pass)))

    learned_newest-fine : (k : Known) (cs : List Check) → Holds v k → (Pass v) cs → Gives (learned_newest base k cs) (Fine v)
    unfolding Pass
    learned_newest-fine k [] h pass = gives_some (Fine v) _ (record { holds = h; passes = pass })
    learned_newest-fine k (it ∷ older) h pass =
        then_gives (Holds v) (Fine v) (learned base k it.tree) _ (learned-value v base meets it.tree k h (λ z. one_not_none (tree_value v it.tree) pass.0 z))
        (λ l holds. gives_some (Fine v) _ (record { holds = holds; passes = pass }))

    -- where the guard is 0 or the condition is 1, all passes still
    pub note-fine : (kind : FaultKind) (guard condition : CaseTree) (n : Noted) → (Fine v) n → (tree_value v guard ≡ pos 0) ⊎ (tree_value v condition ≡ pos 1) → Gives (note base kind guard condition n) (Fine v)
    note-fine kind guard condition n fine so =
        then_gives (λ c. Chosen (tree_value v guard) (tree_value v condition) (tree_value v (number_tree (pos 1))) (tree_value v c)) (Fine v) (choose base n.known guard condition (number_tree (pos 1))) _ (choose-value v base meets n.known fine.holds guard condition (number_tree (pos 1)))
        (λ c is. gives_cond (Fine v) (same_tree c (number_tree (pos 1))) _ _
        (λ one. gives_some (Fine v) n fine)
        (λ more. then_gives (Pass v) (Fine v) (with_check base kind c n.checks) _ (with_check-passes kind c n.checks (is_one c is is.truth so) fine.passes)
        (λ cs pass. learned_newest-fine n.known cs fine.holds pass))) where
          is_one : (c : CaseTree) → Chosen (tree_value v guard) (tree_value v condition) (tree_value v (number_tree (pos 1))) (tree_value v c) → (tree_value v guard ≡ pos 1) ⊎ (tree_value v guard ≡ pos 0) → (tree_value v guard ≡ pos 0) ⊎ (tree_value v condition ≡ pos 1) → tree_value v c ≡ pos 1
          is_one c is (inr zero) so = is.none zero ∙ constant-value v base meets (pos 1)
          is_one c is (inl one) (inl zero) = absurd (one_not_none (tree_value v guard) one zero)
          is_one c is (inl one) (inr holds) = is.one one ∙ holds

    with_check-fails : (kind : FaultKind) (c : CaseTree) (cs : List Check) → tree_value v c ≡ pos 0 → (Pass v) cs → Gives (with_check base kind c cs) ((Failed v) kind)
    unfolding Failed Pass
    with_check-fails kind c [] zero pass =
        then_gives (Has v (tree_value v c)) ((Failed v) kind) (renewed base [] c) _ (renewed-value v base meets [] nothing_holds c)
        (λ d e. gives_some ((Failed v) kind) _ (inl (record { kind = refl; fails = e ∙ zero; others = tt })))
    with_check-fails kind c (it ∷ older) zero pass =
        gives_cond ((Failed v) kind) (same_fault it.kind kind) _ _
        (λ same. then_gives (λ d. Chosen (tree_value v it.tree) (tree_value v c) (tree_value v (number_tree (pos 0))) (tree_value v d)) ((Failed v) kind) (choose base [] it.tree c (number_tree (pos 0))) _ (choose-value v base meets [] nothing_holds it.tree c (number_tree (pos 0)))
        (λ d is. gives_some ((Failed v) kind) _ (inl (record { kind = refl; fails = is.one pass.0 ∙ zero; others = pass.1 }))))
        (λ apart. then_gives (Has v (tree_value v c)) ((Failed v) kind) (renewed base [] c) _ (renewed-value v base meets [] nothing_holds c)
        (λ d e. gives_some ((Failed v) kind) _ (inl (record { kind = refl; fails = e ∙ zero; others = pass }))))

    -- where the guard is 1 and the condition 0, this check is the first that fails
    pub note-fails : (kind : FaultKind) (guard condition : CaseTree) (n : Noted) → (Fine v) n → tree_value v guard ≡ pos 1 → tree_value v condition ≡ pos 0 → Gives (note base kind guard condition n) ((FailedIn v) kind)
    unfolding FailedIn
    note-fails kind guard condition n fine one zero =
        then_gives (λ c. Chosen (tree_value v guard) (tree_value v condition) (tree_value v (number_tree (pos 1))) (tree_value v c)) ((FailedIn v) kind) (choose base n.known guard condition (number_tree (pos 1))) _ (choose-value v base meets n.known fine.holds guard condition (number_tree (pos 1)))
        (λ c is. let none = is.one one ∙ zero in
        gives_cond ((FailedIn v) kind) (same_tree c (number_tree (pos 1))) _ _
        (λ same. absurd (one_not_none (tree_value v c) (ap (tree_value v) (true-same_tree c (number_tree (pos 1)) same) ∙ constant-value v base meets (pos 1)) none))
        (λ more. then_gives ((Failed v) kind) ((FailedIn v) kind) (with_check base kind c n.checks) _ (with_check-fails kind c n.checks none fine.passes)
        (λ cs failed. learned_newest-failed kind n.known cs failed)))

    -- ---- what has a value or a fault

    pub plain-failed : (f : FaultKind) (n : Noted) (o : Option CaseTree) → (FailedIn v) f n → Gives (plain base n o) ((FailedAfter v) f)
    unfolding FailedAfter
    plain-failed f n o failed = skip ((FailedAfter v) f) o _ (λ t. gives_some ((FailedAfter v) f) _ failed)

    pub plain-fine : (n : Noted) (o : Option CaseTree) → (Fine v) n → Gives (plain base n o) (FineAfter v)
    unfolding FineAfter
    plain-fine n o fine = skip (FineAfter v) o _ (λ t. gives_some (FineAfter v) _ fine)

    pub plain-value : (n : Noted) (o : Option CaseTree) (x : ℤ) → (Fine v) n → Gives o (Has v x) → Gives (plain base n o) ((Outcome v) (Ok x))
    unfolding Outcome
    plain-value n o x fine is = then_gives (Has v x) ((Outcome v) (Ok x)) o _ is (λ t e. gives_some ((Outcome v) (Ok x)) _ (fine, e))

    pub checked-failed : (f : FaultKind) (guard : CaseTree) (n : Noted) (o : Option CaseTree) → (FailedIn v) f n → Gives (checked base guard n o) ((FailedAfter v) f)
    unfolding FailedAfter
    checked-failed f guard n o failed =
        skip ((FailedAfter v) f) o _ (λ t. skip ((FailedAfter v) f) (tree_ends base n.known t) _ (λ e.
        gives_cond ((FailedAfter v) f) (int_le lowest e.lo && int_le e.hi highest) _ _
        (λ fits. gives_some ((FailedAfter v) f) _ failed)
        (λ more. skip ((FailedAfter v) f) (between_tree base n.known t lowest highest) _ (λ c.
        then_gives ((FailedIn v) f) ((FailedAfter v) f) (note base faults.Overflow guard c n) _ (note-failed f faults.Overflow guard c n failed)
        (λ m g. gives_some ((FailedAfter v) f) _ g)))))

    pub checked-fine : (guard : CaseTree) (n : Noted) (o : Option CaseTree) → (Fine v) n → tree_value v guard ≡ pos 0 → Gives (checked base guard n o) (FineAfter v)
    unfolding FineAfter
    checked-fine guard n o fine zero =
        skip (FineAfter v) o _ (λ t. skip (FineAfter v) (tree_ends base n.known t) _ (λ e.
        gives_cond (FineAfter v) (int_le lowest e.lo && int_le e.hi highest) _ _
        (λ fits. gives_some (FineAfter v) _ fine)
        (λ more. skip (FineAfter v) (between_tree base n.known t lowest highest) _ (λ c.
        then_gives (Fine v) (FineAfter v) (note base faults.Overflow guard c n) _ (note-fine faults.Overflow guard c n fine (inl zero))
        (λ m g. gives_some (FineAfter v) _ g)))))

    fits_within : (e : Interval) (x : ℤ) → Within e x → (int_le lowest e.lo && int_le e.hi highest) ≡ true → within lowest highest x ≡ true
    fits_within e x w fits =
        let low = true-int_le lowest e.lo (and_first (int_le lowest e.lo) _ fits) in
        let high = true-int_le e.hi highest (and_second (int_le lowest e.lo) _ fits) in
        ap₂ (λ a b. a && b) (int_le-true lowest x (omega (arith, ints, w.low))) (int_le-true x highest (omega (arith, ints, w.high)))

    overflow_noted : (guard t c : CaseTree) (n : Noted) (x : ℤ) (b : Bool) → (Fine v) n → tree_value v guard ≡ pos 1 → tree_value v t ≡ x → tree_value v c ≡ truth b
        → Gives (note base faults.Overflow guard c n >>= λ m. Some (record { tree = t; noted = m })) ((Outcome v) (cond b (Ok x) (Err faults.Overflow)))
    unfolding Outcome
    overflow_noted guard t c n x true fine one is holds =
        then_gives (Fine v) ((Outcome v) (Ok x)) (note base faults.Overflow guard c n) _ (note-fine faults.Overflow guard c n fine (inr holds)) (λ m g. gives_some ((Outcome v) (Ok x)) _ (g, is))
    overflow_noted guard t c n x false fine one is holds =
        then_gives ((FailedIn v) faults.Overflow) ((Outcome v) (Err faults.Overflow)) (note base faults.Overflow guard c n) _ (note-fails faults.Overflow guard c n fine one holds) (λ m g. gives_some ((Outcome v) (Err faults.Overflow)) _ g)

    pub checked-value : (guard : CaseTree) (n : Noted) (o : Option CaseTree) (x : ℤ) → (Fine v) n → tree_value v guard ≡ pos 1 → Gives o (Has v x) → Gives (checked base guard n o) ((Outcome v) (exact x))
    unfolding Outcome
    checked-value guard n o x fine one is =
        then_gives (Has v x) ((Outcome v) (exact x)) o _ is (λ t e.
        then_gives (TreeWithin v base meets t) ((Outcome v) (exact x)) (tree_ends base n.known t) _ (tree_ends-holds v base meets t n.known fine.holds) (λ f w.
        gives_cond ((Outcome v) (exact x)) (int_le lowest f.lo && int_le f.hi highest) _ _
        (λ fits. gives_some ((Outcome v) (exact x)) _ (subst (λ b. (Outcome v) (cond b (Ok x) (Err faults.Overflow)) (record { tree = t; noted = n })) (sym (fits_within f x (subst (Within f) e w) fits)) (fine, e)))
        (λ more. then_gives (Has v (truth (within lowest highest (tree_value v t)))) ((Outcome v) (exact x)) (between_tree base n.known t lowest highest) _ (between-value v base meets n.known fine.holds lowest highest t)
        (λ c holds. overflow_noted guard t c n x (within lowest highest x) fine one e (holds ∙ ap (λ y. truth (within lowest highest y)) e)))))
