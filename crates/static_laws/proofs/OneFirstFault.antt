-- A written model is accepted, or has exactly one first fault.
use Rattle.std.proofs.Common.{◌≡◌, ◌↔◌, ℕ, ◌≤◌, false, inl, inr, List, [], ◌∷◌, ◌++◌, Option, Some, None, refl, sym, ap, ◌∙◌, arith, subst}
use Rattle.std.specs.Prelude.{slice_get}
use Rattle.std.specs.List.{Contains}
use Rattle.std.proofs.lemmas.List.Elements.{Contains-append_left, Contains-append_right, Contains-append_cases}
use Rattle.model_core.specs.declared.static_kind.StaticKind.{StaticKind}
use Rattle.model_core.specs.declared.static_kind.StaticKind.TheVariants as rules
use Rattle.model_core.specs.EventGraph.{EventGraph}
use Rattle.model_core.specs.Text.Written.{WrittenModel}
use Rattle.model_core.specs.Static.FaultOrder.{StaticFault, rule_row, is_earlier_fault, earliest_fault}
use Rattle.model_core.specs.Static.ModelFaults.{faults_of_parts, model_faults, Broken, IsFirstFault, first_fault, Accepted}
use Rattle.model_core.specs.Static.VersionFaults.{version_faults}
use Rattle.model_core.proofs.EmptyLists.{left_empty}
use Rattle.static_laws.proofs.EarliestFaults.{IsLeast, not_before_place, not_before_row, earliest_is_least, earliest_fault-none}
use Rattle.static_laws.proofs.StaticTwins.ModelTwin.{empty_contains, none_of_parts, parts_kept}

-- ---- each rule has a place of its own in the table

rules_in_order : List StaticKind
rules_in_order =
    rules.NameTooLong ∷ rules.UnknownName ∷ rules.DuplicateName ∷ rules.WrongUse ∷ rules.KindMismatch ∷ rules.ValueCount ∷ rules.LiteralTooLarge ∷ rules.EmptyRange
    ∷ rules.InitialOutside ∷ rules.SizeOutside ∷ rules.PriorityOutside ∷ rules.StreamOutside ∷ rules.DrawOutside ∷ rules.WeightOutside ∷ rules.VersionUnknown ∷ rules.VersionNeeded ∷ rules.TooMany ∷ rules.ModelTooLong ∷ []

at_its_place : (kind : StaticKind) → slice_get rules_in_order (rule_row kind) ≡ Some kind
unfolding rules_in_order
at_its_place rules.NameTooLong = refl
at_its_place rules.UnknownName = refl
at_its_place rules.DuplicateName = refl
at_its_place rules.WrongUse = refl
at_its_place rules.KindMismatch = refl
at_its_place rules.ValueCount = refl
at_its_place rules.LiteralTooLarge = refl
at_its_place rules.EmptyRange = refl
at_its_place rules.InitialOutside = refl
at_its_place rules.SizeOutside = refl
at_its_place rules.PriorityOutside = refl
at_its_place rules.StreamOutside = refl
at_its_place rules.DrawOutside = refl
at_its_place rules.WeightOutside = refl
at_its_place rules.VersionUnknown = refl
at_its_place rules.VersionNeeded = refl
at_its_place rules.TooMany = refl
at_its_place rules.ModelTooLong = refl

some_same : {A : Type 0} {a b : A} → Some a ≡ Some b → a ≡ b
some_same e = cc

one_place : (j k : StaticKind) → rule_row j ≡ rule_row k → j ≡ k
one_place j k e = some_same (sym (at_its_place j) ∙ ap (slice_get rules_in_order) e ∙ at_its_place k)

-- ---- the first fault

both_ways : (a b : ℕ) → a ≤ b → b ≤ a → a ≡ b
both_ways a b h k = omega arith

abbrev fault_of : StaticKind → ℕ → StaticFault
fault_of kind at = record { at = at; kind = kind }

-- two faults are one where neither comes before the other
one_fault : (f g : StaticFault) → is_earlier_fault g f ≡ false → is_earlier_fault f g ≡ false → f ≡ g
one_fault f g a b = ap (λ kind. fault_of kind f.at) one_kind ∙ ap (fault_of g.kind) one_byte
  where
    one_byte : f.at ≡ g.at
    one_byte = both_ways f.at g.at (not_before_place f.at (rule_row f.kind) g.at (rule_row g.kind) a) (not_before_place g.at (rule_row g.kind) f.at (rule_row f.kind) b)

    one_kind : f.kind ≡ g.kind
    one_kind = one_place f.kind g.kind (both_ways (rule_row f.kind) (rule_row g.kind)
        (not_before_row f.at (rule_row f.kind) (rule_row g.kind) (subst (λ at. is_earlier_fault (fault_of g.kind at) f ≡ false) (sym one_byte) a))
        (not_before_row g.at (rule_row g.kind) (rule_row f.kind) (subst (λ at. is_earlier_fault (fault_of f.kind at) g ≡ false) one_byte b)))

-- lists that have the same faults have the same first one
pub same_earliest : (fs gs : List StaticFault) → ((f : StaticFault) → Contains fs f → Contains gs f) → ((f : StaticFault) → Contains gs f → Contains fs f) → earliest_fault None fs ≡ earliest_fault None gs
same_earliest fs gs to from = by_case (earliest_fault None fs) refl (earliest_fault None gs) refl
  where
    by_case : (o : Option StaticFault) → earliest_fault None fs ≡ o → (p : Option StaticFault) → earliest_fault None gs ≡ p → o ≡ p
    by_case None e None h = refl
    by_case None e (Some g) h = absurd (empty_contains g (subst (λ xs. Contains xs g) (earliest_fault-none fs e) (from g (earliest_is_least gs g h).among)))
    by_case (Some f) e None h = absurd (empty_contains f (subst (λ xs. Contains xs f) (earliest_fault-none gs h) (to f (earliest_is_least fs f e).among)))
    by_case (Some f) e (Some g) h =
        let l = earliest_is_least fs f e in
        let m = earliest_is_least gs g h in
        ap Some (one_fault f g (l.least g (from g m.among)) (m.least f (to f l.among)))

-- the order in which faults are noted doesn't matter
pub either_order : (fs gs : List StaticFault) → earliest_fault None (fs ++ gs) ≡ earliest_fault None (gs ++ fs)
either_order fs gs = same_earliest (fs ++ gs) (gs ++ fs) (exchanged fs gs) (exchanged gs fs)
  where
    exchanged : (xs ys : List StaticFault) (f : StaticFault) → Contains (xs ++ ys) f → Contains (ys ++ xs) f
    exchanged xs ys f c = elim (Contains-append_cases xs ys f c) [ inl a ↦ Contains-append_right ys xs f a | inr b ↦ Contains-append_left ys xs f b ]

module _ (m : WrittenModel) where
  earliest_is_first : (f : StaticFault) → first_fault m ≡ Some f → IsFirstFault m f.kind f.at
  earliest_is_first f e = record {
    broken = least.among;
    least = λ other place b. not_before_place f.at (rule_row f.kind) place (rule_row other) (least.least (record { at = place; kind = other }) b);
    first = λ other b. not_before_row f.at (rule_row f.kind) (rule_row other) (least.least (record { at = f.at; kind = other }) b);
  }
    where
      least : IsLeast (model_faults m) f
      least = earliest_is_least (model_faults m) f e

  -- no two faults are first
  one_first : (f g : StaticFault) → IsFirstFault m f.kind f.at → IsFirstFault m g.kind g.at → f ≡ g
  one_first f g t u = ap (λ kind. fault_of kind f.at) one_kind ∙ ap (fault_of g.kind) one_byte
    where
      one_byte : f.at ≡ g.at
      one_byte = both_ways f.at g.at (t.least g.kind g.at u.broken) (u.least f.kind f.at t.broken)

      one_kind : f.kind ≡ g.kind
      one_kind = one_place f.kind g.kind (both_ways (rule_row f.kind) (rule_row g.kind)
          (t.first g.kind (subst (Broken m g.kind) (sym one_byte) u.broken))
          (u.first f.kind (subst (Broken m f.kind) one_byte t.broken)))

  nothing_broken : model_faults m ≡ [] → (kind : StaticKind) (at : ℕ) → ¬ Broken m kind at
  nothing_broken e kind at b = empty_contains (record { at = at; kind = kind }) (subst (λ fs. Contains fs (record { at = at; kind = kind })) e b)

  first_is_earliest : (f : StaticFault) → IsFirstFault m f.kind f.at → first_fault m ≡ Some f
  first_is_earliest f t = by_case (first_fault m) refl
    where
      by_case : (o : Option StaticFault) → first_fault m ≡ o → first_fault m ≡ Some f
      by_case None e = absurd (nothing_broken (earliest_fault-none (model_faults m) e) f.kind f.at t.broken)
      by_case (Some g) e = e ∙ ap Some (one_first g f (earliest_is_first g e) t)

  pub found_is_first_fault : (f : StaticFault) → first_fault m ≡ Some f ↔ IsFirstFault m f.kind f.at
  found_is_first_fault f = (earliest_is_first f, first_is_earliest f)

  no_first_fault : ((g : EventGraph) × Accepted m g) → first_fault m ≡ None
  no_first_fault (g, a) = by_case (first_fault m) refl
    where
      by_case : (o : Option StaticFault) → first_fault m ≡ o → first_fault m ≡ None
      by_case None e = e
      by_case (Some f) e = absurd (a.unbroken f.kind f.at (earliest_is_first f e).broken)

  accepted_unless_fault : first_fault m ≡ None → (g : EventGraph) × Accepted m g
  accepted_unless_fault e =
      let nothing = earliest_fault-none (model_faults m) e in
      let (g, numbers, keeps, by_kind) = parts_kept m (left_empty (faults_of_parts m) (version_faults m) (none_of_parts m _ (faults_of_parts m ++ version_faults m) nothing)) in
      (g, record { unbroken = nothing_broken nothing; numbers = numbers })

  pub accepted_or_first_fault : first_fault m ≡ None ↔ ((g : EventGraph) × Accepted m g)
  accepted_or_first_fault = (accepted_unless_fault, no_first_fault)
