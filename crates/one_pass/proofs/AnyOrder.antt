-- The first fault doesn't depend on the order in which faults are found.
use Rattle.std.proofs.Common.{◌≡◌, Bool, true, false, cond, inl, inr, List, [], ◌∷◌, ◌++◌, Option, Some, None, refl, sym, ap, ◌∙◌}
use Rattle.std.specs.List.{flat_map, Contains}
use Rattle.std.proofs.lemmas.List.Elements.{Contains-append_left, Contains-append_right, Contains-append_cases}
use Rattle.model_core.specs.Static.FaultOrder.{StaticFault, earliest_fault}
use Rattle.static_laws.specs.Checked.{Checked}
use Rattle.static_laws.proofs.EarliestFaults.{earliest_fault-none}
use Rattle.static_laws.proofs.OneFirstFault.{same_earliest, either_order}
use Rattle.static_laws.proofs.Checks.{earliest-append}

-- of these faults and of those the same comes first, whatever was found before
abbrev pub SameFirst : List StaticFault → List StaticFault → Type 0
SameFirst fs gs = (t : Option StaticFault) → earliest_fault t fs ≡ earliest_fault t gs

either_way : (fs gs : List StaticFault) (f : StaticFault) → Contains (fs ++ gs) f → Contains (gs ++ fs) f
either_way fs gs f c = elim (Contains-append_cases fs gs f c) [ inl a ↦ Contains-append_right gs fs f a | inr b ↦ Contains-append_left gs fs f b ]

after_one : (g : StaticFault) (fs gs : List StaticFault) (f : StaticFault) → (Contains fs f → Contains gs f) → Contains (g ∷ fs) f → Contains (g ∷ gs) f
after_one g fs gs f to c = elim (Contains-append_cases (g ∷ []) fs f c) [ inl a ↦ Contains-append_left (g ∷ []) gs f a | inr b ↦ Contains-append_right (g ∷ []) gs f (to b) ]

swapped : (t : Option StaticFault) (fs gs : List StaticFault) → earliest_fault t (fs ++ gs) ≡ earliest_fault t (gs ++ fs)
swapped None fs gs = either_order fs gs
swapped (Some g) fs gs =
    same_earliest (g ∷ (fs ++ gs)) (g ∷ (gs ++ fs))
    (λ f c. after_one g (fs ++ gs) (gs ++ fs) f (either_way fs gs f) c)
    (λ f c. after_one g (gs ++ fs) (fs ++ gs) f (either_way gs fs f) c)

-- one after the other
pub same_first-both : (fs gs hs ks : List StaticFault) → SameFirst fs gs → SameFirst hs ks → SameFirst (fs ++ hs) (gs ++ ks)
same_first-both fs gs hs ks p q = λ t. earliest-append t fs hs ∙ ap (λ u. earliest_fault u hs) (p t) ∙ q (earliest_fault t gs) ∙ sym (earliest-append t gs ks)

-- of four lists the two in the middle change places
pub same_first-exchanged : (fs ps gs qs : List StaticFault) → SameFirst ((fs ++ ps) ++ (gs ++ qs)) ((fs ++ gs) ++ (ps ++ qs))
same_first-exchanged fs ps gs qs = λ t.
    let u = earliest_fault t fs in
    earliest-append t (fs ++ ps) (gs ++ qs)
    ∙ ap (λ v. earliest_fault v (gs ++ qs)) (earliest-append t fs ps)
    ∙ earliest-append (earliest_fault u ps) gs qs
    ∙ ap (λ v. earliest_fault v qs) (sym (earliest-append u ps gs) ∙ swapped u ps gs ∙ earliest-append u gs ps)
    ∙ sym (earliest-append (earliest_fault u gs) ps qs)
    ∙ ap (λ v. earliest_fault v (ps ++ qs)) (sym (earliest-append t fs gs))
    ∙ sym (earliest-append t (fs ++ gs) (ps ++ qs))

-- a check finds its faults in any order
pub checked_as : {P : Type 0} (t0 t1 : Option StaticFault) (fs gs : List StaticFault) → SameFirst fs gs → Checked t0 t1 fs P → Checked t0 t1 gs P
checked_as t0 t1 fs gs same c = record { earliest = c.earliest ∙ same t0; unbroken = λ e. c.unbroken (earliest_fault-none fs (same None ∙ ap (earliest_fault None) e)) }

-- ---- faults that only some texts have

pub unless-append : (b : Bool) (fs gs : List StaticFault) → cond b [] fs ++ cond b [] gs ≡ cond b [] (fs ++ gs)
unless-append true fs gs = refl
unless-append false fs gs = refl

pub unless-none : (b : Bool) → ◌≡◌ {A = List StaticFault} (cond b [] []) []
unless-none true = refl
unless-none false = refl

-- those of each part may come after all others
pub each_then_others : {A : Type 0} (b : Bool) (F G : A → List StaticFault) (xs : List A) → SameFirst (flat_map (λ x. F x ++ cond b [] (G x)) xs) (flat_map F xs ++ cond b [] (flat_map G xs))
each_then_others true F G [] = λ t. refl
each_then_others false F G [] = λ t. refl
each_then_others b F G (x ∷ xs) = λ t.
    same_first-both (F x ++ cond b [] (G x)) (F x ++ cond b [] (G x)) (flat_map (λ y. F y ++ cond b [] (G y)) xs) (flat_map F xs ++ cond b [] (flat_map G xs)) (λ u. refl) (each_then_others b F G xs) t
    ∙ same_first-exchanged (F x) (cond b [] (G x)) (flat_map F xs) (cond b [] (flat_map G xs)) t
    ∙ ap (λ gs. earliest_fault t ((F x ++ flat_map F xs) ++ gs)) (unless-append b (G x) (flat_map G xs))
