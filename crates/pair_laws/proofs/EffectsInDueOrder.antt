-- What effects do to the pending list once it is sorted.
use Rattle.std.proofs.Common.{◌≡◌, List, [], ◌∷◌, sym, ap, ◌∙◌}
use Rattle.model_core.specs.Run.Pending.{Entry, is_of, is_event_with, without_all}
use Rattle.model_core.specs.Saved.DueOrder.{in_due_order}
use Rattle.pair_laws.specs.Effects.{Effect, Appends, CancelsNext, CancelsEqual, CancelsAll, after_effect, after_effects}
use Rattle.order_laws.proofs.DueSorted.{sorted, put_after, sorted-scheduled}
use Rattle.order_laws.proofs.SortedTakenOff.{without_first, sorted-without_next}
use Rattle.order_laws.proofs.SortedWithoutAll.{sorted-without_all}
use Rattle.order_laws.proofs.InDueOrder.{due_order-sorted}

-- an effect on a sorted list
abbrev pub on_sorted : Effect → List Entry → List Entry
on_sorted (Appends e) l = put_after e l
on_sorted (CancelsNext vertex) l = without_first (is_of vertex) l
on_sorted (CancelsEqual vertex values) l = without_first (is_event_with vertex values) l
on_sorted (CancelsAll vertex) l = without_all (is_of vertex) l

pub sorted-effect : (f : Effect) (p : List Entry) → sorted (after_effect f p) ≡ on_sorted f (sorted p)
sorted-effect (Appends e) p = sorted-scheduled p e
sorted-effect (CancelsNext vertex) p = sorted-without_next (is_of vertex) p
sorted-effect (CancelsEqual vertex values) p = sorted-without_next (is_event_with vertex values) p
sorted-effect (CancelsAll vertex) p = sorted-without_all (is_of vertex) p

pub effect-alike : (f : Effect) (p q : List Entry) → sorted p ≡ sorted q → sorted (after_effect f p) ≡ sorted (after_effect f q)
effect-alike f p q due = sorted-effect f p ∙ ap (on_sorted f) due ∙ sym (sorted-effect f q)

pub effects-alike : (fs : List Effect) (p q : List Entry) → sorted p ≡ sorted q → sorted (after_effects fs p) ≡ sorted (after_effects fs q)
effects-alike [] p q due = due
effects-alike (f ∷ fs) p q due = effects-alike fs (after_effect f p) (after_effect f q) (effect-alike f p q due)

-- lists that are the same in due order are the same sorted, and the other way round
pub to_sorted : (p q : List Entry) → in_due_order p ≡ in_due_order q → sorted p ≡ sorted q
to_sorted p q due = sym (due_order-sorted p) ∙ due ∙ due_order-sorted q

pub from_sorted : (p q : List Entry) → sorted p ≡ sorted q → in_due_order p ≡ in_due_order q
from_sorted p q due = due_order-sorted p ∙ due ∙ sym (due_order-sorted q)

pub due_order-suffices : (fs : List Effect) (p q : List Entry) → in_due_order p ≡ in_due_order q → in_due_order (after_effects fs p) ≡ in_due_order (after_effects fs q)
due_order-suffices fs p q due = from_sorted (after_effects fs p) (after_effects fs q) (effects-alike fs p q (to_sorted p q due))
