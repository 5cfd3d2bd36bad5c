-- Edges that change places or are joined do the same but for the order of scheduling.
use Rattle.std.proofs.Common.{◌≡◌, Bool, true, false, not, cond, ◌&&◌, ◌||◌, List, [], ◌∷◌, ◌++◌, IsTrue, refl, sym, ap, ◌∙◌}
use Rattle.std.specs.List.{AllByRecursion}
use Rattle.model_core.specs.Run.Pending.{Entry}
use Rattle.pair_laws.specs.Effects.{after_effects, SameEffects}
use Rattle.pair_laws.specs.Exchanges.{EdgeEffect, effects_made, may_change, may_change_places, Exchanged, unchanged, exchanged, and_then, Ordered, all_ordered, next, joined_edge, Tidied, by_effects, by_order, by_joining, tidied_twice}
use Rattle.order_laws.proofs.DueSorted.{sorted}
use Rattle.pair_laws.proofs.EventEffects.{after-append}
use Rattle.pair_laws.proofs.EffectsInDueOrder.{effects-alike, from_sorted}
use Rattle.pair_laws.proofs.FreeCancels.{exchange-effects}

-- edges leave pending lists that are the same sorted
abbrev pub SameSorted : List EdgeEffect → List EdgeEffect → Type 0
SameSorted ks ls = (p : List Entry) → sorted (after_effects (effects_made ks) p) ≡ sorted (after_effects (effects_made ls) p)

pub made-append : (ks ls : List EdgeEffect) → effects_made (ks ++ ls) ≡ effects_made ks ++ effects_made ls
made-append [] ls = refl
made-append (k ∷ ks) ls = ap (λ l. cond k.holds (k.effect ∷ l) l) (made-append ks ls) ∙ chosen k.holds where
  chosen : (b : Bool) → cond b (k.effect ∷ effects_made ks ++ effects_made ls) (effects_made ks ++ effects_made ls) ≡ cond b (k.effect ∷ effects_made ks) (effects_made ks) ++ effects_made ls
  chosen true = refl
  chosen false = refl

-- the front, and then the rest
in_two : (front ks : List EdgeEffect) (p : List Entry) → after_effects (effects_made (front ++ ks)) p ≡ after_effects (effects_made ks) (after_effects (effects_made front) p)
in_two front ks p = ap (λ fs. after_effects fs p) (made-append front ks) ∙ after-append (effects_made front) (effects_made ks) p

pub behind-front : (front ks ls : List EdgeEffect) → SameSorted ks ls → SameSorted (front ++ ks) (front ++ ls)
behind-front front ks ls same p = ap sorted (in_two front ks p) ∙ same (after_effects (effects_made front) p) ∙ sym (ap sorted (in_two front ls p))

-- so too in due order
from_same : (ks ls : List EdgeEffect) → SameSorted ks ls → SameEffects (effects_made ks) (effects_made ls)
from_same ks ls same p = from_sorted (after_effects (effects_made ks) p) (after_effects (effects_made ls) p) (same p)

-- ---- neighbours

exchange-in : (a b : EdgeEffect) (back : List EdgeEffect) (c d : Bool) → IsTrue (not (c && d) || may_change a.effect b.effect) → (p : List Entry)
    → sorted (after_effects (cond c (a.effect ∷ cond d (b.effect ∷ effects_made back) (effects_made back)) (cond d (b.effect ∷ effects_made back) (effects_made back))) p)
    ≡ sorted (after_effects (cond d (b.effect ∷ cond c (a.effect ∷ effects_made back) (effects_made back)) (cond c (a.effect ∷ effects_made back) (effects_made back))) p)
exchange-in a b back true true may p = effects-alike (effects_made back) _ _ (exchange-effects a.effect b.effect may p)
exchange-in a b back true false may p = refl
exchange-in a b back false true may p = refl
exchange-in a b back false false may p = refl

pub exchange-two : (a b : EdgeEffect) (back : List EdgeEffect) → IsTrue (may_change_places a b) → SameSorted (a ∷ b ∷ back) (b ∷ a ∷ back)
exchange-two a b back may p = exchange-in a b back a.holds b.holds may p

exchanged-sorted : {ks ls : List EdgeEffect} → Exchanged ks ls → SameSorted ks ls
exchanged-sorted (unchanged ks) = λ p. refl
exchanged-sorted (exchanged front a b back may) = behind-front front (a ∷ b ∷ back) (b ∷ a ∷ back) (exchange-two a b back may)
exchanged-sorted (and_then {ks} {ls} {ms} one two) = λ p. exchanged-sorted one p ∙ exchanged-sorted two p

pub exchanged-same : (ks ls : List EdgeEffect) → Exchanged ks ls → SameEffects (effects_made ks) (effects_made ls)
exchanged-same ks ls e = from_same ks ls (exchanged-sorted e)

-- ---- one before all that are left

pub to_the_front : (front : List EdgeEffect) (k : EdgeEffect) (back : List EdgeEffect) → AllByRecursion (λ f. IsTrue (may_change_places f k)) front → SameSorted (front ++ k ∷ back) (k ∷ front ++ back)
to_the_front [] k back all p = refl
to_the_front (f ∷ front) k back (may, all) p =
    behind-front (f ∷ []) (front ++ k ∷ back) (k ∷ front ++ back) (to_the_front front k back all) p
    ∙ exchange-two f k (front ++ back) may p

ordered-sorted : {ks ls : List EdgeEffect} → Ordered ks ls → SameSorted ks ls
ordered-sorted all_ordered = λ p. refl
ordered-sorted (next front k back out all later) = λ p. to_the_front front k back all p ∙ behind-front (k ∷ []) (front ++ back) out (ordered-sorted later) p

pub ordered-same : (ks ls : List EdgeEffect) → Ordered ks ls → SameEffects (effects_made ks) (effects_made ls)
ordered-same ks ls o = from_same ks ls (ordered-sorted o)

-- ---- two joined

join-two : (a b : EdgeEffect) (back : List EdgeEffect) → (a.holds && b.holds) ≡ false → (p : List Entry) → sorted (after_effects (effects_made (a ∷ b ∷ back)) p) ≡ sorted (after_effects (effects_made (joined_edge a b ∷ back)) p)
join-two a b back apart p = chosen a.holds b.holds apart where
  chosen : (c d : Bool) → (c && d) ≡ false
      → sorted (after_effects (cond c (a.effect ∷ cond d (b.effect ∷ effects_made back) (effects_made back)) (cond d (b.effect ∷ effects_made back) (effects_made back))) p)
      ≡ sorted (after_effects (cond (c || d) (cond c a.effect b.effect ∷ effects_made back) (effects_made back)) p)
  chosen true true h = cc
  chosen true false h = refl
  chosen false true h = refl
  chosen false false h = refl

joined_edge-sorted : (front : List EdgeEffect) (a : EdgeEffect) (between : List EdgeEffect) (b : EdgeEffect) (back : List EdgeEffect) → (a.holds && b.holds) ≡ false → AllByRecursion (λ k. IsTrue (may_change_places k b)) between → SameSorted (front ++ (a ∷ between ++ b ∷ back)) (front ++ (joined_edge a b ∷ between ++ back))
joined_edge-sorted front a between b back apart all =
    behind-front front (a ∷ between ++ b ∷ back) (joined_edge a b ∷ between ++ back)
    (λ q. behind-front (a ∷ []) (between ++ b ∷ back) (b ∷ between ++ back) (to_the_front between b back all) q ∙ join-two a b (between ++ back) apart q)

pub joined_edge-same : (front : List EdgeEffect) (a : EdgeEffect) (between : List EdgeEffect) (b : EdgeEffect) (back : List EdgeEffect) → (a.holds && b.holds) ≡ false → AllByRecursion (λ k. IsTrue (may_change_places k b)) between → SameEffects (effects_made (front ++ (a ∷ between ++ b ∷ back))) (effects_made (front ++ (joined_edge a b ∷ between ++ back)))
joined_edge-same front a between b back apart all = from_same (front ++ (a ∷ between ++ b ∷ back)) (front ++ (joined_edge a b ∷ between ++ back)) (joined_edge-sorted front a between b back apart all)

-- ---- ordered and joined, any number of times

tidied-sorted : {ks ls : List EdgeEffect} → Tidied ks ls → SameSorted ks ls
tidied-sorted (by_effects e) = λ p. ap (λ fs. sorted (after_effects fs p)) e
tidied-sorted (by_order o) = ordered-sorted o
tidied-sorted (by_joining front a between b back apart all) = joined_edge-sorted front a between b back apart all
tidied-sorted (tidied_twice one two) = λ p. tidied-sorted one p ∙ tidied-sorted two p

pub tidied-same : (ks ls : List EdgeEffect) → Tidied ks ls → SameEffects (effects_made ks) (effects_made ls)
tidied-same ks ls t = from_same ks ls (tidied-sorted t)
