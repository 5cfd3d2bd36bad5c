-- Pending lists as they are seen by classes: the next entries, and what effects do to them.
use Rattle.std.proofs.Common.{◌≡◌, ℕ, ℤ, Bool, true, false, cond, ◌&&◌, eqb, List, [], ◌∷◌, ◌++◌, map, Option, Some, None, option_map, refl, sym, ap, ap₂, ◌∙◌, arith}
use Rattle.std.proofs.lemmas.Bool.Decides.{nat_tests}
use Rattle.std.specs.List.{AllByRecursion}
use Rattle.sig_base.proofs.Lists.{every-always}
use Rattle.model_core.specs.Run.Pending.{Entry, EntryAndRest, sooner, next_entry, same_values, is_of, is_event_with}
use Rattle.run_laws.proofs.MappedPending.{KeepsDue, taken_off_mapped, next_among-mapped, without_next-mapped, without_all-mapped}
use Rattle.pair_laws.specs.Effects.{Effect, Appends, CancelsNext, CancelsEqual, CancelsAll, after_effect, after_effects}
use Rattle.pair_laws.specs.Pairing.{Classes, entry_seen, effect_seen, IsAlone, AllCount, TakesAwayAlone}
use Rattle.order_laws.proofs.DueSorted.{put_in, sorted}
use Rattle.order_laws.proofs.InDueOrder.{sorted-front, sorted-none}

-- ---- a map that keeps when entries are due

module _ (r : Entry → Entry) (keeps : KeepsDue r) where
  sooner-kept : (a b : Entry) → sooner (r a) (r b) ≡ sooner a b
  sooner-kept a b = rw (keeps.times a, keeps.times b, keeps.priorities a, keeps.priorities b) refl

  put-mapped : (e : Entry) (l : List Entry) → put_in (r e) (map r l) ≡ map r (put_in e l)
  put-mapped e [] = refl
  put-mapped e (x ∷ xs) =
      ap₂ (λ b (rest : List Entry). cond b (r x ∷ rest) (r e ∷ r x ∷ map r xs)) (sooner-kept x e) (put-mapped e xs) ∙ chosen (sooner x e) where
        chosen : (b : Bool) → cond b (r x ∷ map r (put_in e xs)) (r e ∷ r x ∷ map r xs) ≡ map r (cond b (x ∷ put_in e xs) (e ∷ x ∷ xs))
        chosen true = refl
        chosen false = refl

  pub sorted-mapped : (p : List Entry) → sorted (map r p) ≡ map r (sorted p)
  sorted-mapped [] = refl
  sorted-mapped (e ∷ p) = ap (put_in (r e)) (sorted-mapped p) ∙ put-mapped e (sorted p)

  pub mapped-alike : (p q : List Entry) → sorted p ≡ sorted q → sorted (map r p) ≡ sorted (map r q)
  mapped-alike p q due = sorted-mapped p ∙ ap (map r) due ∙ sym (sorted-mapped q)

  pub next-mapped : (p : List Entry) → next_entry (map r p) ≡ option_map (taken_off_mapped r) (next_entry p)
  next-mapped p = next_among-mapped r keeps (λ e. true) (λ e. true) p (every-always (λ (e : Entry). true ≡ true) (λ e. refl) p)

-- ---- the next of two lists

-- the next entries are the same, and the others are the same once they are sorted
abbrev pub NextAlike : Option EntryAndRest → Option EntryAndRest → Type 0
NextAlike None None = Unit {0}
NextAlike None (Some k) = ⊥
NextAlike (Some n) None = ⊥
NextAlike (Some n) (Some k) = (n.entry ≡ k.entry) × (sorted n.others ≡ sorted k.others)

pub next-alike : (a b : List Entry) → sorted a ≡ sorted b → (o q : Option EntryAndRest) → next_entry a ≡ o → next_entry b ≡ q → NextAlike o q
next-alike a b due None None e h = tt
next-alike a b due None (Some k) e h = let no = sym (sorted-none a e) ∙ due ∙ sorted-front b k h in cc
next-alike a b due (Some n) None e h = let no = sym (sorted-front a n e) ∙ due ∙ sorted-none b h in cc
next-alike a b due (Some n) (Some k) e h =
    let same : n.entry ∷ sorted n.others ≡ k.entry ∷ sorted k.others = sym (sorted-front a n e) ∙ due ∙ sorted-front b k h in
    (cc, cc)

-- ---- what is seen

pub seen-keeps : (k : Classes) → KeepsDue (entry_seen k)
seen-keeps k = record { times = λ e. refl; priorities = λ e. refl }

all-so : (P : Entry → Type 0) → ((e : Entry) → P e) → (p : List Entry) → AllByRecursion P p
all-so P each [] = tt
all-so P each (e ∷ p) = (each e, all-so P each p)

map-behind : (r : Entry → Entry) (p : List Entry) (e : Entry) → map r (p ++ e ∷ []) ≡ map r p ++ r e ∷ []
map-behind r [] e = refl
map-behind r (x ∷ p) e = ap (λ l. r x ∷ l) (map-behind r p e)

module _ (k : Classes) where
  eqb-true : (v w : ℕ) → v ≡ w → eqb v w ≡ true
  eqb-true v w e = grind (arith, nat_tests)

  eqb-is : (v w : ℕ) → eqb v w ≡ true → v ≡ w
  eqb-is v w e = grind (arith, nat_tests)

  of-seen : (v : ℕ) → IsAlone k v → (e : Entry) → is_of (k.vertices v) (entry_seen k e) ≡ is_of v e
  of-seen v alone e = chosen (eqb e.vertex v) (eqb (k.vertices e.vertex) (k.vertices v)) refl refl where
    chosen : (b c : Bool) → eqb e.vertex v ≡ b → eqb (k.vertices e.vertex) (k.vertices v) ≡ c → c ≡ b
    chosen true true hb hc = refl
    chosen false false hb hc = refl
    chosen true false hb hc = sym hc ∙ eqb-true _ _ (ap k.vertices (eqb-is e.vertex v hb))
    chosen false true hb hc = sym (sym hb ∙ eqb-true _ _ (alone e.vertex (eqb-is _ _ hc)))

  with-seen : (v : ℕ) (values : List ℤ) → IsAlone k v → AllCount k v → (e : Entry) → is_event_with (k.vertices v) (k.counting v values) (entry_seen k e) ≡ is_event_with v values e
  with-seen v values alone count e = ap (λ b. b && same_values (k.counting e.vertex e.values) (k.counting v values)) (of-seen v alone e) ∙ chosen (is_of v e) refl where
    chosen : (b : Bool) → is_of v e ≡ b → (b && same_values (k.counting e.vertex e.values) (k.counting v values)) ≡ (b && same_values e.values values)
    chosen true h = ap₂ same_values (ap (λ w. k.counting w e.values) (eqb-is e.vertex v h) ∙ count e.values) (count values)
    chosen false h = refl

  pub effect-seen : (f : Effect) → TakesAwayAlone k f → (p : List Entry) → map (entry_seen k) (after_effect f p) ≡ after_effect (effect_seen k f) (map (entry_seen k) p)
  effect-seen (Appends e) alone p = map-behind (entry_seen k) p e
  effect-seen (CancelsNext v) alone p = sym (without_next-mapped (entry_seen k) (seen-keeps k) (is_of v) (is_of (k.vertices v)) p (all-so _ (of-seen v alone) p))
  effect-seen (CancelsEqual v values) (alone, count) p =
      sym (without_next-mapped (entry_seen k) (seen-keeps k) (is_event_with v values) (is_event_with (k.vertices v) (k.counting v values)) p (all-so _ (with-seen v values alone count) p))
  effect-seen (CancelsAll v) alone p = sym (without_all-mapped (entry_seen k) (is_of v) (is_of (k.vertices v)) p (all-so _ (of-seen v alone) p))

  pub effects-seen : (fs : List Effect) → AllByRecursion (TakesAwayAlone k) fs → (p : List Entry) → map (entry_seen k) (after_effects fs p) ≡ after_effects (map (effect_seen k) fs) (map (entry_seen k) p)
  effects-seen [] all p = refl
  effects-seen (f ∷ fs) (alone, all) p = effects-seen fs all (after_effect f p) ∙ ap (after_effects (map (effect_seen k) fs)) (effect-seen f alone p)
