-- The pending list in the definition's words.
use Rattle.std.proofs.Common.{◌≡◌, ℕ, zero, suc, ◌+◌, ◌*◌, ◌/◌, ◌^◌, ◌<◌, ◌≤◌, ◌≢◌, Bool, true, false, List, [], ◌∷◌, ◌++◌, length, get_or, Option, Some, None, IsSome, option_map, option_to_list, unwrap_or, refl, sym, ◌∙◌, ap, subst, arith, eq-eqb}
use Rattle.std.proofs.lemmas.List.{map_push, length-map}
use Rattle.std.proofs.Math.Nat.{pow-suc}
use Rattle.std.specs.List.{AllByRecursion}
use Rattle.event_list.specs.KeyOrder.{KeyParts, comes_before}
use Rattle.model_core.specs.Run.Pending.{Entry, EntryAndRest, is_of, next_or_first, next_among, next_entry, without_next}
use Rattle.model_core.proofs.EachOne.{every-map}
use Rattle.event_list.specs.FirstOfEntry.{first_of}
use Rattle.event_heap.specs.declared.node.Item.{Item}
use Rattle.event_heap.specs.Inner.Tree.{key_of, precedes}
use Rattle.event_heap.specs.Inner.Listed.{placed, entries_of}
use Rattle.event_heap.specs.Inner.Next.{IsNextOf, IsNext, IsWithoutNext}
use Rattle.event_heap.specs.Inner.Held.{Held, top_of, IsQuickFor}
use Rattle.event_heap.specs.Inner.Kept.{IsNextVertex}
use Rattle.event_heap.specs.BinaryLength.{digits_within, digits}
use Rattle.event_heap.specs.Inner.Top.{IsTop}
use Rattle.event_heap.proofs.TreeLaws.{first_along}
use Rattle.event_heap.proofs.ListedLaws.{length-placed, next-placed, none-passes, placed-last, each-placed}
use Rattle.event_heap.proofs.HeldLaws.{one-less}
use Rattle.event_heap.proofs.Arriving.{each-of_placed}

-- ---- the next event is the next entry

pub next-is : (test : Entry → Bool) (events rest : List Item) (o : Option Item) → IsWithoutNext test events rest o → option_map (λ (n : EntryAndRest). n.entry) (next_among test (entries_of events)) ≡ option_map (λ (x : Item). x.entry) o
next-is test events rest None h = ap (option_map (λ (n : EntryAndRest). n.entry)) (none-passes test events h.1)
next-is test events rest (Some x) h =
    ap (λ xs. option_map (λ (n : EntryAndRest). n.entry) (next_among test (entries_of xs))) h.is ∙ ap (option_map (λ (n : EntryAndRest). n.entry)) (next-placed test x rest h.passes h.rising h.first)

pub rest-is : (test : Entry → Bool) (events rest : List Item) (o : Option Item) → IsWithoutNext test events rest o → entries_of rest ≡ without_next test (entries_of events)
rest-is test events rest None h = rw (none-passes test events h.1) (ap entries_of h.0)
rest-is test events rest (Some x) h =
    sym (ap (λ xs. without_next test (entries_of xs)) h.is ∙ ap (λ o. unwrap_or (option_map (λ (n : EntryAndRest). n.others) o) (entries_of (placed x rest))) (next-placed test x rest h.passes h.rising h.first))

-- ---- without events no vertex has a key

pub no-next : (test : Entry → Bool) (events : List Item) (o : Option Item) → length events ≡ 0 → IsNext test events o → o ≡ None
no-next test events None e h = refl
no-next test events (Some x) e (rest, n) = let more = ap length n.is ∙ length-placed x rest in absurd (omega arith)

pub keyless : (heaps : Held) (keys : List (Option KeyParts)) (u : ℕ) → get_or keys u None ≡ option_map key_of (top_of heaps u) → IsNext (is_of u) heaps.events (top_of heaps u) → length heaps.events ≡ 0 → get_or keys u None ≡ None
keyless heaps keys u game next e = game ∙ ap (option_map key_of) (no-next (is_of u) heaps.events (top_of heaps u) e next)

-- ---- the vertex at the top has the next event

-- of the first events of all vertices none comes before x
late : (keys : List (Option KeyParts)) (tops : ℕ → Option Item) (x : Item) → ((u : ℕ) → get_or keys u None ≡ option_map key_of (tops u)) → ((u : ℕ) (other : KeyParts) → get_or keys u None ≡ Some other → comes_before other (key_of x) ≡ false) → (u : ℕ) (z : Item) → tops u ≡ Some z → precedes z x ≡ false
late keys tops x games top u z e = top u (key_of z) (games u ∙ ap (option_map key_of) e)

-- so no event comes before x
each_late : (events : List Item) (tops : ℕ → Option Item) (x : Item) → ((u : ℕ) → IsNext (is_of u) events (tops u)) → ((u : ℕ) (z : Item) → tops u ≡ Some z → precedes z x ≡ false) → (u : ℕ) (o : Option Item) → tops u ≡ o → AllByRecursion (λ y. is_of u y.entry ≡ true → precedes y x ≡ false) events
each_late events tops x firsts first u None e =
    every-map (λ (y : Item). is_of u y.entry ≡ false) (λ (y : Item). is_of u y.entry ≡ true → precedes y x ≡ false) (λ y n p. cc) events (subst (IsNext (is_of u) events) e (firsts u))
each_late events tops x firsts first u (Some z) e =
    let (rest, n) = subst (IsNext (is_of u) events) e (firsts u) in
    let z_late : precedes z x ≡ false = first u z e in
    let others = every-map (λ (y : Item). (y.number ≢ z.number) × (is_of u y.entry ≡ true → precedes y z ≡ false)) (λ (y : Item). is_of u y.entry ≡ true → precedes y x ≡ false) (λ y h p. first_along x z y z_late (h.1 p)) rest n.first in
    subst (AllByRecursion (λ (y : Item). is_of u y.entry ≡ true → precedes y x ≡ false)) (sym n.is) (each-placed (λ y. is_of u y.entry ≡ true → precedes y x ≡ false) z rest (λ p. z_late) others)

-- a property that holds of each vertex's events holds of each event
by_vertex : (P : Item → Type 0) (events : List Item) → ((u : ℕ) → AllByRecursion (λ y. is_of u y.entry ≡ true → P y) events) → AllByRecursion P events
by_vertex P [] h = tt
by_vertex P (y ∷ ys) h = ((h y.entry.vertex).0 (eq-eqb y.entry.vertex y.entry.vertex refl), by_vertex P ys (λ u. (h u).1))

module _ (events : List Item) (keys : List (Option KeyParts)) (tops : ℕ → Option Item) (games : (u : ℕ) → get_or keys u None ≡ option_map key_of (tops u)) (firsts : (u : ℕ) → IsNext (is_of u) events (tops u)) where
  none-late : (x : Item) → ((u : ℕ) (other : KeyParts) → get_or keys u None ≡ Some other → comes_before other (key_of x) ≡ false) → AllByRecursion (λ y. precedes y x ≡ false) events
  none-late x top = by_vertex (λ y. precedes y x ≡ false) events (λ u. each_late events tops x firsts (late keys tops x games top) u (tops u) refl)

  -- the first event of the vertex at the top is the next of all
  pub top-next : (v : ℕ) (x : Item) (rest : List Item) → IsTop keys (Some v) → tops v ≡ Some x → IsNextOf (is_of v) events x rest → IsNextOf (λ e. true) events x rest
  top-next v x rest (k, at, top) e n =
      let same : Some k ≡ Some (key_of x) = sym at ∙ games v ∙ ap (option_map key_of) e in
      let is : k ≡ key_of x = cc in
      let late = none-late x (λ u other g. subst (λ k. comes_before other k ≡ false) is (top u other g)) in
      let late_rest = (each-of_placed (λ y. precedes y x ≡ false) x rest (subst (AllByRecursion (λ (y : Item). precedes y x ≡ false)) n.is late)).1 in
      record {
        is = n.is;
        passes = refl;
        first = both (λ y. y.number ≢ x.number) (λ y. true ≡ true → precedes y x ≡ false) rest (every-map (λ (y : Item). (y.number ≢ x.number) × (is_of v y.entry ≡ true → precedes y x ≡ false)) (λ (y : Item). y.number ≢ x.number) (λ y h. h.0) rest n.first) (every-map (λ (y : Item). precedes y x ≡ false) (λ (y : Item). true ≡ true → precedes y x ≡ false) (λ y h p. h) rest late_rest);
        rising = n.rising;
      }
    where
      both : (P Q : Item → Type 0) (ys : List Item) → AllByRecursion P ys → AllByRecursion Q ys → AllByRecursion (λ y. P y × Q y) ys
      both P Q [] a b = tt
      both P Q (y ∷ ys) a b = ((a.0, b.0), both P Q ys a.1 b.1)

  -- without a vertex at the top there is no event
  pub no-top : IsTop keys None → events ≡ []
  no-top none = empty events (by_vertex (λ y. ⊥) events (λ u. by u (tops u) refl)) where
    empty : (xs : List Item) → AllByRecursion (λ y. ⊥) xs → xs ≡ []
    empty [] h = refl
    empty (x ∷ xs) h = absurd h.0

    by : (u : ℕ) (o : Option Item) → tops u ≡ o → AllByRecursion (λ y. is_of u y.entry ≡ true → ⊥) events
    by u None e = every-map (λ (y : Item). is_of u y.entry ≡ false) (λ (y : Item). is_of u y.entry ≡ true → ⊥) (λ y n p. cc) events (subst (IsNext (is_of u) events) e (firsts u))
    by u (Some z) e = let there : Some (key_of z) ≡ None = sym (games u ∙ ap (option_map key_of) e) ∙ none u in cc

  -- the vertex at the top has an event
  pub top-there : (v : ℕ) → IsTop keys (Some v) → (x : Item) × (tops v ≡ Some x)
  top-there v (k, at, top) = by (tops v) refl where
    by : (o : Option Item) → tops v ≡ o → (x : Item) × (tops v ≡ Some x)
    by None e = let there : Some k ≡ None = sym at ∙ games v ∙ ap (option_map key_of) e in cc
    by (Some x) e = (x, e)

-- the vertex at the top, in terms of the heaps
pub next-vertex : (heaps : Held) (keys : List (Option KeyParts)) → ((u : ℕ) → get_or keys u None ≡ option_map key_of (top_of heaps u)) → ((u : ℕ) → IsNext (is_of u) heaps.events (top_of heaps u)) → (o : Option ℕ) → IsTop keys o → IsNextVertex heaps o
next-vertex heaps keys games firsts None top = no-top heaps.events keys (top_of heaps) games firsts top
next-vertex heaps keys games firsts (Some v) top =
    let (x, e) = top-there heaps.events keys (top_of heaps) games firsts v top in
    (x, e, λ rest n. top-next heaps.events keys (top_of heaps) games firsts v x rest top e n)

-- the first event of that vertex, taken or seen
pub taken-next : (heaps : Held) (v : ℕ) (rest : List Item) (o : Option Item) → IsNextVertex heaps (Some v) → o ≡ top_of heaps v → IsWithoutNext (is_of v) heaps.events rest o → IsWithoutNext (λ e. true) heaps.events rest o
taken-next heaps v rest None (x, e, next) at h = let no : None ≡ Some x = at ∙ e in cc
taken-next heaps v rest (Some y) (x, e, next) at h =
    let same : Some y ≡ Some x = at ∙ e in
    let is : x ≡ y = cc in
    subst (λ y. IsNextOf (λ e. true) heaps.events y rest) is (next rest (subst (λ y. IsNextOf (is_of v) heaps.events y rest) (sym is) h))

pub seen-next : (heaps : Held) (v : ℕ) (y : Item) → IsNextVertex heaps (Some v) → Some y ≡ top_of heaps v → IsNext (is_of v) heaps.events (top_of heaps v) → option_map (λ (n : EntryAndRest). n.entry) (next_entry (entries_of heaps.events)) ≡ Some y.entry
seen-next heaps v y h at first =
    let (rest, n) = subst (IsNext (is_of v) heaps.events) (sym at) first in
    next-is (λ e. true) heaps.events rest (Some y) (taken-next heaps v rest (Some y) h at n)

pub first_shown-entry : (o : Option EntryAndRest) (e : Entry) → option_map (λ (n : EntryAndRest). n.entry) o ≡ Some e → Some (first_of e) ≡ option_map (λ (n : EntryAndRest). first_of n.entry) o
first_shown-entry None e h = cc
first_shown-entry (Some n) e h = let is : n.entry ≡ e = cc in ap (λ e. Some (first_of e)) (sym is)

-- where an entry is pending there is a next one
next_or_first-some : (e : Entry) (es : List Entry) (o : Option EntryAndRest) → IsSome (next_or_first e es o)
next_or_first-some e es None = refl
next_or_first-some e es (Some n) = refl

pub next-there : (es : List Entry) → length es ≢ 0 → IsSome (next_entry es)
next-there [] h = absurd (h refl)
next-there (e ∷ es) h = next_or_first-some e es (next_entry es)

-- ---- a new event

pub last-scheduled : (x : Item) (events : List Item) → AllByRecursion (λ y. y.number < x.number) events → entries_of (placed x events) ≡ entries_of events ++ x.entry ∷ []
last-scheduled x events h = ap entries_of (placed-last x events h) ∙ map_push (λ (x : Item). x.entry) events x

-- ---- binary lengths

half_less : (m f : ℕ) → m ≤ f → suc m / 2 ≤ f
half_less m f l = omega arith

below_within : (f n : ℕ) → n ≤ f → n < 2 ^ digits_within f n
below_within zero n l = omega arith
below_within (suc f) zero l = omega arith
below_within (suc f) (suc m) l =
    let half = below_within f (suc m / 2) (half_less m f (omega arith)) in
    let double = pow-suc 2 (digits_within f (suc m / 2)) in
    omega arith

pub below-digits : (n : ℕ) → n < 2 ^ digits n
unfolding digits
below-digits n = below_within n n (omega arith)

-- ---- what the parts keep

pub numbers-rest : (test : Entry → Bool) (n : ℕ) (events rest : List Item) (o : Option Item) → IsWithoutNext test events rest o → AllByRecursion (λ y. y.number < n) events → AllByRecursion (λ y. y.number < n) rest
numbers-rest test n events rest None h all = subst (AllByRecursion (λ (y : Item). y.number < n)) (sym h.0) all
numbers-rest test n events rest (Some x) h all = (each-of_placed (λ y. y.number < n) x rest (subst (AllByRecursion (λ (y : Item). y.number < n)) h.is all)).1

pub numbers-more : (x : Item) (n : ℕ) (events : List Item) → x.number ≡ n → AllByRecursion (λ y. y.number < n) events → AllByRecursion (λ y. y.number < n + 1) (placed x events)
numbers-more x n events e all = each-placed (λ y. y.number < n + 1) x events (omega arith) (every-map (λ (y : Item). y.number < n) (λ (y : Item). y.number < n + 1) (λ y l. omega arith) events all)

pub fewer-entries : (test : Entry → Bool) (events rest : List Item) (o : Option Item) → IsWithoutNext test events rest o → length (option_to_list o) + length (entries_of rest) ≡ length (entries_of events)
fewer-entries test events rest o h =
    let a = length-map events (λ (x : Item). x.entry) in
    let b = length-map rest (λ (x : Item). x.entry) in
    let less = one-less test events rest o h in
    omega arith

-- the comparisons of heaps and of the tournament together
pub few-comparisons : (events : List Item) (vertices start mid end : ℕ) → IsQuickFor events start mid → ((d : ℕ) → vertices ≤ 2 ^ d → end ≤ mid + d) → end ≤ start + (3 * (digits (length (entries_of events)) + 1) + digits vertices)
few-comparisons events vertices start mid end heaps games =
    let same = length-map events (λ (x : Item). x.entry) in
    let first = heaps (digits (length (entries_of events))) (let b = below-digits (length (entries_of events)) in subst (λ n. n < 2 ^ digits (length (entries_of events))) same b) in
    let second = games (digits vertices) (let b = below-digits vertices in omega arith) in
    omega arith
