-- The vertex at the top has the least key.
use Rattle.std.proofs.Common.{◌≡◌, ℕ, suc, zero, ◌+◌, ◌*◌, ◌/◌, ◌≤◌, ◌<◌, inl, inr, false, List, length, get_or, Option, Some, None, refl, sym, subst, ◌∙◌, arith}
use Rattle.std.proofs.lemmas.Bool.{cases_lt, cases_eq}
use Rattle.std.proofs.lemmas.List.{get_or_past, get_or_read}
use Rattle.event_list.specs.KeyOrder.{KeyParts}
use Rattle.event_heap.specs.Inner.Top.{IsTop}
use Rattle.event_heap.specs.Inner.Games.{beats, IsWon, IsPlayed}
use Rattle.event_heap.proofs.TournamentLaws.KeyLaws.{beats-irreflexive, unbeaten-transitive}
use Rattle.event_heap.proofs.TournamentLaws.Places.{never_above-zero}

-- the vertex at a place doesn't beat the one at the place above
unbeaten_above : (keys : List (Option KeyParts)) (winners : List ℕ) (place : ℕ) → IsWon keys winners (place / 2) → beats (get_or keys (get_or winners place 0) None) (get_or keys (get_or winners (place / 2) 0) None) ≡ false
unbeaten_above keys winners place won =
    let P : ℕ → Type 0 = λ i. beats (get_or keys (get_or winners i 0) None) (get_or keys (get_or winners (place / 2) 0) None) ≡ false in
    elim (cases_eq (2 * (place / 2)) place) [
      | inl e ↦ subst P e won.left_loses
      | inr n ↦ let e : 2 * (place / 2) + 1 ≡ place = omega arith in subst P e won.right_loses
    ]

-- no vertex at a place beats the one at the top
unbeaten_within : (keys : List (Option KeyParts)) (winners : List ℕ) → IsPlayed keys winners 0 → (fuel place : ℕ) → place ≤ fuel → 0 < place → place < length winners → beats (get_or keys (get_or winners place 0) None) (get_or keys (get_or winners 1 0) None) ≡ false
unbeaten_within keys winners h zero place f p l = absurd (omega arith)
unbeaten_within keys winners h (suc fuel) place f p l = elim (cases_eq place 1) [
  | inl e ↦ rw e (beats-irreflexive (get_or keys (get_or winners 1 0) None))
  | inr n ↦
      let up : 0 < place / 2 = omega arith in
      unbeaten-transitive (get_or keys (get_or winners place 0) None) (get_or keys (get_or winners (place / 2) 0) None) (get_or keys (get_or winners 1 0) None)
      (unbeaten_above keys winners place (h.games (place / 2) up (omega (arith, h.places)) (never_above-zero (place / 2) up)))
      (unbeaten_within keys winners h fuel (place / 2) (omega arith) up (omega arith))
]

-- the top read as a vertex and its key
record TopRead (keys : List (Option KeyParts)) (winners : List ℕ) (top : ℕ) (key : Option KeyParts) : Type 0 where
  pub vertex : top ≡ get_or winners 1 0
  pub is_key : key ≡ get_or keys top None

top-read : (keys : List (Option KeyParts)) (winners : List ℕ) (top : ℕ) (key : Option KeyParts) → IsPlayed keys winners 0 → 0 < length keys → top ≡ get_or winners 1 top → key ≡ get_or keys top key → TopRead keys winners top key
top-read keys winners top key h some t k =
    let least : 1 < length winners = omega (arith, h.places) in
    let t0 : top ≡ get_or winners 1 0 = get_or_read winners 1 top least t 0 in
    record { vertex = t0; is_key = get_or_read keys top key (rw t0 (h.vertices 1 least)) k None }

-- no vertex beats the one at the top
top-unbeaten : (keys : List (Option KeyParts)) (winners : List ℕ) (top v : ℕ) (key : Option KeyParts) → IsPlayed keys winners 0 → TopRead keys winners top key → v < length keys → beats (get_or keys v None) key ≡ false
top-unbeaten keys winners top v key h r l =
    rw (r.is_key, r.vertex) (rw (h.seats v l) at (unbeaten_within keys winners h (length keys + v) (length keys + v) (omega arith) (omega arith) (omega (arith, h.places))))

none-unbeaten : (key : Option KeyParts) → beats key None ≡ false → key ≡ None
none-unbeaten None h = refl
none-unbeaten (Some k) h = cc

-- a key at the top is the least
pub top-with_key : (keys : List (Option KeyParts)) (winners : List ℕ) (top : ℕ) (key : Option KeyParts) (k : KeyParts) → IsPlayed keys winners 0 → 0 < length keys → top ≡ get_or winners 1 top → key ≡ get_or keys top key → key ≡ Some k → IsTop keys (Some top)
top-with_key keys winners top key k h some t read e =
    let r = top-read keys winners top key h some t read in (
      k,
      sym r.is_key ∙ e,
      λ u other o. elim (cases_lt u (length keys)) [
        | inl l ↦ rw (o, e) at (top-unbeaten keys winners top u key h r l)
        | inr l ↦ let p : get_or keys u None ≡ None = get_or_past keys u None l in cc
      ],
    )

-- where the top has no key, no vertex has
pub top-without_key : (keys : List (Option KeyParts)) (winners : List ℕ) (top : ℕ) (key : Option KeyParts) → IsPlayed keys winners 0 → 0 < length keys → top ≡ get_or winners 1 top → key ≡ get_or keys top key → key ≡ None → IsTop keys None
top-without_key keys winners top key h some t read e u =
    let r = top-read keys winners top key h some t read in
    elim (cases_lt u (length keys)) [
      | inl l ↦ none-unbeaten (get_or keys u None) (rw e at (top-unbeaten keys winners top u key h r l))
      | inr l ↦ get_or_past keys u None l
    ]
