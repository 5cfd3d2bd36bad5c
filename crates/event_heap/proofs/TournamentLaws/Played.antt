-- How a new key and one more game change the games that are played.
use Rattle.std.proofs.Common.{◌≡◌, ◌≢◌, ℕ, ◌+◌, ◌*◌, ◌/◌, ◌≤◌, ◌<◌, inl, inr, List, length, get_or, set, Option, None, sym, ◌∙◌, arith}
use Rattle.std.proofs.lemmas.Bool.{cases_lt, cases_eq}
use Rattle.std.proofs.lemmas.List.{length-set, get_or-set_same, get_or-set_other}
use Rattle.event_list.specs.KeyOrder.{KeyParts}
use Rattle.event_heap.specs.Inner.Games.{IsAbove, IsWinner, IsWon, IsPlayed, IsWonWithout, IsReplayed}
use Rattle.event_heap.specs.Inner.Games.IsAbove.{itself, higher}
use Rattle.event_heap.proofs.TournamentLaws.Places.{above-le, never_above-zero, above-up, above-both_up, above-cases, above-comparable, neighbours-same}

-- ---- a key more

-- a game stays won where the key of another vertex changes
won-other_key : (keys : List (Option KeyParts)) (winners : List ℕ) (v : ℕ) (key : Option KeyParts) (place : ℕ) → get_or winners (2 * place) 0 ≢ v → get_or winners (2 * place + 1) 0 ≢ v → IsWon keys winners place → IsWon (set keys v key) winners place
won-other_key keys winners v key place l r h =
    let w : get_or winners place 0 ≢ v = λ e. elim h.either [ inl a ↦ l (sym a ∙ e) | inr b ↦ r (sym b ∙ e) ] in
    let same : get_or (set keys v key) (get_or winners place 0) None ≡ get_or keys (get_or winners place 0) None = get_or-set_other keys v (get_or winners place 0) key None w in
    record {
      either = h.either;
      left_loses = rw (get_or-set_other keys v (get_or winners (2 * place) 0) key None l, same) h.left_loses;
      right_loses = rw (get_or-set_other keys v (get_or winners (2 * place + 1) 0) key None r, same) h.right_loses;
    }

-- a vertex is in none of the games but those above its own place
not_held : (keys : List (Option KeyParts)) (winners : List ℕ) (v place : ℕ) → IsPlayed keys winners 0 → 0 < place → place < length winners → (IsAbove (place / 2) ((length keys + v) / 2) → ⊥) → get_or winners place 0 ≢ v
not_held keys winners v place h p l free e =
    free (above-both_up place (length keys + v) (rw e at (h.held place p l)))

played-set_key : (keys : List (Option KeyParts)) (winners : List ℕ) (v : ℕ) (key : Option KeyParts) → IsPlayed keys winners 0 → v < length keys → IsPlayed (set keys v key) winners ((length keys + v) / 2)
played-set_key keys winners v key h l = record {
  places = rw length-set h.places;
  vertices = λ place p. rw length-set (h.vertices place p);
  seats = λ u q. rw length-set (h.seats u (rw length-set at q));
  held = λ place p q. rw length-set (h.held place p q);
  games = λ place p q free.
      let q' : place < length keys = rw length-set at q in
      let half : 2 * place / 2 ≡ place = omega arith in
      let half' : (2 * place + 1) / 2 ≡ place = omega arith in
      won-other_key keys winners v key place
      (not_held keys winners v (2 * place) h (omega arith) (omega (arith, h.places)) (rw half free))
      (not_held keys winners v (2 * place + 1) h (omega arith) (omega (arith, h.places)) (rw half' free))
      (h.games place p q' (never_above-zero place p));
}

pub replayed-set_key : (keys : List (Option KeyParts)) (winners : List ℕ) (v : ℕ) (key : Option KeyParts) → IsPlayed keys winners 0 → v < length keys → IsReplayed (set keys v key) winners v ((length keys + v) / 2)
replayed-set_key keys winners v key h l = record {
  played = played-set_key keys winners v key h l;
  own = rw length-set (above-up (length keys + v) (length keys + v) itself);
  ahead = λ place p q.
      let won : IsWon keys winners place = h.games place p (omega arith) (never_above-zero place p) in
      record {
        one_of_two = won.either;
        won = λ a b. won-other_key keys winners v key place a b won;
      };
}

-- ---- a game more

-- the games are played from the next place on, once a place has its winner
played-set_winner : (keys : List (Option KeyParts)) (winners : List ℕ) (place winner : ℕ) → IsPlayed keys winners place → 0 < place → place < length keys → IsWinner keys (get_or winners (2 * place) 0) (get_or winners (2 * place + 1) 0) winner → IsPlayed keys (set winners place winner) (place / 2)
played-set_winner keys winners place winner h p l won =
    let left = get_or winners (2 * place) 0 in
    let right = get_or winners (2 * place + 1) 0 in
    let at : place < length winners = omega (arith, h.places) in
    let same : get_or (set winners place winner) place 0 ≡ winner = get_or-set_same winners place winner 0 at in
    let other : (i : ℕ) → i ≢ place → get_or (set winners place winner) i 0 ≡ get_or winners i 0 = λ i n. get_or-set_other winners place i winner 0 n in
    record {
      places = length-set winners place winner ∙ h.places;
      vertices = λ i q. elim (cases_eq i place) [
        | inl e ↦ rw (e, same) (elim won.either [
          | inl w ↦ rw w (h.vertices (2 * place) (omega (arith, h.places)))
          | inr w ↦ rw w (h.vertices (2 * place + 1) (omega (arith, h.places)))
        ])
        | inr n ↦ rw (other i n) (h.vertices i (rw length-set at q))
      ];
      seats = λ v q. let n : length keys + v ≢ place = omega arith in other (length keys + v) n ∙ h.seats v q;
      held = λ i q r. elim (cases_eq i place) [
        | inl e ↦ rw (e, same) (elim won.either [
          | inl w ↦
              let half : 2 * place / 2 ≡ place = omega arith in
              rw w (rw half at (above-up (2 * place) (length keys + left) (h.held (2 * place) (omega arith) (omega (arith, h.places)))))
          | inr w ↦
              let half : (2 * place + 1) / 2 ≡ place = omega arith in
              rw w (rw half at (above-up (2 * place + 1) (length keys + right) (h.held (2 * place + 1) (omega arith) (omega (arith, h.places)))))
        ])
        | inr n ↦ rw (other i n) (h.held i q (rw length-set at r))
      ];
      games = λ i q r free.
          let nl : 2 * i ≢ place = λ e. free (let half : place / 2 ≡ i = omega arith in rw half itself) in
          let nr : 2 * i + 1 ≢ place = λ e. free (let half : place / 2 ≡ i = omega arith in rw half itself) in
          elim (cases_eq i place) [
            | inl e ↦
                let pl : 2 * place ≢ place = omega arith in
                let pr : 2 * place + 1 ≢ place = omega arith in
                rw (e, same, other (2 * place) pl, other (2 * place + 1) pr) won
            | inr n ↦
                let before : IsWon keys winners i = h.games i q r (λ a. elim (above-cases i place a) [ inl e ↦ n e | inr b ↦ free b ]) in
                rw (other i n, other (2 * i) nl, other (2 * i + 1) nr) before
          ];
    }

pub replayed-set_winner : (keys : List (Option KeyParts)) (winners : List ℕ) (v place winner : ℕ) → IsReplayed keys winners v place → 0 < place → place < length keys → IsWinner keys (get_or winners (2 * place) 0) (get_or winners (2 * place + 1) 0) winner → IsReplayed keys (set winners place winner) v (place / 2)
replayed-set_winner keys winners v place winner h p l won =
    let other : (i : ℕ) → i ≢ place → get_or (set winners place winner) i 0 ≡ get_or winners i 0 = λ i n. get_or-set_other winners place i winner 0 n in
    record {
      played = played-set_winner keys winners place winner h.played p l won;
      own = above-up place (length keys + v) h.own;
      ahead = λ i q r.
          let n : i ≢ place = omega arith in
          let nl : 2 * i ≢ place = omega arith in
          let nr : 2 * i + 1 ≢ place = omega arith in
          let before : IsWonWithout keys winners v i = h.ahead i q (omega arith) in
          record {
            one_of_two = rw (other i n, other (2 * i) nl, other (2 * i + 1) nr) before.one_of_two;
            won = λ a b. rw (other i n, other (2 * i) nl, other (2 * i + 1) nr) (before.won (rw (other (2 * i) nl) at a) (rw (other (2 * i + 1) nr) at b));
          };
    }

-- ---- no game more

-- where a vertex is at a place above, it is at each place between this one and its own
held-between : (keys : List (Option KeyParts)) (winners : List ℕ) (v place : ℕ) → IsReplayed keys winners v place → place < length keys → (top below : ℕ) → IsAbove top below → 0 < top → below ≤ place → IsAbove below (length keys + v) → get_or winners top 0 ≡ v → get_or winners below 0 ≡ v
held-between keys winners v place h l top _ itself p b o e = e
held-between keys winners v place h l top below (higher _ up) p b o e =
    let some : 0 < below / 2 = (let k : top ≤ below / 2 = above-le top (below / 2) up in omega arith) in
    let above : get_or winners (below / 2) 0 ≡ v = held-between keys winners v place h l top (below / 2) up p (omega arith) (above-up below (length keys + v) o) e in
    let here : (child : ℕ) → child < length winners → 0 < child → child / 2 ≡ below / 2 → get_or winners (below / 2) 0 ≡ get_or winners child 0 → get_or winners below 0 ≡ v = λ child c q s w.
    let at_child : get_or winners child 0 ≡ v = sym w ∙ above in
    let same : child ≡ below = neighbours-same child below (length keys + v) q (omega arith) s (rw at_child at (h.played.held child q c)) o in
    rw (← same) at_child in
    elim (h.ahead (below / 2) some (omega arith)).one_of_two [
      | inl w ↦ here (2 * (below / 2)) (omega (arith, h.played.places)) (omega arith) (omega arith) w
      | inr w ↦ here (2 * (below / 2) + 1) (omega (arith, h.played.places)) (omega arith) (omega arith) w
    ]

-- a vertex that isn't at a place is at none above it, nor beside one of these
not_held-ahead : (keys : List (Option KeyParts)) (winners : List ℕ) (v place : ℕ) → IsReplayed keys winners v place → 0 < place → place < length keys → get_or winners place 0 ≢ v → (other : ℕ) → 0 < other / 2 → 2 * (other / 2) ≤ place → get_or winners other 0 ≢ v
not_held-ahead keys winners v place h p l n other q r e =
    let o : IsAbove other (length keys + v) = rw e at (h.played.held other (omega arith) (omega (arith, h.played.places))) in
    elim (above-comparable other place (length keys + v) o h.own) [
      | inl up ↦ n (held-between keys winners v place h l other place up (omega arith) (omega arith) h.own e)
      | inr down ↦ elim (above-cases place other down) [
        | inl same ↦ n (rw same e)
        | inr d ↦ let k : place ≤ other / 2 = above-le place (other / 2) d in omega arith
      ]
    ]

-- once a game has the winner that it had before, and this isn't the vertex with the new key, all games are played
pub replayed-same_winner : (keys : List (Option KeyParts)) (winners : List ℕ) (v place : ℕ) → IsReplayed keys winners v place → 0 < place → place < length keys → IsWon keys winners place → get_or winners place 0 ≢ v → IsPlayed keys winners 0
replayed-same_winner keys winners v place h p l won n = record {
  places = h.played.places;
  vertices = h.played.vertices;
  seats = h.played.seats;
  held = h.played.held;
  games = λ i q r _. elim (cases_lt place (2 * i)) [
    | inl below ↦ elim (cases_eq i place) [
      | inl e ↦ rw e won
      | inr m ↦ h.played.games i q r (λ a. elim (above-cases i place a) [
        | inl e ↦ m e
        | inr b ↦ let k : i ≤ place / 2 = above-le i (place / 2) b in omega arith
      ])
    ]
    | inr above ↦
        (h.ahead i q above).won
        (not_held-ahead keys winners v place h p l n (2 * i) (omega arith) (omega arith))
        (not_held-ahead keys winners v place h p l n (2 * i + 1) (omega arith) (omega arith))
  ];
}
