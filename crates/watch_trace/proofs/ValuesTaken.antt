-- The values of watched things along a watch list, taken in place of others.
use Rattle.std.proofs.Common.{◌≡◌, ℕ, ◌+◌, ◌-◌, ◌<◌, ◌≤◌, ℤ, Bool, true, false, not, ◌||◌, ◌&&◌, List, [], ◌++◌, length, get_or, take, drop, map, refl, sym, ap, ap₂, ◌∙◌, arith}
use Rattle.std.specs.List.{flat_map}
use Rattle.std.proofs.lemmas.List.{drop-drop, take_all, drop_all, map_more, flat_map_more}
use Rattle.std.proofs.lemmas.Slice.{take-put_mid, drop-put_mid}
use borrow.Rule.Slice.PartMut.{mid_of, put_mid, mid_len, same_len_mid}
use Rattle.model_core.specs.Run.Pending.{same_values}
use Rattle.watch_trace.proofs.ValuesAlong.{enough, first_and_rest}

-- the values of the first i things are in front, up to this place, and the others are as they were; `new` says whether
-- the first ones are new
pub record TakenAlong {X Y : Type 0} (f : Y → List ℤ) (view : X → Y) (xs : List X) (i from : ℕ) (initial values : List ℤ) (new : Bool) : Type 0 where
  pub front : take from values ≡ flat_map f (map view (take i xs))
  pub rest : drop from values ≡ drop from initial
  pub long : from + length (flat_map f (map view (drop i xs))) ≡ length initial
  pub as_long : length values ≡ length initial
  pub compared : not (same_values initial (flat_map f (map view xs))) ≡ (new || not (same_values (drop from initial) (flat_map f (map view (drop i xs)))))

one-more-compared : (new same later : Bool) → (new || not (same && later)) ≡ ((not same || new) || not later)
one-more-compared true true later = refl
one-more-compared true false later = refl
one-more-compared false true later = refl
one-more-compared false false later = refl

module _ {X Y : Type 0} (f : Y → List ℤ) (view : X → Y) (xs : List X) where
  pub none_taken : (initial : List ℤ) → length (flat_map f (map view xs)) ≡ length initial → TakenAlong f view xs 0 0 initial initial false
  none_taken initial long = record { front = refl; rest = refl; long = omega (arith, long); as_long = refl; compared = refl }

  module _ (i : ℕ) (d : X) (below : i < length xs) (initial values cells : List ℤ) (from : ℕ) (new : Bool)
      (so_far : TakenAlong f view xs i from initial values new) (of_next : cells ≡ f (view (get_or xs i d))) where
    abbrev later : List ℤ
    later = flat_map f (map view (drop (i + 1) xs))

    room : from + (length cells + length later) ≡ length initial
    room = enough f view xs i d below initial cells from _ of_next refl so_far.long

    here : from ≤ length values
    here = omega (arith, room, so_far.as_long)

    -- there is room for the values of the next thing
    pub place_fits : from + length cells ≤ length values
    place_fits = omega (arith, room, so_far.as_long)

    module _ (place : List ℤ) (replaced : Bool) (put : place ≡ cells) (is_new : replaced ≡ not (same_values (mid_of from (from + length cells - from) values) cells)) where
      size : from + length cells - from ≡ length place
      size = omega (arith, ap length put)

      in_front : take (from + length cells) (put_mid from (from + length cells - from) values place) ≡ flat_map f (map view (take (i + 1) xs))
      in_front =
          take-put_mid from (from + length cells - from) values place (from + length cells) (omega (arith, ap length put)) here
          ∙ ap₂ (λ a b. a ++ b) so_far.front (put ∙ of_next)
          ∙ flat_map_more f [] (map view (take i xs)) (view (get_or xs i d))
          ∙ ap (flat_map f) (sym (map_more view xs i d below))

      untouched : drop (from + length cells) (put_mid from (from + length cells - from) values place) ≡ drop (from + length cells) initial
      untouched =
          drop-put_mid from (from + length cells - from) values place (from + length cells) (omega arith) here (sym size)
          ∙ sym (drop-drop (length cells) from values) ∙ ap (drop (length cells)) so_far.rest ∙ drop-drop (length cells) from initial

      compared_so_far : not (same_values initial (flat_map f (map view xs))) ≡ ((replaced || new) || not (same_values (drop (from + length cells) initial) later))
      compared_so_far =
          so_far.compared
          ∙ ap (λ b. new || not b) (first_and_rest f view xs i d below initial cells from _ of_next refl so_far.long)
          ∙ one-more-compared new (same_values (take (from + length cells - from) (drop from initial)) cells) (same_values (drop (from + length cells) initial) later)
          ∙ ap (λ b. (b || new) || not (same_values (drop (from + length cells) initial) later))
          (ap (λ l. not (same_values (take (from + length cells - from) l) cells)) (sym so_far.rest) ∙ sym is_new)

      -- the values of the next thing were put into their place
      pub one_taken : TakenAlong f view xs (i + 1) (from + length cells) initial (put_mid from (from + length cells - from) values place) (replaced || new)
      one_taken = record {
        front = in_front;
        rest = untouched;
        long = omega (arith, room);
        as_long = same_len_mid from (from + length cells - from) values place (sym size ∙ sym (mid_len from (from + length cells) values place_fits)) ∙ so_far.as_long;
        compared = compared_so_far;
      }

  -- those of all things are taken
  module _ (i from : ℕ) (initial values : List ℤ) (new : Bool) (beyond : length xs ≤ i) (so_far : TakenAlong f view xs i from initial values new) where
    at_end : length initial ≤ from
    at_end = omega (arith, so_far.long, ap (λ l. length (flat_map f (map view l))) (drop_all i xs beyond))

    pub whole_taken : values ≡ flat_map f (map view xs)
    whole_taken =
        sym (take_all from values (omega (arith, at_end, so_far.as_long))) ∙ so_far.front ∙ ap (λ l. flat_map f (map view l)) (take_all i xs beyond)

    pub whole_is_new : new ≡ not (same_values initial (flat_map f (map view xs)))
    whole_is_new =
        sym (so_far.compared ∙ ap₂ (λ l m. new || not (same_values l (flat_map f (map view m)))) (drop_all from initial at_end) (drop_all i xs beyond) ∙ or-false new) where
          or-false : (b : Bool) → (b || false) ≡ b
          or-false true = refl
          or-false false = refl
