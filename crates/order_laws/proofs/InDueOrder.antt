-- Taking the next entry off again and again gives the entries sorted.
use Rattle.std.proofs.Common.{◌≡◌, ℕ, zero, suc, Bool, true, false, cond, List, [], ◌∷◌, length, Option, Some, None, option_map, refl, sym, ap, ◌∙◌, arith}
use Rattle.model_core.specs.Run.Pending.{Entry, EntryAndRest, sooner, next_entry}
use Rattle.model_core.specs.Saved.DueOrder.{and_then, entries_in_order, in_due_order}
use Rattle.order_laws.proofs.DueSorted.{put_in, sorted, IsSorted, put_in-front, sorted-IsSorted}
use Rattle.order_laws.proofs.SortedTakenOff.{first_off, others_sorted, sorted-next}

length-put_in : (e : Entry) (xs : List Entry) → length (put_in e xs) ≡ suc (length xs)
length-put_in e [] = refl
length-put_in e (x ∷ xs) = chosen (sooner x e) (length-put_in e xs) where
  chosen : (b : Bool) → length (put_in e xs) ≡ suc (length xs) → length (cond b (x ∷ put_in e xs) (e ∷ x ∷ xs)) ≡ suc (suc (length xs))
  chosen true long = ap suc long
  chosen false long = refl

pub length-sorted : (p : List Entry) → length (sorted p) ≡ length p
length-sorted [] = refl
length-sorted (e ∷ p) = length-put_in e (sorted p) ∙ ap suc (length-sorted p)

front : (l : List Entry) (n : EntryAndRest) → Some n ≡ first_off (λ e. true) l → l ≡ n.entry ∷ n.others
front [] n e = cc
front (x ∷ xs) n e = let same : n ≡ record { entry = x; others = xs } = cc in sym (ap (λ (n : EntryAndRest). n.entry ∷ n.others) same)

-- the next entry is the first of them sorted, and the others follow
pub sorted-front : (p : List Entry) (n : EntryAndRest) → next_entry p ≡ Some n → sorted p ≡ n.entry ∷ sorted n.others
sorted-front p n e = front (sorted p) (others_sorted n) (sym (ap (option_map others_sorted) e) ∙ sorted-next (λ e. true) p)

none-left : (l : List Entry) → None ≡ first_off (λ e. true) l → l ≡ []
none-left [] e = refl
none-left (x ∷ xs) e = cc

pub sorted-none : (p : List Entry) → next_entry p ≡ None → sorted p ≡ []
sorted-none p e = none-left (sorted p) (sym (ap (option_map others_sorted) e) ∙ sorted-next (λ e. true) p)

entries_in_order-sorted : (n : ℕ) (p : List Entry) → length p ≡ n → entries_in_order n p ≡ sorted p
entries_in_order-sorted zero [] long = refl
entries_in_order-sorted zero (e ∷ p) long = absurd (omega (arith, long))
entries_in_order-sorted (suc n) p long = goes_on (next_entry p) refl (entries_in_order-sorted n) where
  goes_on : (o : Option EntryAndRest) → next_entry p ≡ o → ((q : List Entry) → length q ≡ n → entries_in_order n q ≡ sorted q) → and_then (entries_in_order n) o ≡ sorted p
  goes_on None e later = sym (sorted-none p e)
  goes_on (Some k) e later =
      let is = sorted-front p k e in
      let size : length p ≡ suc (length k.others) = sym (length-sorted p) ∙ ap length is ∙ ap suc (length-sorted k.others) in
      ap (λ l. k.entry ∷ l) (later k.others (omega (arith, size, long))) ∙ sym is

pub due_order-sorted : (p : List Entry) → in_due_order p ≡ sorted p
due_order-sorted p = entries_in_order-sorted (length p) p refl

sorted-again : (l : List Entry) → IsSorted l → sorted l ≡ l
sorted-again [] s = refl
sorted-again (x ∷ xs) (all, s) = ap (put_in x) (sorted-again xs s) ∙ put_in-front x xs all

-- a list that is in due order stays so
pub due_order-again : (p : List Entry) → in_due_order (in_due_order p) ≡ in_due_order p
due_order-again p =
    ap in_due_order (due_order-sorted p) ∙ due_order-sorted (sorted p) ∙ sorted-again (sorted p) (sorted-IsSorted p) ∙ sym (due_order-sorted p)
