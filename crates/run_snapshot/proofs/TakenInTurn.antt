-- A loop that takes the next entry off again and again.
use Rattle.std.proofs.Common.{◌≡◌, suc, ◌<◌, true, List, [], ◌∷◌, ◌++◌, length, Option, Some, None, option_map, unwrap_or, refl, sym, ap, ◌∙◌, subst, arith, append_assoc, append-nil}
use Rattle.model_core.specs.Run.Pending.{Entry, EntryAndRest, next_entry, without_next}
use Rattle.model_core.specs.Saved.DueOrder.{in_due_order}
use Rattle.order_laws.proofs.InDueOrder.{length-sorted, sorted-front, sorted-none, due_order-sorted}

-- the next entry, as one among the entries
record IsNext (p : List Entry) (e : Entry) (others : List Entry) : Type 0 where
  order : in_due_order p ≡ e ∷ in_due_order others
  long : length p ≡ suc (length others)

is-next : (p : List Entry) (n : EntryAndRest) → next_entry p ≡ Some n → IsNext p n.entry n.others
is-next p n e =
    let front = sorted-front p n e in
    record {
      order = due_order-sorted p ∙ front ∙ ap (λ l. n.entry ∷ l) (sym (due_order-sorted n.others));
      long = sym (length-sorted p) ∙ ap length front ∙ ap suc (length-sorted n.others);
    }

taken : (p : List Entry) (e : Entry) (later : List Entry) (o : Option EntryAndRest) → next_entry p ≡ o → Some e ≡ option_map (λ n. n.entry) o → later ≡ unwrap_or (option_map (λ n. n.others) o) p → IsNext p e later
taken p e later None at given left = cc
taken p e later (Some n) at given left =
    let same : n.entry ≡ e = cc in
    subst (λ (x : Entry). IsNext p x later) same (subst (λ (l : List Entry). IsNext p n.entry l) (sym left) (is-next p n at))

pub taken_more : (p : List Entry) (e : Entry) (later done whole : List Entry) → Some e ≡ option_map (λ n. n.entry) (next_entry p) → later ≡ without_next (λ e. true) p → done ++ in_due_order p ≡ whole → (done ++ e ∷ []) ++ in_due_order later ≡ whole
taken_more p e later done whole given left so_far =
    append_assoc done (e ∷ []) (in_due_order later) ∙ ap (λ l. done ++ l) (sym (taken p e later (next_entry p) refl given left).order) ∙ so_far

pub taken_less : (p : List Entry) (e : Entry) (later : List Entry) → Some e ≡ option_map (λ n. n.entry) (next_entry p) → later ≡ without_next (λ e. true) p → length later < length p
taken_less p e later given left = omega (arith, (taken p e later (next_entry p) refl given left).long)

none : (o : Option EntryAndRest) → None ≡ option_map (λ n. n.entry) o → o ≡ None
none None e = refl
none (Some n) e = cc

pub taken_all : (p done whole : List Entry) → None ≡ option_map (λ n. n.entry) (next_entry p) → done ++ in_due_order p ≡ whole → done ≡ whole
taken_all p done whole given so_far =
    sym (append-nil done) ∙ ap (λ l. done ++ l) (sym (due_order-sorted p ∙ sorted-none p (none (next_entry p) given))) ∙ so_far
