-- The element at the place of a part in a list that is built from all parts.
use Rattle.std.proofs.Common.{◌≡◌, ℕ, zero, suc, ◌+◌, ◌<◌, List, [], ◌∷◌, ◌++◌, append-nil, append_assoc, length, map, take, slice_index_or, sym, ◌∙◌, ap, ap₂, arith}
use Rattle.std.specs.List.{flat_map}
use Rattle.std.proofs.lemmas.List.{get_or-map, length-map}
use Rattle.model_core.specs.EventGraph.{EventGraph, Variable}
use Rattle.model_core.specs.Code.Views.{graph_of}
use Rattle.model_core.specs.declared.incoming.Incoming.{Incoming}
use Rattle.range_infer.specs.declared.ranges_left.RangesLeft.{RangesLeft}
use Rattle.range_infer.specs.Inner.RangesLeft.{variables_left, StaysLeft}
use Rattle.range_infer.specs.Inner.Readers.{one_at}
use Rattle.range_infer.proofs.RestoredRanges.{same_variables, stays-trans}

pub made_of_part : {A B C : Type 0} (view : A → B) (f : B → C) (xs : List A) (ys : List C) (i : ℕ) (x : A) (y : C) → ys ≡ map f (map view xs) → i < length xs → x ≡ slice_index_or xs i x → y ≡ slice_index_or ys i y → y ≡ f (view x)
made_of_part view f xs ys i x y made small here beside =
    beside ∙ (ap (λ zs. slice_index_or zs i y) made ∙
    (get_or-map f (map view xs) i (view x) y (omega (arith, small, length-map xs view)) ∙ ap f (get_or-map view xs i x (view x) small ∙ sym (ap view here))))

-- what one part gives by its place, where there is one
pub part_given : {A B C : Type 0} (view : A → B) (f : B → List C) (xs : List A) (i : ℕ) (x : A) → i < length xs → x ≡ slice_index_or xs i x → flat_map f (one_at i (map view xs)) ≡ f (view x)
part_given view f [] i x small is = absurd (omega arith)
part_given view f (y ∷ xs) zero x small is = append-nil (f (view y)) ∙ ap (λ z. f (view z)) (sym is)
part_given view f (y ∷ xs) (suc i) x small is = part_given view f xs i x (omega arith) is

-- what all parts give, one part after the other
one_more : {A B C : Type 0} (view : A → B) (f : B → List C) (xs : List A) (i : ℕ) (x : A) → i < length xs → x ≡ slice_index_or xs i x → flat_map f (map view (take (suc i) xs)) ≡ flat_map f (map view (take i xs)) ++ f (view x)
one_more view f [] i x small is = absurd (omega arith)
one_more view f (y ∷ xs) zero x small is = append-nil (f (view y)) ∙ ap (λ z. f (view z)) (sym is)
one_more view f (y ∷ xs) (suc i) x small is = ap (λ zs. f (view y) ++ zs) (one_more view f xs i x (omega arith) is) ∙ sym (append_assoc (f (view y)) (flat_map f (map view (take i xs))) (f (view x)))

-- what the parts before place i have given when a loop is at i, and that the ranges stayed
pub record GivenSoFar {A B : Type 0} (view : A → B) (see : EventGraph → List Variable → B → List Incoming) (xs : List A) (i : ℕ) (first now : RangesLeft) (before given : List Incoming) : Type 0 where
  pub out : given ≡ before ++ flat_map (see (graph_of first.model.now) (variables_left first)) (map view (take i xs))
  pub left : StaysLeft first now

pub part_more : {A B : Type 0} {view : A → B} {see : EventGraph → List Variable → B → List Incoming} {xs : List A} {i : ℕ} {first now after : RangesLeft} {before given next : List Incoming}
    → GivenSoFar view see xs i first now before given → {x : A} → i < length xs → x ≡ slice_index_or xs i x → next ≡ given ++ see (graph_of now.model.now) (variables_left now) (view x)
    → StaysLeft now after → GivenSoFar view see xs (i + 1) first after before next
part_more {view = view} {see = see} {xs = xs} {i = i} {first = first} {now = now} {after = after} {before = before} {given = given} so {x = x} small is added stays =
    let f = see (graph_of first.model.now) (variables_left first) in
    let more : i + 1 ≡ suc i = omega arith in
    record {
      out = added ∙ (ap₂ (λ (g : EventGraph) (rs : List Variable). given ++ see g rs (view x)) (ap graph_of so.left.model) (same_variables first now so.left)
          ∙ (ap (λ (is : List Incoming). is ++ f (view x)) so.out ∙ (append_assoc before (flat_map f (map view (take i xs))) (f (view x))
          ∙ ap (λ (is : List Incoming). before ++ is) (sym (ap (λ (k : ℕ). flat_map f (map view (take k xs))) more ∙ one_more view f xs i x small is)))));
      left = stays-trans first now after so.left stays;
    }
