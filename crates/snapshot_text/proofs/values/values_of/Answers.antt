-- One variable more, or one whose values are bad, and all of them.
use Rattle.std.proofs.Common.{◌≡◌, ◌<◌, ℕ, List, length, get_or, map, drop, sym, ap, ap₂, ◌+◌, ◌++◌, ◌∙◌, ◌∷◌, append-nil, drop_of_length-le}
use Rattle.std.specs.List.{flat_map}
use Rattle.sig_base.proofs.Lists.{one_left}
use Rattle.model_core.specs.declared.model.Var.{Var}
use Rattle.model_core.specs.EventGraph.{Variable}
use Rattle.model_core.specs.Code.Views.{variable_of}
use Rattle.model_core.specs.Text.SnapshotGrammar.{WrittenValue}
use Rattle.model_core.specs.Saved.GoodSnapshots.{first_bad_part, value_parts, signed_values}
use Rattle.snapshot_text.specs.declared.parts.RawValue.{RawValue}
use Rattle.snapshot_text.specs.Inner.RawParts.{written_value}
use Rattle.snapshot_text.proofs.JudgedParts.{one_value_more, one_value_reported}
use Rattle.snapshot_text.proofs.values.values_of.Goals as goal

first_variable : (i : ℕ) (items vars : List Var) (var : Var) → items ≡ vars → i < length items → var ≡ get_or items i var → variable_of var ∷ map variable_of (drop (i + 1) vars) ≡ map variable_of (drop i vars)
first_variable i items vars var same inside is =
    ap (λ (l : List Var). variable_of var ∷ map variable_of (drop (i + 1) l)) (sym same) ∙ sym (ap (map variable_of) (one_left items i var inside is)) ∙ ap (λ (l : List Var). map variable_of (drop i l)) same

pub loop-place-preserved : goal.loop-place-preserved
loop-place-preserved c =
    let i = c.loop-place.place in
    let vars = c.args.model.now.vars in
    let values = c.args.values.now in
    let var = c.in-Some.var.now in
    let value = c.index-values-place.result in
    let out = c.loop-place.all.items in
    let found = c.in-Some.ensures.lookup in
    let variables = first_variable i c.as_slice.result.now vars var c.as_slice.ensures found.3.0 found.1 in
    let written = sym (ap (map written_value) (one_left values i value c.loop-place-test.true c.index-values-place.is)) in
    one_value_more (variable_of var) (map variable_of (drop (i + 1) vars)) (written_value value) (map written_value (drop (i + 1) values)) out c.add_value.new.out.items _ _ (sym c.in_ok-add_value.ensures.all ∙ c.if-not-branch.false) (c.in_ok-add_value.ensures.added c.if-not-branch.false)
    (ap₂ (λ (vs : List Variable) (ws : List WrittenValue). first_bad_part (value_parts vs ws)) variables written ∙ c.loop-place.invariant.0)
    (ap (λ (ws : List WrittenValue). out ++ flat_map (λ (w : WrittenValue). signed_values w.values) ws) written ∙ c.loop-place.invariant.1)

pub returns-then-not-branch : goal.returns-then-not-branch
returns-then-not-branch c =
    let i = c.loop-place.place in
    let vars = c.args.model.now.vars in
    let values = c.args.values.now in
    let var = c.in-Some.var.now in
    let value = c.index-values-place.result in
    let found = c.in-Some.ensures.lookup in
    let variables = first_variable i c.as_slice.result.now vars var c.as_slice.ensures found.3.0 found.1 in
    let written = sym (ap (map written_value) (one_left values i value c.loop-place-test.true c.index-values-place.is)) in
    one_value_reported (variable_of var) (map variable_of (drop (i + 1) vars)) (written_value value) (map written_value (drop (i + 1) values)) _ (sym c.if-not-branch.true ∙ c.in_ok-add_value.ensures.all)
    (ap₂ (λ (vs : List Variable) (ws : List WrittenValue). first_bad_part (value_parts vs ws)) variables written ∙ c.loop-place.invariant.0)

pub returns : goal.returns
returns c =
    let out = c.loop-place.all.items in
    let none = drop_of_length-le c.args.values.now c.loop-place-test.false in (
      sym c.loop-place.invariant.0 ∙ ap (λ (l : List RawValue). first_bad_part (value_parts (map variable_of (drop c.loop-place.place c.args.model.now.vars)) (map written_value l))) none,
      c.from_vec.ensures ∙ sym (append-nil out) ∙ ap (λ (l : List RawValue). out ++ flat_map (λ (w : WrittenValue). signed_values w.values) (map written_value l)) (sym none) ∙ c.loop-place.invariant.1,
    )
