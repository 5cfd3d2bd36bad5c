-- Two names at one place differ.
use Rattle.std.proofs.Common.{◌≡◌, ◌∙◌, ◌<◌, length, get_or, sym, ap, subst, arith}
use Rattle.std.specs.Bool.{IsTrue}
use Rattle.std.proofs.lemmas.List.{get_or-map}
use Rattle.model_core.specs.Code.WrittenViews.{written_name}
use Rattle.one_pass.proofs.beginnings.same_names.Goals as goal

pub returns-then-not-same_name : goal.returns-then-not-same_name
returns-then-not-same_name c =
    let place = c.loop-place.place in
    let a = c.index-a-place.result in
    let b = c.index-b-place.result in
    let below_a : place < length c.args.a.now = omega arith in
    let below_b : place < length c.args.b.now = omega arith in (
      λ never. cc,
      λ same.
          let here : written_name a ≡ written_name b
          = ap written_name c.index-a-place.is ∙ sym (get_or-map written_name c.args.a.now place a (written_name a) below_a) ∙ ap (λ names. get_or names place (written_name a)) same
          ∙ get_or-map written_name c.args.b.now place b (written_name a) below_b ∙ ap written_name (sym c.index-b-place.is) in
          subst IsTrue c.if-not-same_name.true (c.same_name.ensures.1 here),
    )
