-- The only name is this one.
use Rattle.std.proofs.Common.{◌≡◌, ◌∙◌, [], ◌∷◌, List, ℕ, get_or, ap, rules}
use Rattle.reduction_cert.proofs.SameAfterDrop.{only_one}
use Rattle.reduction_cert.proofs.looking_ahead.is_alone.Goals as goal

pub returns-then-names-eq1 : goal.returns-then-names-eq1
returns-then-names-eq1 c =
    let first = c.index-names-0.result in (
      λ e.
          let same : first ≡ c.args.name.now = search rules in
          only_one c.args.names.now first c.if-names-eq1.true c.index-names-0.is ∙ ap (λ (name : List ℕ). name ∷ []) same,
      λ is.
          let same : first ≡ c.args.name.now = c.index-names-0.is ∙ ap (λ (names : List (List ℕ)). get_or names 0 first) is in
          search rules,
    )
