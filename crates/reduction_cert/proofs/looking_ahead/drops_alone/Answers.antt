-- The application at the place is the first of those from there on.
use Rattle.std.proofs.Common.{◌≡◌, ◌∙◌, ◌+◌, ◌≤◌, sym, ap, map, drop, List, [], ◌∷◌, length, arith}
use Rattle.std.proofs.lemmas.Bool.{ltb-true}
use Rattle.std.proofs.lemmas.Bool.Decides.{nat_tests}
use Rattle.std.proofs.lemmas.List.{drop_all}
use Rattle.sig_base.proofs.Lists.{remaining_more}
use Rattle.model_core.specs.Code.Views.{application_of}
use Rattle.model_core.specs.Rules.Reduction.{RuleApplication, Drop}
use Rattle.reduction_cert.proofs.looking_ahead.drops_alone.Goals as goal

pub returns-in-Some : goal.returns-in-Some
returns-in-Some c =
    let applications = c.args.applications.now in
    let rest : List RuleApplication = map application_of (drop (c.args.place + 1) applications) in
    let found = c.in-Some.ensures.lookup in
    let is = remaining_more application_of applications c.args.place c.in-Some.application.now (ltb-true c.args.place (length applications) (sym found.0)) found.1 in (
      λ e. (rest, is ∙ ap (λ (a : RuleApplication). a ∷ rest) (c.is_drop_of.ensures.0 e)),
      λ (later, begins).
          let whole : application_of c.in-Some.application.now ∷ rest ≡ Drop (c.args.name.now ∷ []) ∷ later = sym is ∙ begins in
          c.is_drop_of.ensures.1 cc,
    )

pub returns-in-None : goal.returns-in-None
returns-in-None c =
    let applications = c.args.applications.now in
    let past : length applications ≤ c.args.place = grind (arith, nat_tests) in
    let none : map application_of (drop c.args.place applications) ≡ [] = ap (map application_of) (drop_all c.args.place applications past) in (
      λ never. cc,
      λ (later, begins). let whole : [] ≡ Drop (c.args.name.now ∷ []) ∷ later = sym none ∙ begins in cc,
    )
