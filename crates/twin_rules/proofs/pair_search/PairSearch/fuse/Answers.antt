-- What is known of the pairs is carried on to the result, and each vertex that led to the one that is gone has changed.
use Rattle.std.proofs.Common.{◌∙◌, sym, ap, ap₂, cond, ◌==◌, ℕ}
use Rattle.model_core.specs.Rules.MarkedPlaces.{place_without}
use Rattle.model_core.specs.Code.Views.{graph_of}
use Rattle.model_core.proofs.EachOne.{either_false}
use Rattle.twin_rules.specs.Inner.ComparedPairs.{has_changed, place_before, some_leads}
use Rattle.twin_rules.proofs.AlikeVertices.{conditions_say}
use Rattle.twin_rules.proofs.FirstTwins.{first-are-twins}
use Rattle.twin_rules.proofs.PairsStillApart.{still-asked}
use Rattle.twin_rules.proofs.pair_search.PairSearch.fuse.Goals as goal

pub returns-clause-asked : goal.returns-clause-asked
returns-clause-asked c =
    let g = graph_of c.args.model.now in
    let keep = c.args.keep in
    let gone = c.args.gone in
    let are = (conditions_say g keep gone (first-are-twins g keep gone c.requires.found)).alike in
    let asked = c.count_as_compared.ensures g c.requires.asked c.requires.none_alike in
    still-asked g keep gone are c.count_as_compared.new.self c.find_next.new.self
    (c.find_next.ensures.keep ∙ (c.move_up.ensures.keep ∙ ap (place_without gone) c.mark.ensures.keep))
    (c.find_next.ensures.gone ∙ (c.move_up.ensures.gone ∙ ap₂ (λ (k j : ℕ). cond (k == gone) 0 (place_without gone j)) c.mark.ensures.keep c.mark.ensures.gone))
    (λ k. ap (λ changed. has_changed changed k) (c.find_next.ensures.changed ∙ c.move_up.ensures.changed) ∙ c.mark.ensures.changed k) asked

pub returns-clause-changed : goal.returns-clause-changed
returns-clause-changed c = λ x stays.
    (either_false (has_changed c.count_as_compared.new.self.changed (place_before c.args.gone x)) (some_leads (graph_of c.args.model.now) (place_before c.args.gone x) c.args.gone)
    (sym (ap (λ changed. has_changed changed x) (c.find_next.ensures.changed ∙ c.move_up.ensures.changed) ∙ c.mark.ensures.changed x) ∙ stays)).1
