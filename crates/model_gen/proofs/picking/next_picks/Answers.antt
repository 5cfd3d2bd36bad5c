use Rattle.std.proofs.Common.{◌∙◌, ap}
use Rattle.random_streams.specs.Draws.{after_words}
use Rattle.model_gen.proofs.WordsInTurn.{taken-together}
use Rattle.model_gen.proofs.picking.next_picks.Goals as goal

pub returns-clause-moved : goal.returns-clause-moved
returns-clause-moved c =
    let s = c.args.streams.now in
    c.pick_below-target.ensures.moved ∙ ap (λ t. after_words t 54 1) (c.pick_below-form.ensures.moved ∙ ap (λ t. after_words t 54 1) c.pick_below-counter.ensures.moved ∙ taken-together s 1 1 c.requires.there)
    ∙ taken-together s 2 1 c.requires.there
