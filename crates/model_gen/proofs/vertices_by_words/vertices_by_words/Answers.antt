use Rattle.std.proofs.Common.{◌∙◌, ap}
use Rattle.random_streams.specs.Draws.{after_words}
use Rattle.model_core.specs.Code.Views.{vertex_of}
use Rattle.model_gen.specs.Generated.{generated_vertex}
use Rattle.model_gen.proofs.MadeInTurn.{made_next}
use Rattle.model_gen.proofs.WordsInTurn.{moved_on-vertex, by_next_words}
use Rattle.model_gen.proofs.vertices_by_words.vertices_by_words.Goals as goal

pub loop-place-preserved : goal.loop-place-preserved
loop-place-preserved c =
    let seed = c.args.seed in
    let place = c.loop-place.place in
    let so_far = c.loop-place.invariant in
    let picks = c.next_picks-picks.ensures in
    record {
      words = picks.moved ∙ ap (λ t. after_words t 54 3) so_far.words ∙ moved_on-vertex seed place;
      made = made_next vertex_of (generated_vertex seed c.args.vertices) _ _ _ place c.in_ok-push.ensures.items
          (c.in_ok-vertex_by.ensures ∙ by_next_words seed c.args.vertices place _ _ _ _ so_far.words picks.counter picks.form picks.target) so_far.made;
    }
