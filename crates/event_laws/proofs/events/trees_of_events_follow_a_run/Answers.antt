use Rattle.std.proofs.Common.{sym, ◌∙◌, Ok}
use Rattle.model_core.specs.Run.Step.{receive}
use Rattle.pair_laws.specs.Effects.{configuration_after}
use Rattle.event_laws.specs.EventMade.{done_after_receiving}
use Rattle.event_laws.proofs.ChangesFollow.{regrouped}
use Rattle.event_laws.proofs.EventFollows.{event-follows}
use Rattle.event_laws.proofs.events.trees_of_events_follow_a_run.Goals as goal

pub returns-clause-occurs : goal.returns-clause-occurs
returns-clause-occurs c = λ g seed vertex n s taken.
    c.effects_of_edges.ensures g seed vertex n s taken
    ∙ sym (regrouped (receive g vertex.parameters n.entry.values s) (λ received. done_after_receiving g seed vertex n.entry.time received taken) (λ d. Ok (configuration_after n.entry.time n.others d)))

pub returns-clause-follows : goal.returns-clause-follows
returns-clause-follows c = λ v g clk base seed taken meets vertex fits received inside m follows e made words. event-follows v g clk base seed taken meets vertex fits received inside m follows e made words
