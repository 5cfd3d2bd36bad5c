use Rattle.event_laws.specs.Making.{with_words}
use Rattle.event_laws.specs.EventMade.{done_after_receiving}
use Rattle.event_laws.proofs.EventClosing.{sum-follows}
use Rattle.event_laws.proofs.WordsMeet.{words-meet}
use Rattle.event_laws.proofs.event_sums.sums_of_events_follow_a_run.Goals as goal

pub returns : goal.returns
returns c = λ v g clk base seed taken meets vertex fits received inside m follows e made words index_less edge_less n s closed.
    (sum-follows v (with_words g base e.words) (words-meet v g base meets seed taken e.words words) g clk taken (done_after_receiving g seed vertex clk received taken) e
    (c.trees_of_events_follow_a_run.ensures.follows v g clk base seed taken meets vertex fits received inside m follows e made words) index_less edge_less n).gives s closed
