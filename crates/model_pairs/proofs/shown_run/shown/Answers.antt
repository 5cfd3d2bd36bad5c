-- The run begins with the seed that is asked for.
use Rattle.std.proofs.Common.{◌≡◌, ℕ, subst}
use Rattle.std.specs.Prelude.{IfOk}
use Rattle.model_core.specs.Code.Views.{graph_of}
use Rattle.model_core.specs.Run.History.{look}
use Rattle.model_pairs.specs.RunsApart.{shown_text}
use Rattle.model_pairs.proofs.shown_run.shown.Goals as goal

pub returns : goal.returns
returns c =
    let g = graph_of c.args.starts.now.model in
    subst (λ (seed : ℕ). IfOk c.follow.result (λ t. t ≡ shown_text g c.args.until c.args.events (look g seed c.args.starts.now.values c.args.until c.args.events))) c.in_ok-run.ensures.seeded c.follow.ensures
