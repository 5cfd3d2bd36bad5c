-- What is shown of what was written is what the run shows.
use Rattle.std.proofs.Common.{◌≡◌, List, ℕ, Some, refl, ap}
use Rattle.sig_base.specs.Sink.{Outlet}
use Rattle.model_core.specs.Code.Views.{graph_of}
use Rattle.model_core.specs.Run.History.{look}
use Rattle.model_pairs.specs.RunsApart.{shown_text}
use Rattle.model_pairs.specs.Inner.WrittenRuns.{IsShownOf}
use Rattle.model_pairs.proofs.ShownRuns.{shown_of_run, ok_gives}
use Rattle.model_pairs.proofs.shown_run.follow.Goals as goal

pub returns : goal.returns
returns c =
    let m = c.args.starts.now.model in
    let starts = c.args.starts.now.values in
    let r = c.args.run.now in
    let followed = c.write_history-outcome in
    let sink = c.begin-sink.result in
    let filled = followed.new.sink in
    let old : Outlet = record { written = Some sink.bytes.items; faults = sink.faults; settled = sink.settled } in
    let new : Outlet = record { written = Some filled.bytes.items; faults = filled.faults; settled = filled.settled } in
    ok_gives (IsShownOf followed.result c.args.events filled.bytes.items) (λ t. t ≡ shown_text (graph_of m) c.args.until c.args.events (look (graph_of m) r.seed starts c.args.until c.args.events)) c.shown_of.result
    (λ text is. shown_of_run m c.args.until c.args.events 4096 starts r c.in_ok-tracer.tracer followed.result old new filled.bytes.items text
    c.requires.begun (ap (λ t. t.noted) c.in_ok-tracer.ensures) (ap (λ (b : List ℕ). Some b) c.begin-sink.ensures.empty) refl followed.ensures.writes is)
    c.shown_of.ensures
