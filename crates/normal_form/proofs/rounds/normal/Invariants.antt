-- What the rounds that are left make of the model is the normal form of the first one.
use Rattle.std.proofs.Common.{◌-◌}
use Rattle.normal_form.specs.declared.limits.TheConstants.{ROUNDS_MAX}
use Rattle.model_core.specs.EventGraph.{EventGraph}
use Rattle.model_core.specs.Code.Views.{graph_of}
use Rattle.model_core.specs.Static.Reading.{IsValid}
use Rattle.normal_form.specs.Normal.{NormalWithin, Normal}
use Rattle.normal_form.proofs.rounds.normal.Given as goal

abbrev pub invariant-loop : goal.invariant-loop
invariant-loop l = record {
  valid : IsValid (graph_of l.form);
  leads : (h : EventGraph) → NormalWithin (ROUNDS_MAX - l.counter) (graph_of l.form) h → Normal (graph_of l.fn.model) h;
}
