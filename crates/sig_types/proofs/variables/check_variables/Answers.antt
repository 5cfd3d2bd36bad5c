use Rattle.std.proofs.Common.{ap, length, sym, ◌∙◌, arith}
use Rattle.std.specs.Vec.Iter.{into_iter_items}
use Rattle.model_core.specs.Code.Views.{variable_of}
use Rattle.model_core.specs.Code.WrittenViews.{written_variable}
use Rattle.model_core.specs.Text.Numbering.{variable}
use Rattle.model_core.specs.Static.PartFaults.{variable_faults}
use Rattle.static_laws.proofs.Checks.{no_meaning, as_part, as_plain}
use Rattle.static_laws.proofs.ListChecks.{taken_turn, all_taken}
use Rattle.sig_types.proofs.variables.check_variables.Goals as goal

pub loop-raw-preserved : goal.loop-raw-preserved
loop-raw-preserved c =
    let was = c.loop-raw.invariant.counted in
    let gone = c.in-Some.ensures.steps.1 in
    let short = ap length c.in-Some.ensures.steps.0 in
    record {
      so_far = taken_turn no_meaning variable_of written_variable variable_faults (λ d. variable) _ _ _ c.args.raws (into_iter_items c.loop-raw.raw-iterator) (into_iter_items c.next.new.self) c.in-Some.raw c.loop-raw.vars.items _ c.variable.result
          c.in-Some.ensures.steps.0 c.in_ok-push.ensures.items c.loop-raw.invariant.so_far (as_part c.variable.ensures);
      counted = omega arith;
    }

pub returns : goal.returns
returns c =
    rw c.from_vec.ensures (as_plain (all_taken no_meaning variable_of written_variable variable_faults (λ d. variable) _ _ c.args.raws (into_iter_items c.loop-raw.raw-iterator) c.loop-raw.vars.items (sym c.loop-raw.invariant.counted ∙ c.in-None.ensures.steps.0) c.loop-raw.invariant.so_far))
