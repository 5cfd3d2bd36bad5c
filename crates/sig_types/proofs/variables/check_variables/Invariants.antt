use Rattle.std.proofs.Common.{◌≡◌, length}
use Rattle.std.specs.Vec.Iter.{into_iter_items, into_iter_len}
use Rattle.model_core.specs.Code.Views.{variable_of}
use Rattle.model_core.specs.Code.WrittenViews.{written_variable}
use Rattle.model_core.specs.Text.Numbering.{variable}
use Rattle.model_core.specs.Static.PartFaults.{variable_faults}
use Rattle.static_laws.proofs.Checks.{no_meaning}
use Rattle.static_laws.proofs.ListChecks.{CheckedTo}
use Rattle.sig_types.proofs.variables.check_variables.Given as goal

-- the variables before those that are left are checked
abbrev pub invariant-loop-raw : goal.invariant-loop-raw
invariant-loop-raw l = record {
  so_far : CheckedTo no_meaning variable_of written_variable variable_faults (λ d. variable) l.fn.fault l.fault l.fn.raws (into_iter_items l.raw-iterator) l.vars.items;
  counted : into_iter_len l.raw-iterator ≡ length (into_iter_items l.raw-iterator);
}
