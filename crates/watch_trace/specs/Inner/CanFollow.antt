-- When a run and its tracer can be followed.
use Rattle.std.specs.Prelude.{◌≡◌, ℕ, ◌+◌, ◌≤◌, None}
use Rattle.sig_base.specs.declared.limits.TheConstants.{STOP_MAX, EVENTS_MAX}
use Rattle.run_control.specs.Running.{Running}
use Rattle.watch_trace.specs.Tracing.{Tracing}

-- the stop time is within its limit, and so is the count of steps after so many events more; both are of one model; the run
-- hasn't faulted
pub record CanFollow (until events : ℕ) (r : Running) (t : Tracing) : Type 0 where
  pub soon : until ≤ STOP_MAX
  pub budget : r.turns + events ≤ EVENTS_MAX
  pub one_model : t.model ≡ r.model
  pub goes_on : r.faulted ≡ None
