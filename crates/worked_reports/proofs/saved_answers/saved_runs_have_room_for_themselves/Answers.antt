use Rattle.std.proofs.Common.{[], ◌∷◌, refl, arith}
use Rattle.model_core.specs.Run.Pending.{EntryAndRest}
use Rattle.model_core.specs.Saved.SavedRun.{saved_moment}
use Rattle.worked_runs.specs.Models.{clock, ordering}
use Rattle.worked_runs.specs.SavedExamples.{due}
use Rattle.worked_reports.specs.AskedOptions.{with_many_pending}
use Rattle.worked_reports.proofs.RoomOfOneStep.{first_exceeds}
use Rattle.worked_reports.proofs.saved_answers.saved_runs_have_room_for_themselves.Goals as goal

abbrev first : EntryAndRest
first = record { entry = due 10 5 0; others = due 10 5 0 ∷ due 10 5 0 ∷ [] }

pub returns-clause-no_room_asked : goal.returns-clause-no_room_asked
returns-clause-no_room_asked c = record { steps = 0; within = omega arith; here = record { notes = []; moment = saved_moment clock (with_many_pending 3) }; lead = refl; next = first; comes = refl; due = omega arith; exceeds = omega arith }

pub returns-clause-too_little_asked : goal.returns-clause-too_little_asked
returns-clause-too_little_asked c = record { steps = 0; within = omega arith; here = record { notes = []; moment = saved_moment clock (with_many_pending 3) }; lead = refl; next = first; comes = refl; due = omega arith; exceeds = omega arith }

pub returns-clause-enough_asked : goal.returns-clause-enough_asked
returns-clause-enough_asked c = λ h. let k = first_exceeds clock 12 42 1 (saved_moment clock (with_many_pending 3)) 4 first (omega arith) refl h in omega (arith, k.2)

pub returns-clause-nothing_scheduled : goal.returns-clause-nothing_scheduled
returns-clause-nothing_scheduled c = λ h. let k = first_exceeds (ordering []) 12 42 1 (saved_moment (ordering []) (with_many_pending 3)) 3 first (omega arith) refl h in omega (arith, k.2)

pub returns-clause-not_due : goal.returns-clause-not_due
returns-clause-not_due c = λ h. let k = first_exceeds clock 9 42 1 (saved_moment clock (with_many_pending 3)) 3 first (omega arith) refl h in omega (arith, k.1)

pub returns-clause-no_event : goal.returns-clause-no_event
returns-clause-no_event c = λ h. let k = first_exceeds clock 12 42 0 (saved_moment clock (with_many_pending 3)) 3 first (omega arith) refl h in omega (arith, k.0)
