use Rattle.std.proofs.Common.{◌≡◌, ◌+◌, ◌≤◌, take}
use Rattle.run_snapshot.proofs.parts_from_snapshot.schedule_all.Given as goal

abbrev pub invariant-loop-entry : goal.invariant-loop-entry
invariant-loop-entry g l = record {
  entries : g.P.Pending.entries l.pending ≡ take l.entry-index l.entries;
  spare : g.P.Pending.spare l.initial.pending ≤ g.P.Pending.spare l.pending + l.entry-index;
  numbered : g.P.Pending.numbered l.pending ≡ l.entry-index;
  vertices : g.P.Pending.vertices l.pending ≡ g.P.Pending.vertices l.initial.pending;
}
