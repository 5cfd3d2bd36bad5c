use Rattle.sig_types.proofs.versions.report_target_count.Goals as goal

pub returns-in-Set : goal.returns-in-Set
returns-in-Set c = rw c.in-Set.is (rw c.as_slice.ensures at c.report_too_many.ensures)
