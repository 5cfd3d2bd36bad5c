use Rattle.sig_types.proofs.checking.names_and_kinds.Goals as goal

pub returns-clause-takes : goal.returns-clause-takes
returns-clause-takes c = rw (c.as_slice.ensures, c.in_ok-names.ensures.means) at c.in_ok-taken.ensures
