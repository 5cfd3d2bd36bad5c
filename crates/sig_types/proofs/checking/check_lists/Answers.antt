use Rattle.sig_types.proofs.checking.check_lists.Goals as goal

pub returns : goal.returns
returns c = (c.check_variables.new.fault, c.check_tables.new.fault, c.in_ok-vars.ensures, c.in_ok-tables.ensures, c.in_ok-watch.ensures)
