use Rattle.std.proofs.Common.{rules}
use Rattle.command_words.proofs.ClapCalls.{accepted, refused}
use Rattle.command_words.proofs.clap_matches.matched.Goals as goal

-- there are matches
pub returns-in-Ok : goal.returns-in-Ok
returns-in-Ok c = accepted _ _ c.in-Ok.matches c.in-Ok.ensures.matches c.in-Ok.ensures.kinds c.in_ok-command_line.ensures

-- there is an error other than out of memory
pub returns : goal.returns
returns c = refused _ _ c.in-Err.error c.in-Err.ensures.kinds c.in_ok-command_line.ensures (search rules)
