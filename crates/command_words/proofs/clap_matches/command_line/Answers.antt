use Rattle.std.proofs.Common.{rules}
use Rattle.sig_base.proofs.Lists.{remaining_more}
use Rattle.command_words.proofs.ClapCalls.{option_more}
use Rattle.command_words.proofs.clap_matches.command_line.Goals as goal

pub loop-name-preserved : goal.loop-name-preserved
loop-name-preserved c = search (rules, option_more, remaining_more)
