use Rattle.std.proofs.Common.{◌≡◌, drop, fold, map}
use Rattle.clap.specs.Words.{app_of, with_rule}
use Rattle.command_words.specs.Inner.ClapCommand.{command_line, option, option_names}
use Rattle.command_words.proofs.clap_matches.command_line.Given as goal

-- the options so far, and then the rest of them
abbrev pub invariant-loop-name : goal.invariant-loop-name
invariant-loop-name l =
    fold (λ a name. with_rule a (option name)) (app_of l.command) (map (λ n. n.now) (drop l.name-index l.name-items)) ≡ command_line option_names
