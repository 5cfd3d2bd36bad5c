use Rattle.std.proofs.Common.{◌≡◌, drop, map}
use Rattle.std.specs.List.{list_all}
use Rattle.command_words.specs.Inner.ClapCommand.{rows_in}
use Rattle.command_words.specs.Inner.MatchedJobs.{has_only, may_be_given}
use Rattle.command_words.proofs.command_line.has_only.Given as goal

-- none of the options so far is another one
abbrev pub invariant-loop-name : goal.invariant-loop-name
invariant-loop-name l =
    list_all (may_be_given (map (λ n. n.now) l.options) (rows_in l.matches)) (map (λ n. n.now) (drop l.name-index l.name-items))
    ≡ has_only (map (λ n. n.now) l.options) (rows_in l.matches)
