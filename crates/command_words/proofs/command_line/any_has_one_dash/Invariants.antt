use Rattle.std.proofs.Common.{◌≡◌, drop, map}
use Rattle.std.specs.List.{list_any}
use Rattle.std.specs.String.{string_bytes}
use Rattle.command_words.specs.Inner.ClapCommand.{has_one_dash}
use Rattle.command_words.proofs.command_line.any_has_one_dash.Given as goal

-- none of the words so far does
abbrev pub invariant-loop-word : goal.invariant-loop-word
invariant-loop-word l =
    list_any has_one_dash (map string_bytes (drop l.word-index l.words)) ≡ list_any has_one_dash (map string_bytes l.words)
