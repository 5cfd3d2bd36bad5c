use Rattle.std.proofs.Common.{◌≡◌, ◌++◌, drop, map}
use Rattle.std.specs.Option.{option_map}
use Rattle.command_words.specs.ArgumentValues.{whole_numbers}
use Rattle.command_words.proofs.argument_values.whole_numbers.Given as goal

-- the numbers so far, and then those of the rest
abbrev pub invariant-loop-text : goal.invariant-loop-text
invariant-loop-text l =
    whole_numbers (map (λ t. t.now) l.texts) ≡ option_map (λ ns. l.values ++ ns) (whole_numbers (map (λ t. t.now) (drop l.text-index l.texts)))
