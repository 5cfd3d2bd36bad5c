use Rattle.std.proofs.Common.{◌≡◌, ◌∷◌, codes, map, take}
use Rattle.std.specs.String.{string_bytes}
use Rattle.command_words.proofs.clap_matches.with_program.Given as goal

-- the words so far are after the name
abbrev pub invariant-loop-word : goal.invariant-loop-word
invariant-loop-word l =
    map (λ w. w.now) l.named.items ≡ codes "sigma" ∷ map string_bytes (take l.word-index l.words)
