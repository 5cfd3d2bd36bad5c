use Rattle.std.proofs.Common.{◌≡◌, ◌+◌, drop}
use Rattle.std.specs.List.{prefix_len}
use Rattle.model_core.specs.Text.Lexing.{is_word_byte}
use Rattle.model_lex.proofs.runs.word_length.Given as goal

-- what the run has so far, and what it has of the rest
abbrev pub invariant-loop-place : goal.invariant-loop-place
invariant-loop-place l = l.place + prefix_len is_word_byte (drop l.place l.bytes) ≡ prefix_len is_word_byte l.bytes
