use Rattle.std.proofs.Common.{◌≡◌, drop}
use Rattle.model_core.specs.Text.Lexing.{same_bytes}
use Rattle.model_lex.proofs.words.is_spelled.Given as goal

-- the bytes so far are the same
abbrev pub invariant-loop-place : goal.invariant-loop-place
invariant-loop-place l = same_bytes (drop l.place l.word) (drop l.place l.spelling) ≡ same_bytes l.word l.spelling
