use Rattle.std.proofs.Common.{◌≡◌, drop, map}
use Rattle.model_core.specs.Text.Lexing.{word_among}
use Rattle.model_lex.proofs.words.kind_among.Given as goal

-- the words so far are none of them the word's spelling
abbrev pub invariant-loop-spelling : goal.invariant-loop-spelling
invariant-loop-spelling l = word_among (map (λ w. (w.0.now, w.1)) (drop l.spelling-index l.words)) l.word ≡ word_among (map (λ w. (w.0.now, w.1)) l.words) l.word
