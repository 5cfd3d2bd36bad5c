-- The word at the place is the spelling, or the words after it are left to compare.
use Rattle.std.proofs.Common.{◌≡◌, ℕ, ◌+◌, ◌<◌, Bool, cond, List, length, map, drop, get_or, sym, ap, ◌∙◌, Bor}
use Rattle.std.proofs.lemmas.List.{at_drop_more}
use Rattle.model_core.specs.declared.token.Word.{Word}
use Rattle.model_core.specs.Text.Lexing.{Reserved, same_bytes, word_among}
use Rattle.model_lex.proofs.words.kind_among.Goals as goal

word_among-at : (words : List (Bor (List ℕ) × Word)) (word : List ℕ) (i : ℕ) (d : Bor (List ℕ) × Word) (b : Bool) → i < length words → same_bytes word (get_or words i d).0.now ≡ b
    → word_among (map (λ w. (w.0.now, w.1)) (drop i words)) word ≡ cond b (Reserved (get_or words i d).1) (word_among (map (λ w. (w.0.now, w.1)) (drop (i + 1) words)) word)
word_among-at words word i d b below e =
    at_drop_more (λ ws. word_among (map (λ w. (w.0.now, w.1)) ws) word) words i d below
    ∙ ap (λ t. cond t (Reserved (get_or words i d).1) (word_among (map (λ w. (w.0.now, w.1)) (drop (i + 1) words)) word)) e

pub returns-then-is_spelled : goal.returns-then-is_spelled
returns-then-is_spelled c = sym (word_among-at c.args.words.now c.args.word.now c.loop-spelling.spelling-index _ _ c.loop-spelling-test.true (sym c.is_spelled.ensures ∙ c.if-is_spelled.true)) ∙ c.loop-spelling.invariant

pub loop-spelling-preserved : goal.loop-spelling-preserved
loop-spelling-preserved c = sym (word_among-at c.args.words.now c.args.word.now c.loop-spelling.spelling-index _ _ c.loop-spelling-test.true (sym c.is_spelled.ensures ∙ c.if-is_spelled.false)) ∙ c.loop-spelling.invariant
