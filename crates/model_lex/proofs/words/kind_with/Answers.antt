-- For each letter, the words in the code are the reserved words that begin with it, in their order.
use Rattle.std.proofs.Common.{sym, ap, ◌∙◌}
use Rattle.model_core.specs.Text.Lexing.{word_among}
use Rattle.model_lex.specs.Inner.Fronts.{words_with_first}
use Rattle.model_lex.proofs.words.kind_with.Goals as goal

pub returns-in-97 : goal.returns-in-97
returns-in-97 c = c.kind_among.ensures ∙ ap (λ letter. word_among (words_with_first letter) c.args.word.now) (sym c.in-97.is)

pub returns-in-98 : goal.returns-in-98
returns-in-98 c = c.kind_among-in-98.ensures ∙ ap (λ letter. word_among (words_with_first letter) c.args.word.now) (sym c.in-98.is)

pub returns-in-99 : goal.returns-in-99
returns-in-99 c = c.kind_among-in-99.ensures ∙ ap (λ letter. word_among (words_with_first letter) c.args.word.now) (sym c.in-99.is)

pub returns-in-100 : goal.returns-in-100
returns-in-100 c = c.kind_among-in-100.ensures ∙ ap (λ letter. word_among (words_with_first letter) c.args.word.now) (sym c.in-100.is)

pub returns-in-101 : goal.returns-in-101
returns-in-101 c = c.kind_among-in-101.ensures ∙ ap (λ letter. word_among (words_with_first letter) c.args.word.now) (sym c.in-101.is)

pub returns-in-102 : goal.returns-in-102
returns-in-102 c = c.kind_among-in-102.ensures ∙ ap (λ letter. word_among (words_with_first letter) c.args.word.now) (sym c.in-102.is)

pub returns-in-105 : goal.returns-in-105
returns-in-105 c = c.kind_among-in-105.ensures ∙ ap (λ letter. word_among (words_with_first letter) c.args.word.now) (sym c.in-105.is)

pub returns-in-109 : goal.returns-in-109
returns-in-109 c = c.kind_among-in-109.ensures ∙ ap (λ letter. word_among (words_with_first letter) c.args.word.now) (sym c.in-109.is)

pub returns-in-110 : goal.returns-in-110
returns-in-110 c = c.kind_among-in-110.ensures ∙ ap (λ letter. word_among (words_with_first letter) c.args.word.now) (sym c.in-110.is)

pub returns-in-111 : goal.returns-in-111
returns-in-111 c = c.kind_among-in-111.ensures ∙ ap (λ letter. word_among (words_with_first letter) c.args.word.now) (sym c.in-111.is)

pub returns-in-112 : goal.returns-in-112
returns-in-112 c = c.kind_among-in-112.ensures ∙ ap (λ letter. word_among (words_with_first letter) c.args.word.now) (sym c.in-112.is)

pub returns-in-115 : goal.returns-in-115
returns-in-115 c = c.kind_among-in-115.ensures ∙ ap (λ letter. word_among (words_with_first letter) c.args.word.now) (sym c.in-115.is)

pub returns-in-116 : goal.returns-in-116
returns-in-116 c = c.kind_among-in-116.ensures ∙ ap (λ letter. word_among (words_with_first letter) c.args.word.now) (sym c.in-116.is)

pub returns-in-117 : goal.returns-in-117
returns-in-117 c = c.kind_among-in-117.ensures ∙ ap (λ letter. word_among (words_with_first letter) c.args.word.now) (sym c.in-117.is)

pub returns-in-118 : goal.returns-in-118
returns-in-118 c = c.kind_among-in-118.ensures ∙ ap (λ letter. word_among (words_with_first letter) c.args.word.now) (sym c.in-118.is)

pub returns-in-119 : goal.returns-in-119
returns-in-119 c = c.kind_among-in-119.ensures ∙ ap (λ letter. word_among (words_with_first letter) c.args.word.now) (sym c.in-119.is)
