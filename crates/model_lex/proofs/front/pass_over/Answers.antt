-- The class of the first byte decides what the text has there.
use Rattle.std.proofs.Common.{◌≡◌, ◌∙◌, ap, arith, refl, slice_index, sym, take}
use Rattle.model_core.specs.Text.Lexing.{Between, Longest, NameOf}
use Rattle.model_lex.specs.declared.piece.PieceKind.TheVariants.{Number}
use Rattle.model_lex.specs.PieceViews.{piece_kind}
use Rattle.model_lex.specs.Inner.Fronts.{front_at, symbol_as_front}
use Rattle.model_lex.specs.declared.classes.Class.TheVariants as classes
use Rattle.model_lex.proofs.ClassFronts.{class-front, digit_first, letter_first, word_byte_first}
use Rattle.model_lex.proofs.FrontLemmas.{word_begins}
use Rattle.model_lex.proofs.TokensAdded.{bytes_from, has_bytes, none_from, passes_between, passes_token, room_from}
use Rattle.model_lex.proofs.front.pass_over.Goals as goal
use Rattle.model_lex.proofs.front.pass_over.Goals.{In-Blank, After-comment_length, After-word_length, After-word_kind, After-digits_length-length, After-symbol_front}

blank : (c : In-Blank) → front_at (bytes_from c.args.text.now c.args.at) ≡ Between 1
blank c = sym (class-front _ classes.Blank (has_bytes c.args.text.now c.args.at c.requires.inside) (sym c.in-Blank.is ∙ c.class_of.ensures))

comment : (c : After-comment_length) → front_at (bytes_from c.args.text.now c.args.at) ≡ Between c.comment_length.result
comment c = rw c.comment_length.ensures (sym (class-front _ classes.Comment (has_bytes c.args.text.now c.args.at c.requires.inside) (sym c.in-Comment.is ∙ c.class_of.ensures)))

name : (c : After-word_length) → front_at (bytes_from c.args.text.now c.args.at) ≡ Longest c.word_length.result (NameOf (take c.word_length.result (bytes_from c.args.text.now c.args.at)))
name c = rw c.word_length.ensures (sym (class-front _ classes.Name (has_bytes c.args.text.now c.args.at c.requires.inside) (sym c.in-Name.is ∙ c.class_of.ensures)))

word : (c : After-word_kind) → front_at (bytes_from c.args.text.now c.args.at) ≡ Longest c.word_length-length.result (piece_kind (take c.word_length-length.result (bytes_from c.args.text.now c.args.at)) c.word_kind.result)
word c =
    sym (ap (Longest c.word_length-length.result) c.word_kind.ensures
    ∙ rw c.word_length-length.ensures (class-front _ classes.Word (has_bytes c.args.text.now c.args.at c.requires.inside) (sym c.in-Word.is ∙ c.class_of.ensures)))

number : (c : After-digits_length-length) → front_at (bytes_from c.args.text.now c.args.at) ≡ Longest c.digits_length-length.result (piece_kind (take c.digits_length-length.result (bytes_from c.args.text.now c.args.at)) Number)
number c = rw c.digits_length-length.ensures (sym (class-front _ classes.Digit (has_bytes c.args.text.now c.args.at c.requires.inside) (sym c.in-Digit.is ∙ c.class_of.ensures)))

pair : (c : After-symbol_front) → front_at (bytes_from c.args.text.now c.args.at) ≡ symbol_as_front c.symbol_front.result
pair c = sym (c.symbol_front.ensures ∙ class-front _ classes.Pair (has_bytes c.args.text.now c.args.at c.requires.inside) (sym c.in-Pair.is ∙ c.class_of.ensures))

pub overflow_add-result-in-Comment : goal.overflow_add-result-in-Comment
overflow_add-result-in-Comment c =
    let room = room_from c.args.text.now c.args.at (Between c.comment_length.result) c.requires.inside (comment (goal.at.overflow_add-result-in-Comment c).After-comment_length) in
    let short = c.requires.short_text in omega (arith, room)

pub add-requires-clause-inside : goal.add-requires-clause-inside
add-requires-clause-inside c =
    let room = room_from c.args.text.now c.args.at _ c.requires.inside (name (goal.at.add-requires-clause-inside c).After-word_length) in
    let short = c.requires.short_text in omega (arith, room)

pub word_length-requires : goal.word_length-requires
word_length-requires c = word_byte_first (slice_index (bytes_from c.args.text.now c.args.at) 0) classes.Name (sym c.in-Name.is ∙ c.class_of.ensures) refl

pub word_length-length-requires : goal.word_length-length-requires
word_length-length-requires c = word_byte_first (slice_index (bytes_from c.args.text.now c.args.at) 0) classes.Word (sym c.in-Word.is ∙ c.class_of.ensures) refl

pub digits_length-length-requires : goal.digits_length-length-requires
digits_length-length-requires c = digit_first (slice_index (bytes_from c.args.text.now c.args.at) 0) (sym c.in-Digit.is ∙ c.class_of.ensures)

pub word_kind-requires : goal.word_kind-requires
word_kind-requires c = rw c.word_length-length.ensures (word_begins _ (has_bytes c.args.text.now c.args.at c.requires.inside) (letter_first (slice_index (bytes_from c.args.text.now c.args.at) 0) classes.Word (sym c.in-Word.is ∙ c.class_of.ensures) refl))

pub add-requires-in-Digit-clause-inside : goal.add-requires-in-Digit-clause-inside
add-requires-in-Digit-clause-inside c =
    let room = room_from c.args.text.now c.args.at _ c.requires.inside (number (goal.at.add-requires-in-Digit-clause-inside c).After-digits_length-length) in
    let short = c.requires.short_text in omega (arith, room)

pub add-requires-in-Some-clause-inside : goal.add-requires-in-Some-clause-inside
add-requires-in-Some-clause-inside c =
    let room = room_from c.args.text.now c.args.at _ c.requires.inside (pair (goal.at.add-requires-in-Some-clause-inside c).After-symbol_front ∙ ap symbol_as_front c.in-Some.is) in
    let short = c.requires.short_text in omega (arith, room)

pub returns-in-Blank-clause-passes : goal.returns-in-Blank-clause-passes
returns-in-Blank-clause-passes c = passes_between c.args.text.now c.args.at 1 c.args.list.now.items (blank (goal.at.returns-in-Blank-clause-passes c).In-Blank)

pub returns-in-Comment-clause-passes : goal.returns-in-Comment-clause-passes
returns-in-Comment-clause-passes c = passes_between c.args.text.now c.args.at c.comment_length.result c.args.list.now.items (comment (goal.at.returns-in-Comment-clause-passes c).After-comment_length)

pub returns-in-Name-clause-passes : goal.returns-in-Name-clause-passes
returns-in-Name-clause-passes c = passes_token c.args.text.now c.args.at c.word_length.result _ c.args.list.now.items _ _ (name (goal.at.returns-in-Name-clause-passes c).After-word_length) c.add.ensures.added

pub returns-in-Word-clause-passes : goal.returns-in-Word-clause-passes
returns-in-Word-clause-passes c = passes_token c.args.text.now c.args.at c.word_length-length.result _ c.args.list.now.items _ _ (word (goal.at.returns-in-Word-clause-passes c).After-word_kind) c.add-in-Word.ensures.added

pub returns-in-Digit-clause-passes : goal.returns-in-Digit-clause-passes
returns-in-Digit-clause-passes c = passes_token c.args.text.now c.args.at c.digits_length-length.result _ c.args.list.now.items _ _ (number (goal.at.returns-in-Digit-clause-passes c).After-digits_length-length) c.add-in-Digit.ensures.added

pub returns-in-Some-clause-passes : goal.returns-in-Some-clause-passes
returns-in-Some-clause-passes c = passes_token c.args.text.now c.args.at c.in-Some.length _ c.args.list.now.items _ _ (pair (goal.at.returns-in-Some-clause-passes c).After-symbol_front ∙ ap symbol_as_front c.in-Some.is) c.add-in-Some.ensures.added

pub returns-in-None-clause-bad_byte : goal.returns-in-None-clause-bad_byte
returns-in-None-clause-bad_byte c = λ place e. (cc, none_from c.args.text.now c.args.at (pair (goal.at.returns-in-None-clause-bad_byte c).After-symbol_front ∙ ap symbol_as_front c.in-None.is))

pub returns-in-Alone-clause-passes : goal.returns-in-Alone-clause-passes
returns-in-Alone-clause-passes c =
    passes_token c.args.text.now c.args.at 1 _ c.args.list.now.items _ _ (sym (class-front _ (classes.Alone c.in-Alone.symbol) (has_bytes c.args.text.now c.args.at c.requires.inside) (sym c.in-Alone.is ∙ c.class_of.ensures))) c.add-in-Alone.ensures.added

pub returns-in-Nothing-clause-bad_byte : goal.returns-in-Nothing-clause-bad_byte
returns-in-Nothing-clause-bad_byte c = λ place e. (cc, none_from c.args.text.now c.args.at (sym (class-front _ classes.Nothing (has_bytes c.args.text.now c.args.at c.requires.inside) (sym c.in-Nothing.is ∙ c.class_of.ensures))))
