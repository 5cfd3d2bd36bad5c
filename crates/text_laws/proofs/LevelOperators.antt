-- The operators of one level: none comes, or one comes with its right operand.
use Rattle.std.proofs.Common.{◌≡◌, ℕ, zero, suc, ◌≤◌, true, false, List, ◌∷◌, Some, refl, sym, ap, ◌∙◌, arith}
use Rattle.std.specs.Prelude.{Option, Ok, Err}
use Rattle.model_core.specs.EventGraph.{Operator}
use Rattle.model_core.specs.Text.Lexing.{Lexeme}
use Rattle.model_core.specs.Text.Written.{WrittenExpression}
use Rattle.model_core.specs.Text.Format.{Many}
use Rattle.model_core.specs.Text.Expressions.{Level, Conjunction, Negation, Sum, Product, Unary, LanguageFormat, joining, grouped, compared, comparing, right_side}
use Rattle.text_laws.specs.FirstTokens.{nullable, first_sorts, begins_among}
use Rattle.text_laws.specs.FormatReader.{Parse, Parser, took, and_next}
use Rattle.text_laws.specs.LanguageReader.{level_lookahead, language_reader}
use Rattle.text_laws.proofs.Formats.RuleLaws.{same_next}
use Rattle.text_laws.proofs.Formats.ManyLaws.{repeated-is, one_more, one_more-ok, one_more-err}
use Rattle.text_laws.specs.Ladder.{infix_of_kind, operators_of, operand_level, next_level, rung, climb}
use Rattle.text_laws.proofs.ReadLoop.{shorter}
use Rattle.text_laws.proofs.FirstOperator.{AtFirst, at_each}
use Rattle.text_laws.proofs.OperandLevels.{of_level, climb-more, climb-none}

right_sides : LanguageFormat Operator → Level → WrittenExpression → Parser WrittenExpression
right_sides op l a tokens = and_next (λ xs. took (grouped a xs)) (language_reader (Many (right_side op l)) tokens)

sides-none : (op : LanguageFormat Operator) (l : Level) (a : WrittenExpression) (tokens : List Lexeme) → nullable (right_side op l) ≡ false → begins_among (first_sorts level_lookahead (right_side op l)) tokens ≡ false → right_sides op l a tokens ≡ took a tokens
unfolding right_sides
sides-none op l a tokens some e = rw (repeated-is (first_sorts level_lookahead (right_side op l)) (language_reader (right_side op l)) (shorter (right_side op l) some) tokens, e) refl

side-is : (op : LanguageFormat Operator) (l : Level) (o : Operator) (tokens between : List Lexeme) → language_reader op tokens ≡ took o between → language_reader (right_side op l) tokens ≡ and_next (λ b. took (o, b)) (of_level l between)
side-is op l o tokens between e = rw e refl

sides-some : (op : LanguageFormat Operator) (l : Level) (a : WrittenExpression) (o : Operator) (tokens between : List Lexeme) → nullable (right_side op l) ≡ false → begins_among (first_sorts level_lookahead (right_side op l)) tokens ≡ true → language_reader op tokens ≡ took o between
    → right_sides op l a tokens ≡ and_next (λ b. right_sides op l (joining a (o, b))) (of_level l between)
unfolding right_sides
sides-some op l a o tokens between some e f =
    ap (and_next (λ xs. took (grouped a xs))) (rw e at (repeated-is (first_sorts level_lookahead (right_side op l)) (language_reader (right_side op l)) (shorter (right_side op l) some) tokens))
    ∙ go (of_level l between) (side-is op l o tokens between f)
  where
    on : (b : WrittenExpression) (r : Parse (List (Operator × WrittenExpression))) → and_next (λ xs. took (grouped a xs)) (and_next (λ xs rest. took ((o, b) ∷ xs) rest) r) ≡ and_next (λ xs. took (grouped (joining a (o, b)) xs)) r
    on b (Ok r) = refl
    on b (Err rest) = refl

    go : (r : Parse WrittenExpression) → language_reader (right_side op l) tokens ≡ and_next (λ b. took (o, b)) r → and_next (λ xs. took (grouped a xs)) (one_more (first_sorts level_lookahead (right_side op l)) (language_reader (right_side op l)) tokens) ≡ and_next (λ b. right_sides op l (joining a (o, b))) r
    go (Ok r) g = ap (and_next (λ xs. took (grouped a xs))) (one_more-ok (first_sorts level_lookahead (right_side op l)) (language_reader (right_side op l)) tokens (o, r.0) r.1 g) ∙ on r.0 (language_reader (Many (right_side op l)) r.1)
    go (Err rest) g = ap (and_next (λ xs. took (grouped a xs))) (one_more-err (first_sorts level_lookahead (right_side op l)) (language_reader (right_side op l)) tokens rest g)

pub rung-none : (level : ℕ) (a : WrittenExpression) (tokens : List Lexeme) → level ≤ 4 → begins_among (first_sorts level_lookahead (operators_of level)) tokens ≡ false → rung level a tokens ≡ took a tokens
unfolding right_sides
rung-none zero a tokens few e = sides-none (operators_of 0) Unary a tokens refl e
rung-none (suc zero) a tokens few e = sides-none (operators_of 1) Product a tokens refl e
rung-none (suc (suc zero)) a tokens few e = rw e refl
rung-none (suc (suc (suc zero))) a tokens few e = sides-none (operators_of 3) Negation a tokens refl e
rung-none (suc (suc (suc (suc zero)))) a tokens few e = sides-none (operators_of 4) Conjunction a tokens refl e
rung-none (suc (suc (suc (suc (suc n))))) a tokens few e = absurd (omega arith)

pub at_level : (level : ℕ) (t : Lexeme) (tokens : List Lexeme) (found : Option (ℕ × Operator)) → level ≤ 4 → infix_of_kind t.kind ≡ found → AtFirst level t tokens found
at_level zero t tokens found few e = (rw e at (at_each t.kind t tokens refl)).0
at_level (suc zero) t tokens found few e = (rw e at (at_each t.kind t tokens refl)).1
at_level (suc (suc zero)) t tokens found few e = (rw e at (at_each t.kind t tokens refl)).2
at_level (suc (suc (suc zero))) t tokens found few e = (rw e at (at_each t.kind t tokens refl)).3
at_level (suc (suc (suc (suc zero)))) t tokens found few e = (rw e at (at_each t.kind t tokens refl)).4
at_level (suc (suc (suc (suc (suc n))))) t tokens found few e = absurd (omega arith)

climb-one : (level : ℕ) (a : WrittenExpression) (tokens : List Lexeme) → climb (suc level) level a tokens ≡ rung level a tokens
climb-one level a tokens = climb-more level level a tokens (omega arith) ∙ ap (and_next (rung level)) (climb-none level level a tokens (omega arith))

-- an operator comes, and then its right operand and the rest
pub rung-some : (level : ℕ) (a : WrittenExpression) (o : Operator) (t : Lexeme) (tokens : List Lexeme) → level ≤ 4 → infix_of_kind t.kind ≡ Some (level, o)
    → rung level a (t ∷ tokens) ≡ and_next (λ b. climb (suc level) (next_level level) (joining a (o, b))) (of_level (operand_level level) tokens)
unfolding right_sides
rung-some zero a o t tokens few e =
    let h = at_level 0 t tokens (Some (0, o)) few e in
    sides-some (operators_of 0) Unary a o (t ∷ tokens) tokens refl h.0 h.1 ∙ same_next _ _ (of_level Unary tokens) (λ b left f. sym (climb-one 0 (joining a (o, b)) left))
rung-some (suc zero) a o t tokens few e =
    let h = at_level 1 t tokens (Some (1, o)) few e in
    sides-some (operators_of 1) Product a o (t ∷ tokens) tokens refl h.0 h.1 ∙ same_next _ _ (of_level Product tokens) (λ b left f. sym (climb-one 1 (joining a (o, b)) left))
rung-some (suc (suc zero)) a o t tokens few e =
    let h = at_level 2 t tokens (Some (2, o)) few e in
    let begun : begins_among (first_sorts level_lookahead comparing) (t ∷ tokens) ≡ true = h.0 in
    let read : language_reader (right_side comparing Sum) (t ∷ tokens) ≡ and_next (λ b. took (o, b)) (of_level Sum tokens) = side-is comparing Sum o (t ∷ tokens) tokens h.1 in
    rw begun (rw read (go (of_level Sum tokens)))
  where
    go : (r : Parse WrittenExpression) → and_next (λ x. took (compared a x)) (and_next (λ x rest. Ok (Some x, rest)) (and_next (λ b. took (o, b)) r)) ≡ and_next (λ b. climb 3 3 (joining a (o, b))) r
    go (Ok r) = sym (climb-none 3 3 (joining a (o, r.0)) r.1 (omega arith))
    go (Err rest) = refl
rung-some (suc (suc (suc zero))) a o t tokens few e =
    let h = at_level 3 t tokens (Some (3, o)) few e in
    sides-some (operators_of 3) Negation a o (t ∷ tokens) tokens refl h.0 h.1 ∙ same_next _ _ (of_level Negation tokens) (λ b left f. sym (climb-one 3 (joining a (o, b)) left))
rung-some (suc (suc (suc (suc zero)))) a o t tokens few e =
    let h = at_level 4 t tokens (Some (4, o)) few e in
    sides-some (operators_of 4) Conjunction a o (t ∷ tokens) tokens refl h.0 h.1 ∙ same_next _ _ (of_level Conjunction tokens) (λ b left f. sym (climb-one 4 (joining a (o, b)) left))
rung-some (suc (suc (suc (suc (suc n))))) a o t tokens few e = absurd (omega arith)
