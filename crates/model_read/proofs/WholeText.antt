-- The answers of a call that reads a text are right: what it read is spelled, and where it stopped no text goes on.
use Rattle.std.proofs.Common.{◌≡◌, ℕ, Bool, true, false, ◌+◌, ◌-◌, ◌≤◌, List, [], ◌∷◌, ◌++◌, length, map, take, drop, Some, refl, sym, ap, ◌∙◌, subst, arith}
use Rattle.std.specs.Prelude.{Option, Result, Ok, Err, IfOk}
use Rattle.std.proofs.lemmas.List.{length-drop, length-append, drop-drop}
use Rattle.std.proofs.Math.Seq.{drop-append_seam}
use Rattle.model_core.specs.declared.raw.RawModel.{RawModel}
use Rattle.model_lex.specs.declared.piece.Piece.{Piece}
use Rattle.model_core.specs.Text.Lexing.{Lexeme}
use Rattle.model_core.specs.Text.Written.{WrittenModel}
use Rattle.model_core.specs.Text.Language.{text_format, IsText, BeginsWithText}
use Rattle.model_core.specs.Text.FirstWrong.{wrong_place, IsUnexpectedAt}
use Rattle.model_core.specs.Text.Openings.{is_end_word, front_to_end, too_deep_at, HasFewOpenings}
use Rattle.model_core.specs.Code.WrittenViews.{written_model}
use Rattle.model_lex.specs.PieceViews.{piece_of}
use Rattle.text_laws.specs.FormatReader.{took, stuck}
use Rattle.text_laws.specs.LanguageReader.{text_and_rest, text_read}
use Rattle.text_laws.proofs.Formats.TextLaws.{read-is_spelled, spelled-is_read, stuck-is_wrong, whole-is_spelled, refused-is_unexpected}
use Rattle.text_laws.proofs.Formats.EndWord.{front-is_text, text-is_front, wrong-in_front}
use Rattle.text_laws.proofs.Formats.OneTokenDecides.{text-fine}
use Rattle.model_read.proofs.PiecesFrom.{cut-is_dropped}
use Rattle.model_lex.specs.declared.parse_error.ParseError.{ParseError}
use Rattle.model_lex.specs.declared.parse_error.ParseError.TheVariants as errors
use Rattle.model_read.proofs.PlacedReads.{ReturnedPlaced}

-- ---- openings

pub deep-place : {A : Type 0} (limit : ℕ) (tokens : List Lexeme) (found : Option ℕ) (place at : ℕ) → found ≡ too_deep_at limit tokens → found ≡ Some place → ◌≡◌ {A = Result A ParseError} (Err (errors.TooDeep place)) (Err (errors.TooDeep at)) → too_deep_at limit tokens ≡ Some at
deep-place {A} limit tokens found place at e f g = sym e ∙ f ∙ ap Some (same g)
  where
    same : ◌≡◌ {A = Result A ParseError} (Err (errors.TooDeep place)) (Err (errors.TooDeep at)) → place ≡ at
    same h = cc

-- ---- all tokens

pub whole-ok : (text : List ℕ) (tokens left : List Lexeme) (limit : ℕ) (r : Result RawModel ParseError) → ReturnedPlaced written_model text r left (text_read tokens) → HasFewOpenings limit tokens → IfOk r (λ m. IsText tokens (written_model m) × HasFewOpenings limit tokens)
whole-ok text tokens left limit (Ok m) g few = (whole-is_spelled tokens (written_model m) left g, few)
whole-ok text tokens left limit (Err e) g few = tt

pub whole-unexpected : (text : List ℕ) (tokens left : List Lexeme) (r : Result RawModel ParseError) (at : ℕ) → ReturnedPlaced written_model text r left (text_read tokens) → r ≡ Err (errors.Unexpected at) → IsUnexpectedAt text tokens at
whole-unexpected text tokens left r at g e =
    let h : ReturnedPlaced written_model text (Err (errors.Unexpected at)) left (text_read tokens) = subst (λ (q : Result RawModel ParseError). ReturnedPlaced written_model text q left (text_read tokens)) e g in
    subst (λ (n : ℕ). IsUnexpectedAt text tokens n) h.1 (refused-is_unexpected text tokens left h.0)

pub never_deep : (text : List ℕ) (tokens left : List Lexeme) (r : Result RawModel ParseError) (at : ℕ) → ReturnedPlaced written_model text r left (text_read tokens) → r ≡ Err (errors.TooDeep at) → ⊥
never_deep text tokens left r at g e = subst (λ (q : Result RawModel ParseError). ReturnedPlaced written_model text q left (text_read tokens)) e g

-- ---- a front

-- the tokens after the front, by their place among all tokens
left-place : (all left : List Lexeme) (from : ℕ) (front : List Lexeme) → from ≤ length all → drop from all ≡ front ++ left → (length left ≤ length all) × (drop (length all - length left) all ≡ left)
left-place all left from front h e =
    let size : length (drop from all) ≡ length all - from = length-drop from all in
    let parts : length (front ++ left) ≡ length front + length left = length-append front left in
    let same : length (drop from all) ≡ length (front ++ left) = ap length e in
    let place : length all - length left ≡ from + length front = omega arith in
    (omega arith, ap (λ (n : ℕ). drop n all) place ∙ sym (drop-drop (length front) from all) ∙ ap (drop (length front)) e ∙ drop-append_seam front left)

pub front-left : (all left : List Lexeme) (from size : ℕ) (m : WrittenModel) → size ≡ length all → from ≤ size → text_and_rest (drop from all) ≡ took m left → length left ≤ size
front-left all left from size m s i e = rw s (let h : from ≤ length all = omega arith in left-place all left from (front_to_end (drop from all)) h (front-is_text (drop from all) m left (read-is_spelled (drop from all) m left e)).0).0

pub front-ok : (all left : List Lexeme) (from size limit : ℕ) (m : WrittenModel) → size ≡ length all → from ≤ size → text_and_rest (drop from all) ≡ took m left → HasFewOpenings limit (front_to_end (drop from all))
    → BeginsWithText (drop from all) m (drop (size - length left) all) × HasFewOpenings limit (front_to_end (drop from all))
front-ok all left from size limit m s i e few =
    let h : from ≤ length all = omega arith in
    let d : BeginsWithText (drop from all) m left = read-is_spelled (drop from all) m left e in
    let p = left-place all left from (front_to_end (drop from all)) h (front-is_text (drop from all) m left d).0 in
    (subst (λ (l : List Lexeme). BeginsWithText (drop from all) m l) (sym p.1 ∙ ap (λ (n : ℕ). drop (n - length left) all) (sym s)) d, few)

split : (tokens : List Lexeme) → (left : List Lexeme) × (tokens ≡ front_to_end tokens ++ left)
split [] = ([], refl)
split (t ∷ tokens) = go (is_end_word t.kind) refl (split tokens)
  where
    go : (b : Bool) → is_end_word t.kind ≡ b → (left : List Lexeme) × (tokens ≡ front_to_end tokens ++ left) → (left : List Lexeme) × (t ∷ tokens ≡ front_to_end (t ∷ tokens) ++ left)
    go true e s = (tokens, rw e refl)
    go false e s = (s.0, rw e (ap (λ (l : List Lexeme). t ∷ l) s.1))

no_front : (tokens rest : List Lexeme) → text_and_rest tokens ≡ stuck rest → (m : WrittenModel) → IsText (front_to_end tokens) m → ⊥
no_front tokens rest e m d =
    let s = split tokens in
    let f : text_and_rest tokens ≡ took m s.0 = spelled-is_read tokens m s.0 (text-is_front tokens m s.0 s.1 d) in
    absurd cc

same_place : (text : List ℕ) (rest : List Lexeme) → wrong_place text (front_to_end rest) ≡ wrong_place text rest
same_place text [] = refl
same_place text (t ∷ rest) = refl

-- where the reader is stuck, so is the front
pub front-unexpected : (text : List ℕ) (tokens rest : List Lexeme) (at : ℕ) → (text_and_rest tokens ≡ stuck rest) × (wrong_place text rest ≡ at) → IsUnexpectedAt text (front_to_end tokens) at
front-unexpected text tokens rest at (e, at_rest) = record {
  none = no_front tokens rest e;
  rest = front_to_end rest;
  wrong = wrong-in_front tokens rest (no_front tokens rest e) (stuck-is_wrong text_format text-fine tokens rest e);
  at_rest = same_place text rest ∙ at_rest;
}

-- ---- what is counted of the front

pub front-counted : (text : List ℕ) (slice list : List Piece) (from n limit : ℕ) (found : Option ℕ) → slice ≡ list → found ≡ too_deep_at limit (map (piece_of text) (take n (take (length slice - from) (drop from slice))))
    → map (piece_of text) (take n (take (length slice - from) (drop from slice))) ≡ front_to_end (map (piece_of text) (take (length slice - from) (drop from slice))) → found ≡ too_deep_at limit (front_to_end (drop from (map (piece_of text) list)))
front-counted text slice list from n limit found e f g = f ∙ ap (too_deep_at limit) (g ∙ ap front_to_end (cut-is_dropped text slice list from e))

-- ---- an error that is passed on

pub same-error : {B : Type 0} (r : Result B ParseError) (x e y : ParseError) → r ≡ Err x → x ≡ e → r ≡ Err y → e ≡ y
same-error {B} r x e y f g h = sym g ∙ one (sym f ∙ h)
  where
    one : ◌≡◌ {A = Result B ParseError} (Err x) (Err y) → x ≡ y
    one p = cc

pub error-unexpected : (text : List ℕ) (tokens left : List Lexeme) (e : ParseError) (at : ℕ) → ReturnedPlaced written_model text (Err e) left (text_and_rest tokens) → e ≡ errors.Unexpected at → IsUnexpectedAt text (front_to_end tokens) at
error-unexpected text tokens left e at g f = front-unexpected text tokens left at (subst (λ (x : ParseError). ReturnedPlaced written_model text (Err x) left (text_and_rest tokens)) f g)

pub error-never_deep : (text : List ℕ) (tokens left : List Lexeme) (e : ParseError) (at : ℕ) → ReturnedPlaced written_model text (Err e) left (text_and_rest tokens) → e ≡ errors.TooDeep at → ⊥
error-never_deep text tokens left e at g f = subst (λ (x : ParseError). ReturnedPlaced written_model text (Err x) left (text_and_rest tokens)) f g
