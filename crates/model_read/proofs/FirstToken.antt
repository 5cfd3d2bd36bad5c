-- The first token of those that are left, and the others.
use Rattle.std.proofs.Common.{◌≡◌, ℕ, suc, ◌+◌, ◌-◌, ◌<◌, ◌≤◌, Bool, true, false, None, Some, List, [], ◌∷◌, length, get_or, map, take, drop, refl, sym, ◌∙◌, ap, subst, arith}
use Rattle.std.specs.Prelude.{slice_range}
use Rattle.std.proofs.lemmas.List.{take_rest}
use Rattle.model_lex.specs.declared.piece.Piece.{Piece}
use Rattle.model_lex.specs.declared.piece.PieceKind.{PieceKind}
use Rattle.model_lex.specs.declared.piece.PieceKind.TheVariants as kinds
use Rattle.model_core.specs.Text.Lexing.{Lexeme}
use Rattle.model_core.specs.Text.Format.{any_name, maybe, AWord, ASymbol, sort_as}
use Rattle.model_lex.specs.PieceViews.{piece_of, piece_kind}
use Rattle.text_laws.specs.FirstTokens.{same_sort, begins_as}
use Rattle.text_laws.specs.FormatReader.{took, stuck}
use Rattle.text_laws.specs.LanguageReader.{language_reader}
use Rattle.text_laws.proofs.Formats.TokenSorts.{same_sort-true, same_sort-refl}
use Rattle.model_read.specs.InText.{AreInText}
use Rattle.model_read.specs.Inner.PieceSorts.{sort_of_kind, of_kind}
use Rattle.text_laws.specs.Ladder.{infix_of_kind, infix_at}

-- what the other tokens represent
abbrev pub others : List ℕ → List Piece → List Lexeme
others text tokens = map (piece_of text) (take (length tokens - 1) (drop 1 tokens))

tail_in_text : (text : List ℕ) (tokens : List Piece) → AreInText text tokens → AreInText text (drop 1 tokens)
tail_in_text text [] inside k d k_in = absurd (omega arith)
tail_in_text text (t ∷ tokens) inside k d k_in = inside (suc k) d (omega arith)

pub others_in_text : (text : List ℕ) (tokens : List Piece) → AreInText text tokens → AreInText text (take (length tokens - 1) (drop 1 tokens))
others_in_text text tokens inside = subst (AreInText text) (sym (take_rest tokens 1)) (tail_in_text text tokens inside)

first_and_others : (text : List ℕ) (tokens : List Piece) (d : Piece) → 1 ≤ length tokens → map (piece_of text) tokens ≡ piece_of text (get_or tokens 0 d) ∷ others text tokens
first_and_others text [] d some = absurd (omega arith)
first_and_others text (t ∷ tokens) d some = ap (λ rest. piece_of text t ∷ map (piece_of text) rest) (sym (take_rest (t ∷ tokens) 1))

pub name-first : (text : List ℕ) (tokens : List Piece) (d : Piece) (bytes : List ℕ) → 1 ≤ length tokens → (get_or tokens 0 d).kind ≡ kinds.Name → bytes ≡ slice_range text (get_or tokens 0 d).from ((get_or tokens 0 d).from + (get_or tokens 0 d).length)
    → language_reader any_name (map (piece_of text) tokens) ≡ took (record { name = bytes; at = (get_or tokens 0 d).from }) (others text tokens)
name-first text tokens d bytes some kind are = rw (first_and_others text tokens d some, kind, are) refl

pub infix-first : (text : List ℕ) (tokens : List Piece) (d : Piece) → 1 ≤ length tokens → infix_at (map (piece_of text) tokens) ≡ infix_of_kind (piece_of text (get_or tokens 0 d)).kind
infix-first text tokens d some = ap infix_at (first_and_others text tokens d some)

-- ---- a token of a kind, where it comes next

-- It is of the sort of its kind.
kind-sort : (kind : PieceKind) (bytes : List ℕ) → same_sort (sort_as (sort_of_kind kind) (piece_kind bytes kind)) (sort_of_kind kind) ≡ true
kind-sort kinds.Name bytes = refl
kind-sort (kinds.Word w) bytes = same_sort-refl (AWord w)
kind-sort kinds.Number bytes = refl
kind-sort (kinds.Symbol s) bytes = same_sort-refl (ASymbol s)

pub record Comes (kind : PieceKind) (old left : List Lexeme) (at : ℕ) : Type 0 where
  pub reads : language_reader (maybe (of_kind kind)) old ≡ took (Some at) left
  pub taken : language_reader (of_kind kind) old ≡ took at left
  pub shorter : length left + 1 ≤ length old
  pub comes : true ≡ begins_as (sort_of_kind kind) old

front-comes : (kind : PieceKind) (t : Lexeme) (left : List Lexeme) → same_sort (sort_as (sort_of_kind kind) t.kind) (sort_of_kind kind) ≡ true → Comes kind (t ∷ left) left t.from
front-comes kind t left same = record { reads = rw same refl; taken = rw same refl; shorter = omega arith; comes = rw same refl }

pub kind-comes : (text : List ℕ) (tokens : List Piece) (d : Piece) (kind : PieceKind) (old : List Lexeme) → 1 ≤ length tokens → (get_or tokens 0 d).kind ≡ kind → map (piece_of text) tokens ≡ old → Comes kind old (others text tokens) (get_or tokens 0 d).from
kind-comes text tokens d kind old some is seen =
    let t = get_or tokens 0 d in
    subst (λ l. Comes kind l (others text tokens) t.from) (sym (first_and_others text tokens d some) ∙ seen)
    (front-comes kind (piece_of text t) (others text tokens) (rw is (kind-sort kind (slice_range text t.from (t.from + t.length)))))

same-kind : (kind k : PieceKind) (bytes : List ℕ) → same_sort (sort_as (sort_of_kind kind) (piece_kind bytes k)) (sort_of_kind kind) ≡ true → k ≡ kind
same-kind kinds.Name kinds.Name bytes e = refl
same-kind (kinds.Word w) (kinds.Word v) bytes e = let same : AWord v ≡ AWord w = same_sort-true (AWord v) (AWord w) e in cc
same-kind kinds.Number kinds.Number bytes e = refl
same-kind (kinds.Symbol s) (kinds.Symbol r) bytes e = let same : ASymbol r ≡ ASymbol s = same_sort-true (ASymbol r) (ASymbol s) e in cc
same-kind _ _ bytes e = absurd cc

unless-true : (b : Bool) → (b ≡ true → ⊥) → b ≡ false
unless-true true h = absurd (h refl)
unless-true false h = refl

-- ---- no token of a kind comes next

pub record Lacks (kind : PieceKind) (old : List Lexeme) : Type 0 where
  pub reads : language_reader (maybe (of_kind kind)) old ≡ took None old
  pub stops : language_reader (of_kind kind) old ≡ stuck old
  pub comes : false ≡ begins_as (sort_of_kind kind) old

front-lacks : (kind : PieceKind) (t : Lexeme) (left : List Lexeme) → same_sort (sort_as (sort_of_kind kind) t.kind) (sort_of_kind kind) ≡ false → Lacks kind (t ∷ left)
front-lacks kind t left other = record { reads = rw other refl; stops = rw other refl; comes = rw other refl }

pub kind-lacks : (text : List ℕ) (tokens : List Piece) (d : Piece) (kind : PieceKind) (old : List Lexeme) → 1 ≤ length tokens → ((get_or tokens 0 d).kind ≡ kind → ⊥) → map (piece_of text) tokens ≡ old → Lacks kind old
kind-lacks text tokens d kind old some other seen =
    let t = get_or tokens 0 d in
    subst (Lacks kind) (sym (first_and_others text tokens d some) ∙ seen)
    (front-lacks kind (piece_of text t) (others text tokens) (unless-true _ (λ e. other (same-kind kind t.kind (slice_range text t.from (t.from + t.length)) e))))

pub none-lacks : (text : List ℕ) (tokens : List Piece) (kind : PieceKind) (old : List Lexeme) → length tokens < 1 → map (piece_of text) tokens ≡ old → Lacks kind old
none-lacks text [] kind old none seen = subst (Lacks kind) seen (record { reads = refl; stops = refl; comes = refl })
none-lacks text (t ∷ tokens) kind old none seen = absurd (omega arith)
