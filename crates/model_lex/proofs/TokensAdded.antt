-- The tokens after one step through a text.
use Rattle.std.proofs.Common.{◌≡◌, ℕ, ◌+◌, ◌-◌, ◌<◌, ◌≤◌, List, [], ◌∷◌, ◌++◌, length, take, drop, map, sym, refl, ap, ◌∙◌, subst, arith}
use Rattle.std.specs.Prelude.{Result, Ok, Err, IfOk}
use Rattle.std.proofs.lemmas.List.{length-drop, map_push, take_rest}
use Rattle.model_lex.specs.declared.piece.Piece.{Piece}
use Rattle.model_lex.specs.declared.piece.PieceKind.{PieceKind}
use Rattle.model_core.specs.Text.Lexing.{Front, Between, Longest, Neither, front_length}
use Rattle.model_lex.specs.PieceViews.{piece_of, piece_kind}
use Rattle.model_lex.specs.Inner.Fronts.{front_at, Passes}
use Rattle.model_lex.proofs.Cutting.{front_room}
use Rattle.model_lex.specs.declared.lex_error.LexError.{LexError}

-- the bytes from a place on
abbrev pub bytes_from : List ℕ → ℕ → List ℕ
bytes_from text at = take (length text - at) (drop at text)

-- a token is added
pub passes_token : (text : List ℕ) (at n : ℕ) (kind : PieceKind) (before after : List Piece) (r : Result ℕ LexError) → front_at (bytes_from text at) ≡ Longest n (piece_kind (take n (bytes_from text at)) kind)
    → IfOk r (λ to. (to ≡ at + n) × (after ≡ before ++ record { from = at; length = n; kind = kind } ∷ []))
    → IfOk r (λ to. Passes at (front_at (drop at text)) (map (piece_of text) before) (map (piece_of text) after) to)
passes_token text at n kind before after (Err e) is added = record {}
passes_token text at n kind before after (Ok to) is added =
    let here : front_at (drop at text) ≡ Longest n (piece_kind (take n (drop at text)) kind) = subst (λ b. front_at b ≡ Longest n (piece_kind (take n b) kind)) (take_rest text at) is in
    let width : at + n - at ≡ n = omega arith in
    subst (λ f. Passes at f (map (piece_of text) before) (map (piece_of text) after) to) (sym here) (
      added.0,
      ap (map (piece_of text)) added.1
          ∙ map_push (piece_of text) before (record { from = at; length = n; kind = kind })
          ∙ ap (λ m. map (piece_of text) before ++ record { from = at; to = at + n; kind = piece_kind (take m (drop at text)) kind } ∷ []) width,
    )

-- blanks and comments add nothing
pub passes_between : (text : List ℕ) (at n : ℕ) (tokens : List Piece) → front_at (bytes_from text at) ≡ Between n → Passes at (front_at (drop at text)) (map (piece_of text) tokens) (map (piece_of text) tokens) (at + n)
passes_between text at n tokens is = subst (λ f. Passes at f (map (piece_of text) tokens) (map (piece_of text) tokens) (at + n)) (sym (subst (λ b. front_at b ≡ Between n) (take_rest text at) is)) (refl, refl)

-- there are bytes
pub has_bytes : (text : List ℕ) (at : ℕ) → at < length text → 0 < length (bytes_from text at)
has_bytes text at inside = subst (λ b. 0 < length b) (sym (take_rest text at)) (omega (arith, length-drop at text))

-- there is room for what is at the place
pub room_from : (text : List ℕ) (at : ℕ) (f : Front) → at < length text → front_at (bytes_from text at) ≡ f → at + front_length f ≤ length text
room_from text at f inside is = (front_room text at f inside (subst (λ b. front_at b ≡ f) (take_rest text at) is)).1

pub none_from : (text : List ℕ) (at : ℕ) → front_at (bytes_from text at) ≡ Neither → front_at (drop at text) ≡ Neither
none_from text at is = subst (λ b. front_at b ≡ Neither) (take_rest text at) is
