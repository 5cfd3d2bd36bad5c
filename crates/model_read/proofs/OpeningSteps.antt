-- The count of openings, one token further.
use Rattle.std.proofs.Common.{◌≡◌, ℕ, zero, suc, ◌+◌, ◌<◌, ◌≤◌, Bool, true, false, List, [], ◌∷◌, arith, length, get_or, map, drop, refl, sym, ap, ◌∙◌}
use Rattle.std.proofs.lemmas.List.{drop-drop, drop-map, drop_more, get_or-drop, length-drop}
use Rattle.std.specs.Prelude.{Option}
use Rattle.model_lex.specs.declared.piece.Piece.{Piece}
use Rattle.model_core.specs.Text.Lexing.{Lexeme, LexemeKind}
use Rattle.model_core.specs.Text.Openings.{ends_part, is_opening}
use Rattle.model_lex.specs.PieceViews.{piece_kind, piece_of}
use Rattle.text_laws.specs.OpeningCount.{deep_from}

ended : (limit room : ℕ) (t : Lexeme) (tokens : List Lexeme) → ends_part t.kind ≡ true → deep_from limit room (t ∷ tokens) ≡ deep_from limit limit tokens
ended limit zero t tokens e = rw e refl
ended limit (suc room) t tokens e = rw e refl

opened : (limit room after : ℕ) (t : Lexeme) (tokens : List Lexeme) → ends_part t.kind ≡ false → is_opening t.kind ≡ true → room ≡ suc after → deep_from limit room (t ∷ tokens) ≡ deep_from limit after tokens
opened limit room after t tokens e f g = rw (g, e, f) refl

passed : (limit room : ℕ) (t : Lexeme) (tokens : List Lexeme) → ends_part t.kind ≡ false → is_opening t.kind ≡ false → deep_from limit room (t ∷ tokens) ≡ deep_from limit room tokens
passed limit zero t tokens e f = rw (e, f) refl
passed limit (suc room) t tokens e f = rw (e, f) refl

further : (limit room after : ℕ) (text : List ℕ) (tokens : List Piece) (i : ℕ) (d : Piece) (total : Option ℕ) → i < length tokens
    → ((others : List Lexeme) → deep_from limit room (piece_of text (get_or tokens i d) ∷ others) ≡ deep_from limit after others)
    → deep_from limit room (map (piece_of text) (drop i tokens)) ≡ total → deep_from limit after (map (piece_of text) (drop (i + 1) tokens)) ≡ total
further limit room after text tokens i d total h step so_far =
    sym (step (map (piece_of text) (drop (i + 1) tokens)))
    ∙ sym (ap (λ (ts : List Piece). deep_from limit room (map (piece_of text) ts)) (drop_more tokens i d h))
    ∙ so_far

-- what a function says of a token's kind, whatever bytes it has
abbrev TestsKind : (LexemeKind → Bool) → Bool → Piece → Type 0
TestsKind f b t = (bytes : List ℕ) → b ≡ f (piece_kind bytes t.kind)

-- one token more: it ends a part
pub past-end : (limit room after : ℕ) (text : List ℕ) (tokens : List Piece) (i : ℕ) (d : Piece) (total : Option ℕ) (ends : Bool) → i < length tokens → TestsKind ends_part ends (get_or tokens i d) → ends ≡ true → after ≡ limit
    → deep_from limit room (map (piece_of text) (drop i tokens)) ≡ total → deep_from limit after (map (piece_of text) (drop (i + 1) tokens)) ≡ total
past-end limit room after text tokens i d total ends h of_end e f =
    further limit room after text tokens i d total h (λ others. ended limit room (piece_of text (get_or tokens i d)) others (sym (of_end _) ∙ e) ∙ ap (λ (n : ℕ). deep_from limit n others) (sym f))

-- it is an opening, for which there is room
pub past-opening : (limit room after : ℕ) (text : List ℕ) (tokens : List Piece) (i : ℕ) (d : Piece) (total : Option ℕ) (ends opens : Bool) → i < length tokens → TestsKind ends_part ends (get_or tokens i d) → ends ≡ false → TestsKind is_opening opens (get_or tokens i d) → opens ≡ true → room ≡ suc after
    → deep_from limit room (map (piece_of text) (drop i tokens)) ≡ total → deep_from limit after (map (piece_of text) (drop (i + 1) tokens)) ≡ total
past-opening limit room after text tokens i d total ends opens h of_end e of_opening f g =
    further limit room after text tokens i d total h (λ others. opened limit room after (piece_of text (get_or tokens i d)) others (sym (of_end _) ∙ e) (sym (of_opening _) ∙ f) g)

-- it is neither
pub past-other : (limit room after : ℕ) (text : List ℕ) (tokens : List Piece) (i : ℕ) (d : Piece) (total : Option ℕ) (ends opens : Bool) → i < length tokens → TestsKind ends_part ends (get_or tokens i d) → ends ≡ false → TestsKind is_opening opens (get_or tokens i d) → opens ≡ false → after ≡ room
    → deep_from limit room (map (piece_of text) (drop i tokens)) ≡ total → deep_from limit after (map (piece_of text) (drop (i + 1) tokens)) ≡ total
past-other limit room after text tokens i d total ends opens h of_end e of_opening f g =
    further limit room after text tokens i d total h (λ others. passed limit room (piece_of text (get_or tokens i d)) others (sym (of_end _) ∙ e) (sym (of_opening _) ∙ f) ∙ ap (λ (n : ℕ). deep_from limit n others) (sym g))

-- Up to the end of a part that has fewer tokens before it than there is room for openings nothing is found, and after it
-- there is all the room again.
pub at_end : (limit n room : ℕ) (ls rest : List Lexeme) (t : Lexeme) → drop n ls ≡ t ∷ rest → ends_part t.kind ≡ true → n ≤ room → room ≤ limit → deep_from limit room ls ≡ deep_from limit limit rest
at_end limit zero room ls rest t is ends fits within = ap (deep_from limit room) is ∙ ended limit room t rest ends
at_end limit (suc n) room [] rest t is ends fits within = absurd cc
at_end limit (suc n) zero (l ∷ ls) rest t is ends fits within = absurd (omega (arith, fits))
at_end limit (suc n) (suc room) (l ∷ ls) rest t is ends fits within = go (ends_part l.kind) (is_opening l.kind) refl refl (λ r some less. at_end limit n r ls rest t is ends some less)
  where
    go : (b c : Bool) → ends_part l.kind ≡ b → is_opening l.kind ≡ c → ((r : ℕ) → n ≤ r → r ≤ limit → deep_from limit r ls ≡ deep_from limit limit rest) → deep_from limit (suc room) (l ∷ ls) ≡ deep_from limit limit rest
    go true c e f more = rw e (more limit (omega arith) (omega arith))
    go false true e f more = rw (e, f) (more room (omega arith) (omega arith))
    go false false e f more = rw (e, f) (more (suc room) (omega arith) (omega arith))

-- where a part ends that so many tokens before it can't fill, what is found after it is what is found from here
pub passed_over : (limit at n : ℕ) (text : List ℕ) (tokens : List Piece) (d : Piece) (total : Option ℕ) → n ≤ limit → at + n < length tokens → ends_part (piece_of text (get_or tokens (at + n) d)).kind ≡ true
    → deep_from limit limit (map (piece_of text) (drop at tokens)) ≡ total → deep_from limit limit (map (piece_of text) (drop (at + (n + 1)) tokens)) ≡ total
passed_over limit at n text tokens d total fits below ends so_far =
    let rest : drop n (map (piece_of text) (drop at tokens)) ≡ piece_of text (get_or tokens (at + n) d) ∷ map (piece_of text) (drop (at + n + 1) tokens) =
    drop-map (piece_of text) n (drop at tokens) ∙ ap (map (piece_of text)) (drop-drop n at tokens ∙ drop_more tokens (at + n) d below) in
    let same : at + n + 1 ≡ at + (n + 1) = omega arith in
    ap (λ k. deep_from limit limit (map (piece_of text) (drop k tokens))) (sym same)
    ∙ sym (at_end limit n limit (map (piece_of text) (drop at tokens)) _ (piece_of text (get_or tokens (at + n) d)) rest ends fits (omega arith))
    ∙ so_far

-- the same of the tokens from a place on
pub passed_on : (limit at n : ℕ) (text : List ℕ) (tokens rest : List Piece) (d : Piece) (total : Option ℕ) → rest ≡ drop at tokens → at ≤ length tokens → n ≤ limit → n < length rest → ((bytes : List ℕ) (d : Piece) → ends_part (piece_kind bytes (get_or rest n d).kind) ≡ true)
    → deep_from limit limit (map (piece_of text) (drop at tokens)) ≡ total → deep_from limit limit (map (piece_of text) (drop (at + (n + 1)) tokens)) ≡ total
passed_on limit at n text tokens rest d total is inside fits below ends so_far =
    let same : get_or tokens (at + n) d ≡ get_or rest n d = sym (get_or-drop at tokens n d) ∙ ap (λ ts. get_or ts n d) (sym is) in
    let room = length-drop at tokens ∙ refl in
    let long = ap length is in
    passed_over limit at n text tokens d total fits (omega (arith, room, long)) (ap (λ t. ends_part (piece_of text t).kind) same ∙ ends _ d) so_far
