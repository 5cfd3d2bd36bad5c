-- The tokens of a text follow one another in it.
use Rattle.std.proofs.Common.{◌≡◌, ℕ, zero, suc, ◌+◌, ◌-◌, ◌<◌, ◌≤◌, List, [], ◌∷◌, length, get_or, map, sym, refl, subst, arith}
use Rattle.std.specs.Prelude.{Result, Ok, Err}
use Rattle.std.proofs.lemmas.List.{length-map, get_or-map}
use Rattle.model_core.specs.declared.token.Token.{Token}
use Rattle.model_core.specs.Text.Lexing.{Lexeme, Front, Between, Longest, Neither, front, front_length, after_front, tokens_from, tokens_of}
use Rattle.model_core.specs.Code.TokenViews.{lexeme_of}
use Rattle.model_lex.specs.declared.piece.Piece.{Piece}
use Rattle.model_lex.specs.PieceViews.{piece_of}
use Rattle.model_lex.specs.TokenOrder.{TokensInOrder}
use Rattle.model_lex.proofs.FrontLemmas.{Fits, front-front_at, front_at-fits}

-- tokens in order from a place on are in order from an earlier one on
earlier : (from from' : ℕ) (ls : List Lexeme) (to : ℕ) → from' ≤ from → TokensInOrder from ls to → TokensInOrder from' ls to
earlier from from' [] to le order = omega arith
earlier from from' (l ∷ ls) to le order = (omega (arith, order.0), order.1, order.2)

-- no token ends after the last place
within : (from : ℕ) (ls : List Lexeme) (to : ℕ) → TokensInOrder from ls to → from ≤ to
within from [] to order = order
within from (l ∷ ls) to order = omega (arith, order.0, order.1, within l.to ls to order.2)

pub in_text : (from : ℕ) (ls : List Lexeme) (to : ℕ) → TokensInOrder from ls to → (k : ℕ) (d : Lexeme) → k < length ls → ((get_or ls k d).from < (get_or ls k d).to) × ((get_or ls k d).to ≤ to)
in_text from [] to order k d k_in = absurd (omega arith)
in_text from (l ∷ ls) to order zero d k_in = (order.1, within l.to ls to order.2)
in_text from (l ∷ ls) to order (suc k) d k_in = in_text l.to ls to order.2 k d (omega arith)

-- a front is put before tokens that are in order after it
front_in_order : (at to : ℕ) (f : Front) (later : Result (List Lexeme) ℕ) → 1 ≤ front_length f → ((ls : List Lexeme) → later ≡ Ok ls → TokensInOrder (at + front_length f) ls to) → (ls : List Lexeme) → after_front at f later ≡ Ok ls → TokensInOrder at ls to
front_in_order at to (Between n) later some order ls is = earlier (at + n) at ls to (omega arith) (order ls is)
front_in_order at to (Longest n kind) (Ok later) some order ls is =
    let same : record { from = at; to = at + n; kind = kind } ∷ later ≡ ls = cc in
    subst (λ ls. TokensInOrder at ls to) same (omega arith, omega arith, order later refl)
front_in_order at to (Longest n kind) (Err place) some order ls is = cc
front_in_order at to Neither later some order ls is = cc

at_equal : (from from' : ℕ) (ls : List Lexeme) (to to' : ℕ) → from ≡ from' → to ≡ to' → TokensInOrder from ls to → TokensInOrder from' ls to'
at_equal from from' ls to to' same_from same_to order =
    subst (λ a. TokensInOrder a ls to') same_from (subst (λ b. TokensInOrder from ls b) same_to order)

from_in_order : (at inside : ℕ) (s : List ℕ) (ls : List Lexeme) → inside ≤ length s → tokens_from at inside s ≡ Ok ls → TokensInOrder (at + inside) ls (at + length s)
from_in_order at inside [] ls inside_in is =
    let none : [] ≡ ls = cc in
    subst (λ ls. TokensInOrder (at + inside) ls (at + 0)) none (omega arith)
from_in_order at (suc inside) (c ∷ s) ls inside_in is =
    at_equal (at + 1 + inside) (at + suc inside) ls (at + 1 + length s) (at + suc (length s)) (omega arith) (omega arith)
    (from_in_order (at + 1) inside s ls (omega arith) is)
from_in_order at zero (c ∷ s) ls inside_in is =
    let fits : Fits (c ∷ s) (front c s) = subst (Fits (c ∷ s)) (sym (front-front_at c s)) (front_at-fits (c ∷ s) (omega arith)) in
    let some : 1 ≤ front_length (front c s) = fits.0 in
    let room : front_length (front c s) ≤ length s + 1 = omega (arith, fits.1) in
    at_equal at (at + 0) ls (at + suc (length s)) (at + suc (length s)) (omega arith) refl
    (front_in_order at (at + suc (length s)) (front c s) (tokens_from (at + 1) (front_length (front c s) - 1) s) some
    (λ ls is. at_equal (at + 1 + (front_length (front c s) - 1)) (at + front_length (front c s)) ls (at + 1 + length s) (at + suc (length s)) (omega arith) (omega arith)
    (from_in_order (at + 1) (front_length (front c s) - 1) s ls (omega arith) is))
    ls is)

pub tokens_of-in_order : (text : List ℕ) (ls : List Lexeme) → tokens_of text ≡ Ok ls → TokensInOrder 0 ls (length text)
tokens_of-in_order text ls is =
    at_equal (0 + 0) 0 ls (0 + length text) (length text) refl (omega arith) (from_in_order 0 0 text ls (omega arith) is)

pub tokens_in_text : (text : List ℕ) (ts : List Token) → tokens_of text ≡ Ok (map (lexeme_of text) ts) → (k : ℕ) (d : Token) → k < length ts → ((get_or ts k d).from < (get_or ts k d).to) × ((get_or ts k d).to ≤ length text)
tokens_in_text text ts is k d k_in =
    let same = get_or-map (lexeme_of text) ts k d (lexeme_of text d) k_in in
    let k_in_map : k < length (map (lexeme_of text) ts) = omega (arith, length-map ts (lexeme_of text)) in
    let here = in_text 0 (map (lexeme_of text) ts) (length text) (tokens_of-in_order text (map (lexeme_of text) ts) is) k (lexeme_of text d) k_in_map in
    subst (λ l. (l.from < l.to) × (l.to ≤ length text)) same here

pub pieces_in_text : (text : List ℕ) (ps : List Piece) → tokens_of text ≡ Ok (map (piece_of text) ps) → (k : ℕ) (d : Piece) → k < length ps → (0 < (get_or ps k d).length) × ((get_or ps k d).from + (get_or ps k d).length ≤ length text)
pieces_in_text text ps is k d k_in =
    let same = get_or-map (piece_of text) ps k d (piece_of text d) k_in in
    let k_in_map : k < length (map (piece_of text) ps) = omega (arith, length-map ps (piece_of text)) in
    let here = in_text 0 (map (piece_of text) ps) (length text) (tokens_of-in_order text (map (piece_of text) ps) is) k (piece_of text d) k_in_map in
    let there : ((get_or ps k d).from < (get_or ps k d).from + (get_or ps k d).length) × ((get_or ps k d).from + (get_or ps k d).length ≤ length text) = subst (λ l. (l.from < l.to) × (l.to ≤ length text)) same here in
    (omega (arith, there.0), there.1)
