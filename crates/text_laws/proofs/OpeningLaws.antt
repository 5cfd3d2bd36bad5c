-- The first opening that is one too many is found by one count, and there is none exactly where each part has few.
use Rattle.std.proofs.Common.{◌≡◌, ℕ, zero, suc, ◌≤◌, Bool, true, false, List, [], ◌∷◌, length, refl, sym, ap, ◌∙◌, arith}
use Rattle.std.specs.Prelude.{Option, Some, None, option_map}
use Rattle.std.specs.List.{slice_get, filter_map, cons_option, AllByRecursion}
use Rattle.std.proofs.lemmas.Option.{slice_get_past}
use Rattle.model_core.specs.Text.Lexing.{Lexeme}
use Rattle.model_core.specs.Text.Openings.{ends_part, is_opening, with_token, parts_of, openings_of, too_deep_at, HasFewOpenings}
use Rattle.text_laws.specs.OpeningCount.{deep_from}

-- ---- one count

-- of these parts, where the first may have so many more
abbrev beyond : ℕ → ℕ → List (List Lexeme) → Option ℕ
beyond limit room [] = None
beyond limit room (p ∷ ps) = option_map (λ (t : Lexeme). t.from) (slice_get (cons_option (slice_get (openings_of p) room) (filter_map (λ part. slice_get (openings_of part) limit) ps)) 0)

some_parts : (tokens : List Lexeme) → (p : List Lexeme) × (ps : List (List Lexeme)) × (parts_of tokens ≡ p ∷ ps)
some_parts [] = ([], [], refl)
some_parts (t ∷ tokens) = go (parts_of tokens) (ends_part t.kind) refl
  where
    go : (parts : List (List Lexeme)) (b : Bool) → ends_part t.kind ≡ b → (p : List Lexeme) × (ps : List (List Lexeme)) × (with_token t parts ≡ p ∷ ps)
    go [] b e = (t ∷ [], [], refl)
    go (p ∷ ps) true e = ([], p ∷ ps, rw e refl)
    go (p ∷ ps) false e = (t ∷ p, ps, rw e refl)

count-step : (limit room : ℕ) (t : Lexeme) (tokens p : List Lexeme) (ps : List (List Lexeme)) (b c : Bool) → ends_part t.kind ≡ b → is_opening t.kind ≡ c → ((r : ℕ) → deep_from limit r tokens ≡ beyond limit r (p ∷ ps))
    → deep_from limit room (t ∷ tokens) ≡ beyond limit room (with_token t (p ∷ ps))
count-step limit zero t tokens p ps true c e f h = rw e (h limit)
count-step limit (suc room) t tokens p ps true c e f h = rw e (h limit)
count-step limit zero t tokens p ps false true e f h = rw (e, f) refl
count-step limit (suc room) t tokens p ps false true e f h = rw (e, f) (h room)
count-step limit zero t tokens p ps false false e f h = rw (e, f) (h zero)
count-step limit (suc room) t tokens p ps false false e f h = rw (e, f) (h (suc room))

count-is : (limit room : ℕ) (tokens : List Lexeme) → deep_from limit room tokens ≡ beyond limit room (parts_of tokens)
count-is limit zero [] = refl
count-is limit (suc room) [] = refl
count-is limit room (t ∷ tokens) =
    let s = some_parts tokens in
    count-step limit room t tokens s.0 s.1 (ends_part t.kind) (is_opening t.kind) refl refl (λ r. count-is limit r tokens ∙ ap (beyond limit r) s.2)
    ∙ ap (λ parts. beyond limit room (with_token t parts)) (sym s.2)

at_first : (limit : ℕ) (parts : List (List Lexeme)) → beyond limit limit parts ≡ option_map (λ (t : Lexeme). t.from) (slice_get (filter_map (λ part. slice_get (openings_of part) limit) parts) 0)
at_first limit [] = refl
at_first limit (p ∷ ps) = refl

pub deep-is_counted : (limit : ℕ) (tokens : List Lexeme) → too_deep_at limit tokens ≡ deep_from limit limit tokens
deep-is_counted limit tokens = sym (count-is limit limit tokens ∙ at_first limit (parts_of tokens))

-- ---- none

abbrev AreFew : ℕ → List (List Lexeme) → Type 0
AreFew limit parts = AllByRecursion (λ part. length (openings_of part) ≤ limit) parts

abbrev first_beyond : ℕ → List (List Lexeme) → Option Lexeme
first_beyond limit parts = slice_get (filter_map (λ part. slice_get (openings_of part) limit) parts) 0

few-none : (limit : ℕ) (parts : List (List Lexeme)) → AreFew limit parts → first_beyond limit parts ≡ None
few-none limit [] h = refl
few-none limit (p ∷ ps) h = let e : slice_get (openings_of p) limit ≡ None = slice_get_past (openings_of p) limit h.0 in rw e (few-none limit ps h.1)

past : {A : Type 0} (xs : List A) (i : ℕ) → slice_get xs i ≡ None → length xs ≤ i
past [] i e = omega arith
past (x ∷ xs) zero e = absurd cc
past (x ∷ xs) (suc i) e = let h = past xs i e in omega arith

none-few : (limit : ℕ) (parts : List (List Lexeme)) → first_beyond limit parts ≡ None → AreFew limit parts
none-few limit [] e = tt
none-few limit (p ∷ ps) e = go (none-few limit ps) (slice_get (openings_of p) limit) refl e
  where
    go : (first_beyond limit ps ≡ None → AreFew limit ps) → (r : Option Lexeme) → slice_get (openings_of p) limit ≡ r → slice_get (cons_option r (filter_map (λ part. slice_get (openings_of part) limit) ps)) 0 ≡ None → AreFew limit (p ∷ ps)
    go others None f g = (past (openings_of p) limit f, others g)
    go others (Some t) f g = absurd cc

no_place : (r : Option Lexeme) → option_map (λ (t : Lexeme). t.from) r ≡ None → r ≡ None
no_place None e = refl
no_place (Some t) e = absurd cc

pub none-is_few : (limit : ℕ) (tokens : List Lexeme) → too_deep_at limit tokens ≡ None → HasFewOpenings limit tokens
none-is_few limit tokens e = none-few limit (parts_of tokens) (no_place (first_beyond limit (parts_of tokens)) e)

pub few-is_none : (limit : ℕ) (tokens : List Lexeme) → HasFewOpenings limit tokens → too_deep_at limit tokens ≡ None
few-is_none limit tokens h = ap (option_map (λ (t : Lexeme). t.from)) (few-none limit (parts_of tokens) h)
