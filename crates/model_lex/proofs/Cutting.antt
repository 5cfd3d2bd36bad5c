-- The tokens so far and those of the rest of the text are the text's tokens.
use Rattle.std.proofs.Common.{◌≡◌, ℕ, zero, suc, ◌+◌, ◌-◌, ◌<◌, ◌≤◌, List, [], ◌∷◌, ◌++◌, length, drop, sym, refl, ap, ◌∙◌, subst, arith, add-zero, append_assoc}
use Rattle.std.specs.Prelude.{Result, Ok, Err}
use Rattle.std.proofs.lemmas.List.{append-nil, at_drop_all, drop-drop, length-drop}
use Rattle.model_core.specs.Text.Lexing.{Lexeme, LexemeKind, Front, Between, Longest, Neither, front_length, after_front, tokens_from, tokens_of}
use Rattle.model_lex.specs.Inner.Fronts.{front_at, Gives, Passes}
use Rattle.model_lex.specs.declared.lex_error.LexError.{LexError}
use Rattle.model_lex.specs.declared.lex_error.LexError.TheVariants as errors
use Rattle.model_lex.proofs.FrontLemmas.{Fits, front-front_at, front_at-fits}

-- tokens that come before what the rest gives
abbrev pub joined : List Lexeme → Result (List Lexeme) ℕ → Result (List Lexeme) ℕ
joined before (Ok later) = Ok (before ++ later)
joined before (Err at) = Err at

-- what belongs to what began before is passed over
tokens_from-inside : (at inside : ℕ) (s : List ℕ) → tokens_from at inside s ≡ tokens_from (at + inside) 0 (drop inside s)
tokens_from-inside at zero s = ap (λ a. tokens_from a 0 s) (sym (add-zero at))
tokens_from-inside at (suc n) [] = refl
tokens_from-inside at (suc n) (c ∷ s) =
    let same : at + 1 + n ≡ at + suc n = omega arith in
    tokens_from-inside (at + 1) n s ∙ ap (λ a. tokens_from a 0 (drop n s)) same

pub after_byte : (at n c : ℕ) (s : List ℕ) → 1 ≤ n → tokens_from (at + 1) (n - 1) s ≡ tokens_from (at + n) 0 (drop n (c ∷ s))
after_byte at zero c s some = absurd (omega arith)
after_byte at (suc n) c s some =
    let one_less : suc n - 1 ≡ n = omega arith in
    let same : at + 1 + n ≡ at + suc n = omega arith in
    ap (λ k. tokens_from (at + 1) k s) one_less ∙ tokens_from-inside (at + 1) n s ∙ ap (λ a. tokens_from a 0 (drop n s)) same

-- the front is taken off, and the rest gives the later tokens
tokens_from-front : (at : ℕ) (s : List ℕ) → 0 < length s → tokens_from at 0 s ≡ after_front at (front_at s) (tokens_from (at + front_length (front_at s)) 0 (drop (front_length (front_at s)) s))
tokens_from-front at [] some = absurd (omega arith)
tokens_from-front at (c ∷ s) some =
    ap (λ f. after_front at f (tokens_from (at + 1) (front_length f - 1) s)) (front-front_at c s)
    ∙ ap (after_front at (front_at (c ∷ s))) (after_byte at (front_length (front_at (c ∷ s))) c s (front_at-fits (c ∷ s) some).0)

-- up to this place the text is cut into these tokens
pub record Cut (text : List ℕ) (ls : List Lexeme) (at : ℕ) : Type 0 where
  pub in_text : at ≤ length text
  pub whole : joined ls (tokens_from at 0 (drop at text)) ≡ tokens_of text

-- the front at a place, and what is left after it
abbrev rest_after : List ℕ → ℕ → ℕ → Result (List Lexeme) ℕ
rest_after text at n = tokens_from (at + n) 0 (drop (at + n) text)

front_here : (text : List ℕ) (at : ℕ) (f : Front) → at < length text → front_at (drop at text) ≡ f → (tokens_from at 0 (drop at text) ≡ after_front at f (rest_after text at (front_length f))) × Fits (drop at text) f
front_here text at f inside is =
    let some : 0 < length (drop at text) = omega (arith, length-drop at text) in (
      tokens_from-front at (drop at text) some
          ∙ ap (λ g. after_front at g (tokens_from (at + front_length g) 0 (drop (front_length g) (drop at text)))) is
          ∙ ap (λ r. after_front at f (tokens_from (at + front_length f) 0 r)) (drop-drop (front_length f) at text),
      subst (Fits (drop at text)) is (front_at-fits (drop at text) some),
    )

-- where the front is, there is room for it
pub front_room : (text : List ℕ) (at : ℕ) (f : Front) → at < length text → front_at (drop at text) ≡ f → (0 < front_length f) × (at + front_length f ≤ length text)
front_room text at f inside is = let fits = (front_here text at f inside is).1 in (omega arith, omega (arith, length-drop at text, fits.1))

-- a byte that begins no token ends the cutting
pub cut_neither : (text : List ℕ) (ls : List Lexeme) (at : ℕ) → at < length text → front_at (drop at text) ≡ Neither → Cut text ls at → tokens_of text ≡ Err at
cut_neither text ls at inside is cut = sym cut.whole ∙ ap (joined ls) (front_here text at Neither inside is).0

-- an error names such a byte
pub gives_error : {X : Type 0} (view : X → List Lexeme) (text : List ℕ) (ls : List Lexeme) (at : ℕ) (e : LexError) → at < length text → Cut text ls at
    → ((place : ℕ) → (let r : Result ℕ LexError = Err e in r) ≡ Err (errors.BadByte place) → (place ≡ at) × (front_at (drop at text) ≡ Neither)) → Gives view (Err e) (tokens_of text)
gives_error view text ls at (errors.BadByte place) inside cut why = let w = why place refl in cut_neither text ls at inside w.1 cut ∙ ap Err (sym w.0)
gives_error view text ls at errors.NoMemory inside cut why = record {}

-- where the text ends, the tokens are all of its tokens
pub cut_all : (text : List ℕ) (ls : List Lexeme) (at : ℕ) → length text ≤ at → Cut text ls at → tokens_of text ≡ Ok ls
cut_all text ls at past cut = sym cut.whole ∙ at_drop_all (λ s. joined ls (tokens_from at 0 s)) text at past ∙ ap Ok (append-nil ls)

-- a token comes after those before it
joined_longest : (ls : List Lexeme) (at n : ℕ) (kind : LexemeKind) (r : Result (List Lexeme) ℕ) → joined ls (after_front at (Longest n kind) r) ≡ joined (ls ++ record { from = at; to = at + n; kind = kind } ∷ []) r
joined_longest ls at n kind (Ok later) = ap Ok (sym (append_assoc ls (record { from = at; to = at + n; kind = kind } ∷ []) later))
joined_longest ls at n kind (Err place) = refl

-- the result with what the front adds
joined_passed : (f : Front) (at to : ℕ) (ls ks : List Lexeme) (rest : ℕ → Result (List Lexeme) ℕ) → Passes at f ls ks to → joined ks (rest to) ≡ joined ls (after_front at f (rest (at + front_length f)))
joined_passed (Between n) at to ls ks rest passes = rw (passes.0, passes.1) refl
joined_passed (Longest n kind) at to ls ks rest passes = rw (passes.0, passes.1) (sym (joined_longest ls at n kind (rest (at + n))))
joined_passed Neither at to ls ks rest passes = absurd passes

passed_to : (f : Front) (at to : ℕ) (ls ks : List Lexeme) → Passes at f ls ks to → to ≡ at + front_length f
passed_to (Between n) at to ls ks passes = passes.0
passed_to (Longest n kind) at to ls ks passes = passes.0
passed_to Neither at to ls ks passes = absurd passes

-- the text is cut up to the place after the front at a place, which is a later one
pub cut_on : (text : List ℕ) (ls ks : List Lexeme) (at to : ℕ) → at < length text → Cut text ls at → Passes at (front_at (drop at text)) ls ks to → Cut text ks to × (at < to)
cut_on text ls ks at to inside cut passes =
    let f = front_at (drop at text) in
    let room = front_room text at f inside refl in
    let is = passed_to f at to ls ks passes in (
      record {
        in_text = omega (arith, room.1);
        whole = joined_passed f at to ls ks (λ n. tokens_from n 0 (drop n text)) passes ∙ ap (joined ls) (sym (front_here text at f inside refl).0) ∙ cut.whole;
      },
      omega (arith, room.0),
    )
