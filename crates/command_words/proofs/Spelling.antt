-- How a word is spelled, for `clap` and for the rule of the words alike.
use Rattle.std.proofs.Common.{◌≡◌, ◌∙◌, ◌+◌, ◌||◌, ℕ, Bool, true, false, cond, not, nat_lt, nat_eq, bytes_eq, ◌==◌, refl, sym, ap, arith, List, [], ◌∷◌, Option, Some, None, take, length, take_all, codes}
use Rattle.std.specs.List.{starts_with, position, position_or_len, list_any}
use Rattle.std.proofs.lemmas.Bool.Decides.{nat_tests}
use Rattle.clap.specs.Lexer.{long_of, name_and_value, short_of}
use Rattle.command_words.specs.Inner.ClapCommand.{has_one_dash}
use Rattle.command_words.specs.Arguments.{WordForm, NameWithValue, NameAlone, OtherForm, form_of, is_value, cut_at}

abbrev is_equals : ℕ → Bool
is_equals b = b == 61

abbrev form_with : List ℕ → Option (List ℕ) → WordForm
form_with name (Some value) = NameWithValue name value
form_with name None = NameAlone name

-- what comes after two dashes, as `clap` cuts it
abbrev pub form_cut : List ℕ × Option (List ℕ) → WordForm
form_cut cut = form_with cut.0 cut.1

-- there is a place of an `=` where there is one, and else it is the end
place_of : (text : List ℕ) → (list_any is_equals text ≡ nat_lt (position_or_len is_equals text) (length text)) × (list_any is_equals text ≡ false → position_or_len is_equals text ≡ length text)
place_of [] = (refl, λ _. refl)
place_of (c ∷ text) = go (is_equals c) (place_of text)
  where
    go : (b : Bool) → (list_any is_equals text ≡ nat_lt (position_or_len is_equals text) (length text)) × (list_any is_equals text ≡ false → position_or_len is_equals text ≡ length text)
        → ((b || list_any is_equals text) ≡ nat_lt (cond (not b) (1 + position_or_len is_equals text) 0) (length (c ∷ text))) × ((b || list_any is_equals text) ≡ false → cond (not b) (1 + position_or_len is_equals text) 0 ≡ length (c ∷ text))
    go true has_name = (grind (arith, nat_tests), λ e. cc)
    go false (is, none) = (is ∙ grind (arith, nat_tests), λ e. let end = none e in omega (arith, end))

-- `clap` cuts at the first `=`, as the rule does
pub cut-is : (text : List ℕ) → cut_at text (position is_equals text) ≡ form_cut (name_and_value text)
cut-is text = go (list_any is_equals text) refl (place_of text)
  where
    go : (b : Bool) → list_any is_equals text ≡ b → (list_any is_equals text ≡ nat_lt (position_or_len is_equals text) (length text)) × (list_any is_equals text ≡ false → position_or_len is_equals text ≡ length text)
        → cut_at text (position is_equals text) ≡ form_cut (name_and_value text)
    go true e (is, none) = rw (e, sym is ∙ e) refl
    go false e (is, none) = rw (e, sym is ∙ e) (ap NameAlone (sym (ap (λ n. take n text) (none e) ∙ take_all (length text) text (omega arith))))

-- how a word is spelled: `--`, `--` and more, without `-` at its beginning, or with one
pub data Spelling (word : List ℕ) : Type 0 where
  dashes : word ≡ codes "--" → Spelling word
  named : (c : ℕ) (text : List ℕ) → word ≡ 45 ∷ 45 ∷ c ∷ text → Spelling word
  plain : is_value word ≡ true → Spelling word
  one_dash : has_one_dash word ≡ true → Spelling word

pub spelling : (word : List ℕ) → Spelling word
spelling [] = plain refl
spelling (b ∷ []) = go (nat_eq 45 b) refl
  where
    go : (t : Bool) → nat_eq 45 b ≡ t → Spelling (b ∷ [])
    go true e = one_dash (rw e)
    go false e = plain (rw e)
spelling (b ∷ c ∷ text) = go (nat_eq 45 b) (nat_eq 45 c) text refl refl
  where
    go : (s t : Bool) (text : List ℕ) → nat_eq 45 b ≡ s → nat_eq 45 c ≡ t → Spelling (b ∷ c ∷ text)
    go true true [] d e = dashes (let (x, y) : (45 ≡ b) × (45 ≡ c) = (grind (arith, nat_tests), grind (arith, nat_tests)) in cc)
    go true true (a ∷ text) d e = named a text (let (x, y) : (45 ≡ b) × (45 ≡ c) = (grind (arith, nat_tests), grind (arith, nat_tests)) in cc)
    go true false text d e = one_dash (rw (d, e))
    go false t text d e = plain (rw d)

-- a word without `-` at its beginning is nothing else to `clap`
pub record IsPlain (word : List ℕ) : Type 0 where
  pub no_dashes : bytes_eq word (codes "--") ≡ false
  pub no_long : long_of word ≡ None
  pub no_short : short_of word ≡ None
  pub other : form_of word ≡ OtherForm

pub plain-is : (word : List ℕ) → is_value word ≡ true → IsPlain word
plain-is [] value = record { no_dashes = refl; no_long = refl; no_short = refl; other = refl }
plain-is (b ∷ rest) value = go (nat_eq 45 b) refl
  where
    go : (t : Bool) → nat_eq 45 b ≡ t → IsPlain (b ∷ rest)
    go true e = absurd (let wrong : false ≡ true = rw e at value in cc)
    go false e =
        let differs : nat_eq b 45 ≡ false = grind (arith, nat_tests) in
        record { no_dashes = rw differs; no_long = rw differs; no_short = rw differs; other = rw e }

-- a word with one dash is no value, and no name
pub one_dash-is : (word : List ℕ) → has_one_dash word ≡ true → (is_value word ≡ false) × (form_of word ≡ OtherForm)
one_dash-is word one = go (starts_with nat_eq word (codes "-")) (starts_with nat_eq word (codes "--")) refl refl
  where
    go : (s t : Bool) → starts_with nat_eq word (codes "-") ≡ s → starts_with nat_eq word (codes "--") ≡ t → (is_value word ≡ false) × (form_of word ≡ OtherForm)
    go true false d e = (rw d, rw e)
    go true true d e = absurd (let wrong : false ≡ true = rw (d, e) at one in cc)
    go false t d e = absurd (let wrong : false ≡ true = rw d at one in cc)
