-- A loop that reads a phrase again and again: what it has read, before what is left to read, is what there was to read.
use Rattle.std.proofs.Common.{◌≡◌, Bool, true, false, List, [], ◌∷◌, ◌++◌, map, refl, sym, ap, ◌∙◌, subst, append_assoc}
use Rattle.std.specs.Prelude.{Ok, Err}
use Rattle.std.proofs.lemmas.List.{append-nil, map-append}
use Rattle.model_core.specs.Text.Lexing.{Lexeme}
use Rattle.model_core.specs.Text.Format.{TokenSort, Many}
use Rattle.model_core.specs.Text.Expressions.{LanguageFormat, level_format}
use Rattle.text_laws.specs.FirstTokens.{nullable, first_sorts, begins_as, begins_among}
use Rattle.text_laws.specs.FormatReader.{Parse, took, stuck, and_next, with_front, rule_at}
use Rattle.text_laws.specs.LanguageReader.{level_lookahead, language_reader}
use Rattle.text_laws.proofs.Formats.FormatLaws.{Shorter, reads-shorter}
use Rattle.text_laws.proofs.Formats.RuleLaws.{rule-shorter}
use Rattle.text_laws.proofs.Formats.ManyLaws.{repeated-is, one_more-ok, one_more-err}
use Rattle.text_laws.proofs.Formats.OneTokenDecides.{levels-fine}

-- what is read takes a token at least
pub shorter : {A : Type 0} (f : LanguageFormat A) → nullable f ≡ false → Shorter (language_reader f) false
shorter f some = subst (λ (b : Bool). Shorter (language_reader f) b) some (reads-shorter level_lookahead (rule_at level_lookahead level_format) (rule-shorter level_lookahead level_format levels-fine) f)

front-one : {A : Type 0} (front : List A) (x : A) (r : Parse (List A)) → with_front front (and_next (λ xs rest. took (x ∷ xs) rest) r) ≡ with_front (front ++ x ∷ []) r
front-one front x (Ok r) = ap (λ xs. took xs r.1) (sym (append_assoc front (x ∷ []) r.0))
front-one front x (Err rest) = refl

pub front-none : {A : Type 0} (r : Parse (List A)) → with_front [] r ≡ r
front-none (Ok r) = refl
front-none (Err rest) = refl

pub begins-one : (s : TokenSort) (tokens : List Lexeme) (b : Bool) → begins_as s tokens ≡ b → begins_among (s ∷ []) tokens ≡ b
begins-one s tokens true e = rw e refl
begins-one s tokens false e = rw e refl

-- one more is read
pub goes_on : {V A : Type 0} (view : V → A) (f : LanguageFormat A) → nullable f ≡ false → (items : List V) (item : V) (tokens left : List Lexeme) (total : Parse (List A)) → begins_among (first_sorts level_lookahead f) tokens ≡ true
    → language_reader f tokens ≡ took (view item) left → with_front (map view items) (language_reader (Many f) tokens) ≡ total → with_front (map view (items ++ item ∷ [])) (language_reader (Many f) left) ≡ total
goes_on view f some items item tokens left total begun e so_far =
    let m : language_reader (Many f) tokens ≡ and_next (λ xs rest. took (view item ∷ xs) rest) (language_reader (Many f) left) =
    rw (repeated-is (first_sorts level_lookahead f) (language_reader f) (shorter f some) tokens, begun) (one_more-ok (first_sorts level_lookahead f) (language_reader f) tokens (view item) left e) in
    rw map-append (sym (front-one (map view items) (view item) (language_reader (Many f) left)) ∙ ap (with_front (map view items)) (sym m) ∙ so_far)

-- the phrase can't be read
pub ends : {V A : Type 0} (view : V → A) (f : LanguageFormat A) → nullable f ≡ false → (items : List V) (tokens rest : List Lexeme) (total : Parse (List A)) → begins_among (first_sorts level_lookahead f) tokens ≡ true
    → with_front (map view items) (language_reader (Many f) tokens) ≡ total → language_reader f tokens ≡ stuck rest → total ≡ stuck rest
ends view f some items tokens rest total begun so_far e =
    let m : language_reader (Many f) tokens ≡ stuck rest = rw (repeated-is (first_sorts level_lookahead f) (language_reader f) (shorter f some) tokens, begun) (one_more-err (first_sorts level_lookahead f) (language_reader f) tokens rest e) in
    sym so_far ∙ ap (with_front (map view items)) m

-- no more comes
pub is_done : {V A : Type 0} (view : V → A) (f : LanguageFormat A) → nullable f ≡ false → (items : List V) (tokens : List Lexeme) (total : Parse (List A)) → begins_among (first_sorts level_lookahead f) tokens ≡ false
    → with_front (map view items) (language_reader (Many f) tokens) ≡ total → total ≡ took (map view items) tokens
is_done view f some items tokens total stop so_far =
    let m : language_reader (Many f) tokens ≡ took [] tokens = rw (repeated-is (first_sorts level_lookahead f) (language_reader f) (shorter f some) tokens, stop) refl in
    sym so_far ∙ ap (with_front (map view items)) m ∙ ap (λ xs. took xs tokens) (append-nil (map view items))
