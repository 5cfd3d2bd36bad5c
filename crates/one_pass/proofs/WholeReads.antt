-- The whole that was read, from the parts that were read.
use Rattle.std.proofs.Common.{◌≡◌, ℕ, true, false, List, [], ◌∷◌, map, refl, sym, ap, ◌∙◌}
use Rattle.std.specs.Prelude.{Ok, Err}
use Rattle.model_core.specs.declared.token.Symbol.TheVariants as symbols
use Rattle.model_core.specs.declared.token.Word.TheVariants.{End}
use Rattle.model_core.specs.Text.Lexing.{Lexeme}
use Rattle.model_core.specs.Text.Written.{WrittenChange, WrittenEdge, WrittenVertex, WrittenModel}
use Rattle.model_core.specs.Text.Format.{TokenSort, Many, reserved, mark, at_least_one, ◌<*>◌, ◌<*◌}
use Rattle.model_core.specs.Text.Expressions.{LanguageFormat}
use Rattle.model_core.specs.Text.Language.{change_format, edge_format, vertex_format, text_format}
use Rattle.text_laws.specs.FirstTokens.{nullable, first_sorts, begins_among}
use Rattle.text_laws.specs.FormatReader.{Parse, took, stuck, and_next, with_front, whole_read}
use Rattle.text_laws.specs.LanguageReader.{level_lookahead, language_reader, text_read}
use Rattle.text_laws.proofs.Formats.ManyLaws.{repeated-is, one_more, one_more-ok, one_more-err}
use Rattle.model_read.specs.Beginnings.{with_body, with_vertices, vertex_beginning, model_beginning}
use Rattle.text_laws.proofs.ReadLoop.{shorter}
use Rattle.one_pass.specs.Inner.ToEnd.{end_read, to_end}

pub applied : {A B : Type 0} (p : LanguageFormat (A → B)) (q : LanguageFormat A) (before between after : List Lexeme) (f : A → B) (x : A)
    → language_reader p before ≡ took f between → language_reader q between ≡ took x after → language_reader (p <*> q) before ≡ took (f x) after
applied p q before between after f x e g = rw (e, g) refl

pub left_out : {A B : Type 0} (p : LanguageFormat A) (q : LanguageFormat B) (before between after : List Lexeme) (x : A) (y : B)
    → language_reader p before ≡ took x between → language_reader q between ≡ took y after → language_reader (p <* q) before ≡ took x after
left_out p q before between after x y e g = rw (e, g) refl

pub vertex-read : (v : WrittenVertex) (changes : List WrittenChange) (edges : List WrittenEdge) (at : ℕ) (t0 t1 t2 t3 t4 : List Lexeme)
    → language_reader vertex_beginning t0 ≡ took (with_body v) t1 → language_reader (Many change_format) t1 ≡ took changes t2 → language_reader (Many edge_format) t2 ≡ took edges t3 → language_reader (mark symbols.CloseBrace) t3 ≡ took at t4
    → language_reader vertex_format t0 ≡ took (with_body v changes edges) t4
unfolding vertex_format vertex_beginning
vertex-read v changes edges at t0 t1 t2 t3 t4 b c e m =
    left_out (vertex_beginning <*> Many change_format <*> Many edge_format) (mark symbols.CloseBrace) t0 t3 t4 (with_body v changes edges) at
    (applied (vertex_beginning <*> Many change_format) (Many edge_format) t0 t2 t3 (with_body v changes) edges (applied vertex_beginning (Many change_format) t0 t1 t2 (with_body v) changes b c) e) m

-- where one comes, one or more are read as any number of them
pub some-read : {A : Type 0} (f : LanguageFormat A) → nullable f ≡ false → (tokens : List Lexeme) → begins_among (first_sorts level_lookahead f) tokens ≡ true → language_reader (at_least_one f) tokens ≡ language_reader (Many f) tokens
some-read {A} f some tokens begun = one (language_reader f tokens) refl
  where
    sorts : List TokenSort
    sorts = first_sorts level_lookahead f

    many : language_reader (Many f) tokens ≡ one_more sorts (language_reader f) tokens
    many = rw (repeated-is sorts (language_reader f) (shorter f some) tokens, begun) refl

    one : (r : Parse A) → language_reader f tokens ≡ r → language_reader (at_least_one f) tokens ≡ language_reader (Many f) tokens
    one (Ok (x, left)) first = rw first (sym (many ∙ one_more-ok sorts (language_reader f) tokens x left first))
    one (Err rest) first = rw first (sym (many ∙ one_more-err sorts (language_reader f) tokens rest first))

-- what was read before leaves the rest of the text as it is
front-to_end : {A : Type 0} (front : List A) (r : Parse (List A)) (left : List Lexeme) → to_end r ≡ stuck left → to_end (with_front front r) ≡ stuck left
front-to_end front (Ok r) left e = e
front-to_end front (Err rest) left e = e

-- after vertices that were read the text is stuck, so it is before them
pub vertices-stuck : {A : Type 0} (f : LanguageFormat A) → nullable f ≡ false → (before now left : List Lexeme) (seen : List A) → begins_among (first_sorts level_lookahead f) before ≡ true
    → with_front (map (λ x. x) seen) (language_reader (Many f) now) ≡ language_reader (Many f) before → to_end (language_reader (Many f) now) ≡ stuck left → to_end (language_reader (at_least_one f) before) ≡ stuck left
vertices-stuck f some before now left seen begun read e =
    ap to_end (some-read f some before begun ∙ sym read) ∙ front-to_end (map (λ x. x) seen) (language_reader (Many f) now) left e

-- ---- a text, from its parts

-- what is made of the place of the end
end-read : {B : Type 0} (f : ℕ → B) (r : Parse ℕ) (at : ℕ) (left : List Lexeme) → and_next whole_read r ≡ took at left → and_next whole_read (and_next (λ x rest. took (f x) rest) r) ≡ took (f at) left
end-read f (Ok (x, [])) at left e = cc
end-read f (Ok (x, t ∷ rest)) at left e = cc
end-read f (Err rest) at left e = cc

end-stuck : {B : Type 0} (f : ℕ → B) (r : Parse ℕ) (left : List Lexeme) → and_next whole_read r ≡ stuck left → and_next whole_read (and_next (λ x rest. took (f x) rest) r) ≡ stuck left
end-stuck f (Ok (x, [])) left e = cc
end-stuck f (Ok (x, t ∷ rest)) left e = cc
end-stuck f (Err rest) left e = cc

module _ (m : WrittenModel) (t0 t1 : List Lexeme) (begun : language_reader model_beginning t0 ≡ took (with_vertices m) t1) where
  pub text-read : (vertices : List WrittenVertex) (end_at : ℕ) (t2 left : List Lexeme) → language_reader (at_least_one vertex_format) t1 ≡ took vertices t2 → end_read t2 ≡ took end_at left → text_read t0 ≡ took (with_vertices m vertices end_at) left
  unfolding text_format model_beginning
  text-read vertices end_at t2 left v e = rw (begun, v) (end-read (with_vertices m vertices) (language_reader (reserved End) t2) end_at left e)

  pub text-stuck : (left : List Lexeme) → to_end (language_reader (at_least_one vertex_format) t1) ≡ stuck left → text_read t0 ≡ stuck left
  unfolding text_format model_beginning
  text-stuck left e = rw begun (by (language_reader (at_least_one vertex_format) t1) e) where
    by : (r : Parse (List WrittenVertex)) → to_end r ≡ stuck left
        → and_next whole_read (and_next (λ f rest. and_next (λ at others. took (f at) others) (language_reader (reserved End) rest)) (and_next (λ vs rest. took (with_vertices m vs) rest) r)) ≡ stuck left
    by (Ok (vs, t2)) g = end-stuck (with_vertices m vs) (language_reader (reserved End) t2) left g
    by (Err rest) g = cc

pub beginning-stuck : (t0 left : List Lexeme) → language_reader model_beginning t0 ≡ stuck left → text_read t0 ≡ stuck left
unfolding text_format model_beginning
beginning-stuck t0 left e = rw e refl
