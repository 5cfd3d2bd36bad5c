-- The beginning of a model, up to its vertices, and of a vertex, up to its changes; and the rest after it.
use Rattle.std.specs.Prelude.{ℕ, List}
use Rattle.model_core.specs.declared.token.Word.TheVariants as words
use Rattle.model_core.specs.declared.token.Symbol.TheVariants as symbols
use Rattle.model_core.specs.Text.Written.{WrittenChange, WrittenEdge, WrittenVertex, WrittenModel}
use Rattle.model_core.specs.Text.Format.{Yields, Many, reserved, mark, any_name, ◌<*>◌, ◌<*◌, ◌*>◌, maybe, separated}
use Rattle.model_core.specs.Text.Expressions.{LanguageFormat}
use Rattle.model_core.specs.Text.Language.{variable_format, table_format, watch_format, version_format, text_written}

-- a vertex that begins as another one does
abbrev pub with_body : WrittenVertex → List WrittenChange → List WrittenEdge → WrittenVertex
with_body v changes edges = record v { changes = changes; edges = edges }

-- a model that begins as another one does
abbrev pub with_vertices : WrittenModel → List WrittenVertex → ℕ → WrittenModel
with_vertices m vertices end_at = record m { vertices = vertices; end_at = end_at }

-- `vertex`, the name and the parameters, up to the opening brace
unfoldable pub vertex_beginning : LanguageFormat (List WrittenChange → List WrittenEdge → WrittenVertex)
vertex_beginning =
    Yields (λ at called parameters changes edges. record { at = at; name = called; parameters = parameters; changes = changes; edges = edges })
    <*> reserved words.Vertex <*> any_name <*> maybe (mark symbols.OpenParenthesis *> separated any_name <* mark symbols.CloseParenthesis)
    <* mark symbols.OpenBrace

-- the version line, if there is one, `model`, the name, and the declarations up to the first vertex
unfoldable pub model_beginning : LanguageFormat (List WrittenVertex → ℕ → WrittenModel)
model_beginning =
    Yields text_written
    <*> maybe version_format <*> reserved words.Model <*> any_name <* mark symbols.Semicolon <*> Many variable_format <*> Many table_format <*> maybe watch_format
