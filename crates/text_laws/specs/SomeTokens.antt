-- Each phrase of a list has a token at least.
use Rattle.std.specs.Prelude.{◌≡◌, false, refl}
use Rattle.model_core.specs.Text.Language.{signed_format, variable_format, row_format, table_format, target_format, change_format, schedule_format, urgent_format, cancel_format, edge_format, vertex_format}
use Rattle.text_laws.specs.FirstTokens.{nullable}

pub signed-some : nullable signed_format ≡ false
unfolding signed_format
signed-some = refl

pub variable-some : nullable variable_format ≡ false
unfolding variable_format
variable-some = refl

pub row-some : nullable row_format ≡ false
unfolding row_format signed_format
row-some = refl

pub table-some : nullable table_format ≡ false
unfolding table_format
table-some = refl

pub target-some : nullable target_format ≡ false
unfolding target_format
target-some = refl

pub change-some : nullable change_format ≡ false
unfolding change_format
change-some = refl

pub edge-some : nullable edge_format ≡ false
unfolding edge_format schedule_format urgent_format cancel_format
edge-some = refl

pub vertex-some : nullable vertex_format ≡ false
unfolding vertex_format
vertex-some = refl
