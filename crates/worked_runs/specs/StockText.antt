-- A text with each kind of line, and the written model that it spells.
use Rattle.std.specs.Prelude.{ℕ, true, List, [], ◌∷◌, ◌++◌, Some, None, codes}
use Rattle.model_core.specs.Text.Written.{Truth, SignedLiteral, RangeKind, ByTable, Draw, CancelAll, WrittenModel}
use Rattle.worked_runs.specs.WrittenParts.{spelled, figure, plain_figure, minus_figure, constant, to_index}

abbrev pub stock_text : List ℕ
stock_text =
    codes "model M; var N[4] : -1..9 clip = 0; table T { 5 : 1; } watch N; "
    ++ codes "vertex A(N) { draw N[0] from 3 by T; cancel all A when true; } end"

abbrev pub stock : WrittenModel
stock = record {
  at = 0;
  version = None;
  name = spelled (codes "M") 6;
  variables = record { at = 9; name = spelled (codes "N") 13; size = Some (figure 4 15); kind = RangeKind (minus_figure 1 20) (plain_figure 9 24) true; initial = SignedLiteral (plain_figure 0 33) } ∷ [];
  tables = record { at = 36; name = spelled (codes "T") 42; rows = record { at = 46; value = plain_figure 5 46; weight = figure 1 50 } ∷ [] } ∷ [];
  watch = Some (spelled (codes "N") 61 ∷ []);
  vertices =
      record {
        at = 64;
        name = spelled (codes "A") 71;
        parameters = Some (spelled (codes "N") 73 ∷ []);
        changes = Draw 78 (to_index (spelled (codes "N") 83) (constant 0 85)) (figure 3 93) (ByTable (spelled (codes "T") 98)) ∷ [];
        edges = record { at = 101; target = spelled (codes "A") 112; values = None; condition = Some (Truth 119 true); kind = CancelAll } ∷ [];
      } ∷ [];
  end_at = 127;
}
