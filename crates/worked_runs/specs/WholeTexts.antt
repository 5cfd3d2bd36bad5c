-- Whole texts: their first fault, and what they are printed as, computed from their bytes.
use Rattle.std.specs.Prelude.{ℕ, List, ◌++◌, Option, Some, None, option_map, codes}
use Rattle.model_core.specs.EventGraph.{EventGraph}
use Rattle.model_core.specs.Text.Written.{WrittenModel}
use Rattle.model_core.specs.Text.Language.{text_format}
use Rattle.model_core.specs.Text.Numbering.{numbered}
use Rattle.model_core.specs.Text.Canonical.{canonical}
use Rattle.model_core.specs.Static.FaultOrder.{StaticFault}
use Rattle.model_core.specs.Static.ModelFaults.{first_fault}
use Rattle.worked_runs.specs.GrammarTexts.{read_as}

abbrev pub fault_of_read : Option WrittenModel → Option StaticFault
fault_of_read None = None
fault_of_read (Some m) = first_fault m

-- the first static fault of a text
abbrev pub fault_in : List ℕ → Option StaticFault
fault_in text = fault_of_read (read_as text_format text)

abbrev pub graph_of_read : Option WrittenModel → Option EventGraph
graph_of_read None = None
graph_of_read (Some m) = numbered m

-- the canonical text of the model that a text names
abbrev pub printed_as : List ℕ → Option (List ℕ)
printed_as text = option_map canonical (graph_of_read (read_as text_format text))

-- a model with each form of an expression and each operator, no two parts of which are the same
abbrev pub expressions_text : List ℕ
expressions_text =
    codes "model M;\n"
    ++ codes "var N : 0..9 = 1;\n"
    ++ codes "var B : bool = false;\n"
    ++ codes "var A[3] : 0..9 = 2;\n"
    ++ codes "vertex RUN {\n"
    ++ codes "  set N, A[1] := if B then N else 3, A[2] + clk;\n"
    ++ codes "  set N, B := 1 + 2 - 3 * 4 / 5 % 6, not B or 1 = 2 and 3 <> 4 and 5 < 6 and 7 <= 8 and 9 > 10 and 11 >= 12;\n"
    ++ codes "  draw N from 6 in 7..8;\n"
    ++ codes "  schedule RUN after min(9, -max(N, 4)) when true = false;\n"
    ++ codes "}\n"
    ++ codes "end\n"
