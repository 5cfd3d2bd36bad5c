-- The text of a saved run of a model.
use Rattle.std.specs.Prelude.{ℕ, suc, ◌-◌, ◌/◌, ◌%◌, ◌^◌, ◌==◌, ℤ, if◌then◌else◌, List, [], ◌∷◌, ◌++◌, take, drop, Option, Some, None, codes, decimal}
use Rattle.std.specs.Fmt.{signed_decimal}
use Rattle.std.specs.List.{flat_map}
use Rattle.model_core.specs.EventGraph.{EventGraph, Variable}
use Rattle.model_core.specs.Run.State.{cell_count}
use Rattle.model_core.specs.Run.Pending.{Entry}
use Rattle.model_core.specs.Text.Canonical.{vertex_name}
use Rattle.model_core.specs.Saved.SavedRun.{SavedRun}

-- values with a comma between two
abbrev pub comma_values : List ℤ → List ℕ
comma_values [] = []
comma_values (x ∷ xs) = signed_decimal x ++ flat_map (λ y. codes "," ++ signed_decimal y) xs

-- a line for each stream from this one on that gave a word
abbrev pub stream_lines : ℕ → List ℕ → List ℕ
stream_lines stream [] = []
stream_lines stream (n ∷ taken) =
    (if n == 0 then [] else codes "stream " ++ decimal stream ++ codes " " ++ decimal n ++ codes "\n") ++ stream_lines (suc stream) taken

-- a line for each variable, with the next of the values
abbrev pub value_lines : List Variable → List ℤ → List ℕ
value_lines [] values = []
value_lines (v ∷ variables) values =
    (codes "value " ++ v.name ++ codes " " ++ comma_values (take (cell_count v) values) ++ codes "\n") ++ value_lines variables (drop (cell_count v) values)

abbrev pub noted_values : List ℤ → List ℕ
noted_values [] = []
noted_values (x ∷ xs) = codes " " ++ comma_values (x ∷ xs)

abbrev pub noted_line : Option (List ℤ) → List ℕ
noted_line None = []
noted_line (Some values) = codes "noted" ++ noted_values values ++ codes "\n"

-- values in parentheses, or no text where there are none
abbrev pub carried_text : List ℤ → List ℕ
carried_text [] = []
carried_text (x ∷ xs) = codes "(" ++ comma_values (x ∷ xs) ++ codes ")"

abbrev pub pending_line : EventGraph → ℕ → Entry → List ℕ
pending_line g clock e =
    codes "pending " ++ decimal (e.time - clock) ++ codes " " ++ decimal e.priority ++ codes " " ++ vertex_name g e.vertex ++ carried_text e.values ++ codes "\n"

abbrev pub snapshot_text : EventGraph → SavedRun → List ℕ
snapshot_text g s =
    codes "snapshot\n" ++ codes "seed " ++ decimal (s.seed / 2 ^ 32) ++ codes " " ++ decimal (s.seed % 2 ^ 32) ++ codes "\n"
    ++ codes "clk " ++ decimal s.clock ++ codes "\n" ++ codes "events " ++ decimal s.events ++ codes "\n"
    ++ stream_lines 0 s.taken ++ value_lines g.variables s.values ++ noted_line s.noted ++ flat_map (pending_line g s.clock) s.pending ++ codes "end\n"
