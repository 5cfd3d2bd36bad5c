-- Written models, each with its text above it. Most break a static rule.
use Rattle.std.specs.Prelude.{List, ℕ, true, false, [], ◌∷◌, Some, None, codes, replicate}
use Rattle.model_core.specs.EventGraph as graph
use Rattle.model_core.specs.EventGraph.{Operator}
use Rattle.model_core.specs.Text.Written.{Number, Truth, Negative, Not, Cell, Binary, If, SignedLiteral, TruthLiteral, Uniform, ByTable, Set, Draw, Fixed, Schedule, Urgent, CancelNext, CancelEqual, CancelAll, WrittenVariable, WrittenVertex, WrittenModel}
use Rattle.model_core.specs.Text.Language.{row_written}
use Rattle.worked_runs.specs.WrittenParts.{spelled, figure, huge, plain_figure, minus_figure, plain_huge, minus_huge, constant, reading, ranging, ranging_clip, truth_valued, sized, tabled, storing, to_index, leading, with_carried, with_condition, occurring, run_at, with_parameters, composed, with_tables, with_watch, with_own_name}

-- var N : 0..3 = 0; at byte 9
abbrev pub n_variable : WrittenVariable
n_variable = ranging 9 (spelled (codes "N") 13) (plain_figure 0 17) (plain_figure 3 20) (SignedLiteral (plain_figure 0 24))

-- var B : bool = true; at byte 27
abbrev pub b_variable : WrittenVariable
b_variable = truth_valued 27 (spelled (codes "B") 31) (TruthLiteral 42 true)

-- ---- names

-- model M; vertex A23456789012345678901234567890123 { } end
abbrev pub long_name : WrittenModel
long_name = composed [] (occurring 9 (spelled (codes "A23456789012345678901234567890123") 16) [] [] ∷ []) 54

-- model A23456789012345678901234567890123; vertex RUN { } end
abbrev pub long_own_name : WrittenModel
long_own_name = with_own_name (spelled (codes "A23456789012345678901234567890123") 6) (composed [] (run_at 41 [] [] ∷ []) 56)

-- model M; vertex RUN { set A23456789012345678901234567890123 := 1; } end
abbrev pub long_unknown_name : WrittenModel
long_unknown_name = composed
    []
    (run_at 9
    (Set 22 (storing (codes "A23456789012345678901234567890123") 26 ∷ []) (constant 1 63 ∷ []) ∷ [])
    [] ∷ [])
    68

-- model M; vertex RUN { set Q := 1; } end
abbrev pub unknown_target : WrittenModel
unknown_target = composed [] (run_at 9 (Set 22 (storing (codes "Q") 26 ∷ []) (constant 1 31 ∷ []) ∷ []) [] ∷ []) 36

-- model M; vertex RUN { } vertex RUN { } end
abbrev pub declared_twice : WrittenModel
declared_twice = composed [] (run_at 9 [] [] ∷ run_at 24 [] [] ∷ []) 39

-- model M; var RUN : 0..1 = 0; vertex RUN { } end
abbrev pub shared_name : WrittenModel
shared_name = composed
    (ranging 9 (spelled (codes "RUN") 13) (plain_figure 0 19) (plain_figure 1 22) (SignedLiteral (plain_figure 0 26)) ∷ [])
    (run_at 29 [] [] ∷ [])
    44

-- model RUN; vertex RUN { } end
abbrev pub own_name_apart : WrittenModel
own_name_apart = with_own_name (spelled (codes "RUN") 6) (composed [] (run_at 11 [] [] ∷ []) 26)

-- model M; watch RUN, RUN; vertex RUN { } end
abbrev pub watched_twice : WrittenModel
watched_twice = with_watch (spelled (codes "RUN") 15 ∷ spelled (codes "RUN") 20 ∷ []) (composed [] (run_at 25 [] [] ∷ []) 40)

-- model M; watch Q, Q; vertex RUN { } end
abbrev pub unknown_watched_twice : WrittenModel
unknown_watched_twice = with_watch (spelled (codes "Q") 15 ∷ spelled (codes "Q") 18 ∷ []) (composed [] (run_at 21 [] [] ∷ []) 36)

-- model M; var B : bool = true; vertex RUN(B, B) { schedule RUN(1, true); } end
abbrev pub parameter_named_twice : WrittenModel
parameter_named_twice = composed
    (truth_valued 9 (spelled (codes "B") 13) (TruthLiteral 24 true) ∷ [])
    (with_parameters (spelled (codes "B") 41 ∷ spelled (codes "B") 44 ∷ [])
    (run_at 30
    []
    (with_carried (constant 1 62 ∷ Truth 65 true ∷ []) (leading 49 (spelled (codes "RUN") 58) (Schedule None None)) ∷ [])) ∷ [])
    74

-- model M; var N : 0..1 = 0; var N : bool = true; vertex RUN { set N := true; } end
abbrev pub two_kinds : WrittenModel
two_kinds = composed
    (ranging 9 (spelled (codes "N") 13) (plain_figure 0 17) (plain_figure 1 20) (SignedLiteral (plain_figure 0 24))
    ∷ truth_valued 27 (spelled (codes "N") 31) (TruthLiteral 42 true) ∷ [])
    (run_at 48 (Set 61 (storing (codes "N") 65 ∷ []) (Truth 70 true ∷ []) ∷ []) [] ∷ [])
    78

-- model M; var N : 0..3 = 0; var A[2] : 0..3 = 0; table T { 1 : 1; } watch T; vertex RUN(A) { set N[0], A := T, RUN; draw N from 0 by N; schedule N; } end
abbrev pub wrong_uses : WrittenModel
wrong_uses = with_watch (spelled (codes "T") 73 ∷ []) (with_tables (tabled 48 (spelled (codes "T") 54) (row_written (plain_figure 1 58) (figure 1 62) ∷ []) ∷ []) (composed
    (n_variable
    ∷ sized (figure 2 33) (ranging 27 (spelled (codes "A") 31) (plain_figure 0 38) (plain_figure 3 41) (SignedLiteral (plain_figure 0 45))) ∷ [])
    (with_parameters (spelled (codes "A") 87 ∷ [])
    (run_at 76
    (Set 92 (to_index (spelled (codes "N") 96) (constant 0 98) ∷ storing (codes "A") 102 ∷ []) (reading (codes "T") 107 ∷ reading (codes "RUN") 110 ∷ [])
    ∷ Draw 115 (storing (codes "N") 120) (figure 0 127) (ByTable (spelled (codes "N") 132)) ∷ [])
    (leading 135 (spelled (codes "N") 144) (Schedule None None) ∷ [])) ∷ [])
    149))

-- ---- kinds

-- model M; var B : bool = 2; vertex RUN { } end
abbrev pub number_for_truth : WrittenModel
number_for_truth = composed (truth_valued 9 (spelled (codes "B") 13) (SignedLiteral (plain_figure 2 24)) ∷ []) (run_at 27 [] [] ∷ []) 42

-- model M; var N : 0..1 = true; vertex RUN { } end
abbrev pub truth_for_number : WrittenModel
truth_for_number = composed
    (ranging 9 (spelled (codes "N") 13) (plain_figure 0 17) (plain_figure 1 20) (TruthLiteral 24 true) ∷ [])
    (run_at 30 [] [] ∷ [])
    45

-- model M; var N : 0..3 = 0; var B : bool = true; var A[2] : 0..3 = 0; vertex RUN(N) { set N, A[B] := B + 1, -B; set B := not N; set B := N and B; set B := N = B; set N := if N then N else B; set B := min(B, N) < 1; draw B from 0 in 0..1; schedule RUN(B) after B when N; } end
abbrev pub mismatches : WrittenModel
mismatches = composed
    (n_variable
    ∷ b_variable
    ∷ sized (figure 2 54) (ranging 48 (spelled (codes "A") 52) (plain_figure 0 59) (plain_figure 3 62) (SignedLiteral (plain_figure 0 66))) ∷ [])
    (with_parameters (spelled (codes "N") 80 ∷ [])
    (run_at 69
    (Set 85 (storing (codes "N") 89 ∷ to_index (spelled (codes "A") 92) (reading (codes "B") 94) ∷ []) (Binary 100 graph.Add (reading (codes "B") 100) (constant 1 104) ∷ Negative 107 (reading (codes "B") 108) ∷ [])
    ∷ Set 111 (storing (codes "B") 115 ∷ []) (Not 120 (reading (codes "N") 124) ∷ [])
    ∷ Set 127 (storing (codes "B") 131 ∷ []) (Binary 136 graph.And (reading (codes "N") 136) (reading (codes "B") 142) ∷ [])
    ∷ Set 145 (storing (codes "B") 149 ∷ []) (Binary 154 graph.Equal (reading (codes "N") 154) (reading (codes "B") 158) ∷ [])
    ∷ Set 161 (storing (codes "N") 165 ∷ []) (If 170 (reading (codes "N") 173) (reading (codes "N") 180) (reading (codes "B") 187) ∷ [])
    ∷ Set 190 (storing (codes "B") 194 ∷ []) (Binary 199 graph.Below (Binary 199 graph.Least (reading (codes "B") 203) (reading (codes "N") 206)) (constant 1 211) ∷ [])
    ∷ Draw 214 (storing (codes "B") 219) (figure 0 226) (Uniform (plain_figure 0 231) (plain_figure 1 234)) ∷ [])
    (with_condition (reading (codes "N") 266) (with_carried (reading (codes "B") 250 ∷ []) (leading 237 (spelled (codes "RUN") 246) (Schedule (Some (Fixed (reading (codes "B") 259))) None))) ∷ [])) ∷ [])
    271

-- model M; var N : 0..3 = 0; var B : bool = true; vertex RUN { set N := Q; set B := Q = N; set B := not Q; set Q := true; schedule RUN after Q when Q; } end
abbrev pub unknown_kinds : WrittenModel
unknown_kinds = composed
    (n_variable ∷ b_variable ∷ [])
    (run_at 48
    (Set 61 (storing (codes "N") 65 ∷ []) (reading (codes "Q") 70 ∷ [])
    ∷ Set 73 (storing (codes "B") 77 ∷ []) (Binary 82 graph.Equal (reading (codes "Q") 82) (reading (codes "N") 86) ∷ [])
    ∷ Set 89 (storing (codes "B") 93 ∷ []) (Not 98 (reading (codes "Q") 102) ∷ [])
    ∷ Set 105 (storing (codes "Q") 109 ∷ []) (Truth 114 true ∷ []) ∷ [])
    (with_condition (reading (codes "Q") 146) (leading 120 (spelled (codes "RUN") 129) (Schedule (Some (Fixed (reading (codes "Q") 139))) None)) ∷ []) ∷ [])
    151

-- model M; var N : 0..3 = 0; var B : bool = true; vertex RUN { set N := if B then Q else true; } end
abbrev pub kind_of_else : WrittenModel
kind_of_else = composed
    (n_variable ∷ b_variable ∷ [])
    (run_at 48
    (Set 61 (storing (codes "N") 65 ∷ []) (If 70 (reading (codes "B") 73) (reading (codes "Q") 80) (Truth 87 true) ∷ []) ∷ [])
    [] ∷ [])
    95

-- model M; var N : 0..3 = 0; var B : bool = true; vertex RUN { set B := Q + true; } end
abbrev pub kind_of_result : WrittenModel
kind_of_result = composed
    (n_variable ∷ b_variable ∷ [])
    (run_at 48
    (Set 61 (storing (codes "B") 65 ∷ []) (Binary 70 graph.Add (reading (codes "Q") 70) (Truth 74 true) ∷ []) ∷ [])
    [] ∷ [])
    82

-- the operators, by what they do
abbrev pub arithmetic : List Operator
arithmetic = graph.Add ∷ graph.Subtract ∷ graph.Multiply ∷ graph.Divide ∷ graph.Remainder ∷ graph.Least ∷ graph.Greatest ∷ []

abbrev pub comparisons : List Operator
comparisons = graph.Below ∷ graph.AtMost ∷ graph.Above ∷ graph.AtLeast ∷ []

abbrev pub equalities : List Operator
equalities = graph.Equal ∷ graph.NotEqual ∷ []

abbrev pub connectives : List Operator
connectives = graph.And ∷ graph.Or ∷ []

-- model M; var N : 0..3 = 0; var A[2] : bool = true; vertex RUN { set N := A[0]; draw A[1] from 0 in 0..1; set A[0], N := true, 1; } end
abbrev pub kinds_of_cells : WrittenModel
kinds_of_cells = composed
    (n_variable ∷ sized (figure 2 33) (truth_valued 27 (spelled (codes "A") 31) (TruthLiteral 45 true)) ∷ [])
    (run_at 51
    (Set 64 (storing (codes "N") 68 ∷ []) (Cell 73 (spelled (codes "A") 73) (constant 0 75) ∷ [])
    ∷ Draw 79 (to_index (spelled (codes "A") 84) (constant 1 86)) (figure 0 94) (Uniform (plain_figure 0 99) (plain_figure 1 102))
    ∷ Set 105 (to_index (spelled (codes "A") 109) (constant 0 111) ∷ storing (codes "N") 115 ∷ []) (Truth 120 true ∷ constant 1 126 ∷ []) ∷ [])
    [] ∷ [])
    131

-- ---- counts of values

-- model M; vertex RUN { schedule RUN(1); } end
abbrev pub too_many_values : WrittenModel
too_many_values = composed
    []
    (run_at 9
    []
    (with_carried (constant 1 35 ∷ []) (leading 22 (spelled (codes "RUN") 31) (Schedule None None)) ∷ []) ∷ [])
    41

-- model M; var N : 0..3 = 0; var B : bool = true; vertex RUN(N, B) { urgent RUN(true); cancel RUN(1); cancel RUN; cancel all RUN; } end
abbrev pub too_few_values : WrittenModel
too_few_values = composed
    (n_variable ∷ b_variable ∷ [])
    (with_parameters (spelled (codes "N") 59 ∷ spelled (codes "B") 62 ∷ [])
    (run_at 48
    []
    (with_carried (Truth 78 true ∷ []) (leading 67 (spelled (codes "RUN") 74) Urgent)
    ∷ with_carried (constant 1 96 ∷ []) (leading 85 (spelled (codes "RUN") 92) CancelEqual)
    ∷ leading 100 (spelled (codes "RUN") 107) CancelNext
    ∷ leading 112 (spelled (codes "RUN") 123) CancelAll ∷ [])) ∷ [])
    130

-- model M; var N : 0..3 = 0; var B : bool = true; vertex RUN { set N, B := true; } end
abbrev pub too_few_right_sides : WrittenModel
too_few_right_sides = composed
    (n_variable ∷ b_variable ∷ [])
    (run_at 48
    (Set 61 (storing (codes "N") 65 ∷ storing (codes "B") 68 ∷ []) (Truth 73 true ∷ []) ∷ [])
    [] ∷ [])
    81

-- model M; vertex RUN { schedule Q(R, true + 1); } end
abbrev pub values_for_unknown : WrittenModel
values_for_unknown = composed
    []
    (run_at 9
    []
    (with_carried (reading (codes "R") 33 ∷ Binary 36 graph.Add (Truth 36 true) (constant 1 43) ∷ []) (leading 22 (spelled (codes "Q") 31) (Schedule None None)) ∷ []) ∷ [])
    49

-- ---- numbers

-- model M; var N : 0..4611686018427387905 = 0; vertex RUN { } end
abbrev pub large_bound : WrittenModel
large_bound = composed
    (ranging 9 (spelled (codes "N") 13) (plain_figure 0 17) (plain_figure 4611686018427387905 20) (SignedLiteral (plain_figure 0 42)) ∷ [])
    (run_at 45 [] [] ∷ [])
    60

-- model M; var N : 0..3 = 0; vertex RUN { set N := 9223372036854775808; } end
abbrev pub large_number : WrittenModel
large_number = composed (n_variable ∷ []) (run_at 27 (Set 40 (storing (codes "N") 44 ∷ []) (Number 49 (huge 49) ∷ []) ∷ []) [] ∷ []) 72

-- model M; var B : 3..2 = 3; vertex RUN { } end
abbrev pub bounds_exchanged : WrittenModel
bounds_exchanged = composed
    (ranging 9 (spelled (codes "B") 13) (plain_figure 3 17) (plain_figure 2 20) (SignedLiteral (plain_figure 3 24)) ∷ [])
    (run_at 27 [] [] ∷ [])
    42

-- model M; var B : 3..-99999999999999999999 = 3; vertex RUN { } end
abbrev pub far_below : WrittenModel
far_below = composed
    (ranging 9 (spelled (codes "B") 13) (plain_figure 3 17) (minus_huge 20) (SignedLiteral (plain_figure 3 44)) ∷ [])
    (run_at 47 [] [] ∷ [])
    62

-- model M; var N : 0..3 = 5; vertex RUN { set Q := 1; } end
abbrev pub initial_before_unknown : WrittenModel
initial_before_unknown = composed
    (ranging 9 (spelled (codes "N") 13) (plain_figure 0 17) (plain_figure 3 20) (SignedLiteral (plain_figure 5 24)) ∷ [])
    (run_at 27 (Set 40 (storing (codes "Q") 44 ∷ []) (constant 1 49 ∷ []) ∷ []) [] ∷ [])
    54

-- model M; var A[0] : 0..3 = 0; vertex RUN { } end
abbrev pub no_cells : WrittenModel
no_cells = composed
    (sized (figure 0 15) (ranging 9 (spelled (codes "A") 13) (plain_figure 0 20) (plain_figure 3 23) (SignedLiteral (plain_figure 0 27))) ∷ [])
    (run_at 30 [] [] ∷ [])
    45

-- model M; vertex RUN { schedule RUN priority 0; } end
abbrev pub priority_zero : WrittenModel
priority_zero = composed [] (run_at 9 [] (leading 22 (spelled (codes "RUN") 31) (Schedule None (Some (figure 0 44))) ∷ []) ∷ []) 49

-- model M; var N : 0..3 = 0; vertex RUN { draw N from 64 in 0..3; } end
abbrev pub large_stream : WrittenModel
large_stream = composed
    (n_variable ∷ [])
    (run_at 27
    (Draw 40 (storing (codes "N") 45) (figure 64 52) (Uniform (plain_figure 0 58) (plain_figure 3 61)) ∷ [])
    [] ∷ [])
    66

-- model M; var N : 0..3 = 0; vertex RUN { draw N from 0 in 0..4294967296; } end
abbrev pub wide_uniform : WrittenModel
wide_uniform = composed
    (n_variable ∷ [])
    (run_at 27
    (Draw 40 (storing (codes "N") 45) (figure 0 52) (Uniform (plain_figure 0 57) (plain_figure 4294967296 60)) ∷ [])
    [] ∷ [])
    74

-- model M; var N : 0..3 = 0; vertex RUN { draw N from 0 in 0..99999999999999999999; } end
abbrev pub far_uniform : WrittenModel
far_uniform = composed
    (n_variable ∷ [])
    (run_at 27
    (Draw 40 (storing (codes "N") 45) (figure 0 52) (Uniform (plain_figure 0 57) (plain_huge 60)) ∷ [])
    [] ∷ [])
    84

-- model M; table T { 1 : 0; } vertex RUN { } end
abbrev pub no_weight : WrittenModel
no_weight = with_tables (tabled 9 (spelled (codes "T") 15) (row_written (plain_figure 1 19) (figure 0 23) ∷ []) ∷ []) (composed [] (run_at 28 [] [] ∷ []) 43)

-- model M; table T { 1 : 4294967295; 2 : 1; 3 : 1; } vertex RUN { } end
abbrev pub heavy_table : WrittenModel
heavy_table = with_tables (tabled 9 (spelled (codes "T") 15) (row_written (plain_figure 1 19) (figure 4294967295 23) ∷ row_written (plain_figure 2 35) (figure 1 39) ∷ row_written (plain_figure 3 42) (figure 1 46) ∷ []) ∷ []) (composed [] (run_at 51 [] [] ∷ []) 66)

-- model M; var N : 0..4611686018427387904 = 4611686018427387905; vertex RUN { } end
abbrev pub large_initial : WrittenModel
large_initial = composed
    (ranging 9 (spelled (codes "N") 13) (plain_figure 0 17) (plain_figure 4611686018427387904 20) (SignedLiteral (plain_figure 4611686018427387905 42)) ∷ [])
    (run_at 63 [] [] ∷ [])
    78

-- model M; table T { -4611686018427387905 : 99999999999999999999; } vertex RUN { } end
abbrev pub large_row : WrittenModel
large_row = with_tables (tabled 9 (spelled (codes "T") 15) (row_written (minus_figure 4611686018427387905 19) (huge 42) ∷ []) ∷ []) (composed [] (run_at 66 [] [] ∷ []) 81)

-- model M; var N : 0..3 = 0; vertex RUN { draw N from 99999999999999999999 in -4611686018427387905..3; } end
abbrev pub large_draw : WrittenModel
large_draw = composed
    (n_variable ∷ [])
    (run_at 27
    (Draw 40 (storing (codes "N") 45) (huge 52) (Uniform (minus_figure 4611686018427387905 76) (plain_figure 3 98)) ∷ [])
    [] ∷ [])
    103

-- model M; var N : 0..3 = 0; vertex RUN { draw N from 0 in 3..2; } end
abbrev pub empty_draw : WrittenModel
empty_draw = composed
    (n_variable ∷ [])
    (run_at 27
    (Draw 40 (storing (codes "N") 45) (figure 0 52) (Uniform (plain_figure 3 57) (plain_figure 2 60)) ∷ [])
    [] ∷ [])
    65

-- ---- counts

-- model M; var N : 0..3 = 0; vertex RUN { set N, N, N, N, N, N, N, N, N := 1, 1, 1, 1, 1, 1, 1, 1, 1; } end
abbrev pub nine_targets : WrittenModel
nine_targets = composed
    (n_variable ∷ [])
    (run_at 27
    (Set 40
    (storing (codes "N") 44 ∷ storing (codes "N") 47 ∷ storing (codes "N") 50 ∷ storing (codes "N") 53 ∷ storing (codes "N") 56 ∷ storing (codes "N") 59 ∷ storing (codes "N") 62 ∷ storing (codes "N") 65 ∷ storing (codes "N") 68 ∷ [])
    (constant 1 73 ∷ constant 1 76 ∷ constant 1 79 ∷ constant 1 82 ∷ constant 1 85 ∷ constant 1 88 ∷ constant 1 91 ∷ constant 1 94 ∷ constant 1 97 ∷ []) ∷ [])
    [] ∷ [])
    102

-- model M; var N : 0..3 = 0; vertex RUN(N, N, N, N, N, N, N, N, N) { } end
abbrev pub nine_parameters : WrittenModel
nine_parameters = composed
    (n_variable ∷ [])
    (with_parameters
    (spelled (codes "N") 38 ∷ spelled (codes "N") 41 ∷ spelled (codes "N") 44 ∷ spelled (codes "N") 47 ∷ spelled (codes "N") 50 ∷ spelled (codes "N") 53 ∷ spelled (codes "N") 56 ∷ spelled (codes "N") 59 ∷ spelled (codes "N") 62 ∷ [])
    (run_at 27 [] []) ∷ [])
    69

-- so many variables N, all at byte 9
abbrev pub variables_at_nine : ℕ → WrittenModel
variables_at_nine count = composed (replicate count n_variable) (run_at 27 [] [] ∷ []) 42

-- so many tables T with one row, all at byte 9
abbrev pub tables_at_nine : ℕ → WrittenModel
tables_at_nine count = with_tables (replicate count (tabled 9 (spelled (codes "T") 15) (row_written (plain_figure 1 19) (figure 1 23) ∷ []))) (composed [] (run_at 28 [] [] ∷ []) 43)

-- so many vertices RUN, all at byte 9
abbrev pub vertices_at_nine : ℕ → WrittenModel
vertices_at_nine count = composed [] (replicate count (run_at 9 [] [])) 24

-- a table of so many rows, all at byte 19
abbrev pub rows_at_nineteen : ℕ → WrittenModel
rows_at_nineteen count = with_tables (tabled 9 (spelled (codes "T") 15) (replicate count (row_written (plain_figure 1 19) (figure 1 23))) ∷ []) (composed [] (run_at 28 [] [] ∷ []) 43)

-- so many changes set N := 1; all at byte 40
abbrev pub changes_at_forty : ℕ → WrittenModel
changes_at_forty count = composed (n_variable ∷ []) (run_at 27 (replicate count (Set 40 (storing (codes "N") 44 ∷ []) (constant 1 49 ∷ []))) [] ∷ []) 52

-- so many edges urgent RUN; all at byte 22
abbrev pub edges_at_twenty_two : ℕ → WrittenModel
edges_at_twenty_two count = composed [] (run_at 9 [] (replicate count (leading 22 (spelled (codes "RUN") 29) Urgent)) ∷ []) 34

-- ---- without a fault

-- model M; vertex RUN { } end
abbrev pub plain_text : WrittenModel
plain_text = composed [] (run_at 9 [] [] ∷ []) 24

-- the vertex SERVE in the text of the model desk
abbrev pub serve_written : WrittenVertex
serve_written = with_parameters (spelled (codes "N") 161 ∷ spelled (codes "OPEN") 164 ∷ [])
    (occurring 148 (spelled (codes "SERVE") 155)
    (Set 174 (storing (codes "N") 178 ∷ to_index (spelled (codes "CELLS") 181) (Binary 187 graph.Add (reading (codes "N") 187) (constant 1 191)) ∷ []) (constant 12 197 ∷ reading (codes "N") 201 ∷ [])
    ∷ Draw 206 (storing (codes "N") 211) (figure 54 218) (Uniform (minus_figure 1 224) (plain_figure 6 228))
    ∷ Draw 233 (to_index (spelled (codes "CELLS") 238) (constant 3 244)) (figure 0 252) (ByTable (spelled (codes "GAP") 257)) ∷ [])
    (leading 264 (spelled (codes "COME") 273) (Schedule None None)
    ∷ with_condition (Not 330 (reading (codes "OPEN") 334)) (with_carried (reading (codes "N") 296 ∷ Truth 299 false ∷ []) (leading 281 (spelled (codes "SERVE") 290) (Schedule (Some (Fixed (constant 7 312))) (Some (figure 3 323)))))
    ∷ with_condition (Truth 359 false) (leading 342 (spelled (codes "COME") 349) Urgent)
    ∷ leading 368 (spelled (codes "SERVE") 375) CancelNext
    ∷ with_carried (reading (codes "N") 397 ∷ reading (codes "OPEN") 400 ∷ []) (leading 384 (spelled (codes "SERVE") 391) CancelEqual)
    ∷ with_condition (reading (codes "OPEN") 430) (leading 409 (spelled (codes "COME") 420) CancelAll) ∷ []))

-- the text of the model desk
abbrev pub desk_written : WrittenModel
desk_written = with_watch (spelled (codes "N") 122 ∷ spelled (codes "SERVE") 125 ∷ []) (with_tables (tabled 86 (spelled (codes "GAP") 92) (row_written (minus_figure 1 98) (figure 2 103) ∷ row_written (plain_figure 30 106) (figure 1 111) ∷ []) ∷ []) (with_own_name (spelled (codes "DESK") 6) (composed
    (ranging_clip 12 (spelled (codes "N") 16) (minus_figure 3 20) (plain_figure 7 24) (SignedLiteral (minus_figure 1 33))
    ∷ truth_valued 37 (spelled (codes "OPEN") 41) (TruthLiteral 55 true)
    ∷ sized (figure 4 71) (ranging 61 (spelled (codes "CELLS") 65) (plain_figure 0 76) (plain_figure 9 79) (SignedLiteral (plain_figure 0 83))) ∷ [])
    (occurring 132 (spelled (codes "COME") 139) [] [] ∷ serve_written ∷ [])
    438)))
