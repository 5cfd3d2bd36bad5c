-- Models whose vertices touch the same things two by two, for the pairs that are in conflict.
use Rattle.std.specs.Prelude.{ℕ, pos, false, List, [], ◌∷◌, ◌++◌, map, codes}
use Rattle.model_core.specs.EventGraph.{EventGraph, Truth, Binary, And, Fixed, Drawn, Uniform, Schedule, CancelNext, CancelEqual, CancelAll, EventEdge, EventVertex}
use Rattle.worked_runs.specs.Building.{ranged, whole, set, draw, plain_edge, urgent, only_if, event, positive}

-- a model of the variables with these letters, in which RUN has these edges, and then come these vertices
abbrev pub meeting : List ℕ → List EventEdge → List EventVertex → EventGraph
meeting letters edges vertices = record {
  name = codes "MEET";
  variables = map (λ letter. ranged (letter ∷ []) 0 9 0) letters;
  tables = [];
  watch = [];
  vertices = event (codes "RUN") [] edges ∷ vertices;
}

-- after 1 tick, with this priority
abbrev pub at_priority : ℕ → ℕ → EventEdge
at_priority priority target = plain_edge (Schedule (Fixed (whole 1)) priority) target []

-- with priority 5
abbrev pub each_at_5 : List ℕ → List EventEdge
each_at_5 targets = map (at_priority 5) targets

-- the event sets the variable at a place
abbrev pub sets : List ℕ → ℕ → EventVertex
sets name v = event name (set v (whole 1) ∷ []) []

-- the event schedules RUN where the variable at a place is above 0
abbrev pub asks_for : List ℕ → ℕ → EventVertex
asks_for name v = event name [] (only_if (positive v) (urgent 0) ∷ [])

abbrev pub cancel : ℕ → EventEdge
cancel target = plain_edge CancelNext target []

-- ---- variables

-- A is set by the first of two, B by the second, C by both, and both ask for D
abbrev pub over_variables_alone : EventGraph
over_variables_alone =
    meeting (codes "ABCD") (each_at_5 (1 ∷ 2 ∷ 3 ∷ 4 ∷ 5 ∷ 6 ∷ 7 ∷ 8 ∷ []))
    (sets (codes "SETA") 0 ∷ asks_for (codes "ASKA") 0 ∷ asks_for (codes "ASKB") 1 ∷ sets (codes "SETB") 1 ∷ sets (codes "SETC") 2 ∷ sets (codes "PUTC") 2
    ∷ asks_for (codes "ASKD") 3 ∷ asks_for (codes "SEED") 3 ∷ [])

-- ---- streams

-- to this vertex, after a delay that is drawn from this stream
abbrev pub drawn_after : ℕ → ℕ → EventEdge
drawn_after stream target = plain_edge (Schedule (Drawn stream (Uniform (pos 1) (pos 6))) 5) target []

-- DICE and BOTH draw from stream 54 by a change, LATE and BOTH from stream 53 by a delay, LONE from stream 52
abbrev pub over_streams_alone : EventGraph
over_streams_alone =
    meeting (codes "ABC") (each_at_5 (1 ∷ 2 ∷ 3 ∷ 4 ∷ []))
    (event (codes "DICE") (draw 0 54 1 6 ∷ []) [] ∷ event (codes "LATE") [] (drawn_after 53 0 ∷ []) ∷
    event (codes "BOTH") (draw 1 54 1 6 ∷ []) (drawn_after 53 0 ∷ []) ∷ event (codes "LONE") (draw 2 52 1 6 ∷ []) [] ∷ [])

-- ---- cancels

-- A cuts B next, D cuts all C, E cuts those of T that F schedules, G schedules U at once that H cuts, J and K cut V, and M
-- schedules W, as N does
abbrev pub over_cancels_alone : EventGraph
over_cancels_alone =
    meeting [] (each_at_5 (1 ∷ 2 ∷ 3 ∷ 4 ∷ 5 ∷ 6 ∷ 7 ∷ 8 ∷ 9 ∷ 10 ∷ 11 ∷ 12 ∷ []))
    (event (codes "A") [] (cancel 2 ∷ []) ∷ event (codes "B") [] [] ∷
    event (codes "C") [] [] ∷ event (codes "D") [] (plain_edge CancelAll 3 [] ∷ []) ∷
    event (codes "E") [] (plain_edge CancelEqual 13 [] ∷ []) ∷ event (codes "F") [] (at_priority 9 13 ∷ []) ∷
    event (codes "G") [] (urgent 14 ∷ []) ∷ event (codes "H") [] (cancel 14 ∷ []) ∷
    event (codes "J") [] (cancel 15 ∷ []) ∷ event (codes "K") [] (cancel 15 ∷ []) ∷
    event (codes "M") [] (at_priority 9 16 ∷ []) ∷ event (codes "N") [] (at_priority 9 16 ∷ []) ∷
    event (codes "T") [] [] ∷ event (codes "U") [] [] ∷ event (codes "V") [] [] ∷ event (codes "W") [] [] ∷ [])

-- ---- priorities

-- All events set A. RUN schedules COME, GO at once, LOW with 1, and LATE with 7; COME schedules NOW at once and LATE with 9,
-- LAST with 9 and MORE with 7. Nothing schedules CUT, which LONE cancels in each way, nor LONE
abbrev pub of_priorities : EventGraph
of_priorities =
    meeting (codes "A") (at_priority 5 1 ∷ urgent 2 ∷ at_priority 1 4 ∷ at_priority 7 5 ∷ [])
    (event (codes "COME") (set 0 (whole 1) ∷ []) (urgent 3 ∷ at_priority 9 5 ∷ at_priority 9 6 ∷ at_priority 7 7 ∷ []) ∷
    sets (codes "GO") 0 ∷ sets (codes "NOW") 0 ∷ sets (codes "LOW") 0 ∷ sets (codes "LATE") 0 ∷ sets (codes "LAST") 0 ∷ sets (codes "MORE") 0 ∷
    sets (codes "CUT") 0 ∷
    event (codes "LONE") (set 0 (whole 1) ∷ []) (cancel 8 ∷ plain_edge CancelEqual 8 [] ∷ plain_edge CancelAll 8 [] ∷ []) ∷ [])

-- RUN sets A too
abbrev pub run_sets : EventGraph → EventGraph
run_sets g = record g { vertices = map (λ (v : EventVertex). record v { changes = set 0 (whole 1) ∷ [] }) g.vertices }

-- ---- edges that are never taken

abbrev pub if_never : EventEdge → EventEdge
if_never e = only_if (Truth false) e

-- RUN never schedules LATE, which then has its priority, 7, all the same; DREW comes after a drawn delay, with priority 8. CUT
-- never cancels GOAL, and ASK never looks at A
abbrev pub never_taken : EventGraph
never_taken =
    meeting (codes "ABC")
    (each_at_5 (1 ∷ 2 ∷ 3 ∷ 4 ∷ []) ++ if_never (at_priority 7 5) ∷ at_priority 7 6 ∷ plain_edge (Schedule (Drawn 52 (Uniform (pos 1) (pos 6))) 8) 7 [] ∷ at_priority 8 8 ∷ [])
    (event (codes "CUT") [] (if_never (cancel 2) ∷ []) ∷ event (codes "GOAL") [] [] ∷
    event (codes "ASK") [] (only_if (Binary And (Truth false) (positive 0)) (urgent 9) ∷ []) ∷ sets (codes "SETA") 0 ∷
    sets (codes "LATE") 1 ∷ sets (codes "OTHER") 1 ∷
    sets (codes "DREW") 2 ∷ sets (codes "MATE") 2 ∷
    sets (codes "NOW") 2 ∷ [])

-- ---- reasons that hold together

-- ALL draws A from stream 54 and cancels NEXT, which does so to ALL; HALF draws from that stream, and cancels ALL; PART sets
-- A and cancels ALL
abbrev pub reasons_together : EventGraph
reasons_together =
    meeting (codes "ABC") (each_at_5 (1 ∷ 2 ∷ 3 ∷ 4 ∷ []))
    (event (codes "ALL") (draw 0 54 1 6 ∷ []) (cancel 2 ∷ []) ∷ event (codes "NEXT") (draw 0 54 1 6 ∷ []) (cancel 1 ∷ []) ∷
    event (codes "HALF") [] (drawn_after 54 0 ∷ cancel 1 ∷ []) ∷ event (codes "PART") (set 0 (whole 1) ∷ []) (cancel 1 ∷ []) ∷ [])
