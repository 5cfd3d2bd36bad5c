-- Texts of snapshots, and what they spell.
use Rattle.std.specs.Prelude.{ℕ, List, [], ◌∷◌, ◌++◌, Some, None, codes}
use Rattle.model_core.specs.Text.SnapshotGrammar.{WrittenSnapshot}
use Rattle.worked_runs.specs.WrittenParts.{spelled, figure, huge, plain_figure, minus_figure, minus_huge}
use Rattle.worked_runs.specs.WrittenSnapshots.{stream_part, noted_part, carried, minus_carried}

-- a snapshot up to where its streams begin
abbrev pub until_streams : List ℕ
until_streams = codes "snapshot seed 1 2 clk 3 events 4 "

-- that front and `end`
abbrev pub shortest : WrittenSnapshot
shortest = record {
  seed_at = 9;
  seed = figure 1 14;
  seed_rest = figure 2 16;
  clock_at = 18;
  clock = figure 3 22;
  events_at = 24;
  events = figure 4 31;
  streams = [];
  values = [];
  noted = None;
  pending = [];
  end_at = 33;
}

-- two parts of each kind that may occur more than once, with leading zeros and blanks where they may be
abbrev pub each_part_text : List ℕ
each_part_text =
    until_streams ++ codes "stream 007 1 stream 3 2\nvalue N -5 value A 1 , -0,02 noted 1,-1\n"
    ++ codes "pending 3 5 RUN pending 0 255 B ( -9223372036854775808 , 9223372036854775807)end"

abbrev pub each_part : WrittenSnapshot
each_part = record shortest {
  streams = stream_part 33 (figure 7 40) (figure 1 44) ∷ stream_part 46 (figure 3 53) (figure 2 55) ∷ [];
  values =
      record { at = 57; variable = spelled (codes "N") 63; values = minus_figure 5 65 ∷ [] }
      ∷ record { at = 68; variable = spelled (codes "A") 74; values = plain_figure 1 76 ∷ minus_figure 0 80 ∷ plain_figure 2 83 ∷ [] } ∷ [];
  noted = Some (noted_part 86 (plain_figure 1 92 ∷ minus_figure 1 94 ∷ []));
  pending =
      record { at = 97; ticks = figure 3 105; priority = figure 5 107; vertex = spelled (codes "RUN") 109; values = [] }
      ∷ record { at = 113; ticks = figure 0 121; priority = figure 255 123; vertex = spelled (codes "B") 127; values = minus_carried 9223372036854775808 ∷ carried 9223372036854775807 ∷ [] } ∷ [];
  end_at = 174;
}

abbrev pub words_for_names : WrittenSnapshot
words_for_names = record shortest {
  values = record { at = 33; variable = spelled (codes "value") 39; values = plain_figure 5 45 ∷ [] } ∷ [];
  noted = Some (noted_part 47 []);
  pending = record { at = 53; ticks = figure 6 61; priority = figure 7 63; vertex = spelled (codes "pending") 65; values = [] } ∷ [];
  end_at = 73;
}

abbrev pub too_large : WrittenSnapshot
too_large = record shortest {
  streams = stream_part 33 (huge 40) (figure 5 60) ∷ [];
  values = record { at = 62; variable = spelled (codes "V") 68; values = minus_huge 70 ∷ [] } ∷ [];
  pending = record { at = 91; ticks = huge 99; priority = figure 6 119; vertex = spelled (codes "A") 121; values = minus_carried 9223372036854775808 ∷ [] } ∷ [];
  end_at = 145;
}
