-- The terms in which models, their texts and their runs are defined, under one name.
pub use Rattle.model_core.specs.EventGraph.{EventVertex, Variable, EventGraph}
pub use Rattle.model_core.specs.Code.Views.{graph_of, application_of}
pub use Rattle.model_core.specs.Text.Lexing.{Lexeme, LexemeKind, NameOf, Reserved, NumberOf, Mark, reserved_words, all_symbols, is_blank, is_word_byte, same_bytes, word_among, Front, Between, Longest, Neither, front_length, symbol_among, front, after_front, tokens_from, tokens_of}
pub use Rattle.model_core.specs.Text.Written.{WrittenName, WrittenNumber, WrittenSigned, WrittenModel}
pub use Rattle.model_core.specs.Text.Canonical.{vertex_name, vertex_lines, variable_line, table_line, watch_line, version_line, canonical}
pub use Rattle.model_core.specs.Static.ModelFaults.{IsFirstFault, first_fault, Accepted}
pub use Rattle.model_core.specs.Static.Reading.{Reads, IsValid, ReadsDocument}
pub use Rattle.model_core.specs.Rules.Reduction.{RuleApplication, place_of_vertex, Strategy}
pub use Rattle.model_core.specs.Run.Machine.{Note, RunStatus, Ended, Stopped, Faulted, Going, Look, Reached}
pub use Rattle.model_core.specs.Run.History.{Moment, start, start_parameters, allowed, look_from, reached_from, look}
pub use Rattle.model_core.specs.Saved.SavedRun.{SavedRun, IsWide, IsGoodEntry, IsGood, saved, saved_moment, history_from}
