-- The laws of the answer of `print`.
use Rattle.std.proofs.Common.{inr, ◌<◌, List, ℕ, [], ◌++◌, length, length-append, subst, arith}
use Rattle.std.specs.Prelude.{codes}
use Rattle.std.specs.List.{flat_map}
use Rattle.std.proofs.lemmas.List.{append-nil}
use Rattle.command_words.specs.declared.reading.ModelJob.TheVariants.{Print}
use Rattle.command_words.specs.declared.reading.Reading.TheVariants.{Model}
use Rattle.model_core.specs.Text.VersionNeeded.{needs_version_two}
use Rattle.job_answers.specs.AnswerLaws.{KeepsAnswerLaws}
use Rattle.job_answers.specs.Answers.{HasNothingToWrite}
use Rattle.job_answers.proofs.ModelTerms.{EventGraph, variable_line, table_line, watch_line, vertex_lines, version_line, canonical, IsValid}
use Rattle.job_answers.proofs.GivenAnswers.{done_answer}

ends_with : (front last later : List ℕ) → 0 < length last → 0 < length ((front ++ last) ++ later)
ends_with front last later some = omega (arith, length-append (front ++ last) later, length-append front last, some)

-- a canonical text ends with its last word, whatever follows
pub canonical_has_bytes : (g : EventGraph) (behind : List ℕ) → 0 < length (canonical g ++ behind)
canonical_has_bytes g behind =
    ends_with (version_line (needs_version_two g) ++ codes "model " ++ g.name ++ codes ";\n" ++ flat_map variable_line g.variables ++ flat_map table_line g.tables ++ watch_line g ++ flat_map (vertex_lines g) g.vertices)
    (codes "end\n") behind (omega arith)

pub print_laws : KeepsAnswerLaws (Model Print)
print_laws = done_answer IsValid (HasNothingToWrite (Model Print)) canonical (λ g. inr (subst (λ (b : List ℕ). 0 < length b) (append-nil (canonical g)) (canonical_has_bytes g [])))
