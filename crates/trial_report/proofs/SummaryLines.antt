-- The line of a measure is the line of the run that was measured.
use Rattle.std.proofs.Common.{◌≡◌, ℕ, ◌-◌, List, [], ◌∷◌, ◌++◌, length, length-append, map, take, codes, decimal, refl, sym, ap, ◌∙◌, arith}
use Rattle.std.proofs.Math.Seq.{take-append_seam}
use Rattle.model_core.specs.EventGraph.{EventGraph}
use Rattle.model_core.specs.Run.Machine.{RunStatus, Ended, Stopped, Faulted, Going}
use Rattle.model_core.specs.Run.State.{variable_at}
use Rattle.model_core.specs.Run.Step.{vertex_at}
use Rattle.model_core.specs.Run.History.{look}
use Rattle.model_core.specs.Run.Same.{Same, parameter}
use Rattle.model_core.specs.Text.HistoryText.{end_line}
use Rattle.watch_trace.specs.Following.{outcome_of}
use Rattle.trial_report.specs.declared.run_measure.RunMeasure.{RunMeasure}
use Rattle.std.specs.List.{range_with_len}
use Rattle.model_gen.specs.Generated.{generated, generated_vertex}
use Rattle.trial_report.specs.StepsMade.{steps_of_run}
use Rattle.trial_report.specs.TrialText.{without_feed, run_line}
use Rattle.trial_report.specs.Inner.RunMeasures.{standing_text, measure_line, IsMeasureOf}

feed-goes : (text line : List ℕ) → line ≡ text ++ codes "\n" → text ≡ without_feed line
feed-goes text line is =
    let size : length text ≡ length line - 1 = omega (arith, ap length is, length-append text (codes "\n")) in
    sym (take-append_seam text (codes "\n")) ∙ (λ i. take (size i) (sym is i))

pub standing_line : (until events : ℕ) (end : RunStatus) → standing_text until events (outcome_of end) ≡ without_feed (end_line until events end)
standing_line until events (Ended t) = feed-goes (standing_text until events (outcome_of (Ended t))) _ refl
standing_line until events Stopped = feed-goes (standing_text until events (outcome_of Stopped)) _ refl
standing_line until events (Faulted t kind) = feed-goes (standing_text until events (outcome_of (Faulted t kind))) _ refl
standing_line until events Going = feed-goes (standing_text until events (outcome_of Going)) _ refl

pub measured_line : (name : List ℕ) (g : EventGraph) (seed until events : ℕ) (m : RunMeasure) → IsMeasureOf g seed until events m → measure_line name until events m ≡ run_line name g seed until events
measured_line name g seed until events m measured =
    (λ i. name ++ codes " " ++ standing_text until events (measured.outcome i) ++ codes " events " ++ decimal (measured.made i) ++ codes " notes " ++ decimal (measured.noted i) ++ codes "\n")
    ∙ ap (λ x. name ++ codes " " ++ x ++ codes " events " ++ decimal (steps_of_run g seed [] until events) ++ codes " notes " ++ decimal (length (look g seed [] until events).history) ++ codes "\n")
    (standing_line until events (look g seed [] until events).standing)

-- the strategy keeps it that the first vertex has no parameters
pub plain_kept : (g h : EventGraph) → Same g h → (vertex_at g 0).parameters ≡ [] → (vertex_at h 0).parameters ≡ []
plain_kept g h same plain = by (vertex_at h 0).parameters (ap (map (λ v. parameter (variable_at g v))) (sym plain) ∙ same.started)
  where
    by : (ps : List ℕ) → [] ≡ map (λ v. parameter (variable_at h v)) ps → ps ≡ []
    by [] e = refl
    by (p ∷ ps) e = cc

-- the first vertex of a made model has none
pub plain_made : (seed vertices : ℕ) → (vertex_at (generated seed vertices) 0).parameters ≡ []
plain_made seed vertices = by (range_with_len 0 vertices)
  where
    by : (places : List ℕ) → (vertex_at (record (generated seed vertices) { vertices = map (generated_vertex seed vertices) places }) 0).parameters ≡ []
    by [] = refl
    by (place ∷ places) = refl
