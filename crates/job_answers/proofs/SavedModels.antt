-- The models that a saved document and a document of two texts read as are valid, since each text up to its word `end` is a model
-- text of its own; and vertices have no more parameters than a vertex may have.
use Rattle.std.proofs.Common.{List, ℕ, ◌≤◌, [], ◌∷◌, length, subst}
use Rattle.std.specs.List.{AllByRecursion}
use Rattle.sig_base.specs.declared.limits.TheConstants.{PARAMETERS_MAX}
use Rattle.model_core.specs.Text.DocumentText.{BeginsWithModel}
use Rattle.model_core.specs.Text.Openings.{front_to_end}
use Rattle.model_core.specs.Static.OwnRules.{KeepsVertex, parameters_of}
use Rattle.model_core.proofs.EachOne.{every-front, every-after}
use Rattle.text_laws.proofs.Formats.EndWord.{front-is_text}
use Rattle.static_laws.proofs.StaticTwins.ModelTwin.{accepted_by_itself}
use Rattle.round_trip.proofs.TokensOfTexts.{GoodTokens, tokens_good}
use Rattle.round_trip.proofs.SpelledModels.{derived-spellable}
use Rattle.round_trip.proofs.ByParts.{by_parts}
use Rattle.job_answers.specs.PairReading.{ReadsPair}
use Rattle.job_answers.specs.SavedReading.{ReadsSaved}
use Rattle.job_answers.proofs.ModelTerms.{EventGraph, EventVertex, Variable, Lexeme, WrittenModel, Accepted, IsValid, SavedRun}

-- a model text at the front of such tokens is one of a valid model, and such tokens are left
pub front_model_valid : (tokens : List Lexeme) (w : WrittenModel) (left : List Lexeme) (g : EventGraph) → GoodTokens tokens → BeginsWithModel tokens w left → Accepted w g → IsValid g × GoodTokens left
front_model_valid tokens w left g good begins accepted =
    let front = front-is_text tokens w left begins.derived in
    let all = subst GoodTokens front.0 good in
    let by_itself = (accepted_by_itself w g).0 accepted in
    ((by_parts g).1 (by_itself.1, derived-spellable (front_to_end tokens) w g (every-front _ (front_to_end tokens) left all) front.1 begins.few_openings by_itself.0), every-after _ (front_to_end tokens) left all)

pub saved_model_valid : (text : List ℕ) (g : EventGraph) (s : SavedRun) → ReadsSaved text g s → IsValid g
saved_model_valid text g s reads =
    let spells = reads.spells in
    (front_model_valid spells.tokens reads.model spells.after g (tokens_good text spells.tokens spells.cut) spells.begins reads.accepted).0

pub pair_models_valid : (text : List ℕ) (g h : EventGraph) → ReadsPair text g h → IsValid g × IsValid h
pair_models_valid text g h reads =
    let spells = reads.spells in
    let first = front_model_valid spells.tokens reads.first spells.after_first g (tokens_good text spells.tokens spells.cut) spells.begins reads.first_accepted in
    (first.0, (front_model_valid spells.after_first reads.second [] h first.1 spells.ends reads.second_accepted).0)

-- ---- no vertex of an accepted model has too many parameters

each_within_maximum : (variables : List Variable) (tables : ℕ) (takes : List (List ℕ)) (vertices : List EventVertex) → AllByRecursion (KeepsVertex variables tables takes) vertices → AllByRecursion (λ (v : EventVertex). length v.parameters ≤ PARAMETERS_MAX) vertices
each_within_maximum variables tables takes [] all = tt
each_within_maximum variables tables takes (v ∷ vertices) all = (all.0.few_parameters, each_within_maximum variables tables takes vertices all.1)

pub parameters_within_maximum : (m : WrittenModel) (g : EventGraph) → Accepted m g → AllByRecursion (λ (v : EventVertex). length v.parameters ≤ PARAMETERS_MAX) g.vertices
parameters_within_maximum m g accepted = each_within_maximum g.variables (length g.tables) (parameters_of g) g.vertices ((accepted_by_itself m g).0 accepted).1.parts.vertices
