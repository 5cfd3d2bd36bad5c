-- Vertices that begin alike declare the same, and take the same.
use Rattle.std.proofs.Common.{◌≡◌, ℕ, ◌+◌, List, [], ◌∷◌, ◌++◌, map, Option, refl, ap, ◌∙◌}
use Rattle.model_core.specs.Text.Written.{WrittenVertex, WrittenModel}
use Rattle.model_core.specs.Static.Meanings.{Meaning, declarations, declarations_from, vertex_declaration, meaning_of}
use Rattle.model_core.specs.Static.PartFaults.{kinds_taken}
use Rattle.model_core.specs.Static.ModelFaults.{model_meaning, model_takes}
use Rattle.model_read.specs.Beginnings.{with_vertices}
use Rattle.static_laws.specs.DeclaredFaults.{faults_of_declared}
use Rattle.one_pass.specs.Inner.ReadParts.{BeginAlike, AllBeginAlike}

pub alike-push : (vs ws : List WrittenVertex) (v w : WrittenVertex) → AllBeginAlike vs ws → BeginAlike v w → AllBeginAlike (vs ++ v ∷ []) (ws ++ w ∷ [])
alike-push [] [] v w a b = (b, tt)
alike-push [] (y ∷ ws) v w a b = absurd a
alike-push (x ∷ vs) [] v w a b = absurd a
alike-push (x ∷ vs) (y ∷ ws) v w a b = (a.0, alike-push vs ws v w a.1 b)

same-declared : (k : ℕ) (vs ws : List WrittenVertex) → AllBeginAlike vs ws → declarations_from vertex_declaration k vs ≡ declarations_from vertex_declaration k ws
same-declared k [] [] a = refl
same-declared k [] (w ∷ ws) a = absurd a
same-declared k (v ∷ vs) [] a = absurd a
same-declared k (v ∷ vs) (w ∷ ws) a = rw (a.0.name, same-declared (k + 1) vs ws a.1) refl

same-taken : (means : List ℕ → Option Meaning) (vs ws : List WrittenVertex) → AllBeginAlike vs ws → map (kinds_taken means) vs ≡ map (kinds_taken means) ws
same-taken means [] [] a = refl
same-taken means [] (w ∷ ws) a = absurd a
same-taken means (v ∷ vs) [] a = absurd a
same-taken means (v ∷ vs) (w ∷ ws) a = rw (a.0.parameters, same-taken means vs ws a.1) refl

same-places : (vs ws : List WrittenVertex) → AllBeginAlike vs ws → map (λ (v : WrittenVertex). v.at) vs ≡ map (λ (v : WrittenVertex). v.at) ws
same-places [] [] a = refl
same-places [] (w ∷ ws) a = absurd a
same-places (v ∷ vs) [] a = absurd a
same-places (v ∷ vs) (w ∷ ws) a = rw (a.0.at, same-places vs ws a.1) refl

module _ (m : WrittenModel) (vs : List WrittenVertex) (end_at : ℕ) (alike : AllBeginAlike vs m.vertices) where
  same-declarations : declarations (with_vertices m vs end_at) ≡ declarations m
  same-declarations = rw (same-declared 0 vs m.vertices alike) refl

  pub same-meaning : model_meaning (with_vertices m vs end_at) ≡ model_meaning m
  same-meaning = ap meaning_of same-declarations

  pub same-takes : model_takes (with_vertices m vs end_at) ≡ model_takes m
  same-takes = ap (λ means. map (kinds_taken means) vs) same-meaning ∙ same-taken (model_meaning m) vs m.vertices alike

  pub same-faults : faults_of_declared (with_vertices m vs end_at) ≡ faults_of_declared m
  same-faults = rw (same-declared 0 vs m.vertices alike, same-places vs m.vertices alike) refl
