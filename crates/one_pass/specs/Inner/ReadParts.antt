-- What was read and checked at once: what is written there, that it breaks no static rule, and what it is with numbers in place of names.
use Rattle.std.specs.Prelude.{◌≡◌, ◌≤◌, ℕ, Bool, List, [], ◌∷◌, length, Option, Some, None}
use Rattle.std.specs.List.{flat_map}
use Rattle.sig_base.specs.declared.limits.TheConstants.{CHANGES_MAX, EDGES_MAX}
use Rattle.model_core.specs.declared.model.Kind.{Kind}
use Rattle.model_core.specs.declared.token.Symbol.TheVariants as symbols
use Rattle.model_core.specs.EventGraph as graph
use Rattle.model_core.specs.EventGraph.{EventGraph}
use Rattle.model_core.specs.Text.Lexing.{Lexeme}
use Rattle.model_core.specs.Text.Format.{Many, mark, at_least_one}
use Rattle.model_core.specs.Text.Written.{WrittenVertex, WrittenModel}
use Rattle.model_core.specs.Text.Expressions.{LanguageFormat}
use Rattle.model_core.specs.Text.Language.{change_format, edge_format, vertex_format}
use Rattle.model_core.specs.Text.Numbering as numbering
use Rattle.model_core.specs.Text.Numbering.{Declared, each_numbered, numbered}
use Rattle.model_core.specs.Static.FaultOrder.{StaticFault}
use Rattle.model_core.specs.Static.Meanings.{Meaning}
use Rattle.model_core.specs.Static.PartFaults.{written_items}
use Rattle.model_core.specs.Static.ModelFaults.{first_fault, Accepted}
use Rattle.text_laws.specs.FormatReader.{took}
use Rattle.text_laws.specs.LanguageReader.{language_reader, text_read}
use Rattle.model_read.specs.Beginnings.{with_vertices}
use Rattle.static_laws.specs.Checked.{Checked, CheckedPart, NumberedAs}
use Rattle.one_pass.specs.Inner.AllFaults.{all_change_faults, all_edge_faults, all_vertex_faults, faults_in_order}

-- between these tokens, where names mean this, there is a part without faults, which has this number
pub record ReadSure {W B : Type 0} (f : LanguageFormat W) (means : List ℕ → Option Meaning) (faults : W → List StaticFault) (number : Declared → W → Option B) (before after : List Lexeme) (part : B) : Type 0 where
  pub written : W
  pub read : language_reader f before ≡ took written after
  pub unbroken : faults written ≡ []
  pub numbers : NumberedAs means (λ d. number d written) part

-- Between these tokens, where names mean this, there is a part, whose faults are found after others. Where it has none, it
-- has this number.
pub record ReadChecked {W B : Type 0} (f : LanguageFormat W) (means : List ℕ → Option Meaning) (faults : W → List StaticFault) (number : Declared → W → Option B) (t0 t1 : Option StaticFault) (before after : List Lexeme) (part : B) : Type 0 where
  pub written : W
  pub read : language_reader f before ≡ took written after
  pub checked : CheckedPart means t0 t1 (faults written) (λ d. number d written) part

-- the same of any number of parts
pub record ReadParts {W B : Type 0} (f : LanguageFormat W) (means : List ℕ → Option Meaning) (faults : W → List StaticFault) (number : Declared → W → Option B) (t0 t1 : Option StaticFault) (before after : List Lexeme) (parts : List B) : Type 0 where
  pub written : List W
  pub read : language_reader (Many f) before ≡ took written after
  pub checked : CheckedPart means t0 t1 (flat_map faults written) (λ d. each_numbered (number d) written) parts
  pub counted : length written ≡ length parts

-- two vertices with the same name and parameters, at the same places
pub record BeginAlike (v w : WrittenVertex) : Type 0 where
  pub at : v.at ≡ w.at
  pub name : v.name ≡ w.name
  pub parameters : written_items v.parameters ≡ written_items w.parameters

-- vertices, one beside the other
abbrev pub AllBeginAlike : List WrittenVertex → List WrittenVertex → Type 0
AllBeginAlike [] [] = Unit {0}
AllBeginAlike (v ∷ vs) (w ∷ ws) = BeginAlike v w × AllBeginAlike vs ws
AllBeginAlike vs ws = ⊥

module _ (is_two : Bool) (means : List ℕ → Option Meaning) (taken : List (List (Option Kind))) where
  -- the changes and edges of a vertex, no more than it may have, and what ends it
  pub record ReadBody (t0 t1 : Option StaticFault) (before after : List Lexeme) (xs : List graph.StateChange) (ys : List graph.EventEdge) : Type 0 where
    pub between : List Lexeme
    pub last : List Lexeme
    pub end_at : ℕ
    pub first : Option StaticFault
    pub changes : ReadParts change_format means (all_change_faults is_two means) numbering.change t0 first before between xs
    pub changes_within : length xs ≤ CHANGES_MAX
    pub edges : ReadParts edge_format means (all_edge_faults is_two means taken) numbering.edge first t1 between last ys
    pub edges_within : length ys ≤ EDGES_MAX
    pub closed : language_reader (mark symbols.CloseBrace) last ≡ took end_at after

  -- a vertex that begins as expected
  pub record ReadVertex (expected : WrittenVertex) (t0 t1 : Option StaticFault) (before after : List Lexeme) (v : graph.EventVertex) : Type 0 where
    pub part : ReadChecked vertex_format means (all_vertex_faults is_two means taken) numbering.vertex t0 t1 before after v
    pub alike : BeginAlike part.written expected

  -- vertices that begin as expected
  pub record ReadVertices (expected : List WrittenVertex) (t0 t1 : Option StaticFault) (before after : List Lexeme) (vs : List graph.EventVertex) : Type 0 where
    pub parts : ReadChecked (at_least_one vertex_format) means (flat_map (all_vertex_faults is_two means taken)) (λ d. each_numbered (numbering.vertex d)) t0 t1 before after vs
    pub alike : AllBeginAlike parts.written expected

-- the vertices of a model whose declarations are known
pub record ReadVerticesAfter (m : WrittenModel) (t0 t1 : Option StaticFault) (before after : List Lexeme) (g : EventGraph) : Type 0 where
  pub vertices : List WrittenVertex
  pub read : language_reader (at_least_one vertex_format) before ≡ took vertices after
  pub checked : (end_at : ℕ) → Checked t0 t1 (faults_in_order (with_vertices m vertices end_at)) (numbered (with_vertices m vertices end_at) ≡ Some g)

-- a written model, of which this is the first fault. Where it has none, it is accepted as this model
pub record IsDecided (m : WrittenModel) (first : Option StaticFault) (g : EventGraph) : Type 0 where
  pub is_first : first ≡ first_fault m
  pub accepted : first ≡ None → Accepted m g

-- a whole text, after which no token comes
pub record ReadText (before after : List Lexeme) (first : Option StaticFault) (g : EventGraph) : Type 0 where
  pub written : WrittenModel
  pub read : text_read before ≡ took written after
  pub decided : IsDecided written first g
