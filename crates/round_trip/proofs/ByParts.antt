-- A model is valid exactly where it keeps the static rules by itself and its parts are what a text can write.
use Rattle.std.proofs.Common.{◌≡◌, ◌⊎◌, inl, inr, ◌↔◌, ℕ, zero, suc, ◌+◌, ◌∷◌, ◌++◌, [], List, length, refl, arith, subst}
use Rattle.std.specs.Prelude.{ℤ, pos, negsuc, ◌≤ℤ◌, Ok}
use Rattle.std.specs.List.{AllByRecursion}
use Rattle.std.proofs.lemmas.Int.{ints}
use Rattle.model_core.specs.declared.model.Kind.{Kind}
use Rattle.model_core.specs.declared.model.Kind.TheVariants as kinds
use Rattle.model_core.specs.EventGraph.{Variable, EventGraph}
use Rattle.model_core.specs.Text.Lexing.{Lexeme, tokens_from, tokens_of}
use Rattle.model_core.specs.Text.Written.{WrittenModel}
use Rattle.model_core.specs.Text.DocumentText.{BeginsWithModel}
use Rattle.model_core.specs.Text.Canonical.{canonical}
use Rattle.model_core.specs.Text.Spellable.{IsSpellable, ReadsBack, BeginsAsWritten}
use Rattle.model_core.specs.Static.OwnRules.{FitsKind, KeepsVariable, KeepsStaticRules}
use Rattle.model_core.specs.Static.ModelFaults.{Accepted}
use Rattle.model_core.specs.Static.Reading.{Reads, IsValid}
use Rattle.static_laws.proofs.StaticTwins.ModelTwin.{accepted_by_itself}
use Rattle.round_trip.proofs.SpelledModels.{spelled-spellable}
use Rattle.round_trip.proofs.TokenSteps.{Lexes-at, Lexes_tokens_from}
use Rattle.round_trip.proofs.CanonicalSpells.{canonical-spells, canonical-before}

-- a number from 0 to 1
none_or_one : (n : ℤ) → pos 0 ≤ℤ n → n ≤ℤ pos 1 → (n ≡ pos 0) ⊎ (n ≡ pos 1)
none_or_one (pos zero) from to = inl refl
none_or_one (pos (suc zero)) from to = inr refl
none_or_one (pos (suc (suc n))) from to = let no : ⊥ = omega (arith, ints, to) in absurd no
none_or_one (negsuc n) from to = let no : ⊥ = omega (arith, ints, from) in absurd no

pub begins_as_written : (vs : List Variable) → AllByRecursion KeepsVariable vs → AllByRecursion (λ (v : Variable). BeginsAsWritten v.kind v.initial) vs
begins_as_written [] h = tt
begins_as_written (v ∷ vs) h = (by_kind v.kind h.0.range, begins_as_written vs h.1)
  where
    by_kind : (kind : Kind) → FitsKind kind v → BeginsAsWritten kind v.initial
    by_kind kinds.Truth fits = none_or_one v.initial (subst (λ (n : ℤ). n ≤ℤ v.initial) fits.least h.0.from_lo) (subst (λ (n : ℤ). v.initial ≤ℤ n) fits.greatest h.0.to_hi)
    by_kind kinds.Range fits = tt

module _ (g : EventGraph) where
  parts_of_valid : IsValid g → KeepsStaticRules g × IsSpellable g
  parts_of_valid h =
      let reads = h.1 in
      let by_itself = (accepted_by_itself reads.model g).0 reads.accepted in
      (by_itself.1, spelled-spellable h.0 reads.model g reads.spells by_itself.0)

  text_of_parts : KeepsStaticRules g → IsSpellable g → Reads (canonical g) g
  text_of_parts keeps spellable =
      let back : ReadsBack g = record { declared_once = keeps.parts.declared_once; begins = begins_as_written g.variables keeps.parts.variables } in
      let whole = canonical-spells g spellable back in
      record { fits = keeps.short; model = whole.0; spells = whole.1; accepted = (accepted_by_itself whole.0 g).1 (whole.2, keeps, whole.4, whole.3) }

  pub text_in_front : (rest : List ℕ) (left : List Lexeme) → KeepsStaticRules g → IsSpellable g → tokens_from (length (canonical g)) 0 rest ≡ Ok left → (w : WrittenModel) × (tokens : List Lexeme) × (tokens_of (canonical g ++ rest) ≡ Ok tokens) × BeginsWithModel tokens w left × Accepted w g
  text_in_front rest left keeps spellable cut =
      let back : ReadsBack g = record { declared_once = keeps.parts.declared_once; begins = begins_as_written g.variables keeps.parts.variables } in
      let place : length (canonical g) ≡ 0 + length (canonical g) = omega arith in
      let whole = canonical-before g spellable back rest left (Lexes-at (length (canonical g)) (0 + length (canonical g)) rest left place (Lexes_tokens_from (length (canonical g)) rest left cut)) in
      (whole.0, whole.1, whole.2, whole.3, (accepted_by_itself whole.0 g).1 (whole.4, keeps, whole.6, whole.5))

  pub by_parts : IsValid g ↔ KeepsStaticRules g × IsSpellable g
  by_parts = (parts_of_valid, λ h. (canonical g, text_of_parts h.0 h.1))

  pub reads_back : IsValid g → Reads (canonical g) g
  reads_back h = let parts = parts_of_valid h in text_of_parts parts.0 parts.1
