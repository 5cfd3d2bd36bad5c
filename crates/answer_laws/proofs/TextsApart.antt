-- The canonical text of a model, alone or with a certificate after it, determines the model.
use Rattle.std.proofs.Common.{◌≡◌, ◌⊎◌, inl, inr, ℕ, ◌+◌, ◌-◌, List, [], ◌∷◌, ◌++◌, length, Result, Ok, Err, Some, refl, sym, ap, subst, ◌∙◌, arith, length-append}
use Rattle.std.proofs.lemmas.List.{append-nil, append_assoc}
use Rattle.std.specs.Prelude.{codes, ◌↔◌}
use Rattle.model_core.specs.EventGraph.{EventGraph}
use Rattle.model_core.specs.Static.OwnRules.{KeepsStaticRules}
use Rattle.model_core.specs.Static.Reading.{Reads, IsValid}
use Rattle.model_core.specs.Text.Canonical.{canonical}
use Rattle.model_core.specs.Text.Language.{BeginsWithText}
use Rattle.model_core.specs.Text.ModelText.{SpellsText}
use Rattle.model_core.specs.Text.Numbering.{numbered}
use Rattle.model_core.specs.Text.Lexing.{Lexeme, after_front, front, front_length, tokens_from, tokens_of}
use Rattle.model_core.specs.Text.Spellable.{IsSpellable, ReadsBack}
use Rattle.model_core.specs.Text.Written.{WrittenModel}
use Rattle.round_trip.proofs.ByParts.{begins_as_written}
use Rattle.round_trip.proofs.CanonicalSpells.{canonical-before}
use Rattle.round_trip.proofs.TokenSteps.{Lexes-at, Lexes_tokens_from}
use Rattle.answer_laws.specs.PrintedAndReduced.{HasText, certificate_of}
use Rattle.answer_laws.proofs.CutApart.{then_tokens, cut_apart}

-- what the layers below say of models and their texts
pub record ModelFacts : Type 0 where
  pub one_model : (text : List ℕ) (g h : EventGraph) → Reads text g → Reads text h → g ≡ h
  pub by_parts : (g : EventGraph) → IsValid g ↔ KeepsStaticRules g × IsSpellable g

-- and of texts that spell written models
pub record TextFacts : Type 0 where
  pub spells : (g : EventGraph) → IsSpellable g → ReadsBack g → (w : WrittenModel) × SpellsText (canonical g) w × (numbered w ≡ Some g)
  pub one_reading : (text : List ℕ) (m n : WrittenModel) → SpellsText text m → SpellsText text n → m ≡ n
  pub one_front : (tokens : List Lexeme) (m n : WrittenModel) (left rest : List Lexeme) → BeginsWithText tokens m left → BeginsWithText tokens n rest → (m ≡ n) × (left ≡ rest)

-- a text is read as a model only if the model has a text
pub read_has_text : ModelFacts → (text : List ℕ) (g : EventGraph) → Reads text g → HasText g
read_has_text facts text g reads =
    let parts = (facts.by_parts g).0 (text, reads) in
    record {
      spellable = parts.1;
      reads_back = record { declared_once = parts.0.parts.declared_once; begins = begins_as_written g.variables parts.0.parts.variables };
    }

-- ---- a canonical text ends with a line feed

abbrev EndsWithFeed : List ℕ → Type 0
EndsWithFeed text = (y : List ℕ) × (text ≡ y ++ 10 ∷ [])

feed_after : (x text : List ℕ) → EndsWithFeed text → EndsWithFeed (x ++ text)
feed_after x text (y, is) = (x ++ y, ap (λ t. x ++ t) is ∙ sym (append_assoc x y (10 ∷ [])))

canonical_feeds : (g : EventGraph) → EndsWithFeed (canonical g)
canonical_feeds g = feed_after _ (codes "end\n") (codes "end", refl)

-- ---- what may come after it

later_ok : (own later : Result (List Lexeme) ℕ) (tokens : List Lexeme) → then_tokens own later ≡ Ok tokens → (left : List Lexeme) × (later ≡ Ok left)
later_ok (Ok own) (Ok left) tokens e = (left, refl)
later_ok (Ok own) (Err place) tokens e = cc
later_ok (Err place) later tokens e = cc

-- the letter c begins a token
letter_begins : (at : ℕ) (r : List ℕ) → tokens_from at 0 (99 ∷ r) ≡ Ok [] → ⊥
letter_begins at r e = by (tokens_from (at + 1) (front_length (front 99 r) - 1) r) e where
  by : (later : Result (List Lexeme) ℕ) → after_front at (front 99 r) later ≡ Ok [] → ⊥
  by (Ok tokens) e = cc
  by (Err place) e = cc

-- two lists begin alike: one is the front of the other
fronts : (xs ys s t : List ℕ) → xs ++ s ≡ ys ++ t → ((r : List ℕ) × (ys ≡ xs ++ r) × (s ≡ r ++ t)) ⊎ ((r : List ℕ) × (xs ≡ ys ++ r) × (t ≡ r ++ s))
fronts [] ys s t e = inl (ys, refl, e)
fronts (x ∷ xs) [] s t e = inr (x ∷ xs, refl, sym e)
fronts (x ∷ xs) (y ∷ ys) s t e = by (fronts xs ys s t later) where
  later : xs ++ s ≡ ys ++ t
  later = cc

  by : ((r : List ℕ) × (ys ≡ xs ++ r) × (s ≡ r ++ t)) ⊎ ((r : List ℕ) × (xs ≡ ys ++ r) × (t ≡ r ++ s)) → ((r : List ℕ) × (y ∷ ys ≡ x ∷ (xs ++ r)) × (s ≡ r ++ t)) ⊎ ((r : List ℕ) × (x ∷ xs ≡ y ∷ (ys ++ r)) × (t ≡ r ++ s))
  by (inl (r, longer, rest)) = inl (r, cc, rest)
  by (inr (r, longer, rest)) = inr (r, cc, rest)

module _ (facts : TextFacts) where
  abbrev spelled : (g : EventGraph) → HasText g → (w : WrittenModel) × SpellsText (canonical g) w × (numbered w ≡ Some g)
  spelled g p = facts.spells g p.spellable p.reads_back

  pub alone_tells : (g h : EventGraph) → HasText g → HasText h → canonical g ≡ canonical h → g ≡ h
  alone_tells g h p q same =
      let first = spelled g p in
      let second = spelled h q in
      let one : first.0 ≡ second.0 = facts.one_reading (canonical g) first.0 second.0 first.1 (subst (λ (text : List ℕ). SpellsText text second.0) (sym same) second.1) in
      let numbers : Some g ≡ Some h = sym first.2 ∙ ap numbered one ∙ second.2 in
      cc

  -- no token comes after it in another canonical text
  no_tokens_behind : (g h : EventGraph) → HasText g → HasText h → (r : List ℕ) → canonical h ≡ canonical g ++ r → tokens_from (length (canonical g)) 0 r ≡ Ok []
  no_tokens_behind g h p q r longer =
      let (y, fed) = canonical_feeds g in
      let second = spelled h q in
      let spells = second.1 in
      let whole : y ++ 10 ∷ r ≡ canonical h = sym (longer ∙ ap (λ t. t ++ r) fed ∙ append_assoc y (10 ∷ []) r) in
      let split : then_tokens (tokens_of (y ++ 10 ∷ [])) (tokens_from (0 + length y + 1) 0 r) ≡ Ok spells.tokens = sym (cut_apart 0 0 y r (omega arith)) ∙ ap tokens_of whole ∙ spells.cut in
      let (left, later) = later_ok (tokens_of (y ++ 10 ∷ [])) (tokens_from (0 + length y + 1) 0 r) spells.tokens split in
      let long : length (canonical g) ≡ length y + 1 = ap length fed ∙ length-append y (10 ∷ []) in
      let place : length (canonical g) ≡ 0 + length y + 1 = omega (arith, long) in
      let cut : tokens_from (length (canonical g)) 0 r ≡ Ok left = ap (λ n. tokens_from n 0 r) place ∙ later in
      let here : length (canonical g) ≡ 0 + length (canonical g) = omega arith in
      let before = canonical-before g p.spellable p.reads_back r left (Lexes-at (length (canonical g)) (0 + length (canonical g)) r left here (Lexes_tokens_from (length (canonical g)) r left cut)) in
      let found : tokens_of (canonical g ++ r) ≡ Ok spells.tokens = ap tokens_of (sym longer) ∙ spells.cut in
      let cut_again : tokens_of (canonical g ++ r) ≡ Ok before.1 = before.2 in
      let same : before.1 ≡ spells.tokens = cc in
      let none = (facts.one_front spells.tokens before.0 second.0 left [] (subst (λ (ts : List Lexeme). BeginsWithText ts before.0 left) same before.3.derived) spells.derived).1 in
      cut ∙ ap (λ (ts : List Lexeme). Ok ts) none

  -- so nothing does that begins with this letter
  one_of_two : (g h : EventGraph) → HasText g → HasText h → (r s t : List ℕ) → canonical h ≡ canonical g ++ r → 99 ∷ s ≡ r ++ t → g ≡ h
  one_of_two g h p q [] s t longer begins = alone_tells g h p q (sym (longer ∙ append-nil (canonical g)))
  one_of_two g h p q (c ∷ r) s t longer begins =
      let letter : 99 ≡ c = cc in
      absurd (letter_begins (length (canonical g)) r (no_tokens_behind g h p q (99 ∷ r) (longer ∙ ap (λ (d : ℕ). canonical g ++ d ∷ r) (sym letter))))

  pub certified_tells : (g h : EventGraph) (a b : List ℕ) → HasText g → HasText h → canonical g ++ certificate_of a ≡ canonical h ++ certificate_of b → g ≡ h
  certified_tells g h a b p q same = by (fronts (canonical g) (canonical h) (certificate_of a) (certificate_of b) same) where
    by : ((r : List ℕ) × (canonical h ≡ canonical g ++ r) × (certificate_of a ≡ r ++ certificate_of b)) ⊎ ((r : List ℕ) × (canonical g ≡ canonical h ++ r) × (certificate_of b ≡ r ++ certificate_of a)) → g ≡ h
    by (inl (r, longer, rest)) = one_of_two g h p q r _ (certificate_of b) longer rest
    by (inr (r, longer, rest)) = sym (one_of_two h g q p r _ (certificate_of a) longer rest)
