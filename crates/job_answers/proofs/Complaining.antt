-- Of each text there is one thing to complain of, or it reads as a model, and never both.
use Rattle.std.proofs.Common.{◌≡◌, ◌⊎◌, inl, inr, ℕ, ◌≤◌, List, length, Option, Some, None, Result, Ok, Err, refl, sym, ap, subst, ◌∙◌}
use Rattle.sig_base.specs.declared.limits.TheConstants.{TEXT_MAX, OPENINGS_MAX}
use Rattle.model_core.specs.declared.static_kind.StaticKind.{StaticKind}
use Rattle.model_core.specs.Text.Language.{IsText}
use Rattle.model_core.specs.Text.FirstWrong.{IsUnexpectedAt}
use Rattle.model_core.specs.Text.Openings.{too_deep_at}
use Rattle.model_core.specs.Text.ModelText.{SpellsText}
use Rattle.model_core.specs.Static.FaultOrder.{StaticFault}
use Rattle.answer_delivery.specs.declared.complaint.Complaint.{Complaint}
use Rattle.answer_delivery.specs.declared.complaint.Complaint.TheVariants as complaints
use Rattle.answer_delivery.specs.Complaints.{IsComplaint}
use Rattle.job_answers.specs.TextComplaints.{HasComplaint}
use Rattle.job_answers.specs.Inner.TextFacts.{TextFacts}
use Rattle.job_answers.proofs.ModelTerms.{EventGraph, Lexeme, tokens_of, WrittenModel, IsFirstFault, first_fault, Reads}

-- a text has one list of tokens
same_tokens : (text : List ℕ) (a b : List Lexeme) → tokens_of text ≡ Ok a → tokens_of text ≡ Ok b → a ≡ b
same_tokens text a b e f = cc

-- the complaint and its byte
abbrev pub SameComplaint : Complaint → ℕ → Complaint → ℕ → Type 0
SameComplaint c i d j = (c ≡ d) × (i ≡ j)

module _ (laws : TextFacts) (text : List ℕ) where
  -- ---- how far a text goes

  record HasTokens : Type 0 where
    tokens : List Lexeme
    are : tokens_of text ≡ Ok tokens

  lexing_complaint : (at : ℕ) → tokens_of text ≡ Err at → HasTokens → ⊥
  lexing_complaint at e c = let f = c.are in cc

  deep_or_not : (a b : List Lexeme) (at : ℕ) → tokens_of text ≡ Ok a → tokens_of text ≡ Ok b → too_deep_at OPENINGS_MAX a ≡ Some at → too_deep_at OPENINGS_MAX b ≡ None → ⊥
  deep_or_not a b at e f deep none = let g = ap (too_deep_at OPENINGS_MAX) (same_tokens text a b e f) in cc

  -- a text that spells a model is cut, isn't too deep, and has no unexpected place
  spelled_deep : (m : WrittenModel) (tokens : List Lexeme) (at : ℕ) → SpellsText text m → tokens_of text ≡ Ok tokens → too_deep_at OPENINGS_MAX tokens ≡ Some at → ⊥
  spelled_deep m tokens at s e deep = deep_or_not tokens s.tokens at e s.cut deep (laws.few_openings s.tokens s.few_openings)

  spelled_wrong : (m : WrittenModel) (tokens : List Lexeme) (at : ℕ) → SpellsText text m → tokens_of text ≡ Ok tokens → IsUnexpectedAt text tokens at → ⊥
  spelled_wrong m tokens at s e wrong = wrong.none m (subst (λ ts. IsText ts m) (same_tokens text s.tokens tokens s.cut e) s.derived)

  one_static : (m n : WrittenModel) (j k : StaticKind) (a b : ℕ) → SpellsText text m → SpellsText text n → IsFirstFault m j a → IsFirstFault n k b → SameComplaint (complaints.Static j) a (complaints.Static k) b
  one_static m n j k a b s t p q =
      let same = laws.one_model text n m t s in
      let one = sym (laws.first_is_fault m (record { at = a; kind = j }) p) ∙ laws.first_is_fault m (record { at = b; kind = k }) (subst (λ w. IsFirstFault w k b) same q) in
      let fault : StaticFault = record { at = a; kind = j } in
      let other : StaticFault = record { at = b; kind = k } in
      let is : fault ≡ other = cc in
      (ap (λ (f : StaticFault). complaints.Static f.kind) is, ap (λ (f : StaticFault). f.at) is)

  pub one_complaint : (c d : Complaint) (i j : ℕ) → IsComplaint text c i → IsComplaint text d j → SameComplaint c i d j
  one_complaint complaints.BadByte complaints.BadByte i j p q = (refl, cc)
  one_complaint complaints.BadByte complaints.TooDeep i j p q = absurd (lexing_complaint i p (record { tokens = q.0; are = q.1 }))
  one_complaint complaints.BadByte complaints.Unexpected i j p q = absurd (lexing_complaint i p (record { tokens = q.0; are = q.1 }))
  one_complaint complaints.BadByte (complaints.Static k) i j p q = absurd (lexing_complaint i p (record { tokens = q.1.tokens; are = q.1.cut }))
  one_complaint complaints.TooDeep complaints.BadByte i j p q = absurd (lexing_complaint j q (record { tokens = p.0; are = p.1 }))
  one_complaint complaints.TooDeep complaints.TooDeep i j p q = let same = ap (too_deep_at OPENINGS_MAX) (same_tokens text p.0 q.0 p.1 q.1) in let e = p.2 in let f = q.2 in (refl, cc)
  one_complaint complaints.TooDeep complaints.Unexpected i j p q = absurd (deep_or_not p.0 q.0 i p.1 q.1 p.2 q.2)
  one_complaint complaints.TooDeep (complaints.Static k) i j p q = absurd (spelled_deep q.0 p.0 i q.1 p.1 p.2)
  one_complaint complaints.Unexpected complaints.BadByte i j p q = absurd (lexing_complaint j q (record { tokens = p.0; are = p.1 }))
  one_complaint complaints.Unexpected complaints.TooDeep i j p q = absurd (deep_or_not q.0 p.0 j q.1 p.1 q.2 p.2)
  one_complaint complaints.Unexpected complaints.Unexpected i j p q = (refl, laws.one_place text p.0 i j p.3 (subst (λ ts. IsUnexpectedAt text ts j) (same_tokens text q.0 p.0 q.1 p.1) q.3))
  one_complaint complaints.Unexpected (complaints.Static k) i j p q = absurd (spelled_wrong q.0 p.0 i q.1 p.1 p.3)
  one_complaint (complaints.Static k) complaints.BadByte i j p q = absurd (lexing_complaint j q (record { tokens = p.1.tokens; are = p.1.cut }))
  one_complaint (complaints.Static k) complaints.TooDeep i j p q = absurd (spelled_deep p.0 q.0 j p.1 q.1 q.2)
  one_complaint (complaints.Static k) complaints.Unexpected i j p q = absurd (spelled_wrong p.0 q.0 j p.1 q.1 q.3)
  one_complaint (complaints.Static k) (complaints.Static l) i j p q = one_static p.0 q.0 k l i j p.1 q.1 p.2 q.2
  one_complaint complaints.BadSnapshot d i j p q = absurd p
  one_complaint complaints.BadByte complaints.BadSnapshot i j p q = absurd q
  one_complaint complaints.TooDeep complaints.BadSnapshot i j p q = absurd q
  one_complaint complaints.Unexpected complaints.BadSnapshot i j p q = absurd q
  one_complaint (complaints.Static k) complaints.BadSnapshot i j p q = absurd q

  -- what reads as a model has nothing to complain of
  pub no_complaint : (c : Complaint) (i : ℕ) (g : EventGraph) → IsComplaint text c i → Reads text g → ⊥
  no_complaint complaints.BadByte i g p r = lexing_complaint i p (record { tokens = r.spells.tokens; are = r.spells.cut })
  no_complaint complaints.TooDeep i g p r = spelled_deep r.model p.0 i r.spells p.1 p.2
  no_complaint complaints.Unexpected i g p r = spelled_wrong r.model p.0 i r.spells p.1 p.3
  no_complaint (complaints.Static k) i g p r =
      let same = laws.one_model text p.0 r.model p.1 r.spells in
      let first = laws.first_is_fault r.model (record { at = i; kind = k }) (subst (λ w. IsFirstFault w k i) same p.2) in
      let none = laws.accepted_has_no_fault r.model (g, r.accepted) in
      cc
  no_complaint complaints.BadSnapshot i g p r = absurd p

  -- ---- one of them there is

  by_fault : length text ≤ TEXT_MAX → (m : WrittenModel) → SpellsText text m → (o : Option StaticFault) → first_fault m ≡ o → HasComplaint text ⊎ ((g : EventGraph) × Reads text g)
  by_fault within m s None e = let (g, a) = laws.accepted m e in inr (g, record { fits = within; model = m; spells = s; accepted = a })
  by_fault within m s (Some f) e = inl (complaints.Static f.kind, f.at, (m, s, laws.fault_is_first m f e))

  by_reading : length text ≤ TEXT_MAX → (tokens : List Lexeme) → tokens_of text ≡ Ok tokens → too_deep_at OPENINGS_MAX tokens ≡ None → ((m : WrittenModel) × IsText tokens m) ⊎ ((at : ℕ) × IsUnexpectedAt text tokens at) → HasComplaint text ⊎ ((g : EventGraph) × Reads text g)
  by_reading within tokens e none (inl (m, is)) = by_fault within m (record { tokens = tokens; cut = e; derived = is; few_openings = laws.none_deep tokens none }) (first_fault m) refl
  by_reading within tokens e none (inr (at, wrong)) = inl (complaints.Unexpected, at, (tokens, e, none, wrong))

  by_depth : length text ≤ TEXT_MAX → (tokens : List Lexeme) → tokens_of text ≡ Ok tokens → (o : Option ℕ) → too_deep_at OPENINGS_MAX tokens ≡ o → HasComplaint text ⊎ ((g : EventGraph) × Reads text g)
  by_depth within tokens e None none = by_reading within tokens e none (laws.spelled_or_not text tokens)
  by_depth within tokens e (Some at) deep = inl (complaints.TooDeep, at, (tokens, e, deep))

  by_tokens : length text ≤ TEXT_MAX → (r : Result (List Lexeme) ℕ) → tokens_of text ≡ r → HasComplaint text ⊎ ((g : EventGraph) × Reads text g)
  by_tokens within (Ok tokens) e = by_depth within tokens e (too_deep_at OPENINGS_MAX tokens) refl
  by_tokens within (Err at) e = inl (complaints.BadByte, at, e)

  pub complaint_or_model : length text ≤ TEXT_MAX → HasComplaint text ⊎ ((g : EventGraph) × Reads text g)
  complaint_or_model within = by_tokens within (tokens_of text) refl
