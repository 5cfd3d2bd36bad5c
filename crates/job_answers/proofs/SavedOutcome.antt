-- Of each saved document there is one thing to complain of, or it reads as a model and a saved run, and never both: what comes
-- of it is decided part by part.
use Rattle.std.proofs.Common.{◌≡◌, ◌⊎◌, inl, inr, ℕ, ◌≤◌, List, length, refl, sym, ap, ◌∙◌}
use Rattle.std.specs.Prelude.{Option, Some, None, Result, Ok, Err}
use Rattle.sig_base.specs.declared.limits.TheConstants.{DOCUMENT_MAX}
use Rattle.model_core.specs.Text.Numbering.{numbered}
use Rattle.model_core.specs.Text.SnapshotGrammar.{WrittenSnapshot, IsSnapshot, IsNoSnapshotAt}
use Rattle.model_core.specs.Text.SavedDocument.{SpellsSaved}
use Rattle.model_core.specs.Static.FaultOrder.{StaticFault}
use Rattle.model_core.specs.Saved.GoodSnapshots.{bad_at, saved_run}
use Rattle.answer_delivery.specs.declared.complaint.Complaint.{Complaint}
use Rattle.answer_delivery.specs.declared.complaint.Complaint.TheVariants as complaints
use Rattle.job_answers.specs.SavedReading.{ReadsSaved}
use Rattle.job_answers.specs.SavedComplaints.{IsSavedGrammarComplaint, in_model, in_snapshot, IsSavedComplaint, of_saved_bytes, of_saved_tokens, of_model, of_snapshot}
use Rattle.job_answers.specs.TextComplaints.{HasSavedComplaint}
use Rattle.job_answers.proofs.ModelTerms.{EventGraph, Lexeme, tokens_of, WrittenModel, first_fault, Accepted, SavedRun}
use Rattle.job_answers.proofs.FaultLaws.{FaultLaws}
use Rattle.job_answers.proofs.FrontOutcome.{Computed, and_then, front_outcome, front_begun, front_complained, FrontFault, FrontModel, front_or_fault, unless_fault, one_graph}

-- tokens are a snapshot, or stop to begin one
abbrev SnapshotDecision : List ℕ → List Lexeme → Type 0
SnapshotDecision text tokens = ((w : WrittenSnapshot) × IsSnapshot tokens w) ⊎ ((at : ℕ) × IsNoSnapshotAt text tokens at)

-- the law of snapshots, in one record: tokens are one at most, and where they are none there is one first wrong place
pub record SnapshotLaws : Type 0 where
  pub one : (tokens : List Lexeme) (a b : WrittenSnapshot) → IsSnapshot tokens a → IsSnapshot tokens b → a ≡ b
  pub decided : (text : List ℕ) (tokens : List Lexeme) → SnapshotDecision text tokens
  pub one_place : (text : List ℕ) (tokens : List Lexeme) (i j : ℕ) → IsNoSnapshotAt text tokens i → IsNoSnapshotAt text tokens j → i ≡ j

-- ---- the outcome for the parts

abbrev Parts : Type 0
Parts = WrittenModel × WrittenSnapshot

abbrev of_snapshot_decision : {text : List ℕ} {tokens : List Lexeme} → SnapshotDecision text tokens → Computed WrittenSnapshot
of_snapshot_decision (inl spelled) = Ok spelled.0
of_snapshot_decision (inr wrong) = Err (complaints.Unexpected, wrong.0)

-- the snapshot of a written model of which some part is bad
abbrev unless_bad : Option ℕ → Computed Parts → Computed Parts
unless_bad None o = o
unless_bad (Some at) o = Err (complaints.BadSnapshot, at)

-- the first part of the snapshot that is bad for the model
abbrev bad_for : Option EventGraph → WrittenSnapshot → Option ℕ
bad_for None w = None
bad_for (Some g) w = bad_at g w

module _ (laws : FaultLaws) (snapshots : SnapshotLaws) (text : List ℕ) where
  abbrev snapshot_outcome : List Lexeme → Computed WrittenSnapshot
  snapshot_outcome tokens = of_snapshot_decision (snapshots.decided text tokens)

  snapshot_read : (tokens : List Lexeme) (w : WrittenSnapshot) → IsSnapshot tokens w → (d : SnapshotDecision text tokens) → of_snapshot_decision d ≡ Ok w
  snapshot_read tokens w is (inl spelled) = ap (λ s. Ok s) (snapshots.one tokens spelled.0 w spelled.1 is)
  snapshot_read tokens w is (inr wrong) = absurd (wrong.1.none w is)

  no_snapshot : (tokens : List Lexeme) (at : ℕ) → IsNoSnapshotAt text tokens at → (d : SnapshotDecision text tokens) → of_snapshot_decision d ≡ Err (complaints.Unexpected, at)
  no_snapshot tokens at wrong (inl spelled) = absurd (wrong.none spelled.0 spelled.1)
  no_snapshot tokens at wrong (inr other) = ap (λ k. Err (complaints.Unexpected, k)) (snapshots.one_place text tokens other.0 at other.1 wrong)

  snapshot_complained : (tokens : List Lexeme) (what : Complaint) (at : ℕ) → what ≡ complaints.Unexpected → IsNoSnapshotAt text tokens at → snapshot_outcome tokens ≡ Err (what, at)
  snapshot_complained tokens what at is wrong = no_snapshot tokens at wrong (snapshots.decided text tokens) ∙ ap (λ w. Err (w, at)) (sym is)

  -- ---- the outcome for all tokens

  abbrev behind_model : WrittenModel × List Lexeme → Computed Parts
  behind_model first = and_then (λ w. Ok (first.0, w)) (snapshot_outcome first.1)

  abbrev grammar_outcome : List Lexeme → Computed Parts
  grammar_outcome tokens = and_then behind_model (front_outcome text tokens)

  grammar_complained : (tokens : List Lexeme) (what : Complaint) (at : ℕ) → IsSavedGrammarComplaint text tokens what at → grammar_outcome tokens ≡ Err (what, at)
  grammar_complained tokens what at (in_model h) = ap (and_then behind_model) (front_complained text tokens what at h)
  grammar_complained tokens what at (in_snapshot model left b is wrong) =
      ap (and_then behind_model) (front_begun text tokens model left b) ∙ ap (and_then (λ w. Ok (model, w))) (snapshot_complained left what at is wrong)

  -- ---- the outcome for the document

  abbrev good_outcome : Parts → Computed Parts
  good_outcome (m, w) = unless_fault (first_fault m) (unless_bad (bad_for (numbered m) w) (Ok (m, w)))

  abbrev cut_outcome : Result (List Lexeme) ℕ → Computed Parts
  cut_outcome (Ok tokens) = and_then good_outcome (grammar_outcome tokens)
  cut_outcome (Err at) = Err (complaints.BadByte, at)

  abbrev saved_outcome : Computed Parts
  saved_outcome = cut_outcome (tokens_of text)

  spelled_outcome : (m : WrittenModel) (w : WrittenSnapshot) → SpellsSaved text m w → saved_outcome ≡ good_outcome (m, w)
  spelled_outcome m w s =
      ap cut_outcome s.cut
      ∙ ap (and_then good_outcome) (ap (and_then behind_model) (front_begun text s.tokens m s.after s.begins) ∙ ap (and_then (λ (w : WrittenSnapshot). Ok (m, w))) (snapshot_read s.after w s.ends (snapshots.decided text s.after)))

  -- a model that is accepted has no fault, and its snapshot is looked at
  accepted_outcome : (m : WrittenModel) (w : WrittenSnapshot) (g : EventGraph) → SpellsSaved text m w → Accepted m g → saved_outcome ≡ unless_bad (bad_at g w) (Ok (m, w))
  accepted_outcome m w g s accepted =
      spelled_outcome m w s ∙ ap (λ o. unless_fault o (unless_bad (bad_for (numbered m) w) (Ok (m, w)))) ((laws.accepted m).1 (g, accepted))
      ∙ ap (λ o. unless_bad (bad_for o w) (Ok (m, w))) accepted.numbers

  complaint_outcome : (what : Complaint) (at : ℕ) → IsSavedComplaint text what at → saved_outcome ≡ Err (what, at)
  complaint_outcome what at (of_saved_bytes is cut) = ap cut_outcome cut ∙ ap (λ w. Err (w, at)) (sym is)
  complaint_outcome what at (of_saved_tokens tokens cut h) = ap cut_outcome cut ∙ ap (and_then good_outcome) (grammar_complained tokens what at h)
  complaint_outcome what at (of_model m w s kind is fault) =
      spelled_outcome m w s ∙ ap (λ o. unless_fault o (unless_bad (bad_for (numbered m) w) (Ok (m, w)))) ((laws.first_is_fault m (record { at = at; kind = kind })).1 fault) ∙ ap (λ c. Err (c, at)) (sym is)
  complaint_outcome what at (of_snapshot m w s g accepted is bad) =
      accepted_outcome m w g s accepted ∙ ap (λ o. unless_bad o (Ok (m, w))) bad ∙ ap (λ c. Err (c, at)) (sym is)

  reads_outcome : (g : EventGraph) (s : SavedRun) → (r : ReadsSaved text g s) → saved_outcome ≡ Ok (r.model, r.snapshot)
  reads_outcome g s r = accepted_outcome r.model r.snapshot g r.spells r.accepted ∙ ap (λ o. unless_bad o (Ok (r.model, r.snapshot))) r.good

  -- ---- there is one

  pub one_saved_complaint : (c d : Complaint) (i j : ℕ) → IsSavedComplaint text c i → IsSavedComplaint text d j → (c ≡ d) × (i ≡ j)
  one_saved_complaint c d i j p q =
      let e : ◌≡◌ {A = Computed Parts} (Err (c, i)) (Err (d, j)) = sym (complaint_outcome c i p) ∙ complaint_outcome d j q in
      let f : ◌≡◌ {A = Complaint × ℕ} (c, i) (d, j) = cc in
      (ap (λ (x : Complaint × ℕ). x.0) f, ap (λ (x : Complaint × ℕ). x.1) f)

  pub no_saved_complaint : (c : Complaint) (i : ℕ) (g : EventGraph) (s : SavedRun) → IsSavedComplaint text c i → ReadsSaved text g s → ⊥
  no_saved_complaint c i g s p r =
      let e : ◌≡◌ {A = Computed Parts} (Err (c, i)) (Ok (r.model, r.snapshot)) = sym (complaint_outcome c i p) ∙ reads_outcome g s r in
      cc

  same_run : (g h : EventGraph) (v w : WrittenSnapshot) (s t : SavedRun) → g ≡ h → v ≡ w → saved_run g v ≡ s → saved_run h w ≡ t → s ≡ t
  same_run g h v w s t e f is so = sym is ∙ ap (λ k. saved_run k v) e ∙ ap (saved_run h) f ∙ so

  pub one_saved : (g h : EventGraph) (s t : SavedRun) → ReadsSaved text g s → ReadsSaved text h t → (g ≡ h) × (s ≡ t)
  one_saved g h s t r q =
      let e : ◌≡◌ {A = Computed Parts} (Ok (r.model, r.snapshot)) (Ok (q.model, q.snapshot)) = sym (reads_outcome g s r) ∙ reads_outcome h t q in
      let f : ◌≡◌ {A = Parts} (r.model, r.snapshot) (q.model, q.snapshot) = cc in
      let models = one_graph r.model q.model g h (ap (λ (x : Parts). x.0) f) r.accepted.numbers q.accepted.numbers in
      (models, same_run g h r.snapshot q.snapshot s t models (ap (λ (x : Parts). x.1) f) r.means q.means)

  -- ---- one of them there is

  abbrev pub SavedOrComplaint : Type 0
  SavedOrComplaint = HasSavedComplaint text ⊎ ((g : EventGraph) × (s : SavedRun) × ReadsSaved text g s)

  module _ (within : length text ≤ DOCUMENT_MAX) where
    by_goodness : (m : WrittenModel) (w : WrittenSnapshot) → SpellsSaved text m w → (g : EventGraph) → Accepted m g → (o : Option ℕ) → bad_at g w ≡ o → SavedOrComplaint
    by_goodness m w s g accepted None good = inr (g, saved_run g w, record { fits = within; model = m; snapshot = w; spells = s; accepted = accepted; good = good; means = refl })
    by_goodness m w s g accepted (Some at) bad = inl (complaints.BadSnapshot, at, of_snapshot m w s g accepted refl bad)

    by_model : (m : WrittenModel) (w : WrittenSnapshot) → SpellsSaved text m w → (o : Option StaticFault) → first_fault m ≡ o → SavedOrComplaint
    by_model m w s None e = let (g, is) = (laws.accepted m).0 e in by_goodness m w s g is (bad_at g w) refl
    by_model m w s (Some f) e = inl (complaints.Static f.kind, f.at, of_model m w s f.kind refl ((laws.first_is_fault m f).0 e))

    by_snapshot : (tokens : List Lexeme) → tokens_of text ≡ Ok tokens → (a : FrontModel tokens) → SnapshotDecision text a.left → SavedOrComplaint
    by_snapshot tokens cut a (inl spelled) = by_model a.model spelled.0 (record { tokens = tokens; cut = cut; after = a.left; begins = a.begins; ends = spelled.1 }) (first_fault a.model) refl
    by_snapshot tokens cut a (inr wrong) = inl (complaints.Unexpected, wrong.0, of_saved_tokens tokens cut (in_snapshot a.model a.left a.begins refl wrong.1))

    by_front : (tokens : List Lexeme) → tokens_of text ≡ Ok tokens → FrontModel tokens ⊎ FrontFault text tokens → SavedOrComplaint
    by_front tokens cut (inl a) = by_snapshot tokens cut a (snapshots.decided text a.left)
    by_front tokens cut (inr f) = inl (f.what, f.at, of_saved_tokens tokens cut (in_model f.is))

    by_cut : (r : Result (List Lexeme) ℕ) → tokens_of text ≡ r → SavedOrComplaint
    by_cut (Ok tokens) cut = by_front tokens cut (front_or_fault text tokens)
    by_cut (Err at) cut = inl (complaints.BadByte, at, of_saved_bytes refl cut)

    pub saved_or_complaint : SavedOrComplaint
    saved_or_complaint = by_cut (tokens_of text) refl
