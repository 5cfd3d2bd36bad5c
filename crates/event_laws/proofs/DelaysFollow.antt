-- The delay of an edge has its value, and its word is taken; or its check fails.
use Rattle.std.proofs.Common.{◌≡◌, ℕ, ℤ, pos, negsuc, ◌-ℤ◌, int_le, true, cond, List, [], ◌∷◌, length, Some, Ok, Err, inl, inr, refl, sym, ap, ◌∙◌, arith}
use Rattle.std.proofs.lemmas.Int.{ints}
use Rattle.sig_base.specs.declared.fault.FaultKind.{FaultKind}
use Rattle.sig_base.specs.declared.fault.FaultKind.TheVariants as faults
use Rattle.sig_base.specs.Stream.{word}
use Rattle.model_core.specs.EventGraph.{EventGraph, Delay, Fixed, Drawn}
use Rattle.model_core.specs.Run.State.{State}
use Rattle.model_core.specs.Run.Value.{OrFault, is_one, value_of}
use Rattle.model_core.specs.Run.Value as run
use Rattle.model_core.specs.Run.Changes.{taken_from, one_more, drawn_value}
use Rattle.model_core.specs.Run.Edges.{delay_ticks, Waiting, delay_of}
use Rattle.tree_laws.specs.LinearSums.{WordAtom}
use Rattle.tree_laws.specs.SumValues.{Valuation, atom_value}
use Rattle.tree_laws.specs.Limits.{◌>>=◌}
use Rattle.tree_laws.specs.SumEnds.{Ground}
use Rattle.tree_laws.specs.Meaning.{Meets}
use Rattle.tree_laws.specs.Trees.{CaseTree, tree_value}
use Rattle.tree_laws.specs.TreeConditions.{at_most_tree, opposite_tree, read_tree}
use Rattle.tree_laws.specs.Valued.{Noted, Valued, SoFar, note, valued}
use Rattle.tree_laws.specs.ChecksHold.{Fine, FailedIn}
use Rattle.tree_laws.specs.ValuesAgree.{Agrees}
use Rattle.tree_laws.proofs.Gives.{Gives, gives_some, then_gives, gives_weaker}
use Rattle.tree_laws.proofs.CasesOfTrees.{Has}
use Rattle.tree_laws.proofs.ConditionTrees.{truth, at_most-value, opposite-value, read_tree-value}
use Rattle.tree_laws.proofs.NotedChecks.{skip, note-failed, note-fine, note-fails}
use Rattle.tree_laws.proofs.StoppedTrees.{expression-stopped}
use Rattle.event_laws.specs.Making.{WordTaken, with_words}
use Rattle.event_laws.specs.EdgesFit.{DelayFits}
use Rattle.event_laws.specs.EdgesMade.{DelayMade, delay_checked, delay_made}
use Rattle.event_laws.specs.WordsAre.{taken_after, WordsAre}
use Rattle.event_laws.proofs.ReachedTogether.{Reaches, reach, HasValue}
use Rattle.event_laws.proofs.ListsValued.{expression-idle, expression-reached}
use Rattle.event_laws.proofs.WordsMeet.{words-meet}

below_zero : (k : ℕ) → int_le (negsuc k) (negsuc 0) ≡ true
below_zero k = grind (arith, ints)

-- the words after a delay
abbrev pub words_of_delay : CaseTree → Delay → List WordTaken → List WordTaken
words_of_delay guard (Fixed e) words = words
words_of_delay guard (Drawn stream choice) words = record { stream = stream; guard = guard; choice = choice } ∷ words

module _ (v : Valuation) (g : EventGraph) (base : Ground) (so_far : SoFar) where
  module _ (now : Ground) (meets : Meets now v) (guard t : CaseTree) (words : List WordTaken) where
    checked_stopped : (f : FaultKind) (n : Noted) → FailedIn v f n → Gives (delay_checked g base so_far now guard t n words) (λ (d : DelayMade). FailedIn v f d.noted)
    checked_stopped f n failed =
        let Q : DelayMade → Type 0 = λ d. FailedIn v f d.noted in
        skip Q (at_most_tree now n.known t (negsuc 0)) _ (λ below. skip Q (opposite_tree now n.known below) _ (λ c.
        then_gives (FailedIn v f) Q (note now faults.NegativeDelay guard c n) _ (note-failed v now meets f faults.NegativeDelay guard c n failed) (λ m k. gives_some Q _ k)))

    checked_idle : (n : Noted) → Fine v n → tree_value v guard ≡ pos 0 → Gives (delay_checked g base so_far now guard t n words) (λ (d : DelayMade). Fine v d.noted × (d.words ≡ words))
    checked_idle n fine zero =
        let Q : DelayMade → Type 0 = λ d. Fine v d.noted × (d.words ≡ words) in
        skip Q (at_most_tree now n.known t (negsuc 0)) _ (λ below. skip Q (opposite_tree now n.known below) _ (λ c.
        then_gives (Fine v) Q (note now faults.NegativeDelay guard c n) _ (note-fine v now meets faults.NegativeDelay guard c n fine (inl zero)) (λ m k. gives_some Q _ (k, refl))))

    -- the ticks of a delay, beside its tree
    abbrev IsDelay : ℕ → DelayMade → Type 0
    IsDelay ticks d = (tree_value v d.tree ≡ pos ticks) × (d.words ≡ words)

    checked_reached : (n : Noted) → Fine v n → tree_value v guard ≡ pos 1 → (x : ℤ) → tree_value v t ≡ x → Gives (delay_checked g base so_far now guard t n words) (Reaches v (λ (d : DelayMade). d.noted) IsDelay (delay_ticks x))
    checked_reached n fine one x is =
        then_gives (Has v (truth (int_le (tree_value v t) (negsuc 0)))) (Reaches v (λ (d : DelayMade). d.noted) IsDelay (delay_ticks x)) (at_most_tree now n.known t (negsuc 0)) _ (at_most-value v now meets (negsuc 0) n.known fine.holds t) (λ below at_below.
        then_gives (Has v (pos 1 -ℤ tree_value v below)) (Reaches v (λ (d : DelayMade). d.noted) IsDelay (delay_ticks x)) (opposite_tree now n.known below) _ (opposite-value v now meets n.known fine.holds below) (λ c at_c.
        by x is c (at_c ∙ ap (λ b. pos 1 -ℤ b) (at_below ∙ ap (λ y. truth (int_le y (negsuc 0))) is)))) where
          by : (x : ℤ) → tree_value v t ≡ x → (c : CaseTree) → tree_value v c ≡ pos 1 -ℤ truth (int_le x (negsuc 0))
              → Gives (note now faults.NegativeDelay guard c n >>= λ m. Some (record { tree = t; noted = m; words = words })) (Reaches v (λ (d : DelayMade). d.noted) IsDelay (delay_ticks x))
          by (pos k) is c holds =
              then_gives (Fine v) (Reaches v (λ (d : DelayMade). d.noted) IsDelay (Ok k)) (note now faults.NegativeDelay guard c n) _ (note-fine v now meets faults.NegativeDelay guard c n fine (inr holds)) (λ m h. gives_some (Reaches v (λ (d : DelayMade). d.noted) IsDelay (Ok k)) _ (h, (is, refl)))
          by (negsuc k) is c holds =
              then_gives (FailedIn v faults.NegativeDelay) (Reaches v (λ (d : DelayMade). d.noted) IsDelay (Err faults.NegativeDelay)) (note now faults.NegativeDelay guard c n) _ (note-fails v now meets faults.NegativeDelay guard c n fine one (holds ∙ ap (λ b. pos 1 -ℤ truth b) (below_zero k))) (λ m h. gives_some (Reaches v (λ (d : DelayMade). d.noted) IsDelay (Err faults.NegativeDelay)) _ h)

  checked_words : (now : Ground) (guard t : CaseTree) (words : List WordTaken) (n : Noted) → Gives (delay_checked g base so_far now guard t n words) (λ (d : DelayMade). d.words ≡ words)
  checked_words now guard t words n =
      let Q : DelayMade → Type 0 = λ d. d.words ≡ words in
      skip Q (at_most_tree now n.known t (negsuc 0)) _ (λ below. skip Q (opposite_tree now n.known below) _ (λ c. skip Q (note now faults.NegativeDelay guard c n) _ (λ m. gives_some Q _ refl)))

  pub delay-words : (guard : CaseTree) (words : List WordTaken) (delay : Delay) (n : Noted) → Gives (delay_made g base so_far guard delay n words) (λ (d : DelayMade). d.words ≡ words_of_delay guard delay words)
  unfolding delay_made
  delay-words guard words (Fixed e) n = skip (λ (d : DelayMade). d.words ≡ words) (valued (with_words g base words) g so_far e guard n) _ (λ w. checked_words _ guard w.tree words w.noted)
  delay-words guard words (Drawn stream choice) n =
      let w : WordTaken = record { stream = stream; guard = guard; choice = choice } in
      skip (λ (d : DelayMade). d.words ≡ w ∷ words) (read_tree (with_words g base (w ∷ words)) n.known (WordAtom (length words))) _ (λ t. checked_words _ guard t (w ∷ words) n)

  word_read : (n : ℕ) (x : ℤ) → v.word n ≡ x → atom_value v (WordAtom n) ≡ x
  unfolding atom_value
  word_read n x e = e

  module _ (seed : ℕ) (taken : List ℕ) (meets : Meets (with_words g base []) v) (guard : CaseTree) (words : List WordTaken) where
    pub delay-stopped : (delay : Delay) → WordsAre v g seed taken (words_of_delay guard delay words) → (f : FaultKind) (n : Noted) → FailedIn v f n → Gives (delay_made g base so_far guard delay n words) (λ (d : DelayMade). FailedIn v f d.noted)
    unfolding delay_made
    delay-stopped (Fixed e) are f n failed =
        let now = words-meet v g base meets seed taken words are in
        then_gives (λ (w : Valued). FailedIn v f w.noted) (λ (d : DelayMade). FailedIn v f d.noted) (valued (with_words g base words) g so_far e guard n) _ (expression-stopped v _ now g so_far f e guard n failed)
        (λ w failed. checked_stopped _ now guard w.tree words f w.noted failed)
    delay-stopped (Drawn stream choice) are f n failed =
        let w : WordTaken = record { stream = stream; guard = guard; choice = choice } in
        skip (λ (d : DelayMade). FailedIn v f d.noted) (read_tree (with_words g base (w ∷ words)) n.known (WordAtom (length words))) _
        (λ t. checked_stopped _ (words-meet v g base meets seed taken (w ∷ words) are) guard t (w ∷ words) f n failed)

    module _ (s : State) (clk : ℕ) (agrees : Agrees v g s clk so_far) where
      pub delay-idle : (delay : Delay) → DelayFits g s clk delay → WordsAre v g seed taken (words_of_delay guard delay words) → (n : Noted) → Fine v n → tree_value v guard ≡ pos 0
          → Gives (delay_made g base so_far guard delay n words) (λ (d : DelayMade). Fine v d.noted × (d.words ≡ words_of_delay guard delay words))
      unfolding delay_made
      delay-idle (Fixed e) fits are n fine zero =
          let now = words-meet v g base meets seed taken words are in
          then_gives (λ (w : Valued). Fine v w.noted) (λ (d : DelayMade). Fine v d.noted × (d.words ≡ words)) (valued (with_words g base words) g so_far e guard n) _ (expression-idle v _ now g s clk so_far agrees e fits guard n fine zero)
          (λ w fine. checked_idle _ now guard w.tree words w.noted fine zero)
      delay-idle (Drawn stream choice) fits are n fine zero =
          let w : WordTaken = record { stream = stream; guard = guard; choice = choice } in
          skip (λ (d : DelayMade). Fine v d.noted × (d.words ≡ w ∷ words)) (read_tree (with_words g base (w ∷ words)) n.known (WordAtom (length words))) _
          (λ t. checked_idle _ (words-meet v g base meets seed taken (w ∷ words) are) guard t (w ∷ words) n fine zero)

      -- the ticks and the words of a run, beside what is made
      abbrev pub IsWaiting : Delay → Waiting → DelayMade → Type 0
      IsWaiting delay wait d = (tree_value v d.tree ≡ pos wait.ticks) × ((wait.taken ≡ taken_after v taken d.words) × (d.words ≡ words_of_delay guard delay words))

      with_taken : (ws : List WordTaken) (r : OrFault ℕ) (now : List ℕ) → now ≡ taken_after v taken ws → (d : DelayMade)
          → Reaches v (λ (d : DelayMade). d.noted) (λ ticks d. (tree_value v d.tree ≡ pos ticks) × (d.words ≡ ws)) r d
          → Reaches v (λ (d : DelayMade). d.noted) (λ (wait : Waiting) (d : DelayMade). (tree_value v d.tree ≡ pos wait.ticks) × ((wait.taken ≡ taken_after v taken d.words) × (d.words ≡ ws))) (run.◌>>=◌ r (λ n. Ok (record { ticks = n; taken = now }))) d
      with_taken ws (Ok ticks) now counted d (fine, (is, same)) = (fine, (is, (counted ∙ ap (taken_after v taken) (sym same), same)))
      with_taken ws (Err f) now counted d failed = failed

      pub delay-reached : (delay : Delay) → DelayFits g s clk delay → WordsAre v g seed taken (words_of_delay guard delay words) → (now : List ℕ) → now ≡ taken_after v taken words → (n : Noted) → Fine v n → tree_value v guard ≡ pos 1
          → Gives (delay_made g base so_far guard delay n words) (Reaches v (λ (d : DelayMade). d.noted) (IsWaiting delay) (delay_of g seed s clk delay now))
      unfolding delay_made
      delay-reached (Fixed e) fits are now counted n fine one =
          let meet = words-meet v g base meets seed taken words are in
          reach v (λ (w : Valued). w.noted) (λ (d : DelayMade). d.noted) (HasValue v) (IsWaiting (Fixed e)) (valued (with_words g base words) g so_far e guard n) _ (value_of g s clk e) _ (expression-reached v _ meet g s clk so_far agrees e fits guard n fine one)
          (λ w f failed. checked_stopped _ meet guard w.tree words f w.noted failed)
          (λ w x at_x fine is. gives_weaker (Reaches v (λ (d : DelayMade). d.noted) (IsWaiting (Fixed e)) (run.◌>>=◌ (delay_ticks x) (λ n. Ok (record { ticks = n; taken = now })))) _ (checked_reached _ meet guard w.tree words w.noted fine one x is)
          (λ d done. with_taken words (delay_ticks x) now counted d done))
      delay-reached (Drawn stream choice) fits are now counted n fine one =
          let w : WordTaken = record { stream = stream; guard = guard; choice = choice } in
          let meet = words-meet v g base meets seed taken (w ∷ words) are in
          let x = drawn_value g choice (word seed stream (taken_from now stream)) in
          let picked : v.word (length words) ≡ x = are.0.picked one ∙ ap (λ (ts : List ℕ). drawn_value g choice (word seed stream (taken_from ts stream))) (sym counted) in
          let one_taken : one_more now stream ≡ taken_after v taken (w ∷ words) = ap (λ ts. one_more ts stream) counted ∙ sym (ap (λ y. cond (is_one y) (one_more (taken_after v taken words) stream) (taken_after v taken words)) one) in
          then_gives (Has v x) (Reaches v (λ (d : DelayMade). d.noted) (IsWaiting (Drawn stream choice)) (run.◌>>=◌ (delay_ticks x) (λ n. Ok (record { ticks = n; taken = one_more now stream })))) (read_tree (with_words g base (w ∷ words)) n.known (WordAtom (length words))) _
          (gives_weaker (Has v x) _ (read_tree-value v _ meet n.known fine.holds (WordAtom (length words))) (λ t e. e ∙ word_read (length words) x picked))
          (λ t is. gives_weaker (Reaches v (λ (d : DelayMade). d.noted) (IsWaiting (Drawn stream choice)) (run.◌>>=◌ (delay_ticks x) (λ n. Ok (record { ticks = n; taken = one_more now stream })))) _ (checked_reached _ meet guard t (w ∷ words) n fine one x is)
          (λ d done. with_taken (w ∷ words) (delay_ticks x) (one_more now stream) one_taken d done))
