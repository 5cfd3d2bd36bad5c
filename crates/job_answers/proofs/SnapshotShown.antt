-- The tokens of a good snapshot are those of the text of the saved run that it means, but for the sign of a zero.
use Rattle.std.proofs.Common.{◌≡◌, ℕ, ◌+◌, ◌*◌, ◌/◌, ◌%◌, ◌^◌, ◌<◌, nat_lt, List, [], ◌∷◌, ◌++◌, map, replicate, None, refl, sym, ap, ap₂, ◌∙◌, arith}
use Rattle.std.specs.Prelude.{codes, Ok}
use Rattle.std.specs.List.{flat_map}
use Rattle.std.specs.Option.{option_map}
use Rattle.std.proofs.lemmas.Bool.Decides.{nat_tests}
use Rattle.model_core.specs.declared.token.Word.TheVariants as words
use Rattle.model_core.specs.Text.Spellable.{IsSpellable}
use Rattle.model_core.specs.Static.OwnRules.{KeepsStaticRules}
use Rattle.model_core.specs.Text.SnapshotGrammar.{WrittenValue, WrittenNoted, WrittenSnapshot, snapshot_format, IsSnapshot}
use Rattle.model_core.specs.Text.SnapshotText.{snapshot_text}
use Rattle.model_core.specs.Saved.GoodSnapshots.{number_or_zero, signed_values, bad_at, with_taken, saved_entry, saved_run}
use Rattle.job_answers.specs.PlainKinds.{plain_kinds}
use Rattle.job_answers.proofs.ModelTerms.{EventGraph, Lexeme, LexemeKind, NameOf, Reserved, tokens_from, tokens_of, SavedRun, IsGood}
use Rattle.job_answers.proofs.GoodRuns.{good_parts, good_run}
use Rattle.job_answers.proofs.Showing.{number, AreExact, tokens-exact, exact-behind, Showing, Shows, Makes, makes, KeepsValue, keeps_value, Maybe, Each, AWordSo, ANumberSo, shows-yields, shows-then, shows-past, shows-maybe, shows-many, shows-this_name, shows-reserved, shows-number}
use Rattle.job_answers.proofs.SnapshotKinds.{streams_kinds, values_kinds, noted_kinds, events_kinds, run_kinds, tested-number, tested-value, AStreamSo, shows-stream, streams-shown, AValueSo, shows-value, values-shown, ANotedSo, shows-noted, noted-shown, APendingSo, shows-pending, events-shown}

-- each part, from the kinds before it to those after it
pub record SnapshotSo (k : List LexemeKind) (w : WrittenSnapshot) (j : List LexemeKind) : Type 0 where
  pub after_word : List LexemeKind
  pub after_seed_word : List LexemeKind
  pub after_seed : List LexemeKind
  pub after_rest : List LexemeKind
  pub after_clock_word : List LexemeKind
  pub after_clock : List LexemeKind
  pub after_events_word : List LexemeKind
  pub after_events : List LexemeKind
  pub after_streams : List LexemeKind
  pub after_values : List LexemeKind
  pub after_noted : List LexemeKind
  pub after_pending : List LexemeKind
  pub word : k ≡ NameOf (codes "snapshot") ∷ after_word
  pub seed_word : after_word ≡ NameOf (codes "seed") ∷ after_seed_word
  pub seed : ANumberSo after_seed_word w.seed after_seed
  pub rest : ANumberSo after_seed w.seed_rest after_rest
  pub clock_word : after_rest ≡ Reserved words.Clk ∷ after_clock_word
  pub clock : ANumberSo after_clock_word w.clock after_clock
  pub events_word : after_clock ≡ NameOf (codes "events") ∷ after_events_word
  pub events : ANumberSo after_events_word w.events after_events
  pub streams : Each AStreamSo after_events w.streams after_streams
  pub values : Each AValueSo after_streams w.values after_values
  pub noted : Maybe ANotedSo after_values w.noted after_noted
  pub pending : Each APendingSo after_noted w.pending after_pending
  pub end : after_pending ≡ Reserved words.End ∷ j

abbrev AName : List ℕ → Showing ℕ
AName bytes = AWordSo (NameOf bytes)

shows-snapshot : Shows snapshot_format SnapshotSo
unfolding snapshot_format
shows-snapshot =
    shows-then (shows-then (shows-then (shows-then (shows-then (shows-then (shows-then (shows-then (shows-then (shows-then (shows-then (shows-then (shows-past (shows-yields _ (KeepsValue (AName (codes "snapshot")) (Makes (AName (codes "seed")) (Makes ANumberSo (Makes ANumberSo (Makes (AWordSo (Reserved words.Clk)) (Makes ANumberSo (Makes (AName (codes "events")) (Makes ANumberSo (Makes (Each AStreamSo) (Makes (Each AValueSo) (Makes (Maybe ANotedSo) (Makes (Each APendingSo) (Makes (AWordSo (Reserved words.End)) SnapshotSo)))))))))))))
    (λ k. keeps_value (λ at i1 word. makes (λ seed_at i2 seed_word. makes (λ seed i3 seed_is. makes (λ rest i4 rest_is. makes (λ clock_at i5 clock_word. makes (λ clock i6 clock_is. makes (λ events_at i7 events_word. makes (λ events i8 events_is. makes (λ streams i9 streams_are. makes (λ values i10 values_are. makes (λ noted i11 noted_is. makes (λ pending i12 pending_are. makes (λ end_at i13 end_is. record { after_word = i1; after_seed_word = i2; after_seed = i3; after_rest = i4; after_clock_word = i5; after_clock = i6; after_events_word = i7; after_events = i8; after_streams = i9; after_values = i10; after_noted = i11; after_pending = i12; word = word; seed_word = seed_word; seed = seed_is; rest = rest_is; clock_word = clock_word; clock = clock_is; events_word = events_word; events = events_is; streams = streams_are; values = values_are; noted = noted_is; pending = pending_are; end = end_is })))))))))))))))
    (shows-this_name (codes "snapshot"))) (shows-this_name (codes "seed"))) shows-number) shows-number) (shows-reserved words.Clk)) shows-number) (shows-this_name (codes "events"))) shows-number) (shows-many AStreamSo shows-stream)) (shows-many AValueSo shows-value)) (shows-maybe ANotedSo shows-noted)) (shows-many APendingSo shows-pending)) (shows-reserved words.End)

quotient : (a b : ℕ) → b < 2 ^ 32 → a ≡ (a * 2 ^ 32 + b) / 2 ^ 32
quotient a b less = omega (arith, less)

remainder : (a b : ℕ) → b < 2 ^ 32 → b ≡ (a * 2 ^ 32 + b) % 2 ^ 32
remainder a b less = omega (arith, less)

snapshot-kinds : (g : EventGraph) (k : List LexemeKind) (w : WrittenSnapshot) (j : List LexemeKind) → SnapshotSo k w j → bad_at g w ≡ None → j ≡ [] → k ≡ run_kinds g (saved_run g w)
snapshot-kinds g k w j h none nothing =
    let parts = good_parts g w none in
    let rest_below : number_or_zero w.seed_rest < 2 ^ 32 = (let e = tested-value (λ n. nat_lt n (2 ^ 32)) w.seed_rest parts.seed_rest in grind (arith, nat_tests, e)) in
    let from_end = h.end ∙ ap (λ l. Reserved words.End ∷ l) nothing in
    let from_pending = events-shown g (number_or_zero w.clock) h.after_noted w.pending h.after_pending h.pending parts.pending ∙ ap (λ l. events_kinds g (number_or_zero w.clock) (map (saved_entry g (number_or_zero w.clock)) w.pending) ++ l) from_end in
    let from_noted = noted-shown g h.after_values w.noted h.after_noted h.noted parts.noted ∙ ap (λ l. noted_kinds (option_map (λ (n : WrittenNoted). signed_values n.values) w.noted) ++ l) from_pending in
    let from_values = values-shown h.after_streams g.variables w.values h.after_values h.values parts.values parts.enough ∙ ap (λ l. values_kinds g.variables (flat_map (λ (v : WrittenValue). signed_values v.values) w.values) ++ l) from_noted in
    let from_streams = streams-shown h.after_events w.streams h.after_streams h.streams parts.streams ∙ ap (λ l. streams_kinds 0 (with_taken w.streams (replicate 64 0)) ++ l) from_values in
    let from_events = h.events_word ∙ ap (λ l. NameOf (codes "events") ∷ l) (tested-number _ w.events h.after_events_word h.after_events h.events parts.events ∙ ap (λ l. number (number_or_zero w.events) ∷ l) from_streams) in
    let from_clock = h.clock_word ∙ ap (λ l. Reserved words.Clk ∷ l) (tested-number _ w.clock h.after_clock_word h.after_clock h.clock parts.clock ∙ ap (λ l. number (number_or_zero w.clock) ∷ l) from_events) in
    let from_rest = tested-number _ w.seed_rest h.after_seed h.after_rest h.rest parts.seed_rest ∙ ap₂ (λ n l. number n ∷ l) (remainder (number_or_zero w.seed) (number_or_zero w.seed_rest) rest_below) from_clock in
    let from_seed = tested-number _ w.seed h.after_seed_word h.after_seed h.seed parts.seed ∙ ap₂ (λ n l. number n ∷ l) (quotient (number_or_zero w.seed) (number_or_zero w.seed_rest) rest_below) from_rest in
    h.word ∙ ap (λ l. NameOf (codes "snapshot") ∷ l) (h.seed_word ∙ ap (λ l. NameOf (codes "seed") ∷ l) from_seed)

kinds-of : (g : EventGraph) (tokens : List Lexeme) (w : WrittenSnapshot) → AreExact tokens → IsSnapshot tokens w → bad_at g w ≡ None → plain_kinds tokens ≡ run_kinds g (saved_run g w)
kinds-of g tokens w exact is none =
    let so = shows-snapshot.run tokens w [] exact is in
    snapshot-kinds g (plain_kinds tokens) w (plain_kinds []) so.0 none refl

-- what the law of texts of saved runs says
abbrev pub ReadBack : Type 0
ReadBack = (g : EventGraph) (s : SavedRun) (at : ℕ) → KeepsStaticRules g → IsSpellable g → IsGood g s
    → (tokens : List Lexeme) × (w : WrittenSnapshot) × (tokens_from at 0 (snapshot_text g s) ≡ Ok tokens) × IsSnapshot tokens w × (bad_at g w ≡ None) × (saved_run g w ≡ s)

pub printed-again : ReadBack → (g : EventGraph) (text : List ℕ) (front behind : List Lexeme) (w : WrittenSnapshot) (at : ℕ) → KeepsStaticRules g → IsSpellable g → tokens_of text ≡ Ok (front ++ behind) → IsSnapshot behind w → bad_at g w ≡ None
    → (printed : List Lexeme) × (tokens_from at 0 (snapshot_text g (saved_run g w)) ≡ Ok printed) × (plain_kinds printed ≡ plain_kinds behind)
printed-again reads_back g text front behind w at kept spellable cut is none =
    let s = saved_run g w in
    let (printed, again, cut_again, is_again, none_again, means) = reads_back g s at kept spellable (good_run g w none) in
    let first = kinds-of g behind w (exact-behind front behind (tokens-exact 0 text (front ++ behind) cut)) is none in
    let second = kinds-of g printed again (tokens-exact at (snapshot_text g s) printed cut_again) is_again none_again in
    (printed, cut_again, second ∙ ap (run_kinds g) means ∙ sym first)
