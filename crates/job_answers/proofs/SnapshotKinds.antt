-- The kinds of the tokens of a good snapshot, by the saved run that it means.
use Rattle.std.proofs.Common.{◌≡◌, ℕ, zero, suc, ◌+◌, ◌-◌, ◌/◌, ◌%◌, ◌^◌, ◌<◌, ◌≤◌, ℤ, pos, negsuc, neg_ℤ, Bool, true, false, not, ◌&&◌, cond, nat_lt, List, [], ◌∷◌, ◌++◌, length, map, take, drop, replicate, slice_set, Option, Some, None, unwrap_or, refl, sym, ap, ap₂, ◌∙◌, subst, arith, append_assoc, append-nil}
use Rattle.std.specs.Prelude.{codes, slice_get}
use Rattle.std.specs.List.{flat_map, list_all}
use Rattle.std.specs.Option.{option_map, option_map_or, is_some}
use Rattle.std.proofs.lemmas.Bool.Decides.{nat_tests}
use Rattle.std.proofs.lemmas.List.{length-replicate, length-append}
use Rattle.std.proofs.Math.Seq.{take-append_seam, drop-append_seam}
use lib.Pointwise.{bytes_decides}
use Rattle.model_core.specs.declared.token.Word.TheVariants as words
use Rattle.model_core.specs.declared.token.Symbol.TheVariants as symbols
use Rattle.model_core.specs.Run.State.{cell_count, within, in_ranges}
use Rattle.model_core.specs.Run.Pending.{Entry}
use Rattle.model_core.specs.Text.Numbering as numbering
use Rattle.model_core.specs.Text.Numbering.{◌>>=◌, natural_of}
use Rattle.model_core.specs.Text.Format.{separated}
use Rattle.model_core.specs.Text.Language.{signed_format}
use Rattle.model_core.specs.Text.SnapshotGrammar.{WrittenStream, WrittenValue, WrittenNoted, WrittenCarried, WrittenPending, stream_format, value_format, noted_format, exact_format, carried_format, carries_format, pending_format}
use Rattle.model_core.specs.Saved.Cells.{cell_variables, variables_watched}
use Rattle.model_core.specs.Saved.GoodSnapshots.{number_or_zero, is_at_most, from_one_to, signed_values, all_known, fit_variables, carried_of, is_wide, stream_parts, value_parts, noted_parts, has_parameters, pending_part, with_taken, saved_entry}
use Rattle.model_core.proofs.BothTrue.{and_first, and_second}
use Rattle.job_answers.specs.PlainKinds.{before_kinds}
use Rattle.job_answers.proofs.ModelTerms.{EventGraph, EventVertex, Variable, LexemeKind, NameOf, Reserved, Mark, same_bytes, WrittenNumber, WrittenSigned, vertex_name, place_of_vertex, SavedRun}
use Rattle.job_answers.proofs.GoodRuns.{AllGood}
use Rattle.job_answers.proofs.Showing.{number, Showing, Shows, Makes, makes, KeepsValue, keeps_value, Behind, Maybe, Each, AMarkSo, ANameSo, ANumberSo, AnExactSo, shows-then, shows-made, shows-past, shows-behind, shows-as, shows-either, shows-maybe, shows-many, shows-this_name, shows-mark, shows-name, shows-number, shows-exact}

-- ---- the kinds of the tokens of a saved run's text

abbrev pub signed_kinds : ℤ → List LexemeKind
signed_kinds (pos n) = number n ∷ []
signed_kinds (negsuc n) = Mark symbols.Minus ∷ number (suc n) ∷ []

abbrev pub others_kinds : List ℤ → List LexemeKind
others_kinds [] = []
others_kinds (x ∷ xs) = Mark symbols.Comma ∷ (signed_kinds x ++ others_kinds xs)

abbrev pub list_kinds : List ℤ → List LexemeKind
list_kinds [] = []
list_kinds (x ∷ xs) = signed_kinds x ++ others_kinds xs

abbrev pub stream_kinds : ℕ → ℕ → List LexemeKind
stream_kinds stream zero = []
stream_kinds stream (suc n) = NameOf (codes "stream") ∷ number stream ∷ number (suc n) ∷ []

abbrev pub streams_kinds : ℕ → List ℕ → List LexemeKind
streams_kinds stream [] = []
streams_kinds stream (n ∷ taken) = stream_kinds stream n ++ streams_kinds (suc stream) taken

abbrev pub values_kinds : List Variable → List ℤ → List LexemeKind
values_kinds [] values = []
values_kinds (v ∷ variables) values = NameOf (codes "value") ∷ NameOf v.name ∷ (list_kinds (take (cell_count v) values) ++ values_kinds variables (drop (cell_count v) values))

abbrev pub noted_kinds : Option (List ℤ) → List LexemeKind
noted_kinds None = []
noted_kinds (Some values) = NameOf (codes "noted") ∷ list_kinds values

abbrev pub carried_kinds : List ℤ → List LexemeKind
carried_kinds [] = []
carried_kinds (x ∷ xs) = Mark symbols.OpenParenthesis ∷ (list_kinds (x ∷ xs) ++ Mark symbols.CloseParenthesis ∷ [])

abbrev pub event_kinds : EventGraph → ℕ → Entry → List LexemeKind
event_kinds g clock e = NameOf (codes "pending") ∷ number (e.time - clock) ∷ number e.priority ∷ NameOf (vertex_name g e.vertex) ∷ carried_kinds e.values

abbrev pub events_kinds : EventGraph → ℕ → List Entry → List LexemeKind
events_kinds g clock [] = []
events_kinds g clock (e ∷ pending) = event_kinds g clock e ++ events_kinds g clock pending

abbrev pub run_kinds : EventGraph → SavedRun → List LexemeKind
run_kinds g s =
    NameOf (codes "snapshot") ∷ NameOf (codes "seed") ∷ number (s.seed / 2 ^ 32) ∷ number (s.seed % 2 ^ 32) ∷ Reserved words.Clk ∷ number s.clock ∷ NameOf (codes "events") ∷ number s.events
    ∷ (streams_kinds 0 s.taken ++ (values_kinds g.variables s.values ++ (noted_kinds s.noted ++ (events_kinds g s.clock s.pending ++ Reserved words.End ∷ []))))

-- ---- numbers

natural-value : (w : WrittenNumber) (m : ℕ) → numbering.natural w ≡ Some m → w.value ≡ Some (pos m)
natural-value w m e = by w.value e
  where
    by : (v : Option ℤ) → (v >>= natural_of) ≡ Some m → v ≡ Some (pos m)
    by None h = absurd cc
    by (Some (pos n)) h = let is : n ≡ m = cc in ap (λ k. Some (pos k)) is
    by (Some (negsuc n)) h = absurd cc

-- a number that a test knows is written as its token
pub tested-number : (test : ℕ → Bool) (w : WrittenNumber) (k j : List LexemeKind) → ANumberSo k w j → option_map_or test (numbering.natural w) false ≡ true → k ≡ number (number_or_zero w) ∷ j
tested-number test w k j so good = by (numbering.natural w) refl good
  where
    same_pos : (x : ℤ) (n m : ℕ) → pos m ≡ x → x ≡ pos n → n ≡ m
    same_pos x n m e h = cc

    by : (o : Option ℕ) → numbering.natural w ≡ o → option_map_or test o false ≡ true → k ≡ number (unwrap_or o 0) ∷ j
    by None e h = absurd cc
    by (Some m) e h =
        let s = so (pos m) (natural-value w m e) in
        s.2 ∙ ap (λ n. number n ∷ j) (same_pos (pos m) s.0 m refl s.1)

pub tested-value : (test : ℕ → Bool) (w : WrittenNumber) → option_map_or test (numbering.natural w) false ≡ true → test (number_or_zero w) ≡ true
tested-value test w good = by (numbering.natural w) good
  where
    by : (o : Option ℕ) → option_map_or test o false ≡ true → test (unwrap_or o 0) ≡ true
    by None h = absurd cc
    by (Some m) h = h

-- ---- values with a sign

abbrev ASignedSo : Showing WrittenSigned
ASignedSo k s j = (z : ℤ) → numbering.signed s ≡ Some z → k ≡ signed_kinds z ++ j

minus-number : (n : ℕ) (j : List LexemeKind) → before_kinds (Mark symbols.Minus) (number n ∷ j) ≡ signed_kinds (neg_ℤ (pos n)) ++ j
minus-number zero j = refl
minus-number (suc n) j = refl

with_sign-value : (negative : Bool) (o : Option ℤ) (z : ℤ) → option_map (numbering.with_sign negative) o ≡ Some z → (x : ℤ) × (o ≡ Some x) × (numbering.with_sign negative x ≡ z)
with_sign-value negative None z e = absurd cc
with_sign-value negative (Some x) z e = let h : numbering.with_sign negative x ≡ z = cc in (x, refl, h)

shows-signed : Shows signed_format ASignedSo
unfolding signed_format
shows-signed =
    shows-either
    (shows-then (shows-made (λ at n. record { at = at; negative = true; number = n }) (Makes ANumberSo ASignedSo) (shows-mark symbols.Minus) (λ k at i opened. makes (λ n j so z e.
    let numbers = with_sign-value true n.value z e in
    let s = so numbers.0 numbers.1 in
    opened ∙ ap (before_kinds (Mark symbols.Minus)) s.2 ∙ minus-number s.0 j ∙ ap (λ x. signed_kinds x ++ j) (ap neg_ℤ (sym s.1) ∙ numbers.2)))) shows-number)
    (shows-made (λ (n : WrittenNumber). record { at = n.at; negative = false; number = n }) ASignedSo shows-number (λ k n j so z e.
    let numbers = with_sign-value false n.value z e in
    let s = so numbers.0 numbers.1 in
    s.2 ∙ ap (λ x. signed_kinds x ++ j) (sym s.1 ∙ numbers.2)))

abbrev ACarriedSo : Showing WrittenCarried
ACarriedSo k c j = k ≡ signed_kinds (carried_of c) ++ j

shows-carried : Shows carried_format ACarriedSo
unfolding carried_format exact_format
shows-carried =
    shows-either
    (shows-then (shows-made (λ at n. record { negative = true; exact = n }) (Makes AnExactSo ACarriedSo) (shows-mark symbols.Minus) (λ k at i opened. makes (λ n j e. opened ∙ ap (before_kinds (Mark symbols.Minus)) e ∙ minus-number n j))) shows-exact)
    (shows-made (λ n. record { negative = false; exact = n }) ACarriedSo shows-exact (λ k n j e. e))

-- ---- lists with commas

-- one or more, each after a comma but the first
pub record Listed {A : Type 0} (R : Showing A) (k : List LexemeKind) (xs : List A) (j : List LexemeKind) : Type 0 where
  pub first : A
  pub others : List A
  pub are : first ∷ others ≡ xs
  pub between : List LexemeKind
  pub begins : R k first between
  pub goes_on : Each (Behind (AMarkSo symbols.Comma) R) between others j

shows-listed : {A : Type 0} {p : Rattle.model_core.specs.Text.Expressions.LanguageFormat A} (R : Showing A) → Shows p R → Shows (separated p) (Listed R)
shows-listed R part =
    shows-then (shows-made (λ x xs. x ∷ xs) (Makes (Each (Behind (AMarkSo symbols.Comma) R)) (Listed R)) part (λ k x i h. makes (λ xs j q. record { first = x; others = xs; are = refl; between = i; begins = h; goes_on = q })))
    (shows-many (Behind (AMarkSo symbols.Comma) R) (shows-behind (shows-mark symbols.Comma) part))

signed-value : (s : WrittenSigned) → is_some (numbering.signed s) ≡ true → numbering.signed s ≡ Some (unwrap_or (numbering.signed s) (pos 0))
signed-value s h = by (numbering.signed s) h
  where
    by : (o : Option ℤ) → is_some o ≡ true → o ≡ Some (unwrap_or o (pos 0))
    by None h = absurd cc
    by (Some z) h = refl

others-signed : (k : List LexemeKind) (ws : List WrittenSigned) (j : List LexemeKind) → Each (Behind (AMarkSo symbols.Comma) ASignedSo) k ws j → all_known ws ≡ true → k ≡ others_kinds (signed_values ws) ++ j
others-signed k [] j each numbers = each
others-signed k (w ∷ ws) j each numbers =
    let z = unwrap_or (numbering.signed w) (pos 0) in
    let here = each.1.second z (signed-value w (and_first _ _ numbers)) in
    let later = others-signed each.0 ws j each.2 (and_second _ _ numbers) in
    each.1.first ∙ ap (before_kinds (Mark symbols.Comma)) (here ∙ ap (λ l. signed_kinds z ++ l) later)
    ∙ ap (λ l. Mark symbols.Comma ∷ l) (sym (append_assoc (signed_kinds z) (others_kinds (signed_values ws)) j))

first-signed : (k : List LexemeKind) (w : WrittenSigned) (between : List LexemeKind) (ws : List WrittenSigned) (j : List LexemeKind) → ASignedSo k w between → Each (Behind (AMarkSo symbols.Comma) ASignedSo) between ws j → all_known (w ∷ ws) ≡ true → k ≡ list_kinds (signed_values (w ∷ ws)) ++ j
first-signed k w between ws j begins each numbers =
    let z = unwrap_or (numbering.signed w) (pos 0) in
    begins z (signed-value w (and_first _ _ numbers)) ∙ ap (λ l. signed_kinds z ++ l) (others-signed between ws j each (and_second _ _ numbers))
    ∙ sym (append_assoc (signed_kinds z) (others_kinds (signed_values ws)) j)

listed-signed : (k : List LexemeKind) (ws : List WrittenSigned) (j : List LexemeKind) → Listed ASignedSo k ws j → all_known ws ≡ true → k ≡ list_kinds (signed_values ws) ++ j
listed-signed k ws j h numbers =
    subst (λ (l : List WrittenSigned). k ≡ list_kinds (signed_values l) ++ j) h.are
    (first-signed k h.first h.between h.others j h.begins h.goes_on (subst (λ (l : List WrittenSigned). all_known l ≡ true) (sym h.are) numbers))

others-carried : (k : List LexemeKind) (ws : List WrittenCarried) (j : List LexemeKind) → Each (Behind (AMarkSo symbols.Comma) ACarriedSo) k ws j → k ≡ others_kinds (map carried_of ws) ++ j
others-carried k [] j each = each
others-carried k (w ∷ ws) j each =
    each.1.first ∙ ap (before_kinds (Mark symbols.Comma)) (each.1.second ∙ ap (λ l. signed_kinds (carried_of w) ++ l) (others-carried each.0 ws j each.2))
    ∙ ap (λ l. Mark symbols.Comma ∷ l) (sym (append_assoc (signed_kinds (carried_of w)) (others_kinds (map carried_of ws)) j))

-- ---- streams

pub record AStreamSo (k : List LexemeKind) (w : WrittenStream) (j : List LexemeKind) : Type 0 where
  pub behind_word : List LexemeKind
  pub behind_stream : List LexemeKind
  pub word : k ≡ NameOf (codes "stream") ∷ behind_word
  pub stream : ANumberSo behind_word w.stream behind_stream
  pub words : ANumberSo behind_stream w.words j

pub shows-stream : Shows stream_format AStreamSo
unfolding stream_format
shows-stream =
    shows-then (shows-then (shows-made (λ at stream words. record { at = at; stream = stream; words = words }) (Makes ANumberSo (Makes ANumberSo AStreamSo)) (shows-this_name (codes "stream"))
    (λ k at i word. makes (λ s j stream. makes (λ n l words. record { behind_word = i; behind_stream = j; word = word; stream = stream; words = words })))) shows-number) shows-number

-- the kinds of the streams' parts, as they are written
abbrev written_streams : List WrittenStream → List LexemeKind
written_streams [] = []
written_streams (w ∷ ws) = NameOf (codes "stream") ∷ number (number_or_zero w.stream) ∷ number (number_or_zero w.words) ∷ written_streams ws

streams-written : (least : ℕ) (k : List LexemeKind) (ws : List WrittenStream) (j : List LexemeKind) → Each AStreamSo k ws j → AllGood (stream_parts least ws) → k ≡ written_streams ws ++ j
streams-written least k [] j each good = each
streams-written least k (w ∷ ws) j each good =
    let h = each.1 in
    let numbers = and_first (is_at_most 63 w.stream) _ (and_first _ (from_one_to (2 ^ 52) w.words) good.0) in
    let counted = and_second (is_at_most 63 w.stream && not (nat_lt (number_or_zero w.stream) least)) (from_one_to (2 ^ 52) w.words) good.0 in
    let words_are = tested-number _ w.words h.behind_stream each.0 h.words counted ∙ ap (λ l. number (number_or_zero w.words) ∷ l) (streams-written (suc (number_or_zero w.stream)) each.0 ws j each.2 good.1) in
    h.word ∙ ap (λ l. NameOf (codes "stream") ∷ l) (tested-number _ w.stream h.behind_word h.behind_stream h.stream numbers ∙ ap (λ l. number (number_or_zero w.stream) ∷ l) words_are)

no-words : (k n : ℕ) → streams_kinds k (replicate n 0) ≡ []
no-words k zero = refl
no-words k (suc n) = no-words (suc k) n

streams-both : (k : ℕ) (a b : List ℕ) → streams_kinds k (a ++ b) ≡ streams_kinds k a ++ streams_kinds (k + length a) b
streams-both k [] b = ap (λ n. streams_kinds n b) (omega arith)
streams-both k (n ∷ a) b =
    ap (λ l. stream_kinds k n ++ l) (streams-both (suc k) a b ∙ ap (λ m. streams_kinds (suc k) a ++ streams_kinds m b) (omega arith))
    ∙ sym (append_assoc (stream_kinds k n) (streams_kinds (suc k) a) (streams_kinds (k + suc (length a)) b))

zeros-then : (d n : ℕ) → replicate {A = ℕ} (d + n) 0 ≡ replicate d 0 ++ replicate n 0
zeros-then zero n = ap (λ m. replicate {A = ℕ} m 0) (omega arith)
zeros-then (suc d) n = let next : suc d + n ≡ suc (d + n) = omega arith in ap (λ m. replicate {A = ℕ} m 0) next ∙ ap (λ l. 0 ∷ l) (zeros-then d n)

set-there : (a : List ℕ) (n x : ℕ) (b : List ℕ) → slice_set (a ++ x ∷ b) (length a) n ≡ a ++ n ∷ b
set-there [] n x b = refl
set-there (y ∷ a) n x b = ap (λ l. y ∷ l) (set-there a n x b)

-- words taken so far, and none of the streams after them
streams-as-taken : (least : ℕ) (ws : List WrittenStream) (done : List ℕ) (more : ℕ) → length done ≡ least → least + more ≡ 64 → AllGood (stream_parts least ws)
    → streams_kinds 0 (with_taken ws (done ++ replicate more 0)) ≡ streams_kinds 0 done ++ written_streams ws
streams-as-taken least [] done more long whole good = streams-both 0 done (replicate more 0) ∙ ap (λ l. streams_kinds 0 done ++ l) (no-words (0 + length done) more)
streams-as-taken least (w ∷ ws) done more long whole good =
    let i = number_or_zero w.stream in
    let n = number_or_zero w.words in
    let front = and_first (is_at_most 63 w.stream && not (nat_lt i least)) (from_one_to (2 ^ 52) w.words) good.0 in
    let low : nat_lt i 64 ≡ true = tested-value _ w.stream (and_first (is_at_most 63 w.stream) (not (nat_lt i least)) front) in
    let rises : not (nat_lt i least) ≡ true = and_second (is_at_most 63 w.stream) (not (nat_lt i least)) front in
    let counted : (nat_lt 0 n && nat_lt n (suc (2 ^ 52))) ≡ true = tested-value _ w.words (and_second (is_at_most 63 w.stream && not (nat_lt i least)) (from_one_to (2 ^ 52) w.words) good.0) in
    let below : i < 64 = grind (arith, nat_tests, low) in
    let from : least ≤ i = not_below i least rises in
    let some : 0 < n = (let p = and_first (nat_lt 0 n) (nat_lt n (suc (2 ^ 52))) counted in grind (arith, nat_tests, p)) in
    let d = i - least in
    let rest = more - suc d in
    let split : more ≡ d + suc rest = omega (arith, below, from, whole) in
    let filled = done ++ replicate d 0 in
    let here : length filled ≡ i = length-append done (replicate d 0) ∙ ap₂ (λ a b. a + b) long (length-replicate d 0) ∙ omega (arith, from) in
    let at : 0 + length filled ≡ i = omega (arith, here) in
    let apart : done ++ replicate more 0 ≡ filled ++ 0 ∷ replicate rest 0 = ap (λ m. done ++ replicate m 0) split ∙ ap (λ l. done ++ l) (zeros-then d (suc rest)) ∙ sym (append_assoc done (replicate d 0) (0 ∷ replicate rest 0)) in
    let set : slice_set (done ++ replicate more 0) i n ≡ (filled ++ n ∷ []) ++ replicate rest 0 = ap₂ (λ l m. slice_set l m n) apart (sym here) ∙ set-there filled n 0 (replicate rest 0) ∙ sym (append_assoc filled (n ∷ []) (replicate rest 0)) in
    let longer : length (filled ++ n ∷ []) ≡ suc i = length-append filled (n ∷ []) ∙ omega (arith, here) in
    let one_more : streams_kinds 0 (filled ++ n ∷ []) ≡ streams_kinds 0 done ++ (NameOf (codes "stream") ∷ number i ∷ number n ∷ []) =
    streams-both 0 filled (n ∷ []) ∙ ap₂ (λ a b. a ++ b) (streams-both 0 done (replicate d 0) ∙ ap (λ l. streams_kinds 0 done ++ l) (no-words (0 + length done) d) ∙ append-nil (streams_kinds 0 done)) (append-nil (stream_kinds (0 + length filled) n) ∙ ap (λ m. stream_kinds m n) at ∙ one-stream i n some) in
    ap (λ l. streams_kinds 0 (with_taken ws l)) set ∙ streams-as-taken (suc i) ws (filled ++ n ∷ []) rest longer (omega (arith, split, whole, from)) good.1
    ∙ ap (λ l. l ++ written_streams ws) one_more ∙ append_assoc (streams_kinds 0 done) (NameOf (codes "stream") ∷ number i ∷ number n ∷ []) (written_streams ws)
  where
    not_below : (i least : ℕ) → not (nat_lt i least) ≡ true → least ≤ i
    not_below i least h = by (nat_lt i least) refl h
      where
        by : (b : Bool) → nat_lt i least ≡ b → not b ≡ true → least ≤ i
        by false f e = grind (arith, nat_tests, f)
        by true f e = absurd cc

    one-stream : (i n : ℕ) → 0 < n → stream_kinds i n ≡ NameOf (codes "stream") ∷ number i ∷ number n ∷ []
    one-stream i zero some = absurd (omega (arith, some))
    one-stream i (suc n) some = refl

pub streams-shown : (k : List LexemeKind) (ws : List WrittenStream) (j : List LexemeKind) → Each AStreamSo k ws j → AllGood (stream_parts 0 ws) → k ≡ streams_kinds 0 (with_taken ws (replicate 64 0)) ++ j
streams-shown k ws j each good = streams-written 0 k ws j each good ∙ ap (λ l. l ++ j) (sym (streams-as-taken 0 ws [] 64 refl refl good))

-- ---- values

pub record AValueSo (k : List LexemeKind) (w : WrittenValue) (j : List LexemeKind) : Type 0 where
  pub behind_word : List LexemeKind
  pub behind_name : List LexemeKind
  pub word : k ≡ NameOf (codes "value") ∷ behind_word
  pub variable : ANameSo behind_word w.variable behind_name
  pub values : Listed ASignedSo behind_name w.values j

pub shows-value : Shows value_format AValueSo
unfolding value_format
shows-value =
    shows-then (shows-then (shows-made (λ at variable values. record { at = at; variable = variable; values = values }) (Makes ANameSo (Makes (Listed ASignedSo) AValueSo)) (shows-this_name (codes "value"))
    (λ k at i word. makes (λ n j name. makes (λ l m values. record { behind_word = i; behind_name = j; word = word; variable = name; values = values })))) shows-name) (shows-listed ASignedSo shows-signed)

same_bytes-are : (a b : List ℕ) → same_bytes a b ≡ true → a ≡ b
same_bytes-are a b e = (bytes_decides a b).0 e

ranges-length : (vs : List Variable) (xs : List ℤ) → in_ranges vs xs ≡ true → length vs ≡ length xs
ranges-length [] [] e = refl
ranges-length [] (x ∷ xs) e = cc
ranges-length (v ∷ vs) [] e = cc
ranges-length (v ∷ vs) (x ∷ xs) e = ap suc (ranges-length vs xs (and_second (within v.lo v.hi x) _ e))

abbrev all_values_of : List WrittenValue → List ℤ
all_values_of ws = flat_map (λ (v : WrittenValue). signed_values v.values) ws

pub values-shown : (k : List LexemeKind) (variables : List Variable) (ws : List WrittenValue) (j : List LexemeKind) → Each AValueSo k ws j → AllGood (value_parts variables ws) → length variables ≤ length ws → k ≡ values_kinds variables (all_values_of ws) ++ j
values-shown k [] [] j each good long = each
values-shown k [] (w ∷ ws) j each good long = absurd (let wrong : false ≡ true = good.0 in cc)
values-shown k (v ∷ variables) [] j each good long = absurd (omega (arith, long))
values-shown k (v ∷ variables) (w ∷ ws) j each good long =
    let h = each.1 in
    let named = same_bytes-are w.variable.name v.name (and_first _ _ good.0) in
    let fits = and_second (same_bytes w.variable.name v.name) (fit_variables (replicate (cell_count v) v) w.values) good.0 in
    let numbers = and_first (all_known w.values) (in_ranges (replicate (cell_count v) v) (signed_values w.values)) fits in
    let many : length (signed_values w.values) ≡ cell_count v = sym (ranges-length (replicate (cell_count v) v) (signed_values w.values) (and_second (all_known w.values) _ fits)) ∙ length-replicate (cell_count v) v in
    let mine : take (cell_count v) (signed_values w.values ++ all_values_of ws) ≡ signed_values w.values = ap (λ n. take n (signed_values w.values ++ all_values_of ws)) (sym many) ∙ take-append_seam (signed_values w.values) (all_values_of ws) in
    let theirs : drop (cell_count v) (signed_values w.values ++ all_values_of ws) ≡ all_values_of ws = ap (λ n. drop n (signed_values w.values ++ all_values_of ws)) (sym many) ∙ drop-append_seam (signed_values w.values) (all_values_of ws) in
    let later = values-shown each.0 variables ws j each.2 good.1 (omega (arith, long)) in
    let listed : h.behind_name ≡ (list_kinds (take (cell_count v) (signed_values w.values ++ all_values_of ws)) ++ values_kinds variables (drop (cell_count v) (signed_values w.values ++ all_values_of ws))) ++ j =
    listed-signed h.behind_name w.values each.0 h.values numbers ∙ ap (λ l. list_kinds (signed_values w.values) ++ l) later
    ∙ sym (append_assoc (list_kinds (signed_values w.values)) (values_kinds variables (all_values_of ws)) j)
    ∙ ap₂ (λ a b. (list_kinds a ++ values_kinds variables b) ++ j) (sym mine) (sym theirs) in
    h.word ∙ ap (λ l. NameOf (codes "value") ∷ l) (h.variable ∙ ap₂ (λ n l. NameOf n ∷ l) named listed)

-- ---- the values of the last `at` note

pub record ANotedSo (k : List LexemeKind) (w : WrittenNoted) (j : List LexemeKind) : Type 0 where
  pub behind_word : List LexemeKind
  pub word : k ≡ NameOf (codes "noted") ∷ behind_word
  pub listed : Option (List WrittenSigned)
  pub are : unwrap_or listed [] ≡ w.values
  pub values : Maybe (Listed ASignedSo) behind_word listed j

pub shows-noted : Shows noted_format ANotedSo
unfolding noted_format
shows-noted =
    shows-then (shows-made (λ at values. record { at = at; values = unwrap_or values [] }) (Makes (Maybe (Listed ASignedSo)) ANotedSo) (shows-this_name (codes "noted"))
    (λ k at i word. makes (λ o j values. record { behind_word = i; word = word; listed = o; are = refl; values = values }))) (shows-maybe (Listed ASignedSo) (shows-listed ASignedSo shows-signed))

maybe-listed : (k : List LexemeKind) (o : Option (List WrittenSigned)) (j : List LexemeKind) → Maybe (Listed ASignedSo) k o j → all_known (unwrap_or o []) ≡ true → k ≡ list_kinds (signed_values (unwrap_or o [])) ++ j
maybe-listed k None j h numbers = h
maybe-listed k (Some ws) j h numbers = listed-signed k ws j h numbers

pub noted-shown : (g : EventGraph) (k : List LexemeKind) (o : Option WrittenNoted) (j : List LexemeKind) → Maybe ANotedSo k o j → AllGood (noted_parts g o) → k ≡ noted_kinds (option_map (λ (n : WrittenNoted). signed_values n.values) o) ++ j
noted-shown g k None j h good = h
noted-shown g k (Some w) j h good =
    let numbers = and_first (all_known w.values) (in_ranges (cell_variables (variables_watched g g.watch)) (signed_values w.values)) good.0 in
    h.word ∙ ap (λ l. NameOf (codes "noted") ∷ l) (maybe-listed h.behind_word h.listed j h.values (ap all_known h.are ∙ numbers) ∙ ap (λ (ws : List WrittenSigned). list_kinds (signed_values ws) ++ j) h.are)

-- ---- pending events

pub record ACarriesSo (k : List LexemeKind) (ws : List WrittenCarried) (j : List LexemeKind) : Type 0 where
  pub inside : List LexemeKind
  pub behind : List LexemeKind
  pub opens : k ≡ Mark symbols.OpenParenthesis ∷ inside
  pub listed : Listed ACarriedSo inside ws behind
  pub closes : behind ≡ Mark symbols.CloseParenthesis ∷ j

shows-carries : Shows carries_format ACarriesSo
unfolding carries_format
shows-carries =
    shows-past (shows-as (KeepsValue (AMarkSo symbols.CloseParenthesis) ACarriesSo) (λ k ws i h. keeps_value (λ at j closes. record { inside = h.between; behind = i; opens = h.first; listed = h.second; closes = closes }))
    (shows-behind (shows-mark symbols.OpenParenthesis) (shows-listed ACarriedSo shows-carried))) (shows-mark symbols.CloseParenthesis)

first-carried : (k : List LexemeKind) (w : WrittenCarried) (between : List LexemeKind) (ws : List WrittenCarried) (i j : List LexemeKind) → ACarriedSo k w between → Each (Behind (AMarkSo symbols.Comma) ACarriedSo) between ws i → i ≡ Mark symbols.CloseParenthesis ∷ j → Mark symbols.OpenParenthesis ∷ k ≡ carried_kinds (map carried_of (w ∷ ws)) ++ j
first-carried k w between ws i j begins each closes =
    let whole : k ≡ list_kinds (map carried_of (w ∷ ws)) ++ i = begins ∙ ap (λ l. signed_kinds (carried_of w) ++ l) (others-carried between ws i each) ∙ sym (append_assoc (signed_kinds (carried_of w)) (others_kinds (map carried_of ws)) i) in
    ap (λ l. Mark symbols.OpenParenthesis ∷ l) (whole ∙ ap (λ l. list_kinds (map carried_of (w ∷ ws)) ++ l) closes ∙ sym (append_assoc (list_kinds (map carried_of (w ∷ ws))) (Mark symbols.CloseParenthesis ∷ []) j))

carries-shown : (k : List LexemeKind) (o : Option (List WrittenCarried)) (j : List LexemeKind) → Maybe ACarriesSo k o j → k ≡ carried_kinds (map carried_of (unwrap_or o [])) ++ j
carries-shown k None j h = h
carries-shown k (Some ws) j h =
    subst (λ (l : List WrittenCarried). k ≡ carried_kinds (map carried_of l) ++ j) h.listed.are
    (h.opens ∙ first-carried h.inside h.listed.first h.listed.between h.listed.others h.behind j h.listed.begins h.listed.goes_on h.closes)

pub record APendingSo (k : List LexemeKind) (w : WrittenPending) (j : List LexemeKind) : Type 0 where
  pub behind_word : List LexemeKind
  pub behind_ticks : List LexemeKind
  pub behind_priority : List LexemeKind
  pub behind_name : List LexemeKind
  pub word : k ≡ NameOf (codes "pending") ∷ behind_word
  pub ticks : ANumberSo behind_word w.ticks behind_ticks
  pub priority : ANumberSo behind_ticks w.priority behind_priority
  pub vertex : ANameSo behind_priority w.vertex behind_name
  pub values : behind_name ≡ carried_kinds (map carried_of w.values) ++ j

pub shows-pending : Shows pending_format APendingSo
unfolding pending_format
shows-pending =
    shows-then (shows-then (shows-then (shows-then
    (shows-made (λ at ticks priority vertex values. record { at = at; ticks = ticks; priority = priority; vertex = vertex; values = unwrap_or values [] }) (Makes ANumberSo (Makes ANumberSo (Makes ANameSo (Makes (Maybe ACarriesSo) APendingSo)))) (shows-this_name (codes "pending"))
    (λ k at i word. makes (λ t j ticks. makes (λ p l priority. makes (λ n m name. makes (λ o q values. record { behind_word = i; behind_ticks = j; behind_priority = l; behind_name = m; word = word; ticks = ticks; priority = priority; vertex = name; values = carries-shown m o q values })))))) shows-number) shows-number) shows-name) (shows-maybe ACarriesSo shows-carries)

-- the vertex that a name places has that name
placed-name : (name : List ℕ) (vertices : List EventVertex) (k : ℕ) → place_of_vertex name vertices ≡ Some k → option_map_or (λ (x : EventVertex). x.name) (slice_get vertices k) [] ≡ name
placed-name name [] k e = absurd cc
placed-name name (v ∷ vertices) k e = by (λ m. placed-name name vertices m) (same_bytes v.name name) refl (place_of_vertex name vertices) refl e
  where
    zero_is : (k : ℕ) → Some 0 ≡ Some k → 0 ≡ k
    zero_is k h = cc

    next_is : (m k : ℕ) → Some (m + 1) ≡ Some k → m + 1 ≡ k
    next_is m k h = cc

    by : ((m : ℕ) → place_of_vertex name vertices ≡ Some m → option_map_or (λ (x : EventVertex). x.name) (slice_get vertices m) [] ≡ name) → (b : Bool) → same_bytes v.name name ≡ b → (o : Option ℕ) → place_of_vertex name vertices ≡ o → cond b (Some 0) (option_map (λ n. n + 1) o) ≡ Some k → option_map_or (λ (x : EventVertex). x.name) (slice_get (v ∷ vertices) k) [] ≡ name
    by there true same o place h = subst (λ (n : ℕ). option_map_or (λ (x : EventVertex). x.name) (slice_get (v ∷ vertices) n) [] ≡ name) (zero_is k h) (same_bytes-are v.name name same)
    by there false same None place h = absurd cc
    by there false same (Some m) place h =
        let next : suc m ≡ k = (let n = next_is m k h in omega (arith, n)) in
        subst (λ (n : ℕ). option_map_or (λ (x : EventVertex). x.name) (slice_get (v ∷ vertices) n) [] ≡ name) next (there m place)

vertex-name : (g : EventGraph) (count : ℕ) (name : List ℕ) → has_parameters g count (place_of_vertex name g.vertices) ≡ true → vertex_name g (unwrap_or (place_of_vertex name g.vertices) 0) ≡ name
vertex-name g count name has = by (place_of_vertex name g.vertices) refl has
  where
    by : (o : Option ℕ) → place_of_vertex name g.vertices ≡ o → has_parameters g count o ≡ true → vertex_name g (unwrap_or o 0) ≡ name
    by None place h = absurd cc
    by (Some k) place h = placed-name name g.vertices k place

event-shown : (g : EventGraph) (clock : ℕ) (k : List LexemeKind) (w : WrittenPending) (j : List LexemeKind) → APendingSo k w j → (pending_part g w).good ≡ true → k ≡ event_kinds g clock (saved_entry g clock w) ++ j
event-shown g clock k w j h good =
    let vertex = place_of_vertex w.vertex.name g.vertices in
    let front = and_first (is_at_most (2 ^ 63 - 1) w.ticks && is_at_most 255 w.priority) (has_parameters g (length w.values) vertex && list_all is_wide w.values) good in
    let behind = and_second (is_at_most (2 ^ 63 - 1) w.ticks && is_at_most 255 w.priority) (has_parameters g (length w.values) vertex && list_all is_wide w.values) good in
    let ticks_number = and_first (is_at_most (2 ^ 63 - 1) w.ticks) (is_at_most 255 w.priority) front in
    let priority_number = and_second (is_at_most (2 ^ 63 - 1) w.ticks) (is_at_most 255 w.priority) front in
    let named = vertex-name g (length w.values) w.vertex.name (and_first (has_parameters g (length w.values) vertex) (list_all is_wide w.values) behind) in
    let later : number_or_zero w.ticks ≡ (clock + number_or_zero w.ticks) - clock = omega arith in
    let from_name : h.behind_priority ≡ NameOf (vertex_name g (unwrap_or vertex 0)) ∷ (carried_kinds (map carried_of w.values) ++ j) = h.vertex ∙ ap₂ (λ n l. NameOf n ∷ l) (sym named) h.values in
    let from_priority = tested-number _ w.priority h.behind_ticks h.behind_priority h.priority priority_number ∙ ap (λ l. number (number_or_zero w.priority) ∷ l) from_name in
    let from_ticks = tested-number _ w.ticks h.behind_word h.behind_ticks h.ticks ticks_number ∙ ap₂ (λ n l. number n ∷ l) later from_priority in
    h.word ∙ ap (λ l. NameOf (codes "pending") ∷ l) from_ticks

pub events-shown : (g : EventGraph) (clock : ℕ) (k : List LexemeKind) (ws : List WrittenPending) (j : List LexemeKind) → Each APendingSo k ws j → AllGood (map (pending_part g) ws) → k ≡ events_kinds g clock (map (saved_entry g clock) ws) ++ j
events-shown g clock k [] j each good = each
events-shown g clock k (w ∷ ws) j each good =
    event-shown g clock k w each.0 each.1 good.0 ∙ ap (λ l. event_kinds g clock (saved_entry g clock w) ++ l) (events-shown g clock each.0 ws j each.2 good.1)
    ∙ sym (append_assoc (event_kinds g clock (saved_entry g clock w)) (events_kinds g clock (map (saved_entry g clock) ws)) j)
