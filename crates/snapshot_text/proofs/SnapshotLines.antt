-- The lines of a snapshot, each read back at any place.
use Rattle.std.proofs.Common.{◌≡◌, ℕ, zero, suc, ◌+◌, ◌-◌, ◌^◌, ◌<◌, ◌≤◌, ℤ, pos, true, List, [], ◌∷◌, ◌++◌, length, map, take, drop, refl, sym, ap, ap₂, subst, arith, false}
use Rattle.std.specs.Option.{is_some}
use Rattle.std.specs.Prelude.{◌&&◌, unwrap_or, Option, Some, None, codes, decimal, if◌then◌else◌, IfSome, ◌==◌}
use Rattle.std.specs.List.{AllByRecursion}
use Rattle.std.specs.Fmt.{signed_decimal}
use Rattle.std.proofs.lemmas.Bool.Decides.{nat_tests}
use Rattle.model_core.specs.EventGraph.{EventGraph, Variable}
use Rattle.model_core.specs.Run.State.{cell_count}
use Rattle.model_core.specs.Run.Pending.{Entry}
use Rattle.model_core.specs.Text.Canonical.{vertex_name}
use Rattle.model_core.specs.Text.Written.{WrittenNumber, WrittenSigned}
use Rattle.model_core.specs.Text.Numbering as numbering
use Rattle.model_core.specs.Text.Spellable.{IsName, IsSigned, sign_openings, openings_together}
use Rattle.model_core.specs.Text.Format.{Many, maybe, separated}
use Rattle.model_core.specs.Text.Language.{signed_format}
use Rattle.round_trip.proofs.LongestTokens.{Ends}
use Rattle.round_trip.proofs.Writing.{Writes, Any, Takes, takes, writes-then, writes-made, writes-before, writes-after, writes-widened, writes-as, writes-room, writes-some, writes-nothing, writes-none, writes-more, blank_before, blank_after, feed_after, writes-text}
use Rattle.round_trip.proofs.OneToken.{open_text, close_text, writes-name, writes-number}
use Rattle.round_trip.proofs.ListText.{Pairs, signed-writes}
use Rattle.model_core.specs.Saved.SavedRun.{IsWide}
use Rattle.model_core.specs.Text.SnapshotGrammar.{WrittenStream, WrittenValue, WrittenNoted, WrittenCarried, WrittenPending, stream_format, value_format, noted_format, carries_format, pending_format}
use Rattle.model_core.specs.Text.SnapshotText.{comma_values, stream_lines, value_lines, noted_values, noted_line, carried_text, pending_line}
use Rattle.model_core.specs.Saved.GoodSnapshots.{signed_values, all_known, carried_of}
use Rattle.snapshot_text.proofs.NamesSpelled.{writes-this_name, commas-write}
use Rattle.snapshot_text.proofs.ExactNumbers.{carried-writes}

-- a written number is this one
abbrev pub IsNumber : ℕ → WrittenNumber → Type 0
IsNumber n w = w.value ≡ Some (pos n)

-- ---- streams

pub record StreamIs (stream words : ℕ) (w : WrittenStream) : Type 0 where
  pub stream_is : IsNumber stream w.stream
  pub words_is : IsNumber words w.words

stream-writes : {i : ℕ} (s n : ℕ) → s < 2 ^ 63 → n < 2 ^ 63 → Writes stream_format (codes "stream " ++ decimal s ++ codes " " ++ decimal n ++ codes "\n") Any i i (StreamIs s n)
unfolding stream_format
stream-writes s n small few =
    feed_after (λ rest. refl) (writes-then (blank_after (λ rest. refl) (writes-then
    (writes-made (λ at stream words. record { at = at; stream = stream; words = words }) {J = Takes (IsNumber s) (Takes (IsNumber n) (StreamIs s n))} (blank_after (λ rest. refl) (writes-this_name 115 (codes "tream") refl refl refl)) (λ at u. takes (λ a e. takes (λ b f. record { stream_is = e; words_is = f }))))
    (λ rest i. tt) (writes-number s small))) (λ rest i. tt) (writes-number n few))

-- the streams from this one on that gave words
pub data AreStreams : ℕ → List ℕ → List WrittenStream → Type 0 where
  no_streams : (k : ℕ) → AreStreams k [] []
  silent : (k : ℕ) (taken : List ℕ) (ws : List WrittenStream) → AreStreams (suc k) taken ws → AreStreams k (0 ∷ taken) ws
  spoken : (k n : ℕ) (taken : List ℕ) (w : WrittenStream) (ws : List WrittenStream) → 0 < n → StreamIs k n w → AreStreams (suc k) taken ws → AreStreams k (n ∷ taken) (w ∷ ws)

pub streams-write : {i : ℕ} (k : ℕ) (taken : List ℕ) → k + length taken ≤ 64 → AllByRecursion (λ n. n ≤ 2 ^ 52) taken → Writes (Many stream_format) (stream_lines k taken) Any i i (AreStreams k taken)
streams-write k [] near few = writes-none (no_streams k)
streams-write k (zero ∷ taken) near (here, few) = writes-widened _ (λ ws are. silent k taken ws are) (streams-write (suc k) taken (omega arith) few)
streams-write k (suc n ∷ taken) near (here, few) =
    let some : (suc n == 0) ≡ false = grind (arith, nat_tests) in
    writes-text (ap (λ b. (if b then [] else codes "stream " ++ decimal k ++ codes " " ++ decimal (suc n) ++ codes "\n") ++ stream_lines (suc k) taken) (sym some)) (writes-more (stream-writes k (suc n) (omega arith) (omega arith)) (λ rest i. tt) (streams-write (suc k) taken (omega arith) few) (λ w ws is are. spoken k (suc n) taken w ws (omega arith) is are))

-- ---- values

-- values that are written so
pub record AreSigned (xs : List ℤ) (ws : List WrittenSigned) : Type 0 where
  pub are : signed_values ws ≡ xs
  pub known : all_known ws ≡ true

pairs-signed : (xs : List ℤ) (ws : List WrittenSigned) → Pairs (λ (z : ℤ) (s : WrittenSigned). numbering.signed s ≡ Some z) xs ws → AreSigned xs ws
pairs-signed [] [] h = record { are = refl; known = refl }
pairs-signed [] (w ∷ ws) h = absurd h
pairs-signed (x ∷ xs) [] h = absurd h
pairs-signed (x ∷ xs) (w ∷ ws) (here, h) =
    let others = pairs-signed xs ws h in
    record {
      are = ap₂ (λ z l. z ∷ l) (ap (λ o. unwrap_or o (pos 0)) here) others.are;
      known = ap₂ (λ a b. a && b) (ap is_some here) others.known;
    }

signed-list-writes : (x : ℤ) (xs : List ℤ) → AllByRecursion IsSigned (x ∷ xs) → (j : ℕ) → Writes (separated signed_format) (comma_values (x ∷ xs)) Ends (openings_together sign_openings (x ∷ xs) + j) j (AreSigned (x ∷ xs))
signed-list-writes x xs h j = writes-widened _ (pairs-signed (x ∷ xs)) (commas-write signed_decimal sign_openings IsSigned _ signed-writes x xs h j)

pub record ValueIs (v : Variable) (xs : List ℤ) (w : WrittenValue) : Type 0 where
  pub name : w.variable.name ≡ v.name
  pub values : AreSigned xs w.values

value-writes : (v : Variable) (x : ℤ) (xs : List ℤ) → IsName v.name → AllByRecursion IsSigned (x ∷ xs) → (j : ℕ) → Writes value_format (codes "value " ++ v.name ++ codes " " ++ comma_values (x ∷ xs) ++ codes "\n") Any (openings_together sign_openings (x ∷ xs) + j) j (ValueIs v (x ∷ xs))
unfolding value_format
value-writes v x xs named h j =
    feed_after (λ rest. refl) (writes-then (blank_after (λ rest. refl) (writes-then
    (writes-made (λ at variable values. record { at = at; variable = variable; values = values }) {J = Takes (λ n. n.name ≡ v.name) (Takes (AreSigned (x ∷ xs)) (ValueIs v (x ∷ xs)))} (blank_after (λ rest. refl) (writes-this_name 118 (codes "alue") refl refl refl)) (λ at u. takes (λ a e. takes (λ b f. record { name = e; values = f }))))
    (λ rest i. tt) (writes-name v.name named))) (λ rest i. tt) (signed-list-writes x xs h j))

-- each variable with the next of the values
abbrev pub AreValues : List Variable → List ℤ → List WrittenValue → Type 0
AreValues [] values ws = ws ≡ []
AreValues (v ∷ variables) values [] = ⊥
AreValues (v ∷ variables) values (w ∷ ws) = ValueIs v (take (cell_count v) values) w × AreValues variables (drop (cell_count v) values) ws

-- how many openings their lines have
abbrev pub values_cost : List Variable → List ℤ → ℕ
values_cost [] values = 0
values_cost (v ∷ variables) values = openings_together sign_openings (take (cell_count v) values) + values_cost variables (drop (cell_count v) values)

-- each variable has a name, and as many values as it has cells
pub record HasValues (v : Variable) (values : List ℤ) : Type 0 where
  pub named : IsName v.name
  pub first : ℤ
  pub others : List ℤ
  pub are : take (cell_count v) values ≡ first ∷ others
  pub signed : AllByRecursion IsSigned (first ∷ others)

abbrev pub HaveValues : List Variable → List ℤ → Type 0
HaveValues [] values = Unit {0}
HaveValues (v ∷ variables) values = HasValues v values × HaveValues variables (drop (cell_count v) values)

value-line : (v : Variable) (values : List ℤ) → HasValues v values → (j : ℕ) → Writes value_format (codes "value " ++ v.name ++ codes " " ++ comma_values (take (cell_count v) values) ++ codes "\n") Any (openings_together sign_openings (take (cell_count v) values) + j) j (ValueIs v (take (cell_count v) values))
value-line v values h j =
    subst (λ (xs : List ℤ). Writes value_format (codes "value " ++ v.name ++ codes " " ++ comma_values xs ++ codes "\n") Any (openings_together sign_openings xs + j) j (ValueIs v xs)) (sym h.are)
    (value-writes v h.first h.others h.named h.signed j)

pub values-write : (variables : List Variable) (values : List ℤ) → HaveValues variables values → (j : ℕ) → Writes (Many value_format) (value_lines variables values) Any (values_cost variables values + j) j (AreValues variables values)
values-write [] values h j = writes-room (omega arith) (writes-none refl)
values-write (v ∷ variables) values h j =
    writes-room (omega arith) (writes-more (value-line v values h.0 (values_cost variables (drop (cell_count v) values) + j)) (λ rest i. tt) (values-write variables (drop (cell_count v) values) h.1 j) (λ w ws is are. (is, are)))

-- ---- the values of the last `at` note

pub record NotedIs (noted : List ℤ) (w : WrittenNoted) : Type 0 where
  pub values : AreSigned noted w.values

-- the line that is written of them, if anything is noted
abbrev pub MaybeNoted : Option (List ℤ) → Option WrittenNoted → Type 0
MaybeNoted None None = Unit {0}
MaybeNoted None (Some w) = ⊥
MaybeNoted (Some values) None = ⊥
MaybeNoted (Some values) (Some w) = NotedIs values w

abbrev pub noted_cost : Option (List ℤ) → ℕ
noted_cost None = 0
noted_cost (Some values) = openings_together sign_openings values

noted-values-write : (values : List ℤ) → AllByRecursion IsSigned values → (j : ℕ) → Writes (maybe (separated signed_format)) (noted_values values) Ends (openings_together sign_openings values + j) j (λ o. AreSigned values (unwrap_or o []))
noted-values-write [] h j = writes-room (omega arith) (writes-nothing (record { are = refl; known = refl }))
noted-values-write (x ∷ xs) h j = writes-some (blank_before (signed-list-writes x xs h j)) (λ ws e. e)

noted-follows : (values : List ℤ) (rest : List ℕ) → Ends rest → Ends (noted_values values ++ rest)
noted-follows [] rest e = e
noted-follows (x ∷ xs) rest e = refl

noted-line-writes : (values : List ℤ) → AllByRecursion IsSigned values → (j : ℕ) → Writes noted_format (codes "noted" ++ noted_values values ++ codes "\n") Any (openings_together sign_openings values + j) j (NotedIs values)
unfolding noted_format
noted-line-writes values h j =
    feed_after (λ rest. refl) (writes-then
    (writes-made (λ at values. record { at = at; values = unwrap_or values [] }) {J = Takes (λ o. AreSigned values (unwrap_or o [])) (NotedIs values)} (writes-this_name 110 (codes "oted") refl refl refl) (λ at u. takes (λ o e. record { values = e })))
    (noted-follows values) (noted-values-write values h j))

pub noted-writes : (o : Option (List ℤ)) → IfSome o (λ values. AllByRecursion IsSigned values) → (j : ℕ) → Writes (maybe noted_format) (noted_line o) Any (noted_cost o + j) j (MaybeNoted o)
noted-writes None h j = writes-room (omega arith) (writes-nothing tt)
noted-writes (Some values) h j = writes-some (noted-line-writes values h j) (λ w is. is)

-- ---- pending events

abbrev AreCarried : List ℤ → List WrittenCarried → Type 0
AreCarried xs ws = map carried_of ws ≡ xs

pairs-carried : (xs : List ℤ) (ws : List WrittenCarried) → Pairs (λ (z : ℤ) (c : WrittenCarried). carried_of c ≡ z) xs ws → AreCarried xs ws
pairs-carried [] [] h = refl
pairs-carried [] (w ∷ ws) h = absurd h
pairs-carried (x ∷ xs) [] h = absurd h
pairs-carried (x ∷ xs) (w ∷ ws) (here, h) = ap₂ (λ z l. z ∷ l) here (pairs-carried xs ws h)

-- a parenthesis opens too
abbrev pub carried_cost : List ℤ → ℕ
carried_cost [] = 0
carried_cost (x ∷ xs) = suc (openings_together sign_openings (x ∷ xs))

carries-write : (values : List ℤ) → AllByRecursion IsWide values → (j : ℕ) → Writes (maybe carries_format) (carried_text values) Ends (carried_cost values + j) j (λ o. map carried_of (unwrap_or o []) ≡ values)
unfolding carries_format
carries-write [] h j = writes-room (omega arith) (writes-nothing refl)
carries-write (x ∷ xs) h j =
    writes-room (omega arith) (writes-some (writes-as refl (λ rest e. tt) (pairs-carried (x ∷ xs)) (writes-before {F = Ends} (writes-after open_text (λ rest i. tt) (commas-write signed_decimal sign_openings IsWide _ carried-writes x xs h j)) (λ rest i. refl) close_text)) (λ ws e. e))

carries-follow : (values : List ℤ) (rest : List ℕ) → Ends rest → Ends (carried_text values ++ rest)
carries-follow [] rest e = e
carries-follow (x ∷ xs) rest e = refl

pub record PendingIs (g : EventGraph) (clock : ℕ) (e : Entry) (w : WrittenPending) : Type 0 where
  pub ticks : IsNumber (e.time - clock) w.ticks
  pub priority : IsNumber e.priority w.priority
  pub vertex : w.vertex.name ≡ (vertex_name g e.vertex)
  pub values : map carried_of w.values ≡ e.values

-- an event that a line can write
pub record IsWritableEntry (g : EventGraph) (clock : ℕ) (e : Entry) : Type 0 where
  pub near : e.time - clock < 2 ^ 63
  pub low : e.priority < 2 ^ 63
  pub named : IsName (vertex_name g e.vertex)
  pub wide : AllByRecursion IsWide e.values

abbrev pub entry_cost : Entry → ℕ
entry_cost e = carried_cost e.values

pub pending-writes : (g : EventGraph) (clock : ℕ) (e : Entry) → IsWritableEntry g clock e → (j : ℕ) → Writes pending_format (pending_line g clock e) Any (entry_cost e + j) j (PendingIs g clock e)
unfolding pending_format
pending-writes g clock e h j =
    feed_after (λ rest. refl) (writes-then (writes-then (blank_after (λ rest. refl) (writes-then (blank_after (λ rest. refl) (writes-then
    (writes-made (λ at ticks priority vertex values. record { at = at; ticks = ticks; priority = priority; vertex = vertex; values = unwrap_or values [] }) {J = Takes (IsNumber (e.time - clock)) (Takes (IsNumber e.priority) (Takes (λ n. n.name ≡ (vertex_name g e.vertex)) (Takes (λ o. map carried_of (unwrap_or o []) ≡ e.values) (PendingIs g clock e))))} (blank_after (λ rest. refl) (writes-this_name 112 (codes "ending") refl refl refl))
    (λ at u. takes (λ a i. takes (λ b k. takes (λ n l. takes (λ o m. record { ticks = i; priority = k; vertex = l; values = m })))))) (λ rest i. tt) (writes-number (e.time - clock) h.near))) (λ rest i. tt) (writes-number e.priority h.low))) (λ rest i. tt) (writes-name (vertex_name g e.vertex) h.named)) (carries-follow e.values) (carries-write e.values h.wide j))
