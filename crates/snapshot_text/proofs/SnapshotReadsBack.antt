-- The text of a good saved run of a valid model reads back as that run.
use Rattle.std.proofs.Common.{◌≡◌, ℕ, zero, suc, ◌+◌, ◌<◌, ℤ, pos, negsuc, ◌≤ℤ◌, true, List, [], ◌∷◌, ◌++◌, length, take, drop, replicate, slice_index_or, Option, Some, None, refl, sym, subst, arith, IsTrue, append-nil}
use Rattle.std.specs.Prelude.{Ok, IfSome, int_le}
use Rattle.std.specs.List.{AllByRecursion}
use Rattle.std.proofs.lemmas.Int.{ints}
use Rattle.std.proofs.lemmas.Bool.{and_parts}
use Rattle.sig_base.proofs.Tests.{true-int_le}
use Rattle.model_core.specs.declared.model.Kind.{Kind}
use Rattle.model_core.specs.declared.model.Kind.TheVariants as kinds
use Rattle.model_core.specs.EventGraph.{EventGraph, Variable, Watched, WatchedVariable, WatchedVertex}
use Rattle.model_core.specs.Run.State.{no_variable, cell_count, within, in_ranges}
use Rattle.model_core.specs.Run.Pending.{Entry}
use Rattle.model_core.specs.Text.Lexing.{Lexeme, tokens_from}
use Rattle.model_core.specs.Text.Spellable.{IsName, IsSigned, HasWrittenRange, SpellableVariable, IsSpellable}
use Rattle.model_core.specs.Static.OwnRules.{KeepsStaticRules}
use Rattle.model_core.proofs.EachOne.{every-map, every-joined}
use Rattle.round_trip.proofs.TokenSteps.{Lexes-nil, Lexes-text, tokens_from_at}
use Rattle.round_trip.proofs.ModelNames.{Named, names_of, named-by}
use Rattle.round_trip.proofs.ByParts.{begins_as_written}
use Rattle.model_core.specs.Saved.Cells.{cell_variables, variables_watched}
use Rattle.model_core.specs.Saved.SavedRun.{SavedRun, IsGoodEntry, IsGood}
use Rattle.model_core.specs.Text.SnapshotGrammar.{WrittenSnapshot, IsSnapshot}
use Rattle.model_core.specs.Text.SnapshotText.{snapshot_text}
use Rattle.model_core.specs.Saved.GoodSnapshots.{bad_at, saved_run}
use Rattle.snapshot_text.proofs.SnapshotLines.{HasValues, HaveValues, IsWritableEntry}
use Rattle.snapshot_text.proofs.SnapshotWrites.{IsWritable, snapshot-writes}
use Rattle.snapshot_text.proofs.RunSpelled.{of-variable, none-is_bad, run-spelled}

-- ---- values that a text can write

-- a range with ends that digits write
record SignedRange (v : Variable) : Type 0 where
  lo : IsSigned v.lo
  hi : IsSigned v.hi

written-range : (v : Variable) (kind : Kind) → HasWrittenRange v kind → SignedRange v
written-range v kinds.Truth (lo, hi, clip) = record { lo = subst IsSigned (sym lo) (omega arith); hi = subst IsSigned (sym hi) (omega arith) }
written-range v kinds.Range (lo, hi) = record { lo = lo; hi = hi }

between-signed : (lo hi x : ℤ) → IsSigned lo → IsSigned hi → lo ≤ℤ x → x ≤ℤ hi → IsSigned x
between-signed lo (pos h) (pos n) low high from to = omega (arith, ints, high, to)
between-signed lo (negsuc h) (pos n) low high from to = absurd (omega (arith, ints, to))
between-signed (pos l) hi (negsuc n) low high from to = absurd (omega (arith, ints, from))
between-signed (negsuc l) hi (negsuc n) low high from to = omega (arith, ints, low, from)

within-signed : (v : Variable) (x : ℤ) → SignedRange v → within v.lo v.hi x ≡ true → IsSigned x
within-signed v x r e = between-signed v.lo v.hi x r.lo r.hi (true-int_le _ _ ((and_parts (int_le v.lo x) _ e).0)) (true-int_le _ _ ((and_parts (int_le v.lo x) _ e).1))

ranges-signed : (vs : List Variable) (xs : List ℤ) → AllByRecursion SignedRange vs → in_ranges vs xs ≡ true → AllByRecursion IsSigned xs
ranges-signed [] [] all e = tt
ranges-signed [] (x ∷ xs) all e = cc
ranges-signed (v ∷ vs) [] all e = cc
ranges-signed (v ∷ vs) (x ∷ xs) (r, all) e = (within-signed v x r ((and_parts (within v.lo v.hi x) _ e).0), ranges-signed vs xs all ((and_parts (within v.lo v.hi x) _ e).1))

replicate-signed : (n : ℕ) (v : Variable) → SignedRange v → AllByRecursion SignedRange (replicate n v)
replicate-signed zero v r = tt
replicate-signed (suc n) v r = (r, replicate-signed n v r)

cells-signed : (vs : List Variable) → AllByRecursion SignedRange vs → AllByRecursion SignedRange (cell_variables vs)
cells-signed [] all = tt
cells-signed (v ∷ vs) (r, all) = every-joined SignedRange (replicate (cell_count v) v) (cell_variables vs) (replicate-signed (cell_count v) v r) (cells-signed vs all)

-- of the variable at a place, or of the default
place-signed : (vs : List Variable) (v : ℕ) → AllByRecursion SignedRange vs → SignedRange (slice_index_or vs v no_variable)
place-signed [] v all = record { lo = omega arith; hi = omega arith }
place-signed (w ∷ vs) zero (r, all) = r
place-signed (w ∷ vs) (suc v) (r, all) = place-signed vs v all

watched-signed : (g : EventGraph) (watch : List Watched) → AllByRecursion SignedRange g.variables → AllByRecursion SignedRange (variables_watched g watch)
watched-signed g [] all = tt
watched-signed g (WatchedVariable v ∷ watch) all = (place-signed g.variables v all, watched-signed g watch all)
watched-signed g (WatchedVertex v ∷ watch) all = watched-signed g watch all

-- as many values as cell_variables: one at least
some-values : (v : Variable) (values xs : List ℤ) (n : ℕ) → n ≡ cell_count v → IsName v.name → SignedRange v → take (cell_count v) values ≡ xs → in_ranges (replicate n v) xs ≡ true → HasValues v values
some-values v values xs zero count named r are e = absurd (omega (arith, count))
some-values v values [] (suc n) count named r are e = cc
some-values v values (x ∷ xs) (suc n) count named r are e = record { named = named; first = x; others = xs; are = are; signed = ranges-signed (replicate (suc n) v) (x ∷ xs) (replicate-signed (suc n) v r) e }

have-values : (variables : List Variable) (values : List ℤ) → AllByRecursion SpellableVariable variables → in_ranges (cell_variables variables) values ≡ true → HaveValues variables values
have-values [] values spellable e = tt
have-values (v ∷ variables) values (here, spellable) e =
    let (mine, later) = of-variable v variables values e in
    (some-values v values (take (cell_count v) values) (cell_count v) refl here.name (written-range v v.kind here.range) refl mine, have-values variables (drop (cell_count v) values) spellable later)

noted-signed : (vs : List Variable) → AllByRecursion SignedRange vs → (o : Option (List ℤ)) → IfSome o (λ values. IsTrue (in_ranges (cell_variables vs) values)) → IfSome o (λ values. AllByRecursion IsSigned values)
noted-signed vs all None inside = tt
noted-signed vs all (Some values) inside = ranges-signed (cell_variables vs) values (cells-signed vs all) inside

-- ---- the whole

module _ (g : EventGraph) (if_good : KeepsStaticRules g) (spellable : IsSpellable g) where
  named : Named g (names_of g)
  named = named-by g spellable (record { declared_once = if_good.parts.declared_once; begins = begins_as_written g.variables if_good.parts.variables })

  writable_entry : (clock : ℕ) (e : Entry) → IsGoodEntry g clock e → IsWritableEntry g clock e
  writable_entry clock e good = record {
    near = omega (arith, good.near, good.from_now);
    low = omega (arith, good.priority);
    named = (named.vertex e.vertex good.vertex).is_name;
    wide = good.wide;
  }

  writable : (s : SavedRun) → IsGood g s → IsWritable g s
  writable s good =
      let signed : AllByRecursion SignedRange g.variables = every-map SpellableVariable SignedRange (λ v h. written-range v v.kind h.range) g.variables spellable.variables in
      record {
        seed = good.seed;
        clock = omega (arith, good.clock);
        events = omega (arith, good.events);
        streams = omega (arith, good.streams);
        words = good.words;
        values = have-values g.variables s.values spellable.variables good.values;
        noted = noted-signed (variables_watched g g.watch) (watched-signed g g.watch signed) s.noted good.noted;
        pending = every-map (IsGoodEntry g s.clock) (IsWritableEntry g s.clock) (writable_entry s.clock) s.pending good.pending;
      }

  -- the value that is read of the text, which begins at this place
  pub snapshot-at : (at : ℕ) (s : SavedRun) → IsGood g s → (tokens : List Lexeme) × (w : WrittenSnapshot) × (tokens_from at 0 (snapshot_text g s) ≡ Ok tokens) × IsSnapshot tokens w × (bad_at g w ≡ None) × (saved_run g w ≡ s)
  snapshot-at at s good =
      let text = snapshot_text g s in
      let whole = (snapshot-writes g s (writable s good) 0).run at in
      let tokens = whole.1 ++ [] in
      let found = λ (v : ℕ) (below : v < length g.vertices). (named.vertex v below).found in (
        tokens,
        whole.0,
        tokens_from_at at text tokens (Lexes-text at (text ++ []) text tokens (append-nil text) (whole.4 [] [] tt (Lexes-nil (at + length text)))),
        (whole.3 []).1,
        none-is_bad g found s good whole.0 whole.2,
        run-spelled g found s good whole.0 whole.2,
      )
