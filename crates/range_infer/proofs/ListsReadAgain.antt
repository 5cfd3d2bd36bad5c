-- What the parts in the lists of the variables that moved give serves in place of what all parts give.
use Rattle.std.proofs.Common.{◌≡◌, inr, ℕ, zero, suc, ◌+◌, ◌<◌, Bool, true, false, List, [], ◌∷◌, ◌++◌, below_more, length, map, slice_index_or, Contains, sym, ◌∙◌, ap, subst, arith}
use Rattle.std.specs.List.{flat_map}
use Rattle.model_core.specs.EventGraph.{EventGraph}
use Rattle.model_core.specs.declared.incoming.Incoming.{Incoming}
use Rattle.model_core.specs.declared.var_range.VarRange.{VarRange}
use Rattle.model_core.specs.Ranges.OtherRanges.{with_ranges}
use Rattle.model_core.proofs.Among.{Among, among-contained, contained-among, among-front, among-back}
use Rattle.range_infer.specs.declared.part_reads.VertexReads.{VertexReads}
use Rattle.range_infer.specs.declared.readers.PartPlace.{PartPlace}
use Rattle.range_infer.specs.Inner.Moved.{is_moved, MarksMoved}
use Rattle.range_infer.specs.Inner.PartReads.{parts_read}
use Rattle.range_infer.specs.Inner.Readers.{part_vars, readers_in, HasReaders}
use Rattle.range_infer.specs.Inner.LookedAt.{part_seen, TakesAgain}
use Rattle.range_infer.proofs.ReadersFound.{reader-found}

moved_small : (moved : List Bool) (v : ℕ) → is_moved moved v ≡ true → v < length moved
moved_small [] v is = cc
moved_small (b ∷ moved) zero is = omega arith
moved_small (b ∷ moved) (suc v) is = omega (arith, moved_small moved v is)

pub by_lists : (g : EventGraph) (old new : List VarRange) (moved : List Bool) (n : ℕ) → length moved ≡ n → MarksMoved old new moved
    → (reads : List VertexReads) → reads ≡ map parts_read g.vertices → (readers : List (List PartPlace)) → readers ≡ readers_in n reads
    → (parts : List PartPlace) → HasReaders moved readers (length moved) parts → (takes : List Incoming) → takes ≡ flat_map (part_seen g false moved (with_ranges g.variables new) g.vertices) parts
    → TakesAgain g old new takes
by_lists g old new moved n many marks reads read readers made parts has takes taken = record {
  moved = moved;
  marks = marks;
  are = inr (record {
    parts = parts;
    are_all = λ p v reads_it is.
        let all = map parts_read g.vertices in
        let none : List PartPlace = [] in
        let small : v < length moved = moved_small moved v is in
        let found = contained-among (slice_index_or (readers_in n all) v none) p (reader-found n v (omega (arith, many, small)) all p (among-contained (part_vars all p) v reads_it)) in
        has v small is p (subst (λ (rs : List (List PartPlace)). Contains (slice_index_or rs v none) p) (sym (made ∙ ap (readers_in n) read)) found);
    are = taken;
  });
}

-- one list more
pub lists_more : (moved : List Bool) (readers : List (List PartPlace)) (n : ℕ) (parts of_one new : List PartPlace) → HasReaders moved readers n parts → of_one ≡ slice_index_or readers n [] → new ≡ parts ++ of_one → HasReaders moved readers (n + 1) new
lists_more moved readers n parts of_one new has given added =
    let none : List PartPlace = [] in
    let Here : ℕ → Type 0 = λ v. is_moved moved v ≡ true → (p : PartPlace) → Contains (slice_index_or readers v none) p → Contains new p in
    let into : (p : PartPlace) → Among p (parts ++ of_one) → Contains new p = λ p there. contained-among new p (subst (Among p) (sym added) there) in
    below_more Here n (λ v small is p of. into p (among-front parts of_one p (among-contained parts p (has v small is p of))))
    (λ is p of. into p (among-back parts of_one p (subst (Among p) (sym given) (among-contained (slice_index_or readers n none) p of))))

-- none is added where the next one didn't move
pub lists_stay : (moved : List Bool) (readers : List (List PartPlace)) (n : ℕ) (parts : List PartPlace) → HasReaders moved readers n parts → is_moved moved n ≡ false → HasReaders moved readers (n + 1) parts
lists_stay moved readers n parts has stays =
    let none : List PartPlace = [] in
    let Here : ℕ → Type 0 = λ v. is_moved moved v ≡ true → (p : PartPlace) → Contains (slice_index_or readers v none) p → Contains parts p in
    below_more Here n has (λ is p of. let no : ⊥ = cc in absurd no)
