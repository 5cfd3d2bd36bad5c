-- A loop that writes each item of a list anew in its place: one item more, and its end.
use Rattle.std.proofs.Common.{◌≡◌, ℕ, ◌<◌, ◌≤◌, ◌+◌, List, ◌++◌, map, take, drop, length, get_or, set, ap, ◌∙◌, arith, add-one}
use Rattle.std.proofs.lemmas.List.{take_at}
use Rattle.sig_base.proofs.Lists.{ChangedTo, ChangedTo-step, ChangedTo-all, ChangedTo-length}

-- the first i items of ys are those of xs written anew, seen by view, and the others are those of xs
pub record WrittenAnew {A B : Type 0} (view : A → B) (anew : B → B) (i : ℕ) (xs ys : List A) : Type 0 where
  pub changed : ChangedTo view anew i xs ys

module _ {A B : Type 0} {view : A → B} {anew : B → B} {i : ℕ} {xs ys : List A} (so_far : WrittenAnew view anew i xs ys) where
  same_length : length ys ≡ length xs
  same_length = ChangedTo-length view anew i xs ys so_far.changed

  pub one_written : (x y : A) → i < length xs → view y ≡ anew (view (get_or ys i x)) → WrittenAnew view anew (i + 1) xs (set ys i y)
  one_written x y below becomes = record { changed = rw add-one (ChangedTo-step view anew i xs ys x y (omega (arith, same_length, below)) becomes so_far.changed) }

  -- the items were lent by a vector, of which they are all
  pub all_written : (items : List A) (n : ℕ) → length xs ≤ i → i ≤ length xs → n ≡ length items → xs ≡ items → map view (take n (ys ++ drop (length ys) items)) ≡ map anew (map view items)
  all_written items n beyond within long lent =
      ap (map view) (take_at ys _ n (omega (arith, same_length, long, ap length lent)))
      ∙ ChangedTo-all view anew i xs ys (omega (arith, same_length)) so_far.changed
      ∙ ap (λ (zs : List A). map anew (map view zs)) lent
