-- From what was taken of the input to how far it was read.
use Rattle.std.proofs.Common.{◌≡◌, ℕ, ◌+◌, ◌≤◌, ◌<◌, Result, Ok, Err, List, [], length, drop, Option, Some, None, sym, ap, ◌∙◌, arith}
use Rattle.std.specs.Prelude.{IfSome}
use Rattle.std.proofs.lemmas.List.{drop_all}
use Rattle.sig_base.specs.Source.{Inlet, Takes}
use Rattle.job_answers.specs.Answers.{IsWithin, IsOver}
use Rattle.sigma_top.specs.StatusTable.{text_of, IsReadToEnd, IsReadThrough, IsReadInPart}

-- ---- what the take of all bytes says, clause by clause

pub no_error : {T E : Type 0} {x : T} {a : E} → Ok x ≡ Err a → ⊥
no_error e = cc

-- one error is no other
pub other_error : {T E : Type 0} (r : Result T E) (a b : E) → (a ≡ b → ⊥) → r ≡ Err a → r ≡ Err b → ⊥
other_error r a b differ is e = differ cc

pub all_taken : (left now : Option (List ℕ)) (text : List ℕ) → IfSome left (λ bytes. (text ≡ bytes) × (now ≡ Some [])) → IfSome left (λ bytes. text ≡ bytes)
all_taken None now text all = tt
all_taken (Some bytes) now text all = all.0

pub taken_to_end : (left now : Option (List ℕ)) (text : List ℕ) → IfSome left (λ bytes. (text ≡ bytes) × (now ≡ Some [])) → IfSome left (λ bytes. now ≡ Some [])
taken_to_end None now text all = tt
taken_to_end (Some bytes) now text all = all.1

pub long_taken : (left now : Option (List ℕ)) (limit : ℕ) → IfSome left (λ bytes. (limit < length bytes) × (now ≡ Some (drop (limit + 1) bytes))) → IfSome left (IsOver (Some limit))
long_taken None now limit long = tt
long_taken (Some bytes) now limit long = long.0

pub taken_past : (left now : Option (List ℕ)) (limit : ℕ) → IfSome left (λ bytes. (limit < length bytes) × (now ≡ Some (drop (limit + 1) bytes))) → IfSome left (λ bytes. now ≡ Some (drop (limit + 1) bytes))
taken_past None now limit long = tt
taken_past (Some bytes) now limit long = long.1

pub taken_in_part : (left now : Option (List ℕ)) (limit n : ℕ) → n ≤ limit + 1 → Takes left now n → IfSome left (λ bytes. (k : ℕ) × (k ≤ limit + 1) × (now ≡ Some (drop k bytes)))
taken_in_part None now limit n within takes = tt
taken_in_part (Some bytes) now limit n within takes = (n, within, takes.1)

-- ---- from one to the other

nothing_behind : (limit : ℕ) (bytes text : List ℕ) → text ≡ bytes → length text ≤ limit → drop (limit + 1) bytes ≡ []
nothing_behind limit bytes text same within = drop_all (limit + 1) bytes (omega (arith, ap length same, within))

through_to_end : (left now : Option (List ℕ)) (limit : ℕ) (text : List ℕ) → IfSome left (λ bytes. text ≡ bytes) → length text ≤ limit → IfSome left (λ bytes. now ≡ Some []) → IfSome left (λ bytes. now ≡ Some (drop (limit + 1) bytes))
through_to_end None now limit text same within read = tt
through_to_end (Some bytes) now limit text same within read = read ∙ ap Some (sym (nothing_behind limit bytes text same within))

part_of_through : (left now : Option (List ℕ)) (limit : ℕ) → IfSome left (λ bytes. now ≡ Some (drop (limit + 1) bytes)) → IfSome left (λ bytes. (n : ℕ) × (n ≤ limit + 1) × (now ≡ Some (drop n bytes)))
part_of_through None now limit read = tt
part_of_through (Some bytes) now limit read = (limit + 1, omega arith, read)

module _ {S : Type 0} (seen : S → Inlet) (i j : S) where
  -- a text within the limit that was read to its end was read through
  pub read_through : (limit : Option ℕ) (text : List ℕ) → IfSome (text_of limit (seen i).left) (λ bytes. text ≡ bytes) → IsWithin limit text → IsReadToEnd seen limit i j → IsReadThrough seen limit i j
  read_through None text same within read = read
  read_through (Some limit) text same within read = through_to_end (seen i).left (seen j).left limit text same within read

  -- what was read through was read in part
  pub read_in_part : (limit : Option ℕ) → IsReadThrough seen limit i j → IsReadInPart seen limit i j
  read_in_part None read = read
  read_in_part (Some limit) read = part_of_through (seen i).left (seen j).left limit read
