-- What `clap` holds between two words, and how the pending argument ends.
use Rattle.std.proofs.Common.{◌≡◌, ◌∙◌, ◌&&◌, ℕ, Bool, true, false, cond, refl, sym, ap, List, [], ◌∷◌, ◌++◌, Option, Some, None, codes, append-nil, option_map, option_to_list}
use Rattle.std.specs.Prelude.{IfSome}
use Rattle.clap.specs.Walk.{Held, Row, Rule, Text, has_row, more_values, settled, used}
use Rattle.clap.specs.Kinds.{Kinds, or_else}
use Rattle.clap.specs.Faults.{settle_fault, use_fault}
use Rattle.clap.specs.declared.error.kind.ErrorKind.{ErrorKind}
use Rattle.clap.specs.declared.error.kind.ErrorKind.TheVariants as kind
use Rattle.clap.specs.declared.parser.matches.ValueSource.TheVariants.{CommandLine}
use Rattle.command_words.specs.Arguments.{PlainArgument, CommandWord, Setting}
use Rattle.command_words.proofs.RulesByName.{built_word, built_option, built_rules, has_name, by_id}
use Rattle.command_words.proofs.JoinedArguments.{Arguments, id_of, text_of, row_for, rows_for, is_declared, is_given, row_added, rows_more}

-- the rows of the arguments that are given, and an argument whose values come
abbrev pub holding : List Row → Option (Text × List Text) → Held
holding rows pending = record { rows = rows; pending = pending; skip = 0 }

abbrev pub pending_for : PlainArgument → Text × List Text
pending_for x = (id_of x, text_of x ∷ [])

abbrev pub held_for : Arguments → Option PlainArgument → Held
held_for given pending = holding (rows_for given) (option_map pending_for pending)

-- the arguments with the pending one, where it isn't given already
abbrev pub settle : Arguments → Option PlainArgument → Option Arguments
settle given None = Some given
settle given (Some x) = cond (is_given given x) None (Some (given ++ x ∷ []))

-- the rule of an argument
abbrev pub rule_for : PlainArgument → Rule
rule_for (CommandWord word) = built_word
rule_for (Setting name value) = built_option name

-- one use of it with one text fails where it is given already, and else adds its row
abbrev pub again : Bool → Kinds
again given = cond given (kind.ArgumentConflict ∷ []) []

again_is : (b : Bool) → or_else (cond (b && true) (kind.ArgumentConflict ∷ []) []) [] ≡ again b
again_is true = refl
again_is false = refl

pub use_is : (x : PlainArgument) (rows : List Row) → use_fault false (rule_for x) (text_of x ∷ []) rows ≡ again (has_row (id_of x) rows)
use_is (CommandWord word) rows = again_is (has_row (codes "command") rows)
use_is (Setting name value) rows = again_is (has_row name rows)

pub used_is : (x : PlainArgument) (rows : List Row) → has_row (id_of x) rows ≡ false → used (rule_for x) (text_of x ∷ []) rows ≡ rows ++ row_for x ∷ []
used_is (CommandWord word) rows none = rw (row_added (codes "command") (λ _. []) [] rows none, append-nil rows) (row_added (codes "command") (more_values CommandLine (word ∷ [])) (row_for (CommandWord word) ∷ []) rows none)
used_is (Setting name value) rows none = rw (row_added name (λ _. []) [] rows none, append-nil rows) (row_added name (more_values CommandLine (value ∷ [])) (row_for (Setting name value) ∷ []) rows none)

-- what settling comes to: the pending argument joins the others, or it is refused
pub data Settling (names : List (List ℕ)) (given : Arguments) (pending : Option PlainArgument) : Type 0 where
  joins : (all : Arguments) → settle given pending ≡ Some all → all ≡ given ++ option_to_list pending → settle_fault (built_rules names) false (held_for given pending) ≡ []
      → settled (built_rules names) (held_for given pending) ≡ held_for all None → Settling names given pending
  clashes : (k : ErrorKind) (ks : Kinds) → settle given pending ≡ None → settle_fault (built_rules names) false (held_for given pending) ≡ k ∷ ks → Settling names given pending

-- what `clap` does to the pending argument
settle_fault_at : (names : List (List ℕ)) → has_name names (codes "command") ≡ false → (rows : List Row) (x : PlainArgument) → is_declared names x ≡ true
    → settle_fault (built_rules names) false (holding rows (Some (pending_for x))) ≡ again (has_row (id_of x) rows)
settle_fault_at names none rows (CommandWord word) here = use_is (CommandWord word) rows
settle_fault_at names none rows (Setting name value) here = rw (by_id names name none here) (use_is (Setting name value) rows)

settled_at : (names : List (List ℕ)) → has_name names (codes "command") ≡ false → (rows : List Row) (x : PlainArgument) → is_declared names x ≡ true → has_row (id_of x) rows ≡ false
    → settled (built_rules names) (holding rows (Some (pending_for x))) ≡ holding (rows ++ row_for x ∷ []) None
settled_at names none rows (CommandWord word) here free = ap (λ rs. holding rs None) (used_is (CommandWord word) rows free)
settled_at names none rows (Setting name value) here free = rw (by_id names name none here) (ap (λ rs. holding rs None) (used_is (Setting name value) rows free))

pub settling : (names : List (List ℕ)) → has_name names (codes "command") ≡ false → (given : Arguments) (pending : Option PlainArgument) → IfSome pending (λ x. is_declared names x ≡ true) → Settling names given pending
settling names none given None here = joins given refl (sym (append-nil given)) refl refl
settling names none given (Some x) here = go (is_given given x) refl
  where
    go : (b : Bool) → is_given given x ≡ b → Settling names given (Some x)
    go true e = clashes kind.ArgumentConflict [] (rw e) (settle_fault_at names none (rows_for given) x here ∙ ap again e)
    go false e = joins (given ++ x ∷ []) (rw e) refl (settle_fault_at names none (rows_for given) x here ∙ ap again e)
        (settled_at names none (rows_for given) x here e ∙ ap (λ rs. holding rs None) (sym (rows_more given x)))
