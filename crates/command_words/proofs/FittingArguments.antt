-- What holds of arguments that join: the options are declared, and each of them and the command come once. And the
-- other way round: arguments of which this is so join.
use Rattle.std.proofs.Common.{◌≡◌, ◌∙◌, ◌≤◌, ◌++◌, ℕ, Bool, true, false, not, bytes_eq, refl, sym, ap, arith, List, [], ◌∷◌, codes, length, option_to_list}
use Rattle.std.proofs.lemmas.Cmp.{nat_list_eq_equiv}
use Rattle.std.proofs.Math.Bool.{or-false}
use Rattle.std.proofs.lemmas.Bool.{and_parts, not-true, or_left, or_right}
use Rattle.clap.specs.Walk.{first_of, has_row}
use Rattle.command_words.specs.Arguments.{PlainArgument, CommandWord, Setting, command_words, values_of, has_only_options}
use Rattle.command_words.proofs.RulesByName.{apart, itself, has_name, same_name}
use Rattle.command_words.proofs.JoinedArguments.{Arguments, command_more, fits, has_command, is_given, is_declared, may_join, row_more, rows_for}

-- ---- what joins

-- the argument that joins is declared and new, and the rest joins after it
first_declared : (names : List (List ℕ)) (given : Arguments) (x : PlainArgument) (more : Arguments) → fits names given (x ∷ more) ≡ true → is_declared names x ≡ true
first_declared names given x more fit = (and_parts (is_declared names x) (not (is_given given x)) (and_parts (may_join names given x) (fits names (given ++ x ∷ []) more) fit).0).0

here_new : (names : List (List ℕ)) (given : Arguments) (x : PlainArgument) (more : Arguments) → fits names given (x ∷ more) ≡ true → is_given given x ≡ false
here_new names given x more fit =
    not-true (is_given given x) (and_parts (is_declared names x) (not (is_given given x)) (and_parts (may_join names given x) (fits names (given ++ x ∷ []) more) fit).0).1

rest_fits : (names : List (List ℕ)) (given : Arguments) (x : PlainArgument) (more : Arguments) → fits names given (x ∷ more) ≡ true → fits names (given ++ x ∷ []) more ≡ true
rest_fits names given x more fit = (and_parts (may_join names given x) (fits names (given ++ x ∷ []) more) fit).1

-- the options are declared
pub options_declared : (names : List (List ℕ)) (given more : Arguments) → fits names given more ≡ true → has_only_options names more ≡ true
options_declared names given [] fit = refl
options_declared names given (CommandWord word ∷ more) fit = options_declared names (given ++ CommandWord word ∷ []) more (rest_fits names given (CommandWord word) more fit)
options_declared names given (Setting name value ∷ more) fit =
    rw (first_declared names given (Setting name value) more fit) (options_declared names (given ++ Setting name value ∷ []) more (rest_fits names given (Setting name value) more fit))

-- an option that is given isn't given again
none_again : (names : List (List ℕ)) (name : List ℕ) (given more : Arguments) → has_row name (rows_for given) ≡ true → fits names given more ≡ true → values_of name more ≡ []
none_again names name given [] here fit = refl
none_again names name given (CommandWord word ∷ more) here fit =
    none_again names name (given ++ CommandWord word ∷ []) more
    (row_more name given (CommandWord word) (bytes_eq (codes "command") name) refl ∙ or_left (has_row name (rows_for given)) _ here) (rest_fits names given (CommandWord word) more fit)
none_again names name given (Setting other value ∷ more) here fit = go (bytes_eq other name) refl (none_again names name (given ++ Setting other value ∷ []) more
    (row_more name given (Setting other value) (bytes_eq other name) refl ∙ or_left (has_row name (rows_for given)) _ here) (rest_fits names given (Setting other value) more fit))
  where
    go : (b : Bool) → bytes_eq other name ≡ b → values_of name more ≡ [] → values_of name (Setting other value ∷ more) ≡ []
    go false e rest = rw e rest
    go true e rest = absurd (let wrong : false ≡ true = sym (here_new names given (Setting other value) more fit) ∙ ap (λ n. has_row n (rows_for given)) (same_name other name e) ∙ here in cc)

-- so the values of an option are those of its row
pub option_once : (names : List (List ℕ)) (name : List ℕ) → has_name names (codes "command") ≡ false → has_name names name ≡ true → (given more : Arguments) → fits names given more ≡ true
    → values_of name more ≡ option_to_list (first_of name (rows_for more))
option_once names name none here given [] fit = refl
option_once names name none here given (CommandWord word ∷ more) fit =
    rw (apart names name (codes "command") here none) (option_once names name none here (given ++ CommandWord word ∷ []) more (rest_fits names given (CommandWord word) more fit))
option_once names name none here given (Setting other value ∷ more) fit = go (bytes_eq other name) refl (option_once names name none here (given ++ Setting other value ∷ []) more (rest_fits names given (Setting other value) more fit))
  where
    go : (b : Bool) → bytes_eq other name ≡ b → values_of name more ≡ option_to_list (first_of name (rows_for more))
        → values_of name (Setting other value ∷ more) ≡ option_to_list (first_of name (rows_for (Setting other value ∷ more)))
    go false e rest = rw e rest
    go true e rest = rw e (ap (λ vs. value ∷ vs) (none_again names name (given ++ Setting other value ∷ []) more
        (row_more name given (Setting other value) true e ∙ or_right (has_row name (rows_for given)) true refl) (rest_fits names given (Setting other value) more fit)))

-- the same of the command
no_second : (names : List (List ℕ)) (given more : Arguments) → has_command given ≡ true → fits names given more ≡ true → command_words more ≡ []
no_second names given [] here fit = refl
no_second names given (CommandWord word ∷ more) here fit = absurd (let wrong : false ≡ true = sym (here_new names given (CommandWord word) more fit) ∙ here in cc)
no_second names given (Setting name value ∷ more) here fit =
    no_second names (given ++ Setting name value ∷ []) more
    (row_more (codes "command") given (Setting name value) (bytes_eq name (codes "command")) refl ∙ or_left (has_command given) _ here) (rest_fits names given (Setting name value) more fit)

pub command_once : (names : List (List ℕ)) → has_name names (codes "command") ≡ false → (given more : Arguments) → fits names given more ≡ true
    → command_words more ≡ option_to_list (first_of (codes "command") (rows_for more))
command_once names none given [] fit = refl
command_once names none given (CommandWord word ∷ more) fit =
    ap (λ ws. word ∷ ws) (no_second names (given ++ CommandWord word ∷ []) more (command_more given word) (rest_fits names given (CommandWord word) more fit))
command_once names none given (Setting name value ∷ more) fit =
    rw (nat_list_eq_equiv.symm name (codes "command") ∙ apart names name (codes "command") (first_declared names given (Setting name value) more fit) none)
    (command_once names none (given ++ Setting name value ∷ []) more (rest_fits names given (Setting name value) more fit))

-- ---- what is so of arguments that join

-- each option is declared and has one value at most, which no option before has, and one command is among all
pub record Fit (names : List (List ℕ)) (given more : Arguments) : Type 0 where
  pub declared_options : has_only_options names more ≡ true
  pub once : (name : List ℕ) → has_name names name ≡ true → length (values_of name more) ≤ 1
  pub new : (name : List ℕ) → has_name names name ≡ true → has_row name (rows_for given) ≡ true → values_of name more ≡ []
  pub no_other : has_command given ≡ true → command_words more ≡ []
  pub needed : has_command given ≡ false → length (command_words more) ≡ 1

fit_command : (names : List (List ℕ)) (given : Arguments) (word : List ℕ) (more : Arguments) → has_name names (codes "command") ≡ false → Fit names given (CommandWord word ∷ more)
    → (has_command given ≡ false) × Fit names (given ++ CommandWord word ∷ []) more
fit_command names given word more none fit = (
  first (has_command given) refl,
  record {
    declared_options = fit.declared_options;
    once = fit.once;
    new = λ name here row. fit.new name here (before name here row);
    no_other = λ _. alone (first (has_command given) refl);
    needed = λ none. absurd (let wrong : true ≡ false = sym (command_more given word) ∙ none in cc);
  },
)
  where
    first : (b : Bool) → has_command given ≡ b → has_command given ≡ false
    first false e = e
    first true e = absurd (let wrong : word ∷ command_words more ≡ [] = fit.no_other e in cc)

    alone : has_command given ≡ false → command_words more ≡ []
    alone e = empty (command_words more) (fit.needed e)
      where
        empty : (ws : List (List ℕ)) → length (word ∷ ws) ≡ 1 → ws ≡ []
        empty [] one = refl
        empty (w ∷ ws) one = absurd (omega (arith, one))

    before : (name : List ℕ) → has_name names name ≡ true → has_row name (rows_for (given ++ CommandWord word ∷ [])) ≡ true → has_row name (rows_for given) ≡ true
    before name here row =
        sym (or-false (has_row name (rows_for given))) ∙ sym (row_more name given (CommandWord word) false (apart names name (codes "command") here none)) ∙ row

fit_setting : (names : List (List ℕ)) (given : Arguments) (name value : List ℕ) (more : Arguments) → has_name names (codes "command") ≡ false → Fit names given (Setting name value ∷ more)
    → (has_name names name ≡ true) × (has_row name (rows_for given) ≡ false) × Fit names (given ++ Setting name value ∷ []) more
fit_setting names given name value more none fit = (
  here,
  fresh (has_row name (rows_for given)) refl,
  record {
    declared_options = (and_parts (has_name names name) (has_only_options names more) fit.declared_options).1;
    once = λ other there. fewer other (bytes_eq name other) refl (fit.once other there);
    new = λ other there row. later other there (bytes_eq name other) refl row;
    no_other = λ some. fit.no_other (sym same ∙ some);
    needed = λ some. fit.needed (sym same ∙ some);
  },
)
  where
    here : has_name names name ≡ true
    here = (and_parts (has_name names name) (has_only_options names more) fit.declared_options).0

    its_own : values_of name (Setting name value ∷ more) ≡ value ∷ values_of name more
    its_own = rw (itself name) refl

    fresh : (b : Bool) → has_row name (rows_for given) ≡ b → has_row name (rows_for given) ≡ false
    fresh false e = e
    fresh true e = absurd (let wrong : value ∷ values_of name more ≡ [] = sym its_own ∙ fit.new name here e in cc)

    alone : (vs : List (List ℕ)) → length (value ∷ vs) ≤ 1 → vs ≡ []
    alone [] one = refl
    alone (v ∷ vs) one = absurd (omega (arith, one))

    fewer : (other : List ℕ) (b : Bool) → bytes_eq name other ≡ b → length (values_of other (Setting name value ∷ more)) ≤ 1 → length (values_of other more) ≤ 1
    fewer other true e most = let fact : length (value ∷ values_of other more) ≤ 1 = (rw e at most) in omega (arith, fact)
    fewer other false e most = rw e at most

    later : (other : List ℕ) → has_name names other ≡ true → (b : Bool) → bytes_eq name other ≡ b → has_row other (rows_for (given ++ Setting name value ∷ [])) ≡ true → values_of other more ≡ []
    later other there true e row = alone (values_of other more) (rw e at (fit.once other there))
    later other there false e row =
        rw e at (fit.new other there (sym (or-false (has_row other (rows_for given))) ∙ sym (row_more other given (Setting name value) false e) ∙ row))

    same : has_command (given ++ Setting name value ∷ []) ≡ has_command given
    same = row_more (codes "command") given (Setting name value) false (nat_list_eq_equiv.symm name (codes "command") ∙ apart names name (codes "command") here none) ∙ or-false (has_command given)

-- they join
pub fit-fits : (names : List (List ℕ)) → has_name names (codes "command") ≡ false → (more given : Arguments) → Fit names given more → fits names given more ≡ true
fit-fits names none [] given fit = go (has_command given) refl
  where
    go : (b : Bool) → has_command given ≡ b → has_command given ≡ true
    go true e = e
    go false e = absurd (omega (arith, fit.needed e))
fit-fits names none (CommandWord word ∷ more) given fit =
    let (new, rest) = fit_command names given word more none fit in
    rw new (fit-fits names none more (given ++ CommandWord word ∷ []) rest)
fit-fits names none (Setting name value ∷ more) given fit =
    let (here, new, rest) = fit_setting names given name value more none fit in
    rw (here, new) (fit-fits names none more (given ++ Setting name value ∷ []) rest)
