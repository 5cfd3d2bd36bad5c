-- The call of `sigma` ends with a status, and no two statuses have one number.
use Rattle.std.proofs.Common.{◌≡◌, ℕ, ◌==◌, cond, List, Result, Ok, Err, map, vec_items, refl, sym, ap, ◌∙◌, subst}
use Rattle.std.specs.Prelude.{IfOk}
use Rattle.std.specs.Process.{exit_status}
use Rattle.std.specs.String.{string_bytes}
use Rattle.sig_base.specs.Sink.{Outlet}
use Rattle.sig_base.specs.Source.{Inlet}
use Rattle.answer_delivery.specs.declared.status.Status.{Status}
use Rattle.answer_delivery.specs.declared.status.Status.TheVariants as statuses
use Rattle.answer_delivery.specs.Statuses.{exit_status_of}
use Rattle.sigma_top.specs.Comparisons.{ComparesModels}
use Rattle.sigma_top.specs.Promises.{KeepsPromises}
use Rattle.sigma_top.specs.StatusTable.{Ends}
use Rattle.sigma_top.proofs.exit_status.program.Goals as goal

-- the status that has a number
status_at : ℕ → Status
status_at n =
    cond (n == 0) statuses.Done (cond (n == 1) statuses.Refused (cond (n == 2) statuses.Usage (
    cond (n == 3) statuses.ReadFault (cond (n == 4) statuses.WriteFault (cond (n == 5) statuses.NoMemory (
    cond (n == 6) statuses.ModelFault (cond (n == 7) statuses.Budget (cond (n == 8) statuses.Rejected (
    cond (n == 9) statuses.BadStart (cond (n == 10) statuses.Finished (cond (n == 11) statuses.TooLarge (
    cond (n == 12) statuses.Differs statuses.Unknown))))))))))))

status_at-number : (status : Status) → status_at (exit_status_of status) ≡ status
unfolding status_at
status_at-number statuses.Done = refl
status_at-number statuses.Refused = refl
status_at-number statuses.Usage = refl
status_at-number statuses.ReadFault = refl
status_at-number statuses.WriteFault = refl
status_at-number statuses.NoMemory = refl
status_at-number statuses.ModelFault = refl
status_at-number statuses.Budget = refl
status_at-number statuses.Rejected = refl
status_at-number statuses.BadStart = refl
status_at-number statuses.Finished = refl
status_at-number statuses.TooLarge = refl
status_at-number statuses.Differs = refl
status_at-number statuses.Unknown = refl

-- no two statuses have one number
is_that : (exit : ℕ) (status s : Status) → exit ≡ exit_status_of status → exit ≡ exit_status_of s → status ≡ s
is_that exit status s is same = sym (status_at-number status) ∙ (ap status_at (sym is ∙ same) ∙ status_at-number s)

-- what is promised at a status is promised at its exit status
at_exit : (exit : ℕ) (status : Status) (words : List (List ℕ)) (input : Inlet) (before after : Outlet) → exit ≡ exit_status_of status
    → KeepsPromises (λ s. status ≡ s) words input before after → KeepsPromises (λ s. exit ≡ exit_status_of s) words input before after
at_exit exit status words input before after is kept = record {
  printed = λ asked zero. kept.printed asked (done zero);
  reduced = λ asked zero. kept.reduced asked (done zero);
  fused = λ asked zero. kept.fused asked (done zero);
  narrowed = λ asked zero. kept.narrowed asked (done zero);
  saved = λ options asked zero. kept.saved options asked (done zero);
  resumed = λ options asked read wrote held. kept.resumed options asked (λ e. read (number_is e)) (λ e. wrote (number_is e)) (λ e. held (number_is e));
  certified = λ asked zero. kept.certified asked (done zero);
}
  where
    done : exit ≡ 0 → status ≡ statuses.Done
    done zero = is_that exit status statuses.Done is zero

    number_is : {s : Status} → status ≡ s → exit ≡ exit_status_of s
    number_is e = is ∙ ap exit_status_of e

-- what the answers of `compare` mean at a status, they mean at its exit status
compared_at_exit : (exit : ℕ) (status : Status) (words : List (List ℕ)) (input : Inlet) (before after : Outlet) → exit ≡ exit_status_of status
    → ComparesModels (λ s. status ≡ s) words input before after → ComparesModels (λ s. exit ≡ exit_status_of s) words input before after
compared_at_exit exit status words input before after is kept = record {
  same = λ options asked number. kept.same options asked (is_that exit status statuses.Done is number);
  differ = λ options asked number. kept.differ options asked (is_that exit status statuses.Differs is number);
  unknown = λ options asked number. kept.unknown options asked (is_that exit status statuses.Unknown is number);
}

-- what holds of the words that were lent holds of the words
of_words : {A B E : Type 0} (words : Result A E) (given : A) (items : A → B) (shown : B) (P : B → Type 0) → words ≡ Ok given → shown ≡ items given → P shown → IfOk words (λ w. P (items w))
of_words (Ok w) given items shown P is lent h = let same : w ≡ given = cc in subst (λ v. P (items v)) (sym same) (subst P lent h)
of_words (Err e) given items shown P is lent h = tt

pub returns-in-Ok-clause-ended : goal.returns-in-Ok-clause-ended
returns-in-Ok-clause-ended g c =
    of_words c.args.words c.in-Ok.words vec_items c.deref.result.now
    (λ words. (status : Status) × (exit_status c.from.result ≡ exit_status_of status)
    × Ends g.S.Source.seen g.K.Sink.seen g.E.Sink.seen (map string_bytes words) c.args.input.now c.sigma.new.input
    c.args.output.now c.sigma.new.output c.args.errors.now c.sigma.new.errors status)
    c.in-Ok.is c.deref.ensures.value (c.sigma.result, c.from.ensures ∙ c.number.ensures, c.sigma.ensures.ends)

pub returns-in-Ok-clause-promises : goal.returns-in-Ok-clause-promises
returns-in-Ok-clause-promises g c =
    of_words c.args.words c.in-Ok.words vec_items c.deref.result.now
    (λ words. KeepsPromises (λ status. exit_status c.from.result ≡ exit_status_of status) (map string_bytes words) (g.S.Source.seen c.args.input.now)
    (g.K.Sink.seen c.args.output.now) (g.K.Sink.seen c.sigma.new.output))
    c.in-Ok.is c.deref.ensures.value
    (at_exit (exit_status c.from.result) c.sigma.result (map string_bytes c.deref.result.now) (g.S.Source.seen c.args.input.now)
    (g.K.Sink.seen c.args.output.now) (g.K.Sink.seen c.sigma.new.output) (c.from.ensures ∙ c.number.ensures) c.sigma.ensures.promises)

pub returns-in-Ok-clause-compared : goal.returns-in-Ok-clause-compared
returns-in-Ok-clause-compared g c =
    of_words c.args.words c.in-Ok.words vec_items c.deref.result.now
    (λ words. ComparesModels (λ status. exit_status c.from.result ≡ exit_status_of status) (map string_bytes words) (g.S.Source.seen c.args.input.now)
    (g.K.Sink.seen c.args.output.now) (g.K.Sink.seen c.sigma.new.output))
    c.in-Ok.is c.deref.ensures.value
    (compared_at_exit (exit_status c.from.result) c.sigma.result (map string_bytes c.deref.result.now) (g.S.Source.seen c.args.input.now)
    (g.K.Sink.seen c.args.output.now) (g.K.Sink.seen c.sigma.new.output) (c.from.ensures ∙ c.number.ensures) c.sigma.ensures.compared)
