-- Each exit says which bytes were taken.
use Rattle.std.proofs.Common.{◌≡◌, ◌∙◌, Option, ℕ, Ok, Err, refl, ap, sym, subst}
use Rattle.sig_base.specs.declared.take_error.TakeError.TheVariants as errors
use Rattle.sigma_top.specs.declared.text_taking.TakenText.TheVariants as taken
use Rattle.answer_delivery.specs.declared.status.Failure.TheVariants as failures
use Rattle.sigma_top.specs.Inner.CallSteps.{TakesText}
use Rattle.sigma_top.proofs.InputRead.{no_error, other_error, all_taken, taken_to_end, long_taken, taken_past, taken_in_part}
use Rattle.sigma_top.proofs.text_taking.take_text.Goals as goal

too_long_is_no_fault : errors.TooLong ≡ errors.ReadFault → ⊥
too_long_is_no_fault e = cc

no_memory_is_no_fault : errors.NoMemory ≡ errors.ReadFault → ⊥
no_memory_is_no_fault e = cc

pub returns-in-Ok : goal.returns-in-Ok
returns-in-Ok g c =
    let i = c.args.input.now in
    let j = c.take_all.new.source in
    let left = (g.S.Source.seen i).left in
    let now = (g.S.Source.seen j).left in
    let text = c.in-Ok.text in
    let e = c.in-Ok.ensures in
    subst (λ (limit : Option ℕ). TakesText g.S.Source.seen limit (Ok (taken.Whole text)) i j) (sym c.in-Some.is)
    (all_taken left now text e.all, e.within, taken_to_end left now text e.all, e.steady no_error)

pub returns-in-Err-TooLong : goal.returns-in-Err-TooLong
returns-in-Err-TooLong g c =
    let i = c.args.input.now in
    let j = c.take_all.new.source in
    let left = (g.S.Source.seen i).left in
    let now = (g.S.Source.seen j).left in
    let failed = c.in-Err-TooLong.is ∙ ap (λ e. Err e) c.in-Err-TooLong.field-0-is in
    let long = c.take_all.ensures.too_long failed in
    let limit = c.in-Some.limit in
    subst (λ (limit : Option ℕ). TakesText g.S.Source.seen limit (Ok taken.TooLong) i j) (sym c.in-Some.is)
    (long_taken left now limit long, taken_past left now limit long, c.take_all.ensures.steady (other_error c.take_all.result errors.TooLong errors.ReadFault too_long_is_no_fault failed))

pub returns-in-Err-ReadFault : goal.returns-in-Err-ReadFault
returns-in-Err-ReadFault g c =
    let i = c.args.input.now in
    let j = c.take_all.new.source in
    let left = (g.S.Source.seen i).left in
    let now = (g.S.Source.seen j).left in
    let failed = c.in-Err-ReadFault.is ∙ ap (λ e. Err e) c.in-Err-ReadFault.field-0-is in
    let part = c.take_all.ensures.taken in
    subst (λ (limit : Option ℕ). TakesText g.S.Source.seen limit (Err failures.ReadFault) i j) (sym c.in-Some.is)
    (refl, taken_in_part left now c.in-Some.limit part.0 part.1 part.2, c.take_all.ensures.read_fault failed)

pub returns-in-Err-NoMemory : goal.returns-in-Err-NoMemory
returns-in-Err-NoMemory g c =
    let i = c.args.input.now in
    let j = c.take_all.new.source in
    let left = (g.S.Source.seen i).left in
    let now = (g.S.Source.seen j).left in
    let failed = c.in-Err-NoMemory.is ∙ ap (λ e. Err e) c.in-Err-NoMemory.field-0-is in
    let part = c.take_all.ensures.taken in
    subst (λ (limit : Option ℕ). TakesText g.S.Source.seen limit (Err failures.NoMemory) i j) (sym c.in-Some.is)
    (taken_in_part left now c.in-Some.limit part.0 part.1 part.2, c.take_all.ensures.steady (other_error c.take_all.result errors.NoMemory errors.ReadFault no_memory_is_no_fault failed))
