-- One value more, or one that does not fit, and all of them.
use Rattle.std.proofs.Common.{rules, List, w64, map, drop, get_or, None, false, sym, ap, ◌+◌, ◌++◌, ◌∙◌, arith}
use Rattle.std.specs.List.{list_all}
use Rattle.std.proofs.lemmas.Int.{to_z-of_z}
use Rattle.std.proofs.lemmas.List.{drop_more}
use Rattle.std.proofs.Math.ListN.{drop_of_length-le}
use Rattle.model_core.specs.declared.raw.RawSigned.{RawSigned}
use Rattle.model_core.specs.Code.WrittenViews.{written_signed}
use Rattle.model_core.specs.Text.Written.{WrittenSigned}
use Rattle.model_core.specs.Saved.GoodSnapshots.{signed_values}
use Rattle.snapshot_text.specs.Inner.Judging.{fits_between}
use Rattle.snapshot_text.proofs.JudgedParts.{one_fits, none_fits}
use Rattle.snapshot_text.proofs.values.add_fitting.Goals as goal

abbrev blank : RawSigned
blank = record { at = 0; negative = false; number = record { value = None; at = 0 } }

pub loop-signed-preserved : goal.loop-signed-preserved
loop-signed-preserved c =
    let values = c.args.values.now in
    let i = c.loop-signed.signed-index in
    let lo = c.args.limits.now.lo in
    let hi = c.args.limits.now.hi in
    let out = c.loop-signed.out.items in
    let more = sym (ap (map written_signed) (drop_more values i blank c.loop-signed-test.true)) in
    let is = rw (to_z-of_z w64 lo (search rules), to_z-of_z w64 hi (search rules)) at c.in-Some.ensures in
    rw (c.in_ok-push.ensures.items, to_z-of_z w64 c.in-Some.value (search rules))
    (one_fits lo hi (written_signed (get_or values i blank)) (map written_signed (drop (i + 1) values)) c.in-Some.value out _ _ is
    (ap (λ (l : List WrittenSigned). list_all (fits_between lo hi) l) more ∙ c.loop-signed.invariant.0)
    (ap (λ (l : List WrittenSigned). out ++ signed_values l) more ∙ c.loop-signed.invariant.1))

pub returns-clause-all : goal.returns-clause-all
returns-clause-all c =
    let values = c.args.values.now in
    let i = c.loop-signed.signed-index in
    let none = drop_of_length-le values {i = i} (omega (arith, c.loop-signed-test.false)) in
    sym (ap (λ (l : List RawSigned). list_all (fits_between c.args.limits.now.lo c.args.limits.now.hi) (map written_signed l)) none) ∙ c.loop-signed.invariant.0

pub returns-in_default-clause-all : goal.returns-in_default-clause-all
returns-in_default-clause-all c =
    let values = c.args.values.now in
    let i = c.loop-signed.signed-index in
    let lo = c.args.limits.now.lo in
    let hi = c.args.limits.now.hi in
    let more = sym (ap (map written_signed) (drop_more values i blank c.loop-signed-test.true)) in
    none_fits lo hi (written_signed (get_or values i blank)) (map written_signed (drop (i + 1) values)) _ (rw (to_z-of_z w64 lo (search rules), to_z-of_z w64 hi (search rules)) at c.in_default.ensures)
    (ap (λ (l : List WrittenSigned). list_all (fits_between lo hi) l) more ∙ c.loop-signed.invariant.0)
