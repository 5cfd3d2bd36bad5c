-- One value more.
use Rattle.std.proofs.Common.{rules, pos, ℤ, w64, take, get_or, codes, ap, ◌++◌, ◌∙◌, append_assoc}
use Rattle.std.specs.Fmt.{signed_decimal}
use Rattle.std.proofs.lemmas.Int.{to_z-of_z}
use Rattle.std.proofs.lemmas.List.{take_more}
use Rattle.sig_base.proofs.Lists.{one_more}
use Rattle.snapshot_text.proofs.printing.put_later_values.Goals as goal

pub loop-value-preserved : goal.loop-value-preserved
loop-value-preserved c =
    let values = c.args.values.now in
    let i = c.loop-value.value-index in
    let before = c.loop-value.out.items in
    let value = get_or values i (pos 0) in
    let number = signed_decimal value in
    let wrote = rw (to_z-of_z w64 value (search rules)) at c.in_ok-put_signed.ensures in
    one_more (λ (y : ℤ). codes "," ++ signed_decimal y) _ before c.put_signed.new.out.items (take i values) _ value (take_more values i (pos 0) c.loop-value-test.true)
    (wrote ∙ ap (λ bytes. bytes ++ number) c.in_ok-put_bytes.ensures ∙ append_assoc before (codes ",") number) c.loop-value.invariant
