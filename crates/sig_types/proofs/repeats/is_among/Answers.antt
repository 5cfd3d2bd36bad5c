use Rattle.std.proofs.Common.{ap, sym, ◌∙◌}
use Rattle.model_core.specs.Text.Lexing.{same_bytes}
use Rattle.sig_types.proofs.EarlierNames.{among_at}
use Rattle.sig_types.proofs.repeats.is_among.Goals as goal

pub returns-then-eq : goal.returns-then-eq
returns-then-eq c = among_at c.args.name.now c.args.raws.now c.loop-raw.raw-index c.raw-item.result c.loop-raw-test.true c.raw-item.is (ap (same_bytes c.args.name.now) (sym c.as_slice.ensures) ∙ sym c.eq.ensures ∙ c.if-eq.true)
