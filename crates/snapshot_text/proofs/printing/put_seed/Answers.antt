-- One piece after the other.
use Rattle.std.proofs.Common.{List, ℕ, ◌++◌, ap, ◌∙◌, codes, decimal}
use Rattle.snapshot_text.proofs.PrintedLines.{seed-pieces}
use Rattle.snapshot_text.proofs.printing.put_seed.Goals as goal

pub returns : goal.returns
returns c =
    c.in_ok-put_bytes-3.ensures ∙ ap (λ (l : List ℕ). l ++ codes "\n") (c.in_ok-put_number-2.ensures ∙ ap (λ (l : List ℕ). l ++ decimal c.args.low)
    (c.in_ok-put_bytes-2.ensures ∙ ap (λ (l : List ℕ). l ++ codes " ") (c.in_ok-put_number.ensures ∙ ap (λ (l : List ℕ). l ++ decimal c.args.high) c.in_ok-put_bytes.ensures)))
    ∙ seed-pieces c.args.out.now.items c.args.high c.args.low
