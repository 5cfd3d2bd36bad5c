use Rattle.std.proofs.Common.{false, arith}
use Rattle.std.proofs.lemmas.List.FromFn.{get_or-map-range_with_len}
use Rattle.model_core.specs.Text.Lexing.{is_word_byte}
use Rattle.model_lex.proofs.runs.is_word_byte.Goals as goal

pub returns : goal.returns
returns c = rw (c.word_bytes.ensures, c.from.ensures) (get_or-map-range_with_len is_word_byte 0 256 c.args.byte c.args.byte false (omega (arith, c.ranges.byte.fits)) (omega arith))
