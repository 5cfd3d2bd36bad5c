use Rattle.std.proofs.Common.{arith}
use Rattle.std.proofs.lemmas.List.FromFn.{get_or-map-range_with_len}
use Rattle.model_lex.specs.Inner.Classes.{class_of}
use Rattle.model_lex.specs.declared.classes.Class.TheVariants as classes
use Rattle.model_lex.proofs.classes.class_of.Goals as goal

pub returns : goal.returns
returns c = rw (c.classes.ensures, c.from.ensures) (get_or-map-range_with_len class_of 0 256 c.args.byte c.args.byte classes.Blank (omega (arith, c.ranges.byte.fits)) (omega arith))
