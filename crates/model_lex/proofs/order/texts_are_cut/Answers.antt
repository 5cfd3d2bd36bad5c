use Rattle.model_lex.proofs.FrontByFront.{is_cut}
use Rattle.model_lex.proofs.order.texts_are_cut.Goals as goal

pub returns : goal.returns
returns c = is_cut
