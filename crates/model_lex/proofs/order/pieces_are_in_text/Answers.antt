use Rattle.model_lex.proofs.TokenPlaces.{pieces_in_text}
use Rattle.model_lex.proofs.order.pieces_are_in_text.Goals as goal

pub returns : goal.returns
returns c = λ t. pieces_in_text t.text.now t.list t.are_its
