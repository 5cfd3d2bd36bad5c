use Rattle.model_lex.proofs.PiecesAndTokens.{pieces-are_tokens, pieces-as_many}
use Rattle.model_lex.proofs.order.pieces_are_the_tokens.Goals as goal

pub returns-clause-text : goal.returns-clause-text
returns-clause-text c = λ t. t.in_one_text

pub returns-clause-same : goal.returns-clause-same
returns-clause-same c = λ t. pieces-are_tokens t.pieces.text.now t.text.now t.pieces.list t.list t.in_one_text t.pieces.are_its t.are_its

pub returns-clause-as_many : goal.returns-clause-as_many
returns-clause-as_many c = λ t.
    pieces-as_many t.pieces.text.now t.text.now t.pieces.list t.list
    (pieces-are_tokens t.pieces.text.now t.text.now t.pieces.list t.list t.in_one_text t.pieces.are_its t.are_its)
