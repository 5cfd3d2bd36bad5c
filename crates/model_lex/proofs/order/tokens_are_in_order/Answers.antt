use Rattle.model_lex.proofs.TokenPlaces.{tokens_of-in_order, tokens_in_text}
use Rattle.model_lex.proofs.order.tokens_are_in_order.Goals as goal

pub returns-clause-in_order : goal.returns-clause-in_order
returns-clause-in_order c = tokens_of-in_order

pub returns-clause-in_text : goal.returns-clause-in_text
returns-clause-in_text c = λ t. tokens_in_text t.text.now t.list t.are_its
