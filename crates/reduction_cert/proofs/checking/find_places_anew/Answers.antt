use Rattle.std.proofs.Common.{sym, ◌∙◌, subst}
use Rattle.model_read.specs.NamesPlaced.{HasPlaces}
use Rattle.reduction_cert.proofs.NamesKept.{table_kept}
use Rattle.reduction_cert.proofs.checking.find_places_anew.Goals as goal

pub returns-else-is_drop : goal.returns-else-is_drop
returns-else-is_drop c = λ g h made same has. subst (λ names. HasPlaces names c.args.vertices.now) same (table_kept g h _ _ (sym c.is_drop.ensures ∙ c.if-is_drop.false) made has)
