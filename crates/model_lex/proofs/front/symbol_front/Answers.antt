-- The second byte is 0 where there is none, and a symbol of two bytes comes before one of one.
use Rattle.std.proofs.Common.{◌≡◌, ◌∙◌, sym, slice_index}
use Rattle.std.specs.Prelude.{Some, None}
use Rattle.std.proofs.lemmas.List.{get_or_past}
use Rattle.model_lex.proofs.SymbolsAmong.{by_length}
use Rattle.model_lex.proofs.front.symbol_front.Goals as goal
use Rattle.model_lex.proofs.front.symbol_front.Goals.{Joined-bytes-gt1, then-bytes-gt1, else-bytes-gt1}

second_is : (c : Joined-bytes-gt1) → c.if-bytes-gt1.second ≡ slice_index c.args.bytes.now 1
second_is c = elim c.if-bytes-gt1.branch [ then-bytes-gt1 w ↦ w.second-is | else-bytes-gt1 w ↦ w.second-is ∙ sym (get_or_past c.args.bytes.now 1 0 w.if-bytes-gt1.false) ]

pub returns-in-Some : goal.returns-in-Some
returns-in-Some c = by_length c.args.bytes.now _ (Some c.in-Some.symbol) c.requires (second_is (goal.at.returns-in-Some c).Joined-bytes-gt1) c.in-Some.ensures

pub returns-in-Some-symbol_of_one : goal.returns-in-Some-symbol_of_one
returns-in-Some-symbol_of_one c = c.in-Some-symbol_of_one.ensures ∙ by_length c.args.bytes.now _ None c.requires (second_is (goal.at.returns-in-Some-symbol_of_one c).Joined-bytes-gt1) c.in_default.ensures

pub returns-in_default-symbol_of_one : goal.returns-in_default-symbol_of_one
returns-in_default-symbol_of_one c = c.in_default-symbol_of_one.ensures ∙ by_length c.args.bytes.now _ None c.requires (second_is (goal.at.returns-in_default-symbol_of_one c).Joined-bytes-gt1) c.in_default.ensures
