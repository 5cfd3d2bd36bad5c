-- Of pieces without too many openings: the model, its first fault, or the place where they are stuck.
use Rattle.std.proofs.Common.{refl, sym, ap, ◌∙◌, subst}
use Rattle.std.specs.Option.{option_map}
use Rattle.sig_base.specs.declared.limits.TheConstants.{OPENINGS_MAX}
use Rattle.model_core.specs.Text.FirstWrong.{IsUnexpectedAt}
use Rattle.sig_types.specs.declared.first_fault.Fault.{Fault}
use Rattle.model_lex.specs.PiecesOfText.{pieces_lexemes}
use Rattle.text_laws.proofs.Formats.TextLaws.{whole-is_spelled, refused-is_unexpected}
use Rattle.text_laws.proofs.OpeningLaws.{none-is_few}
use Rattle.static_laws.proofs.OneFirstFault.{found_is_first_fault}
use Rattle.one_pass.proofs.text.with_few_openings.Goals as goal

pub returns-in-None-clause-ok : goal.returns-in-None-clause-ok
returns-in-None-clause-ok c =
    let read = c.in-Ok.ensures.ok in
    let from = c.from_place-cursor.ensures in
    record {
      written = read.written;
      spelled = whole-is_spelled (pieces_lexemes c.args.pieces.now) read.written c.whole.new.cursor (rw from at read.read);
      few_openings = none-is_few OPENINGS_MAX (pieces_lexemes c.args.pieces.now) c.requires;
      accepted = read.decided.accepted (c.first_fault.ensures ∙ ap (option_map (λ (f : Fault). record { at = f.at; kind = f.kind })) c.in-None.is);
    }

pub returns-in-Some-clause-refused : goal.returns-in-Some-clause-refused
returns-in-Some-clause-refused c =
    let read = c.in-Ok.ensures.ok in
    let from = c.from_place-cursor.ensures in
    record {
      written = read.written;
      spelled = whole-is_spelled (pieces_lexemes c.args.pieces.now) read.written c.whole.new.cursor (rw from at read.read);
      few_openings = none-is_few OPENINGS_MAX (pieces_lexemes c.args.pieces.now) c.requires;
      is_first = (found_is_first_fault read.written (record { at = c.in-Some.found.at; kind = c.in-Some.found.kind })).0
          (sym read.decided.is_first ∙ c.first_fault.ensures ∙ ap (option_map (λ (f : Fault). record { at = f.at; kind = f.kind })) c.in-Some.is);
    }

pub returns-in-Err-Unexpected-clause-refused : goal.returns-in-Err-Unexpected-clause-refused
returns-in-Err-Unexpected-clause-refused c =
    let stuck = rw c.from_place-cursor.ensures at c.in-Err-Unexpected.ensures.unexpected in
    (c.requires, subst (λ at. IsUnexpectedAt c.args.pieces.now.text.now (pieces_lexemes c.args.pieces.now) at) (sym (c.place.ensures c.args.pieces.now.text.now refl)) (refused-is_unexpected c.args.pieces.now.text.now (pieces_lexemes c.args.pieces.now) c.whole.new.cursor (stuck c.in-Err-Unexpected.field-0-is)))
