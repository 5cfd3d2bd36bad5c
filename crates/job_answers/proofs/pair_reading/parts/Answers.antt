-- The complaint is about the first text that isn't spelled, or about what is left behind both.
use Rattle.std.proofs.Common.{◌≡◌, List, ◌≤◌, ◌∷◌, Err, refl, sym, ◌∙◌, ap, subst, drop, length, map, get_or, arith, suc}
use Rattle.std.proofs.lemmas.List.{length-map}
use Rattle.std.proofs.lemmas.Result.{err_from_is_err_and}
use Rattle.model_lex.specs.PiecesOfText.{pieces_lexemes}
use Rattle.model_lex.specs.PieceViews.{piece_of}
use Rattle.model_lex.specs.declared.piece.Piece.{Piece}
use Rattle.model_lex.specs.declared.piece.PieceKind.TheVariants as kinds
use Rattle.model_core.specs.Code.WrittenViews.{written_model}
use Rattle.model_core.specs.Text.DocumentText.{BeginsWithModel}
use Rattle.model_core.specs.Text.Lexing.{Lexeme}
use Rattle.answer_delivery.specs.declared.complaint.Complaint.TheVariants as complaints
use Rattle.job_answers.specs.declared.reading_error.ReadingError.TheVariants.{At}
use Rattle.job_answers.specs.Inner.Refusals.{parsing_complaint}
use Rattle.job_answers.specs.DocumentComplaints.{IsFrontComplaint}
use Rattle.job_answers.specs.PairComplaints.{IsPairComplaint, in_first_text, in_second_text, behind_both, of_pair_tokens}
use Rattle.job_answers.proofs.PassedOn.{one_error, same_error}
use Rattle.job_answers.proofs.ErrorComplaints.{parsing_complaint_is, same_complaint}
use Rattle.job_answers.proofs.TokensLeft.{none_left, one_seen_left}
use Rattle.job_answers.proofs.pair_reading.parts.Goals as goal

pub returns-in_err-first-clause-complaint : goal.returns-in_err-first-clause-complaint
returns-in_err-first-clause-complaint c = λ what at e.
    let pieces = c.args.pieces.now in
    let error = c.in_err-first.field-0.0 in
    let faults = c.in_err-first.ensures in
    let p = err_from_is_err_and c.from_residual.result c.from_residual.ensures.1 in
    of_pair_tokens (pieces_lexemes pieces) pieces.are_its
    (in_first_text
    (parsing_complaint_is (IsFrontComplaint pieces.text.now (pieces_lexemes pieces)) error (λ i is. faults.unexpected i (ap (λ x. Err x) is)) (λ i is. faults.too_deep i (ap (λ x. Err x) is))
    what at (same_error c.from_residual.result p.0 (parsing_complaint error) (At what at) p.1 p.2 e)))

pub returns-in-Err-clause-complaint : goal.returns-in-Err-clause-complaint
returns-in-Err-clause-complaint c = λ what at e.
    let pieces = c.args.pieces.now in
    let faults = c.in-Err.ensures in
    let left = drop c.in_ok-first.behind_first (pieces_lexemes pieces) in
    of_pair_tokens (pieces_lexemes pieces) pieces.are_its
    (in_second_text (written_model c.in_ok-first.first) left (record { derived = c.in_ok-first.ensures.ok.0; few_openings = c.in_ok-first.ensures.ok.1 })
    (parsing_complaint_is (IsFrontComplaint pieces.text.now left) c.in-Err.error (λ i is. faults.unexpected i (ap (λ x. Err x) is)) (λ i is. faults.too_deep i (ap (λ x. Err x) is))
    what at (sym c.from.ensures ∙ one_error c.from.result (At what at) e)))

-- a token is left behind both texts
pub returns-then-behind_second-list-clause-complaint : goal.returns-then-behind_second-list-clause-complaint
returns-then-behind_second-list-clause-complaint c = λ what at e.
    let pieces = c.args.pieces.now in
    let text = pieces.text.now in
    let list = c.as_slice-list.result.now in
    let place = c.in-Ok.read.1 in
    let none : Piece = record { from = 0; length = 0; kind = kinds.Name } in
    let piece = get_or list place none in
    let left = drop c.in_ok-first.behind_first (pieces_lexemes pieces) in
    let begins : drop place (pieces_lexemes pieces) ≡ piece_of text piece ∷ drop (suc place) (map (piece_of text) list) =
    ap (λ (ps : List Piece). drop place (map (piece_of text) ps)) (sym c.as_slice-list.ensures) ∙ one_seen_left (piece_of text) list place none c.if-behind_second-list.true in
    same_complaint (IsPairComplaint text) complaints.Unexpected what piece.from at (one_error (At complaints.Unexpected piece.from) (At what at) e)
    (of_pair_tokens (pieces_lexemes pieces) pieces.are_its
    (behind_both (written_model c.in_ok-first.first) (written_model c.in-Ok.read.0) left (piece_of text piece) (drop (suc place) (map (piece_of text) list))
    (record { derived = c.in_ok-first.ensures.ok.0; few_openings = c.in_ok-first.ensures.ok.1 })
    (subst (λ (last : List Lexeme). BeginsWithModel left (written_model c.in-Ok.read.0) last) begins (record { derived = c.in-Ok.ensures.ok.0; few_openings = c.in-Ok.ensures.ok.1 }))
    refl refl))

-- none is left
pub returns-clause-ok : goal.returns-clause-ok
returns-clause-ok c =
    let pieces = c.args.pieces.now in
    let lexemes = pieces_lexemes pieces in
    let left = drop c.in_ok-first.behind_first lexemes in
    let short : length lexemes ≤ c.in-Ok.read.1 = omega (arith, length-map pieces.list (piece_of pieces.text.now), ap length c.as_slice-list.ensures, c.if-behind_second-list.false) in
    record {
      tokens = lexemes;
      cut = pieces.are_its;
      after_first = left;
      begins = record { derived = c.in_ok-first.ensures.ok.0; few_openings = c.in_ok-first.ensures.ok.1 };
      ends = subst (λ (last : List Lexeme). BeginsWithModel left (written_model c.in-Ok.read.0) last) (none_left c.in-Ok.read.1 lexemes short) (record { derived = c.in-Ok.ensures.ok.0; few_openings = c.in-Ok.ensures.ok.1 });
    }
