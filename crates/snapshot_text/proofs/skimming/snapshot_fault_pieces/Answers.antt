-- The tokens that were passed over are a snapshot, and where the call stopped none goes on.
use Rattle.std.proofs.Common.{◌≡◌, ℕ, drop, refl, ◌∙◌, subst, sym}
use Rattle.std.proofs.lemmas.Option.{same_Some}
use Rattle.model_core.specs.Text.FirstWrong.{wrong_place}
use Rattle.model_core.specs.Text.SnapshotGrammar.{snapshot_format, IsNoSnapshotAt}
use Rattle.model_lex.specs.PiecesOfText.{pieces_lexemes}
use Rattle.snapshot_text.specs.Inner.Skimming.{skims_whole, Passed}
use Rattle.snapshot_text.proofs.PassingOver.{whole-is_snapshot, stuck-is_none}
use Rattle.snapshot_text.proofs.skimming.snapshot_fault_pieces.Goals as goal

pub returns-in-Ok-clause-none : goal.returns-in-Ok-clause-none
returns-in-Ok-clause-none c = λ e.
    let text = c.args.pieces.now.text.now in
    let tokens = drop c.args.from (pieces_lexemes c.args.pieces.now) in
    let are : c.from_place-cursor.result ≡ tokens = c.from_place-cursor.ensures in
    let passed : Passed c.skim_whole.result c.skim_whole.new.cursor (skims_whole snapshot_format tokens) = rw are at c.skim_whole.ensures in
    whole-is_snapshot tokens c.skim_whole.new.cursor (rw c.in-Ok.is at passed)

pub returns-in-Err-clause-some : goal.returns-in-Err-clause-some
returns-in-Err-clause-some c = λ at e.
    let text = c.args.pieces.now.text.now in
    let tokens = drop c.args.from (pieces_lexemes c.args.pieces.now) in
    let are : c.from_place-cursor.result ≡ tokens = c.from_place-cursor.ensures in
    let passed : Passed c.skim_whole.result c.skim_whole.new.cursor (skims_whole snapshot_format tokens) = rw are at c.skim_whole.ensures in
    let place : c.place.result ≡ wrong_place text c.skim_whole.new.cursor = c.place.ensures text refl in
    subst (λ (n : ℕ). IsNoSnapshotAt text tokens n) (sym place ∙ same_Some c.place.result at e)
    (stuck-is_none text tokens c.skim_whole.new.cursor (rw c.in-Err.is at passed))
