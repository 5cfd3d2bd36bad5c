use Rattle.std.proofs.Common.{length}
use Rattle.model_core.specs.Text.Canonical.{canonical}
use Rattle.model_core.specs.Text.SnapshotText.{snapshot_text}
use Rattle.snapshot_text.proofs.laws.saved_documents_read_back.Goals as goal

pub returns : goal.returns
returns c = λ g s kept this_name good.
    let (left, w, cut, is, none, spelled) = c.saved_runs_read_back.ensures g s (length (canonical g)) kept this_name good in
    let (m, tokens, whole, begins, accepted) = c.canonical_texts_read_in_front.ensures g (snapshot_text g s) left kept this_name cut in
    (m, w, record { tokens = tokens; cut = whole; after = left; begins = begins; ends = is }, accepted, none, spelled)
