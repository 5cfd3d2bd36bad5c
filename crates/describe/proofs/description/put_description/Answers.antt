-- the text is added piece by piece
use Rattle.describe.proofs.PiecesAdded.{all_added, six_texts_after}
use Rattle.describe.proofs.description.put_description.Goals as goal

pub returns : goal.returns
returns c = all_added _ _ _ _ c.put_vertices.ensures (rw (c.in_ok-put_first_event.ensures, c.in_ok-put_watch.ensures, c.in_ok-put_tables.ensures, c.in_ok-put_variables.ensures, c.in_ok-put_model_name.ensures, c.as_slice.ensures, c.as_slice-2.ensures, c.as_slice-3.ensures, c.as_slice-4.ensures) (six_texts_after c.args.out.now.items _ _ _ _ _ _))
