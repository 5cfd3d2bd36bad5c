use Rattle.one_pass.proofs.text.expected_vertices.Goals as goal

pub returns : goal.returns
returns c = rw (c.as_slice.ensures, c.in_ok-taken.ensures) at c.vertices.ensures
