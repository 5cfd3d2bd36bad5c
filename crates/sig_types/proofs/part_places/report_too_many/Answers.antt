use Rattle.std.proofs.Common.{refl}
use Rattle.sig_types.proofs.TooMany.{too_many_there, too_many_past}
use Rattle.sig_types.proofs.part_places.report_too_many.Goals as goal

pub returns-in-Some : goal.returns-in-Some
returns-in-Some g c =
    let h = c.in-Some.ensures.lookup in
    rw (too_many_there g.T.HasPlace.written g.T.HasPlace.begins c.args.parts.now c.args.limit c.in-Some.part.now h.3.0 h.1, ← c.place.ensures) c.note.ensures

pub returns-in_default : goal.returns-in_default
returns-in_default g c =
    let h = c.in_default.ensures.lookup in
    rw (too_many_past g.T.HasPlace.written g.T.HasPlace.begins c.args.parts.now c.args.limit h.3) refl
