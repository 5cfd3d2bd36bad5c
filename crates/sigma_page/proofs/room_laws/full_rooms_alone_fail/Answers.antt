use Rattle.sigma_page.proofs.RoomsFilled as rooms
use Rattle.sigma_page.proofs.room_laws.full_rooms_alone_fail.Goals as goal

pub returns : goal.returns
returns c = record {
  no_read_fails = rooms.no_read_fails;
  output_is_full = rooms.output_is_full;
  line = rooms.line_is_exact;
  no_line = rooms.no_line;
}
