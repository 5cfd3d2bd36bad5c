use Rattle.std.proofs.Common.{◌≡◌, ℕ, ◌*◌, ◌<◌, ◌^◌, length, get_or}
use Rattle.sig_base.specs.Stream.{share}
use Rattle.sig_base.specs.RunningSums.{AtMostBefore}
use Rattle.sig_base.proofs.table.starts_of.Given as goal

-- the parts so far have their starts, and the next one's isn't before this place
abbrev pub invariant-loop-part : goal.invariant-loop-part
invariant-loop-part l = record {
  long : length l.starts.items ≡ l.part;
  started : (part : ℕ) → part < l.part → AtMostBefore l.sums (share (part * 2 ^ l.shift) l.total) (get_or l.starts.items part 0);
  next : AtMostBefore l.sums (share (l.part * 2 ^ l.shift) l.total) l.place;
}
