use Rattle.std.proofs.Common.{◌≡◌, false, map, take}
use Rattle.std.specs.List.{list_any}
use Rattle.model_core.specs.Text.Lexing.{same_bytes}
use Rattle.sig_types.specs.Seen.{bytes_of}
use Rattle.sig_types.proofs.repeats.is_among.Given as goal

-- the name isn't among those before this one
abbrev pub invariant-loop-raw : goal.invariant-loop-raw
invariant-loop-raw l = list_any (same_bytes l.name) (map bytes_of (take l.raw-index l.raws)) ≡ false
