use Rattle.std.proofs.Common.{◌≡◌, nat_eq, drop, map}
use Rattle.std.specs.List.{list_any}
use lib.Pointwise.{pointwise}
use Rattle.command_words.proofs.command_line.is_among.Given as goal

-- none of the names so far is it
abbrev pub invariant-loop-other : goal.invariant-loop-other
invariant-loop-other l =
    list_any (λ n. pointwise nat_eq l.name n) (map (λ n. n.now) (drop l.other-index l.names)) ≡ list_any (λ n. pointwise nat_eq l.name n) (map (λ n. n.now) l.names)
