-- A number of rounds comes with its limit.
use Rattle.std.proofs.Common.{refl, arith}
use Rattle.worked_rules.proofs.needed_rounds.rounds_end.Goals as goal

pub returns : goal.returns
returns c = record {
  at_most = λ g ranges found. found.few;
  no_fewer = λ g same. record { rounds = 4016; few = omega arith; reached = refl; stays = same };
  reached = λ g ranges found. found.reached;
  stays = λ g ranges found. found.stays;
}
