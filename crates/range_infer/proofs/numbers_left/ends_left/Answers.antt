-- What is left, by the comparison.
use Rattle.std.proofs.Common.{rules}
use Rattle.model_core.proofs.SignedBits.{signed_bits}
use Rattle.range_infer.proofs.numbers_left.ends_left.Goals as goal

pub returns-in-Lt-clause-lo : goal.returns-in-Lt-clause-lo
returns-in-Lt-clause-lo c = rw c.in-Lt.is (search (rules, signed_bits))

pub returns-in-Lt-clause-hi : goal.returns-in-Lt-clause-hi
returns-in-Lt-clause-hi c = rw c.in-Lt.is (search (rules, signed_bits))

pub returns-in-Le-clause-lo : goal.returns-in-Le-clause-lo
returns-in-Le-clause-lo c = rw c.in-Le.is (search (rules, signed_bits))

pub returns-in-Le-clause-hi : goal.returns-in-Le-clause-hi
returns-in-Le-clause-hi c = rw c.in-Le.is (search (rules, signed_bits))

pub returns-in-Gt-clause-lo : goal.returns-in-Gt-clause-lo
returns-in-Gt-clause-lo c = rw c.in-Gt.is (search (rules, signed_bits))

pub returns-in-Gt-clause-hi : goal.returns-in-Gt-clause-hi
returns-in-Gt-clause-hi c = rw c.in-Gt.is (search (rules, signed_bits))

pub returns-in-Ge-clause-lo : goal.returns-in-Ge-clause-lo
returns-in-Ge-clause-lo c = rw c.in-Ge.is (search (rules, signed_bits))

pub returns-in-Ge-clause-hi : goal.returns-in-Ge-clause-hi
returns-in-Ge-clause-hi c = rw c.in-Ge.is (search (rules, signed_bits))

pub returns-in-Eq-clause-lo : goal.returns-in-Eq-clause-lo
returns-in-Eq-clause-lo c = rw c.in-Eq.is (search (rules, signed_bits))

pub returns-in-Eq-clause-hi : goal.returns-in-Eq-clause-hi
returns-in-Eq-clause-hi c = rw c.in-Eq.is (search (rules, signed_bits))

pub returns-in-Ne-clause-lo : goal.returns-in-Ne-clause-lo
returns-in-Ne-clause-lo c = rw c.in-Ne.is (search (rules, signed_bits))

pub returns-in-Ne-clause-hi : goal.returns-in-Ne-clause-hi
returns-in-Ne-clause-hi c = rw c.in-Ne.is (search (rules, signed_bits))
