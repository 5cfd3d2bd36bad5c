use Rattle.edge_pruning.proofs.ReachedAfterMerge.{joined, all-if-first, all-if-led, one-if-unled}
use Rattle.edge_pruning.proofs.law.merging_leaves_vertices_reached.Goals as goal

pub returns-clause-first : goal.returns-clause-first
returns-clause-first c = λ g first second all none. all-if-first g first second (joined g first second none) all

pub returns-clause-led : goal.returns-clause-led
returns-clause-led c = λ g first second all none. all-if-led g first second (joined g first second none) all

pub returns-clause-unled : goal.returns-clause-unled
returns-clause-unled c = λ g first second all none. one-if-unled g first second (joined g first second none) all
