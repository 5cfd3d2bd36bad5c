use Rattle.reduction_cert.proofs.Chains.{Laws, applied-keeps, chain-keeps}
use Rattle.reduction_cert.proofs.chain_law.chains_keep_the_meaning.Goals as goal

pub returns : goal.returns
returns c =
    let laws : Laws = record {
      prune = record { valid = λ g (vertex, edge). c.pruning_keeps_the_meaning.ensures.valid g vertex edge; same = λ g (vertex, edge). c.pruning_keeps_the_meaning.ensures.same g vertex edge };
      settle = record { valid = λ g (vertex, edge). c.settling_keeps_the_meaning.ensures.valid g vertex edge; same = λ g (vertex, edge). c.settling_keeps_the_meaning.ensures.same g vertex edge };
      drop = record { valid = c.dropping_keeps_the_meaning.ensures.valid; same = c.dropping_keeps_the_meaning.ensures.same };
      merge = record { valid = λ g (first, second). c.merging_keeps_the_meaning.ensures.valid g first second; same = λ g (first, second). c.merging_keeps_the_meaning.ensures.same g first second };
      slice = record { valid = c.slicing_keeps_the_meaning.ensures.valid; same = c.slicing_keeps_the_meaning.ensures.same };
    } in
    record {
      one_valid = λ g h a valid made. (applied-keeps laws g h a valid made).valid;
      one_same = λ g h a valid made. (applied-keeps laws g h a valid made).same;
      valid = λ g applications h valid chain. (chain-keeps laws g applications h valid chain).valid;
      same = λ g applications h valid chain. (chain-keeps laws g applications h valid chain).same;
    }
