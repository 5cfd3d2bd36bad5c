use Rattle.reduction_cert.proofs.Verdicts.{verdict-Sound, verdict-Rejected, verdict-Differs}
use Rattle.reduction_cert.proofs.chain_law.verdicts_tell_chains.Goals as goal

pub returns : goal.returns
returns c = record {
  sound = verdict-Sound;
  rejected = verdict-Rejected;
  differs = verdict-Differs;
  valid = λ g applications h valid sound. c.chains_keep_the_meaning.ensures.valid g applications h valid ((verdict-Sound g applications h).0 sound);
  same = λ g applications h valid sound. c.chains_keep_the_meaning.ensures.same g applications h valid ((verdict-Sound g applications h).0 sound);
}
