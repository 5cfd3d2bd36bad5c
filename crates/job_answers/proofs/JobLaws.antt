-- The laws of the answers of all jobs, a line a job.
use Rattle.command_words.specs.declared.reading.BareJob.TheVariants as bare
use Rattle.command_words.specs.declared.reading.DocumentJob.TheVariants as documents
use Rattle.command_words.specs.declared.reading.ModelJob.TheVariants as models
use Rattle.command_words.specs.declared.reading.PairJob.TheVariants as pairs
use Rattle.command_words.specs.declared.reading.SavedJob.TheVariants as saved_jobs
use Rattle.command_words.specs.declared.reading.Reading.{Reading}
use Rattle.command_words.specs.declared.reading.Reading.TheVariants as readings
use Rattle.model_core.specs.Rules.Fuse.{Fused}
use Rattle.model_core.specs.Ranges.Narrowed.{IsNarrowed}
use Rattle.normal_form.specs.Normal.{Normal}
use Rattle.job_answers.specs.AnswerLaws.{KeepsAnswerLaws}
use Rattle.job_answers.proofs.commands.CheckLaws.{check_laws}
use Rattle.job_answers.proofs.commands.PrintLaws.{print_laws}
use Rattle.job_answers.proofs.commands.ReduceLaws.{OneStrategy, StrategyEnds, reduce_laws}
use Rattle.job_answers.proofs.commands.UsesLaws.{uses_laws}
use Rattle.job_answers.proofs.commands.ConflictsLaws.{conflicts_laws}
use Rattle.job_answers.proofs.commands.DescribeLaws.{describe_laws}
use Rattle.job_answers.proofs.commands.RewritingLaws.{BecomesOne, fuse_laws, narrow_laws}
use Rattle.job_answers.proofs.commands.RunLaws.{run_laws}
use Rattle.job_answers.proofs.commands.ReplicateLaws.{replicate_laws}
use Rattle.job_answers.proofs.commands.SaveLaws.{GoingIsLed, save_laws}
use Rattle.job_answers.proofs.commands.ResumeLaws.{resume_laws}
use Rattle.job_answers.proofs.commands.TrialLaws.{OneSummary, trial_laws}
use Rattle.job_answers.proofs.commands.CertifyLaws.{certify_laws}
use Rattle.job_answers.proofs.commands.CompareLaws.{compare_laws}

pub keeps_laws : OneStrategy → StrategyEnds → BecomesOne Fused → BecomesOne IsNarrowed → BecomesOne Normal → OneSummary → GoingIsLed → (reading : Reading) → KeepsAnswerLaws reading
keeps_laws only ends fuses narrows forms trials led (readings.Model models.Check) = check_laws
keeps_laws only ends fuses narrows forms trials led (readings.Model models.Print) = print_laws
keeps_laws only ends fuses narrows forms trials led (readings.Model models.Reduce) = reduce_laws only ends
keeps_laws only ends fuses narrows forms trials led (readings.Model models.Uses) = uses_laws
keeps_laws only ends fuses narrows forms trials led (readings.Model models.Conflicts) = conflicts_laws
keeps_laws only ends fuses narrows forms trials led (readings.Model models.Fuse) = fuse_laws fuses
keeps_laws only ends fuses narrows forms trials led (readings.Model models.Narrow) = narrow_laws narrows
keeps_laws only ends fuses narrows forms trials led (readings.Model models.Describe) = describe_laws
keeps_laws only ends fuses narrows forms trials led (readings.Model (models.Run options)) = run_laws options
keeps_laws only ends fuses narrows forms trials led (readings.Model (models.Replicate options)) = replicate_laws options
keeps_laws only ends fuses narrows forms trials led (readings.Model (models.Save options)) = save_laws led options
keeps_laws only ends fuses narrows forms trials led (readings.Document documents.Certify) = certify_laws
keeps_laws only ends fuses narrows forms trials led (readings.Pair (pairs.Compare options)) = compare_laws forms options
keeps_laws only ends fuses narrows forms trials led (readings.Saved (saved_jobs.Resume options)) = resume_laws options
keeps_laws only ends fuses narrows forms trials led (readings.Nothing (bare.Trial options)) = trial_laws trials options
