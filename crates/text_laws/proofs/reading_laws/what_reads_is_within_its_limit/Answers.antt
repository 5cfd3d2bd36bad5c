use Rattle.text_laws.proofs.reading_laws.what_reads_is_within_its_limit.Goals as goal

pub returns-clause-text : goal.returns-clause-text
returns-clause-text c = λ text g reads. reads.fits

pub returns-clause-document : goal.returns-clause-document
returns-clause-document c = λ text original applications reduced reads. reads.fits
