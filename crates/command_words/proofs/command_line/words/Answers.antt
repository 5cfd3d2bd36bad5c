use Rattle.std.proofs.Common.{◌∙◌, None, Some, ap, map, rules, string_bytes, sym}
use Rattle.command_words.proofs.JobLaw.{one_dash_no_job}
use Rattle.command_words.proofs.ClapCalls.{job_of_matches, no_job_answered, job_answered, answer_within}
use Rattle.command_words.proofs.command_line.words.Goals as goal

-- a word begins with one `-`
pub returns-then-any_has_one_dash-clause-bad_words : goal.returns-then-any_has_one_dash-clause-bad_words
returns-then-any_has_one_dash-clause-bad_words c = λ _. one_dash_no_job (map string_bytes c.args.words.now) (sym c.any_has_one_dash.ensures ∙ c.if-any_has_one_dash.true)

-- the matches ask for a job or for none
pub returns-in-Some-clause-ok : goal.returns-in-Some-clause-ok
returns-in-Some-clause-ok c =
    job_answered _ _ c.matched_job.result
    (job_of_matches (map string_bytes c.args.words.now) _ c.in_ok-matches.field-0 (Some c.in-Some.matches) (sym c.if-any_has_one_dash.false ∙ c.any_has_one_dash.ensures)
    (ap (map (λ w. w.now)) c.as_slice.ensures.value ∙ c.in_ok-named.ensures) c.in-Some.is c.in_ok-matches.ensures)
    c.matched_job.ensures

-- and so it keeps its limits
pub returns-in-Some-clause-within : goal.returns-in-Some-clause-within
returns-in-Some-clause-within c = answer_within (map string_bytes c.args.words.now) c.matched_job.result (returns-in-Some-clause-ok c)

pub returns-in-Some-clause-bad_words : goal.returns-in-Some-clause-bad_words
returns-in-Some-clause-bad_words c =
    no_job_answered _ _ c.matched_job.result
    (job_of_matches (map string_bytes c.args.words.now) _ c.in_ok-matches.field-0 (Some c.in-Some.matches) (sym c.if-any_has_one_dash.false ∙ c.any_has_one_dash.ensures)
    (ap (map (λ w. w.now)) c.as_slice.ensures.value ∙ c.in_ok-named.ensures) c.in-Some.is c.in_ok-matches.ensures)
    c.matched_job.ensures

-- there are no matches
pub returns-clause-bad_words : goal.returns-clause-bad_words
returns-clause-bad_words c = λ _.
    job_of_matches (map string_bytes c.args.words.now) _ c.in_ok-matches.field-0 None (sym c.if-any_has_one_dash.false ∙ c.any_has_one_dash.ensures)
    (ap (map (λ w. w.now)) c.as_slice.ensures.value ∙ c.in_ok-named.ensures) (search rules) c.in_ok-matches.ensures
