use Rattle.std.proofs.Common.{◌∙◌, Some, ap, option_map, sym}
use Rattle.clap.specs.Words.{found_of}
use Rattle.clap.proofs.WalkLemmas.{first_value-rows}
use Rattle.command_words.proofs.clap_matches.text_of.Goals as goal

pub returns-in_err-get_str : goal.returns-in_err-get_str
returns-in_err-get_str c =
    ap (option_map (λ t. t.now)) c.from_residual.ensures ∙ sym (ap (option_map (λ t. t.now)) c.in_err-get_str.was) ∙ c.get_str.ensures
    ∙ first_value-rows (found_of c.args.matches.now) c.args.name.now

pub returns : goal.returns
returns c =
    ap (λ t. Some t) c.as_bytes.ensures.value ∙ sym (ap (option_map (λ t. t.now)) c.in_ok-get_str.was) ∙ c.get_str.ensures
    ∙ first_value-rows (found_of c.args.matches.now) c.args.name.now
