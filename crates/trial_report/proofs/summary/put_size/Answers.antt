use Rattle.std.proofs.Common.{◌≡◌, List, ℕ, ◌++◌, codes, decimal, length, ap, ◌∙◌, arith}
use Rattle.std.proofs.lemmas.List.{length-map}
use Rattle.model_core.specs.Code.Views.{graph_of, vertex_of, variable_of}
use Rattle.trial_report.specs.TrialText.{edges_in}
use Rattle.trial_report.proofs.Appending.{two_more, at_last}
use Rattle.trial_report.proofs.summary.put_size.Goals as goal

pub returns : goal.returns
returns c =
    let g = graph_of c.args.model.now in
    let old = c.args.out.now.items in
    let name = c.args.name.now in
    let first : List ℕ = name ++ codes " vertices " ++ decimal (length g.vertices) in
    let second : List ℕ = first ++ codes " variables " ++ decimal (length g.variables) in
    let third : List ℕ = second ++ codes " edges " ++ decimal (edges_in g) in
    let vertices : c.len.result ≡ length g.vertices = let is = c.len.ensures in omega (arith, is, length-map c.args.model.now.vertices vertex_of) in
    let variables : c.len-2.result ≡ length g.variables = let is = c.len-2.ensures in omega (arith, is, length-map c.args.model.now.vars variable_of) in
    at_last c.put_bytes-2.result old c.put_counted-3.new.out.items _ third (codes "\n")
    (two_more old c.put_counted-2.new.out.items _ second (codes " edges ") (decimal (edges_in g))
    (two_more old c.put_counted.new.out.items _ first (codes " variables ") (decimal (length g.variables))
    (two_more old c.put_bytes.new.out.items _ name (codes " vertices ") (decimal (length g.vertices)) c.in_ok-put_bytes.ensures
    (c.in_ok-put_counted.ensures ∙ ap (λ n. c.put_bytes.new.out.items ++ codes " vertices " ++ decimal n) vertices))
    (c.in_ok-put_counted-2.ensures ∙ ap (λ n. c.put_counted.new.out.items ++ codes " variables " ++ decimal n) variables))
    (c.in_ok-put_counted-3.ensures ∙ ap (λ n. c.put_counted-2.new.out.items ++ codes " edges " ++ decimal n) c.edges_in.ensures))
    c.put_bytes-2.ensures
