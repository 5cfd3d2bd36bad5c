-- A pair is found at this vertex, or later, or nowhere.
use Rattle.std.proofs.Common.{ℕ, arith, ap, sym, ◌∙◌, length, Option, subst}
use Rattle.std.specs.Option.{option_map}
use Rattle.model_core.specs.Rules.Fuse.{first_twin_of, first_twins}
use Rattle.model_core.specs.Code.Views.{graph_of}
use Rattle.twin_rules.specs.Inner.ComparedPairs.{NoneAlikeWith}
use Rattle.twin_rules.proofs.FirstFound.{found-here, missed-here, none-found}
use Rattle.twin_rules.proofs.PairsSearched.{none-before-here, one-more-row}
use Rattle.twin_rules.proofs.first_pair.first_twins_in.Goals as goal

pub returns-in-Some-clause-found : goal.returns-in-Some-clause-found
returns-in-Some-clause-found c =
    let g = graph_of c.args.model.now in
    let below = c.loop-keep-test.true in
    let long = c.len-keep-end.ensures in
    found-here (λ (keep : ℕ). option_map {U = ℕ × ℕ} (λ gone. (keep, gone)) (first_twin_of g keep)) (first_twins g) c.loop-keep.keep (length c.args.model.now.vertices) (c.loop-keep.keep, c.in-Some.gone) (omega (arith, below, long))
    (ap (λ (o : Option ℕ). option_map {U = ℕ × ℕ} (λ gone. (c.loop-keep.keep, gone)) o) (sym c.first_twin_of.ensures.found ∙ c.in-Some.is)) c.loop-keep.invariant.found

pub returns-in-Some-clause-none_alike : goal.returns-in-Some-clause-none_alike
returns-in-Some-clause-none_alike c = λ none_alike.
    let g = graph_of c.args.model.now in
    let (was, here) = c.first_twin_of.ensures.none_alike none_alike in
    none-before-here g c.loop-keep.keep c.in-Some.gone (c.loop-keep.invariant.none_alike was) (subst (NoneAlikeWith g c.loop-keep.keep) c.in-Some.is here)

pub loop-keep-preserved : goal.loop-keep-preserved
loop-keep-preserved c =
    let g = graph_of c.args.model.now in
    let below = c.loop-keep-test.true in
    let long = c.len-keep-end.ensures in
    record {
      found = missed-here (λ (keep : ℕ). option_map {U = ℕ × ℕ} (λ gone. (keep, gone)) (first_twin_of g keep)) (first_twins g) c.loop-keep.keep (length c.args.model.now.vertices) (omega (arith, below, long))
          (ap (λ (o : Option ℕ). option_map {U = ℕ × ℕ} (λ gone. (c.loop-keep.keep, gone)) o) (sym c.first_twin_of.ensures.found ∙ c.in_default.is)) c.loop-keep.invariant.found;
      none_alike = λ none_alike.
          let (was, here) = c.first_twin_of.ensures.none_alike none_alike in
          one-more-row g c.loop-keep.keep (c.loop-keep.invariant.none_alike was) (subst (NoneAlikeWith g c.loop-keep.keep) c.in_default.is here);
    }

pub returns-clause-found : goal.returns-clause-found
returns-clause-found c =
    let g = graph_of c.args.model.now in
    let past = c.loop-keep-test.false in
    let long = c.len-keep-end.ensures in
    sym (none-found (λ (keep : ℕ). option_map {U = ℕ × ℕ} (λ gone. (keep, gone)) (first_twin_of g keep)) c.loop-keep.keep (length c.args.model.now.vertices) (omega (arith, past, long))) ∙ c.loop-keep.invariant.found
