-- One name more has a place, or is the first that has none.
use Rattle.std.proofs.Common.{◌∙◌, ◌+◌, ◌++◌, Some, drop, sym, ap}
use Rattle.std.proofs.lemmas.List.{drop_all}
use Rattle.std.specs.Option.{option_map}
use Rattle.sig_base.proofs.Lists.{one_left}
use Rattle.model_core.specs.Text.Numbering.{each_numbered}
use Rattle.model_read.specs.NamesPlaced.{listed_place}
use Rattle.reduction_cert.proofs.ApplicationLoops.{named_later, not_named, every_named}
use Rattle.reduction_cert.proofs.by_name.all_named.Goals as goal

pub loop-name-preserved : goal.loop-name-preserved
loop-name-preserved c =
    named_later (λ name. listed_place name c.args.places.now) (drop c.loop-name.name-index c.args.names.now) c.loop-name.found.items _ c.loop-name.invariant
    c.name-item.result (drop (c.loop-name.name-index + 1) c.args.names.now) c.in-Some.place
    (one_left c.args.names.now c.loop-name.name-index c.name-item.result c.loop-name-test.true c.name-item.is) (ap (λ name. listed_place name c.args.places.now) (sym c.as_slice.ensures) ∙ sym c.in-Some.ensures)
    ∙ ap (λ xs. option_map (λ ys. xs ++ ys) (each_numbered (λ name. listed_place name c.args.places.now) (drop (c.loop-name.name-index + 1) c.args.names.now))) (sym c.in_ok-push.ensures.items)

pub returns-in_default : goal.returns-in_default
returns-in_default c =
    not_named (λ name. listed_place name c.args.places.now) (drop c.loop-name.name-index c.args.names.now) c.loop-name.found.items _ c.loop-name.invariant
    c.name-item.result (drop (c.loop-name.name-index + 1) c.args.names.now)
    (one_left c.args.names.now c.loop-name.name-index c.name-item.result c.loop-name-test.true c.name-item.is) (ap (λ name. listed_place name c.args.places.now) (sym c.as_slice.ensures) ∙ sym c.in_default.ensures)

pub returns : goal.returns
returns c =
    ap Some c.from_vec.ensures
    ∙ every_named (λ name. listed_place name c.args.places.now) (drop c.loop-name.name-index c.args.names.now) c.loop-name.found.items _ c.loop-name.invariant
    (drop_all c.loop-name.name-index c.args.names.now c.loop-name-test.false)
