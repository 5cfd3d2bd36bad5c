use Rattle.std.proofs.Common.{sym, ◌∙◌, map, take, arith}
use Rattle.std.proofs.lemmas.List.{map_push, take_all}
use Rattle.sig_base.proofs.Lists.{seen_more}
use Rattle.model_core.specs.Code.Views.{location_of}
use Rattle.model_core.specs.Code.WrittenViews.{written_target}
use Rattle.model_core.specs.Text.Numbering.{location}
use Rattle.model_core.specs.Static.Meanings.{meaning_of}
use Rattle.model_core.specs.Static.PartFaults.{target_faults, target_kind}
use Rattle.static_laws.proofs.ListChecks.{turn}
use Rattle.sig_types.proofs.changes.all_targets.Goals as goal

pub loop-raw-preserved : goal.loop-raw-preserved
loop-raw-preserved c =
    let m = meaning_of c.args.names.now in
    let l = c.loop-raw in
    let x = c.raw-item.result in
    record {
      checked = turn m (target_faults m) location written_target _ _ _ c.args.raws.now l.raw-index x (map location_of l.targets.items) _ (location_of c.in_ok-typed.typed.part) c.loop-raw-test.true c.raw-item.is (rw c.in_ok-push.ensures.items (map_push location_of l.targets.items c.in_ok-typed.typed.part)) l.invariant.checked c.in_ok-typed.ensures.checked;
      kinds = c.in_ok-push-2.ensures.items ∙ rw (l.invariant.kinds, c.in_ok-typed.ensures.kind, seen_more written_target c.args.raws.now l.raw-index x c.loop-raw-test.true c.raw-item.is) (sym (map_push (target_kind m) (map written_target (take l.raw-index c.args.raws.now)) (written_target x)));
    }

pub returns-clause-checked : goal.returns-clause-checked
returns-clause-checked c = rw (c.from_vec-targets.ensures, ← take_all c.loop-raw.raw-index c.args.raws.now (omega (arith, c.loop-raw-test.false))) c.loop-raw.invariant.checked

pub returns-clause-kinds : goal.returns-clause-kinds
returns-clause-kinds c = rw (← take_all c.loop-raw.raw-index c.args.raws.now (omega (arith, c.loop-raw-test.false))) c.loop-raw.invariant.kinds
