-- The devices begin with the input and with nothing written, and each sink fails only if its room is full.
use Rattle.std.proofs.Common.{rules, Some, map, string_bytes, refl, sym, ap, ◌∙◌}
use Rattle.sig_base.specs.Memory.{SureSupply}
use Rattle.sig_base.specs.Source.{Inlet}
use Rattle.sigma_page.specs.declared.room_sink.RoomSink.{RoomSink}
use Rattle.sigma_page.specs.PageCall.{FailsOnlyIfFull, inlet_of}
use Rattle.sigma_page.proofs.CallLaws.{over_bytes}
use Rattle.sigma_page.proofs.memory_call.perform.Goals as goal

abbrev source_seen : SureSupply → Inlet
source_seen s = record { left = Some s.left; faults = 0 }

pub returns : goal.returns
returns g c =
    let call = c.sigma-status in
    let output_full : FailsOnlyIfFull call.new.output.faults c.into_bytes.result.items c.args.room = search rules in
    let errors_full : FailsOnlyIfFull call.new.errors.faults c.into_bytes-2.result.items c.args.errors_room = search rules in
    over_bytes {K = RoomSink g.row.O.Denot g.O.Room} {E = RoomSink g.row.E.Denot g.E.Room} source_seen
    (λ s. record { written = Some s.bytes.items; faults = s.faults; settled = s.settled })
    (λ s. record { written = Some s.bytes.items; faults = s.faults; settled = s.settled })
    (map string_bytes c.args.words.now) c.new-source.result call.new.input c.in_ok-output.output call.new.output
    c.in_ok-errors.errors call.new.errors c.args.input.now c.into_bytes.result.items c.into_bytes-2.result.items
    c.args.room c.args.errors_room call.result
    (ap source_seen c.new-source.ensures ∙ ap inlet_of (c.from_vec-content.ensures ∙ c.in_ok-from_slice.ensures.items))
    c.in_ok-output.ensures c.in_ok-errors.ensures
    (sym (ap (λ v. Some v.items) c.into_bytes.ensures)) (sym (ap (λ v. Some v.items) c.into_bytes-2.ensures))
    refl output_full errors_full call.ensures.ends call.ensures.promises
