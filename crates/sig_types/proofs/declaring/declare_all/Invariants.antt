use Rattle.std.proofs.Common.{◌≡◌, ◌++◌, map, take}
use Rattle.model_core.specs.Static.FaultOrder.{earliest_fault}
use Rattle.model_core.specs.Static.Meanings.{declarations_from, meaning_of}
use Rattle.sig_types.specs.Inner.Redeclared.{redeclared}
use Rattle.sig_types.proofs.declaring.declare_all.Given as goal

-- the parts before this one are declared
abbrev pub invariant-loop-place : goal.invariant-loop-place
invariant-loop-place g l =
    let done = declarations_from g.T.Declares.declaration 0 (map g.T.Declares.written (take l.place l.parts)) in
    record {
      means : meaning_of l.names ≡ meaning_of (l.fn.names ++ done);
      earliest : l.fault ≡ earliest_fault l.fn.fault (redeclared l.fn.names done);
    }
