use Rattle.std.proofs.Common.{ap, sym, ◌∙◌, is_none, rules}
use Rattle.sig_types.proofs.Lookups.{says_new, puts_new, puts_back}
use Rattle.sig_types.proofs.names.Names.add.Goals as goal

pub returns-in_default-clause-new : goal.returns-in_default-clause-new
returns-in_default-clause-new c =
    sym (ap is_none c.in_default.is)
    ∙ says_new c.args.name.now c.in_ok-key.key c.self.inside.table.entries c.args.self.now c.in_ok-first.field-0 c.self.view_is (search rules) c.in_ok-first.ensures.old

pub returns-in_default-clause-names : goal.returns-in_default-clause-names
returns-in_default-clause-names c =
    puts_new c.args.name.now c.in_ok-key.key c.self.inside.table.entries c.args.self.now c.in_ok-first.field-0 c.self.view_is (search rules) c.in_ok-first.ensures.old
    c.args.meaning c.insert.new.self.entries c.in_default.is c.in_ok-first.ensures.entries

pub returns-clause-new : goal.returns-clause-new
returns-clause-new c =
    sym (ap is_none c.in-Some.is)
    ∙ says_new c.args.name.now c.in_ok-key.key c.self.inside.table.entries c.args.self.now c.in_ok-first.field-0 c.self.view_is (search rules) c.in_ok-first.ensures.old

pub returns-clause-names : goal.returns-clause-names
returns-clause-names c =
    puts_back c.args.name.now c.in_ok-key.key c.self.inside.table.entries c.args.self.now c.in_ok-first.field-0 c.self.view_is (search rules) c.in_ok-first.ensures.old
    c.args.meaning c.in-Some.first c.in_ok-key-2.key c.insert.new.self.entries c.insert-2.new.self.entries c.in-Some.is (search rules) c.in_ok-first.ensures.entries c.in_ok-insert.ensures.entries
