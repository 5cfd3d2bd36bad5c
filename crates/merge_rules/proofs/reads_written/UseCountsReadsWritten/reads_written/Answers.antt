-- The edges are counted, asked for and taken away again.
use Rattle.std.proofs.Common.{◌≡◌, ◌∙◌, ◌<◌, ◌≤◌, ℕ, List, map, length, sym, ap, ap₂, subst, arith}
use Rattle.std.specs.Prelude.{count_by, slice_index}
use Rattle.std.specs.List.{list_any}
use Rattle.std.proofs.lemmas.List.{map-append, length-map}
use Rattle.model_core.specs.Rules.Uses.{vertex_writes}
use Rattle.model_core.specs.Code.Views.{edge_of, vertex_of}
use Rattle.use_analysis.specs.UseNumbers.{UseNumbers}
use Rattle.merge_rules.specs.Inner.ReadingEdges.{reads_it, reads_one_of, counted, uncounted, is_read_by_counts}
use Rattle.merge_rules.proofs.ConditionsAsked.CountedEdges.{counted_few, all_counted, half_counted, enough_before, enough_after, back_again, by_counts-reads}
use Rattle.merge_rules.proofs.reads_written.UseCountsReadsWritten.reads_written.Goals as goal

abbrev readers : UseNumbers → List ℕ
readers u = u.readers

pub add_edges-requires-2 : goal.add_edges-requires-2
add_edges-requires-2 c = λ v.
    let few = counted_few (map edge_of c.args.before.now) c.args.self.now.readers v in
    let is = ap (λ (u : UseNumbers). slice_index u.readers v) c.add_edges.ensures in
    let none = c.requires.none v in
    let long = length-map c.args.before.now edge_of in
    omega (arith, few, is, none, long, c.if-before-gt-EDGES_MAX.false, c.if-after-gt-EDGES_MAX.false)

pub take_edges-requires : goal.take_edges-requires
take_edges-requires c =
    let before = map edge_of c.args.before.now in
    let after = map edge_of c.args.after.now in
    let is : c.add_edges-2.new.counts.readers ≡ all_counted before after c.args.self.now.readers = ap readers c.add_edges-2.ensures ∙ ap (counted after) (ap readers c.add_edges.ensures) in
    subst (λ (ns : List ℕ). (v : ℕ) → v < length ns → count_by (reads_it v) before ≤ slice_index ns v) (sym is) (enough_before before after c.args.self.now.readers)

pub take_edges-requires-2 : goal.take_edges-requires-2
take_edges-requires-2 c =
    let before = map edge_of c.args.before.now in
    let after = map edge_of c.args.after.now in
    let is : c.take_edges.new.counts.readers ≡ half_counted before after c.args.self.now.readers =
    ap readers c.take_edges.ensures ∙ ap (uncounted before) (ap readers c.add_edges-2.ensures ∙ ap (counted after) (ap readers c.add_edges.ensures)) in
    subst (λ (ns : List ℕ). (v : ℕ) → v < length ns → count_by (reads_it v) after ≤ slice_index ns v) (sym is) (enough_after before after c.args.self.now.readers)

pub returns-clause-is : goal.returns-clause-is
returns-clause-is c =
    let before = map edge_of c.args.before.now in
    let after = map edge_of c.args.after.now in
    let writes = vertex_writes (vertex_of c.args.vertex.now) in
    let is : c.add_edges-2.new.counts.readers ≡ all_counted before after c.args.self.now.readers = ap readers c.add_edges-2.ensures ∙ ap (counted after) (ap readers c.add_edges.ensures) in
    c.one_written_passes-read.ensures
    ∙ ap₂ (λ (n : ℕ) (ns : List ℕ). list_any (is_read_by_counts n ns before after) writes) c.len.ensures is
    ∙ by_counts-reads (length c.args.model.now.vars) before after c.args.self.now.readers c.requires.enough c.requires.none writes
    ∙ ap (list_any (reads_one_of writes)) (sym (map-append edge_of c.args.before.now c.args.after.now))

pub returns-clause-same : goal.returns-clause-same
returns-clause-same c =
    let before = map edge_of c.args.before.now in
    let after = map edge_of c.args.after.now in
    let is : c.take_edges-2.new.counts.readers ≡ c.args.self.now.readers =
    ap readers c.take_edges-2.ensures ∙ ap (uncounted after) (ap readers c.take_edges.ensures ∙ ap (uncounted before) (ap readers c.add_edges-2.ensures ∙ ap (counted after) (ap readers c.add_edges.ensures))) ∙ back_again before after c.args.self.now.readers in
    let stay : c.take_edges-2.new.counts.setters ≡ c.args.self.now.setters =
    ap (λ (u : UseNumbers). u.setters) c.take_edges-2.ensures ∙ ap (λ (u : UseNumbers). u.setters) c.take_edges.ensures ∙ ap (λ (u : UseNumbers). u.setters) c.add_edges-2.ensures ∙ ap (λ (u : UseNumbers). u.setters) c.add_edges.ensures in
    ap₂ (λ (r s : List ℕ). record { readers = r; setters = s }) is stay
