-- Changes: nothing of one is broken exactly where what it is numbered as keeps the rules.
use Rattle.std.proofs.Common.{◌≡◌, ◌↔◌, ℕ, suc, ◌<◌, ℤ, true, false, List, [], ◌∷◌, ◌++◌, map, length, Option, Some, None, refl, sym, ap, subst, ◌∙◌, arith}
use Rattle.std.specs.List.{flat_map, AllZip}
use Rattle.std.specs.Option.{option_map}
use Rattle.std.proofs.lemmas.Option.{same_Some}
use Rattle.sig_base.specs.declared.limits.TheConstants.{TARGETS_MAX}
use Rattle.model_core.specs.declared.model.Kind.{Kind}
use Rattle.model_core.specs.declared.model.Kind.TheVariants as kinds
use Rattle.model_core.specs.EventGraph as graph
use Rattle.model_core.specs.EventGraph.{Variable, Expression, Location, Choice}
use Rattle.model_core.specs.Text.Written as written
use Rattle.model_core.specs.Text.Written.{WrittenName, WrittenNumber, WrittenExpression, WrittenTarget, WrittenChoice, WrittenChange}
use Rattle.model_core.specs.Text.Numbering as numbering
use Rattle.model_core.specs.Text.Numbering.{◌>>=◌, each_numbered, declared_place, Declared, natural, signed}
use Rattle.model_core.specs.Static.FaultOrder.{StaticFault}
use Rattle.model_core.specs.Static.Meanings.{Meaning, AsScalar, AsArray, AsTable}
use Rattle.model_core.specs.Static.RuleTable.{value_count, kind_mismatch, number_too_large, literal_too_large, empty_range, draw_outside, stream_outside, too_many}
use Rattle.model_core.specs.Static.PartFaults.{use_faults, operand_faults, values_faults, target_kind, target_faults, choice_faults, source_faults, change_faults}
use Rattle.model_core.specs.Static.HasKind.{HasKind}
use Rattle.model_core.specs.Static.OwnRules.{IsLocationOfKind, KeepsChoice, KeepsSource, KeepsChange}
use Rattle.model_core.proofs.EmptyLists.{left_empty, right_empty}
use Rattle.static_laws.proofs.StaticTwins.MadeOf.{of_one, of_two, of_each, each_cons, each_length}
use Rattle.static_laws.proofs.StaticTwins.Twins.{both_empty, Twin, twin_map, twin_two, twin_then}
use Rattle.static_laws.proofs.StaticTwins.RowTwins.{same_count, same_kind, stream_twin, literal_twin, in_order, few_drawn}
use Rattle.static_laws.proofs.StaticTwins.DeclarationTwins.{few_items}
use Rattle.static_laws.proofs.StaticTwins.Zips.{zip_length}
use Rattle.static_laws.proofs.StaticTwins.NamesAgree.{NamesAgree, variable_kept, variable_unbroken, table_use}
use Rattle.static_laws.proofs.StaticTwins.ExpressionTwins.{operand_twin, values_twin}

module _ (means : List ℕ → Option Meaning) (d : Declared) (variables : List Variable) (tables vertices : ℕ) (agree : NamesAgree means d variables tables vertices) (takes : List (List ℕ)) where
  -- what is numbered as this takes values of this kind
  pub record TargetKept (t : WrittenTarget) : Type 0 where
    pub location : Location
    pub kind : Kind
    pub is : numbering.location d t ≡ Some location
    pub known : target_kind means t ≡ Some kind
    pub takes_kind : IsLocationOfKind variables tables takes location kind

  abbrev target_written : ℕ → WrittenName → Option WrittenExpression → WrittenTarget
  target_written at n index = record { at = at; name = n; index = index }

  kept_with : (at : ℕ) (n : WrittenName) (index : Option WrittenExpression) → target_faults means (target_written at n index) ≡ [] → TargetKept (target_written at n index)
  kept_with at n None h =
      let (v, kind, is, shape, known) = variable_kept means d variables tables vertices agree false n (left_empty (use_faults means AsScalar n) [] h) in
      record { location = record { variable = v; index = None }; kind = kind; is = rw is refl; known = known; takes_kind = shape }
  kept_with at n (Some i) h =
      let (v, kind, is, shape, known) = variable_kept means d variables tables vertices agree true n (left_empty (use_faults means AsArray n) (operand_faults means (Some kinds.Range) i) h) in
      let (y, is_y, has) = (operand_twin means d variables tables vertices agree kinds.Range i).kept (right_empty (use_faults means AsArray n) (operand_faults means (Some kinds.Range) i) h) in
      record { location = record { variable = v; index = Some y }; kind = kind; is = rw (is, is_y) refl; known = known; takes_kind = (shape, has) }

  target_kept : (t : WrittenTarget) → target_faults means t ≡ [] → TargetKept t
  target_kept t h = kept_with t.at t.name t.index h

  pub record TargetUnbroken (t : WrittenTarget) (kind : Kind) : Type 0 where
    pub none : target_faults means t ≡ []
    pub known : target_kind means t ≡ Some kind

  abbrev location_made : ℕ → Option Expression → Location
  location_made v i = record { variable = v; index = i }

  unbroken_with : (at : ℕ) (n : WrittenName) (index : Option WrittenExpression) (l : Location) (kind : Kind) → numbering.location d (target_written at n index) ≡ Some l → IsLocationOfKind variables tables takes l kind → TargetUnbroken (target_written at n index) kind
  unbroken_with at n None l kind s k =
      let p = of_two location_made (declared_place n.name d.variables) (Some None) l s in
      let shape = subst (λ (x : Location). IsLocationOfKind variables tables takes x kind) (sym p.made) k in
      let none : p.b ≡ None = sym (same_Some None p.b p.is_b) in
      let u = variable_unbroken means d variables tables vertices agree false n p.a kind p.is_a (subst (λ i. IsLocationOfKind variables tables takes (location_made p.a i) kind) none shape) in
      record { none = both_empty (use_faults means AsScalar n) [] u.0 refl; known = u.1 }
  unbroken_with at n (Some e) l kind s k =
      let p = of_two location_made (declared_place n.name d.variables) (option_map Some (numbering.expression d e)) l s in
      let q = of_one Some (numbering.expression d e) p.b p.is_b in
      let shape = subst (λ i. IsLocationOfKind variables tables takes (location_made p.a i) kind) (sym q.made) (subst (λ (x : Location). IsLocationOfKind variables tables takes x kind) (sym p.made) k) in
      let u = variable_unbroken means d variables tables vertices agree true n p.a kind p.is_a shape.0 in
      record {
        none = both_empty (use_faults means AsArray n) (operand_faults means (Some kinds.Range) e) u.0 ((operand_twin means d variables tables vertices agree kinds.Range e).unbroken q.a q.is_a shape.1);
        known = u.1;
      }

  target_unbroken : (t : WrittenTarget) (l : Location) (kind : Kind) → numbering.location d t ≡ Some l → IsLocationOfKind variables tables takes l kind → TargetUnbroken t kind
  target_unbroken t l kind s k = unbroken_with t.at t.name t.index l kind s k

  -- ---- `set`

  record TargetsKept (targets : List WrittenTarget) : Type 0 where
    locations : List Location
    kinds : List Kind
    are : each_numbered (numbering.location d) targets ≡ Some locations
    known : map (target_kind means) targets ≡ map Some kinds
    count : length kinds ≡ length targets
    taken : AllZip (IsLocationOfKind variables tables takes) locations kinds

  targets_kept : (targets : List WrittenTarget) → flat_map (target_faults means) targets ≡ [] → TargetsKept targets
  targets_kept [] e = record { locations = []; kinds = []; are = refl; known = refl; count = refl; taken = tt }
  targets_kept (t ∷ ts) e =
      let k = target_kept t (left_empty (target_faults means t) (flat_map (target_faults means) ts) e) in
      let l = targets_kept ts (right_empty (target_faults means t) (flat_map (target_faults means) ts) e) in
      record {
        locations = k.location ∷ l.locations;
        kinds = k.kind ∷ l.kinds;
        are = each_cons (numbering.location d) t ts k.location l.locations k.is l.are;
        known = rw (k.known, l.known) refl;
        count = ap suc l.count;
        taken = (k.takes_kind, l.taken);
      }

  record TargetsUnbroken (targets : List WrittenTarget) (kinds : List Kind) : Type 0 where
    none : flat_map (target_faults means) targets ≡ []
    known : map (target_kind means) targets ≡ map Some kinds
    count : length kinds ≡ length targets

  targets_unbroken : (targets : List WrittenTarget) (ls : List Location) (ks : List Kind) → each_numbered (numbering.location d) targets ≡ Some ls → AllZip (IsLocationOfKind variables tables takes) ls ks → TargetsUnbroken targets ks
  targets_unbroken [] ls ks s z = none_left ks (subst (λ xs. AllZip (IsLocationOfKind variables tables takes) xs ks) (sym (same_Some [] ls s)) z)
    where
      none_left : (ks : List Kind) → AllZip (IsLocationOfKind variables tables takes) [] ks → TargetsUnbroken [] ks
      none_left [] z = record { none = refl; known = refl; count = refl }
      none_left (k ∷ ks) z = absurd z
  targets_unbroken (t ∷ ts) ls ks s z =
      let p = of_each (numbering.location d) t ts ls s in
      by_kinds p.a p.b p.is_a ks (subst (λ xs. AllZip (IsLocationOfKind variables tables takes) xs ks) (sym p.made) z) (λ js y. targets_unbroken ts p.b js p.is_b y)
    where
      by_kinds : (l : Location) (rest : List Location) → numbering.location d t ≡ Some l → (ks : List Kind) → AllZip (IsLocationOfKind variables tables takes) (l ∷ rest) ks
          → ((js : List Kind) → AllZip (IsLocationOfKind variables tables takes) rest js → TargetsUnbroken ts js) → TargetsUnbroken (t ∷ ts) ks
      by_kinds l rest is_l [] z later = absurd z
      by_kinds l rest is_l (k ∷ ks) z later =
          let u = target_unbroken t l k is_l z.0 in
          let w = later ks z.1 in
          record { none = both_empty (target_faults means t) (flat_map (target_faults means) ts) u.none w.none; known = rw (u.known, w.known) refl; count = ap suc w.count }

  set_twin : (at : ℕ) (targets : List WrittenTarget) (values : List WrittenExpression) → Twin (change_faults means (written.Set at targets values)) (numbering.change d (written.Set at targets values)) (KeepsChange variables tables takes)
  set_twin at targets values = record {
    kept = λ e.
        let rest = left_empty (counts ++ of_targets) (values_faults means (map (target_kind means) targets) values) e in
        let k = targets_kept targets (right_empty counts of_targets rest) in
        let same = (same_count (length targets) (length values) at).0 (left_empty (value_count (length targets) (length values) at) few (left_empty counts of_targets rest)) in
        let h : values_faults means (map Some k.kinds) values ≡ [] = rw k.known at (right_empty (counts ++ of_targets) (values_faults means (map (target_kind means) targets) values) e) in
        let (ys, are, given) = (values_twin means d variables tables vertices agree k.kinds values (k.count ∙ same)).kept h in (
          graph.Set k.locations ys,
          rw (k.are, are) refl,
          (
            (few_items TARGETS_MAX (λ (t : WrittenTarget). t.at) (numbering.location d) targets k.locations k.are).0 (right_empty (value_count (length targets) (length values) at) few (left_empty counts of_targets rest)),
            record { kinds = k.kinds; taken = k.taken; given = given },
          ),
        );
    unbroken = λ y s q.
        let p = of_two graph.Set (each_numbered (numbering.location d) targets) (each_numbered (numbering.expression d) values) y s in
        whole p.a p.b p.is_a p.is_b (subst (KeepsChange variables tables takes) (sym p.made) q);
  }
    where
      few : List StaticFault
      few = too_many TARGETS_MAX (map (λ (t : WrittenTarget). t.at) targets)

      counts : List StaticFault
      counts = value_count (length targets) (length values) at ++ few

      of_targets : List StaticFault
      of_targets = flat_map (target_faults means) targets

      whole : (ls : List Location) (ys : List Expression) → each_numbered (numbering.location d) targets ≡ Some ls → each_numbered (numbering.expression d) values ≡ Some ys → KeepsChange variables tables takes (graph.Set ls ys) → change_faults means (written.Set at targets values) ≡ []
      whole ls ys is_ls is_ys (short, t) =
          let u = targets_unbroken targets ls t.kinds is_ls t.taken in
          let same : length t.kinds ≡ length values = sym (zip_length (HasKind variables) ys t.kinds t.given) ∙ each_length (numbering.expression d) values ys is_ys in
          both_empty (counts ++ of_targets) (values_faults means (map (target_kind means) targets) values)
          (both_empty counts of_targets
          (both_empty (value_count (length targets) (length values) at) few ((same_count (length targets) (length values) at).1 (sym u.count ∙ same)) ((few_items TARGETS_MAX (λ (t : WrittenTarget). t.at) (numbering.location d) targets ls is_ls).1 short))
          u.none)
          (rw u.known ((values_twin means d variables tables vertices agree t.kinds values same).unbroken ys is_ys t.given))

  -- ---- `draw`

  drawn_twin : (t : WrittenTarget) (at : ℕ) → Twin (target_faults means t ++ kind_mismatch (Some kinds.Range) (target_kind means t) at) (numbering.location d t) (λ l. IsLocationOfKind variables tables takes l kinds.Range)
  drawn_twin t at = record {
    kept = λ e.
        let k = target_kept t (left_empty (target_faults means t) _ e) in
        let same = (by_kind (target_kind means t) k.kind k.known).0 (right_empty (target_faults means t) _ e) in
        (k.location, k.is, subst (IsLocationOfKind variables tables takes k.location) (sym same) k.takes_kind);
    unbroken = λ l s q. let u = target_unbroken t l kinds.Range s q in both_empty (target_faults means t) _ u.none ((by_kind (target_kind means t) kinds.Range u.known).1 refl);
  }
    where
      by_kind : (o : Option Kind) (kind : Kind) → o ≡ Some kind → kind_mismatch (Some kinds.Range) o at ≡ [] ↔ kinds.Range ≡ kind
      by_kind None kind s = cc
      by_kind (Some k) kind s = rw (same_Some k kind s) (same_kind kinds.Range kind at)

  choice_twin : (c : WrittenChoice) → Twin (choice_faults means c) (numbering.choice d c) (KeepsChoice variables tables takes)
  choice_twin (written.ByTable t) = twin_map graph.ByTable (use_faults means AsTable t) (declared_place t.name d.tables) (λ k. k < tables) (KeepsChoice variables tables takes) (λ k p. p) (λ k p. p) (table_use means d variables tables vertices agree t)
  choice_twin (written.Uniform lo hi) = record {
    kept = λ e.
        let rest = left_empty (both ++ empty_range lo hi) (draw_outside lo hi) e in
        let (a, is_a, l) = (literal_twin lo).kept (left_empty (literal_too_large lo) (literal_too_large hi) (left_empty both (empty_range lo hi) rest)) in
        let (b, is_b, m) = (literal_twin hi).kept (right_empty (literal_too_large lo) (literal_too_large hi) (left_empty both (empty_range lo hi) rest)) in (
          graph.Uniform a b,
          rw (is_a, is_b) refl,
          (l, m, (in_order lo hi a b is_a is_b).0 (right_empty both (empty_range lo hi) rest), (few_drawn lo hi a b is_a is_b).0 (right_empty (both ++ empty_range lo hi) (draw_outside lo hi) e)),
        );
    unbroken = λ y s q.
        let p = of_two graph.Uniform (signed lo) (signed hi) y s in
        whole p.a p.b p.is_a p.is_b (subst (KeepsChoice variables tables takes) (sym p.made) q);
  }
    where
      both : List StaticFault
      both = literal_too_large lo ++ literal_too_large hi

      whole : (a b : ℤ) → signed lo ≡ Some a → signed hi ≡ Some b → KeepsChoice variables tables takes (graph.Uniform a b) → choice_faults means (written.Uniform lo hi) ≡ []
      whole a b is_a is_b k =
          both_empty (both ++ empty_range lo hi) (draw_outside lo hi)
          (both_empty both (empty_range lo hi) (both_empty (literal_too_large lo) (literal_too_large hi) ((literal_twin lo).unbroken a is_a k.0) ((literal_twin hi).unbroken b is_b k.1)) ((in_order lo hi a b is_a is_b).1 k.2))
          ((few_drawn lo hi a b is_a is_b).1 k.3)

  -- the source of a draw, and what is made of it
  pub source_twin : {B : Type 0} (h : ℕ → Choice → B) (R : B → Type 0)
      → ((k : ℕ) (c : Choice) → KeepsSource variables tables takes k c → R (h k c)) → ((k : ℕ) (c : Choice) → R (h k c) → KeepsSource variables tables takes k c)
      → (stream : WrittenNumber) (c : WrittenChoice) → Twin (source_faults means stream c) (natural stream >>= λ number. numbering.choice d c >>= λ choice. Some (h number choice)) R
  source_twin h R to from stream c =
      twin_two h (number_too_large stream ++ stream_outside stream) (choice_faults means c) (natural stream) (numbering.choice d c) _ _ R
      (λ k ch p q. to k ch (p.1, q)) (λ k ch r. let s = from k ch r in ((omega arith, s.0), s.1))
      (stream_twin stream) (choice_twin c)

  draw_twin : (at : ℕ) (target : WrittenTarget) (stream : WrittenNumber) (c : WrittenChoice) → Twin (change_faults means (written.Draw at target stream c)) (numbering.change d (written.Draw at target stream c)) (KeepsChange variables tables takes)
  draw_twin at target stream c =
      twin_then drawn (source_faults means stream c) (numbering.location d target) _ _ (KeepsChange variables tables takes)
      (λ l p. source_twin (graph.Draw l) (KeepsChange variables tables takes) (λ k ch q. (p, q)) (λ k ch s. s.1) stream c)
      (λ l y s q. let p = of_two (graph.Draw l) (natural stream) (numbering.choice d c) y s in (subst (KeepsChange variables tables takes) (sym p.made) q).0)
      (drawn_twin target target.name.at)
    where
      drawn : List StaticFault
      drawn = target_faults means target ++ kind_mismatch (Some kinds.Range) (target_kind means target) target.name.at

  pub change_twin : (c : WrittenChange) → Twin (change_faults means c) (numbering.change d c) (KeepsChange variables tables takes)
  change_twin (written.Set at targets values) = set_twin at targets values
  change_twin (written.Draw at target stream c) = draw_twin at target stream c
