-- What names mean beside what they are numbered as: a use of a name is rightly made exactly where it is numbered as what the use asks for.
use Rattle.std.proofs.Common.{◌≡◌, ℕ, ◌<◌, Bool, true, false, not, List, [], ◌++◌, Option, Some, None, refl, sym, ap, ◌∙◌}
use Rattle.std.proofs.lemmas.Option.{same_Some}
use Rattle.model_core.specs.declared.model.Kind.{Kind}
use Rattle.model_core.specs.declared.static_kind.StaticKind.TheVariants as rules
use Rattle.model_core.specs.EventGraph.{Variable}
use Rattle.model_core.specs.Text.Written.{WrittenName}
use Rattle.model_core.specs.Text.Numbering.{declared_place, Declared}
use Rattle.model_core.specs.Static.Meanings.{Meaning, MeansVariable, MeansTable, MeansVertex, Role, AsScalar, AsArray, AsTable, AsVertex, fits_role}
use Rattle.model_core.specs.Static.Kinds.{kind_in_role}
use Rattle.model_core.specs.Static.RuleTable.{name_too_long, unknown_name, wrong_use}
use Rattle.model_core.specs.Static.PartFaults.{use_faults}
use Rattle.model_core.specs.Static.HasKind.{IsVariable}
use Rattle.model_core.specs.Run.State.{is_array}
use Rattle.model_core.specs.Static.OwnRules.{IsShort}
use Rattle.model_core.proofs.EmptyLists.{left_empty, right_empty}
use Rattle.static_laws.proofs.StaticTwins.Twins.{both_empty, broken_not, Twin}
use Rattle.static_laws.proofs.StaticTwins.RowTwins.{is_not, short_name}

-- Names mean the places at which they are declared, and nothing else is declared: variables as these, so many tables, and so many vertices.
pub record NamesAgree (means : List ℕ → Option Meaning) (d : Declared) (variables : List Variable) (tables vertices : ℕ) : Type 0 where
  pub variable_means : (name : List ℕ) (k : ℕ) (kind : Kind) (array : Bool) → means name ≡ Some (MeansVariable k kind array) → (declared_place name d.variables ≡ Some k) × IsVariable variables k array kind
  pub variable_named : (name : List ℕ) (k : ℕ) → declared_place name d.variables ≡ Some k → (kind : Kind) × (array : Bool) × (means name ≡ Some (MeansVariable k kind array)) × IsShort name
  pub table_means : (name : List ℕ) (k : ℕ) → means name ≡ Some (MeansTable k) → (declared_place name d.tables ≡ Some k) × (k < tables)
  pub table_named : (name : List ℕ) (k : ℕ) → declared_place name d.tables ≡ Some k → (means name ≡ Some (MeansTable k)) × IsShort name
  pub vertex_means : (name : List ℕ) (k : ℕ) → means name ≡ Some (MeansVertex k) → (declared_place name d.vertices ≡ Some k) × (k < vertices) × (declared_place name d.variables ≡ None)
  pub vertex_named : (name : List ℕ) (k : ℕ) → declared_place name d.vertices ≡ Some k → (means name ≡ Some (MeansVertex k)) × IsShort name

-- a variable is of one kind, and an array or not
pub one_shape : {variables : List Variable} {v : ℕ} {a b : Bool} {j k : Kind} → IsVariable variables v a j → IsVariable variables v b k → (a ≡ b) × (j ≡ k)
one_shape {variables = variables} {v = v} {a = a} {b = b} {j = j} {k = k} p q =
    let same : p.variable ≡ q.variable = same_Some p.variable q.variable (sym p.there ∙ q.there) in
    (sym p.shape ∙ ap is_array same ∙ q.shape, sym p.of_kind ∙ ap (λ (x : Variable). x.kind) same ∙ q.of_kind)

-- ---- uses

-- a name that is known and rightly used
pub record Used (role : Role) (o : Option Meaning) : Type 0 where
  pub meaning : Meaning
  pub known : o ≡ Some meaning
  pub fits : fits_role role meaning ≡ true

pub used : (role : Role) (n : WrittenName) (o : Option Meaning) → name_too_long n ++ unknown_name o n ++ wrong_use role o n ≡ [] → Used role o
used role n None e = absurd (never (right_empty (name_too_long n) (unknown_name None n) (left_empty (name_too_long n ++ unknown_name None n) (wrong_use role None n) e)))
  where
    never : unknown_name None n ≡ [] → ⊥
    never h = cc
used role n (Some w) e = record {
  meaning = w;
  known = refl;
  fits = (is_not (fits_role role w)).0 ((broken_not (not (fits_role role w)) rules.WrongUse n.at).0 (right_empty (name_too_long n ++ unknown_name (Some w) n) (wrong_use role (Some w) n) e));
}

-- a short name that is known and rightly used has no fault
pub rightly_used : (role : Role) (n : WrittenName) (o : Option Meaning) (w : Meaning) → o ≡ Some w → fits_role role w ≡ true → IsShort n.name → name_too_long n ++ unknown_name o n ++ wrong_use role o n ≡ []
rightly_used role n None w e f h = cc
rightly_used role n (Some w') w e f h =
    both_empty (name_too_long n ++ unknown_name (Some w') n) (wrong_use role (Some w') n)
    (both_empty (name_too_long n) (unknown_name (Some w') n) ((short_name n).1 h) refl)
    ((broken_not (not (fits_role role w')) rules.WrongUse n.at).1 ((is_not (fits_role role w')).1 (ap (fits_role role) (same_Some w' w e) ∙ f)))

-- what a variable is used as, with an index or without
abbrev pub variable_role : Bool → Role
variable_role true = AsArray
variable_role false = AsScalar

variable_fits : (array : Bool) (w : Meaning) → fits_role (variable_role array) w ≡ true → (k : ℕ) × (kind : Kind) × (w ≡ MeansVariable k kind array)
variable_fits true (MeansVariable k kind true) e = (k, kind, refl)
variable_fits true (MeansVariable k kind false) e = cc
variable_fits true (MeansTable k) e = cc
variable_fits true (MeansVertex k) e = cc
variable_fits false (MeansVariable k kind true) e = cc
variable_fits false (MeansVariable k kind false) e = (k, kind, refl)
variable_fits false (MeansTable k) e = cc
variable_fits false (MeansVertex k) e = cc

fits_variable : (array : Bool) (k : ℕ) (kind : Kind) → fits_role (variable_role array) (MeansVariable k kind array) ≡ true
fits_variable true k kind = refl
fits_variable false k kind = refl

kind_of_use : (array : Bool) (k : ℕ) (kind : Kind) (o : Option Meaning) → o ≡ Some (MeansVariable k kind array) → kind_in_role (variable_role array) o ≡ Some kind
kind_of_use true k kind o e = rw e refl
kind_of_use false k kind o e = rw e refl

table_fits : (w : Meaning) → fits_role AsTable w ≡ true → (k : ℕ) × (w ≡ MeansTable k)
table_fits (MeansVariable k kind array) e = cc
table_fits (MeansTable k) e = (k, refl)
table_fits (MeansVertex k) e = cc

vertex_fits : (w : Meaning) → fits_role AsVertex w ≡ true → (k : ℕ) × (w ≡ MeansVertex k)
vertex_fits (MeansVariable k kind array) e = cc
vertex_fits (MeansTable k) e = cc
vertex_fits (MeansVertex k) e = (k, refl)

module _ (means : List ℕ → Option Meaning) (d : Declared) (variables : List Variable) (tables vertices : ℕ) (agree : NamesAgree means d variables tables vertices) where
  -- a variable that is used with an index or without, and its kind
  pub variable_kept : (array : Bool) (n : WrittenName) → use_faults means (variable_role array) n ≡ [] → (v : ℕ) × (kind : Kind) × (declared_place n.name d.variables ≡ Some v) × IsVariable variables v array kind × (kind_in_role (variable_role array) (means n.name) ≡ Some kind)
  variable_kept array n e =
      let u = used (variable_role array) n (means n.name) e in
      let (k, kind, is) = variable_fits array u.meaning u.fits in
      let known : means n.name ≡ Some (MeansVariable k kind array) = u.known ∙ ap Some is in
      let (named, shape) = agree.variable_means n.name k kind array known in
      (k, kind, named, shape, kind_of_use array k kind (means n.name) known)

  pub variable_unbroken : (array : Bool) (n : WrittenName) (v : ℕ) (kind : Kind) → declared_place n.name d.variables ≡ Some v → IsVariable variables v array kind → (use_faults means (variable_role array) n ≡ []) × (kind_in_role (variable_role array) (means n.name) ≡ Some kind)
  variable_unbroken array n v kind e shape =
      let (j, b, known, short) = agree.variable_named n.name v e in
      let same = one_shape (agree.variable_means n.name v j b known).1 shape in
      let is : means n.name ≡ Some (MeansVariable v kind array) = known ∙ (λ i. Some (MeansVariable v (same.1 i) (same.0 i))) in
      (rightly_used (variable_role array) n (means n.name) (MeansVariable v kind array) is (fits_variable array v kind) short, kind_of_use array v kind (means n.name) is)

  pub table_use : (n : WrittenName) → Twin (use_faults means AsTable n) (declared_place n.name d.tables) (λ k. k < tables)
  table_use n = record {
    kept = λ e.
        let u = used AsTable n (means n.name) e in
        let (k, is) = table_fits u.meaning u.fits in
        let p = agree.table_means n.name k (u.known ∙ ap Some is) in
        (k, p.0, p.1);
    unbroken = λ k e lt. let p = agree.table_named n.name k e in rightly_used AsTable n (means n.name) (MeansTable k) p.0 refl p.1;
  }

  -- the vertex that an edge leads to
  pub vertex_kept : (n : WrittenName) → use_faults means AsVertex n ≡ [] → (k : ℕ) × (declared_place n.name d.vertices ≡ Some k) × (k < vertices) × (means n.name ≡ Some (MeansVertex k))
  vertex_kept n e =
      let u = used AsVertex n (means n.name) e in
      let (k, is) = vertex_fits u.meaning u.fits in
      let known : means n.name ≡ Some (MeansVertex k) = u.known ∙ ap Some is in
      let p = agree.vertex_means n.name k known in
      (k, p.0, p.1, known)

  pub vertex_unbroken : (n : WrittenName) (k : ℕ) → declared_place n.name d.vertices ≡ Some k → (use_faults means AsVertex n ≡ []) × (means n.name ≡ Some (MeansVertex k))
  vertex_unbroken n k e = let p = agree.vertex_named n.name k e in (rightly_used AsVertex n (means n.name) (MeansVertex k) p.0 refl p.1, p.0)
