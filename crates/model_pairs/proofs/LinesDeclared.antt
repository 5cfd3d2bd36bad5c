-- Two models declare the same exactly if no lines of what they declare are apart.
use Rattle.std.proofs.Common.{◌≡◌, ◌==◌, ◌&&◌, ◌||◌, ℕ, zero, suc, Bool, true, false, not, cond, List, [], ◌∷◌, map, length, Option, Some, None, refl, sym, ap, ap₂, ◌∙◌, arith}
use Rattle.std.specs.Prelude.{is_some, slice_get, slice_index_or}
use Rattle.std.specs.Option.{option_map_or}
use Rattle.std.specs.Ordering.{int_eq}
use Rattle.std.proofs.lemmas.Bool.{eq-eqb}
use Rattle.std.proofs.lemmas.Bool.Decides.{nat_tests, Decides-int_eq}
use lib.Pointwise.{bytes_decides}
use Rattle.model_core.proofs.BothTrue.{and_first, and_second}
use Rattle.model_core.specs.declared.model.Kind.{Kind}
use Rattle.model_core.specs.declared.model.Kind.TheVariants as kinds
use Rattle.model_core.specs.EventGraph.{EventGraph, EventVertex, Variable, Watched, WatchedVariable, WatchedVertex, watched_variables}
use Rattle.model_core.specs.Run.State.{variable_at, no_variable}
use Rattle.model_core.specs.Run.Step.{vertex_at, no_vertex}
use Rattle.model_core.specs.Run.Same.{VariableNamed, VertexNamed, watched_name_of, Parameter, parameter}
use Rattle.model_core.specs.Text.Lexing.{same_bytes}
use Rattle.model_core.specs.Text.Canonical.{variable_name, vertex_name, watch_line}
use Rattle.alike_laws.specs.DeclaredAlike.{Shape, shape_at, DeclaredAlike}
use Rattle.model_pairs.specs.declared.line_pair.LinePair.{LinePair}
use Rattle.model_pairs.specs.DeclaredApart.{Beside, first_beside, lists_differ, watched_differ, same_kind, shapes_differ, names_differ, ranges_differ, line_or_dash, first_vertex_line, ranges_apart, parameters_apart, shapes_apart, declared_apart}

-- ---- names

name_in : (vs : List Variable) (v : ℕ) → option_map_or (λ (x : Variable). x.name) (slice_get vs v) [] ≡ (slice_index_or vs v no_variable).name
name_in [] v = refl
name_in (x ∷ vs) zero = refl
name_in (x ∷ vs) (suc v) = name_in vs v

pub variable_named : (g : EventGraph) (v : ℕ) → variable_name g v ≡ (variable_at g v).name
variable_named g v = name_in g.variables v

vertex_in : (vs : List EventVertex) (v : ℕ) → option_map_or (λ (x : EventVertex). x.name) (slice_get vs v) [] ≡ (slice_index_or vs v no_vertex).name
vertex_in [] v = refl
vertex_in (x ∷ vs) zero = refl
vertex_in (x ∷ vs) (suc v) = vertex_in vs v

pub vertex_named : (g : EventGraph) (v : ℕ) → vertex_name g v ≡ (vertex_at g v).name
vertex_named g v = vertex_in g.vertices v

-- ---- tests and what they test

held : (b : Bool) → not b ≡ false → b ≡ true
held true e = refl
held false e = cc

not_held : (b : Bool) → b ≡ true → not b ≡ false
not_held true e = refl
not_held false e = cc

bytes_are : (a b : List ℕ) → not (same_bytes a b) ≡ false → a ≡ b
bytes_are a b e = (bytes_decides a b).0 (held (same_bytes a b) e)

bytes_same : (a b : List ℕ) → a ≡ b → not (same_bytes a b) ≡ false
bytes_same a b e = not_held (same_bytes a b) ((bytes_decides a b).1 e)

kinds_are : (k l : Kind) → same_kind k l ≡ true → k ≡ l
kinds_are kinds.Truth kinds.Truth e = refl
kinds_are kinds.Truth kinds.Range e = absurd cc
kinds_are kinds.Range kinds.Truth e = absurd cc
kinds_are kinds.Range kinds.Range e = refl

kind_same : (k l : Kind) → k ≡ l → same_kind k l ≡ true
kind_same k l e = sym (itself k ∙ ap (same_kind k) e) where
  itself : (k : Kind) → true ≡ same_kind k k
  itself kinds.Truth = refl
  itself kinds.Range = refl

both_true : (a b : Bool) → a ≡ true → b ≡ true → (a && b) ≡ true
both_true a b x y = ap₂ (λ p q. p && q) x y

sizes_are : (m n : ℕ) → (m == n) ≡ true → m ≡ n
sizes_are m n e = grind (arith, nat_tests, e)

-- ---- lists side by side

module _ {A : Type 0} where
  module _ {B : Type 0} (d e : A → A → Bool) (f k : A → B) (each : (x y : A) → d x y ≡ false → e x y ≡ false → f x ≡ k y) where
    -- of two lists in which nothing differs so the images are the same
    pub images_same : (xs ys : List A) → length xs ≡ length ys → first_beside d xs ys ≡ None → first_beside e xs ys ≡ None → map f xs ≡ map k ys
    images_same [] [] long p q = refl
    images_same [] (y ∷ ys) long p q = absurd (omega (arith, long))
    images_same (x ∷ xs) [] long p q = absurd (omega (arith, long))
    images_same (x ∷ xs) (y ∷ ys) long p q = by (images_same xs ys (omega (arith, long))) (d x y) (e x y) refl refl p q where
      by : (first_beside d xs ys ≡ None → first_beside e xs ys ≡ None → map f xs ≡ map k ys)
          → (a b : Bool) → d x y ≡ a → e x y ≡ b → cond a (Some (x, y)) (first_beside d xs ys) ≡ None → cond b (Some (x, y)) (first_beside e xs ys) ≡ None → map f (x ∷ xs) ≡ map k (y ∷ ys)
      by rest true b s t p q = absurd cc
      by rest false true s t p q = absurd cc
      by rest false false s t p q = ap₂ (λ z zs. z ∷ zs) (each x y s t) (rest p q)

  module _ {B C : Type 0} (d : A → A → Bool) (f k : A → B) (r s : A → C) (each : (x y : A) → f x ≡ k y → r x ≡ s y → d x y ≡ false) where
    -- where the images of two lists are the same nothing differs so
    pub nothing_beside : (xs ys : List A) → map f xs ≡ map k ys → map r xs ≡ map s ys → (length xs ≡ length ys) × (first_beside d xs ys ≡ None)
    nothing_beside [] [] p q = (refl, refl)
    nothing_beside [] (y ∷ ys) p q = absurd cc
    nothing_beside (x ∷ xs) [] p q = absurd cc
    nothing_beside (x ∷ xs) (y ∷ ys) p q =
        let one : f x ≡ k y = cc in
        let ones : map f xs ≡ map k ys = cc in
        let other : r x ≡ s y = cc in
        let others : map r xs ≡ map s ys = cc in
        let (long, none) = nothing_beside xs ys ones others in
        (omega (arith, long), ap (λ b. cond b (Some (x, y)) (first_beside d xs ys)) (each x y one other) ∙ none)

  -- lists that don't differ
  same_lists : (d : A → A → Bool) (xs ys : List A) → lists_differ d xs ys ≡ false → (length xs ≡ length ys) × (first_beside d xs ys ≡ None)
  same_lists d xs ys e = by (length xs == length ys) (first_beside d xs ys) refl refl e where
    by : (b : Bool) (o : Option (Beside A)) → (length xs == length ys) ≡ b → first_beside d xs ys ≡ o → (not b || is_some o) ≡ false → (length xs ≡ length ys) × (first_beside d xs ys ≡ None)
    by true None long none e = (sizes_are _ _ long, none)
    by true (Some p) long none e = absurd cc
    by false o long none e = absurd cc

  no_difference : (d : A → A → Bool) (xs ys : List A) → (length xs ≡ length ys) × (first_beside d xs ys ≡ None) → lists_differ d xs ys ≡ false
  no_difference d xs ys (long, none) = ap₂ (λ (b : Bool) (o : Option (Beside A)). not b || is_some o) (eq-eqb _ _ long) none

-- ---- what is watched

module _ (g h : EventGraph) where
  watched_are : (x y : Watched) → watched_differ g h x y ≡ false → watched_differ g h x y ≡ false → watched_name_of g x ≡ watched_name_of h y
  watched_are (WatchedVariable v) (WatchedVariable w) e f = ap VariableNamed (sym (variable_named g v) ∙ bytes_are (variable_name g v) (variable_name h w) e ∙ variable_named h w)
  watched_are (WatchedVertex v) (WatchedVertex w) e f = ap VertexNamed (sym (vertex_named g v) ∙ bytes_are (vertex_name g v) (vertex_name h w) e ∙ vertex_named h w)
  watched_are (WatchedVariable v) (WatchedVertex w) e f = absurd cc
  watched_are (WatchedVertex v) (WatchedVariable w) e f = absurd cc

  watched_same : (x y : Watched) → watched_name_of g x ≡ watched_name_of h y → watched_name_of g x ≡ watched_name_of h y → watched_differ g h x y ≡ false
  watched_same (WatchedVariable v) (WatchedVariable w) e f = let same : (variable_at g v).name ≡ (variable_at h w).name = cc in bytes_same (variable_name g v) (variable_name h w) (variable_named g v ∙ same ∙ sym (variable_named h w))
  watched_same (WatchedVertex v) (WatchedVertex w) e f = let same : (vertex_at g v).name ≡ (vertex_at h w).name = cc in bytes_same (vertex_name g v) (vertex_name h w) (vertex_named g v ∙ same ∙ sym (vertex_named h w))
  watched_same (WatchedVariable v) (WatchedVertex w) e f = absurd cc
  watched_same (WatchedVertex v) (WatchedVariable w) e f = absurd cc

  shape_is : (v w : ℕ) → not (same_kind (variable_at g v).kind (variable_at h w).kind && ((variable_at g v).size == (variable_at h w).size)) ≡ false → shape_at g v ≡ shape_at h w
  shape_is v w e =
      let both = held (same_kind (variable_at g v).kind (variable_at h w).kind && ((variable_at g v).size == (variable_at h w).size)) e in
      let shape : Kind → ℕ → Shape = λ kind size. record { kind = kind; size = size } in
      ap₂ shape (kinds_are _ _ (and_first _ _ both)) (sizes_are _ _ (and_second (same_kind (variable_at g v).kind (variable_at h w).kind) _ both))

  -- two watch lists of the same names have watched variables of the same shapes, where no shapes differ
  shapes_are : (xs ys : List Watched) → length xs ≡ length ys → first_beside (watched_differ g h) xs ys ≡ None → first_beside (shapes_differ g h) xs ys ≡ None → map (shape_at g) (watched_variables xs) ≡ map (shape_at h) (watched_variables ys)
  shapes_are [] [] long p q = refl
  shapes_are [] (y ∷ ys) long p q = absurd (omega (arith, long))
  shapes_are (x ∷ xs) [] long p q = absurd (omega (arith, long))
  shapes_are (WatchedVariable v ∷ xs) (WatchedVariable w ∷ ys) long p q = by (shapes_are xs ys (omega (arith, long))) (watched_differ g h (WatchedVariable v) (WatchedVariable w)) (shapes_differ g h (WatchedVariable v) (WatchedVariable w)) refl p q where
    by : (first_beside (watched_differ g h) xs ys ≡ None → first_beside (shapes_differ g h) xs ys ≡ None → map (shape_at g) (watched_variables xs) ≡ map (shape_at h) (watched_variables ys))
        → (a b : Bool) → shapes_differ g h (WatchedVariable v) (WatchedVariable w) ≡ b
        → cond a (Some (WatchedVariable v, WatchedVariable w)) (first_beside (watched_differ g h) xs ys) ≡ None → cond b (Some (WatchedVariable v, WatchedVariable w)) (first_beside (shapes_differ g h) xs ys) ≡ None
        → map (shape_at g) (watched_variables (WatchedVariable v ∷ xs)) ≡ map (shape_at h) (watched_variables (WatchedVariable w ∷ ys))
    by rest true b t p q = absurd cc
    by rest false true t p q = absurd cc
    by rest false false t p q = ap₂ (λ z zs. z ∷ zs) (shape_is v w t) (rest p q)
  shapes_are (WatchedVertex v ∷ xs) (WatchedVertex w ∷ ys) long p q = by (λ none. shapes_are xs ys (omega (arith, long)) none q) (watched_differ g h (WatchedVertex v) (WatchedVertex w)) p where
    by : (first_beside (watched_differ g h) xs ys ≡ None → map (shape_at g) (watched_variables xs) ≡ map (shape_at h) (watched_variables ys))
        → (a : Bool) → cond a (Some (WatchedVertex v, WatchedVertex w)) (first_beside (watched_differ g h) xs ys) ≡ None → map (shape_at g) (watched_variables xs) ≡ map (shape_at h) (watched_variables ys)
    by rest true p = absurd cc
    by rest false p = rest p
  shapes_are (WatchedVariable v ∷ xs) (WatchedVertex w ∷ ys) long p q = absurd cc
  shapes_are (WatchedVertex v ∷ xs) (WatchedVariable w ∷ ys) long p q = absurd cc

  shape_same : (v w : ℕ) → shape_at g v ≡ shape_at h w → not (same_kind (variable_at g v).kind (variable_at h w).kind && ((variable_at g v).size == (variable_at h w).size)) ≡ false
  shape_same v w e =
      not_held _ (both_true _ _ (kind_same _ _ (ap (λ (s : Shape). s.kind) e)) (eq-eqb _ _ (ap (λ (s : Shape). s.size) e)))

  no_shapes : (xs ys : List Watched) → map (watched_name_of g) xs ≡ map (watched_name_of h) ys → map (shape_at g) (watched_variables xs) ≡ map (shape_at h) (watched_variables ys) → first_beside (shapes_differ g h) xs ys ≡ None
  no_shapes [] ys names shapes = refl
  no_shapes (x ∷ xs) [] names shapes = refl
  no_shapes (WatchedVariable v ∷ xs) (WatchedVariable w ∷ ys) names shapes =
      let rest : map (watched_name_of g) xs ≡ map (watched_name_of h) ys = cc in
      let one : shape_at g v ≡ shape_at h w = cc in
      let others : map (shape_at g) (watched_variables xs) ≡ map (shape_at h) (watched_variables ys) = cc in
      ap (λ b. cond b (Some (WatchedVariable v, WatchedVariable w)) (first_beside (shapes_differ g h) xs ys)) (shape_same v w one) ∙ no_shapes xs ys rest others
  no_shapes (WatchedVertex v ∷ xs) (WatchedVertex w ∷ ys) names shapes =
      let rest : map (watched_name_of g) xs ≡ map (watched_name_of h) ys = cc in
      no_shapes xs ys rest shapes
  no_shapes (WatchedVariable v ∷ xs) (WatchedVertex w ∷ ys) names shapes = absurd cc
  no_shapes (WatchedVertex v ∷ xs) (WatchedVariable w ∷ ys) names shapes = absurd cc

  -- ---- parameters

  range_test : ℕ → ℕ → Bool
  range_test v w = int_eq (variable_at g v).lo (variable_at h w).lo && int_eq (variable_at g v).hi (variable_at h w).hi

  parameter_is : (v w : ℕ) → names_differ g h v w ≡ false → ranges_differ g h v w ≡ false → parameter (variable_at g v) ≡ parameter (variable_at h w)
  parameter_is v w e f =
      let all = held _ f in
      let front = and_first (same_kind (variable_at g v).kind (variable_at h w).kind && int_eq (variable_at g v).lo (variable_at h w).lo) (int_eq (variable_at g v).hi (variable_at h w).hi) all in
      let hi = (Decides-int_eq (variable_at g v).hi (variable_at h w).hi).0 (and_second (same_kind (variable_at g v).kind (variable_at h w).kind && int_eq (variable_at g v).lo (variable_at h w).lo) _ all) in
      let lo = (Decides-int_eq (variable_at g v).lo (variable_at h w).lo).0 (and_second (same_kind (variable_at g v).kind (variable_at h w).kind) _ front) in
      let name : (variable_at g v).name ≡ (variable_at h w).name = sym (variable_named g v) ∙ bytes_are (variable_name g v) (variable_name h w) e ∙ variable_named h w in
      λ i. record { name = name i; lo = lo i; hi = hi i }

  kind_is : (v w : ℕ) → ranges_differ g h v w ≡ false → ranges_differ g h v w ≡ false → (variable_at g v).kind ≡ (variable_at h w).kind
  kind_is v w e f =
      let all = held _ f in
      let front = and_first (same_kind (variable_at g v).kind (variable_at h w).kind && int_eq (variable_at g v).lo (variable_at h w).lo) (int_eq (variable_at g v).hi (variable_at h w).hi) all in
      kinds_are _ _ (and_first _ _ front)

  name_same : (v w : ℕ) → parameter (variable_at g v) ≡ parameter (variable_at h w) → parameter (variable_at g v) ≡ parameter (variable_at h w) → names_differ g h v w ≡ false
  name_same v w e f = bytes_same (variable_name g v) (variable_name h w) (variable_named g v ∙ ap (λ (p : Parameter). p.name) e ∙ sym (variable_named h w))

  range_same : (v w : ℕ) → parameter (variable_at g v) ≡ parameter (variable_at h w) → (variable_at g v).kind ≡ (variable_at h w).kind → ranges_differ g h v w ≡ false
  range_same v w e k =
      not_held _ (both_true _ _ (both_true _ _ (kind_same _ _ k) ((Decides-int_eq (variable_at g v).lo (variable_at h w).lo).1 (ap (λ (p : Parameter). p.lo) e)))
      ((Decides-int_eq (variable_at g v).hi (variable_at h w).hi).1 (ap (λ (p : Parameter). p.hi) e)))

  -- ---- all of it

  -- a part isn't apart, and none after it
  unless : (b : Bool) (lines : LinePair) (rest : Option LinePair) → cond b (Some lines) rest ≡ None → (b ≡ false) × (rest ≡ None)
  unless true lines rest e = absurd cc
  unless false lines rest e = (refl, e)

  not_apart : (b : Bool) (lines : LinePair) (rest : Option LinePair) → b ≡ false → cond b (Some lines) rest ≡ rest
  not_apart b lines rest e = ap (λ c. cond c (Some lines) rest) e

  no_range : (o : Option (Beside ℕ)) → ranges_apart g h o ≡ None → o ≡ None
  no_range (Some both) e = absurd cc
  no_range None e = refl

  no_shape : (o : Option (Beside Watched)) → shapes_apart g h o ≡ None → (o ≡ None) × (parameters_apart g h ≡ None)
  no_shape (Some both) e = absurd cc
  no_shape None e = (refl, e)

  pub none_declared : declared_apart g h ≡ None → DeclaredAlike g h
  none_declared none =
      let (watch, shapes_none) = unless (lists_differ (watched_differ g h) g.watch h.watch) _ _ none in
      let (long, watched_none) = same_lists (watched_differ g h) g.watch h.watch watch in
      let (shape_none, parameters_none) = no_shape (first_beside (shapes_differ g h) g.watch h.watch) shapes_none in
      let (names, ranges_none) = unless (lists_differ (names_differ g h) (vertex_at g 0).parameters (vertex_at h 0).parameters) _ _ parameters_none in
      let (many, names_none) = same_lists (names_differ g h) (vertex_at g 0).parameters (vertex_at h 0).parameters names in
      let range_none = no_range (first_beside (ranges_differ g h) (vertex_at g 0).parameters (vertex_at h 0).parameters) ranges_none in
      record {
        watched = images_same (watched_differ g h) (watched_differ g h) (watched_name_of g) (watched_name_of h) watched_are g.watch h.watch long watched_none watched_none;
        shapes = shapes_are g.watch h.watch long watched_none shape_none;
        started = images_same (names_differ g h) (ranges_differ g h) (λ v. parameter (variable_at g v)) (λ v. parameter (variable_at h v)) parameter_is (vertex_at g 0).parameters (vertex_at h 0).parameters many names_none range_none;
        kinds = images_same (ranges_differ g h) (ranges_differ g h) (λ v. (variable_at g v).kind) (λ v. (variable_at h v).kind) kind_is (vertex_at g 0).parameters (vertex_at h 0).parameters many range_none range_none;
      }

  pub declared_none : DeclaredAlike g h → declared_apart g h ≡ None
  declared_none d =
      let ps = (vertex_at g 0).parameters in
      let qs = (vertex_at h 0).parameters in
      let watch = no_difference (watched_differ g h) g.watch h.watch (nothing_beside (watched_differ g h) (watched_name_of g) (watched_name_of h) (watched_name_of g) (watched_name_of h) watched_same g.watch h.watch d.watched d.watched) in
      let shapes = no_shapes g.watch h.watch d.watched d.shapes in
      let names = no_difference (names_differ g h) ps qs (nothing_beside (names_differ g h) (λ v. parameter (variable_at g v)) (λ v. parameter (variable_at h v)) (λ v. parameter (variable_at g v)) (λ v. parameter (variable_at h v)) name_same ps qs d.started d.started) in
      let ranges = (nothing_beside (ranges_differ g h) (λ v. parameter (variable_at g v)) (λ v. parameter (variable_at h v)) (λ v. (variable_at g v).kind) (λ v. (variable_at h v).kind) range_same ps qs d.started d.kinds).1 in
      not_apart (lists_differ (watched_differ g h) g.watch h.watch) (record { first = line_or_dash (watch_line g); second = line_or_dash (watch_line h) }) (shapes_apart g h (first_beside (shapes_differ g h) g.watch h.watch)) watch
      ∙ ap (shapes_apart g h) shapes
      ∙ not_apart (lists_differ (names_differ g h) ps qs) (record { first = first_vertex_line g; second = first_vertex_line h }) (ranges_apart g h (first_beside (ranges_differ g h) ps qs)) names
      ∙ ap (ranges_apart g h) ranges
