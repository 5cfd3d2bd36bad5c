-- The watch list: nothing of it is broken exactly where its items name what there is, each once.
use Rattle.std.proofs.Common.{◌≡◌, ◌↔◌, ◌⊎◌, inl, inr, ℕ, ◌+◌, ◌<◌, Bool, true, false, List, [], ◌∷◌, ◌++◌, map, length, Option, Some, None, nat_eq, refl, sym, ap, subst, ◌∙◌, arith}
use Rattle.std.specs.List.{flat_map, AllByRecursion, AllZip, IsDistinct}
use Rattle.std.specs.Option.{option_map}
use Rattle.std.proofs.lemmas.Option.{same_Some, slice_get_within}
use Rattle.std.proofs.lemmas.Bool.Decides.{nat_tests}
use Rattle.std.proofs.lemmas.Cmp.{nat_list_eq_equiv}
use lib.Pointwise.{bytes_decides}
use Rattle.model_core.specs.EventGraph as graph
use Rattle.model_core.specs.EventGraph.{Variable, Watched, WatchedVariable, WatchedVertex}
use Rattle.model_core.specs.Text.Lexing.{same_bytes}
use Rattle.model_core.specs.Text.Written.{WrittenName}
use Rattle.model_core.specs.Text.Numbering as numbering
use Rattle.model_core.specs.Text.Numbering.{each_numbered, written_or, declared_place, Declared}
use Rattle.model_core.specs.Static.Meanings.{Meaning, MeansVariable, MeansTable, MeansVertex, AsWatched, fits_role}
use Rattle.model_core.specs.Static.PartFaults.{written_items, repeated_names, use_faults}
use Rattle.model_core.specs.Static.OwnRules.{IsWatchable, watch_number}
use Rattle.static_laws.proofs.StaticTwins.Twins.{Twin, twin_each, twin_and}
use Rattle.static_laws.proofs.StaticTwins.RepeatedNames.{names_of, distinct_names, distinct_along, distinct_back}
use Rattle.static_laws.proofs.StaticTwins.NumberedPlaces.{place_within, same_place, each_zip}
use Rattle.static_laws.proofs.StaticTwins.NamesAgree.{NamesAgree, used, rightly_used}

module _ (means : List ℕ → Option Meaning) (d : Declared) (variables : List Variable) (tables vertices : ℕ) (agree : NamesAgree means d variables tables vertices) where
  watch_twin : (n : WrittenName) → Twin (use_faults means AsWatched n) (numbering.watched d n) (IsWatchable (length variables) vertices)
  watch_twin n = record {
    kept = λ e. let u = used AsWatched n (means n.name) e in by_meaning u.meaning u.known u.fits;
    unbroken = λ w s q. by_places (declared_place n.name d.variables) refl (declared_place n.name d.vertices) refl w s;
  }
    where
      by_meaning : (w : Meaning) → means n.name ≡ Some w → fits_role AsWatched w ≡ true → (y : Watched) × (numbering.watched d n ≡ Some y) × IsWatchable (length variables) vertices y
      by_meaning (MeansVariable k kind array) e f =
          let p = agree.variable_means n.name k kind array e in
          (WatchedVariable k, ap (λ o. numbering.watched_or d o (declared_place n.name d.vertices)) p.0, slice_get_within variables k p.1.variable p.1.there)
      by_meaning (MeansTable k) e f = cc
      by_meaning (MeansVertex k) e f =
          let p = agree.vertex_means n.name k e in
          (WatchedVertex k, ap (λ o. numbering.watched_or d o (declared_place n.name d.vertices)) p.2 ∙ ap (option_map graph.WatchedVertex) p.0, p.1)

      by_places : (o : Option ℕ) → declared_place n.name d.variables ≡ o → (p : Option ℕ) → declared_place n.name d.vertices ≡ p → (w : Watched) → numbering.watched_or d (declared_place n.name d.variables) (declared_place n.name d.vertices) ≡ Some w → use_faults means AsWatched n ≡ []
      by_places (Some v) e p f w s = let (kind, array, known, short) = agree.variable_named n.name v e in rightly_used AsWatched n (means n.name) (MeansVariable v kind array) known refl short
      by_places None e (Some k) f w s = let (known, short) = agree.vertex_named n.name k f in rightly_used AsWatched n (means n.name) (MeansVertex k) known refl short
      by_places None e None f w s = let never : None ≡ Some w = sym (ap (λ o. numbering.watched_or d o (declared_place n.name d.vertices)) e ∙ ap (option_map graph.WatchedVertex) f) ∙ s in cc

  -- ---- each once

  -- a watched name and its number
  abbrev HasNumber : List ℕ → ℕ → Type 0
  HasNumber name k = (w : Watched) × (numbering.watched_or d (declared_place name d.variables) (declared_place name d.vertices) ≡ Some w) × (watch_number (length d.variables) w ≡ k)

  -- it is a variable of that number, or else a vertex, numbered after all variables
  record AsVariable (name : List ℕ) (x : ℕ) : Type 0 where
    there : declared_place name d.variables ≡ Some x
    within : x < length d.variables

  record AsVertex (name : List ℕ) (x : ℕ) : Type 0 where
    none : declared_place name d.variables ≡ None
    place : ℕ
    there : declared_place name d.vertices ≡ Some place
    number : length d.variables + place ≡ x

  either : (name : List ℕ) (x : ℕ) → HasNumber name x → AsVariable name x ⊎ AsVertex name x
  either name x (w, s, i) = by_places (declared_place name d.variables) refl (declared_place name d.vertices) refl w s i
    where
      by_places : (o : Option ℕ) → declared_place name d.variables ≡ o → (p : Option ℕ) → declared_place name d.vertices ≡ p
          → (w : Watched) → numbering.watched_or d o p ≡ Some w → watch_number (length d.variables) w ≡ x → AsVariable name x ⊎ AsVertex name x
      by_places (Some v) e p f w s i =
          let at : v ≡ x = ap (watch_number (length d.variables)) (same_Some (WatchedVariable v) w s) ∙ i in
          inl (record { there = e ∙ ap (λ (k : ℕ). Some k) at; within = subst (λ k. k < length d.variables) at (place_within name d.variables v e) })
      by_places None e (Some k) f w s i = inr (record { none = e; place = k; there = f; number = ap (watch_number (length d.variables)) (same_Some (WatchedVertex k) w s) ∙ i })
      by_places None e None f w s i = cc

  -- a variable's name isn't a vertex's
  differ : (a b : List ℕ) (x y : ℕ) → AsVariable a x → AsVertex b y → same_bytes a b ≡ nat_eq x y
  differ a b x y v w = by_test (same_bytes a b) refl ∙ sym (apart x w.place y v.within w.number)
    where
      apart : (j k i : ℕ) → j < length d.variables → length d.variables + k ≡ i → nat_eq j i ≡ false
      apart j k i h e = grind (arith, nat_tests)

      some_none : Some x ≡ None → ⊥
      some_none h = cc

      by_test : (s : Bool) → same_bytes a b ≡ s → s ≡ false
      by_test true h = let same : a ≡ b = (bytes_decides a b).0 h in absurd (some_none (sym v.there ∙ ap (λ n. declared_place n d.variables) same ∙ w.none))
      by_test false h = refl

  one_number : (a b : List ℕ) (x y : ℕ) → HasNumber a x → HasNumber b y → same_bytes a b ≡ nat_eq x y
  one_number a b x y p q = elim (either a x p) [
    | inl v ↦ elim (either b y q) [
      | inl w ↦ same_place d.variables a b x y v.there w.there
      | inr w ↦ differ a b x y v w
    ]
    | inr v ↦ elim (either b y q) [
      | inl w ↦ nat_list_eq_equiv.symm a b ∙ differ b a y x w v ∙ flipped y x
      | inr w ↦ same_place d.vertices a b v.place w.place v.there w.there ∙ shifted v.place w.place x y v.number w.number
    ]
  ]
    where
      flipped : (j k : ℕ) → nat_eq j k ≡ nat_eq k j
      flipped j k = grind (arith, nat_tests)

      shifted : (j k x y : ℕ) → length d.variables + j ≡ x → length d.variables + k ≡ y → nat_eq j k ≡ nat_eq x y
      shifted j k x y e f = grind (arith, nat_tests)

  have_numbers : (ns : List WrittenName) (ws : List Watched) → AllZip (λ n w. numbering.watched d n ≡ Some w) ns ws → AllZip HasNumber (names_of ns) (map (watch_number (length d.variables)) ws)
  have_numbers [] [] z = tt
  have_numbers [] (w ∷ ws) z = absurd z
  have_numbers (n ∷ ns) [] z = absurd z
  have_numbers (n ∷ ns) (w ∷ ws) z = ((w, z.0, refl), have_numbers ns ws z.1)

  once : (ns : List WrittenName) (ws : List Watched) → each_numbered (numbering.watched d) ns ≡ Some ws → repeated_names [] ns ≡ [] ↔ IsDistinct nat_eq (map (watch_number (length d.variables)) ws)
  once ns ws e =
      let z = have_numbers ns ws (each_zip (numbering.watched d) ns ws e) in (
        λ h. distinct_along HasNumber same_bytes nat_eq one_number (names_of ns) (map (watch_number (length d.variables)) ws) z ((distinct_names ns).0 h),
        λ h. (distinct_names ns).1 (distinct_back HasNumber same_bytes nat_eq one_number (names_of ns) (map (watch_number (length d.variables)) ws) z h),
      )

  abbrev pub KeepsWatch : List Watched → Type 0
  KeepsWatch ws = AllByRecursion (IsWatchable (length variables) vertices) ws × IsDistinct nat_eq (map (watch_number (length d.variables)) ws)

  names_twin : (ns : List WrittenName) → Twin (flat_map (use_faults means AsWatched) ns ++ repeated_names [] ns) (each_numbered (numbering.watched d) ns) KeepsWatch
  names_twin ns = twin_and (flat_map (use_faults means AsWatched) ns) (repeated_names [] ns) (each_numbered (numbering.watched d) ns) _ _ (λ ws s p. once ns ws s) (twin_each (use_faults means AsWatched) (numbering.watched d) (IsWatchable (length variables) vertices) watch_twin ns)

  pub watch_list_twin : (o : Option (List WrittenName)) → Twin (flat_map (use_faults means AsWatched) (written_items o) ++ repeated_names [] (written_items o)) (written_or (each_numbered (numbering.watched d)) [] o) KeepsWatch
  watch_list_twin None = names_twin []
  watch_list_twin (Some ns) = names_twin ns
