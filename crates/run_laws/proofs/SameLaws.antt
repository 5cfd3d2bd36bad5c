-- Sameness is reflexive and transitive.
use Rattle.std.proofs.Common.{◌≡◌, ℕ, le_trans, ℤ, ◌&&◌, IsTrue, List, [], ◌∷◌, ◌++◌, append_assoc, map, refl, sym, ◌∙◌, ap, subst}
use lib.Pointwise.{pointwise}
use Rattle.model_core.specs.EventGraph.{EventGraph}
use Rattle.model_core.specs.Run.State.{variable_at, within, in_ranges}
use Rattle.model_core.specs.Run.Step.{vertex_at}
use Rattle.model_core.specs.Run.Machine.{Look, finished}
use Rattle.model_core.specs.Run.History.{allowed, look}
use Rattle.model_core.specs.Run.Same.{Begins, SameLooks, Parameter, parameter, first_parameters, Same}
use Rattle.run_laws.proofs.Simulation.{equal_looks}

begins_trans : {A : Type 0} (xs ys zs : List A) → Begins xs ys → Begins ys zs → Begins xs zs
begins_trans xs ys zs (r, e) (s, h) = (r ++ s, sym (append_assoc xs r s) ∙ (ap (λ l. l ++ s) e ∙ h))

is_finished : {a b : Look} → a ≡ b → IsTrue (finished a.standing) → IsTrue (finished b.standing)
is_finished e fin = subst (λ (l : Look). IsTrue (finished l.standing)) e fin

pub SameLooks-trans : (a b c : ℕ → Look) → SameLooks a b → SameLooks b c → SameLooks a c
SameLooks-trans a b c ab bc = record {
  finishes = λ n fin.
      let (m, le, e) = ab.finishes n fin in
      let (k, le_too, h) = bc.finishes m (is_finished (sym e) fin) in
      (k, le_trans le_too le, h ∙ e);
  finishes_only = λ m fin.
      let (n, e) = bc.finishes_only m fin in
      let (k, h) = ab.finishes_only n (is_finished (sym e) fin) in
      (k, h ∙ e);
  shows = λ n.
      let (m, le, p) = ab.shows n in
      let (k, le_too, q) = bc.shows m in
      (k, le_trans le_too le, begins_trans (a n).history (b m).history (c k).history p q);
  shows_only = λ m.
      let (n, q) = bc.shows_only m in
      let (k, p) = ab.shows_only n in
      (k, begins_trans (c m).history (b n).history (a k).history q p);
}

-- whether starting values are allowed depends on the first vertex's parameters alone
same_ranges : (g : EventGraph) (vs : List ℕ) (starts : List ℤ) → in_ranges (map (variable_at g) vs) starts ≡ pointwise (λ (p : Parameter) x. within p.lo p.hi x) (map (λ v. parameter (variable_at g v)) vs) starts
same_ranges g [] [] = refl
same_ranges g [] (x ∷ xs) = refl
same_ranges g (v ∷ vs) [] = refl
same_ranges g (v ∷ vs) (x ∷ xs) = ap (λ b. within (variable_at g v).lo (variable_at g v).hi x && b) (same_ranges g vs xs)

same_allowed : (g h : EventGraph) → first_parameters g ≡ first_parameters h → (starts : List ℤ) → allowed g starts ≡ allowed h starts
same_allowed g h e starts =
    same_ranges g (vertex_at g 0).parameters starts ∙ (ap (λ (ps : List Parameter). pointwise (λ (p : Parameter) x. within p.lo p.hi x) ps starts) e ∙ sym (same_ranges h (vertex_at h 0).parameters starts))

pub same_refl : (g : EventGraph) → Same g g
same_refl g = record {
  watched = refl;
  started = refl;
  runs = λ seed fits starts ok until early. equal_looks (λ n. look g seed starts until n) (λ n. look g seed starts until n) (λ n. refl);
}

pub same_trans : (g h k : EventGraph) → Same g h → Same h k → Same g k
same_trans g h k gh hk = record {
  watched = gh.watched ∙ hk.watched;
  started = gh.started ∙ hk.started;
  runs = λ seed fits starts ok until early.
      SameLooks-trans (λ n. look g seed starts until n) (λ n. look h seed starts until n) (λ n. look k seed starts until n)
      (gh.runs seed fits starts ok until early)
      (hk.runs seed fits starts (sym (same_allowed g h gh.started starts) ∙ ok) until early);
}
