-- To be alike is an equivalence, and models that are the same and declare the same are alike.
use Rattle.std.proofs.Common.{◌≡◌, ℕ, IsTrue, List, [], ◌++◌, append_assoc, refl, sym, ◌∙◌, ap, subst}
use Rattle.std.proofs.lemmas.List.{append-nil}
use Rattle.model_core.specs.EventGraph.{EventGraph}
use Rattle.model_core.specs.Run.Machine.{Look, finished}
use Rattle.model_core.specs.Run.History.{look}
use Rattle.model_core.specs.Run.Same.{Begins, SameLooks, Same}
use Rattle.alike_laws.specs.DeclaredAlike.{DeclaredAlike}
use Rattle.alike_laws.specs.AreAlike.{ShownBy, AlikeLooks, AreAlike}
use Rattle.alike_laws.proofs.AllowedStarts.{same_allowed}

-- ---- looks

pub begins_further : {A : Type 0} (xs ys zs : List A) → Begins xs ys → Begins ys zs → Begins xs zs
begins_further xs ys zs (r, e) (s, h) = (r ++ s, sym (append_assoc xs r s) ∙ (ap (λ l. l ++ s) e ∙ h))

pub finished_too : {a b : Look} → a ≡ b → IsTrue (finished b.standing) → IsTrue (finished a.standing)
finished_too e fin = subst (λ (l : Look). IsTrue (finished l.standing)) (sym e) fin

shown-itself : (a : ℕ → Look) → ShownBy a a
shown-itself a = record {
  finishes = λ n fin. (n, refl);
  shows = λ n. (n, ([], append-nil (a n).history));
}

shown-trans : (a b c : ℕ → Look) → ShownBy a b → ShownBy b c → ShownBy a c
shown-trans a b c ab bc = record {
  finishes = λ n fin.
      let (m, e) = ab.finishes n fin in
      let (k, h) = bc.finishes m (finished_too e fin) in
      (k, h ∙ e);
  shows = λ n.
      let (m, p) = ab.shows n in
      let (k, q) = bc.shows m in
      (k, begins_further (a n).history (b m).history (c k).history p q);
}

looks-alike : (a b : ℕ → Look) → SameLooks a b → AlikeLooks a b
looks-alike a b same = record {
  forth = record {
    finishes = λ n fin. let (m, le, e) = same.finishes n fin in (m, e);
    shows = λ n. let (m, le, p) = same.shows n in (m, p);
  };
  back = record { finishes = same.finishes_only; shows = same.shows_only };
}

-- ---- declarations

pub declared_refl : (g : EventGraph) → DeclaredAlike g g
declared_refl g = record { watched = refl; shapes = refl; started = refl; kinds = refl }

pub declared_sym : (g h : EventGraph) → DeclaredAlike g h → DeclaredAlike h g
declared_sym g h gh = record {
  watched = sym gh.watched;
  shapes = sym gh.shapes;
  started = sym gh.started;
  kinds = sym gh.kinds;
}

pub declared_trans : (g h k : EventGraph) → DeclaredAlike g h → DeclaredAlike h k → DeclaredAlike g k
declared_trans g h k gh hk = record {
  watched = gh.watched ∙ hk.watched;
  shapes = gh.shapes ∙ hk.shapes;
  started = gh.started ∙ hk.started;
  kinds = gh.kinds ∙ hk.kinds;
}

-- ---- models

pub same_are_alike : (g h : EventGraph) → Same g h → DeclaredAlike g h → AreAlike g h
same_are_alike g h same declared = record {
  declared = declared;
  runs = λ seed fits starts ok until early. looks-alike (λ n. look g seed starts until n) (λ n. look h seed starts until n) (same.runs seed fits starts ok until early);
}

pub alike_refl : (g : EventGraph) → AreAlike g g
alike_refl g = record {
  declared = declared_refl g;
  runs = λ seed fits starts ok until early.
      let itself = shown-itself (λ n. look g seed starts until n) in
      record { forth = itself; back = itself };
}

pub alike_sym : (g h : EventGraph) → AreAlike g h → AreAlike h g
alike_sym g h gh = record {
  declared = declared_sym g h gh.declared;
  runs = λ seed fits starts ok until early.
      let both = gh.runs seed fits starts (same_allowed g h gh.declared.started starts ∙ ok) until early in
      record { forth = both.back; back = both.forth };
}

pub alike_trans : (g h k : EventGraph) → AreAlike g h → AreAlike h k → AreAlike g k
alike_trans g h k gh hk = record {
  declared = declared_trans g h k gh.declared hk.declared;
  runs = λ seed fits starts ok until early.
      let first = gh.runs seed fits starts ok until early in
      let second = hk.runs seed fits starts (sym (same_allowed g h gh.declared.started starts) ∙ ok) until early in
      record {
        forth = shown-trans (λ n. look g seed starts until n) (λ n. look h seed starts until n) (λ n. look k seed starts until n) first.forth second.forth;
        back = shown-trans (λ n. look k seed starts until n) (λ n. look h seed starts until n) (λ n. look g seed starts until n) second.back first.back;
      };
}
