-- Texts that a pen puts one after the other, and what a loop has put after one element more.
use Rattle.std.proofs.Common.{◌≡◌, ℕ, List, [], ◌∷◌, ◌++◌, map, subst}
use Rattle.std.specs.Prelude.{codes}
use Rattle.std.specs.List.{flat_map}
use Rattle.std.proofs.lemmas.List.{map_push, flat_map_more}
use Rattle.model_core.specs.Text.Canonical.{after_commas}

-- two texts are put one after the other
abbrev pub Both : {S : Type 0} → (S → S → List ℕ → Type 0) → Type 0
Both {S} adds = (s t u : S) (a b : List ℕ) → adds s t a → adds t u b → adds s u (a ++ b)

module _ {S : Type 0} {adds : S → S → List ℕ → Type 0} (both : Both adds) where
  pub two : {s t u : S} {a b : List ℕ} → adds s t a → adds t u b → adds s u (a ++ b)
  two x y = both _ _ _ _ _ x y

  pub three : {s0 s1 s2 s3 : S} {a b c : List ℕ} → adds s0 s1 a → adds s1 s2 b → adds s2 s3 c → adds s0 s3 (a ++ b ++ c)
  three p0 p1 p2 = two (two p0 p1) p2

  pub four : {s0 s1 s2 s3 s4 : S} {a b c d : List ℕ} → adds s0 s1 a → adds s1 s2 b → adds s2 s3 c → adds s3 s4 d → adds s0 s4 (a ++ b ++ c ++ d)
  four p0 p1 p2 p3 = two (three p0 p1 p2) p3

  pub five : {s0 s1 s2 s3 s4 s5 : S} {a b c d e : List ℕ} → adds s0 s1 a → adds s1 s2 b → adds s2 s3 c → adds s3 s4 d → adds s4 s5 e → adds s0 s5 (a ++ b ++ c ++ d ++ e)
  five p0 p1 p2 p3 p4 = two (four p0 p1 p2 p3) p4

  pub six : {s0 s1 s2 s3 s4 s5 s6 : S} {a b c d e f : List ℕ} → adds s0 s1 a → adds s1 s2 b → adds s2 s3 c → adds s3 s4 d → adds s4 s5 e → adds s5 s6 f → adds s0 s6 (a ++ b ++ c ++ d ++ e ++ f)
  six p0 p1 p2 p3 p4 p5 = two (five p0 p1 p2 p3 p4) p5

  pub seven : {s0 s1 s2 s3 s4 s5 s6 s7 : S} {a b c d e f g : List ℕ} → adds s0 s1 a → adds s1 s2 b → adds s2 s3 c → adds s3 s4 d → adds s4 s5 e → adds s5 s6 f → adds s6 s7 g → adds s0 s7 (a ++ b ++ c ++ d ++ e ++ f ++ g)
  seven p0 p1 p2 p3 p4 p5 p6 = two (six p0 p1 p2 p3 p4 p5) p6

  -- an equal text is put as well
  pub put_as : {s t : S} {a : List ℕ} (b : List ℕ) → a ≡ b → adds s t a → adds s t b
  put_as {s} {t} b e = subst (adds s t) e

  -- a text an element, after one more
  pub one_more_put : {Y : Type 0} (text : Y → List ℕ) {s t u : S} (ys more : List Y) (y : Y) → more ≡ ys ++ y ∷ [] → adds s t (flat_map text ys) → adds t u (text y) → adds s u (flat_map text more)
  one_more_put text {s} {t} {u} ys more y is so_far put = subst (adds s u) (rw is (flat_map_more text [] ys y)) (two so_far put)

  -- a text for each element, each after a comma, after one more
  pub one_more_after_comma : {Y : Type 0} (text : Y → List ℕ) {s t u v : S} (ys more : List Y) (y : Y) → more ≡ ys ++ y ∷ [] → adds s t (after_commas (map text ys)) → adds t u (codes ", ") → adds u v (text y) → adds s v (after_commas (map text more))
  one_more_after_comma text ys more y is so_far comma put =
      one_more_put (λ (t : List ℕ). codes ", " ++ t) (map text ys) (map text more) (text y) (rw is (map_push text ys y)) so_far (two comma put)
