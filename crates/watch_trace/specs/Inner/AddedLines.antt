-- Texts, and lines of notes, that are added to a sheet one after the other.
use Rattle.std.proofs.Common.{◌≡◌, ℕ, Bool, List, [], ◌∷◌, ◌++◌, Option, Some, None, ◌∙◌, ap, append_assoc, append-nil, subst, sym, refl}
use Rattle.sig_base.specs.Faults.{HasRisen}
use Rattle.sig_base.specs.Sink.{GrowsBy}
use Rattle.sig_base.proofs.SinkLemmas.{GrowsBy-nothing, GrowsBy-append}
use Rattle.watch_trace.specs.Following.{settled_after}
use Rattle.std.proofs.lemmas.Grind.{flat_map-append}
use Rattle.model_core.specs.EventGraph.{EventGraph}
use Rattle.model_core.specs.Run.Machine.{Note}
use Rattle.model_core.specs.Text.HistoryText.{note_line}
use Rattle.watch_trace.specs.Inner.Sheets.{Sheet, Moves, Joins, Adds, AddsLines}

-- after bytes, and then others
settled-both : (a b : List ℕ) (x y z : Bool) → y ≡ settled_after a x → z ≡ settled_after b y → z ≡ settled_after (a ++ b) x
settled-both a b x y z p q = q ∙ ap (settled_after b) p ∙ by a b
  where
    by : (a b : List ℕ) → settled_after b (settled_after a x) ≡ settled_after (a ++ b) x
    by [] b = refl
    by (c ∷ cs) [] = refl
    by (c ∷ cs) (d ∷ ds) = refl

-- a front of what waits and is added is written, and then of what is left and added
moves-both : (s t u : Sheet) (w left others a b : List ℕ) → Moves s t (w ++ a) left → Moves t u (left ++ b) others → Moves s u (w ++ (a ++ b)) others
moves-both s t u w left others a b p q = record {
  front = p.front ++ q.front;
  grows = GrowsBy-append s.written t.written u.written p.front q.front p.grows q.grows;
  splits = append_assoc p.front q.front others ∙ ap (λ (x : List ℕ). p.front ++ x) q.splits
      ∙ sym (append_assoc p.front left b) ∙ ap (λ (x : List ℕ). x ++ b) p.splits ∙ append_assoc w a b;
}

-- a text that was lost stays lost, and all that is added later with it
moves-lost : (s t u : Sheet) (w lost a b : List ℕ) → u.written ≡ t.written → Moves s t (w ++ a) lost → Moves s u (w ++ (a ++ b)) (lost ++ b)
moves-lost s t u w lost a b same p = record {
  front = p.front;
  grows = subst (λ o. GrowsBy s.written o p.front) (sym same) p.grows;
  splits = sym (append_assoc p.front lost b) ∙ ap (λ (x : List ℕ). x ++ b) p.splits ∙ append_assoc w a b;
}

joins-both : (s t u : Sheet) (a b : List ℕ) (x y z : Option (List ℕ)) → Joins s t a x y → Joins t u b y z → Joins s u (a ++ b) x z
unfolding moves-both
joins-both s t u a b None None None p q = (q.0 ∙ p.0, q.1 ∙ p.1, q.2 ∙ p.2)
joins-both s t u a b None None (Some z) p q = absurd q
joins-both s t u a b None (Some y) z p q = absurd p
joins-both s t u a b (Some x) None None p q =
    (subst (HasRisen s.faults) (sym q.1) p.0, q.2 ∙ p.1, (p.2.0 ++ b, moves-lost s t u x p.2.0 a b q.0 p.2.1))
joins-both s t u a b (Some x) None (Some z) p q = absurd q
joins-both s t u a b (Some x) (Some y) None p q =
    (subst (λ (n : ℕ). HasRisen n u.faults) p.0 q.0, q.1, (q.2.0, moves-both s t u x y q.2.0 a b p.1.0 q.2.1))
joins-both s t u a b (Some x) (Some y) (Some z) p q =
    (q.0 ∙ p.0, (moves-both s t u x y z a b p.1.0 q.1.0, settled-both p.1.0.front q.1.0.front s.settled t.settled u.settled p.1.1 q.1.1))

joins-nothing : (s : Sheet) (x : Option (List ℕ)) → Joins s s [] x x
joins-nothing s None = (refl, refl, refl)
joins-nothing s (Some w) = (refl, (record { front = []; grows = GrowsBy-nothing s.written; splits = sym (append-nil w) }, refl))

pub nothing : (s : Sheet) → Adds s s []
nothing s = record { joins = joins-nothing s s.waiting }

pub two : {s t u : Sheet} {a b : List ℕ} → Adds s t a → Adds t u b → Adds s u (a ++ b)
two {s} {t} {u} {a} {b} p q = record { joins = joins-both s t u a b s.waiting t.waiting u.waiting p.joins q.joins }

-- an equal text is added as well
pub added_as : {s t : Sheet} {a : List ℕ} (b : List ℕ) → a ≡ b → Adds s t a → Adds s t b
added_as {s} {t} b e = subst (Adds s t) e

-- ---- lines of notes

pub no_lines : (g : EventGraph) (s : Sheet) → AddsLines g [] s s
no_lines g s = nothing s

pub lines_of_both : (g : EventGraph) (s t u : Sheet) (a b : List Note) → AddsLines g a s t → AddsLines g b t u → AddsLines g (a ++ b) s u
lines_of_both g s t u a b p q = added_as _ (sym (flat_map-append (note_line g) a b)) (two p q)
