-- Pairs that are added one by one are all but those that lead to marked places.
use Rattle.std.proofs.Common.{◌≡◌, ℕ, Bool, true, false, cond, List, [], ◌∷◌, ◌++◌, refl, sym, ap, ◌∙◌, append-nil, append_assoc}
use Rattle.std.specs.Prelude.{not}
use Rattle.model_core.specs.Rules.MarkedPlaces.{is_marked}
use Rattle.model_core.specs.Rules.Needed.{each_beside}
use Rattle.var_slicing.specs.Inner.Needing.{with_read, with_reads, open_pairs}

module _ (marks : List Bool) (v : ℕ) where
  pub reads-joined : (pairs : List (ℕ × ℕ)) (ws us : List ℕ) → with_reads marks v pairs (ws ++ us) ≡ with_reads marks v (with_reads marks v pairs ws) us
  reads-joined pairs [] us = refl
  reads-joined pairs (w ∷ ws) us = reads-joined (with_read marks v pairs w) ws us

  pub three-joined : (pairs : List (ℕ × ℕ)) (ws us ts : List ℕ) → with_reads marks v pairs (ws ++ us ++ ts) ≡ with_reads marks v (with_reads marks v (with_reads marks v pairs ws) us) ts
  three-joined pairs ws us ts = reads-joined pairs (ws ++ us) ts ∙ ap (λ (so_far : List (ℕ × ℕ)). with_reads marks v so_far ts) (reads-joined pairs ws us)

  pub reads-added : (pairs : List (ℕ × ℕ)) (ws : List ℕ) → with_reads marks v pairs ws ≡ pairs ++ open_pairs marks (each_beside v ws)
  reads-added pairs [] = sym (append-nil pairs)
  reads-added pairs (w ∷ ws) = reads-added (with_read marks v pairs w) ws ∙ tested (is_marked marks w) where
    later : List (ℕ × ℕ)
    later = open_pairs marks (each_beside v ws)

    tested : (b : Bool) → cond b pairs (pairs ++ (v, w) ∷ []) ++ later ≡ pairs ++ cond (not b) ((v, w) ∷ later) later
    tested true = refl
    tested false = append_assoc pairs ((v, w) ∷ []) later

  -- one list after the other
  pub both-added : (pairs : List (ℕ × ℕ)) (ws us : List ℕ) → with_reads marks v (with_reads marks v pairs ws) us ≡ pairs ++ open_pairs marks (each_beside v (ws ++ us))
  both-added pairs ws us = sym (reads-joined pairs ws us) ∙ reads-added pairs (ws ++ us)
