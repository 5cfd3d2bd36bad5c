-- The operators of all levels, taken one after another.
use Rattle.std.proofs.Common.{◌≡◌, ℕ, zero, suc, ◌≤◌, ◌<◌, Bool, true, false, cond, List, [], ◌∷◌, Some, None, refl, sym, ap, ◌∙◌, subst, ◌⊎◌, inl, inr, arith}
use Rattle.std.specs.Prelude.{Option, nat_eq, nat_lt}
use Rattle.std.proofs.lemmas.Grind.{common_steps}
use Rattle.std.proofs.lemmas.Bool.{ltb-true, ltb-false, eqb-true, le-ltb}
use Rattle.std.proofs.lemmas.Option.{same_Some}
use Rattle.model_core.specs.EventGraph.{Operator}
use Rattle.model_core.specs.Text.Lexing.{Lexeme}
use Rattle.model_core.specs.Text.Written.{WrittenExpression}
use Rattle.model_core.specs.Text.Expressions.{joining}
use Rattle.text_laws.specs.FirstTokens.{first_sorts, begins_among}
use Rattle.text_laws.specs.FormatReader.{took, and_next}
use Rattle.text_laws.specs.LanguageReader.{level_lookahead}
use Rattle.text_laws.proofs.Formats.TokenSorts.{begins-none}
use Rattle.text_laws.proofs.Formats.RuleLaws.{same_next}
use Rattle.text_laws.specs.Ladder.{infix_of_kind, infix_at, operators_of, operand_level, next_level, rung, climb, at_levels, after_operator}
use Rattle.text_laws.proofs.FirstOperator.{is_at}
use Rattle.text_laws.proofs.OperandLevels.{next-next, of_level, climb-more, climb-none}
use Rattle.text_laws.proofs.LevelOperators.{rung-none, at_level, rung-some}

within-out : (least under : ℕ) (i : ℕ × Operator) → at_levels least under (Some i) ≡ None → (i.0 < least) ⊎ (under ≤ i.0)
within-out least under i e = go (nat_lt i.0 least) (nat_lt i.0 under) refl refl e
  where
    go : (b c : Bool) → nat_lt i.0 least ≡ b → nat_lt i.0 under ≡ c → cond b None (cond c (Some i) None) ≡ None → (i.0 < least) ⊎ (under ≤ i.0)
    go true c f g h = inl (ltb-true i.0 least f)
    go false false f g h = inr (ltb-false i.0 under g)
    go false true f g h = absurd cc

within-none : (least under : ℕ) (i : ℕ × Operator) → (i.0 < least) ⊎ (under ≤ i.0) → at_levels least under (Some i) ≡ None
within-none least under i (inl h) = let e : nat_lt i.0 least ≡ true = grind (arith, common_steps) in rw e refl
within-none least under i (inr h) = let e : nat_lt i.0 under ≡ false = le-ltb i.0 under h in rw e (go (nat_lt i.0 least))
  where
    go : (b : Bool) → cond {A = Option (ℕ × Operator)} b None None ≡ None
    go true = refl
    go false = refl

within-in : (least under : ℕ) (found : Option (ℕ × Operator)) (i : ℕ × Operator) → at_levels least under found ≡ Some i → (found ≡ Some i) × (least ≤ i.0) × (i.0 < under)
within-in least under None i e = absurd cc
within-in least under (Some j) i e = go (nat_lt j.0 least) (nat_lt j.0 under) refl refl e
  where
    go : (b c : Bool) → nat_lt j.0 least ≡ b → nat_lt j.0 under ≡ c → cond b None (cond c (Some j) None) ≡ Some i → (Some j ≡ Some i) × (least ≤ i.0) × (i.0 < under)
    go true c f g h = absurd cc
    go false false f g h = absurd cc
    go false true f g h = let s : j ≡ i = same_Some j i h in (h, subst (λ (x : ℕ × Operator). least ≤ x.0) s (ltb-false j.0 least f), subst (λ (x : ℕ × Operator). x.0 < under) s (ltb-true j.0 under g))

-- no operator of these levels comes
pub no_operator : (under least : ℕ) (a : WrittenExpression) (tokens : List Lexeme) → under ≤ 5 → at_levels least under (infix_at tokens) ≡ None → climb under least a tokens ≡ took a tokens
unfolding climb
no_operator zero least a tokens few e = refl
no_operator (suc level) least a tokens few e = go (no_operator level least a tokens (omega arith)) (nat_lt least (suc level)) refl
  where
    isnt_at : (found : Option (ℕ × Operator)) → least ≤ level → at_levels least (suc level) found ≡ None → is_at level found ≡ false
    isnt_at None h g = refl
    isnt_at (Some i) h g = elim (within-out least (suc level) i g) [ inl w ↦ differ i.0 level (inl (omega arith)) | inr w ↦ differ i.0 level (inr w) ]
      where
        differ : (m n : ℕ) → (m < n) ⊎ (suc n ≤ m) → nat_eq n m ≡ false
        differ m n (inl l) = grind (arith, common_steps)
        differ m n (inr l) = grind (arith, common_steps)

    fewer : (found : Option (ℕ × Operator)) → at_levels least (suc level) found ≡ None → at_levels least level found ≡ None
    fewer None g = refl
    fewer (Some i) g = elim (within-out least (suc level) i g) [ inl w ↦ within-none least level i (inl w) | inr w ↦ within-none least level i (inr (omega arith)) ]

    stops : (tokens : List Lexeme) → least ≤ level → at_levels least (suc level) (infix_at tokens) ≡ None → begins_among (first_sorts level_lookahead (operators_of level)) tokens ≡ false
    stops [] h g = begins-none (first_sorts level_lookahead (operators_of level))
    stops (t ∷ rest) h g = (at_level level t rest (infix_of_kind t.kind) (omega arith) refl).0 ∙ isnt_at (infix_of_kind t.kind) h g

    go : (at_levels least level (infix_at tokens) ≡ None → climb level least a tokens ≡ took a tokens) → (b : Bool) → nat_lt least (suc level) ≡ b → climb (suc level) least a tokens ≡ took a tokens
    go lower false f = climb-none (suc level) least a tokens (ltb-false least (suc level) f)
    go lower true f =
        let h : least < suc level = ltb-true least (suc level) f in
        climb-more level least a tokens (omega arith)
        ∙ ap (and_next (rung level)) (lower (fewer (infix_at tokens) e))
        ∙ rung-none level a tokens (omega arith) (stops tokens (omega arith) e)

next-low : (k n : ℕ) → k < n → next_level k ≤ n
next-low zero n h = omega arith
next-low (suc zero) n h = omega arith
next-low (suc (suc zero)) n h = omega arith
next-low (suc (suc (suc k))) n h = omega arith

-- an operator of these levels comes: its right operand is read, and then the rest
one_operator : (under least k : ℕ) (o : Operator) (a : WrittenExpression) (t : Lexeme) (tokens : List Lexeme) → under ≤ 5 → least ≤ k → k < under → infix_of_kind t.kind ≡ Some (k, o)
    → climb under least a (t ∷ tokens) ≡ and_next (λ b. climb under (next_level k) (joining a (o, b))) (of_level (operand_level k) tokens)
one_operator zero least k o a t tokens few low high e = absurd (omega arith)
one_operator (suc level) least k o a t tokens few low high e = go (λ l. one_operator level least k o a t tokens (omega arith) low l e) (nat_eq k level) refl
  where
    not_same : (m n : ℕ) → nat_eq m n ≡ false → m < suc n → m < n
    not_same m n h l = grind (arith, common_steps)

    here : k ≡ level → climb (suc level) least a (t ∷ tokens) ≡ and_next (λ b. climb (suc level) (next_level k) (joining a (o, b))) (of_level (operand_level k) tokens)
    here s =
        let f : infix_of_kind t.kind ≡ Some (level, o) = subst (λ (n : ℕ). infix_of_kind t.kind ≡ Some (n, o)) s e in
        climb-more level least a (t ∷ tokens) (omega arith)
        ∙ ap (and_next (rung level)) (no_operator level least a (t ∷ tokens) (omega arith) (rw f (within-none least level (level, o) (inr (omega arith)))))
        ∙ rung-some level a o t tokens (omega arith) f
        ∙ ap (λ (n : ℕ). and_next (λ b. climb (suc level) (next_level n) (joining a (o, b))) (of_level (operand_level n) tokens)) (sym s)

    below : k < level → climb level least a (t ∷ tokens) ≡ and_next (λ b. climb level (next_level k) (joining a (o, b))) (of_level (operand_level k) tokens) → climb (suc level) least a (t ∷ tokens) ≡ and_next (λ b. climb (suc level) (next_level k) (joining a (o, b))) (of_level (operand_level k) tokens)
    below l lower =
        climb-more level least a (t ∷ tokens) (omega arith)
        ∙ ap (and_next (rung level)) lower
        ∙ next-next (rung level) (λ b. climb level (next_level k) (joining a (o, b))) (of_level (operand_level k) tokens)
        ∙ same_next _ _ (of_level (operand_level k) tokens) (λ b left f. sym (climb-more level (next_level k) (joining a (o, b)) left (next-low k level l)))

    go : (k < level → climb level least a (t ∷ tokens) ≡ and_next (λ b. climb level (next_level k) (joining a (o, b))) (of_level (operand_level k) tokens)) → (b : Bool) → nat_eq k level ≡ b → climb (suc level) least a (t ∷ tokens) ≡ and_next (λ b. climb (suc level) (next_level k) (joining a (o, b))) (of_level (operand_level k) tokens)
    go lower true f = here (eqb-true k level f)
    go lower false f = below (not_same k level f high) (lower (not_same k level f high))

pub taken-is : (under least : ℕ) (a : WrittenExpression) (tokens left : List Lexeme) (i : ℕ × Operator) → under ≤ 5 → Some i ≡ at_levels least under (infix_at tokens) → left ≡ after_operator (at_levels least under (infix_at tokens)) tokens
    → climb under least a tokens ≡ and_next (λ b. climb under (next_level i.0) (joining a (i.1, b))) (of_level (operand_level i.0) left)
taken-is under least a [] left i few e f = absurd cc
taken-is under least a (t ∷ tokens) left i few e f =
    let g : left ≡ tokens = rw (sym e) at f in
    let w = within-in least under (infix_of_kind t.kind) i (sym e) in
    rw g (one_operator under least i.0 i.1 a t tokens few w.1 w.2 w.0)

pub not-taken-is : (under least : ℕ) (a : WrittenExpression) (tokens left : List Lexeme) → under ≤ 5 → None ≡ at_levels least under (infix_at tokens) → left ≡ after_operator (at_levels least under (infix_at tokens)) tokens → climb under least a tokens ≡ took a left
not-taken-is under least a tokens left few e f = let g : left ≡ tokens = rw (sym e) at f in rw g (no_operator under least a tokens few (sym e))

-- one operator more is read, with its right operand
pub one-more : (under least next : ℕ) (a b both : WrittenExpression) (tokens between left : List Lexeme) (i : ℕ × Operator) → under ≤ 5 → Some i ≡ at_levels least under (infix_at tokens) → between ≡ after_operator (at_levels least under (infix_at tokens)) tokens
    → of_level (operand_level i.0) between ≡ took b left → both ≡ joining a (i.1, b) → next ≡ next_level i.0 → climb under next both left ≡ climb under least a tokens
one-more under least next a b both tokens between left i few e f g h k =
    rw (h, k) (sym (taken-is under least a tokens between i few e f ∙ ap (and_next (λ c. climb under (next_level i.0) (joining a (i.1, c)))) g))
