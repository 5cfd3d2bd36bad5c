-- From one level of expressions to another, parentheses, and operands with operators between them: once for all operators.
use Rattle.std.proofs.Common.{◌≡◌, ℕ, zero, suc, ◌+◌, ◌-◌, ◌≤◌, Bool, true, false, cond, List, [], ◌∷◌, ◌++◌, length, refl, sym, ap, ◌∙◌, subst, arith, append_assoc, append-nil}
use Rattle.std.specs.Prelude.{Option, Some, None, nat_lt, codes}
use Rattle.std.proofs.lemmas.Bool.{ltb-false}
use Rattle.model_core.specs.Text.Lexing.{Lexeme}
use Rattle.model_core.specs.Text.Grammar.{Grammar, many}
use Rattle.model_core.specs.EventGraph.{Operator, Expression}
use Rattle.model_core.specs.Text.Written.{WrittenExpression}
use Rattle.model_core.specs.Text.Canonical.{level, operand}
use Rattle.model_core.specs.Text.Spellable.{operand_openings}
use Rattle.model_core.specs.Text.Format.{ByRule, by_rule, nested, Spells}
use Rattle.model_core.specs.Text.Expressions.{Level, Whole, Disjunction, Conjunction, Negation, Comparison, Sum, Product, Unary, Primary, LanguageFormat, level_format, moved, joining, grouped, compared, right_side, chain, word_for, comparing, adding, multiplying, comparison_format}
use Rattle.sig_base.specs.declared.limits.TheConstants.{OPENINGS_MAX}
use Rattle.text_laws.specs.OpeningCount.{deep_from}
use Rattle.model_core.specs.EventGraph.{And, Or}
use Rattle.model_core.specs.declared.token.Word.TheVariants as words
use Rattle.text_laws.proofs.Formats.RuleNesting.{Into, derives-into}
use Rattle.round_trip.proofs.LongestTokens.{Ends}
use Rattle.round_trip.proofs.Writing.{Writes, lexed-both, Any, takes, Takes, writes-then, writes-made, writes-before, writes-text, writes-room, writes-left, writes-right, writes-some, writes-nothing, writes-none, writes-rule}
use Rattle.round_trip.proofs.OneToken.{open_text, close_text}

-- ---- from one level to another

-- the rule of a level
unfoldable pub rule_of : ℕ → Level
rule_of zero = Whole
rule_of (suc zero) = Disjunction
rule_of (suc (suc zero)) = Conjunction
rule_of (suc (suc (suc zero))) = Negation
rule_of (suc (suc (suc (suc zero)))) = Comparison
rule_of (suc (suc (suc (suc (suc zero))))) = Sum
rule_of (suc (suc (suc (suc (suc (suc zero)))))) = Product
rule_of (suc (suc (suc (suc (suc (suc (suc zero))))))) = Unary
rule_of (suc (suc (suc (suc (suc (suc (suc (suc n)))))))) = Primary

lone : {k : List ℕ} {i j : ℕ} {G : WrittenExpression → Type 0} (ops : LanguageFormat Operator) (l : Level) → Writes (ByRule l) k Ends i j G → Writes (chain ops l) k Ends i j G
lone {k} {i} {j} {G} ops l h =
    writes-text (append-nil k)
    (writes-then (writes-made grouped {J = Takes (λ xs. xs ≡ []) G} h (λ x g. takes (λ xs e. subst (λ ys. G (grouped x ys)) (sym e) g))) (λ rest e. e) (writes-none refl))

next : {k : List ℕ} {i j : ℕ} {G : WrittenExpression → Type 0} (n : ℕ) → Writes (ByRule (rule_of (suc n))) k Ends i j G → Writes (ByRule (rule_of n)) k Ends i j G
unfolding level_format rule_of
next zero h = writes-rule Whole (writes-right h)
next (suc zero) h = writes-rule Disjunction (lone (word_for words.Or Or) Conjunction h)
next (suc (suc zero)) h = writes-rule Conjunction (lone (word_for words.And And) Negation h)
next (suc (suc (suc zero))) h = writes-rule Negation (writes-right h)
next {k} {i} {j} {G} (suc (suc (suc (suc zero)))) h = writes-rule Comparison (writes-text (append-nil k)
    (writes-then (writes-made compared {J = Takes (λ o. o ≡ None) G} h (λ x g. takes (λ o e. subst (λ p. G (compared x p)) (sym e) g))) (λ rest e. e) (writes-nothing refl)))
next (suc (suc (suc (suc (suc zero))))) h = writes-rule Sum (lone adding Product h)
next (suc (suc (suc (suc (suc (suc zero)))))) h = writes-rule Product (lone multiplying Unary h)
next (suc (suc (suc (suc (suc (suc (suc zero))))))) h = writes-rule Unary (writes-right h)
next (suc (suc (suc (suc (suc (suc (suc (suc n)))))))) h = h

down : {k : List ℕ} {i j : ℕ} {G : WrittenExpression → Type 0} (d m n : ℕ) → m ≡ d + n → Writes (ByRule (rule_of m)) k Ends i j G → Writes (ByRule (rule_of n)) k Ends i j G
down {k} {i} {j} {G} zero m n e h = let f : m ≡ n = omega arith in subst (λ (l : ℕ). Writes (ByRule (rule_of l)) k Ends i j G) f h
down (suc d) m n e h = next n (down d m (suc n) (omega arith) h)

pub lower : {k : List ℕ} {i j : ℕ} {G : WrittenExpression → Type 0} (m n : ℕ) → n ≤ m → Writes (ByRule (rule_of m)) k Ends i j G → Writes (ByRule (rule_of n)) k Ends i j G
lower m n l h = down (m - n) m n (omega arith) h

enclosed : {k : List ℕ} {i j : ℕ} {G : WrittenExpression → Type 0} → ((at : ℕ) (w : WrittenExpression) → G w → G (moved at w)) → Writes (ByRule Whole) k Ends i j G → Writes (ByRule Primary) (codes "(" ++ k ++ codes ")") Ends (suc i) j G
unfolding level_format
enclosed {G = G} moves h =
    writes-rule Primary (writes-right (writes-right (writes-right (writes-right (writes-right (writes-left (
    narrowed (writes-before (writes-then (writes-made moved {J = Takes G G} open_text (λ at u. takes (λ w g. moves at w g))) (λ rest e. tt) h) (λ rest e. refl) close_text))))))))
  where
    narrowed : {A : Type 0} {f : LanguageFormat A} {t : List ℕ} {i j : ℕ} {K : A → Type 0} → Writes f t Any i j K → Writes f t Ends i j K
    narrowed first = record { run = λ at. let x = first.run at in (x.0, x.1, x.2, x.3, λ rest left e lexed. x.4 rest left tt lexed) }

-- as an operand, in parentheses where its level is below the one asked for
pub as_operand : {k : List ℕ} {G : WrittenExpression → Type 0} (n j : ℕ) → ((at : ℕ) (w : WrittenExpression) → G w → G (moved at w)) → (asked : ℕ) → asked ≤ 8 → (e : Expression)
    → Writes (ByRule (rule_of (level e))) k Ends (n + j) j G → Writes (ByRule (rule_of asked)) (operand asked e k) Ends (operand_openings asked e n + j) j G
unfolding rule_of
as_operand {k} {G} n j moves asked most e h = pick (nat_lt (level e) asked) refl
  where
    pick : (b : Bool) → nat_lt (level e) asked ≡ b → Writes (ByRule (rule_of asked)) (cond b (codes "(" ++ k ++ codes ")") k) Ends (cond b (suc n) n + j) j G
    pick true t = lower 8 asked most (writes-room (omega arith) (enclosed moves (lower (level e) 0 (omega arith) h)))
    pick false t = lower (level e) asked (ltb-false (level e) asked t) h

-- ---- chains group to the left

many-snoc : {A : Type 0} (P : Grammar A) (tokens : List Lexeme) (xs : List A) (between : List Lexeme) (y : A) (left : List Lexeme) → many P tokens xs between → P between y left → many P tokens (xs ++ y ∷ []) left
many-snoc P tokens [] between y left d e = (left, subst (λ (l : List Lexeme). P l y left) (sym d) e, refl)
many-snoc P tokens (x ∷ xs) between y left d e = (d.0, d.1, many-snoc P d.0 xs between y left d.2 e)

grouped-snoc : (a : WrittenExpression) (xs : List (Operator × WrittenExpression)) (o : Operator) (b : WrittenExpression) → grouped a (xs ++ (o, b) ∷ []) ≡ joining (grouped a xs) (o, b)
grouped-snoc a [] o b = refl
grouped-snoc a (x ∷ xs) o b = grouped-snoc (joining a x) xs o b

-- one more operand after a chain
longer : (ops : LanguageFormat Operator) (l : Level) (tokens between left : List Lexeme) (a b : WrittenExpression) (o : Operator) → Spells level_format (chain ops l) tokens a between → Spells level_format (right_side ops l) between (o, b) left → Spells level_format (chain ops l) tokens (joining a (o, b)) left
longer ops l tokens between left a b o d e =
    let m : many (Spells level_format (right_side ops l)) d.1 d.3.0 between = subst (λ (u : List Lexeme). many (Spells level_format (right_side ops l)) d.1 d.3.0 u) d.3.3.1 d.3.2 in
    let first = d.2.3.0 in
    let is : (xs : List (Operator × WrittenExpression)) → d.0 xs ≡ grouped first xs = λ xs. sym (ap (λ (f : List (Operator × WrittenExpression) → WrittenExpression). f xs) (ap (λ (f : WrittenExpression → List (Operator × WrittenExpression) → WrittenExpression). f first) d.2.2.0 ∙ d.2.3.3.0)) in (
      d.0,
      d.1,
      d.2,
      (
        d.3.0 ++ (o, b) ∷ [],
        left,
        many-snoc (Spells level_format (right_side ops l)) d.1 d.3.0 between (o, b) left m e,
        (is (d.3.0 ++ (o, b) ∷ []) ∙ grouped-snoc first d.3.0 o b ∙ ap (λ (w : WrittenExpression). joining w (o, b)) (sym (is d.3.0) ∙ d.3.3.0), refl),
      ),
    )

-- a rule as its format
pub as-format : (l : Level) → Into (by_rule level_format l) (Spells level_format (level_format l))
as-format l tokens x left (zero, d) = absurd d
as-format l tokens x left (suc n, d) = derives-into (nested level_format n) (by_rule level_format) (λ r s y u h. (n, h)) (level_format l) tokens x left d

writes-right_side : {c m : List ℕ} {i j k : ℕ} {H : WrittenExpression → Type 0} {ops : LanguageFormat Operator} {l : Level} (o : Operator) → Writes ops c Any i j (λ p. p ≡ o) → Writes (ByRule l) m Ends j k H → Writes (right_side ops l) (c ++ m) Ends i k (λ p. (p.0 ≡ o) × H p.1)
writes-right_side {H = H} o first second =
    writes-then (writes-made (λ x y. (x, y)) {J = Takes H (λ p. (p.0 ≡ o) × H p.1)} first (λ x g. takes (λ e h. (g, h)))) (λ rest e. tt) second

-- a chain of this level, and an operand after an operator
pub writes-chain : {k m : List ℕ} {h i j l : ℕ} {G H : WrittenExpression → Type 0} (J : WrittenExpression → Type 0) {ops : LanguageFormat Operator} (r s : Level) (o : Operator) (c : List ℕ) → Into (by_rule level_format r) (Spells level_format (chain ops s))
    → Writes (ByRule r) k Ends h i G → Writes ops (32 ∷ c) Any i j (λ p. p ≡ o) → Writes (ByRule s) m Ends j l H → ((a b : WrittenExpression) → G a → H b → J (joining a (o, b))) → Writes (chain ops s) (k ++ ((32 ∷ c) ++ m)) Ends h l J
writes-chain {k} {m} {h} {H = H} J {ops = ops} r s o c inverse first operator second joins = record {
  run = λ at.
      let a = first.run at in
      let b = (writes-right_side {H = H} o operator second).run (at + length k) in (
        joining a.0 b.0,
        a.1 ++ b.1,
        subst (λ (p : Operator). J (joining a.0 (p, b.0.1))) (sym b.2.0) (joins a.0 b.0.1 a.2 b.2.1),
        λ left.
            let same = append_assoc a.1 b.1 left in (
              ap (deep_from OPENINGS_MAX h) same ∙ (a.3 (b.1 ++ left)).0 ∙ (b.3 left).0,
              subst (λ (ts : List Lexeme). Spells level_format (chain ops s) ts (joining a.0 b.0) left) (sym same)
                  (longer ops s (a.1 ++ (b.1 ++ left)) (b.1 ++ left) left a.0 b.0.1 b.0.0 (inverse (a.1 ++ (b.1 ++ left)) a.0 (b.1 ++ left) (a.3 (b.1 ++ left)).1) (b.3 left).1),
            ),
        lexed-both {F = Ends} {H = Ends} k ((32 ∷ c) ++ m) at a.1 b.1 (λ rest e. refl) a.4 b.4,
      );
}

-- two operands with a comparison between them
pub writes-compared : {k m : List ℕ} {h i j l : ℕ} {G H : WrittenExpression → Type 0} (J : WrittenExpression → Type 0) (o : Operator) (c : List ℕ)
    → Writes (ByRule Sum) k Ends h i G → Writes comparing (32 ∷ c) Any i j (λ p. p ≡ o) → Writes (ByRule Sum) m Ends j l H → ((a b : WrittenExpression) → G a → H b → J (joining a (o, b))) → Writes comparison_format (k ++ ((32 ∷ c) ++ m)) Ends h l J
writes-compared {G = G} {H = H} J o c first operator second joins =
    writes-then (writes-made compared {J = Takes (λ q. (p : Operator × WrittenExpression) × ((p.0 ≡ o) × H p.1) × (q ≡ Some p)) J} first (λ a g. takes (λ q h. subst (λ (x : Option (Operator × WrittenExpression)). J (compared a x)) (sym h.2) (subst (λ (x : Operator). J (joining a (x, h.0.1))) (sym h.1.0) (joins a h.0.1 g h.1.1)))))
    (λ rest e. refl)
    (writes-some (writes-right_side {H = H} o operator second) (λ p h. (p, h, refl)))
