-- Where a reader stops: no tokens that begin so, up to and with the next one, can be spelled, and some that begin so up to it can.
use Rattle.std.proofs.Common.{◌≡◌, ℕ, zero, suc, ◌+◌, ◌*◌, ◌≤◌, ◌<◌, max, Bool, true, false, cond, List, [], ◌∷◌, ◌++◌, length, refl, sym, ap, ◌∙◌, subst, ◌⊎◌, inl, inr, arith, append_assoc}
use Rattle.std.specs.Prelude.{not, ◌&&◌, ◌||◌, Ok, Err}
use Rattle.std.proofs.lemmas.Bool.{not-true, and_parts}
use Rattle.model_core.specs.Text.Lexing.{Lexeme}
use Rattle.model_core.specs.Text.Grammar.{Grammar, many}
use Rattle.model_core.specs.Text.Format.{TokenSort, sort_as, Format, Yields, Single, Apply, Either, Many, ByRule, derives, nested, by_rule, Spells, single}
use Rattle.text_laws.specs.FirstTokens.{same_sort, begins_among, apart, Lookahead, nullable, first_sorts, stop_sorts, fine, AreDecided}
use Rattle.text_laws.specs.FormatReader.{Parse, Parser, took, stuck, and_next, single_at, many_within, many_at, reads, read_within, rule_at, format_at}
use Rattle.text_laws.proofs.Formats.TokenSorts.{chosen, same_reading}
use Rattle.text_laws.proofs.Formats.FormatLaws.{Sound, Shorter, reads-sound, reads-shorter}
use Rattle.text_laws.proofs.Formats.RuleLaws as tied
use Rattle.text_laws.proofs.Formats.RuleLaws.{checked, within-shorter, within-sound, rule-shorter, sound, complete}
use Rattle.text_laws.proofs.Formats.ManyLaws as again
use Rattle.text_laws.proofs.Formats.RuleNesting.{by-format}

-- ---- what is left is no longer

abbrev pub left_of : {A : Type 0} → Parse A → List Lexeme
left_of (Ok r) = r.1
left_of (Err rest) = rest

abbrev pub NoLonger : {A : Type 0} → Parser A → Type 0
NoLonger p = (tokens : List Lexeme) → length (left_of (p tokens)) ≤ length tokens

then-left : {A B : Type 0} (next : A → Parser B) → ((x : A) → NoLonger (next x)) → (r : Parse A) (n : ℕ) → length (left_of r) ≤ n → length (left_of (and_next next r)) ≤ n
then-left next h (Ok r) n e = let k = h r.0 r.1 in omega arith
then-left next h (Err rest) n e = e

choice-left : {A : Type 0} (b : Bool) (x y : Parse A) (n : ℕ) → length (left_of x) ≤ n → length (left_of y) ≤ n → length (left_of (cond b x y)) ≤ n
choice-left true x y n h g = h
choice-left false x y n h g = g

token-left : {A : Type 0} (s : TokenSort) (f : Lexeme → A) → NoLonger (single_at s f)
token-left s f [] = omega arith
token-left s f (t ∷ tokens) = choice-left (same_sort (sort_as s t.kind) s) (took (f t) tokens) (stuck (t ∷ tokens)) (length (t ∷ tokens)) (omega arith) (omega arith)

repeated-left : {A : Type 0} (p : Parser A) → NoLonger p → (n : ℕ) (sorts : List TokenSort) → NoLonger (many_within n sorts p)
unfolding many_within
repeated-left p h zero sorts tokens = choice-left (begins_among sorts tokens) (stuck tokens) (took [] tokens) (length tokens) (omega arith) (omega arith)
repeated-left p h (suc n) sorts tokens =
    choice-left (begins_among sorts tokens) _ (took [] tokens) (length tokens)
    (then-left _ (λ x left. then-left _ (λ xs rest. omega arith) (many_within n sorts p left) (length left) (repeated-left p h n sorts left)) (p tokens) (length tokens) (h tokens)) (omega arith)

pub reads-left : {R V A : Type 0} (t : Lookahead R) (reader : R → Parser V) → ((r : R) → NoLonger (reader r)) → (f : Format R V A) → NoLonger (reads t reader f)
unfolding many_at
reads-left t reader h (Yields x) tokens = omega arith
reads-left t reader h (Single s f) tokens = token-left s f tokens
reads-left t reader h (Apply p q) tokens = then-left _ (λ f left. then-left _ (λ x rest. omega arith) (reads t reader q left) (length left) (reads-left t reader h q left)) (reads t reader p tokens) (length tokens) (reads-left t reader h p tokens)
reads-left t reader h (Either p q) tokens = choice-left (begins_among (first_sorts t p) tokens) (reads t reader p tokens) (reads t reader q tokens) (length tokens) (reads-left t reader h p tokens) (reads-left t reader h q tokens)
reads-left t reader h (Many p) tokens = repeated-left (reads t reader p) (reads-left t reader h p) (length tokens) (first_sorts t p) tokens
reads-left t reader h (ByRule r) tokens = h r tokens

within-left : {R V : Type 0} (t : Lookahead R) (rules : R → Format R V V) (n : ℕ) (r : R) → NoLonger (read_within t rules n r)
unfolding read_within
within-left t rules zero r tokens = omega arith
within-left t rules (suc n) r tokens = reads-left t (read_within t rules n) (within-left t rules n) (rules r) tokens

-- ---- one token is looked at

-- two readings, of tokens that end in these, are alike up to there, or the first goes on beyond
abbrev pub Alike : {A : Type 0} → List Lexeme → List Lexeme → Parse A → Parse A → Type 0
Alike {A} these those a b =
    ((x : A) × (v : List Lexeme) × (a ≡ took x (v ++ these)) × (b ≡ took x (v ++ those))) ⊎ (((v : List Lexeme) × (a ≡ stuck (v ++ these)) × (b ≡ stuck (v ++ those))) ⊎ (length (left_of a) < length these))

-- the same is read of tokens that are the same up to and with the next one
abbrev pub Local : {A : Type 0} → Parser A → Type 0
Local p = (t : Lexeme) (these those u : List Lexeme) → Alike (t ∷ these) (t ∷ those) (p (u ++ (t ∷ these))) (p (u ++ (t ∷ those)))

abbrev Ahead : {A B : Type 0} → (A → Parser B) → Type 0
Ahead {A} next = (x : A) → Local (next x)

then-alike : {A B : Type 0} (next : A → Parser B) → Ahead next → ((x : A) → NoLonger (next x)) → (t : Lexeme) (these those : List Lexeme) (a b : Parse A) → Alike (t ∷ these) (t ∷ those) a b → Alike (t ∷ these) (t ∷ those) (and_next next a) (and_next next b)
then-alike next local shorter t these those a b (inl h) =
    subst (λ (c : Parse _). Alike (t ∷ these) (t ∷ those) (and_next next c) (and_next next b)) (sym h.2) (subst (λ (c : Parse _). Alike (t ∷ these) (t ∷ those) (next h.0 (h.1 ++ (t ∷ these))) (and_next next c)) (sym h.3) (local h.0 t these those h.1))
then-alike next local shorter t these those a b (inr (inl h)) = inr (inl (h.0, ap (and_next next) h.1, ap (and_next next) h.2))
then-alike next local shorter t these those a b (inr (inr h)) = inr (inr (let k = then-left next shorter a (length (left_of a)) (omega arith) in omega arith))

begins-alike : (sorts : List TokenSort) (t : Lexeme) (these those u : List Lexeme) → begins_among sorts (u ++ (t ∷ these)) ≡ begins_among sorts (u ++ (t ∷ those))
begins-alike [] t these those u = refl
begins-alike (s ∷ sorts) t these those [] = ap (λ b. same_sort (sort_as s t.kind) s || b) (begins-alike sorts t these those [])
begins-alike (s ∷ sorts) t these those (k ∷ u) = ap (λ b. same_sort (sort_as s k.kind) s || b) (begins-alike sorts t these those (k ∷ u))

choice-alike : {A : Type 0} (t : Lexeme) (these those : List Lexeme) (c b : Bool) (w x y z : Parse A) → c ≡ b → Alike (t ∷ these) (t ∷ those) w y → Alike (t ∷ these) (t ∷ those) x z → Alike (t ∷ these) (t ∷ those) (cond c w x) (cond b y z)
choice-alike t these those c b w x y z e h g = subst (λ (d : Bool). Alike (t ∷ these) (t ∷ those) (cond c w x) (cond d y z)) e (pick c)
  where
    pick : (d : Bool) → Alike (t ∷ these) (t ∷ those) (cond d w x) (cond d y z)
    pick true = h
    pick false = g

gives-local : {A : Type 0} (x : A) → Local (λ tokens. took x tokens)
gives-local x t these those u = inl (x, u, refl, refl)

token-local : {A : Type 0} (s : TokenSort) (f : Lexeme → A) → Local (single_at s f)
token-local s f t these those [] = choice-alike t these those (same_sort (sort_as s t.kind) s) (same_sort (sort_as s t.kind) s) _ _ _ _ refl (inr (inr (omega arith))) (inr (inl ([], refl, refl)))
token-local s f t these those (k ∷ u) = choice-alike t these those (same_sort (sort_as s k.kind) s) (same_sort (sort_as s k.kind) s) _ _ _ _ refl (inl (f k, u, refl, refl)) (inr (inl (k ∷ u, refl, refl)))

repeated-local : {A : Type 0} (p : Parser A) → NoLonger p → Local p → (n : ℕ) (sorts : List TokenSort) → Local (many_within n sorts p)
unfolding many_within
repeated-local p short h zero sorts t these those u =
    choice-alike t these those (begins_among sorts (u ++ (t ∷ these))) (begins_among sorts (u ++ (t ∷ those))) _ _ _ _ (begins-alike sorts t these those u) (inr (inl (u, refl, refl))) (inl ([], u, refl, refl))
repeated-local p short h (suc n) sorts t these those u =
    choice-alike t these those (begins_among sorts (u ++ (t ∷ these))) (begins_among sorts (u ++ (t ∷ those))) _ _ _ _ (begins-alike sorts t these those u)
    (then-alike (λ x left. and_next (λ xs rest. took (x ∷ xs) rest) (many_within n sorts p left))
    (λ x a b c v. then-alike (λ xs rest. took (x ∷ xs) rest) (λ xs. gives-local (x ∷ xs)) (λ xs rest. omega arith) a b c _ _ (repeated-local p short h n sorts a b c v))
    (λ x left. then-left (λ xs rest. took (x ∷ xs) rest) (λ xs rest. omega arith) (many_within n sorts p left) (length left) (repeated-left p short n sorts left))
    t these those (p (u ++ (t ∷ these))) (p (u ++ (t ∷ those))) (h t these those u))
    (inl ([], u, refl, refl))

-- with as much room as both need
repeated_at-local : {A : Type 0} (p : Parser A) → NoLonger p → Local p → Shorter p false → (sorts : List TokenSort) → Local (many_at sorts p)
unfolding many_at
repeated_at-local p short h shorter sorts t these those u =
    let n : ℕ = max (length (u ++ (t ∷ these))) (length (u ++ (t ∷ those))) in
    subst (λ (a : Parse _). Alike (t ∷ these) (t ∷ those) a (many_within (length (u ++ (t ∷ those))) sorts p (u ++ (t ∷ those)))) (again.enough sorts p shorter n (length (u ++ (t ∷ these))) (u ++ (t ∷ these)) (omega arith) (omega arith))
    (subst (λ (b : Parse _). Alike (t ∷ these) (t ∷ those) (many_within n sorts p (u ++ (t ∷ these))) b) (again.enough sorts p shorter n (length (u ++ (t ∷ those))) (u ++ (t ∷ those)) (omega arith) (omega arith))
    (repeated-local p short h n sorts t these those u))

pub reads-local : {R V A : Type 0} (t : Lookahead R) (reader : R → Parser V) → ((r : R) → NoLonger (reader r)) → ((r : R) → Shorter (reader r) false) → ((r : R) → Local (reader r)) → (f : Format R V A) → fine t f ≡ true → Local (reads t reader f)
reads-local t reader short shorter h (Yields x) ok k these those u = inl (x, u, refl, refl)
reads-local t reader short shorter h (Single s f) ok k these those u = token-local s f k these those u
reads-local t reader short shorter h (Apply p q) ok k these those u =
    let c = and_parts (fine t p && fine t q) (apart (stop_sorts t p) (first_sorts t q)) ok in
    let d = and_parts (fine t p) (fine t q) c.0 in
    then-alike (λ f left. and_next (λ x rest. took (f x) rest) (reads t reader q left))
    (λ f a b e v. then-alike (λ x rest. took (f x) rest) (λ x. gives-local (f x)) (λ x rest. omega arith) a b e _ _ (reads-local t reader short shorter h q d.1 a b e v))
    (λ f left. then-left (λ x rest. took (f x) rest) (λ x rest. omega arith) (reads t reader q left) (length left) (reads-left t reader short q left))
    k these those (reads t reader p (u ++ (k ∷ these))) (reads t reader p (u ++ (k ∷ those))) (reads-local t reader short shorter h p d.0 k these those u)
reads-local t reader short shorter h (Either p q) ok k these those u =
    let c = and_parts (fine t p && fine t q) (not (nullable p) && apart (first_sorts t p) (first_sorts t q)) ok in
    let d = and_parts (fine t p) (fine t q) c.0 in
    choice-alike k these those (begins_among (first_sorts t p) (u ++ (k ∷ these))) (begins_among (first_sorts t p) (u ++ (k ∷ those))) _ _ _ _ (begins-alike (first_sorts t p) k these those u) (reads-local t reader short shorter h p d.0 k these those u) (reads-local t reader short shorter h q d.1 k these those u)
reads-local t reader short shorter h (Many p) ok k these those u =
    let c = and_parts (fine t p) (not (nullable p) && apart (stop_sorts t p) (first_sorts t p)) ok in
    let e = and_parts (not (nullable p)) (apart (stop_sorts t p) (first_sorts t p)) c.1 in
    let solid : nullable p ≡ false = not-true (nullable p) e.0 in
    repeated_at-local (reads t reader p) (reads-left t reader short p) (reads-local t reader short shorter h p c.0) (subst (λ (n : Bool). Shorter (reads t reader p) n) solid (reads-shorter t reader shorter p)) (first_sorts t p) k these those u
reads-local t reader short shorter h (ByRule r) ok k these those u = h r k these those u

within-local : {R V : Type 0} (t : Lookahead R) (rules : R → Format R V V) → AreDecided t rules → (n : ℕ) (r : R) → Local (read_within t rules n r)
unfolding read_within
within-local t rules ok zero r k these those u = inr (inl (u, refl, refl))
within-local t rules ok (suc n) r k these those u = reads-local t (read_within t rules n) (within-left t rules n) (within-shorter t rules ok n) (within-local t rules ok n) (rules r) (checked t rules ok r).fine k these those u

rule-left : {R V : Type 0} (t : Lookahead R) (rules : R → Format R V V) (r : R) → NoLonger (rule_at t rules r)
unfolding rule_at
rule-left t rules r tokens = within-left t rules (length tokens * 16 + suc (t.rank r)) r tokens

rule-local : {R V : Type 0} (t : Lookahead R) (rules : R → Format R V V) → AreDecided t rules → (r : R) → Local (rule_at t rules r)
unfolding rule_at
rule-local t rules ok r k these those u =
    let a : ℕ = length (u ++ (k ∷ these)) * 16 + suc (t.rank r) in
    let b : ℕ = length (u ++ (k ∷ those)) * 16 + suc (t.rank r) in
    let n : ℕ = max a b in
    subst (λ (x : Parse _). Alike (k ∷ these) (k ∷ those) x (read_within t rules b r (u ++ (k ∷ those)))) (tied.enough t rules ok n a r (u ++ (k ∷ these)) (omega arith) (omega arith))
    (subst (λ (x : Parse _). Alike (k ∷ these) (k ∷ those) (read_within t rules n r (u ++ (k ∷ these))) x) (tied.enough t rules ok n b r (u ++ (k ∷ those)) (omega arith) (omega arith))
    (within-local t rules ok n r k these those u))

-- ---- no tokens that begin so can be spelled

one_only : {A : Type 0} (t : Lexeme) (these those : List Lexeme) (x : A) (left : List Lexeme) → Alike (t ∷ these) (t ∷ those) (stuck (t ∷ these)) (took x left) → ⊥
one_only t these those x left (inl h) = absurd (let e = h.2 in cc)
one_only t these those x left (inr (inl h)) = absurd (let e = h.2 in cc)
one_only t these those x left (inr (inr h)) = absurd (omega arith)

-- Where the reader stops at a token, nothing is spelled by tokens that are the same up to and with it.
pub stuck-there : {R V A : Type 0} (t : Lookahead R) (rules : R → Format R V V) → AreDecided t rules → (f : Format R V A) → fine t f ≡ true
    → (u : List Lexeme) (k : Lexeme) (rest : List Lexeme) → format_at t rules f (u ++ (k ∷ rest)) ≡ stuck (k ∷ rest)
    → (others : List Lexeme) (x : A) (left : List Lexeme) → begins_among (stop_sorts t f) left ≡ false → Spells rules f (u ++ (k ∷ others)) x left → ⊥
stuck-there t rules ok f is u k rest e others x left follow d =
    let taken : format_at t rules f (u ++ (k ∷ others)) ≡ took x left = complete t rules ok f is (u ++ (k ∷ others)) x left follow d in
    let a : Alike (k ∷ rest) (k ∷ others) (format_at t rules f (u ++ (k ∷ rest))) (format_at t rules f (u ++ (k ∷ others))) = reads-local t (rule_at t rules) (rule-left t rules) (rule-shorter t rules ok) (rule-local t rules ok) f is k rest others u in
    one_only k rest others x left (subst (λ (r : Parse _). Alike (k ∷ rest) (k ∷ others) r (took x left)) e (subst (λ (r : Parse _). Alike (k ∷ rest) (k ∷ others) (format_at t rules f (u ++ (k ∷ rest))) r) taken a))

took_whole : {A : Type 0} (t : Lexeme) (these those : List Lexeme) (x y : A) → Alike (t ∷ these) (t ∷ those) (took x (t ∷ these)) (took y []) → ⊥
took_whole t these those x y (inl h) = ends h.1 (same_reading y h.0 [] (h.1 ++ (t ∷ those)) h.3).1
  where
    ends : (v : List Lexeme) → [] ≡ v ++ (t ∷ those) → ⊥
    ends [] e = absurd cc
    ends (k ∷ v) e = absurd cc
took_whole t these those x y (inr (inl h)) = absurd (let e = h.2 in cc)
took_whole t these those x y (inr (inr h)) = absurd (omega arith)

-- Where the reader takes a value and leaves a token, no whole list that begins so, up to and with that token, can be spelled.
pub left-there : {R V A : Type 0} (t : Lookahead R) (rules : R → Format R V V) → AreDecided t rules → (f : Format R V A) → fine t f ≡ true
    → (u : List Lexeme) (k : Lexeme) (rest : List Lexeme) (x : A) → format_at t rules f (u ++ (k ∷ rest)) ≡ took x (k ∷ rest)
    → (others : List Lexeme) (y : A) → begins_among (stop_sorts t f) [] ≡ false → Spells rules f (u ++ (k ∷ others)) y [] → ⊥
left-there t rules ok f is u k rest x e others y follow d =
    let taken : format_at t rules f (u ++ (k ∷ others)) ≡ took y [] = complete t rules ok f is (u ++ (k ∷ others)) y [] follow d in
    let a : Alike (k ∷ rest) (k ∷ others) (format_at t rules f (u ++ (k ∷ rest))) (format_at t rules f (u ++ (k ∷ others))) = reads-local t (rule_at t rules) (rule-left t rules) (rule-shorter t rules ok) (rule-local t rules ok) f is k rest others u in
    took_whole k rest others x y (subst (λ (r : Parse _). Alike (k ∷ rest) (k ∷ others) r (took y [])) e (subst (λ (r : Parse _). Alike (k ∷ rest) (k ∷ others) (format_at t rules f (u ++ (k ∷ rest))) r) taken a))

-- ---- and some that begin so up to it can

-- what is derived is derived before anything
abbrev pub Framed : {A : Type 0} → Grammar A → Type 0
Framed {A} P = (tokens : List Lexeme) (x : A) (left : List Lexeme) → P tokens x left → (u : List Lexeme) × (tokens ≡ u ++ left) × ((l : List Lexeme) → P (u ++ l) x l)

token-framed : {A : Type 0} (s : TokenSort) (f : Lexeme → A) → Framed (single s f)
token-framed s f [] x left d = absurd d
token-framed s f (t ∷ tokens) x left d = (t ∷ [], ap (λ (l : List Lexeme). t ∷ l) d.2, λ l. (d.0, d.1, refl))

many-framed : {A : Type 0} (P : Grammar A) → Framed P → Framed (many P)
many-framed P h tokens [] left d = ([], d, λ l. refl)
many-framed P h tokens (x ∷ xs) left d =
    let a = h tokens x d.0 d.1 in
    let b = many-framed P h d.0 xs left d.2 in
    (a.0 ++ b.0, a.1 ∙ ap (λ (l : List Lexeme). a.0 ++ l) b.1 ∙ sym (append_assoc a.0 b.0 left), λ l. (b.0 ++ l, subst (λ (m : List Lexeme). P m x (b.0 ++ l)) (sym (append_assoc a.0 b.0 l)) (a.2 (b.0 ++ l)), b.2 l))

pub derives-framed : {R V A : Type 0} (env : R → Grammar V) → ((r : R) → Framed (env r)) → (f : Format R V A) → Framed (derives env f)
derives-framed env h (Yields x) tokens y left d = ([], d.1, λ l. (d.0, refl))
derives-framed env h (Single s f) tokens y left d = token-framed s f tokens y left d
derives-framed env h (Apply p q) tokens y left d =
    let a = derives-framed env h p tokens d.0 d.1 d.2 in
    let b = derives-framed env h q d.1 d.3.0 d.3.1 d.3.2 in (
      a.0 ++ b.0,
      a.1 ∙ ap (λ (l : List Lexeme). a.0 ++ l) (b.1 ∙ ap (λ (l : List Lexeme). b.0 ++ l) d.3.3.1) ∙ sym (append_assoc a.0 b.0 left),
      λ l. (d.0, b.0 ++ l, subst (λ (m : List Lexeme). derives env p m d.0 (b.0 ++ l)) (sym (append_assoc a.0 b.0 l)) (a.2 (b.0 ++ l)), (d.3.0, l, b.2 l, (d.3.3.0, refl))),
    )
derives-framed env h (Either p q) tokens y left d = elim d [
  | inl w ↦ let a = derives-framed env h p tokens y left w in (a.0, a.1, λ l. inl (a.2 l))
  | inr w ↦ let a = derives-framed env h q tokens y left w in (a.0, a.1, λ l. inr (a.2 l))
]
derives-framed env h (Many p) tokens xs left d = many-framed (derives env p) (derives-framed env h p) tokens xs left d
derives-framed env h (ByRule r) tokens y left d = h r tokens y left d

within-framed : {R V : Type 0} (rules : R → Format R V V) (n : ℕ) (r : R) → Framed (nested rules n r)
within-framed rules zero r tokens x left d = absurd d
within-framed rules (suc n) r tokens x left d = derives-framed (nested rules n) (within-framed rules n) (rules r) tokens x left d

pub rule-framed : {R V : Type 0} (rules : R → Format R V V) (r : R) → Framed (by_rule rules r)
rule-framed rules r tokens x left d = let a = within-framed rules d.0 r tokens x left d.1 in (a.0, a.1, λ l. (d.0, a.2 l))

-- tokens that are derived as some value
abbrev pub Sample : {A : Type 0} → Grammar A → Type 0
Sample {A} P = (w : List Lexeme) × (x : A) × ((l : List Lexeme) → P (w ++ l) x l)

-- a token of the sort
abbrev pub IsOne : TokenSort → Type 0
IsOne s = (t : Lexeme) × (sort_as s t.kind ≡ s)

pub sample : {R V A : Type 0} (env : R → Grammar V) → ((s : TokenSort) → IsOne s) → ((r : R) → Sample (env r)) → (f : Format R V A) → Sample (derives env f)
sample env one h (Yields x) = ([], x, λ l. (refl, refl))
sample env one h (Single s f) = let t = one s in (t.0 ∷ [], f t.0, λ l. (t.1, refl, refl))
sample env one h (Apply p q) =
    let a = sample env one h p in
    let b = sample env one h q in
    (a.0 ++ b.0, a.1 b.1, λ l. (a.1, b.0 ++ l, subst (λ (m : List Lexeme). derives env p m a.1 (b.0 ++ l)) (sym (append_assoc a.0 b.0 l)) (a.2 (b.0 ++ l)), (b.1, l, b.2 l, (refl, refl))))
sample env one h (Either p q) = let a = sample env one h p in (a.0, a.1, λ l. inl (a.2 l))
sample env one h (Many p) = ([], [], λ l. refl)
sample env one h (ByRule r) = h r

-- where a reader stops, what it has passed begins something that is derived
abbrev pub Viable : {A : Type 0} → Grammar A → Parser A → Type 0
Viable {A} P p = (tokens rest : List Lexeme) → p tokens ≡ stuck rest → (u : List Lexeme) × (w : List Lexeme) × (x : A) × (tokens ≡ u ++ rest) × ((l : List Lexeme) → P (u ++ (w ++ l)) x l)

pub rests : {A : Type 0} (s t : List Lexeme) → stuck {A = A} s ≡ stuck t → s ≡ t
rests s t e = cc

then_stuck : {A B : Type 0} (next : A → Parser B) (r : Parse A) (rest : List Lexeme) → and_next next r ≡ stuck rest → (r ≡ stuck rest) ⊎ ((x : A) × (between : List Lexeme) × (r ≡ took x between) × (next x between ≡ stuck rest))
then_stuck next (Ok r) rest e = inr (r.0, r.1, refl, e)
then_stuck {A} next (Err s) rest e = inl (ap (λ (l : List Lexeme). stuck {A = A} l) (rests s rest e))

token-viable : {A : Type 0} (s : TokenSort) (f : Lexeme → A) → ((s : TokenSort) → IsOne s) → Viable (single s f) (single_at s f)
token-viable s f one [] rest e = let t = one s in ([], t.0 ∷ [], f t.0, rests [] rest e, λ l. (t.1, refl, refl))
token-viable s f one (k ∷ tokens) rest e = elim (chosen (same_sort (sort_as s k.kind) s) (took (f k) tokens) (stuck (k ∷ tokens)) (stuck rest) e) [
  | inl w ↦ absurd (let g = w.1 in cc)
  | inr w ↦ let t = one s in ([], t.0 ∷ [], f t.0, rests (k ∷ tokens) rest w.1, λ l. (t.1, refl, refl))
]

joined-front : (tokens a b between rest : List Lexeme) → tokens ≡ a ++ between → between ≡ b ++ rest → tokens ≡ (a ++ b) ++ rest
joined-front tokens a b between rest e f = e ∙ ap (λ (l : List Lexeme). a ++ l) f ∙ sym (append_assoc a b rest)

repeated-viable : {A : Type 0} (P : Grammar A) (p : Parser A) → Viable P p → Sound P p → Framed P → (n : ℕ) (sorts : List TokenSort) → Viable (many P) (many_within n sorts p)
unfolding many_within
repeated-viable P p h sound framed zero sorts tokens rest e = elim (chosen (begins_among sorts tokens) (stuck tokens) (took [] tokens) (stuck rest) e) [
  | inl w ↦ ([], [], [], rests tokens rest w.1, λ l. refl)
  | inr w ↦ absurd (let g = w.1 in cc)
]
repeated-viable P p h sound framed (suc n) sorts tokens rest e =
    elim (chosen (begins_among sorts tokens) (and_next (λ x left. and_next (λ xs end. took (x ∷ xs) end) (many_within n sorts p left)) (p tokens)) (took [] tokens) (stuck rest) e) [
      | inr w ↦ absurd (let g = w.1 in cc)
      | inl w ↦ elim (then_stuck (λ x left. and_next (λ xs end. took (x ∷ xs) end) (many_within n sorts p left)) (p tokens) rest w.1) [
        | inl v ↦ let a = h tokens rest v in (a.0, a.1, a.2 ∷ [], a.3, λ l. (l, a.4 l, refl))
        | inr v ↦ elim (then_stuck (λ xs end. took (v.0 ∷ xs) end) (many_within n sorts p v.1) rest v.3) [
          | inr z ↦ absurd (let g = z.3 in cc)
          | inl z ↦
              let b = repeated-viable P p h sound framed n sorts v.1 rest z in
              let a = framed tokens v.0 v.1 (sound tokens v.0 v.1 v.2) in
              (a.0 ++ b.0, b.1, v.0 ∷ b.2, joined-front tokens a.0 b.0 v.1 rest a.1 b.3, λ l. (b.0 ++ (b.1 ++ l), subst (λ (m : List Lexeme). P m v.0 (b.0 ++ (b.1 ++ l))) (sym (append_assoc a.0 b.0 (b.1 ++ l))) (a.2 (b.0 ++ (b.1 ++ l))), b.4 l))
        ]
      ]
    ]

pub reads-viable : {R V A : Type 0} (t : Lookahead R) (env : R → Grammar V) (reader : R → Parser V) → ((s : TokenSort) → IsOne s) → ((r : R) → Sample (env r)) → ((r : R) → Framed (env r)) → ((r : R) → Sound (env r) (reader r)) → ((r : R) → Viable (env r) (reader r))
    → (f : Format R V A) → Viable (derives env f) (reads t reader f)
unfolding many_at
reads-viable t env reader one some framed sound h (Yields x) tokens rest e = absurd cc
reads-viable t env reader one some framed sound h (Single s f) tokens rest e = token-viable s f one tokens rest e
reads-viable t env reader one some framed sound h (Apply p q) tokens rest e =
    elim (then_stuck (λ f left. and_next (λ x end. took (f x) end) (reads t reader q left)) (reads t reader p tokens) rest e) [
      | inl v ↦
          let a = reads-viable t env reader one some framed sound h p tokens rest v in
          let b = sample env one some q in
          (a.0, a.1 ++ b.0, a.2 b.1, a.3, λ l. (a.2, b.0 ++ l, subst (λ (m : List Lexeme). derives env p (a.0 ++ m) a.2 (b.0 ++ l)) (sym (append_assoc a.1 b.0 l)) (a.4 (b.0 ++ l)), (b.1, l, b.2 l, (refl, refl))))
      | inr v ↦ elim (then_stuck (λ x end. took (v.0 x) end) (reads t reader q v.1) rest v.3) [
        | inr z ↦ absurd (let g = z.3 in cc)
        | inl z ↦
            let b = reads-viable t env reader one some framed sound h q v.1 rest z in
            let a = derives-framed env framed p tokens v.0 v.1 (reads-sound t env reader sound p tokens v.0 v.1 v.2) in
            (a.0 ++ b.0, b.1, v.0 b.2, joined-front tokens a.0 b.0 v.1 rest a.1 b.3, λ l. (v.0, b.0 ++ (b.1 ++ l), subst (λ (m : List Lexeme). derives env p m v.0 (b.0 ++ (b.1 ++ l))) (sym (append_assoc a.0 b.0 (b.1 ++ l))) (a.2 (b.0 ++ (b.1 ++ l))), (b.2, l, b.4 l, (refl, refl))))
      ]
    ]
reads-viable t env reader one some framed sound h (Either p q) tokens rest e = elim (chosen (begins_among (first_sorts t p) tokens) (reads t reader p tokens) (reads t reader q tokens) (stuck rest) e) [
  | inl w ↦ let a = reads-viable t env reader one some framed sound h p tokens rest w.1 in (a.0, a.1, a.2, a.3, λ l. inl (a.4 l))
  | inr w ↦ let a = reads-viable t env reader one some framed sound h q tokens rest w.1 in (a.0, a.1, a.2, a.3, λ l. inr (a.4 l))
]
reads-viable t env reader one some framed sound h (Many p) tokens rest e =
    repeated-viable (derives env p) (reads t reader p) (reads-viable t env reader one some framed sound h p) (reads-sound t env reader sound p) (derives-framed env framed p) (length tokens) (first_sorts t p) tokens rest e
reads-viable t env reader one some framed sound h (ByRule r) tokens rest e = h r tokens rest e

within-viable : {R V : Type 0} (t : Lookahead R) (rules : R → Format R V V) → ((s : TokenSort) → IsOne s) → ((r : R) → Sample (by_rule rules r)) → (n : ℕ) (r : R) → Viable (by_rule rules r) (read_within t rules n r)
unfolding read_within
within-viable t rules one some zero r tokens rest e = let a = some r in ([], a.0, a.1, rests tokens rest e, a.2)
within-viable t rules one some (suc n) r tokens rest e =
    let a = reads-viable t (by_rule rules) (read_within t rules n) one some (rule-framed rules) (λ s others x left d. (n, within-sound t rules n s others x left d)) (within-viable t rules one some n) (rules r) tokens rest e in
    (a.0, a.1, a.2, a.3, λ l. by-format rules r (a.0 ++ (a.1 ++ l)) a.2 l (a.4 l))

-- Where the reader stops, the tokens up to there begin something that is spelled.
pub viable : {R V A : Type 0} (t : Lookahead R) (rules : R → Format R V V) → ((s : TokenSort) → IsOne s) → ((r : R) → Sample (by_rule rules r)) → (f : Format R V A) → Viable (Spells rules f) (format_at t rules f)
unfolding rule_at
viable t rules one some f = reads-viable t (by_rule rules) (rule_at t rules) one some (rule-framed rules) (λ r tokens x left e. (length tokens * 16 + suc (t.rank r), within-sound t rules (length tokens * 16 + suc (t.rank r)) r tokens x left e))
    (λ r tokens rest e. within-viable t rules one some (length tokens * 16 + suc (t.rank r)) r tokens rest e) f
