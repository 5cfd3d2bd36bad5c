-- The rules, tied into one another: each is read as its format is, and what it derives is what is read.
use Rattle.std.proofs.Common.{◌≡◌, ℕ, zero, suc, ◌+◌, ◌*◌, ◌≤◌, max, Bool, true, false, cond, List, ◌∷◌, length, refl, ap, ◌∙◌, subst, inl, inr, arith}
use Rattle.std.specs.Prelude.{not, ◌&&◌, nat_lt, Ok, Err}
use Rattle.std.proofs.lemmas.Bool.{ltb-true, not-true, and_parts}
use Rattle.model_core.specs.Text.Lexing.{Lexeme}
use Rattle.model_core.specs.Text.Grammar.{many}
use Rattle.model_core.specs.Text.Format.{TokenSort, Format, Yields, Single, Apply, Either, Many, ByRule, nested, by_rule, Spells}
use Rattle.text_laws.specs.FirstTokens.{begins_among, apart, subset, Lookahead, nullable, first_sorts, stop_sorts, head_rank, fine, AreDecided}
use Rattle.text_laws.specs.FormatReader.{Parse, Parser, took, and_next, many_within, many_at, reads, read_within, rule_at, format_at}
use Rattle.text_laws.proofs.Formats.TokenSorts.{begins-subset, stops-subset}
use Rattle.text_laws.proofs.Formats.FormatLaws.{Sound, Begins, Complete, Shorter, reads-sound, derives-begins, reads-shorter, reads-complete}

-- ---- what is checked

pub record Checked {R V : Type 0} (t : Lookahead R) (rules : R → Format R V V) (r : R) : Type 0 where
  pub fine : fine t (rules r) ≡ true
  pub some : nullable (rules r) ≡ false
  pub firsts : subset (first_sorts t (rules r)) (t.first_of r) ≡ true
  pub stops : subset (stop_sorts t (rules r)) (t.stops_of r) ≡ true
  pub ranked : head_rank t (rules r) ≤ t.rank r
  pub low : suc (t.rank r) ≤ 16

pub checked : {R V : Type 0} (t : Lookahead R) (rules : R → Format R V V) → AreDecided t rules → (r : R) → Checked t rules r
checked t rules ok r =
    let a = and_parts ((fine t (rules r) && not (nullable (rules r))) && (subset (first_sorts t (rules r)) (t.first_of r) && subset (stop_sorts t (rules r)) (t.stops_of r))) (nat_lt (head_rank t (rules r)) (suc (t.rank r)) && nat_lt (t.rank r) 16) (ok.each r) in
    let b = and_parts (fine t (rules r) && not (nullable (rules r))) (subset (first_sorts t (rules r)) (t.first_of r) && subset (stop_sorts t (rules r)) (t.stops_of r)) a.0 in
    let c = and_parts (fine t (rules r)) (not (nullable (rules r))) b.0 in
    let d = and_parts (subset (first_sorts t (rules r)) (t.first_of r)) (subset (stop_sorts t (rules r)) (t.stops_of r)) b.1 in
    let e = and_parts (nat_lt (head_rank t (rules r)) (suc (t.rank r))) (nat_lt (t.rank r) 16) a.1 in
    let f = ltb-true _ _ e.0 in
    let g = ltb-true _ _ e.1 in
    record { fine = c.0; some = not-true _ c.1; firsts = d.0; stops = d.1; ranked = omega arith; low = omega arith }

-- ---- no more rules than enough

-- the two readers read the same of few tokens
abbrev pub Agree : {A : Type 0} → Parser A → Parser A → ℕ → ℕ → Type 0
Agree p q most k = (tokens : List Lexeme) → length tokens * 16 + k ≤ most → p tokens ≡ q tokens

pub same_next : {A B : Type 0} (f g : A → Parser B) (r : Parse A) → ((x : A) (left : List Lexeme) → r ≡ took x left → f x left ≡ g x left) → and_next f r ≡ and_next g r
same_next f g (Ok r) same = same r.0 r.1 refl
same_next f g (Err rest) same = refl

pub same_choice : {A : Type 0} (b : Bool) (x y z : A) → x ≡ y → cond b x z ≡ cond b y z
same_choice b x y z e = ap (λ w. cond b w z) e

repeated-agree : {A : Type 0} (p q : Parser A) (most k : ℕ) → k ≤ 16 → Shorter p false → Agree p q most k → (n : ℕ) (sorts : List TokenSort) → Agree (many_within n sorts p) (many_within n sorts q) most k
unfolding many_within
repeated-agree p q most k low shorter same zero sorts tokens few = refl
repeated-agree p q most k low shorter same (suc n) sorts tokens few =
    same_choice (begins_among sorts tokens) _ _ _ (ap (and_next (λ x left. and_next (λ xs rest. Ok (x ∷ xs, rest)) (many_within n sorts p left))) (same tokens few)
    ∙ same_next _ _ (q tokens) (λ x left e. let s : length left + 1 ≤ length tokens = shorter tokens x left (same tokens few ∙ e) in
    ap (and_next (λ xs rest. Ok (x ∷ xs, rest))) (repeated-agree p q most k low shorter same n sorts left (omega arith))))

max-low : (a b c : ℕ) → a ≤ c → b ≤ c → max a b ≤ c
max-low a b c h g = omega arith

pick-low : (b : Bool) (j k : ℕ) → j ≤ 16 → k ≤ 16 → cond b (max j k) j ≤ 16
pick-low true j k h g = max-low j k 16 h g
pick-low false j k h g = h

head-low : {R V A : Type 0} (t : Lookahead R) → ((r : R) → suc (t.rank r) ≤ 16) → (f : Format R V A) → head_rank t f ≤ 16
head-low t low (Yields x) = omega arith
head-low t low (Single s f) = omega arith
head-low t low (Apply p q) = pick-low (nullable p) (head_rank t p) (head_rank t q) (head-low t low p) (head-low t low q)
head-low t low (Either p q) = max-low (head_rank t p) (head_rank t q) 16 (head-low t low p) (head-low t low q)
head-low t low (Many p) = head-low t low p
head-low t low (ByRule r) = low r

-- the head ranks of two parts are at most that of both
ranks : (b : Bool) (j k m n l most : ℕ) → l + cond b 0 1 ≤ m → k ≤ 16 → m * 16 + cond b (max j k) j ≤ most → (m * 16 + j ≤ most) × (l * 16 + k ≤ most)
ranks true j k m n l most h low few = (omega arith, omega arith)
ranks false j k m n l most h low few = (omega arith, omega arith)

rank-first : (b : Bool) (j k m most : ℕ) → m * 16 + cond b (max j k) j ≤ most → m * 16 + j ≤ most
rank-first true j k m most few = omega arith
rank-first false j k m most few = few

pub reads-agree : {R V A : Type 0} (t : Lookahead R) (a b : R → Parser V) (most : ℕ) → ((r : R) → suc (t.rank r) ≤ 16) → ((r : R) → Shorter (a r) false) → ((r : R) → Agree (a r) (b r) most (suc (t.rank r)))
    → (f : Format R V A) → fine t f ≡ true → Agree (reads t a f) (reads t b f) most (head_rank t f)
unfolding many_at
reads-agree t a b most low shorter same (Yields x) ok tokens few = refl
reads-agree t a b most low shorter same (Single s f) ok tokens few = refl
reads-agree t a b most low shorter same (Apply p q) ok tokens few =
    let c = and_parts (fine t p && fine t q) (apart (stop_sorts t p) (first_sorts t q)) ok in
    let d = and_parts (fine t p) (fine t q) c.0 in
    let sooner : reads t a p tokens ≡ reads t b p tokens = reads-agree t a b most low shorter same p d.0 tokens (rank-first (nullable p) (head_rank t p) (head_rank t q) (length tokens) most few) in
    ap (and_next (λ f left. and_next (λ x rest. Ok (f x, rest)) (reads t a q left))) sooner
    ∙ same_next _ _ (reads t b p tokens) (λ f left e.
    let s = reads-shorter t a shorter p tokens f left (sooner ∙ e) in
    ap (and_next (λ x rest. Ok (f x, rest))) (reads-agree t a b most low shorter same q d.1 left (ranks (nullable p) (head_rank t p) (head_rank t q) (length tokens) 0 (length left) most s (head-low t low q) few).1))
reads-agree t a b most low shorter same (Either p q) ok tokens few =
    let c = and_parts (fine t p && fine t q) (not (nullable p) && apart (first_sorts t p) (first_sorts t q)) ok in
    let d = and_parts (fine t p) (fine t q) c.0 in
    ap (λ w. cond (begins_among (first_sorts t p) tokens) w (reads t a q tokens)) (reads-agree t a b most low shorter same p d.0 tokens (omega arith))
    ∙ ap (λ w. cond (begins_among (first_sorts t p) tokens) (reads t b p tokens) w) (reads-agree t a b most low shorter same q d.1 tokens (omega arith))
reads-agree t a b most low shorter same (Many p) ok tokens few =
    let c = and_parts (fine t p) (not (nullable p) && apart (stop_sorts t p) (first_sorts t p)) ok in
    let e = and_parts (not (nullable p)) (apart (stop_sorts t p) (first_sorts t p)) c.1 in
    let solid : nullable p ≡ false = not-true (nullable p) e.0 in
    repeated-agree (reads t a p) (reads t b p) most (head_rank t p) (head-low t low p) (subst (λ (n : Bool). Shorter (reads t a p) n) solid (reads-shorter t a shorter p)) (reads-agree t a b most low shorter same p c.0) (length tokens) (first_sorts t p) tokens few
reads-agree t a b most low shorter same (ByRule r) ok tokens few = same r tokens few

-- ---- the rules

pub within-shorter : {R V : Type 0} (t : Lookahead R) (rules : R → Format R V V) → AreDecided t rules → (n : ℕ) (r : R) → Shorter (read_within t rules n r) false
unfolding read_within
within-shorter t rules ok zero r tokens x left e = absurd cc
within-shorter t rules ok (suc n) r tokens x left e = subst (λ (b : Bool). length left + cond b 0 1 ≤ length tokens) (checked t rules ok r).some (reads-shorter t (read_within t rules n) (within-shorter t rules ok n) (rules r) tokens x left e)

pub rule-shorter : {R V : Type 0} (t : Lookahead R) (rules : R → Format R V V) → AreDecided t rules → (r : R) → Shorter (rule_at t rules r) false
unfolding rule_at
rule-shorter t rules ok r tokens x left e = within-shorter t rules ok (length tokens * 16 + suc (t.rank r)) r tokens x left e

pub enough : {R V : Type 0} (t : Lookahead R) (rules : R → Format R V V) → AreDecided t rules → (m n : ℕ) (r : R) (tokens : List Lexeme) → length tokens * 16 + suc (t.rank r) ≤ m → length tokens * 16 + suc (t.rank r) ≤ n → read_within t rules m r tokens ≡ read_within t rules n r tokens
unfolding read_within
enough t rules ok zero n r tokens few many = absurd (omega arith)
enough t rules ok (suc m) zero r tokens few many = absurd (omega arith)
enough t rules ok (suc m) (suc n) r tokens few many =
    let c = checked t rules ok r in
    reads-agree t (read_within t rules m) (read_within t rules n) (length tokens * 16 + t.rank r) (λ s. (checked t rules ok s).low) (within-shorter t rules ok m)
    (λ s others less. enough t rules ok m n s others (omega arith) (omega arith)) (rules r) c.fine tokens (let k = c.ranked in omega arith)

-- a rule is read as its format is
pub rule-is : {R V : Type 0} (t : Lookahead R) (rules : R → Format R V V) → AreDecided t rules → (r : R) (tokens : List Lexeme) → rule_at t rules r tokens ≡ format_at t rules (rules r) tokens
unfolding rule_at read_within
rule-is t rules ok r tokens =
    let c = checked t rules ok r in
    let e : length tokens * 16 + suc (t.rank r) ≡ suc (length tokens * 16 + t.rank r) = omega arith in
    ap (λ n. read_within t rules n r tokens) e
    ∙ reads-agree t (read_within t rules (length tokens * 16 + t.rank r)) (rule_at t rules) (length tokens * 16 + t.rank r) (λ s. (checked t rules ok s).low) (within-shorter t rules ok (length tokens * 16 + t.rank r))
    (λ s others less. enough t rules ok (length tokens * 16 + t.rank r) (length others * 16 + suc (t.rank s)) s others less (omega arith)) (rules r) c.fine tokens (let k = c.ranked in omega arith)

pub within-sound : {R V : Type 0} (t : Lookahead R) (rules : R → Format R V V) → (n : ℕ) (r : R) → Sound (nested rules n r) (read_within t rules n r)
unfolding read_within
within-sound t rules zero r tokens x left e = absurd cc
within-sound t rules (suc n) r tokens x left e = reads-sound t (nested rules n) (read_within t rules n) (within-sound t rules n) (rules r) tokens x left e

within-begins : {R V : Type 0} (t : Lookahead R) (rules : R → Format R V V) → AreDecided t rules → (n : ℕ) (r : R) → Begins (nested rules n r) (t.first_of r) false
within-begins t rules ok zero r tokens x left d = absurd d
within-begins t rules ok (suc n) r tokens x left d =
    let c = checked t rules ok r in
    elim (derives-begins t (nested rules n) (within-begins t rules ok n) (rules r) tokens x left d) [
      | inl w ↦ inl (begins-subset (first_sorts t (rules r)) (t.first_of r) tokens c.firsts w)
      | inr w ↦ absurd (let e = w.0 in let f = c.some in cc)
    ]

within-complete : {R V : Type 0} (t : Lookahead R) (rules : R → Format R V V) → AreDecided t rules → (n : ℕ) (r : R) → Complete (nested rules n r) (rule_at t rules r) (t.stops_of r)
within-complete t rules ok zero r tokens x left h d = absurd d
within-complete t rules ok (suc n) r tokens x left h d =
    let c = checked t rules ok r in
    rule-is t rules ok r tokens
    ∙ reads-complete t (nested rules n) (rule_at t rules) (within-begins t rules ok n) (rule-shorter t rules ok) (within-complete t rules ok n) (rules r) c.fine tokens x left (stops-subset (stop_sorts t (rules r)) (t.stops_of r) left c.stops h) d

-- ---- the laws of any format

pub sound : {R V A : Type 0} (t : Lookahead R) (rules : R → Format R V V) (f : Format R V A) → Sound (Spells rules f) (format_at t rules f)
unfolding rule_at
sound t rules f = reads-sound t (by_rule rules) (rule_at t rules) (λ r tokens x left e. (length tokens * 16 + suc (t.rank r), within-sound t rules (length tokens * 16 + suc (t.rank r)) r tokens x left e)) f

pub complete : {R V A : Type 0} (t : Lookahead R) (rules : R → Format R V V) → AreDecided t rules → (f : Format R V A) → fine t f ≡ true → Complete (Spells rules f) (format_at t rules f) (stop_sorts t f)
complete t rules ok f is = reads-complete t (by_rule rules) (rule_at t rules) (λ r tokens x left d. within-begins t rules ok d.0 r tokens x left d.1) (rule-shorter t rules ok) (λ r tokens x left h d. within-complete t rules ok d.0 r tokens x left h d.1) f is
