-- Edges at one moment: what may change places in its parts may do so in its effects, and edges joined are effects joined.
use Rattle.std.proofs.Common.{◌≡◌, ℕ, ◌+◌, Bool, true, false, not, cond, ◌&&◌, ◌||◌, eqb, refl, ap, ◌∙◌, arith}
use Rattle.std.proofs.lemmas.Bool.Decides.{nat_tests}
use Rattle.pair_laws.specs.Effects.{Effect}
use Rattle.pair_laws.specs.Exchanges.{EdgeEffect, may_change, may_change_places, joined_edge}
use Rattle.pair_laws.specs.EdgesNow.{FormNow, Schedules, TakesNext, TakesEqual, TakesAll, EdgeNow, effect_as, effect_at, may_change_as, may_change_now, joined_edge_now}

times-apart : (clk p q d e : ℕ) → (not (eqb p q) || not (eqb d e)) ≡ true → not (eqb (clk + d) (clk + e) && eqb p q) ≡ true
times-apart clk p q d e h = grind (arith, nat_tests)

parts : (clk : ℕ) (a b : EdgeNow) (f h : FormNow) → may_change_as a b f h ≡ true → may_change (effect_as clk a f) (effect_as clk b h) ≡ true
parts clk a b (Schedules p) (Schedules q) apart = times-apart clk p q a.delay b.delay apart
parts clk a b (Schedules p) TakesNext apart = apart
parts clk a b (Schedules p) TakesEqual apart = apart
parts clk a b (Schedules p) TakesAll apart = apart
parts clk a b TakesNext (Schedules q) apart = apart
parts clk a b TakesNext TakesNext apart = refl
parts clk a b TakesNext TakesEqual apart = apart
parts clk a b TakesNext TakesAll apart = refl
parts clk a b TakesEqual (Schedules q) apart = apart
parts clk a b TakesEqual TakesNext apart = apart
parts clk a b TakesEqual TakesEqual apart = refl
parts clk a b TakesEqual TakesAll apart = refl
parts clk a b TakesAll (Schedules q) apart = apart
parts clk a b TakesAll TakesNext apart = refl
parts clk a b TakesAll TakesEqual apart = refl
parts clk a b TakesAll TakesAll apart = refl

pub now-may_change : (clk : ℕ) (a b : EdgeNow) → may_change_now a b ≡ true → may_change_places (effect_at clk a) (effect_at clk b) ≡ true
now-may_change clk a b may = chosen (not (a.holds && b.holds)) may where
  chosen : (c : Bool) → (c || may_change_as a b a.form b.form) ≡ true → (c || may_change (effect_as clk a a.form) (effect_as clk b b.form)) ≡ true
  chosen true h = refl
  chosen false h = parts clk a b a.form b.form h

pub now-joined_edge : (clk : ℕ) (a b : EdgeNow) → a.form ≡ b.form → a.target ≡ b.target → effect_at clk (joined_edge_now a b) ≡ joined_edge (effect_at clk a) (effect_at clk b)
now-joined_edge clk a b form target = ap (λ (f : Effect). let k : EdgeEffect = record { holds = a.holds || b.holds; effect = f } in k) (chosen a.holds) where
  chosen : (c : Bool) → effect_as clk (record { holds = a.holds || b.holds; form = a.form; target = a.target; delay = cond c a.delay b.delay; values = cond c a.values b.values }) a.form ≡ cond c (effect_as clk a a.form) (effect_as clk b b.form)
  chosen true = same a.form where
    same : (f : FormNow) → effect_as clk (record { holds = a.holds || b.holds; form = a.form; target = a.target; delay = a.delay; values = a.values }) f ≡ effect_as clk a f
    same (Schedules p) = refl
    same TakesNext = refl
    same TakesEqual = refl
    same TakesAll = refl
  chosen false = other a.form ∙ ap (effect_as clk b) form where
    other : (f : FormNow) → effect_as clk (record { holds = a.holds || b.holds; form = a.form; target = a.target; delay = b.delay; values = b.values }) f ≡ effect_as clk b f
    other f = ap (λ t. effect_as clk (record { holds = a.holds || b.holds; form = a.form; target = t; delay = b.delay; values = b.values }) f) target ∙ only f
      where
        only : (f : FormNow) → effect_as clk (record { holds = a.holds || b.holds; form = a.form; target = b.target; delay = b.delay; values = b.values }) f ≡ effect_as clk b f
        only (Schedules p) = refl
        only TakesNext = refl
        only TakesEqual = refl
        only TakesAll = refl
