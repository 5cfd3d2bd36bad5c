-- Two machines that show the same: how they end, and what they show.
use Rattle.std.proofs.Common.{◌≡◌, ℕ, zero, suc, ◌<◌, ◌≤◌, ◌^◌, ℤ, IsTrue, List, [], ◌∷◌, map, refl, sym, ◌∙◌, ap, subst}
use Rattle.model_core.specs.EventGraph.{EventGraph}
use Rattle.model_core.specs.Run.Machine.{Note, On, Going, Look, finished, Move, Rests, Fails, Goes, before, ahead, after, look_of}
use Rattle.model_core.specs.Run.History.{next_move, start, allowed, look}
use Rattle.model_core.specs.Run.Same.{Begins, SameLooks, watched_name_of, first_parameters, Same}
use Rattle.run_laws.proofs.Simulation.{Answers, Joined}
use Rattle.worked_runs.specs.Pairs.{Apart}

-- ---- one machine

-- a run that rests before its next move shows the same after it
rested : {S : Type 0} (later : S → Look) (move : Move S) → IsTrue (finished (before move).standing) → after later move ≡ before move
rested later (Rests notes end) fin = refl
rested later (Fails notes end) fin = cc
rested later (Goes notes s) fin = cc

same_after_move : {S : Type 0} (one other : S → Look) (move : Move S) → ((s : S) → IsTrue (finished (one s).standing) → IsTrue (finished (other s).standing) → one s ≡ other s) → IsTrue (finished (after one move).standing) → IsTrue (finished (after other move).standing) → after one move ≡ after other move
same_after_move one other (Rests notes end) same a b = refl
same_after_move one other (Fails notes end) same a b = refl
same_after_move one other (Goes notes s) same a b = ap (ahead notes) (same s a b)

-- a machine has one finished look
pub one_end : {S : Type 0} (f : S → Move S) (n k : ℕ) (s : S) → IsTrue (finished (look_of f n s).standing) → IsTrue (finished (look_of f k s).standing) → look_of f n s ≡ look_of f k s
one_end f zero zero s a b = refl
one_end f zero (suc k) s a b = sym (rested (look_of f k) (f s) a)
one_end f (suc n) zero s a b = rested (look_of f n) (f s) b
one_end f (suc n) (suc k) s a b = same_after_move (look_of f n) (look_of f k) (f s) (one_end f n k) a b

-- a machine that comes back to where it is, and shows nothing, goes on for ever and shows nothing
pub circles : {S : Type 0} (f : S → Move S) (s : S) → f s ≡ Goes [] s → (n : ℕ) → look_of f n s ≡ record { history = []; standing = Going }
circles f s e zero = ap before e
circles f s e (suc n) = ap (after (look_of f n)) e ∙ ap (ahead []) (circles f s e n)

-- looks are different whose histories are
pub other_notes : (a b : Look) → (a.history ≡ b.history → ⊥) → a ≡ b → ⊥
other_notes a b differ e = differ (ap (λ (l : Look). l.history) e)

-- ---- two machines that show the same

unfinished : (l : Look) → l.standing ≡ Going → IsTrue (finished l.standing) → ⊥
unfinished l going fin = cc

-- one doesn't go on for ever where the other is finished
pub both_finish : (first second : ℕ → Look) → SameLooks first second → (n : ℕ) → IsTrue (finished (first n).standing) → ((m : ℕ) → (second m).standing ≡ Going) → ⊥
both_finish first second same n fin going =
    let (m, le, e) = same.finishes n fin in
    unfinished (second m) (going m) (subst (λ (l : Look). IsTrue (finished l.standing)) (sym e) fin)

pub both_finish_only : (first second : ℕ → Look) → SameLooks first second → (m : ℕ) → IsTrue (finished (second m).standing) → ((n : ℕ) → (first n).standing ≡ Going) → ⊥
both_finish_only first second same m fin going =
    let (n, e) = same.finishes_only m fin in
    unfinished (first n) (going n) (subst (λ (l : Look). IsTrue (finished l.standing)) (sym e) fin)

-- a note that one shows isn't missing in each look at the other
pub both_show : (first second : ℕ → Look) → SameLooks first second → (n : ℕ) → ((m : ℕ) → Begins (first n).history (second m).history → ⊥) → ⊥
both_show first second same n missing =
    let (m, le, begins) = same.shows n in missing m begins

pub both_show_only : (first second : ℕ → Look) → SameLooks first second → (m : ℕ) → ((n : ℕ) → Begins (second m).history (first n).history → ⊥) → ⊥
both_show_only first second same m missing =
    let (n, begins) = same.shows_only m in missing n begins

-- ---- two models

-- where both are finished, they look the same
same_end : (g h : EventGraph) → Same g h → (seed : ℕ) → seed < 2 ^ 64 → (starts : List ℤ) → IsTrue (allowed g starts) → (until : ℕ) → until ≤ 2 ^ 48 → (n k : ℕ) → IsTrue (finished (look g seed starts until n).standing) → IsTrue (finished (look h seed starts until k).standing) → look g seed starts until n ≡ look h seed starts until k
same_end g h same seed fits starts ok until early n k a b =
    let (m, le, e) = (same.runs seed fits starts ok until early).finishes n a in
    sym e ∙ one_end (next_move h seed until) m k (start h starts) (subst (λ (l : Look). IsTrue (finished l.standing)) (sym e) a) b

-- models are apart that have ended differently in a run
pub apart_by_ends : (g h : EventGraph) (seed : ℕ) → seed < 2 ^ 64 → (starts : List ℤ) → IsTrue (allowed g starts) → IsTrue (allowed h starts) → (until : ℕ) → until ≤ 2 ^ 48 → (n k : ℕ) (a b : Look) → look g seed starts until n ≡ a → look h seed starts until k ≡ b → IsTrue (finished a.standing) → IsTrue (finished b.standing) → (a ≡ b → ⊥) → Apart g h
apart_by_ends g h seed fits starts ok ok_too until early n k a b at_a at_b fin fin_too differ =
    let first : IsTrue (finished (look g seed starts until n).standing) = subst (λ (l : Look). IsTrue (finished l.standing)) (sym at_a) fin in
    let second : IsTrue (finished (look h seed starts until k).standing) = subst (λ (l : Look). IsTrue (finished l.standing)) (sym at_b) fin_too in (
      λ same. differ (sym at_a ∙ (same_end g h same seed fits starts ok until early n k first second ∙ at_b)),
      λ same. differ (sym at_a ∙ (sym (same_end h g same seed fits starts ok_too until early k n second first) ∙ at_b)),
    )

-- models are apart of which one is finished in a run and the other goes on for ever
pub apart_by_going_on : (g h : EventGraph) (seed : ℕ) → seed < 2 ^ 64 → (starts : List ℤ) → IsTrue (allowed g starts) → IsTrue (allowed h starts) → (until : ℕ) → until ≤ 2 ^ 48 → (n : ℕ) → IsTrue (finished (look g seed starts until n).standing) → ((m : ℕ) → (look h seed starts until m).standing ≡ Going) → Apart g h
apart_by_going_on g h seed fits starts ok ok_too until early n fin going = (
  λ same. both_finish (λ n. look g seed starts until n) (λ m. look h seed starts until m) (same.runs seed fits starts ok until early) n fin going,
  λ same. both_finish_only (λ m. look h seed starts until m) (λ n. look g seed starts until n) (same.runs seed fits starts ok_too until early) n fin going,
)

-- models are apart of which one shows in a run what the other never shows
pub apart_by_notes : (g h : EventGraph) (seed : ℕ) → seed < 2 ^ 64 → (starts : List ℤ) → IsTrue (allowed g starts) → IsTrue (allowed h starts) → (until : ℕ) → until ≤ 2 ^ 48 → (n : ℕ) → ((m : ℕ) → Begins (look g seed starts until n).history (look h seed starts until m).history → ⊥) → Apart g h
apart_by_notes g h seed fits starts ok ok_too until early n missing = (
  λ same. both_show (λ n. look g seed starts until n) (λ m. look h seed starts until m) (same.runs seed fits starts ok until early) n missing,
  λ same. both_show_only (λ m. look h seed starts until m) (λ n. look g seed starts until n) (same.runs seed fits starts ok_too until early) n missing,
)

-- models are apart that watch other things
pub apart_by_watch : (g h : EventGraph) → (map (watched_name_of g) g.watch ≡ map (watched_name_of h) h.watch → ⊥) → Apart g h
apart_by_watch g h differ = (λ same. differ same.watched, λ same. differ (sym same.watched))

-- models are apart whose runs begin with other parameters
pub apart_by_parameters : (g h : EventGraph) → (first_parameters g ≡ first_parameters h → ⊥) → Apart g h
apart_by_parameters g h differ = (λ same. differ same.started, λ same. differ (sym same.started))

-- ---- answers to moves that are known by equations

pub joined_by : {S T : Type 0} (f : S → Move S) (g : T → Move T) (R : S → T → Type 0) (s : S) (t : T) {m : Move S} {k : Move T} → f s ≡ m → g t ≡ k → Joined f R m k → Joined f R (f s) (g t)
joined_by {S} {T} f g R s t {m} {k} first second joined =
    subst (λ (m : Move S). Joined f R m (g t)) (sym first) (subst (λ (k : Move T). Joined f R m k) (sym second) joined)

pub answered_by : {S T : Type 0} (f : S → Move S) (g : T → Move T) (R : S → T → Type 0) (s : S) (t : T) {m : Move S} {k : Move T} → f s ≡ m → g t ≡ k → Answers R m k → Answers R (f s) (g t)
answered_by {S} {T} f g R s t {m} {k} first second answers =
    subst (λ (m : Move S). Answers R m (g t)) (sym first) (subst (λ (k : Move T). Answers R m k) (sym second) answers)

-- no note begins a history that has none
pub nothing_begins : (notes : List Note) → notes ≡ [] → Begins (On 0 0 [] ∷ []) notes → ⊥
nothing_begins notes none (rest, e) = cc
