-- A chain of steps beside what it doesn't use: it does the same before and after, and changes only what its steps write.
use Rattle.std.proofs.Common.{◌≡◌, ℕ, List, [], ◌∷◌, Ok, Err, refl, ◌∙◌, ap, subst}
use Rattle.std.specs.List.{AllByRecursion}
use Rattle.model_core.specs.Run.Value.{OrFault, ◌>>=◌, in_turn}
use Rattle.model_core.proofs.Results.{bind_ok}
use Rattle.run_laws.proofs.Spared.SetPlaces.{ChangedWithin, written-none, written-then}

-- the result, changed where there is one
abbrev pub result_by : {A B : Type 0} → (A → B) → OrFault A → OrFault B
result_by f r = r >>= λ a. Ok (f a)

-- a step on what is changed, and what comes out is changed
pub bind-after : {A B C D : Type 0} (u : A → C) (w : B → D) (r : OrFault A) (f : A → OrFault B) (h : C → OrFault D) → ((a : A) → r ≡ Ok a → h (u a) ≡ result_by w (f a)) → (result_by u r >>= h) ≡ result_by w (r >>= f)
bind-after u w (Ok a) f h same = same a refl
bind-after u w (Err k) f h same = refl

-- the first step is the same
pub bind-within : {A B D : Type 0} (w : B → D) (r : OrFault A) (f : A → OrFault B) (h : A → OrFault D) → ((a : A) → r ≡ Ok a → h a ≡ result_by w (f a)) → (r >>= h) ≡ result_by w (r >>= f)
bind-within w (Ok a) f h same = same a refl
bind-within w (Err k) f h same = refl

-- the same for a chain of steps
pub in_turn-after : {A S : Type 0} (P : A → Type 0) (f : A → S → OrFault S) (u : S → S) → ((a : A) → P a → (s : S) → f a (u s) ≡ result_by u (f a s)) → (as_ : List A) → AllByRecursion P as_ → (s : S) → in_turn f as_ (u s) ≡ result_by u (in_turn f as_ s)
in_turn-after P f u same [] all s = refl
in_turn-after P f u same (a ∷ as_) (p, all) s =
    ap (λ r. r >>= in_turn f as_) (same a p s) ∙ bind-after u u (f a s) (in_turn f as_) (in_turn f as_) (λ t made. in_turn-after P f u same as_ all t)

-- where a chain leads, if each of its steps leads so
pub in_turn-leads : {A S : Type 0} (R : S → S → Type 0) → ((s : S) → R s s) → ((s t u : S) → R s t → R t u → R s u) → (P : A → Type 0) (f : A → S → OrFault S) → ((a : A) → P a → (s t : S) → f a s ≡ Ok t → R s t) → (as_ : List A) → AllByRecursion P as_ → (s t : S) → in_turn f as_ s ≡ Ok t → R s t
in_turn-leads R self then P f leads [] all s t done = let same : s ≡ t = cc in subst (R s) same (self s)
in_turn-leads R self then P f leads (a ∷ as_) (p, all) s t done =
    let (u, first, later) = bind_ok (f a s) (in_turn f as_) t done in
    then s u t (leads a p s u first) (in_turn-leads R self then P f leads as_ all u t later)

-- a list that each step changes only at these places
pub in_turn-written : {A S X : Type 0} (places : List ℕ) (shown : S → List X) (P : A → Type 0) (f : A → S → OrFault S) → ((a : A) → P a → (s t : S) → f a s ≡ Ok t → ChangedWithin places (shown s) (shown t)) → (as_ : List A) → AllByRecursion P as_ → (s t : S) → in_turn f as_ s ≡ Ok t → ChangedWithin places (shown s) (shown t)
in_turn-written {S = S} places shown P f writes as_ all s t done =
    in_turn-leads (λ (s t : S). ChangedWithin places (shown s) (shown t)) (λ s. written-none places (shown s) (shown s) refl) (λ s t u. written-then places (shown s) (shown t) (shown u)) P f writes as_ all s t done
