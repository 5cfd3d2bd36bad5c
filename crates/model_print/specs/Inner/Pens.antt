-- What pens keep of the texts that are put, and that two texts are put one after the other.
use Rattle.std.proofs.Common.{◌≡◌, Bool, false, ℕ, ◌+◌, ◌-◌, ◌≤◌, ◌^◌, List, [], ◌++◌, length, min, arith, append_assoc, append-nil, sym, length-append, ◌∙◌, ap}

-- a count of bytes that stays at the last value
abbrev pub Counts : ℕ → ℕ → List ℕ → Type 0
Counts old new text = min new (2 ^ 64 - 1) ≡ min (old + length text) (2 ^ 64 - 1)

pub counts_nothing : (s : ℕ) → Counts s s []
counts_nothing s = omega arith

pub counts_both : (s t u : ℕ) (a b : List ℕ) → Counts s t a → Counts t u b → Counts s u (a ++ b)
counts_both s t u a b first second = omega (arith, first, second, length-append a b)

-- a page with room for the text has it after what it had, and has no less room
abbrev pub Fills : List ℕ → ℕ → List ℕ → ℕ → List ℕ → Type 0
Fills old room new left text = length old + length text ≤ room → (new ≡ old ++ text) × (room ≤ left)

pub fills_nothing : (s : List ℕ) (room : ℕ) → Fills s room s room []
fills_nothing s room fits = (sym (append-nil s), omega arith)

pub fills_both : (s : List ℕ) (i : ℕ) (t : List ℕ) (j : ℕ) (u : List ℕ) (k : ℕ) (a b : List ℕ) → Fills s i t j a → Fills t j u k b → Fills s i u k (a ++ b)
fills_both s i t j u k a b first second fits =
    let had = first (omega (arith, fits, length-append a b)) in
    let has = second (omega (arith, fits, had.1, length-append a b, length-append s a, ap length had.0)) in
    (has.0 ∙ ap (λ (x : List ℕ). x ++ b) had.0 ∙ append_assoc s a b, omega (arith, had.1, has.1))

-- a text that grows has the text after what it had, unless it lacks memory, and then it lacks it from there on
abbrev pub Grows : List ℕ → Bool → List ℕ → Bool → List ℕ → Type 0
Grows old lacked new lacks text = lacks ≡ false → (lacked ≡ false) × (new ≡ old ++ text)

pub grows_nothing : (s : List ℕ) (lacks : Bool) → Grows s lacks s lacks []
grows_nothing s lacks fine = (fine, sym (append-nil s))

pub grows_both : (s : List ℕ) (i : Bool) (t : List ℕ) (j : Bool) (u : List ℕ) (k : Bool) (a b : List ℕ) → Grows s i t j a → Grows t j u k b → Grows s i u k (a ++ b)
grows_both s i t j u k a b first second fine =
    let has = second fine in
    let had = first has.0 in
    (had.0, has.1 ∙ ap (λ (x : List ℕ). x ++ b) had.1 ∙ append_assoc s a b)
