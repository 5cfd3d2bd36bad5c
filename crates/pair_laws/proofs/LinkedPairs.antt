-- What links carry, chains of links carry: so the walk need only look at as many pairs as join its classes.
use Rattle.std.proofs.Common.{◌≡◌, ℕ, sym, ◌∙◌}
use Rattle.pair_laws.specs.PairChains.{PairChain, link, longer}

-- what is one for linked numbers is one for those that chains join
pub chain-same : {X : Type 0} (L : ℕ → ℕ → Type 0) (first second : ℕ → X) → ((a b : ℕ) → L a b → first a ≡ second b) → {a b : ℕ} → PairChain L a b → first a ≡ second b
chain-same L first second same (link a b l) = same a b l
chain-same L first second same (longer a b c d chain back forth) = chain-same L first second same chain ∙ sym (same c b back) ∙ same c d forth

-- so is what depends on an event and on a variable
pub chains-same : {X : Type 0} (L M : ℕ → ℕ → Type 0) (first second : ℕ → ℕ → X) → ((a b x y : ℕ) → L a b → M x y → first a x ≡ second b y) → {a b x y : ℕ} → PairChain L a b → PairChain M x y → first a x ≡ second b y
chains-same L M first second same {a} {b} {x} {y} events variables =
    chain-same L (λ a. first a x) (λ b. second b y) (λ a b l. chain-same M (first a) (second b) (λ x y m. same a b x y l m) variables) events
