-- Numbers of two models that links join, and the classes of joined numbers.
use Rattle.std.specs.Prelude.{◌≡◌, ℕ, ◌+◌, ◌*◌, ◌==◌, Bool, cond, List, [], ◌∷◌}

-- a number of the first model, or one of the second
pub data Side : Type 0 where
  First : ℕ → Side
  Second : ℕ → Side

-- a number of each model
pub record Link : Type 0 where
  pub first : ℕ
  pub second : ℕ

-- before links join them, no two have one class
abbrev pub own_class : Side → ℕ
own_class (First n) = 2 * n
own_class (Second n) = 2 * n + 1

-- the last link stands first: its second number's class becomes that of its first number
unfoldable pub class_of : List Link → Side → ℕ
class_of [] n = own_class n
class_of (l ∷ older) n = cond (class_of older n == class_of older (Second l.second)) (class_of older (First l.first)) (class_of older n)

abbrev pub count_as_one : List Link → ℕ → ℕ → Bool
count_as_one links x y = class_of links (First x) == class_of links (Second y)

-- what holds of each link
abbrev pub OfLinks : (ℕ → ℕ → Type 0) → List Link → Type 0
OfLinks R [] = Unit {0}
OfLinks R (l ∷ older) = R l.first l.second × OfLinks R older
