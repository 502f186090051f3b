-- Bytes laid over a list from a place on, as `list_window` has them; a part of a text, where digits begin, and rows one after the other.
pub use Rattle.list_window.specs.Pen.{Pen, pen}
unfoldable pub use Rattle.list_window.specs.Pen.{written}
use Rattle.std.specs.Prelude.{ℕ, zero, suc, ◌+◌, ◌*◌, ◌/◌, List, [], ◌∷◌, ◌++◌, take, drop, ltb}
use Rattle.meaning.specs.Lists.{pick}

-- as much of a text, from a place on, as there is
abbrev pub part : List ℕ → ℕ → ℕ → List ℕ
part text start size = take size (drop start text)

-- the power of ten of the first digit of k, where at most n digits are written behind it
unfoldable pub first_power : ℕ → ℕ → ℕ
first_power zero k = 1
first_power (suc n) k = let more = 10 * first_power n (k / 10) in pick (ltb k 10) 1 more

-- ---- rows

-- what each of n rows from i on is written as
unfoldable pub rows_texts : (ℕ → List ℕ) → ℕ → ℕ → List (List ℕ)
rows_texts f i zero = []
rows_texts f i (suc n) = f i ∷ rows_texts f (i + 1) n

-- one after the other
unfoldable pub rows_text : (ℕ → List ℕ) → ℕ → ℕ → List ℕ
rows_text f i zero = []
rows_text f i (suc n) = f i ++ rows_text f (i + 1) n
