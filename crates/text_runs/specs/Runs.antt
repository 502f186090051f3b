-- Runs of digits compared where they stand: how many digits and how many zeros a text begins with, and which of the two runs that two texts begin
-- with comes first, with no number formed.
use Rattle.std.specs.Prelude.{◌≡◌, ℕ, suc, ◌-◌, ◌<◌, ◌≤◌, Bool, false, List, [], ◌∷◌, eqb, ltb, take, drop}
use Rattle.meaning.specs.Lists.{pick}
use Rattle.meaning.specs.Names.{is_digit}
use Rattle.text_runs.specs.Orders.{compared, bytes_compared}

-- how many bytes a text begins with that pass a test
unfoldable pub leading : (ℕ → Bool) → List ℕ → ℕ
leading p [] = 0
leading p (x ∷ xs) = let more = suc (leading p xs) in pick (p x) more 0

-- how many digits
abbrev pub digits_of : List ℕ → ℕ
digits_of xs = leading is_digit xs

-- how many zeros
abbrev pub is_zero : ℕ → Bool
is_zero x = eqb x 48

abbrev pub zeros_of : List ℕ → ℕ
zeros_of xs = leading is_zero xs

-- how many digits of its run follow the leading zeros
unfoldable pub size_of_run : List ℕ → ℕ
size_of_run xs = digits_of xs - zeros_of xs

-- these digits
unfoldable pub rest_of_run : List ℕ → List ℕ
rest_of_run xs = take (size_of_run xs) (drop (zeros_of xs) xs)

-- 0 where n is less, 2 where it is more, and else what follows
unfoldable pub by_size : ℕ → ℕ → ℕ → ℕ
by_size n m level = pick (ltb n m) 0 (pick (ltb m n) 2 level)

-- the runs that two texts begin with: without leading zeros the shorter first, then byte by byte, then the one with fewer zeros
unfoldable pub runs_compared : List ℕ → List ℕ → ℕ
runs_compared xs ys =
    let by_zeros = by_size (zeros_of xs) (zeros_of ys) 1 in
    let by_digits = bytes_compared (rest_of_run xs) (rest_of_run ys) in
    by_size (size_of_run xs) (size_of_run ys) (pick (eqb by_digits 1) by_zeros by_digits)

-- the same where neither run has a zero in front of another digit: the shorter first, then byte by byte
unfoldable pub plainly_compared : List ℕ → List ℕ → ℕ
plainly_compared xs ys = by_size (digits_of xs) (digits_of ys) (bytes_compared (take (digits_of xs) xs) (take (digits_of ys) ys))

-- a run with a zero in front of another digit
unfoldable pub has_zeros : List ℕ → Bool
has_zeros [] = false
has_zeros (x ∷ xs) = pick (is_zero x) (ltb 0 (digits_of xs)) false

-- ---- elements

-- the elements that two texts begin with: a run comes before any other byte
unfoldable pub elements_compared : List ℕ → List ℕ → ℕ
elements_compared [] ys = 1
elements_compared (x ∷ xs) [] = 1
elements_compared (x ∷ xs) (y ∷ ys) =
    let by_runs = runs_compared (x ∷ xs) (y ∷ ys) in
    let by_bytes = by_size x y 1 in
    pick (is_digit x) (pick (is_digit y) by_runs 0) (pick (is_digit y) 2 by_bytes)

-- how many bytes the element has that a text begins with
unfoldable pub element_size : List ℕ → ℕ
element_size xs = pick (eqb (digits_of xs) 0) 1 (digits_of xs)

-- how many bytes two texts have in common from the first on, up to the first digit
unfoldable pub plain_size : List ℕ → List ℕ → ℕ
plain_size [] ys = 0
plain_size (x ∷ xs) [] = 0
plain_size (x ∷ xs) (y ∷ ys) = let more = suc (plain_size xs ys) in pick (eqb x y) (pick (is_digit x) 0 more) 0

-- ---- what is seen at once

-- r tells which of two names comes first, or 1 if they are the same; where it is 3, nothing is told
pub record Seen (xs ys : List ℕ) (r : ℕ) : Type 0 where
  pub told : r < 3 → compared xs ys ≡ r

-- the same of the elements that two names begin with; where it is 4, they begin with the same run
pub record Decides (xs ys : List ℕ) (r : ℕ) : Type 0 where
  pub few : r ≤ 4
  pub told : r < 3 → compared xs ys ≡ r
  pub some : r ≡ 4 → 0 < digits_of xs
  pub passed : r ≡ 4 → compared xs ys ≡ compared (drop (digits_of xs) xs) (drop (digits_of xs) ys)
