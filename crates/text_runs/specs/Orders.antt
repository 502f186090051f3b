-- The comparisons of two names and of two texts.
use Rattle.std.specs.Prelude.{ℕ, List}
use Rattle.meaning.specs.Lists.{pick}
use Rattle.meaning.specs.Names.{Name, same, bytes_not_after, not_after}

-- 1 for the same name, 0 for one that comes before, 2 for one that comes after
unfoldable pub compared : Name → Name → ℕ
compared x y = pick (same x y) 1 (pick (not_after x y) 0 2)

-- the same for texts, by their bytes
unfoldable pub bytes_compared : List ℕ → List ℕ → ℕ
bytes_compared x y = pick (same x y) 1 (pick (bytes_not_after x y) 0 2)
