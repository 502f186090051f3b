-- Whether two names are plain.
use Rattle.std.specs.Prelude.{ℕ, ◌%◌, Bool, false, ltb}
use Rattle.meaning.specs.Lists.{pick}

unfoldable pub are_plain : ℕ → ℕ → Bool
are_plain a b = pick (ltb (a % 256) 64) (ltb (b % 256) 64) false
