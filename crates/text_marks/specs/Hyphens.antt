-- A hyphen and the byte behind it: of an arrow, or of two hyphens.
use Rattle.std.specs.Prelude.{ℕ, ◌+◌, Bool, ◌&&◌, List, eqb, get_or}
use Rattle.meaning.specs.Names.{byte}

-- a hyphen at i, before b
unfoldable pub hyphen_before : List ℕ → ℕ → ℕ → Bool
hyphen_before text i b = eqb (get_or text i 0) (byte "-") && eqb (get_or text (i + 1) 0) b
