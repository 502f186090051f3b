-- Values laid over what is lent for them, one at each place, and a yes or no as a value. What has no room is left out.
use Rattle.std.specs.Prelude.{ℕ, ◌+◌, Bool, List, [], ◌∷◌, set}
use Rattle.meaning.specs.Lists.{pick}

-- values over a list, each at its place from i on
unfoldable pub laid : ℕ → List ℕ → List ℕ → List ℕ
laid i [] xs = xs
laid i (v ∷ vs) xs = laid (i + 1) vs (set xs i v)

unfoldable pub bit_of : Bool → ℕ
bit_of b = pick b 1 0
