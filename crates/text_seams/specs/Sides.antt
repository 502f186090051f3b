-- Where a name stands in two texts as one, of which the first has n bytes.
use Rattle.std.specs.Prelude.{ℕ, ◌+◌, ◌/◌, ◌%◌, Bool, false, leb}
use Rattle.meaning.specs.Lists.{pick}

-- is it a plain name that starts where a text of n bytes has room for a whole one?
unfoldable pub has_room : ℕ → ℕ → Bool
has_room n w = pick (leb (w % 256) 40) (leb (w / 256 + 40) n) false

unfoldable pub have_room : ℕ → ℕ → ℕ → Bool
have_room n a b = pick (has_room n a) (has_room n b) false

-- do both names start behind a text of n bytes?
unfoldable pub both_behind : ℕ → ℕ → ℕ → Bool
both_behind n a b = pick (leb n (a / 256)) (leb n (b / 256)) false
