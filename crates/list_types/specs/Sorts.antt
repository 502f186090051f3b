-- The parts that a type is written in. The hidden items in order are n rows from place b of the memory w on.
use Rattle.std.specs.Prelude.{ℕ, ◌+◌, List, ◌++◌, get_or}
use Rattle.meaning.specs.Lists.{before}
use Rattle.meaning.specs.Names.{bytes}
use Rattle.meaning.specs.Origins.{same_origin, Item}
use Rattle.meaning.specs.Written.{sort_text}
use Rattle.form_rows.specs.Rows.{hidden_origin, sort_of}
use Rattle.form.specs.Forms.{items_at}

-- the number of the hidden sort declared at d
unfoldable pub sort_number : List ℕ → List ℕ → List ℕ → ℕ → ℕ → ℕ → ℕ
sort_number text tape w b n d = before (λ (i : Item). same_origin (hidden_origin text tape d) i.origin) (items_at text tape w b n) + 1

-- one of a row's sorts, after a mark
unfoldable pub marked_sort : List ℕ → List ℕ → List ℕ → ℕ → ℕ → List ℕ → ℕ → List ℕ
marked_sort text tape w b n sorts i = bytes "#" ++ sort_text (items_at text tape w b n) (sort_of text tape (get_or sorts i 0))
