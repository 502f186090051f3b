-- What of a row is compared as it is written, the parts of a written line, and what two parts tell.
use Rattle.std.specs.Prelude.{◌≡◌, List, ℕ, ◌^◌, ◌<◌, ◌≤◌, eqb, length, take, drop}
use Rattle.meaning.specs.Lists.{pick}
use Rattle.meaning.specs.Written.{origin_text, shape_text}
use Rattle.text_runs.specs.Orders.{bytes_compared}
use Rattle.form_rows.specs.declared.Row.{Row}
use Rattle.form_rows.specs.Rows.{origin_of, shape_of}
use Rattle.form.specs.Forms.{items_at}
use Rattle.list_texts.specs.declared.Part.{Part}
use Rattle.list_texts.specs.declared.Facet.{Facet}
use Rattle.list_texts.specs.declared.Facet.TheVariants.{Origin, Shape}

-- ---- written lines: as many bytes count as no origin, type or equation passes

abbrev pub line_size : ℕ
line_size = 4096

-- a facet of an item, as it is written
unfoldable pub facet_text : List ℕ → List ℕ → List ℕ → Facet → Row → List ℕ
facet_text text tape w Origin r = origin_text (origin_of text tape r.origin)
facet_text text tape w (Shape b n) r = shape_text (items_at text tape w b n) (shape_of text tape r.kind r.sorts)

-- the number of hidden sorts is a number of rows
abbrev pub Countable : Facet → Type 0
Countable Origin = Unit {0}
Countable (Shape b n) = n < 2 ^ 31

-- so many bytes of a line are looked at together
abbrev pub part_size : ℕ
part_size = 32

pub record PartOf (r : Part) (before : ℕ) (bs : List ℕ) : Type 0 where
  pub fits : r.size ≤ length r.bytes
  pub shows : take r.size r.bytes ≡ take part_size (drop before bs)
  pub sized : r.size ≡ length (take part_size (drop before bs))

-- two parts of lines, the first of n bytes: 3 where what follows them decides, for both are full and the same
unfoldable pub parts_compared : ℕ → List ℕ → List ℕ → ℕ
parts_compared n x y = pick (eqb n part_size) (pick (eqb (bytes_compared x y) 1) 3 (bytes_compared x y)) (bytes_compared x y)
