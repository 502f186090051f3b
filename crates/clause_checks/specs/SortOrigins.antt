-- Where a sort of a table of rows is from, in the code's terms: the first row of its name tells it.
use Rattle.std.specs.Prelude.{◌≡◌, ℕ, ◌+◌, ◌*◌, ◌≤◌, ◌<◌, List}
use Rattle.std.proofs.Common.{sym, ◌∙◌, arith}
use Rattle.std.proofs.Math.Path.{ap}
use Rattle.std.proofs.Math.Option.{Option, none, some}
use Rattle.meaning.specs.Lists.{first, before}
use Rattle.meaning.specs.Names.{Name}
use Rattle.meaning.specs.Origins.{Origin, is_sort, Item}
use Rattle.meaning.specs.Normal.{sorts_among, is_called, origin_of_item}
use Rattle.text_names.specs.Word.{name_of}
use Rattle.form_rows.specs.Rows.{origin_of as row_origin, item_of, row_at, row_size}
use Rattle.form.specs.Forms.{items_at}
use Rattle.form_walks.specs.Rows.{first_row, no_row}
use Rattle.clause_checks.specs.Joined.{first_keep}
use Rattle.clause_checks.specs.Searches.{sort_called}

-- where the first sort of the name is from
unfoldable pub origin_among : List Item → Name → Option Origin
origin_among items a = origin_of_item (first (is_called a) (sorts_among items))

module _ (text tape w : List ℕ) (b n a i : ℕ) (e : i ≡ before (sort_called (name_of text a)) (items_at text tape w b n)) where
  abbrev items : List Item
  items = items_at text tape w b n

  first_sort : first (is_called (name_of text a)) (sorts_among items) ≡ first (sort_called (name_of text a)) items
  unfolding sorts_among sort_called
  first_sort = first_keep (λ (x : Item). is_sort x.shape) (is_called (name_of text a)) items

  pub origin_there : i < n → origin_among items (name_of text a) ≡ some (row_origin text tape (row_at w (b + i * row_size)).origin)
  unfolding origin_among origin_of_item item_of
  origin_there h =
      let there : before (sort_called (name_of text a)) items < n = rw (← e) h in
      ap origin_of_item (first_sort ∙ first_row (sort_called (name_of text a)) text tape w b n there)
      ∙ ap (λ (j : ℕ). some (row_origin text tape (row_at w (b + j * row_size)).origin)) (sym e)

  pub origin_nowhere : n ≤ i → origin_among items (name_of text a) ≡ none
  unfolding origin_among origin_of_item
  origin_nowhere h = ap origin_of_item (first_sort ∙ no_row (sort_called (name_of text a)) text tape w b n (omega (arith, e)))
