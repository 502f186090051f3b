-- Rows of s words copied in the order of an order table, which stands at place `order`, and notes of where each row went.
use Rattle.std.specs.Prelude.{◌≡◌, Bool, true, false, List, [], ◌∷◌, ℕ, suc, ◌+◌, ◌*◌, ◌≤◌, ◌<◌, get_or}
use Rattle.std.proofs.Common.{suc-mul, mul-le-mul_right, arith}
use Rattle.meaning.specs.Lists.{pick, keep}
use Rattle.meaning.specs.OrderLaws.{Every, sorted_rearranged, rearranged_every}
use Rattle.form_rows.specs.Rows.{words_from, row_size}
use Rattle.form.specs.Memory.{part, Kept, KeptTwo}
use Rattle.form.specs.FormLaws.{Apart}
use Rattle.form_order.specs.Order.{upto}
use Rattle.form_order.specs.Sorting.{below_upto, every_word}
use Rattle.list_order.specs.declared.Table.{Table}
use Rattle.list_order.specs.Orders.{row_order, is_listed}
use Rattle.list_order.specs.Tables.{row_numbers, InRows}

-- ---- one row

-- the row at b has room, and lies apart from the row at a
pub record RowRoom (size a b s : ℕ) : Type 0 where
  pub width : s ≤ row_size
  pub room : b + s ≤ size
  pub apart : Apart b (b + s) a (a + s)

pub record RowCopied (a b s : ℕ) (w w' : List ℕ) : Type 0 where
  pub kept : Kept b (b + s) w w'
  pub words : (j : ℕ) → j < s → get_or w' (b + j) 0 ≡ get_or w (a + j) 0

-- ---- rows

-- the m words from p on are numbers below n
pub record Numbers (w : List ℕ) (p m n : ℕ) : Type 0 where
  pub below : (i : ℕ) → i < m → get_or w (p + i) 0 < n

-- m rows at `to` have room, and lie apart from the n rows at `from` and from the order table
pub record CopyRoom (size from n order m to s : ℕ) : Type 0 where
  pub width : s ≤ row_size
  pub room : to + m * s ≤ size
  pub apart : Apart to (to + m * s) from (from + n * s)
  pub table : Apart to (to + m * s) order (order + m)

-- the row whose number stands i-th in the order table, if it is one of the n
pub record NumberedCopied (from n order to s i : ℕ) (w w' : List ℕ) : Type 0 where
  pub kept : Kept (to + i * s) (to + i * s + s) w w'
  pub words : get_or w (order + i) 0 < n → (j : ℕ) → j < s → get_or w' (to + i * s + j) 0 ≡ get_or w (from + get_or w (order + i) 0 * s + j) 0

pub record RowsCopied (from n order m to s : ℕ) (w w' : List ℕ) : Type 0 where
  pub kept : Kept to (to + m * s) w w'
  pub rows : (i j : ℕ) → i < m → get_or w (order + i) 0 < n → j < s → get_or w' (to + i * s + j) 0 ≡ get_or w (from + get_or w (order + i) 0 * s + j) 0

-- a row lies within its table
pub row_within : (i m s : ℕ) → i < m → i * s + s ≤ m * s
row_within i m s h = let k : suc i * s ≤ m * s = mul-le-mul_right s h in omega (arith, suc-mul i s)

-- ---- notes

pub record NoteRoom (size order m notes n : ℕ) : Type 0 where
  pub room : notes + n ≤ size
  pub table : notes + n ≤ order

-- one note, if the number is one of the n
pub record NotePut (order notes n i : ℕ) (w w' : List ℕ) : Type 0 where
  pub kept : Kept notes (notes + n) w w'
  pub others : (r : ℕ) → r < n → (r ≡ get_or w (order + i) 0 → ⊥) → get_or w' (notes + r) 0 ≡ get_or w (notes + r) 0
  pub here : get_or w (order + i) 0 < n → get_or w' (notes + get_or w (order + i) 0) 0 ≡ i

-- the note of row r tells a place of the order table where it stands
pub record PlaceNoted (w w' : List ℕ) (order m notes r : ℕ) : Type 0 where
  pub inside : get_or w' (notes + r) 0 < m
  pub there : get_or w (order + get_or w' (notes + r) 0) 0 ≡ r

pub record NotesPut (order m notes n : ℕ) (w w' : List ℕ) : Type 0 where
  pub kept : Kept notes (notes + n) w w'
  pub noted : (i : ℕ) → i < m → get_or w (order + i) 0 < n → PlaceNoted w w' order m notes (get_or w (order + i) 0)

-- ---- a table in order

-- rows from `from` and rows to `to` stand in front of the order table, and apart
pub record SortRoom (size t from n order to s : ℕ) : Type 0 where
  pub width : s ≤ row_size
  pub tape : t ≤ order
  pub table : order + n ≤ size
  pub source : from + n * s ≤ order
  pub target : to + n * s ≤ order
  pub apart : Apart to (to + n * s) from (from + n * s)

-- m rows at `to` are those whose numbers stand in the order table, and these are the numbers of the table's rows in order
pub record Arranged (text : List ℕ) (t : ℕ) (table : Table) (from n order to s m : ℕ) (w w' : List ℕ) : Type 0 where
  pub few : m ≤ n
  pub numbers : words_from w' order m ≡ row_numbers text (part w 0 t) (part w 0 order) table n
  pub rows : (i j : ℕ) → i < m → j < s → get_or w' (to + i * s + j) 0 ≡ get_or w (from + get_or w' (order + i) 0 * s + j) 0
  pub below : (i : ℕ) → i < m → get_or w' (order + i) 0 < n

pub record TableSorted (text : List ℕ) (t : ℕ) (table : Table) (from n order to s m : ℕ) (w w' : List ℕ) : Type 0 where
  pub arranged : Arranged text t table from n order to s m w w'
  pub kept : KeptTwo to (to + n * s) order (order + n) w w'

-- items in order, with notes, which stand in front of the order table and behind both tables
pub record NotedRoom (size t from n order to notes : ℕ) : Type 0 where
  pub sorting : SortRoom size t from n order to row_size
  pub source : from + n * row_size ≤ notes
  pub target : to + n * row_size ≤ notes
  pub before : notes + n ≤ order

pub record TableNoted (text : List ℕ) (t : ℕ) (table : Table) (from n order to notes m : ℕ) (w w' : List ℕ) : Type 0 where
  pub arranged : Arranged text t table from n order to row_size m w w'
  pub noted : (i : ℕ) → i < m → PlaceNoted w' w' order m notes (get_or w' (order + i) 0)
  pub kept : KeptTwo to (to + n * row_size) notes (order + n) w w'

-- ---- the numbers of an order table are numbers of rows

keep_every : {A : Type 0} (P : A → Type 0) (f : A → Bool) (xs : List A) → Every P xs → Every P (keep f xs)
unfolding keep pick
keep_every P f [] h = tt
keep_every {A} P f (x ∷ xs) h = go (f x) (keep_every P f xs h.1)
  where
    go : (b : Bool) → Every P (keep f xs) → Every P (pick b (x ∷ keep f xs) (keep f xs))
    go true k = (h.0, k)
    go false k = k

pub numbers_below : (text tape low : List ℕ) (table : Table) (n : ℕ) → Every (λ k. k < n) (row_numbers text tape low table n)
unfolding row_numbers
numbers_below text tape low table n =
    rearranged_every (λ k. k < n) (sorted_rearranged (row_order text tape low table) (keep (is_listed low table) (upto n)))
    (keep_every (λ k. k < n) (is_listed low table) (upto n) (below_upto n))

pub rows_below : (text tape low w : List ℕ) (table : Table) (p n m : ℕ) → InRows text tape low w table p n m → Numbers w p m n
rows_below text tape low w table p n m rows = record {
  below = λ i h. every_word (λ k. k < n) w p m i (rw rows.words (numbers_below text tape low table n)) h;
}
