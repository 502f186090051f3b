-- What the code that compares rows asks, one law for each way through it.
use mathlib.Core.Path.{◌≡◌, refl, sym, ap, ap₂, ◌∙◌}
use mathlib.Core.Bool.{Bool, true, false}
use mathlib.Core.List.{List}
use Prim.Native.Nat.{ℕ, ◌+◌, ◌-◌, ◌*◌}
use native.Mathlib.Omega.{arith}
use lib.Dec.{eqb, ltb, leb}
use lib.ListN.{get_or, take}
use borrow.Author.Rules.{rules}
use borrow.Author.Tests.{eq-eqb, ne_eqb, ltb-true, ltb-false, leb-true, leb-false}
use Rattle.std.specs.declared.cmp.Ordering.{Ordering}
use Rattle.std.specs.Ordering.{ordering_index, is_eq, is_lt, is_le}
use Rattle.meaning.specs.Lists.{pick}
use Rattle.meaning.specs.Names.{bytes_not_after, by_two}
use Rattle.meaning.specs.Origins.{Item, sort_shape, function_shape, variable_shape}
use Rattle.meaning.specs.Written.{origin_text, shape_text, shape_rank, standing_text, visible_order, hidden_order}
use Rattle.meaning.specs.ListingOrder.{place_order}
use Rattle.text_names.specs.Word.{name_of, no_name}
use Rattle.text_runs.specs.Orders.{compared, bytes_compared}
use Rattle.text_runs.specs.Codes.{index_eq, index_ne, index_lt}
use Rattle.form_sections.specs.declared.Section.{Section}
use Rattle.form_sections.specs.declared.Section.TheVariants as section
use Rattle.form_rows.specs.declared.Row.{Row}
use Rattle.form_rows.specs.Rows.{section_of, origin_of, type_of, sort_of, shape_of, item_of, row_at, row_size}
use Rattle.form.specs.declared.EquationRow.{EquationRow}
use Rattle.form.specs.Forms.{items_at, equation_row_at, equation_size}
use Rattle.form_order.specs.Ordered.{row_item}
use Rattle.list_order.specs.declared.Table.{Table}
use Rattle.list_order.specs.declared.Table.TheVariants.{Visible, Sorts, Hidden, Equations}
use Rattle.list_order.specs.declared.comparing.Order.{Order}
use Rattle.list_order.specs.declared.comparing.Order.TheVariants as order
use Rattle.list_terms.specs.Terms.{equation_at}
use Rattle.list_texts.specs.Parts.{line_size}
use Rattle.list_order.specs.Orders.{standing_word, kind_rank, by_name_then_type, by_kind_then_name, by_origin_then_type, row_place, by_position_then_line, item_order, row_order}
use Rattle.text_names.proofs.Compared.{bytes_told}

-- ---- by one thing, then by another

-- level by the comparison c: the second decides. The texts are the same by p, and the first is not after the second by q
level : (p q : Bool) (c : ℕ) (r s : Bool) → c ≡ pick p 1 (pick q 0 2) → c ≡ 1 → r ≡ s → r ≡ pick p s q
unfolding pick
level p q c r s e h f = f ∙ go p q (sym e ∙ h)
  where
    go : (p q : Bool) → ◌≡◌ {A = ℕ} (pick p 1 (pick q 0 2)) 1 → s ≡ pick p s q
    go true q g = refl
    go false true g = absurd (omega arith)
    go false false g = absurd (omega arith)

decided : (p q : Bool) (c : ℕ) (s : Bool) → c ≡ pick p 1 (pick q 0 2) → (c ≡ 1 → ⊥) → eqb c 0 ≡ pick p s q
unfolding pick
decided p q c s e h = ap (λ (k : ℕ). eqb k 0) e ∙ go p q (λ g. h (e ∙ g))
  where
    go : (p q : Bool) → (◌≡◌ {A = ℕ} (pick p 1 (pick q 0 2)) 1 → ⊥) → eqb (pick p 1 (pick q 0 2)) 0 ≡ pick p s q
    go true q g = absurd (g refl)
    go false true g = refl
    go false false g = refl

module _ (k l : ℕ) (s : Bool) where
  ranks_level : (r : Bool) → k ≡ l → r ≡ s → r ≡ pick (eqb k l) s (leb k l)
  unfolding pick
  ranks_level r h e = rw (eq-eqb k l h) e

  ranks_decided : (k ≡ l → ⊥) → ltb k l ≡ pick (eqb k l) s (leb k l)
  unfolding pick
  ranks_decided h = rw (ne_eqb k l h) (go (ltb k l) (leb k l) refl refl)
    where
      go : (p q : Bool) → ltb k l ≡ p → leb k l ≡ q → p ≡ q
      go true true e f = refl
      go true false e f = absurd (omega (arith, ltb-true k l e, leb-false k l f))
      go false true e f = absurd (h (omega (arith, ltb-false k l e, leb-true k l f)))
      go false false e f = refl

-- ---- parts of a row

module _ (text : List ℕ) where
  standing_told : (s : Section) → name_of text (standing_word s) ≡ standing_text (section_of text s)
  unfolding standing_word standing_text section_of
  standing_told section.Export = no_name text
  standing_told section.Hidden = no_name text
  standing_told (section.Parameter p) = refl

rank_told : (text tape : List ℕ) (k : ℕ) (sorts : List ℕ) → kind_rank k ≡ shape_rank (shape_of text tape k sorts)
unfolding kind_rank shape_rank shape_of pick
rank_told text tape k sorts = go (eqb k 0) (eqb k 1)
  where
    go : (p q : Bool) → pick p 0 (pick q 2 1)
        ≡ shape_rank (pick p sort_shape (pick q (variable_shape (sort_of text tape (get_or sorts 8 0))) (function_shape (type_of text tape (k - 2) sorts))))
    go true q = refl
    go false true = refl
    go false false = refl

module _ (k : ℕ) where
  pub rank_sort : k ≡ 0 → 0 ≡ kind_rank k
  unfolding kind_rank pick
  rank_sort h = rw h

  pub rank_variable : (k ≡ 0 → ⊥) → k ≡ 1 → 2 ≡ kind_rank k
  unfolding kind_rank pick
  rank_variable z h = rw h

  pub rank_function : (k ≡ 0 → ⊥) → (k ≡ 1 → ⊥) → 1 ≡ kind_rank k
  unfolding kind_rank pick
  rank_function z h = rw (ne_eqb k 0 z, ne_eqb k 1 h)

module _ (s : Section) where
  pub word_export : s ≡ section.Export → 0 ≡ standing_word s
  unfolding standing_word
  word_export e = rw e

  pub word_hidden : s ≡ section.Hidden → 0 ≡ standing_word s
  unfolding standing_word
  word_hidden e = rw e

  pub word_parameter : (p : ℕ) → s ≡ section.Parameter p → p ≡ standing_word s
  unfolding standing_word
  word_parameter p e = rw e

-- ---- items

module _ (text tape : List ℕ) (a b : Row) where
  abbrev one : Item
  one = item_of text tape a

  abbrev other : Item
  other = item_of text tape b

  module _ (o : Ordering) (ec : ordering_index o ≡ compared (name_of text a.name) (name_of text b.name)) (t : Bool) (et : t ≡ is_eq o) where
    pub names_level : (w : List ℕ) (r : Bool) → t ≡ true
        → r ≡ bytes_not_after (shape_text (items_at text tape w 0 0) (shape_of text tape a.kind a.sorts))
        (shape_text (items_at text tape w 0 0) (shape_of text tape b.kind b.sorts))
        → r ≡ by_name_then_type (item_of text tape a) (item_of text tape b)
    unfolding by_name_then_type by_two item_of items_at compared
    names_level w r h e = level _ _ (ordering_index o) r _ ec (index_eq o t et h) e

    pub names_decided : (r : Bool) → t ≡ false → r ≡ is_lt o → r ≡ by_name_then_type (item_of text tape a) (item_of text tape b)
    unfolding by_name_then_type by_two item_of compared
    names_decided r h e = e ∙ sym (index_lt o) ∙ decided _ _ (ordering_index o) _ ec (index_ne o t et h)

  module _ (k l : ℕ) (ek : k ≡ kind_rank a.kind) (el : l ≡ kind_rank b.kind) where
    first : k ≡ shape_rank one.shape
    unfolding item_of
    first = ek ∙ rank_told text tape a.kind a.sorts

    second : l ≡ shape_rank other.shape
    unfolding item_of
    second = el ∙ rank_told text tape b.kind b.sorts

    pub kinds_level : (r : Bool) → k ≡ l → r ≡ by_name_then_type (item_of text tape a) (item_of text tape b)
        → r ≡ by_kind_then_name (item_of text tape a) (item_of text tape b)
    unfolding by_kind_then_name
    kinds_level r h e = rw (← first, ← second) (ranks_level k l _ r h e)

    pub kinds_decided : (k ≡ l → ⊥) → ltb k l ≡ by_kind_then_name (item_of text tape a) (item_of text tape b)
    unfolding by_kind_then_name
    kinds_decided h = rw (← first, ← second) (ranks_decided k l _ h)

    pub hidden_level : (sorts : List Item) (r : Bool) → k ≡ l → r ≡ by_origin_then_type sorts (item_of text tape a) (item_of text tape b)
        → r ≡ hidden_order sorts (item_of text tape a) (item_of text tape b)
    unfolding hidden_order by_origin_then_type
    hidden_level sorts r h e = rw (← first, ← second) (ranks_level k l _ r h e)

    pub hidden_decided : (sorts : List Item) → (k ≡ l → ⊥) → ltb k l ≡ hidden_order sorts (item_of text tape a) (item_of text tape b)
    unfolding hidden_order
    hidden_decided sorts h = rw (← first, ← second) (ranks_decided k l _ h)

  module _ (x y : ℕ) (o : Ordering) (ex : x ≡ standing_word a.standing) (ey : y ≡ standing_word b.standing)
      (ec : ordering_index o ≡ compared (name_of text x) (name_of text y)) (t : Bool) (et : t ≡ is_eq o) where
    told : ordering_index o ≡ compared (standing_text one.standing) (standing_text other.standing)
    unfolding item_of
    told =
        ec
        ∙ ap₂ (λ (u v : List ℕ). compared u v) (ap (name_of text) ex ∙ standing_told text a.standing)
        (ap (name_of text) ey ∙ standing_told text b.standing)

    pub standing_level : (r : Bool) → t ≡ true → r ≡ by_kind_then_name (item_of text tape a) (item_of text tape b)
        → r ≡ visible_order (item_of text tape a) (item_of text tape b)
    unfolding visible_order by_kind_then_name by_name_then_type compared
    standing_level r h e = level _ _ (ordering_index o) r _ told (index_eq o t et h) e

    pub standing_decided : (r : Bool) → t ≡ false → r ≡ is_lt o → r ≡ visible_order (item_of text tape a) (item_of text tape b)
    unfolding visible_order compared
    standing_decided r h e = e ∙ sym (index_lt o) ∙ decided _ _ (ordering_index o) _ told (index_ne o t et h)

  module _ (sorts : List Item) (o : Ordering)
      (ec : ordering_index o ≡ bytes_compared (origin_text (origin_of text tape a.origin)) (origin_text (origin_of text tape b.origin)))
      (t : Bool) (et : t ≡ is_eq o) where
    pub origins_level : (r : Bool) → t ≡ true
        → r ≡ bytes_not_after (shape_text sorts (shape_of text tape a.kind a.sorts)) (shape_text sorts (shape_of text tape b.kind b.sorts))
        → r ≡ by_origin_then_type sorts (item_of text tape a) (item_of text tape b)
    unfolding by_origin_then_type by_two item_of bytes_compared
    origins_level r h e = level _ _ (ordering_index o) r _ ec (index_eq o t et h) e

    pub origins_decided : (r : Bool) → t ≡ false → r ≡ is_lt o → r ≡ by_origin_then_type sorts (item_of text tape a) (item_of text tape b)
    unfolding by_origin_then_type by_two item_of bytes_compared
    origins_decided r h e = e ∙ sym (index_lt o) ∙ decided _ _ (ordering_index o) _ ec (index_ne o t et h)

-- ---- equations

module _ (text w : List ℕ) (v n : ℕ) (a b : EquationRow) where
  pub positions_level : (r : Bool) → a.position ≡ b.position
      → r ≡ bytes_not_after (take line_size (equation_at text w v n a)) (take line_size (equation_at text w v n b))
      → r ≡ by_position_then_line (row_place text w v n a) (row_place text w v n b)
  unfolding by_position_then_line row_place
  positions_level r h e = ranks_level a.position b.position _ r h e

  pub positions_decided : (a.position ≡ b.position → ⊥) → ltb a.position b.position ≡ by_position_then_line (row_place text w v n a)
      (row_place text w v n b)
  unfolding by_position_then_line row_place
  positions_decided h = ranks_decided a.position b.position _ h

  pub homes_level : (r : Bool) → a.home ≡ b.home → r ≡ by_position_then_line (row_place text w v n a) (row_place text w v n b)
      → r ≡ place_order (row_place text w v n a) (row_place text w v n b)
  unfolding by_position_then_line place_order row_place
  homes_level r h e = ranks_level a.home b.home _ r h e

  pub homes_decided : (a.home ≡ b.home → ⊥) → ltb a.home b.home ≡ place_order (row_place text w v n a) (row_place text w v n b)
  unfolding place_order row_place
  homes_decided h = ranks_decided a.home b.home _ h

-- ---- rows of a table

module _ (by : Order) where
  module _ (text tape w : List ℕ) (base i j : ℕ) (a b : Row) (ea : a ≡ row_at w (base + i * row_size)) (eb : b ≡ row_at w (base + j * row_size)) where
    pub visible_read : (r : Bool) → by ≡ order.Visible → r ≡ visible_order (item_of text tape a) (item_of text tape b)
        → r ≡ item_order text tape w by (row_item text tape w base i) (row_item text tape w base j)
    unfolding item_order
    visible_read r k e = rw (k, ← ea, ← eb) e

    pub sorts_read : (o : Ordering) (r : Bool) → by ≡ order.Sorts → r ≡ is_le o
        → ordering_index o ≡ bytes_compared (origin_text (origin_of text tape a.origin)) (origin_text (origin_of text tape b.origin))
        → r ≡ item_order text tape w by (row_item text tape w base i) (row_item text tape w base j)
    unfolding item_of item_order
    sorts_read o r k g e = rw (k, ← ea, ← eb) (bytes_told _ _ o r g e)

    pub hidden_read : (s n : ℕ) (r : Bool) → by ≡ order.Hidden s n → r ≡ hidden_order (items_at text tape w s n) (item_of text tape a) (item_of text tape b)
        → r ≡ item_order text tape w by (row_item text tape w base i) (row_item text tape w base j)
    unfolding item_order
    hidden_read s n r k e = rw (k, ← ea, ← eb) e

-- ---- whichever table it is

module _ (table : Table) where
  module _ (text tape w : List ℕ) (i j : ℕ) (r : Bool) where
    pub of_visible : (b : ℕ) → table ≡ Visible b → r ≡ item_order text tape w order.Visible (row_item text tape w b i) (row_item text tape w b j)
        → r ≡ row_order text tape w table i j
    unfolding row_order item_order
    of_visible b e h = rw e h

    pub of_sorts : (b : ℕ) → table ≡ Sorts b → r ≡ item_order text tape w order.Sorts (row_item text tape w b i) (row_item text tape w b j)
        → r ≡ row_order text tape w table i j
    unfolding row_order item_order
    of_sorts b e h = rw e h

    pub of_hidden : (b s n : ℕ) → table ≡ Hidden b s n → r ≡ item_order text tape w (order.Hidden s n) (row_item text tape w b i) (row_item text tape w b j)
        → r ≡ row_order text tape w table i j
    unfolding row_order item_order
    of_hidden b s n e h = rw e h

    pub of_equations : (v b n : ℕ) → table ≡ Equations v b n
        → r ≡ place_order (row_place text w v n (equation_row_at w (b + i * equation_size))) (row_place text w v n (equation_row_at w (b + j * equation_size)))
        → r ≡ row_order text tape w table i j
    unfolding row_order
    of_equations v b n e h = rw e h

pub ruleset words = (word_export, word_hidden, word_parameter, rank_sort, rank_variable, rank_function)

pub ruleset levels = (names_level, kinds_level, standing_level, origins_level, hidden_level, positions_level, homes_level)

pub ruleset decisions = (names_decided, kinds_decided, standing_decided, origins_decided, hidden_decided, positions_decided, homes_decided)

pub ruleset readings = (visible_read, sorts_read, hidden_read, of_visible, of_sorts, of_hidden, of_equations)

pub ruleset cases = (words, levels, decisions, readings, rules)
