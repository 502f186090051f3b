-- One law for each way through the code, in the code's terms: p is where the pen stands before, q after.
use mathlib.Core.Path.{◌≡◌, refl}
use mathlib.Core.Bool.{Bool, true, false}
use mathlib.Core.List.{List, [], ◌++◌}
use Prim.Native.Nat.{ℕ, ◌-◌}
use borrow.Author.Rules.{rules}
use borrow.Author.Tests.{eq-eqb, ne_eqb}
use lib.Dec.{eqb}
use lib.ListN.{get_or}
use Rattle.meaning.specs.Lists.{pick}
use Rattle.meaning.specs.Names.{bytes}
use Rattle.meaning.specs.Origins.{sort_shape, function_shape, variable_shape, Item}
use Rattle.meaning.specs.Written.{shape_text}
use Rattle.text_names.specs.Word.{name_of}
use Rattle.form_rows.specs.declared.Row.{Row}
use Rattle.form_rows.specs.Rows.{origin_of, sort_of, type_of, shape_of, item_of}
use Rattle.form.specs.Forms.{items_at}
use Rattle.list_pen.specs.Pen.{Pen, written}
use Rattle.list_pen.proofs.Laws.{then}
use Rattle.list_lines.specs.Lines.{line_of, origin_line_of, key_of, key_by, rest_of, item_text}

-- the kind tells the key
key_told : (text tape : List ℕ) (kind : ℕ) (sorts s f : List ℕ) → key_by s f (shape_of text tape kind sorts) ≡ key_of kind s f
unfolding shape_of key_by key_of pick
key_told text tape kind sorts s f = go (eqb kind 0) (eqb kind 1)
  where
    go : (a b : Bool)
        → key_by s f (pick a sort_shape (pick b (variable_shape (sort_of text tape (get_or sorts 8 0))) (function_shape (type_of text tape (kind - 2) sorts))))
        ≡ pick a s (pick b (bytes "variable") f)
    go true b = refl
    go false true = refl
    go false false = refl

module _ (l : ℕ) (p q : Pen) where
  -- ---- lines
  pub line_done : (key value : List ℕ) (a b c : Pen) → a ≡ written l key p → b ≡ written l (bytes "=") a → c ≡ written l value b
      → q ≡ written l (bytes "\n") c → q ≡ written l (line_of key value) p
  unfolding line_of
  line_done key value a b c e f g h =
      then l key (bytes "=" ++ (value ++ bytes "\n")) p a q e
      (then l (bytes "=") (value ++ bytes "\n") a b q f (then l value (bytes "\n") b c q g h))

  pub key_sort : (kind : ℕ) (s f : List ℕ) → kind ≡ 0 → q ≡ written l s p → q ≡ written l (key_of kind s f) p
  unfolding key_of pick
  key_sort kind s f z e = rw (eq-eqb kind 0 z) e

  pub key_variable : (kind : ℕ) (s f : List ℕ) → (kind ≡ 0 → ⊥) → kind ≡ 1 → q ≡ written l (bytes "variable") p → q ≡ written l (key_of kind s f) p
  unfolding key_of pick
  key_variable kind s f y z e = rw (ne_eqb kind 0 y, eq-eqb kind 1 z) e

  pub key_function : (kind : ℕ) (s f : List ℕ) → (kind ≡ 0 → ⊥) → (kind ≡ 1 → ⊥) → q ≡ written l f p → q ≡ written l (key_of kind s f) p
  unfolding key_of pick
  key_function kind s f y z e = rw (ne_eqb kind 0 y, ne_eqb kind 1 z) e

  -- ---- items
  module _ (text tape : List ℕ) where
    pub rest_done : (hidden : List Item) (row : Row) (a b : Pen) → a ≡ written l (shape_text hidden (shape_of text tape row.kind row.sorts)) p
        → b ≡ written l (bytes "\n") a → q ≡ written l (origin_line_of (origin_of text tape row.origin)) b
        → q ≡ written l (rest_of hidden (item_of text tape row)) p
    unfolding rest_of item_of
    rest_done hidden row a b e f g =
        let shape = shape_text hidden (shape_of text tape row.kind row.sorts) in
        let origin = origin_line_of (origin_of text tape row.origin) in
        then l shape (bytes "\n" ++ origin) p a q e (then l (bytes "\n") origin a b q f g)

    pub item_done : (s f called : List ℕ) (hidden : List Item) (row : Row) (a b c : Pen) → a ≡ written l (key_of row.kind s f) p
        → b ≡ written l (bytes "=") a → c ≡ written l called b → q ≡ written l (rest_of hidden (item_of text tape row)) c
        → q ≡ written l (item_text s f called hidden (item_of text tape row)) p
    unfolding item_text item_of
    item_done s f called hidden row a b c e g h k =
        let rest = rest_of hidden (item_of text tape row) in
        rw (key_told text tape row.kind row.sorts s f)
        (then l (key_of row.kind s f) (bytes "=" ++ (called ++ rest)) p a q e
        (then l (bytes "=") (called ++ rest) a b q g (then l called rest b c q h k)))

    pub visible_done : (s f : List ℕ) (row : Row) (a b c : Pen) → a ≡ written l (key_of row.kind s f) p → b ≡ written l (bytes "=") a
        → c ≡ written l (name_of text row.name) b → q ≡ written l (rest_of (items_at text tape tape 0 0) (item_of text tape row)) c
        → q ≡ written l (item_text s f (name_of text row.name) [] (item_of text tape row)) p
    unfolding items_at
    visible_done s f row a b c e g h k = item_done s f (name_of text row.name) [] row a b c e g h k

pub ruleset cases = (line_done, key_sort, key_variable, key_function, rest_done, item_done, visible_done, then, rules)
