-- What the parts of a form are written as is the text of the meaning's lines.
use Rattle.std.proofs.Math.Path.{◌≡◌, refl, sym, ap, ap₂}
use Rattle.std.proofs.Common.{◌∙◌}
use Prim.Native.Nat.{ℕ, zero, suc, ◌+◌, ◌*◌}
use Prim.Native.String.{String}
use native.Mathlib.Omega.{arith}
use Rattle.std.proofs.Math.Bool.{Bool}
use Rattle.std.specs.Prelude.{true, false, get_or}
use mathlib.Core.List.{List, [], ◌∷◌, ◌++◌, append-nil, append_assoc}
use Rattle.meaning.specs.Lists.{pick, keep, each}
use Rattle.meaning.specs.Names.{bytes, Name}
use Rattle.meaning.specs.Origins.{Section, export_section, hidden_section, parameter_section, same_section, Shape, sort_shape, function_shape, variable_shape, Item, in_parameter}
use Rattle.meaning.specs.Normal.{slot_names, formals}
use Rattle.meaning.specs.Written.{numbered, shape_text}
use Rattle.meaning.specs.Listing.{Line, line_text, lines_text, origin_line, kind_key, item_line, exported_lines, formal_lines, is_exported, parameter_lines, visible_lines, hidden_item_lines}
use Rattle.text_names.specs.Word.{name_of}
use Rattle.form_rows.specs.Rows.{item_of, row_at, row_size}
use Rattle.form.specs.declared.Form.{Form}
use Rattle.form.specs.Forms.{slot_at, slots_at, items_at, visible_at, slot_size}
use Rattle.list_pen.specs.Pen.{rows_text}
use Rattle.list_lines.specs.Lines.{line_of, origin_line_of, key_by, rest_of, item_text}
use Rattle.list_parts.specs.Lines.{standing_row, standing_text, formals_text, parameter_row, hidden_row, visible_text}

-- ---- lines one after the other

each_append : {A B : Type 0} (f : A → List B) (xs ys : List A) → each f (xs ++ ys) ≡ each f xs ++ each f ys
unfolding each
each_append f [] ys = refl
each_append {A} {B} f (x ∷ xs) ys = ap (λ (r : List B). f x ++ r) (each_append f xs ys) ∙ sym (append_assoc (f x) (each f xs) (each f ys))

pub lines_append : (xs ys : List Line) → lines_text (xs ++ ys) ≡ lines_text xs ++ lines_text ys
unfolding lines_text
lines_append xs ys = each_append line_text xs ys

lines_each : {A : Type 0} (f : A → List Line) (xs : List A) → lines_text (each f xs) ≡ each (λ (x : A). lines_text (f x)) xs
unfolding each lines_text
lines_each f [] = refl
lines_each f (x ∷ xs) = lines_append (f x) (each f xs) ∙ ap (λ (r : List ℕ). lines_text (f x) ++ r) (lines_each f xs)

-- a line before others
pub line_before : (key value : List ℕ) (ls : List Line) → line_of key value ++ lines_text ls ≡ lines_text (record { key = key; value = value } ∷ ls)
unfolding line_of lines_text line_text each
line_before key value ls = refl

pub line_alone : (key value : List ℕ) → line_of key value ≡ lines_text (record { key = key; value = value } ∷ [])
unfolding lines_text each
line_alone key value = sym (append-nil (line_of key value)) ∙ line_before key value []

each_kept : {A : Type 0} (p : A → Bool) (f : A → List ℕ) (xs : List A) → each (λ (x : A). pick (p x) (f x) []) xs ≡ each f (keep p xs)
unfolding each keep pick
each_kept p f [] = refl
each_kept {A} p f (x ∷ xs) = go (p x) (each_kept p f xs)
  where
    go : (b : Bool) → each (λ (y : A). pick (p y) (f y) []) xs ≡ each f (keep p xs)
        → pick b (f x) [] ++ each (λ (y : A). pick (p y) (f y) []) xs ≡ each f (pick b (x ∷ keep p xs) (keep p xs))
    go true e = ap (λ (r : List ℕ). f x ++ r) e
    go false e = e

each_so : {A : Type 0} (f g : A → List ℕ) (xs : List A) → ((x : A) → f x ≡ g x) → each f xs ≡ each g xs
each_so f g xs h = ap (λ k. each k xs) (λ i x. h x i)

-- ---- the two lines of an item

joined : (key called shape origin : List ℕ)
    → key ++ (bytes "=" ++ (called ++ (shape ++ (bytes "\n" ++ origin)))) ≡ (key ++ (bytes "=" ++ ((called ++ shape) ++ bytes "\n"))) ++ (origin ++ [])
joined key called shape origin =
    sym (append_assoc key (bytes "=" ++ ((called ++ shape) ++ bytes "\n")) (origin ++ [])
    ∙ ap (λ (r : List ℕ). key ++ (bytes "=" ++ r))
    (append_assoc (called ++ shape) (bytes "\n") (origin ++ []) ∙ append_assoc called shape (bytes "\n" ++ (origin ++ []))
    ∙ ap (λ (r : List ℕ). called ++ (shape ++ (bytes "\n" ++ r))) (append-nil origin)))

key_told : (s f : String) (i : Shape) → key_by (bytes s) (bytes f) i ≡ kind_key s f "variable" i
unfolding key_by kind_key
key_told s f sort_shape = refl
key_told s f (function_shape t) = refl
key_told s f (variable_shape r) = refl

abbrev item_lines : (s f : String) (called : List ℕ) → List Item → Item → List Line
item_lines s f called hidden i = item_line (kind_key s f "variable" i.shape) called hidden i.shape ∷ origin_line i.origin ∷ []

item_told : (s f : String) (called : List ℕ) (hidden : List Item) (i : Item)
    → item_text (bytes s) (bytes f) called hidden i ≡ lines_text (item_lines s f called hidden i)
unfolding item_text rest_of origin_line_of line_of lines_text line_text origin_line each
item_told s f called hidden i =
    rw (key_told s f i.shape) (joined (kind_key s f "variable" i.shape) called (shape_text hidden i.shape) (origin_line_of i.origin))

exported_told : (i : Item) → item_text (bytes "sort") (bytes "function") i.name [] i ≡ lines_text (exported_lines i)
unfolding exported_lines
exported_told i = item_told "sort" "function" i.name [] i

formal_told : (i : Item) → item_text (bytes "parameter-sort") (bytes "parameter-function") i.name [] i ≡ lines_text (formal_lines i)
unfolding formal_lines
formal_told i = item_told "parameter-sort" "parameter-function" i.name [] i

-- ---- where an item stands

export_told : (s : Section) → same_section export_section s ≡ is_exported s
unfolding same_section is_exported
export_told export_section = refl
export_told hidden_section = refl
export_told (parameter_section p) = refl

parameter_told : (p : Name) (s : Section) → same_section (parameter_section p) s ≡ in_parameter p s
unfolding same_section in_parameter
parameter_told p export_section = refl
parameter_told p hidden_section = refl
parameter_told p (parameter_section q) = refl

-- ---- rows

-- what is written for each row of s words from b on, by what the rows stand for
module _ {A : Type 0} (s : ℕ) (at : ℕ → A) (table : ℕ → ℕ → List A) (none : (b : ℕ) → table b 0 ≡ [])
    (more : (b n : ℕ) → table b (suc n) ≡ at b ∷ table (b + s) n) (g : A → List ℕ) (b : ℕ) where
  rows_from : (i n : ℕ) → rows_text (λ (j : ℕ). g (at (b + j * s))) i n ≡ each g (table (b + i * s) n)
  unfolding rows_text each
  rows_from i zero = sym (ap (each g) (none (b + i * s)))
  rows_from i (suc n) =
      let next : b + (i + 1) * s ≡ b + i * s + s = omega arith in
      ap (λ (r : List ℕ). g (at (b + i * s)) ++ r) (rows_from (i + 1) n ∙ ap (λ (c : ℕ). each g (table c n)) next)
      ∙ sym (ap (each g) (more (b + i * s) n))

  rows_told : (n : ℕ) → rows_text (λ (j : ℕ). g (at (b + j * s))) 0 n ≡ each g (table b n)
  rows_told n = let first : b + 0 * s ≡ b = omega arith in rows_from 0 n ∙ ap (λ (c : ℕ). each g (table c n)) first

module _ (text tape w : List ℕ) where
  -- items that stand in a section, by the lines of each
  standing_told : (b c : ℕ) (section : Section) (s f : List ℕ) (there : Section → Bool) (lines : Item → List Line)
      → ((t : Section) → same_section section t ≡ there t) → ((i : Item) → item_text s f i.name [] i ≡ lines_text (lines i))
      → standing_text text tape w b c section s f ≡ lines_text (each lines (keep (λ (i : Item). there i.standing) (items_at text tape w b c)))
  unfolding standing_text standing_row items_at
  standing_told b c section s f there lines h k =
      let xs = items_at text tape w b c in
      let texts : Item → List ℕ = λ (i : Item). item_text s f i.name [] i in
      let test : Item → Bool = λ (i : Item). same_section section i.standing in
      let tests : ◌≡◌ {A = Item → Bool} test (λ (i : Item). there i.standing) = λ j i. h i.standing j in
      rows_told row_size (λ p. item_of text tape (row_at w p)) (items_at text tape w) (λ p. refl) (λ p n. refl) (λ (i : Item). pick (test i) (texts i) []) b c
      ∙ each_kept test texts xs
      ∙ ap (λ (p : Item → Bool). each texts (keep p xs)) tests
      ∙ each_so texts (λ (i : Item). lines_text (lines i)) (keep (λ (i : Item). there i.standing) xs) k
      ∙ sym (lines_each lines (keep (λ (i : Item). there i.standing) xs))

  module _ (f : Form) where
    formals_told : (p : Name) → formals_text text tape w f p ≡ lines_text (parameter_lines (visible_at text tape w f) p)
    unfolding formals_text parameter_lines formals visible_at
    formals_told p =
        let xs = items_at text tape w f.visible f.visible_count in
        ap (λ (r : List ℕ). line_of (bytes "parameter") p ++ r)
        (standing_told f.visible f.visible_count (parameter_section p) (bytes "parameter-sort") (bytes "parameter-function") (in_parameter p)
        formal_lines (parameter_told p) formal_told)
        ∙ line_before (bytes "parameter") p (each formal_lines (keep (λ (i : Item). in_parameter p i.standing) xs))

    abbrev names : List Name
    names = slot_names (slots_at text w f.parameters f.parameter_count)

    parameters_told : rows_text (parameter_row text tape w f) 0 f.parameter_count
        ≡ lines_text (each (parameter_lines (visible_at text tape w f)) names)
    unfolding parameter_row slot_names slots_at slot_at
    parameters_told =
        let v = visible_at text tape w f in
        rows_told slot_size (λ p. name_of text (get_or w p 0)) (λ p n. slot_names (slots_at text w p n)) (λ p. refl) (λ p n. refl) (formals_text text tape w f)
        f.parameters f.parameter_count
        ∙ each_so (formals_text text tape w f) (λ (p : Name). lines_text (parameter_lines v p)) names formals_told
        ∙ sym (lines_each (parameter_lines v) names)

    -- what is visible
    pub visible_meant : visible_text text tape w f ≡ lines_text (visible_lines (visible_at text tape w f))
    unfolding visible_text visible_lines visible_at
    visible_meant =
        let xs = items_at text tape w f.visible f.visible_count in
        ap₂ ◌++◌
        (standing_told f.visible f.visible_count export_section (bytes "sort") (bytes "function") is_exported exported_lines export_told exported_told)
        parameters_told
        ∙ sym (lines_append (each exported_lines (keep (λ (i : Item). is_exported i.standing) xs))
        (each (parameter_lines (visible_at text tape w f)) names))

  -- hidden items: c rows from b on
  abbrev hidden_lines_at : ℕ → ℕ → ℕ → List Line
  hidden_lines_at b c i =
      item_lines "hidden-sort" "hidden-function" (numbered (i + 1)) (items_at text tape w b c) (item_of text tape (row_at w (b + i * row_size)))

  hidden_told : (b c i : ℕ) → hidden_row text tape w b c i ≡ lines_text (hidden_lines_at b c i)
  unfolding hidden_row
  hidden_told b c i = item_told "hidden-sort" "hidden-function" (numbered (i + 1)) (items_at text tape w b c) (item_of text tape (row_at w (b + i * row_size)))

  -- n of them from row i on
  pub hidden_items_meant : (b c i n : ℕ)
      → rows_text (hidden_row text tape w b c) i n
      ≡ lines_text (hidden_item_lines (items_at text tape w b c) (i + 1) (items_at text tape w (b + i * row_size) n))
  unfolding rows_text items_at hidden_item_lines lines_text each
  hidden_items_meant b c i zero = refl
  hidden_items_meant b c i (suc n) =
      let hidden = items_at text tape w b c in
      let more = items_at text tape w (b + i * row_size + row_size) n in
      let next : b + (i + 1) * row_size ≡ b + i * row_size + row_size = omega arith in
      ap₂ ◌++◌ (hidden_told b c i)
      (hidden_items_meant b c (i + 1) n ∙ ap (λ (a : ℕ). lines_text (hidden_item_lines hidden (i + 1 + 1) (items_at text tape w a n))) next)
      ∙ sym (lines_append (hidden_lines_at b c i) (hidden_item_lines hidden (i + 1 + 1) more))
