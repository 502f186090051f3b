-- Laws of the search for a formal item, in the code's terms: the tests on one row, and the loop over the rows.
use mathlib.Core.Path.{◌≡◌, refl, sym, ◌∙◌}
use mathlib.Core.Bool.{Bool, true, false, ◌&&◌}
use mathlib.Core.List.{List, [], ◌∷◌}
use Prim.Native.Nat.{ℕ, ◌+◌, ◌*◌, ◌<◌, ◌≤◌}
use lib.Dec.{eqb}
use lib.ListN.{get_or}
use borrow.Author.Rules.{rules}
use borrow.Author.Tests.{eq-eqb, ne_eqb}
use Rattle.meaning.specs.Lists.{pick, keep, any}
use Rattle.meaning.specs.Names.{Name, same}
use Rattle.meaning.specs.Origins.{same_section, Shape, same_shape, is_sort, Item, in_parameter}
use Rattle.meaning.specs.Normal.{sorts_among, is_called}
use Rattle.meaning.specs.Clauses.{is_formal_sort}
use Rattle.text_names.specs.Word.{name_of}
use Rattle.form_sections.specs.declared.Section.{Section}
use Rattle.form_sections.specs.declared.Section.TheVariants.{Export, Hidden, Parameter}
use Rattle.form_sections.specs.Sections.{word_section}
use Rattle.form_rows.specs.declared.Row.{Row}
use Rattle.form_rows.specs.Rows.{section_of, shape_of, item_of, row_at, row_size}
use Rattle.form.specs.Forms.{items_at}
use Rattle.form_walks.specs.Lists.{any_keep}
use Rattle.form_walks.specs.Shapes.{is_sort_kind}
use Rattle.form_walks.specs.Rows.{Finding, find_start, nowhere, find_again, somewhere}
use Rattle.clause_translation.specs.Translation.{formals_at}
use Rattle.clause_translation.specs.Moved.{formal_sort, formal_function, is_formal_function}

-- ---- one row

pub standing_told : (text : List ℕ) (p : ℕ) (s : Section) (r : Bool) → r ≡ same_section (section_of text (Parameter p)) (section_of text s)
    → r ≡ in_parameter (name_of text p) (section_of text s)
unfolding same_section section_of in_parameter
standing_told text p Export r e = e
standing_told text p Hidden r e = e
standing_told text p (Parameter q) r e = e

-- row i of a table, by the words of its kind, its section and its name
module _ (text tape w : List ℕ) (b i p a kind : ℕ) (e : kind ≡ get_or w (b + i * row_size + 2) 0) where
  abbrev row : Row
  row = row_at w (b + i * row_size)

  abbrev wanted : Bool
  wanted = formal_sort (name_of text p) (name_of text a) (item_of text tape row)

  sort_here : is_sort (shape_of text tape row.kind row.sorts) ≡ eqb kind 0
  unfolding row_at
  sort_here = rw e (is_sort_kind text tape row.kind row.sorts)

  pub such_no_sort : (kind ≡ 0 → ⊥) → false ≡ wanted
  unfolding formal_sort item_of pick
  such_no_sort h = rw (sort_here, ne_eqb kind 0 h)

  module _ (h : kind ≡ 0) (v : ℕ) (f : v ≡ get_or w (b + i * row_size) 0) (s : Section) (g : s ≡ word_section v) (c : Bool)
      (k : c ≡ in_parameter (name_of text p) (section_of text s)) where
    inside_here : in_parameter (name_of text p) (section_of text row.standing) ≡ c
    unfolding row_at
    inside_here = sym (rw (g, f) at k)

    pub such_sort : (n : ℕ) (r : Bool) → n ≡ get_or w (b + i * row_size + 1) 0 → c ≡ true → r ≡ same (name_of text a) (name_of text n) → r ≡ wanted
    unfolding formal_sort item_of row_at pick
    such_sort n r l q o = rw (sort_here, eq-eqb kind 0 h, inside_here, q) (rw l at o)

    pub such_elsewhere : c ≡ false → false ≡ wanted
    unfolding formal_sort item_of pick
    such_elsewhere q = rw (sort_here, eq-eqb kind 0 h, inside_here, q)

module _ (text tape w : List ℕ) (p k : ℕ) (x y : Row) (e : y ≡ row_at w k) (b : Bool)
    (f : b ≡ in_parameter (name_of text p) (section_of text y.standing)) where
  abbrev like : Bool
  like = formal_function (name_of text p) (name_of text x.name) (shape_of text tape x.kind x.sorts) (item_of text tape (row_at w k))

  pub like_elsewhere : b ≡ false → false ≡ like
  unfolding formal_function item_of pick
  like_elsewhere h = rw (← e, ← f, h)

  module _ (h : b ≡ true) (c : Bool) (g : c ≡ same (name_of text x.name) (name_of text y.name)) where
    pub like_other : c ≡ false → false ≡ like
    unfolding formal_function item_of is_called pick
    like_other q = rw (← e, ← f, h, ← g, q)

    pub like_shaped : (r : Bool) → c ≡ true → r ≡ same_shape (shape_of text tape x.kind x.sorts) (shape_of text tape y.kind y.sorts) → r ≡ like
    unfolding formal_function item_of is_called pick
    like_shaped r q o = rw (← e, ← f, h, ← g, q) o

-- ---- what is sought

any_same : {A : Type 0} (p q : A → Bool) → ((x : A) → p x ≡ q x) → (xs : List A) → any p xs ≡ any q xs
unfolding any
any_same p q h [] = refl
any_same p q h (x ∷ xs) = rw (h x, any_same p q h xs)

-- the tests that stand one behind the other in the definition are one
sort_test : (p a : Name) (i : Item) → pick (in_parameter p i.standing) (pick (is_sort i.shape) (is_called a i) false) false ≡ formal_sort p a i
unfolding formal_sort is_called pick
sort_test p a i = go (in_parameter p i.standing) (is_sort i.shape)
  where
    go : (x y : Bool) → pick x (pick y (same a i.name) false) false ≡ pick y (pick x (same a i.name) false) false
    go true true = refl
    go true false = refl
    go false true = refl
    go false false = refl

module _ (text tape w : List ℕ) (b n p a : ℕ) where
  abbrev rows : List Item
  rows = items_at text tape w b n

  abbrev inside : Item → Bool
  inside i = in_parameter (name_of text p) i.standing

  abbrev sort_asked : Bool
  sort_asked = any (formal_sort (name_of text p) (name_of text a)) rows

  sorts_asked : is_formal_sort (formals_at text tape w b n (name_of text p)) (name_of text a) ≡ sort_asked
  unfolding is_formal_sort sorts_among formals_at
  sorts_asked =
      any_keep (λ (i : Item). is_sort i.shape) (is_called (name_of text a)) (keep inside rows)
      ∙ any_keep inside (λ (i : Item). pick (is_sort i.shape) (is_called (name_of text a) i) false) rows
      ∙ any_same _ (formal_sort (name_of text p) (name_of text a)) (sort_test (name_of text p) (name_of text a)) rows

  functions_asked : (s : Shape)
      → is_formal_function (formals_at text tape w b n (name_of text p)) (name_of text a) s ≡ any (formal_function (name_of text p) (name_of text a) s) rows
  unfolding is_formal_function formals_at formal_function
  functions_asked s =
      any_keep inside (λ (i : Item). is_called (name_of text a) i && same_shape s i.shape) rows
      ∙ any_same _ (formal_function (name_of text p) (name_of text a) s) (λ i. refl) rows

module _ (text tape w : List ℕ) (b n p a : ℕ) where
  abbrev sought : Item → Bool
  sought = formal_sort (name_of text p) (name_of text a)

  abbrev formal_sort_there : Bool
  formal_sort_there = is_formal_sort (formals_at text tape w b n (name_of text p)) (name_of text a)

  module _ (i : ℕ) (r : Bool) (h : i < n) (inv : Finding sought text tape w b n i)
      (f : (t : List ℕ) → r ≡ sought (item_of text t (row_at w (b + i * row_size)))) where
    pub sort_there : r ≡ true → true ≡ formal_sort_there
    sort_there q = somewhere _ text tape w b n i _ r h inv refl (f tape) q ∙ sym (sorts_asked text tape w b n p a)

    pub sort_again : r ≡ false → Finding sought text tape w b n (i + 1)
    sort_again q = find_again _ text tape w b n i _ r h inv refl (f tape) q

  pub sort_nowhere : (i : ℕ) → n ≤ i → Finding sought text tape w b n i → false ≡ formal_sort_there
  sort_nowhere i h inv = nowhere _ text tape w b n i h inv ∙ sym (sorts_asked text tape w b n p a)

module _ (text tape w : List ℕ) (b n p a : ℕ) (s : Shape) where
  abbrev formal_function_there : Bool
  formal_function_there = is_formal_function (formals_at text tape w b n (name_of text p)) (name_of text a) s

  pub function_there : (i : ℕ) (y : Row) (r : Bool) → i < n → Finding (formal_function (name_of text p) (name_of text a) s) text tape w b n i
      → y ≡ row_at w (b + i * row_size) → r ≡ formal_function (name_of text p) (name_of text a) s (item_of text tape y) → r ≡ true
      → true ≡ formal_function_there
  function_there i y r h inv e f q = somewhere _ text tape w b n i y r h inv e f q ∙ sym (functions_asked text tape w b n p a s)

  pub function_nowhere : (i : ℕ) → n ≤ i → Finding (formal_function (name_of text p) (name_of text a) s) text tape w b n i → false ≡ formal_function_there
  function_nowhere i h inv = nowhere _ text tape w b n i h inv ∙ sym (functions_asked text tape w b n p a s)

pub ruleset tests = (standing_told, such_no_sort, such_sort, such_elsewhere, like_elsewhere, like_other, like_shaped, rules)

pub ruleset asks = (find_start, find_again, sort_there, sort_again, sort_nowhere, function_there, function_nowhere, rules)
