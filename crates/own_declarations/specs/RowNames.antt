-- What the rows of a table say of names: a sort or a constant of the name is among the items that they stand for.
use Rattle.std.specs.Prelude.{◌≡◌, Bool, true, false, List, ◌∷◌, eqb, get_or}
use Rattle.std.proofs.Math.Path.{refl}
use Prim.Native.Nat.{ℕ, zero, suc, ◌+◌, ◌-◌, ◌*◌}
use native.Mathlib.Omega.{arith}
use Rattle.std.proofs.Common.{ne_eqb}
use Rattle.meaning.specs.Lists.{pick, keep, none_in}
use Rattle.meaning.specs.Names.{Name, same, member}
use Rattle.meaning.specs.Origins.{Sort, FunctionType, Shape, sort_shape, function_shape, variable_shape, is_sort, Item}
use Rattle.meaning.specs.Normal.{names_in, sorts_among}
use Rattle.meaning.specs.Own.{is_constant, constants}
use Rattle.text_names.specs.Word.{name_of}
use Rattle.form_rows.specs.Rows.{sort_of, type_of, shape_of, item_of, words_from, row_at, row_size}
use Rattle.form.specs.Forms.{items_at}
use Rattle.own_repeats.specs.Scans.{found}
use Rattle.own_declarations.specs.Sorts.{is_row}

module _ (text tape w : List ℕ) (b kind : ℕ) (n : Name) (q : Shape → Bool)
    (told : (i : ℕ) → q (shape_of text tape (get_or w (i + 2) 0) (words_from w (i + 6) 9)) ≡ eqb (get_or w (i + 2) 0) kind) where
  rows_named : (c i : ℕ)
      → found (is_row text w b kind n) i c ≡ member n (names_in (keep (λ (x : Item). q x.shape) (items_at text tape w (b + i * row_size) c)))
  unfolding found is_row items_at item_of row_at keep names_in member pick
  rows_named zero i = refl
  rows_named (suc c) i =
      let e : b + i * row_size + row_size ≡ b + suc i * row_size = omega arith in
      rw (told (b + i * row_size), e) (go (eqb (get_or w (b + i * row_size + 2) 0) kind) (rows_named c (suc i)))
    where
      x : Item
      x = item_of text tape (row_at w (b + i * row_size))

      rest : List Item
      rest = keep (λ (y : Item). q y.shape) (items_at text tape w (b + suc i * row_size) c)

      go : (p : Bool) → found (is_row text w b kind n) (suc i) c ≡ member n (names_in rest)
          → pick (pick p (same n (name_of text (get_or w (b + i * row_size + 1) 0))) false) true (found (is_row text w b kind n) (suc i) c) ≡ member n (names_in (pick p (x ∷ rest) rest))
      go true h = rw h
      go false h = h

is_sort_kind : (text tape : List ℕ) (kind : ℕ) (sorts : List ℕ) → is_sort (shape_of text tape kind sorts) ≡ eqb kind 0
unfolding is_sort shape_of pick
is_sort_kind text tape kind sorts =
    go (eqb kind 0) (eqb kind 1) (sort_of text tape (get_or sorts 8 0)) (type_of text tape (kind - 2) sorts)
  where
    go : (a v : Bool) (s : Sort) (t : FunctionType) → is_sort (pick a sort_shape (pick v (variable_shape s) (function_shape t))) ≡ a
    go true v s t = refl
    go false true s t = refl
    go false false s t = refl

-- a function without inputs
is_constant_kind : (text tape : List ℕ) (kind x : ℕ) (xs : List ℕ) → is_constant (shape_of text tape kind (x ∷ xs)) ≡ eqb kind 2
unfolding is_constant shape_of type_of none_in pick
is_constant_kind text tape zero x xs = refl
is_constant_kind text tape (suc zero) x xs = refl
is_constant_kind text tape (suc (suc zero)) x xs = refl
is_constant_kind text tape (suc (suc (suc k))) x xs =
    let z : suc (suc (suc k)) - 2 ≡ suc k = omega arith in
    rw (ne_eqb (suc (suc (suc k))) 0 (λ q. omega arith), ne_eqb (suc (suc (suc k))) 1 (λ q. omega arith), ne_eqb (suc (suc (suc k))) 2 (λ q. omega arith), z)

module _ (text tape w : List ℕ) (b c : ℕ) (n : Name) where
  start : b + 0 * row_size ≡ b
  start = omega arith

  -- a sort of the name
  pub sorts_found : found (is_row text w b 0 n) 0 c ≡ member n (names_in (sorts_among (items_at text tape w b c)))
  unfolding sorts_among
  sorts_found = rw start at (rows_named text tape w b 0 n is_sort (λ i. is_sort_kind text tape (get_or w (i + 2) 0) (words_from w (i + 6) 9)) c 0)

  -- a constant of the name
  pub constants_found : found (is_row text w b 2 n) 0 c ≡ member n (constants (items_at text tape w b c))
  unfolding constants words_from
  constants_found = rw start at (rows_named text tape w b 2 n is_constant (λ i. is_constant_kind text tape (get_or w (i + 2) 0) _ _) c 0)
