-- Laws of the search for an item, in the code's terms: the tests on one row, and the loop over the rows.
use mathlib.Core.Path.{◌≡◌, refl, sym, ap, ◌∙◌}
use mathlib.Core.Bool.{Bool, true, false}
use mathlib.Core.List.{List, map}
use Prim.Native.Nat.{ℕ, zero, suc, ◌+◌, ◌-◌, ◌*◌, ◌<◌, ◌≤◌, min}
use native.Mathlib.Nat.{add-zero}
use native.Mathlib.Omega.{arith}
use lib.Dec.{eqb}
use lib.ListN.{length, get_or, take, length-take, length-map}
use borrow.Author.Rules.{rules}
use borrow.Author.Tests.{eq-eqb, ne_eqb}
use Rattle.meaning.specs.Lists.{agree}
use Rattle.meaning.specs.Names.{same}
use Rattle.meaning.specs.Origins.{same_sort, Shape, function_shape}
use Rattle.meaning.specs.Normal.{is_called}
use Rattle.meaning.specs.Typing.{takes, is_variable}
use Rattle.text_names.specs.Word.{name_of}
use Rattle.form_rows.specs.declared.Row.{Row}
use Rattle.form_rows.specs.Rows.{sort_of, type_of, shape_of, item_of, words_from, row_at, row_size}
use Rattle.form_walks.specs.Shapes.{shape_function, by_kind}
use Rattle.form_walks.specs.Rows.{find_start, find_end, find_again, find_here}
use Rattle.own_finding.specs.Known.{variable_called, function_called}
use Rattle.form_rows.specs.RowLaws.{nine_sorts, take_nine, agree_lengths}
use Rattle.form_comparing.proofs.Alike.{AgreeFrom, agree_on, agree_off, agree_all}

-- ---- the sorts of one row: those before j are the first of a

word_read : (w : List ℕ) (b c i : ℕ) → i < c → get_or (words_from w b c) i 0 ≡ get_or w (b + i) 0
unfolding words_from
word_read w b zero i h = absurd (omega arith)
word_read w b (suc c) zero h = rw (add-zero b)
word_read w b (suc c) (suc i) h = let e : b + suc i ≡ suc b + i = omega arith in rw e (word_read w (suc b) c i (omega arith))

module _ (text tape w a : List ℕ) (p n : ℕ) where
  -- what is left to compare
  abbrev pub SortsFrom : ℕ → Bool
  SortsFrom j = AgreeFrom text tape a (row_at w p).sorts n j

  module _ (j : ℕ) (la : length a ≡ 9) where
    pub sorts_all : n ≤ j → SortsFrom j ≡ true
    sorts_all h = agree_all text tape a (row_at w p).sorts n j la (nine_sorts w p) h

    module _ (h : j < n) (k : n ≤ 9) (q v : ℕ) (e : q ≡ p + 6) (f : v ≡ get_or w (q + j) 0) (r : Bool)
        (t : r ≡ same_sort (sort_of text tape (get_or a j 0)) (sort_of text tape v)) where
      there : r ≡ same_sort (sort_of text tape (get_or a j 0)) (sort_of text tape (get_or (row_at w p).sorts j 0))
      unfolding row_at
      there = rw (word_read w (p + 6) 9 j (omega arith), ← e, ← f) t

      pub sorts_on : r ≡ true → SortsFrom j ≡ SortsFrom (j + 1)
      sorts_on g = agree_on text tape a (row_at w p).sorts n j la (nine_sorts w p) h (omega arith) r there g

      pub sorts_off : r ≡ false → SortsFrom j ≡ false
      sorts_off g = agree_off text tape a (row_at w p).sorts n j la (nine_sorts w p) h (omega arith) r there g

-- ---- one row

is_variable_kind : (text tape : List ℕ) (k : ℕ) (sorts : List ℕ) → is_variable (shape_of text tape k sorts) ≡ eqb k 1
unfolding is_variable
is_variable_kind text tape k sorts =
    by_kind text tape k sorts (λ (s : Shape). is_variable s ≡ eqb k 1) (λ e. sym (ne_eqb k 1 (λ q. omega arith))) (λ e. sym (eq-eqb k 1 e))
    (λ h. sym (ne_eqb k 1 (λ q. omega arith)))

module _ (text tape : List ℕ) (a : ℕ) (x : Row) (b : Bool) (e : b ≡ same (name_of text a) (name_of text x.name)) where
  variable_other : b ≡ false → false ≡ variable_called (name_of text a) (item_of text tape x)
  unfolding variable_called item_of is_called
  variable_other h = rw (← e, h)

  variable_told : b ≡ true → eqb x.kind 1 ≡ variable_called (name_of text a) (item_of text tape x)
  unfolding variable_called item_of is_called
  variable_told h = rw (← e, h) (sym (is_variable_kind text tape x.kind x.sorts))

module _ (text tape : List ℕ) (kind : ℕ) (b a : List ℕ) (n : ℕ) where
  abbrev taken : Bool
  taken = takes (map (sort_of text tape) (take n a)) (shape_of text tape kind b)

  takes_none : kind < 2 → false ≡ taken
  unfolding takes
  takes_none h =
      by_kind text tape kind b (λ (s : Shape). false ≡ takes (map (sort_of text tape) (take n a)) s) (λ e. refl) (λ e. refl) (λ l. absurd (omega (arith, h, l)))

  module _ (h : 2 ≤ kind) (la : length a ≡ 9) (lb : length b ≡ 9) (l : n ≤ 9) (m : ℕ) (e : m ≡ min (kind - 2) 9) where
    function_here : shape_of text tape kind b ≡ function_shape (type_of text tape (kind - 2) b)
    function_here = shape_function text tape kind b h

    takes_fewer : (m ≡ n → ⊥) → false ≡ taken
    unfolding takes type_of
    takes_fewer d =
        let s = sort_of text tape in
        let x : length (map s (take n a)) ≡ n = length-map (take n a) s ∙ omega (arith, length-take n a) in
        let y : length (map s (take (kind - 2) b)) ≡ m = length-map (take (kind - 2) b) s ∙ omega (arith, length-take (kind - 2) b) in
        rw (function_here, agree_lengths same_sort (map s (take n a)) (map s (take (kind - 2) b)) (λ q. d (sym (sym x ∙ q ∙ y))))

    takes_told : (r : Bool) → m ≡ n → r ≡ agree same_sort (map (sort_of text tape) (take n a)) (map (sort_of text tape) (take n b)) → r ≡ taken
    unfolding takes type_of
    takes_told r d t =
        let y : take n b ≡ take (kind - 2) b = ap (λ (i : ℕ). take i b) (sym d ∙ e) ∙ take_nine (kind - 2) b lb in
        rw function_here (rw y at t)

module _ (text tape : List ℕ) (a : ℕ) (sorts : List ℕ) (n : ℕ) (x : Row) (b : Bool) (e : b ≡ same (name_of text a) (name_of text x.name)) where
  abbrev such : Bool
  such = function_called (name_of text a) (map (sort_of text tape) (take n sorts)) (item_of text tape x)

  function_other : b ≡ false → false ≡ such
  unfolding function_called item_of is_called
  function_other h = rw (← e, h)

  function_told : (r : Bool) → b ≡ true → r ≡ takes (map (sort_of text tape) (take n sorts)) (shape_of text tape x.kind x.sorts) → r ≡ such
  unfolding function_called item_of is_called
  function_told r h t = rw (← e, h) t

-- the same of row i of a table: v is the word of its name, and y the row
module _ (text tape w : List ℕ) (a b i v : ℕ) (c : Bool) (e : v ≡ get_or w (b + i * row_size + 1) 0) (f : c ≡ same (name_of text a) (name_of text v)) where
  abbrev row : Row
  row = row_at w (b + i * row_size)

  called : c ≡ same (name_of text a) (name_of text row.name)
  unfolding row_at
  called = rw e at f

  pub variable_off : c ≡ false → false ≡ variable_called (name_of text a) (item_of text tape row)
  variable_off h = variable_other text tape a row c called h

  pub variable_there : (kind : ℕ) → kind ≡ get_or w (b + i * row_size + 2) 0 → c ≡ true → eqb kind 1 ≡ variable_called (name_of text a) (item_of text tape row)
  unfolding row_at
  variable_there kind g h = rw g (variable_told text tape a row c called h)

  module _ (sorts : List ℕ) (n : ℕ) where
    abbrev such_there : Bool
    such_there = function_called (name_of text a) (map (sort_of text tape) (take n sorts)) (item_of text tape row)

    pub function_off : c ≡ false → false ≡ such_there
    function_off h = function_other text tape a sorts n row c called h

    module _ (h : c ≡ true) (kind : ℕ) (g : kind ≡ get_or w (b + i * row_size + 2) 0) where
      kind_there : row.kind ≡ kind
      unfolding row_at
      kind_there = sym g

      told : (r : Bool) → r ≡ takes (map (sort_of text tape) (take n sorts)) (shape_of text tape kind row.sorts) → r ≡ such_there
      told r t = function_told text tape a sorts n row c called r h (rw kind_there t)

      pub function_none : kind < 2 → false ≡ such_there
      function_none l = told false (takes_none text tape kind row.sorts sorts n l)

      module _ (l : 2 ≤ kind) (la : length sorts ≡ 9) (k : n ≤ 9) (m : ℕ) (q : m ≡ min (kind - 2) 9) where
        pub function_fewer : (m ≡ n → ⊥) → false ≡ such_there
        function_fewer d = told false (takes_fewer text tape kind row.sorts sorts n l la (nine_sorts w (b + i * row_size)) k m q d)

        pub function_there : (r : Bool) → m ≡ n → r ≡ SortsFrom text tape w sorts (b + i * row_size) n 0 → r ≡ such_there
        function_there r d t = told r (takes_told text tape kind row.sorts sorts n l la (nine_sorts w (b + i * row_size)) k m q r d t)

-- what the answers of the search hand to `search`
pub ruleset tests = (variable_off, variable_there, function_off, function_none, function_fewer, function_there, rules)

pub ruleset seeks = (find_start, find_again, find_end, find_here, rules)
