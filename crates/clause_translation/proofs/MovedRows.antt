-- Laws of rows under new names, in the code's terms: a sort, the sorts of a row, its name, and the row.
use mathlib.Core.Path.{◌≡◌, refl, sym, ap, ap₂, ◌∙◌}
use mathlib.Core.Bool.{Bool, true, false}
use mathlib.Core.List.{List, [], ◌∷◌, map}
use Prim.Native.Nat.{ℕ, zero, suc, ◌+◌, ◌-◌, ◌*◌, ◌/◌, ◌%◌, ◌<◌, ◌≤◌, min}
use native.Mathlib.Omega.{arith}
use lib.Dec.{eqb, ltb}
use lib.ListN.{length, get_or, set, take, length-set}
use lib.Seq.{get_or-set_same, get_or-set_other}
use borrow.Author.Rules.{rules}
use borrow.Author.Tests.{eq-eqb, ne_eqb, eqb-true, eqb-false, ltb-true, ltb-false}
use Rattle.meaning.specs.Lists.{pick}
use Rattle.meaning.specs.Names.{Name}
use Rattle.meaning.specs.Origins.{Sort, visible_sort, FunctionType, sort_shape, function_shape, variable_shape}
use Rattle.meaning.specs.Normal.{move_sort, move_type, move_shape, move_name, move_item, move_hidden_item}
use Rattle.meaning.specs.Clauses.{new_function}
use Rattle.text_names.specs.Word.{name_of}
use Rattle.form_rows.specs.declared.Row.{Row}
use Rattle.form_rows.specs.Rows.{sort_of, type_of, shape_of, item_of}
use Rattle.clause_translation.specs.declared.Mode.{Mode}
use Rattle.clause_translation.specs.Translation.{sort_name, function_name, moved, moved_hidden, moved_in}
use Rattle.clause_translation.specs.Moved.{NewSort, MovedSorts, MovedRow, is_formal_function, shape_name}
use Rattle.clause_translation.specs.MovedLaws.{moved_same}

module _ (text tape w : List ℕ) (m : Mode) where
  abbrev σ : Name → Name
  σ = sort_name text tape w m

  abbrev φ : Name → FunctionType → Name
  φ = function_name text tape w m

  -- ---- one sort

  pub sort_moves : (s r : ℕ) → s % 2 ≡ 0 → NewSort text tape w m (s / 2) r → sort_of text tape (r * 2) ≡ move_sort σ φ (sort_of text tape s)
  unfolding sort_of move_sort pick
  sort_moves s r h n =
      let e : r * 2 % 2 ≡ 0 = omega arith in
      let f : r * 2 / 2 ≡ r = omega arith in
      rw (eq-eqb (r * 2 % 2) 0 e, f, eq-eqb (s % 2) 0 h) (ap visible_sort n.name)

  pub sort_hidden : (s : ℕ) → (s % 2 ≡ 0 → ⊥) → sort_of text tape s ≡ move_sort σ φ (sort_of text tape s)
  unfolding sort_of move_sort pick
  sort_hidden s h = rw (ne_eqb (s % 2) 0 h)

  -- ---- the sorts of a row: the last has been moved first, then those before i

  abbrev Moves : List ℕ → List ℕ → ℕ → Type 0
  Moves sorts r j = sort_of text tape (get_or r j 0) ≡ move_sort σ φ (sort_of text tape (get_or sorts j 0))

  abbrev function_type : List Sort → Sort → FunctionType
  function_type ins out = record { inputs = ins; output = out }

  map_moved : (n : ℕ) (xs ys : List ℕ) → length ys ≡ length xs → ((j : ℕ) → j < n → j < length xs → Moves xs ys j)
      → map (sort_of text tape) (take n ys) ≡ map (move_sort σ φ) (map (sort_of text tape) (take n xs))
  map_moved zero xs ys e h = refl
  map_moved (suc n) [] [] e h = refl
  map_moved (suc n) [] (y ∷ ys) e h = absurd (omega arith)
  map_moved (suc n) (x ∷ xs) [] e h = absurd (omega arith)
  map_moved (suc n) (x ∷ xs) (y ∷ ys) e h =
      let others = map_moved n xs ys (omega arith) (λ j l k. h (suc j) (omega arith) (omega arith)) in
      ap₂ (λ (s : Sort) (ss : List Sort). s ∷ ss) (h 0 (omega arith) (omega arith)) others

  pub record Moving (first r : List ℕ) (i : ℕ) : Type 0 where
    pub inside : i ≤ 8
    pub size : length r ≡ 9
    pub done : (j : ℕ) → j < i → Moves first r j
    pub rest : (j : ℕ) → i ≤ j → get_or r j 0 ≡ get_or first j 0

  module _ (k n i v : ℕ) (first r : List ℕ) (few : n ≡ min k 8) (l : i < n) (inv : Moving first r i) where
    pub moving_again : sort_of text tape v ≡ move_sort σ φ (sort_of text tape (get_or r i 0)) → Moving first (set r i v) (i + 1)
    moving_again h =
        let size = inv.size in
        record {
          inside = omega arith;
          size = length-set r i v ∙ size;
          done = λ j d. at j d (eqb i j) refl;
          rest = λ j d. get_or-set_other r i j v 0 (λ q. omega arith) ∙ inv.rest j (omega arith);
        }
      where
        here : sort_of text tape v ≡ move_sort σ φ (sort_of text tape (get_or first i 0))
        here = h ∙ ap (λ (s : ℕ). move_sort σ φ (sort_of text tape s)) (inv.rest i (omega arith))

        at : (j : ℕ) → j < i + 1 → (b : Bool) → eqb i j ≡ b → Moves first (set r i v) j
        at j d true e =
            let same : i ≡ j = eqb-true i j e in
            let size = inv.size in
            rw (← same) (ap (sort_of text tape) (get_or-set_same r i v 0 (omega arith)) ∙ here)
        at j d false e =
            let other : j ≡ i → ⊥ = λ q. eqb-false i j e (sym q) in
            ap (sort_of text tape) (get_or-set_other r i j v 0 other) ∙ inv.done j (omega arith)

  module _ (sorts : List ℕ) (v : ℕ) (nine : length sorts ≡ 9) where
    pub moving_start : Moving (set sorts 8 v) (set sorts 8 v) 0
    moving_start = record { inside = omega arith; size = length-set sorts 8 v ∙ nine; done = λ j l. absurd (omega arith); rest = λ j l. refl }

    module _ (h : sort_of text tape v ≡ move_sort σ φ (sort_of text tape (get_or sorts 8 0))) (r : List ℕ) (i : ℕ) (inv : Moving (set sorts 8 v) r i) where
      last_moves : Moves sorts r 8
      last_moves = ap (sort_of text tape) (inv.rest 8 inv.inside ∙ get_or-set_same sorts 8 v 0 (omega arith)) ∙ h

      input_moves : (j : ℕ) → j < i → j < 8 → Moves sorts r j
      input_moves j l d = inv.done j l ∙ ap (λ (s : ℕ). move_sort σ φ (sort_of text tape s)) (get_or-set_other sorts 8 j v 0 (λ q. omega arith))

      pub moving_end : (k n : ℕ) → n ≡ min k 8 → n ≤ i → MovedSorts text tape w m k sorts r
      unfolding type_of move_type
      moving_end k n e l = record {
        size = inv.size;
        type = ap₂ function_type (map_moved k sorts r (inv.size ∙ sym nine) (λ j u d. at j u (ltb j 8) refl d)) last_moves;
      }
        where
          at : (j : ℕ) → j < k → (b : Bool) → ltb j 8 ≡ b → j < length sorts → Moves sorts r j
          at j u true f d = input_moves j (omega (arith, ltb-true j 8 f)) (ltb-true j 8 f)
          at j u false f d = let q : 8 ≡ j = omega (arith, ltb-false j 8 f) in rw (← q) last_moves

  -- ---- a row's name

  -- what a row of the kind has for its shape
  function_kind : (k : ℕ) (sorts : List ℕ) → (k ≡ 0 → ⊥) → (k ≡ 1 → ⊥) → shape_of text tape k sorts ≡ function_shape (type_of text tape (k - 2) sorts)
  unfolding shape_of pick
  function_kind k sorts h l = rw (ne_eqb k 0 h, ne_eqb k 1 l)

  variable_kind : (k : ℕ) (sorts : List ℕ) → k ≡ 1 → shape_of text tape k sorts ≡ variable_shape (sort_of text tape (get_or sorts 8 0))
  unfolding shape_of pick
  variable_kind k sorts h = rw (ne_eqb k 0 (λ u. omega arith), eq-eqb k 1 h)

  sort_kind : (k : ℕ) (sorts : List ℕ) → k ≡ 0 → shape_of text tape k sorts ≡ sort_shape
  unfolding shape_of pick
  sort_kind k sorts h = rw (eq-eqb k 0 h)

  function_named : (f : Name) (t : FunctionType) → shape_name text tape w m f (function_shape t) ≡ φ f t
  unfolding shape_name function_name new_function is_formal_function
  function_named f t = refl

  module _ (x : Row) where
    abbrev Named : ℕ → Type 0
    Named r = name_of text r ≡ move_name σ φ (name_of text x.name) (shape_of text tape x.kind x.sorts)

    pub named_sort : (r : ℕ) → x.kind ≡ 0 → NewSort text tape w m x.name r → Named r
    unfolding move_name
    named_sort r h n = rw (sort_kind x.kind x.sorts h) n.name

    pub named_variable : x.kind ≡ 1 → Named x.name
    unfolding move_name
    named_variable h = rw (variable_kind x.kind x.sorts h)

    pub named_function : (r : ℕ) → (x.kind ≡ 0 → ⊥) → (x.kind ≡ 1 → ⊥)
        → name_of text r ≡ shape_name text tape w m (name_of text x.name) (shape_of text tape x.kind x.sorts) → Named r
    unfolding move_name
    named_function r h l e =
        let f = function_kind x.kind x.sorts h l in
        rw f ((rw f at e) ∙ function_named (name_of text x.name) (type_of text tape (x.kind - 2) x.sorts))

    -- the name in a row moved
    abbrev Standing : Bool → ℕ → Type 0
    Standing visible r = name_of text r ≡ (moved_in text tape w m visible (item_of text tape x)).name

    pub standing_visible : (visible : Bool) (r : ℕ) → visible ≡ true → Named r → Standing visible r
    unfolding moved_in moved move_item item_of pick
    standing_visible visible r h e = rw h e

    pub standing_hidden : (visible : Bool) → visible ≡ false → Standing visible x.name
    unfolding moved_in moved_hidden move_hidden_item item_of pick
    standing_hidden visible h = rw h

  -- ---- a row

  output_moves : (n : ℕ) (sorts r : List ℕ) → type_of text tape n r ≡ move_type σ φ (type_of text tape n sorts) → Moves sorts r 8
  unfolding type_of move_type
  output_moves n sorts r e = ap (λ (t : FunctionType). t.output) e

  shape_moves : (k : ℕ) (sorts r : List ℕ) → MovedSorts text tape w m (k - 2) sorts r → shape_of text tape k r ≡ move_shape σ φ (shape_of text tape k sorts)
  unfolding move_shape
  shape_moves k sorts r h = by (eqb k 0) (eqb k 1) refl refl
    where
      by : (a b : Bool) → eqb k 0 ≡ a → eqb k 1 ≡ b → shape_of text tape k r ≡ move_shape σ φ (shape_of text tape k sorts)
      by true b e f = let z = eqb-true k 0 e in rw (sort_kind k r z, sort_kind k sorts z)
      by false true e f =
          let z = eqb-true k 1 f in
          rw (variable_kind k r z, variable_kind k sorts z) (ap variable_shape (output_moves (k - 2) sorts r h.type))
      by false false e f =
          let y = eqb-false k 0 e in
          let z = eqb-false k 1 f in
          rw (function_kind k r y z, function_kind k sorts y z) (ap function_shape h.type)

  module _ (x : Row) (n : ℕ) (s : List ℕ) (h : MovedSorts text tape w m (x.kind - 2) x.sorts s) where
    abbrev under : Row
    under = record { standing = x.standing; name = n; kind = x.kind; origin = x.origin; sorts = s }

    item_moves : (visible : Bool) → Standing x visible n → item_of text tape under ≡ moved_in text tape w m visible (item_of text tape x)
    unfolding moved_in moved moved_hidden move_item move_hidden_item item_of pick
    item_moves true e = rw (shape_moves x.kind x.sorts s h, e)
    item_moves false e = rw (shape_moves x.kind x.sorts s h, e)

    pub row_moves : (visible : Bool) → Standing x visible n → MovedRow text tape w m visible x under
    row_moves visible e = record { item = item_moves visible e; standing = refl; origin = refl; size = h.size }

  -- a mode of kind 0 leaves the row
  pub row_stays : (visible : Bool) (x : Row) → m.kind ≡ 0 → length x.sorts ≡ 9 → MovedRow text tape w m visible x x
  row_stays visible x h n = record { item = sym (moved_same text tape w m h visible (item_of text tape x)); standing = refl; origin = refl; size = n }

pub ruleset names = (sort_moves, sort_hidden, named_sort, named_variable, named_function, standing_visible, standing_hidden, rules)

pub ruleset rows = (row_moves, row_stays, rules)
