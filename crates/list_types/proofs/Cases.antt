-- One law for each way through the code that writes sorts and types, in the code's terms: p is where the pen stands before, q after.
use mathlib.Core.Path.{◌≡◌, refl, sym, ap, ◌∙◌}
use mathlib.Core.Bool.{Bool, true, false, ◌&&◌, and-true, and-false}
use mathlib.Core.List.{List, ◌∷◌, ◌++◌, map}
use Prim.Native.Nat.{ℕ, zero, suc, ◌+◌, ◌-◌, ◌*◌, ◌/◌, ◌%◌, ◌<◌, ◌≤◌, min}
use native.Mathlib.Omega.{arith}
use native.Mathlib.Numerals.{add-one}
use borrow.Author.Rules.{rules}
use borrow.Author.Tests.{eq-eqb, ne_eqb}
use lib.Dec.{eqb}
use lib.ListN.{length, get_or, take, drop}
use lib.Seq.{drop-cons}
use Rattle.meaning.specs.Lists.{pick, before}
use Rattle.meaning.specs.Names.{Name, same, bytes}
use Rattle.meaning.specs.Origins.{Declared, declared_sort, declared_function, declared_variable, same_section, same_declared, same_origin, hidden_section, Item, Sort}
use Rattle.meaning.specs.Written.{between_marks, type_text, numbered, sort_text, function_type_text, shape_text}
use Rattle.tape.specs.Tape.{variable_role}
use Rattle.text_names.specs.Word.{name_of}
use Rattle.form_sections.specs.declared.Section.TheVariants.{Hidden}
use Rattle.form_rows.specs.declared.Origin.{Origin}
use Rattle.form_rows.specs.declared.Row.{Row}
use Rattle.form_rows.specs.Entries.{role_at, name_at, names_from, home_at, is_function_role, arity_at, sort_place, declared_at}
use Rattle.form_rows.specs.Kinds.{kind_at}
use Rattle.form_rows.specs.Rows.{section_of, origin_of, hidden_origin, sort_of, type_of, shape_of, item_of, row_at, row_size}
use Rattle.form_rows.specs.RowLaws.{take_nine}
use Rattle.form.specs.Forms.{items_at}
use Rattle.list_pen.specs.Pen.{Pen, written, rows_text, rows_texts}
use Rattle.list_pen.proofs.Laws.{then}
use Rattle.list_pen.proofs.Rows.{rows_start, rows_again, rows_end, rows_between}
use Rattle.list_types.specs.Sorts.{sort_number, marked_sort}

-- ---- is an origin that of a hidden sort

module _ (a b x : Name) (i : List Name) (o y s : Name) where
  abbrev one_of : Bool → Bool → Declared
  one_of f v = pick f (declared_function x i o) (pick v (declared_variable y s) (declared_sort b))

  sort_or_none : (f v : Bool) (n : ℕ) → pick f (n + 2) (pick v 1 0) ≡ 0 → same_declared (declared_sort a) (one_of f v) ≡ same a b
  unfolding same_declared pick
  sort_or_none true v n z = absurd (omega arith)
  sort_or_none false true n z = absurd (omega arith)
  sort_or_none false false n z = refl

  none_other : (f v : Bool) (n : ℕ) → (pick f (n + 2) (pick v 1 0) ≡ 0 → ⊥) → same_declared (declared_sort a) (one_of f v) ≡ false
  unfolding same_declared pick
  none_other true v n z = refl
  none_other false true n z = refl
  none_other false false n z = absurd (z refl)

module _ (text tape : List ℕ) (a : Name) (e : ℕ) where
  sort_there : kind_at tape e ≡ 0 → same_declared (declared_sort a) (declared_at text tape e) ≡ same a (name_at text tape e)
  unfolding kind_at declared_at
  sort_there z =
      let n = arity_at tape e in
      sort_or_none a (name_at text tape e) (name_at text tape e) (names_from text tape (e + 1) n) (name_at text tape (e + 1 + n)) (name_at text tape e) (name_at text tape (sort_place tape e))
      (is_function_role (role_at tape e)) (eqb (role_at tape e) variable_role) n z

  other_there : (kind_at tape e ≡ 0 → ⊥) → same_declared (declared_sort a) (declared_at text tape e) ≡ false
  unfolding kind_at declared_at
  other_there z =
      let n = arity_at tape e in
      none_other a (name_at text tape e) (name_at text tape e) (names_from text tape (e + 1) n) (name_at text tape (e + 1 + n)) (name_at text tape e) (name_at text tape (sort_place tape e))
      (is_function_role (role_at tape e)) (eqb (role_at tape e) variable_role) n z

module _ (text tape : List ℕ) (d : ℕ) (o : Origin) where
  abbrev there : Bool
  there = same (name_of text (home_at tape d)) (name_of text o.home) && same_section hidden_section (section_of text o.section)

  pub there_told : (h : ℕ) (x r : Bool) → h ≡ home_at tape d → x ≡ same (name_of text h) (name_of text o.home) → x ≡ true
      → r ≡ same_section (section_of text Hidden) (section_of text o.section) → r ≡ there
  unfolding section_of
  there_told h x r a c e f = rw (← a, ← c, e) f

  module _ (k : ℕ) (h : k ≡ kind_at tape o.place) where
    pub sort_named : (m r : Bool) → k ≡ 0 → m ≡ same (name_at text tape d) (name_at text tape o.place) → m ≡ true → r ≡ there
        → r ≡ same_origin (hidden_origin text tape d) (origin_of text tape o)
    unfolding same_origin hidden_origin origin_of
    sort_named m r z f g t = rw (sort_there text tape (name_at text tape d) o.place (sym h ∙ z), ← f, g) (t ∙ sym (and-true there))

    pub sort_unnamed : (m : Bool) → k ≡ 0 → m ≡ same (name_at text tape d) (name_at text tape o.place) → m ≡ false
        → false ≡ same_origin (hidden_origin text tape d) (origin_of text tape o)
    unfolding same_origin hidden_origin origin_of
    sort_unnamed m z f g = rw (sort_there text tape (name_at text tape d) o.place (sym h ∙ z), ← f, g) (sym (and-false there))

    pub no_sort : (k ≡ 0 → ⊥) → false ≡ same_origin (hidden_origin text tape d) (origin_of text tape o)
    unfolding same_origin hidden_origin origin_of
    no_sort z = rw (other_there text tape (name_at text tape d) o.place (λ q. z (h ∙ q))) (sym (and-false there))

pub row_told : (text tape w : List ℕ) (b d : ℕ) (row : Row) (r : Bool) → row ≡ row_at w b → r ≡ same_origin (hidden_origin text tape d) (origin_of text tape row.origin)
    → r ≡ same_origin (hidden_origin text tape d) (item_of text tape (row_at w b)).origin
unfolding item_of
row_told text tape w b d row r e h = rw (← e) h

-- ---- the number of a hidden sort: no row before i is the one

pub record Numbering (text tape w : List ℕ) (b n d i : ℕ) : Type 0 where
  pub within : i ≤ n
  pub comes : sort_number text tape w b n d ≡ i + sort_number text tape w (b + i * row_size) (n - i) d

module _ (text tape w : List ℕ) (b n d : ℕ) where
  module _ (i : ℕ) where
    none_left : n ≤ i → sort_number text tape w (b + i * row_size) (n - i) d ≡ 1
    unfolding sort_number items_at before
    none_left h = let z : n - i ≡ 0 = omega arith in rw z

    module _ (h : i < n) (r : Bool) (f : r ≡ same_origin (hidden_origin text tape d) (item_of text tape (row_at w (b + i * row_size))).origin) where
      left : n - i ≡ suc (n - (i + 1))
      left = omega arith

      next : b + i * row_size + row_size ≡ b + (i + 1) * row_size
      next = omega arith

      here : r ≡ true → sort_number text tape w (b + i * row_size) (n - i) d ≡ 1
      unfolding sort_number items_at before pick
      here e = rw (left, ← f, e)

      further : r ≡ false → sort_number text tape w (b + i * row_size) (n - i) d ≡ suc (sort_number text tape w (b + (i + 1) * row_size) (n - (i + 1)) d)
      unfolding sort_number items_at before pick
      further e = rw (left, ← f, e, next) (omega arith)

  module _ (i : ℕ) (v : Numbering text tape w b n d i) where
    pub number_end : n ≤ i → n + 1 ≡ sort_number text tape w b n d
    number_end h = let within = v.within in omega (arith, v.comes, none_left i h)

    module _ (h : i < n) (r : Bool) (f : r ≡ same_origin (hidden_origin text tape d) (item_of text tape (row_at w (b + i * row_size))).origin) where
      pub number_found : r ≡ true → i + 1 ≡ sort_number text tape w b n d
      number_found e = sym (v.comes ∙ ap (λ (m : ℕ). i + m) (here i h r f e))

      pub number_again : r ≡ false → Numbering text tape w b n d (i + 1)
      number_again e = record { within = omega arith; comes = omega (arith, v.comes, further i h r f e) }

-- ---- sorts with a mark between

sorts_rows : (f : Sort → List ℕ) (g : ℕ → Sort) (xs : List ℕ) (i m : ℕ) → i + m ≤ length xs
    → map f (map g (take m (drop i xs))) ≡ rows_texts (λ (j : ℕ). f (g (get_or xs j 0))) i m
unfolding rows_texts
sorts_rows f g xs i zero h = refl
sorts_rows f g xs i (suc m) h =
    let l : i < length xs = omega arith in
    rw (drop-cons xs i 0 l, add-one i) (ap (λ (ys : List (List ℕ)). f (g (get_or xs i 0)) ∷ ys) (sorts_rows f g xs (suc i) m (omega arith)))

module _ (l : ℕ) (text tape w : List ℕ) (b n : ℕ) (p q : Pen) where
  abbrev hidden : List Item
  hidden = items_at text tape w b n

  pub sort_visible : (s : ℕ) → s % 2 ≡ 0 → q ≡ written l (name_of text (s / 2)) p → q ≡ written l (sort_text hidden (sort_of text tape s)) p
  unfolding sort_text sort_of pick
  sort_visible s h e = rw (eq-eqb (s % 2) 0 h) e

  pub sort_hidden : (s k : ℕ) → (s % 2 ≡ 0 → ⊥) → k ≡ sort_number text tape w b n (s / 2) → q ≡ written l (numbered k) p
      → q ≡ written l (sort_text hidden (sort_of text tape s)) p
  unfolding sort_text sort_of sort_number pick
  sort_hidden s k h e f = rw (ne_eqb (s % 2) 0 h) (f ∙ ap (λ (x : ℕ). written l (numbered x) p) e)

  module _ (sorts : List ℕ) where
    pub marked_done : (i s : ℕ) (a : Pen) → s ≡ get_or sorts i 0 → a ≡ written l (bytes "#") p → q ≡ written l (sort_text hidden (sort_of text tape s)) a
        → q ≡ written l (marked_sort text tape w b n sorts i) p
    unfolding marked_sort
    marked_done i s a e f g = rw (← e) (then l (bytes "#") (sort_text hidden (sort_of text tape s)) p a q f g)

    module _ (kind : ℕ) where
      abbrev inputs : List ℕ
      inputs = between_marks (bytes "#") (map (sort_text hidden) (map (sort_of text tape) (take (kind - 2) sorts)))

      abbrev output : List ℕ
      output = sort_text hidden (sort_of text tape (get_or sorts 8 0))

      module _ (m : ℕ) (e : m ≡ min (kind - 2) 9) (nine : length sorts ≡ 9) where
        in_rows : (k : ℕ) → m ≡ k → map (sort_text hidden) (map (sort_of text tape) (take (kind - 2) sorts))
            ≡ rows_texts (λ (j : ℕ). sort_text hidden (sort_of text tape (get_or sorts j 0))) 0 k
        in_rows k more =
            ap (λ (xs : List ℕ). map (sort_text hidden) (map (sort_of text tape) xs)) (sym (take_nine (kind - 2) sorts nine))
            ∙ ap (λ (c : ℕ). map (sort_text hidden) (map (sort_of text tape) (take c sorts))) (sym e ∙ more)
            ∙ sorts_rows (sort_text hidden) (sort_of text tape) sorts 0 k (omega arith)

        pub sorts_none : m ≤ 0 → p ≡ written l inputs p
        unfolding between_marks rows_texts written
        sorts_none h = let z : m ≡ 0 = omega arith in rw (in_rows 0 z)

        pub sorts_some : (a : Pen) → 0 < m → a ≡ written l (sort_text hidden (sort_of text tape (get_or sorts 0 0))) p
            → q ≡ written l (rows_text (marked_sort text tape w b n sorts) 1 (m - 1)) a → q ≡ written l inputs p
        unfolding marked_sort
        sorts_some a h f g =
            let one : ℕ → List ℕ = λ (j : ℕ). sort_text hidden (sort_of text tape (get_or sorts j 0)) in
            let more : m ≡ suc (m - 1) = omega arith in
            rw (in_rows (suc (m - 1)) more, rows_between (bytes "#") one 0 (m - 1))
            (then l (one 0) (rows_text (marked_sort text tape w b n sorts) 1 (m - 1)) p a q f g)

      pub type_done : (a c d : Pen) → a ≡ written l (bytes ":") p → c ≡ written l inputs a → d ≡ written l (bytes "->") c → q ≡ written l output d
          → q ≡ written l (function_type_text hidden (type_of text tape (kind - 2) sorts)) p
      unfolding function_type_text type_text type_of
      type_done a c d e f g h =
          then l (bytes ":") (inputs ++ (bytes "->" ++ output)) p a q e (then l inputs (bytes "->" ++ output) a c q f (then l (bytes "->") output c d q g h))

      pub shape_sort : kind ≡ 0 → p ≡ written l (shape_text hidden (shape_of text tape kind sorts)) p
      unfolding shape_text shape_of pick written
      shape_sort z = rw (eq-eqb kind 0 z)

      pub shape_variable : (a : Pen) → (kind ≡ 0 → ⊥) → kind ≡ 1 → a ≡ written l (bytes ":") p → q ≡ written l output a
          → q ≡ written l (shape_text hidden (shape_of text tape kind sorts)) p
      unfolding shape_text shape_of pick
      shape_variable a y z e f = rw (ne_eqb kind 0 y, eq-eqb kind 1 z) (then l (bytes ":") output p a q e f)

      pub shape_function : (kind ≡ 0 → ⊥) → (kind ≡ 1 → ⊥) → q ≡ written l (function_type_text hidden (type_of text tape (kind - 2) sorts)) p
          → q ≡ written l (shape_text hidden (shape_of text tape kind sorts)) p
      unfolding shape_text shape_of pick
      shape_function y z e = rw (ne_eqb kind 0 y, ne_eqb kind 1 z) e

pub ruleset cases = (there_told, sort_named, sort_unnamed, no_sort, row_told, number_end, number_found, number_again, sort_visible, sort_hidden, marked_done, sorts_none, sorts_some, type_done, shape_sort, shape_variable, shape_function, rows_start, rows_again, rows_end, rules)
