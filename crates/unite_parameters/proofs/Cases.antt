-- Laws of one parameter in two normal forms, in the code's terms.
use mathlib.Core.Path.{◌≡◌, refl, sym, ap, ◌∙◌}
use Prim.Native.Nat.{ℕ, suc, ◌+◌, ◌-◌, ◌*◌, ◌/◌, ◌%◌, ◌≤◌, ◌<◌}
use mathlib.Core.Bool.{Bool, true, false, not}
use mathlib.Core.List.{List, ◌∷◌}
use native.Mathlib.Omega.{arith}
use lib.Dec.{ltb}
use lib.ListN.{length, get_or, take, drop, length-take, drop_of_length-le}
use lib.Seq.{drop-cons, get_or-take}
use borrow.Author.Rules.{rules}
use borrow.Author.Tests.{eq-eqb, ne_eqb, lt-ltb, le-ltb}
use Rattle.meaning.specs.Lists.{pick, any, before}
use Rattle.meaning.specs.Names.{Name}
use Rattle.meaning.specs.Origins.{same_origin, Shape, Item, in_parameter, one_item}
use Rattle.meaning.specs.Normal.{Visible, origin_of, same_slot, origins_agree, sort_agrees, shape_agrees, same_formals, is_parameter_of}
use Rattle.text_names.specs.Word.{name_of}
use Rattle.form_rows.specs.declared.Row.{Row}
use Rattle.form_rows.specs.Rows.{section_of, origin_of as row_origin, sort_of, type_of, shape_of, item_of, row_at, row_size}
use Rattle.form.specs.declared.Form.{Form}
use Rattle.form.specs.Forms.{slot_at, slots_at, items_at, visible_at}
use Rattle.clause_checks.specs.Searches.{sort_called}
use Rattle.clause_checks.specs.SortOrigins.{origin_among, origin_there, origin_nowhere}
use Rattle.form_walks.specs.Shapes.{shape_function, by_kind}
use Rattle.form_walks.specs.Rows.{Finding, find_start, find_again, nowhere, somewhere, found_below}
use Rattle.clause_checks.specs.Walks.{all_pass, inputs_pass}
use Rattle.unite_parameters.specs.Formals.{other, formals_among, none_other, same_both}

-- ---- the rows that stand in the parameter

module _ (text tape w : List ℕ) (p : ℕ) (f g : Form) (typed : Bool) where
  abbrev same_type : Shape → Bool
  same_type s = shape_agrees (visible_at text tape w f) (visible_at text tape w g) s

  abbrev test : Item → Bool
  test = other typed (name_of text p) (visible_at text tape w f) (visible_at text tape w g)

  module _ (x : Row) (b : Bool) (e : b ≡ in_parameter (name_of text p) (section_of text x.standing)) where
    abbrev item : Item
    item = item_of text tape x

    abbrev shape : Shape
    shape = shape_of text tape x.kind x.sorts

    pub other_elsewhere : b ≡ false → false ≡ test item
    unfolding other pick item_of
    other_elsewhere h = rw (← e, h)

    module _ (at : ℕ) (h : b ≡ true) (q : at ≡ before (one_item item) (items_at text tape w g.visible g.visible_count)) where
      below : any (one_item item) (visible_at text tape w g).items ≡ ltb at g.visible_count
      unfolding visible_at
      below = sym (found_below text tape w g.visible g.visible_count at (one_item item) q)

      sought : test item ≡ pick (ltb at g.visible_count) (pick typed (not (same_type shape)) false) true
      unfolding other pick item_of
      sought = rw (← e, h) (ap (λ (c : Bool). pick c (pick typed (not (same_type shape)) false) true) below)

      pub other_missing : g.visible_count ≤ at → true ≡ test item
      unfolding pick
      other_missing l = rw (sought, le-ltb at g.visible_count l)

      module _ (l : at < g.visible_count) where
        had : test item ≡ pick typed (not (same_type shape)) false
        unfolding pick
        had = rw (sought, lt-ltb at g.visible_count l)

        pub other_untyped : typed ≡ false → false ≡ test item
        unfolding pick
        other_untyped k = rw (had, k)

        pub other_same : (r : Bool) → typed ≡ true → r ≡ same_type shape → r ≡ true → false ≡ test item
        unfolding pick
        other_same r k d z = rw (had, k, ← d, z)

        pub other_changed : (r : Bool) → typed ≡ true → r ≡ same_type shape → r ≡ false → true ≡ test item
        unfolding pick
        other_changed r k d z = rw (had, k, ← d, z)

  -- all of them: those before i do not pass the test
  module _ (i : ℕ) (inv : Finding test text tape w f.visible f.visible_count i) where
    abbrev all : Bool
    all = formals_among typed (name_of text p) (visible_at text tape w f) (visible_at text tape w g)

    among : not (any test (items_at text tape w f.visible f.visible_count)) ≡ all
    unfolding visible_at
    among = none_other (name_of text p) typed (visible_at text tape w f) (visible_at text tape w g)

    pub among_all : f.visible_count ≤ i → true ≡ all
    among_all h = ap not (nowhere test text tape w f.visible f.visible_count i h inv) ∙ among

    pub among_not : (y : Row) (r : Bool) → i < f.visible_count → y ≡ row_at w (f.visible + i * row_size) → r ≡ test (item_of text tape y) → r ≡ true
        → false ≡ all
    among_not y r h e q z = ap not (somewhere test text tape w f.visible f.visible_count i y r h inv e q z) ∙ among

-- ---- the sort of one name in both

module _ (text tape w : List ℕ) (f g : Form) (a i j : ℕ)
    (e : i ≡ before (sort_called (name_of text a)) (items_at text tape w f.visible f.visible_count))
    (l : j ≡ before (sort_called (name_of text a)) (items_at text tape w g.visible g.visible_count)) where
  abbrev asked : Bool
  asked = origins_agree (origin_of (visible_at text tape w f) (name_of text a)) (origin_of (visible_at text tape w g) (name_of text a))

  told : asked
      ≡ origins_agree (origin_among (items_at text tape w f.visible f.visible_count) (name_of text a))
      (origin_among (items_at text tape w g.visible g.visible_count) (name_of text a))
  unfolding origin_of origin_among visible_at
  told = refl

  pub agree_both : (r : Bool) → i < f.visible_count → j < g.visible_count
      → r ≡ same_origin (row_origin text tape (row_at w (f.visible + i * row_size)).origin)
      (row_origin text tape (row_at w (g.visible + j * row_size)).origin)
      → r ≡ asked
  unfolding origins_agree
  agree_both r h k q =
      rw (told, origin_there text tape w f.visible f.visible_count a i e h, origin_there text tape w g.visible g.visible_count a j l k) q

  pub agree_first : i < f.visible_count → g.visible_count ≤ j → true ≡ asked
  unfolding origins_agree
  agree_first h k =
      rw (told, origin_there text tape w f.visible f.visible_count a i e h, origin_nowhere text tape w g.visible g.visible_count a j l k)

  pub agree_none : f.visible_count ≤ i → true ≡ asked
  unfolding origins_agree
  agree_none h = rw (told, origin_nowhere text tape w f.visible f.visible_count a i e h)

-- ---- the sorts of a type

module _ (text tape : List ℕ) (u v : Visible) where
  pub sort_visible : (s : ℕ) (r : Bool) → s % 2 ≡ 0 → r ≡ origins_agree (origin_of u (name_of text (s / 2))) (origin_of v (name_of text (s / 2)))
      → r ≡ sort_agrees u v (sort_of text tape s)
  unfolding sort_of sort_agrees pick
  sort_visible s r h e = rw (eq-eqb (s % 2) 0 h) e

  pub sort_hidden : (s : ℕ) → (s % 2 ≡ 0 → ⊥) → true ≡ sort_agrees u v (sort_of text tape s)
  unfolding sort_of sort_agrees pick
  sort_hidden s h = rw (ne_eqb (s % 2) 0 h)

  module _ (kind : ℕ) (sorts : List ℕ) where
    pub shape_other : kind < 2 → true ≡ shape_agrees u v (shape_of text tape kind sorts)
    unfolding shape_agrees
    shape_other h =
        by_kind text tape kind sorts (λ (s : Shape). true ≡ shape_agrees u v s) (λ e. refl) (λ e. refl) (λ l. absurd (omega (arith, h, l)))

    abbrev passes : List ℕ → Bool
    passes = inputs_pass text tape (sort_agrees u v)

    abbrev inputs : List ℕ
    inputs = take (kind - 2) sorts

    pub shape_sorts : (r : Bool) → 2 ≤ kind → r ≡ passes (get_or sorts 8 0 ∷ inputs) → r ≡ shape_agrees u v (shape_of text tape kind sorts)
    unfolding shape_agrees inputs_pass all_pass type_of
    shape_sorts r h e = rw (shape_function text tape kind sorts h) e

    -- the output and the inputs before `at` pass, so that all do where those from `at` on do
    pub record Agreeing (at next : ℕ) : Type 0 where
      pub place : at < 9
      pub inside : next ≤ 9
      pub left : passes (get_or sorts 8 0 ∷ inputs) ≡ passes (get_or sorts at 0 ∷ drop next inputs)

    pub agreeing_start : Agreeing 8 0
    agreeing_start = record { place = omega arith; inside = omega arith; left = refl }

    module _ (at next : ℕ) (inv : Agreeing at next) (r : Bool) (e : r ≡ sort_agrees u v (sort_of text tape (get_or sorts at 0))) where
      pub agreeing_not : r ≡ false → false ≡ passes (get_or sorts 8 0 ∷ inputs)
      unfolding inputs_pass all_pass any pick
      agreeing_not q = sym (inv.left ∙ rw (← e, q))

      module _ (q : r ≡ true) where
        behind : passes (get_or sorts 8 0 ∷ inputs) ≡ passes (drop next inputs)
        unfolding inputs_pass all_pass any pick
        behind = inv.left ∙ rw (← e, q)

        ended : length inputs ≤ next → true ≡ passes (get_or sorts 8 0 ∷ inputs)
        unfolding inputs_pass all_pass any
        ended h = sym (behind ∙ rw (drop_of_length-le inputs h))

        pub agreeing_all : length sorts ≡ 9 → next ≡ 9 → true ≡ passes (get_or sorts 8 0 ∷ inputs)
        agreeing_all nine h = ended (omega (arith, length-take (kind - 2) sorts, nine, h))

        pub agreeing_end : kind ≤ next + 2 → true ≡ passes (get_or sorts 8 0 ∷ inputs)
        agreeing_end h = ended (omega (arith, length-take (kind - 2) sorts, h))

        pub agreeing_again : length sorts ≡ 9 → (next ≡ 9 → ⊥) → next + 2 < kind → Agreeing next (next + 1)
        agreeing_again nine h l =
            let more : next + 1 ≡ suc next = omega arith in
            let first = drop-cons inputs next 0 (omega (arith, length-take (kind - 2) sorts, nine, inv.inside, h, l)) in
            record {
              place = omega (arith, inv.inside, h);
              inside = omega (arith, inv.inside, h);
              left = rw (more, ← get_or-take (kind - 2) sorts next 0 (omega (arith, l)), ← first) behind;
            }

-- ---- the parameter in both

module _ (p : Name) (u v : Visible) (a : Bool) (e : a ≡ formals_among true p u v) where
  pub formals_not : a ≡ false → false ≡ same_formals p u v
  formals_not h = rw (same_both p u v, ← e, h)

  pub formals_back : (r : Bool) → a ≡ true → r ≡ formals_among false p v u → r ≡ same_formals p u v
  formals_back r h q = rw (same_both p u v, ← e, h) q

-- ---- whether it is one of f's

module _ (text tape w : List ℕ) (f : Form) (v : Visible) (q : ℕ) (b : Bool)
    (e : b ≡ any (same_slot (slot_at text w q)) (slots_at text w f.parameters f.parameter_count)) where
  abbrev wanted : Bool
  wanted = is_parameter_of (visible_at text tape w f) v (slot_at text w q)

  there : b ≡ any (same_slot (slot_at text w q)) (visible_at text tape w f).parameters
  unfolding visible_at
  there = e

  pub parameter_none : b ≡ false → false ≡ wanted
  unfolding is_parameter_of
  parameter_none h = rw (← there, h)

  named : (p : ℕ) → p ≡ get_or w q 0 → name_of text p ≡ (slot_at text w q).name
  unfolding slot_at
  named p g = ap (name_of text) g

  pub parameter_one : (p : ℕ) (r : Bool) → b ≡ true → p ≡ get_or w q 0 → r ≡ same_formals (name_of text p) (visible_at text tape w f) v → r ≡ wanted
  unfolding is_parameter_of
  parameter_one p r h g k = rw (← there, h) (k ∙ ap (λ (a : Name). same_formals a (visible_at text tape w f) v) (named p g))

pub ruleset rows = (other_elsewhere, other_missing, other_untyped, other_same, other_changed, rules)

pub ruleset walks = (find_start, find_again, among_all, among_not, rules)

pub ruleset sorts = (agree_both, agree_first, agree_none, sort_visible, sort_hidden, shape_other, shape_sorts, rules)

pub ruleset turns = (agreeing_start, agreeing_again, agreeing_not, agreeing_all, agreeing_end, rules)

pub ruleset both = (formals_not, formals_back, parameter_none, parameter_one, rules)
