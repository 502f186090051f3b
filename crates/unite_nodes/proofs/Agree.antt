-- What tests tell of nodes, in the code's terms: p, q and r are answers, and the premises are what led there.
use mathlib.Core.Path.{◌≡◌, refl, sym, ◌∙◌}
use mathlib.Core.Bool.{Bool, true, false, ◌&&◌, and-true, and-false}
use mathlib.Core.List.{List}
use Prim.Native.Nat.{ℕ, ◌+◌, ◌-◌, ◌*◌, ◌/◌, ◌%◌, ◌<◌, ◌≤◌}
use native.Mathlib.Omega.{arith}
use lib.Dec.{eqb, ltb}
use lib.ListN.{get_or}
use borrow.Author.Rules.{rules}
use borrow.Author.Tests.{lt-ltb, le-ltb, eq-eqb, ne_eqb, eqb-true, eqb-false}
use Rattle.meaning.specs.Lists.{pick}
use Rattle.meaning.specs.Names.{same}
use Rattle.meaning.specs.Origins.{declared_sort, declared_function, declared_variable, Sort, hidden_sort, Head, visible_head, hidden_head, sort_shape, function_shape, variable_shape, same_section, hidden_section, same_declared, same_origin, same_sort, same_type, same_shape, same_head}
use Rattle.laws.specs.Decides.{names_decided, origins_decided, sorts_decided, types_decided}
use Rattle.text_names.specs.Word.{name_of}
use Rattle.tape.specs.Tape.{variable_role}
use Rattle.form_sections.specs.declared.Section.TheVariants.{Hidden}
use Rattle.form_rows.specs.declared.Origin.{Origin}
use Rattle.form_rows.specs.declared.Row.{Row}
use Rattle.form_rows.specs.Entries.{role_at, name_at, names_from, is_function_role, arity_at, sort_place, declared_at, home_at}
use Rattle.form_rows.specs.Kinds.{kind_at}
use Rattle.form_rows.specs.Rows.{section_of, origin_of, hidden_origin, sort_of, type_of, shape_of, item_of, row_at, row_size}
use Rattle.form.specs.Forms.{Node, function_node, variable_node, node_row, node_shape, node_of, node_in}
use Rattle.form.specs.Flat.{same_node}
use Rattle.unite_nodes.specs.Joined.{node_sort, functions_agree}

-- ---- `is_sort`

declared_as_sort : (text tape : List ℕ) (d : ℕ) (n : List ℕ)
    → same_declared (declared_at text tape d) (declared_sort n) ≡ pick (eqb (kind_at tape d) 0) (same (name_at text tape d) n) false
unfolding declared_at kind_at same_declared pick
declared_as_sort text tape d n = go (is_function_role (role_at tape d)) (eqb (role_at tape d) variable_role)
  where
    go : (p q : Bool) → same_declared (pick p (declared_function (name_at text tape d) (names_from text tape (d + 1) (arity_at tape d)) (name_at text tape (d + 1 + arity_at tape d)))
        (pick q (declared_variable (name_at text tape d) (name_at text tape (sort_place tape d))) (declared_sort (name_at text tape d)))) (declared_sort n)
        ≡ pick (eqb (pick p (arity_at tape d + 2) (pick q 1 0)) 0) (same (name_at text tape d) n) false
    go true q = rw (ne_eqb (arity_at tape d + 2) 0 (λ e. omega arith))
    go false true = refl
    go false false = refl

module _ (text tape : List ℕ) (o : Origin) (w : ℕ) where
  abbrev sort_is : Bool
  sort_is = same_sort (hidden_sort (origin_of text tape o)) (sort_of text tape w)

  pub sort_even : w % 2 ≡ 0 → false ≡ sort_is
  unfolding same_sort sort_of pick
  sort_even h = rw (eq-eqb (w % 2) 0 h)

  module _ (h : w % 2 ≡ 0 → ⊥) where
    abbrev homes : Bool
    homes = same (name_of text o.home) (name_of text (home_at tape (w / 2)))

    abbrev sections : Bool
    sections = same_section (section_of text o.section) hidden_section

    abbrev names : Bool
    names = same (name_at text tape o.place) (name_at text tape (w / 2))

    sort_odd : sort_is ≡ (homes && sections && pick (eqb (kind_at tape o.place) 0) names false)
    unfolding same_sort sort_of pick same_origin origin_of hidden_origin
    sort_odd = rw (ne_eqb (w % 2) 0 h, ← declared_as_sort text tape o.place (name_at text tape (w / 2)))

    module _ (p : Bool) (e : p ≡ names) where
      pub sort_names : p ≡ false → false ≡ sort_is
      unfolding pick
      sort_names f = sym (sort_odd ∙ rw (← e, f) (go (homes && sections) (eqb (kind_at tape o.place) 0)))
        where
          go : (a k : Bool) → (a && pick k false false) ≡ false
          go a true = and-false a
          go a false = and-false a

      module _ (k : ℕ) (f : p ≡ true) (ek : k ≡ kind_at tape o.place) where
        pub sort_kind : (k ≡ 0 → ⊥) → false ≡ sort_is
        unfolding pick
        sort_kind g = sym (sort_odd ∙ rw (← ek, ne_eqb k 0 g) (and-false (homes && sections)))

        module _ (g : k ≡ 0) (m : ℕ) (q : Bool) (em : m ≡ home_at tape (w / 2)) (eq : q ≡ same (name_of text o.home) (name_of text m)) where
          pub sort_home : q ≡ false → false ≡ sort_is
          sort_home i = sym (sort_odd ∙ rw (← em, ← eq, i))

          pub sort_told : (r : Bool) → q ≡ true → r ≡ same_section (section_of text o.section) (section_of text Hidden) → r ≡ sort_is
          unfolding pick section_of
          sort_told r i j = sym (sort_odd ∙ rw (← em, ← eq, i, ← ek, eq-eqb k 0 g, ← e, f, ← j) (and-true r))

-- ---- `same_node_sorts`

sort_swap : (x y : Sort) → same_sort x y ≡ same_sort y x
sort_swap x y = go (same_sort x y) (same_sort y x) refl refl
  where
    go : (p q : Bool) → same_sort x y ≡ p → same_sort y x ≡ q → same_sort x y ≡ same_sort y x
    go true q e f = let s = sorts_decided.equal x y e in rw s
    go false true e f = let s = sorts_decided.equal y x f in rw s
    go false false e f = e ∙ sym f

module _ (text tape : List ℕ) (a b : Row) (r : Bool) where
  abbrev sorts_one : Bool
  sorts_one = same_sort (node_sort text tape a) (node_sort text tape b)

  pub sorts_both : a.kind ≡ 0 → b.kind ≡ 0 → r ≡ same_origin (origin_of text tape a.origin) (origin_of text tape b.origin) → r ≡ sorts_one
  unfolding node_sort pick same_sort
  sorts_both h g e = rw (eq-eqb a.kind 0 h, eq-eqb b.kind 0 g) e

  pub sorts_left : a.kind ≡ 0 → (b.kind ≡ 0 → ⊥) → r ≡ same_sort (hidden_sort (origin_of text tape a.origin)) (sort_of text tape (get_or b.sorts 8 0))
      → r ≡ sorts_one
  unfolding node_sort pick
  sorts_left h g e = rw (eq-eqb a.kind 0 h, ne_eqb b.kind 0 g) e

  pub sorts_right : (a.kind ≡ 0 → ⊥) → b.kind ≡ 0 → r ≡ same_sort (hidden_sort (origin_of text tape b.origin)) (sort_of text tape (get_or a.sorts 8 0))
      → r ≡ sorts_one
  unfolding node_sort pick
  sorts_right h g e =
      rw (ne_eqb a.kind 0 h, eq-eqb b.kind 0 g)
      (e ∙ sort_swap (hidden_sort (origin_of text tape b.origin)) (sort_of text tape (get_or a.sorts 8 0)))

  pub sorts_neither : (a.kind ≡ 0 → ⊥) → (b.kind ≡ 0 → ⊥) → r ≡ same_sort (sort_of text tape (get_or a.sorts 8 0)) (sort_of text tape (get_or b.sorts 8 0))
      → r ≡ sorts_one
  unfolding node_sort pick
  sorts_neither h g e = rw (ne_eqb a.kind 0 h, ne_eqb b.kind 0 g) e

-- ---- `same_functions`

module _ (text tape : List ℕ) (u : ℕ) (a : Row) (v : ℕ) (b : Row) where
  abbrev agree_here : Bool
  agree_here = functions_agree text tape u a v b

  pub functions_bits : (u % 32 ≡ v % 32 → ⊥) → false ≡ agree_here
  unfolding functions_agree pick
  functions_bits h = rw (ne_eqb (u % 32) (v % 32) h)

  module _ (p : Bool) (h : u % 32 ≡ v % 32) (e : p ≡ same_shape (shape_of text tape a.kind a.sorts) (shape_of text tape b.kind b.sorts)) where
    pub functions_shapes : p ≡ false → false ≡ agree_here
    unfolding functions_agree pick
    functions_shapes f = rw (eq-eqb (u % 32) (v % 32) h, ← e, f)

    pub functions_names : (r : Bool) → p ≡ true → u % 32 < 16 → r ≡ same (name_of text a.name) (name_of text b.name) → r ≡ agree_here
    unfolding functions_agree pick
    functions_names r f l k = rw (eq-eqb (u % 32) (v % 32) h, ← e, f, lt-ltb (u % 32) 16 l) k

    pub functions_origins : (r : Bool) → p ≡ true → 16 ≤ u % 32 → r ≡ same_origin (origin_of text tape a.origin) (origin_of text tape b.origin) → r ≡ agree_here
    unfolding functions_agree pick
    functions_origins r f l k = rw (eq-eqb (u % 32) (v % 32) h, ← e, f, le-ltb (u % 32) 16 l) k

-- ---- `same_at_nodes`

-- a row that is no function, at a node
pub node_plain : (text tape : List ℕ) (visible : Bool) (k : ℕ) (r : Row) → r.kind < 2
    → node_of visible k (item_of text tape r) ≡ variable_node (origin_of text tape r.origin) (node_sort text tape r)
unfolding node_of node_shape item_of shape_of pick node_sort
node_plain text tape visible k r h = go (eqb r.kind 0) (eqb r.kind 1) refl refl
  where
    go : (p q : Bool) → eqb r.kind 0 ≡ p → eqb r.kind 1 ≡ q
        → node_shape visible k (item_of text tape r)
        (pick p sort_shape (pick q (variable_shape (sort_of text tape (get_or r.sorts 8 0))) (function_shape (type_of text tape (r.kind - 2) r.sorts))))
        ≡ variable_node (origin_of text tape r.origin) (pick p (hidden_sort (origin_of text tape r.origin)) (sort_of text tape (get_or r.sorts 8 0)))
    go true q e f = refl
    go false true e f = refl
    go false false e f = let x = eqb-false r.kind 0 e in let y = eqb-false r.kind 1 f in absurd (omega arith)

module _ (text tape : List ℕ) (r : Row) (h : 2 ≤ r.kind) where
  function_type : shape_of text tape r.kind r.sorts ≡ function_shape (type_of text tape (r.kind - 2) r.sorts)
  unfolding shape_of pick
  function_type = rw (ne_eqb r.kind 0 (λ e. omega arith), ne_eqb r.kind 1 (λ e. omega arith))

  abbrev head_at : Bool → Head
  head_at visible =
      pick visible (visible_head (name_of text r.name) (type_of text tape (r.kind - 2) r.sorts))
      (hidden_head (origin_of text tape r.origin) (type_of text tape (r.kind - 2) r.sorts))

  node_function : (visible : Bool) (k : ℕ) → node_of visible k (item_of text tape r) ≡ function_node (head_at visible) k
  unfolding node_of node_shape item_of
  node_function visible k = rw function_type

same_bits : (u v : ℕ) → u / 16 % 2 ≡ v / 16 % 2 → eqb (u % 32) (v % 32) ≡ eqb (u % 16) (v % 16)
same_bits u v h = go (eqb (u % 16) (v % 16)) refl
  where
    go : (b : Bool) → eqb (u % 16) (v % 16) ≡ b → eqb (u % 32) (v % 32) ≡ b
    go true e = let f = eqb-true (u % 16) (v % 16) e in eq-eqb (u % 32) (v % 32) (omega arith)
    go false e = let f = eqb-false (u % 16) (v % 16) e in ne_eqb (u % 32) (v % 32) (λ q. f (omega arith))

module _ (text tape : List ℕ) (u : ℕ) (a : Row) (v : ℕ) (b : Row) where
  abbrev nodes_one : Bool
  nodes_one = same_node (node_of (eqb (u / 16 % 2) 0) (u % 16) (item_of text tape a)) (node_of (eqb (v / 16 % 2) 0) (v % 16) (item_of text tape b))

  module _ (h : a.kind < 2) where
    module _ (g : b.kind < 2) (q : Bool) (e : q ≡ same_origin (origin_of text tape a.origin) (origin_of text tape b.origin)) where
      pub plain_apart : q ≡ false → false ≡ nodes_one
      unfolding same_node
      plain_apart f = rw (node_plain text tape (eqb (u / 16 % 2) 0) (u % 16) a h, node_plain text tape (eqb (v / 16 % 2) 0) (v % 16) b g, ← e, f)

      pub plain_told : (r : Bool) → q ≡ true → r ≡ same_sort (node_sort text tape a) (node_sort text tape b) → r ≡ nodes_one
      unfolding same_node
      plain_told r f t = rw (node_plain text tape (eqb (u / 16 % 2) 0) (u % 16) a h, node_plain text tape (eqb (v / 16 % 2) 0) (v % 16) b g, ← e, f) t

    pub plain_function : 2 ≤ b.kind → false ≡ nodes_one
    unfolding same_node
    plain_function g = rw (node_plain text tape (eqb (u / 16 % 2) 0) (u % 16) a h, node_function text tape b g (eqb (v / 16 % 2) 0) (v % 16))

  module _ (h : 2 ≤ a.kind) where
    pub function_plain : b.kind < 2 → false ≡ nodes_one
    unfolding same_node
    function_plain g = rw (node_function text tape a h (eqb (u / 16 % 2) 0) (u % 16), node_plain text tape (eqb (v / 16 % 2) 0) (v % 16) b g)

    module _ (g : 2 ≤ b.kind) where
      abbrev types_one : Bool
      types_one = same_type (type_of text tape (a.kind - 2) a.sorts) (type_of text tape (b.kind - 2) b.sorts)

      abbrev names_one : Bool
      names_one = same (name_of text a.name) (name_of text b.name)

      abbrev origins_one : Bool
      origins_one = same_origin (origin_of text tape a.origin) (origin_of text tape b.origin)

      agree_by_type : functions_agree text tape u a v b
          ≡ pick (eqb (u % 32) (v % 32)) (pick types_one (pick (ltb (u % 32) 16) names_one origins_one) false) false
      unfolding functions_agree same_shape
      agree_by_type = rw (function_type text tape a h, function_type text tape b g)

      bools : (e s n : Bool) → pick e (pick s n false) false ≡ (e && (n && s))
      unfolding pick
      bools true true n = sym (and-true n)
      bools true false n = sym (and-false n)
      bools false s n = refl

      functions_one : functions_agree text tape u a v b ≡ (eqb (u % 16) (v % 16) && same_head (head_at text tape a h (eqb (u / 16 % 2) 0)) (head_at text tape b g (eqb (v / 16 % 2) 0)))
      unfolding same_head pick
      functions_one = agree_by_type ∙ go (eqb (u / 16 % 2) 0) (eqb (v / 16 % 2) 0) refl refl
        where
          go : (p q : Bool) → eqb (u / 16 % 2) 0 ≡ p → eqb (v / 16 % 2) 0 ≡ q
              → pick (eqb (u % 32) (v % 32)) (pick types_one (pick (ltb (u % 32) 16) names_one origins_one) false) false
              ≡ (eqb (u % 16) (v % 16) && same_head (head_at text tape a h p) (head_at text tape b g q))
          go true true e f =
              let x = eqb-true (u / 16 % 2) 0 e in
              let y = eqb-true (v / 16 % 2) 0 f in
              rw (lt-ltb (u % 32) 16 (omega arith), same_bits u v (x ∙ sym y)) (bools (eqb (u % 16) (v % 16)) types_one names_one)
          go true false e f =
              let x = eqb-true (u / 16 % 2) 0 e in
              let y = eqb-false (v / 16 % 2) 0 f in
              rw (ne_eqb (u % 32) (v % 32) (λ z. omega arith)) (sym (and-false (eqb (u % 16) (v % 16))))
          go false true e f =
              let x = eqb-false (u / 16 % 2) 0 e in
              let y = eqb-true (v / 16 % 2) 0 f in
              rw (ne_eqb (u % 32) (v % 32) (λ z. omega arith)) (sym (and-false (eqb (u % 16) (v % 16))))
          go false false e f =
              let x = eqb-false (u / 16 % 2) 0 e in
              let y = eqb-false (v / 16 % 2) 0 f in
              rw (le-ltb (u % 32) 16 (omega arith), same_bits u v (omega arith)) (bools (eqb (u % 16) (v % 16)) types_one origins_one)

      pub functions_told : (r : Bool) → r ≡ functions_agree text tape u a v b → r ≡ nodes_one
      unfolding same_node
      functions_told r t =
          rw (node_function text tape a h (eqb (u / 16 % 2) 0) (u % 16), node_function text tape b g (eqb (v / 16 % 2) 0) (v % 16)) (t ∙ functions_one)

-- ---- `node_row`, `same_node`

module _ (w : List ℕ) (visible hidden v : ℕ) (r : Row) where
  pub row_visible : v / 16 % 2 ≡ 0 → r ≡ row_at w (visible + v / 32 * row_size) → r ≡ node_row w visible hidden v
  unfolding node_row pick
  row_visible h e = rw (eq-eqb (v / 16 % 2) 0 h) e

  pub row_hidden : (v / 16 % 2 ≡ 0 → ⊥) → r ≡ row_at w (hidden + v / 32 * row_size) → r ≡ node_row w visible hidden v
  unfolding node_row pick
  row_hidden h e = rw (ne_eqb (v / 16 % 2) 0 h) e

pub node_self : (n : Node) → same_node n n ≡ true
unfolding same_node same_head
node_self (function_node (visible_head f t) k) = rw (eq-eqb k k refl, names_decided.self f, types_decided.self t)
node_self (function_node (hidden_head o t) k) = rw (eq-eqb k k refl, origins_decided.self o, types_decided.self t)
node_self (variable_node o s) = rw (origins_decided.self o, sorts_decided.self s)

module _ (text tape w : List ℕ) (visible hidden u v : ℕ) where
  pub node_equal : u ≡ v → true ≡ same_node (node_in text tape w visible hidden u) (node_in text tape w visible hidden v)
  node_equal h = rw (h, node_self (node_in text tape w visible hidden v))

  pub node_told : (a b : Row) (r : Bool) → a ≡ node_row w visible hidden u → b ≡ node_row w visible hidden v
      → r ≡ same_node (node_of (eqb (u / 16 % 2) 0) (u % 16) (item_of text tape a)) (node_of (eqb (v / 16 % 2) 0) (v % 16) (item_of text tape b))
      → r ≡ same_node (node_in text tape w visible hidden u) (node_in text tape w visible hidden v)
  unfolding node_in
  node_told a b r e f g = rw (← e, ← f) g

pub ruleset sorts = (sort_even, sort_names, sort_kind, sort_home, sort_told, sorts_both, sorts_left, sorts_right, sorts_neither)

pub ruleset functions = (functions_bits, functions_shapes, functions_names, functions_origins, plain_apart, plain_told, plain_function, function_plain)

pub ruleset nodes = (functions_told, row_visible, row_hidden, node_equal, node_told)

pub ruleset agrees = (sorts, functions, nodes, rules)
