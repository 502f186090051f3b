-- What the words of typed terms mean: the node of a word, the row that it points at, what a found row settles; what the entries spell and
-- how a term begins; and where nodes are written, what stays.
use Rattle.std.specs.Prelude.{◌≡◌, Bool, false, List, [], ◌∷◌, ◌++◌, ℕ, suc, ◌+◌, ◌-◌, ◌*◌, ◌/◌, ◌%◌, ◌<◌, ◌≤◌, length, get_or, set, replicate}
use Rattle.std.proofs.Math.Path.{refl, sym}
use Rattle.std.proofs.Common.{ap, ◌∙◌, inl, true≢false, add-zero, arith, eq-eqb, ne_eqb, eqb-true, le-ltb, ltb-true, ltb-false}
use Rattle.std.proofs.Math.Bool.{true}
use Rattle.std.proofs.lemmas.Bool.{false≢true}
use Rattle.std.proofs.Math.Option.{Option, some}
use Rattle.std.proofs.Math.Dec.{eqb, ltb}
use Rattle.std.proofs.lemmas.List.Edits.{sets}
use Rattle.std.proofs.lemmas.List.{set_comm}
use Rattle.meaning.specs.Lists.{pick}
use Rattle.meaning.specs.Names.{Name, is_operator}
use Rattle.meaning.specs.Syntax.{Term, node, Terms, no_terms, ◌then◌}
use Rattle.meaning.specs.Origins.{Section, export_section, hidden_section, parameter_section, Origin, Sort, FunctionType, visible_head, hidden_head, var, app, Shape, function_shape, variable_shape, is_sort, is_function, Item}
use Rattle.meaning.specs.Typing.{Typed, TypedList, head_of, of_shape, found_with, no_arguments, takes, is_variable}
use Rattle.tape.specs.Tape.{Entry, entry, alone_role, head_role, close_role, prefix_role, infix_role, role_with, closing, flat_node}
use Rattle.form_rows.specs.Entries.{role_at, name_at}
use Rattle.form_rows.specs.Rows.{sort_of, type_of, shape_of, item_of, row_at, row_size}
use Rattle.form.specs.Memory.{Kept}
use Rattle.form.specs.FormLaws.{Apart, kept_then, kept_wider, kept_sets, kept_same, items_same, tape_same}
use Rattle.form.specs.Forms.{items_at, Node, how_many, flat_term, flat_terms, node_shape, node_of}
use Rattle.form_walks.specs.Shapes.{by_kind}
use Rattle.own_finding.specs.declared.Known.{Known}
use Rattle.own_finding.specs.Arguments.{node_word, arguments_of, closers_of}
use Rattle.own_terms.specs.Typing.{tape_in, items_in, is_opening}
use Rattle.form_rows.specs.RowLaws.{row_same}
use Rattle.tape.specs.Tape as on_tape

-- ---- lists and stores

pub sets_append : (a b w : List ℕ) (i : ℕ) → sets (sets w i a) (i + length a) b ≡ sets w i (a ++ b)
sets_append [] b w i = ap (λ (j : ℕ). sets w j b) (add-zero i)
sets_append (x ∷ a) b w i =
    let e : i + suc (length a) ≡ suc i + length a = omega arith in
    ap (λ (j : ℕ). sets (sets (set w i x) (suc i) a) j b) e ∙ sets_append a b (set w i x) (suc i)

-- the head is stored after what comes behind it
pub sets_head : (vs w : List ℕ) (i j v : ℕ) → i < j → set (sets w j vs) i v ≡ sets (set w i v) j vs
sets_head [] w i j v h = refl
sets_head (x ∷ vs) w i j v h =
    sets_head vs (set w j x) i (suc j) v (omega arith)
    ∙ ap (λ (u : List ℕ). sets u (suc j) vs) (set_comm w j i x v (λ e. absurd (omega arith)))

-- ---- what stands at a node

-- where an item stands tells whether it is visible
unfoldable pub visibly : Section → Bool
visibly export_section = true
visibly (parameter_section p) = true
visibly hidden_section = false

head_visibly : (s : Section) (f : Name) (o : Origin) (t : FunctionType) → head_of s f o t ≡ pick (visibly s) (visible_head f t) (hidden_head o t)
unfolding head_of visibly pick
head_visibly export_section f o t = refl
head_visibly (parameter_section p) f o t = refl
head_visibly hidden_section f o t = refl

-- the row among the known ones that a node's word points at
unfoldable pub known_row : Known → ℕ → ℕ
known_row k v = pick (eqb (v / 16 % 2) 0) (v / 32) (k.visible + (v / 32 - k.hidden))

-- the shape that passed a test
module _ (text tape : List ℕ) (kind : ℕ) (sorts : List ℕ) where
  function_here : (ss : List Sort) → takes ss (shape_of text tape kind sorts) ≡ true
      → shape_of text tape kind sorts ≡ function_shape (type_of text tape (kind - 2) sorts)
  unfolding takes
  function_here ss =
      by_kind text tape kind sorts (λ (s : Shape). takes ss s ≡ true → s ≡ function_shape (type_of text tape (kind - 2) sorts))
      (λ e h. absurd (false≢true h)) (λ e h. absurd (false≢true h)) (λ l h. refl)

  variable_here : is_variable (shape_of text tape kind sorts) ≡ true → shape_of text tape kind sorts ≡ variable_shape (sort_of text tape (get_or sorts 8 0))
  unfolding is_variable
  variable_here =
      by_kind text tape kind sorts (λ (s : Shape). is_variable s ≡ true → s ≡ variable_shape (sort_of text tape (get_or sorts 8 0)))
      (λ e h. absurd (false≢true h)) (λ e h. refl) (λ l h. absurd (false≢true h))

  output_here : (n : ℕ) → sort_of text tape (get_or sorts 8 0) ≡ (type_of text tape n sorts).output
  unfolding type_of
  output_here n = refl

module _ (text : List ℕ) (k : Known) (w₀ : List ℕ) where
  -- the item of a known row, and the node of a word
  abbrev pub known_item : ℕ → Item
  known_item row = item_of text (tape_in k w₀) (row_at w₀ (k.base + row * row_size))

  unfoldable pub node_here : ℕ → Node
  node_here v = node_of (eqb (v / 16 % 2) 0) (v % 16) (known_item (known_row k v))

  -- what the word of a row's node tells: the row, its number of arguments, and whether the row is a visible one
  record Told (row n v : ℕ) : Type 0 where
    pub row_is : known_row k v ≡ row
    pub arguments : v % 16 ≡ n
    pub seen : eqb (v / 16 % 2) 0 ≡ ltb row k.visible

  word_told : (row n : ℕ) → n ≤ 9 → Told row n (node_word k row n)
  unfolding node_word known_row pick
  word_told row n l = go (ltb row k.visible) refl
    where
      told : (t : Bool) (v : ℕ) → ltb row k.visible ≡ t → eqb (v / 16 % 2) 0 ≡ t → v % 16 ≡ n → pick t (v / 32) (k.visible + (v / 32 - k.hidden)) ≡ row → Told row n v
      told t v e a b c = record { row_is = rw a c; arguments = b; seen = a ∙ sym e }

      go : (t : Bool) → ltb row k.visible ≡ t → Told row n (pick t (row * 32 + n) ((k.hidden + (row - k.visible)) * 32 + 16 + n))
      go true e =
          let a : (row * 32 + n) / 16 % 2 ≡ 0 = omega arith in
          told true (row * 32 + n) e (eq-eqb ((row * 32 + n) / 16 % 2) 0 a) (omega arith) (omega arith)
      go false e =
          let h = ltb-false row k.visible e in
          let v = (k.hidden + (row - k.visible)) * 32 + 16 + n in
          let a : v / 16 % 2 ≡ 1 = omega arith in
          let c : k.visible + (v / 32 - k.hidden) ≡ row = omega arith in
          told false v e (ne_eqb (v / 16 % 2) 0 (λ z. absurd (omega arith))) (omega arith) c

  pub node_settled : (row n : ℕ) → n ≤ 9 → node_here (node_word k row n) ≡ node_of (ltb row k.visible) n (known_item row)
  unfolding node_here
  node_settled row n l = let t = word_told row n l in rw (t.seen, t.arguments, t.row_is)

  -- the word points at a known row that can stand there: a function, or else a variable, which is hidden and stands alone
  pub record Pointed (v : ℕ) : Type 0 where
    pub inside : known_row k v < k.count
    pub seen : v / 16 % 2 ≡ 0 → known_row k v < k.visible
    pub no_sort : is_sort (known_item (known_row k v)).shape ≡ false
    pub alone : is_function (known_item (known_row k v)).shape ≡ false → v % 16 ≡ 0
    pub behind : is_function (known_item (known_row k v)).shape ≡ false → eqb (v / 16 % 2) 0 ≡ false

  -- a row that can stand at a node with n arguments
  pub record Standing (row n : ℕ) : Type 0 where
    pub no_sort : is_sort (known_item row).shape ≡ false
    pub alone : is_function (known_item row).shape ≡ false → n ≡ 0
    pub behind : is_function (known_item row).shape ≡ false → k.visible ≤ row

  pub word_pointed : (row n : ℕ) → n ≤ 9 → row < k.count → Standing row n → Pointed (node_word k row n)
  word_pointed row n l h s =
      let t = word_told row n l in
      record {
        inside = rw t.row_is h;
        seen = λ e. rw t.row_is (ltb-true row k.visible (sym t.seen ∙ eq-eqb (node_word k row n / 16 % 2) 0 e));
        no_sort = rw t.row_is s.no_sort;
        alone = rw t.row_is (λ e. t.arguments ∙ s.alone e);
        behind = rw t.row_is (λ e. t.seen ∙ le-ltb row k.visible (s.behind e));
      }

  item_shape : (row : ℕ)
      → (known_item row).shape ≡ shape_of text (tape_in k w₀) (row_at w₀ (k.base + row * row_size)).kind (row_at w₀ (k.base + row * row_size)).sorts
  unfolding item_of
  item_shape row = refl

  -- a function that takes the arguments, and a variable, as a typed term and as a node
  pub record Settles (row : ℕ) (ts : TypedList) (r : Option Typed) : Type 0 where
    pub result : Typed
    pub found : r ≡ some result
    pub sort : sort_of text (tape_in k w₀) (get_or (row_at w₀ (k.base + row * row_size)).sorts 8 0) ≡ result.sort
    pub flat : (node_of (ltb row k.visible) (how_many ts.terms) (known_item row) ∷ flat_terms ts.terms) ≡ flat_term result.term
    pub standing : Standing row (how_many ts.terms)

  pub function_settles : (row : ℕ) (ts : TypedList) (ss : List Sort) → visibly (known_item row).standing ≡ ltb row k.visible
      → takes ss (known_item row).shape ≡ true → Settles row ts (found_with ts (some (known_item row)))
  unfolding found_with of_shape node_of node_shape flat_term is_sort is_function
  function_settles row ts ss stands p =
      let r = row_at w₀ (k.base + row * row_size) in
      let t = type_of text (tape_in k w₀) (r.kind - 2) r.sorts in
      let i = known_item row in
      let e : i.shape ≡ function_shape t = item_shape row ∙ function_here text (tape_in k w₀) r.kind r.sorts ss (rw (item_shape row) at p) in
      record {
        result = record { term = app (head_of i.standing i.name i.origin t) ts.terms; sort = t.output };
        found = rw e;
        sort = output_here text (tape_in k w₀) r.kind r.sorts (r.kind - 2);
        flat = rw (e, head_visibly i.standing i.name i.origin t, stands);
        standing = record { no_sort = rw e; alone = λ h. absurd (true≢false (rw e at h)); behind = λ h. absurd (true≢false (rw e at h)) };
      }

  pub variable_settles : (row : ℕ) → is_variable (known_item row).shape ≡ true → k.visible ≤ row → Settles row no_arguments (found_with no_arguments (some (known_item row)))
  unfolding found_with of_shape node_of node_shape flat_term flat_terms how_many no_arguments is_sort
  variable_settles row p b =
      let r = row_at w₀ (k.base + row * row_size) in
      let s = sort_of text (tape_in k w₀) (get_or r.sorts 8 0) in
      let i = known_item row in
      let e : i.shape ≡ variable_shape s = item_shape row ∙ variable_here text (tape_in k w₀) r.kind r.sorts (rw (item_shape row) at p) in
      record {
        result = record { term = var i.origin s; sort = s };
        found = rw e;
        sort = refl;
        flat = rw e;
        standing = record { no_sort = rw e; alone = λ h. refl; behind = λ h. b };
      }

-- ---- what the entries spell

module _ (text : List ℕ) (k : Known) (w₀ : List ℕ) where
  -- the entries from i on are those listed
  abbrev pub Spells : ℕ → List Entry → Type 0
  Spells i [] = Unit {0}
  Spells i (e ∷ es) = (i < k.tape) × (role_at (tape_in k w₀) i ≡ e.role) × (name_at text (tape_in k w₀) i ≡ e.name) × Spells (suc i) es

  pub spells_front : (xs ys : List Entry) (i : ℕ) → Spells i (xs ++ ys) → Spells i xs
  spells_front [] ys i s = tt
  spells_front (x ∷ xs) ys i s = (s.0, s.1, s.2, spells_front xs ys (suc i) s.3)

  pub spells_back : (xs ys : List Entry) (i : ℕ) → Spells i (xs ++ ys) → Spells (i + length xs) ys
  spells_back [] ys i s = rw (add-zero i) s
  spells_back (x ∷ xs) ys i s =
      let e : i + suc (length xs) ≡ suc i + length xs = omega arith in
      rw e (spells_back xs ys (suc i) s.3)

-- what the role tells of a name with n arguments: how many there may be, and what closes them
pub record Leads (role n : ℕ) : Type 0 where
  pub not_alone : eqb role alone_role ≡ false
  pub not_close : eqb role close_role ≡ false
  pub opens : is_opening role ≡ true
  pub some : eqb (arguments_of role) 0 ≡ false
  pub most : arguments_of role ≤ 9
  pub closed : closing role ≡ replicate (closers_of role) (entry close_role [])
  pub counted : closers_of role ≡ 0 → n ≡ arguments_of role
  pub uncounted : 0 < closers_of role → arguments_of role ≡ 9

pub leads : (f : Name) (n : ℕ) → Leads (role_with f (suc n)) (suc n)
unfolding role_with closing arguments_of closers_of is_opening pick
leads f n = go (is_operator f) (eqb (suc n) 1) refl (eqb (suc n) 2) refl
  where
    plain : Leads head_role (suc n)
    plain = record { not_alone = refl; not_close = refl; opens = refl; some = refl; most = omega arith; closed = refl; counted = λ z. absurd (omega arith); uncounted = λ z. refl }

    go : (o a : Bool) → eqb (suc n) 1 ≡ a → (b : Bool) → eqb (suc n) 2 ≡ b → Leads (pick o (pick a prefix_role (pick b infix_role head_role)) head_role) (suc n)
    go true true e b d = record {
      not_alone = refl;
      not_close = refl;
      opens = refl;
      some = refl;
      most = omega arith;
      closed = refl;
      counted = λ z. eqb-true (suc n) 1 e;
      uncounted = λ z. absurd (omega arith);
    }
    go true false e true d = record {
      not_alone = refl;
      not_close = refl;
      opens = refl;
      some = refl;
      most = omega arith;
      closed = refl;
      counted = λ z. eqb-true (suc n) 2 d;
      uncounted = λ z. absurd (omega arith);
    }
    go true false e false d = plain
    go false a e b d = plain

abbrev pub role_of : Name → Terms → ℕ
role_of f ts = role_with f (on_tape.how_many ts)

-- what closes the arguments
abbrev pub ending : ℕ → List Entry
ending c = replicate c (entry close_role [])

pub with_head : (f : Name) (x : Term) (xs : Terms)
    → on_tape.flat_term (node f (x then xs)) ≡ entry (role_of f (x then xs)) f ∷ (on_tape.flat_terms (x then xs) ++ ending (closers_of (role_of f (x then xs))))
unfolding on_tape.flat_term on_tape.how_many flat_node
with_head f x xs = let e = (leads f (on_tape.how_many xs)).closed in rw e

-- a term's first entry
pub record Begins (x : Term) : Type 0 where
  pub front : Entry
  pub more : List Entry
  pub same : on_tape.flat_term x ≡ front ∷ more
  pub role : eqb front.role close_role ≡ false
  pub opens : is_opening front.role ≡ true

pub begins : (x : Term) → Begins x
unfolding on_tape.flat_term on_tape.how_many flat_node is_opening pick
begins (node f no_terms) = record { front = entry alone_role f; more = []; same = refl; role = refl; opens = refl }
begins (node f (x then xs)) =
    let l = leads f (on_tape.how_many xs) in
    record { front = entry (role_of f (x then xs)) f; more = _; same = refl; role = l.not_close; opens = l.opens }

-- ---- where the nodes are written, and what stays

module _ (text : List ℕ) (k : Known) (w₀ : List ℕ) (q₀ e₀ : ℕ) where
  -- nodes are written from q₀ up to e₀, apart from the tape and the known rows; the visible ones stand in front of the hidden ones, and
  -- are no variables
  pub record Layout : Type 0 where
    pub tape : k.tape ≤ q₀
    pub rows : Apart q₀ e₀ k.base (k.base + k.count * row_size)
    pub inside : e₀ ≤ length w₀
    pub standing : (row : ℕ) → row < k.count → visibly (known_item text k w₀ row).standing ≡ ltb row k.visible
    pub variables : (row : ℕ) → row < k.visible → is_variable (known_item text k w₀ row).shape ≡ false

  module _ (l : Layout) where
    pub variable_behind : (row : ℕ) → is_variable (known_item text k w₀ row).shape ≡ true → k.visible ≤ row
    variable_behind row p = go (ltb row k.visible) refl
      where
        go : (t : Bool) → ltb row k.visible ≡ t → k.visible ≤ row
        go true e = absurd (false≢true (sym (l.variables row (ltb-true row k.visible e)) ∙ p))
        go false e = ltb-false row k.visible e

    module _ (w : List ℕ) (kept : Kept q₀ e₀ w₀ w) where
      pub tape_stays : tape_in k w ≡ tape_in k w₀
      tape_stays = tape_same w₀ w k.tape kept.size (kept_same q₀ e₀ 0 k.tape w₀ w (inl l.tape) kept)

      pub items_stay : items_in text k w ≡ items_in text k w₀
      items_stay =
          ap (λ (t : List ℕ). items_at text t w k.base k.count) tape_stays
          ∙ items_same w₀ w text (tape_in k w₀) k.base k.count (kept_same q₀ e₀ k.base (k.base + k.count * row_size) w₀ w l.rows kept)

      pub row_stays : (row : ℕ) → row < k.count → row_at w (k.base + row * row_size) ≡ row_at w₀ (k.base + row * row_size)
      row_stays row h =
          row_same w₀ w (k.base + row * row_size)
          (λ i a b. kept_same q₀ e₀ k.base (k.base + k.count * row_size) w₀ w l.rows kept i (omega arith) (omega arith))

      pub sets_kept : (q : ℕ) (vs : List ℕ) → q₀ ≤ q → q + length vs ≤ e₀ → Kept q₀ e₀ w₀ (sets w q vs)
      sets_kept q vs a b = kept_then q₀ e₀ w₀ w (sets w q vs) kept (kept_wider q (q + length vs) q₀ e₀ w (sets w q vs) a b (kept_sets vs w q))
