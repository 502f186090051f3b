-- Over rows that stand for equations: the search for a copy is the meaning's test whether its equation is there. And a node through
-- right notes is the source's node under new names.
use Rattle.std.specs.Prelude.{◌≡◌, Bool, ◌&&◌, length, take, drop}
use Rattle.std.proofs.Math.Path.{refl, sym, ap, ap₂}
use Rattle.std.proofs.Common.{◌∙◌, subst, drop-cons}
use Rattle.std.proofs.Math.Bool.{true, false, not}
use mathlib.Core.List.{List, [], ◌∷◌, map}
use Prim.Native.Nat.{ℕ, zero, suc, ◌+◌, ◌*◌, ◌/◌, ◌%◌, ◌≤◌, ◌<◌}
use native.Mathlib.Omega.{arith}
use Rattle.std.proofs.Math.Dec.{eqb, eqb-zero-suc, eqb-suc-zero, eqb-suc-suc}
use Rattle.std.proofs.Math.ListN.{get_or}
use borrow.Author.Tests.{eqb-true, eqb-false, lt-ltb, le-ltb}
use Rattle.meaning.specs.Lists.{pick, agree, any}
use Rattle.meaning.specs.Names.{Name}
use Rattle.meaning.specs.Origins.{FunctionType, ResolvedEquation, one_equation, Shape, sort_shape, function_shape, variable_shape, is_sort, is_function, Item}
use Rattle.meaning.specs.Normal.{move_shape}
use Rattle.form_rows.specs.Rows.{item_of, row_at, row_size}
use Rattle.form.specs.declared.Form.{Form}
use Rattle.form.specs.declared.EquationRow.{EquationRow}
use Rattle.form.specs.Memory.{part}
use Rattle.form.specs.Forms.{Node, flat_equation, node_row, node_of, node_in, node_item, nodes_of, equation_row_at, EquationStands, EquationsStand, VisiblePoint, HiddenPoint, equation_size}
use Rattle.form.specs.Flat.{same_node, one_flat}
use Rattle.form.specs.FlatMoves.{move_node}
use Rattle.form.specs.Frames.{Points}
use Rattle.unite_nodes.specs.declared.Notes.{Notes}
use Rattle.unite_nodes.specs.Joined.{renoded, renode, same_at, same_run, same_equation, has_equation}

-- ---- a run of nodes

take_cons : (w : List ℕ) (a c : ℕ) → a + suc c ≤ length w → take (suc c) (drop a w) ≡ get_or w a 0 ∷ take c (drop (suc a) w)
take_cons w a c h = ap (take (suc c)) (drop-cons w a 0 (omega arith))

swap : (p q r : Bool) → pick p (pick q r false) false ≡ pick q (pick p r false) false
unfolding pick
swap true q r = refl
swap false true r = refl
swap false false r = refl

module _ (text : List ℕ) (t : ℕ) (w : List ℕ) (visible hidden : ℕ) where
  abbrev nodes_in : List ℕ → List Node
  nodes_in vs = map (node_in text (part w 0 t) w visible hidden) vs

  pub run_agrees : (a b c d : ℕ) → a + c ≤ length w → b + d ≤ length w
      → pick (eqb c d) (same_run text t w visible hidden a b c) false ≡ agree same_node (nodes_in (take c (drop a w))) (nodes_in (take d (drop b w)))
  unfolding pick same_run same_at agree
  run_agrees a b zero zero h l = refl
  run_agrees a b zero (suc d) h l = rw (take_cons w b d l, eqb-zero-suc d)
  run_agrees a b (suc c) zero h l = rw (take_cons w a c h, eqb-suc-zero c)
  run_agrees a b (suc c) (suc d) h l =
      rw (eqb-suc-suc c d, take_cons w a c h, take_cons w b d l, ← run_agrees (suc a) (suc b) c d (omega arith) (omega arith))
      (swap (eqb c d) (same_at text t w visible hidden a b) (same_run text t w visible hidden (suc a) (suc b) c))

-- ---- one equation

-- the nodes behind those of f, with the rest of row q, stand for y
pub record Copy (text : List ℕ) (t : ℕ) (w : List ℕ) (f : Form) (q : EquationRow) (y : ResolvedEquation) : Type 0 where
  pub home : q.home ≡ y.module_number
  pub position : q.position ≡ y.position
  pub fits : f.nodes + f.node_count + q.count ≤ length w
  pub nodes : nodes_of text (part w 0 t) w f (take q.count (drop (f.nodes + f.node_count) w)) ≡ flat_equation y

module _ (text : List ℕ) (t : ℕ) (w : List ℕ) (f : Form) (q : EquationRow) (y : ResolvedEquation) (copy : Copy text t w f q y) where
  both : (h p x : Bool) → pick h (pick p x false) false ≡ (h && (p && x))
  unfolding pick
  both true true x = refl
  both true false x = refl
  both false p x = refl

  -- compared with a row that stands for d
  pub same_meant : (r : EquationRow) (d : ResolvedEquation) → EquationStands text (part w 0 t) w f r d → same_equation text t w f q r ≡ one_equation y d
  unfolding same_equation nodes_of
  same_meant r d s =
      let run : pick (eqb q.count r.count) (same_run text t w f.visible f.hidden (f.nodes + f.node_count) (f.nodes + r.start) q.count) false
      ≡ agree same_node (flat_equation y) (flat_equation d) =
      run_agrees text t w f.visible f.hidden (f.nodes + f.node_count) (f.nodes + r.start) q.count r.count
      copy.fits (omega (arith, copy.fits, s.within))
      ∙ ap₂ (agree same_node) copy.nodes s.nodes in
      ap₂ (λ (h : Bool) (x : Bool). pick h x false) (ap₂ eqb copy.home s.home)
      (ap₂ (λ (p : Bool) (x : Bool). pick p x false) (ap₂ eqb copy.position s.position) run)
      ∙ both (eqb y.module_number d.module_number) (eqb y.position d.position) (agree same_node (flat_equation y) (flat_equation d))
      ∙ sym (one_flat y d)

  -- and sought among all
  pub found_meant : (i : ℕ) (ds : List ResolvedEquation) → EquationsStand text (part w 0 t) w f (f.equations + i * equation_size) ds
      → has_equation text t w f q i (length ds) ≡ any (one_equation y) ds
  unfolding has_equation any
  found_meant i [] s = refl
  found_meant i (d ∷ ds) s =
      let e : f.equations + i * equation_size + equation_size ≡ f.equations + suc i * equation_size = omega arith in
      let rest = found_meant (suc i) ds (subst (λ (b : ℕ). EquationsStand text (part w 0 t) w f b ds) e s.1) in
      ap₂ (λ (x : Bool) (r : Bool). pick x true r) (same_meant (equation_row_at w (f.equations + i * equation_size)) d s.0) rest

-- ---- a node through the notes

-- what a node may point at: a visible function, or a hidden item that is no sort
unfoldable pub pointable : Bool → Shape → Bool
pointable visible s = pick visible (is_function s) (not (is_sort s))

-- the notes from place `o` on, for c rows of the table at `source`, point at rows of the table at `base` that has n rows, and there
-- stands what the translation makes of the source's. Nothing is said of what no node points at: a binding drops some of it
pub record Noted (σ : Name → Name) (φ : Name → FunctionType → Name) (text tape w : List ℕ) (visible : Bool) (o source c base n : ℕ) : Type 0 where
  pub small : n ≤ 65536
  pub inside : (i : ℕ) → i < c → pointable visible (item_of text tape (row_at w (source + i * row_size))).shape ≡ true → get_or w (o + i) 0 < n
  pub node : (i : ℕ) → i < c → pointable visible (item_of text tape (row_at w (source + i * row_size))).shape ≡ true → (k : ℕ)
      → node_of visible k (item_of text tape (row_at w (base + get_or w (o + i) 0 * row_size)))
      ≡ move_node σ φ (node_of visible k (item_of text tape (row_at w (source + i * row_size))))
  pub shape : (i : ℕ) → i < c → pointable visible (item_of text tape (row_at w (source + i * row_size))).shape ≡ true
      → (item_of text tape (row_at w (base + get_or w (o + i) 0 * row_size))).shape ≡ move_shape σ φ (item_of text tape (row_at w (source + i * row_size))).shape

-- the notes of all rows of g, which point at rows of f
abbrev pub VisibleNoted : (Name → Name) → (Name → FunctionType → Name) → List ℕ → List ℕ → List ℕ → Notes → Form → Form → Type 0
VisibleNoted σ φ text tape w o g f = Noted σ φ text tape w true o.visible g.visible g.visible_count f.visible f.visible_count

abbrev pub HiddenNoted : (Name → Name) → (Name → FunctionType → Name) → List ℕ → List ℕ → List ℕ → Notes → Form → Form → Type 0
HiddenNoted σ φ text tape w o g f = Noted σ φ text tape w false o.hidden g.hidden g.hidden_count f.hidden f.hidden_count

-- what stands at a node, by its side
module _ (text tape w : List ℕ) (f : Form) (v : ℕ) where
  pub item_visible : v / 16 % 2 ≡ 0 → node_item text tape w f v ≡ item_of text tape (row_at w (f.visible + v / 32 * row_size))
  unfolding node_item node_row pick
  item_visible h = rw h

  pub item_hidden : v / 16 % 2 ≡ 1 → node_item text tape w f v ≡ item_of text tape (row_at w (f.hidden + v / 32 * row_size))
  unfolding node_item node_row pick
  item_hidden h = rw h

module _ (σ : Name → Name) (φ : Name → FunctionType → Name) where
  sort_moved : (s : Shape) → is_sort (move_shape σ φ s) ≡ is_sort s
  unfolding is_sort move_shape
  sort_moved sort_shape = refl
  sort_moved (function_shape t) = refl
  sort_moved (variable_shape s) = refl

  pub function_moved : (s : Shape) → is_function (move_shape σ φ s) ≡ is_function s
  unfolding is_function move_shape
  function_moved sort_shape = refl
  function_moved (function_shape t) = refl
  function_moved (variable_shape s) = refl

-- row i of the table at `source` in w went where the note in z tells, to one of the n rows at `base` in z: `move` makes that of it
pub record Goes (text tape w z : List ℕ) (move : Node → Node) (visible : Bool) (o source base n i : ℕ) : Type 0 where
  pub small : n ≤ 65536
  pub inside : get_or z (o + i) 0 < n
  pub node : (k : ℕ) → node_of visible k (item_of text tape (row_at z (base + get_or z (o + i) 0 * row_size)))
      ≡ move (node_of visible k (item_of text tape (row_at w (source + i * row_size))))
  pub sort : is_sort (item_of text tape (row_at z (base + get_or z (o + i) 0 * row_size))).shape
      ≡ is_sort (item_of text tape (row_at w (source + i * row_size))).shape
  pub function :
      is_function (item_of text tape (row_at z (base + get_or z (o + i) 0 * row_size))).shape
      ≡ is_function (item_of text tape (row_at w (source + i * row_size))).shape

-- what is told of a node's word by the note that it went through
record Passed (v moved note : ℕ) : Type 0 where
  side : moved / 16 % 2 ≡ v / 16 % 2
  arguments : moved % 16 ≡ v % 16
  row : moved / 32 ≡ note

-- node v of g in w, and what it becomes through the notes in z, of visible rows from vn on and of hidden ones from hn on: a node of f
module _ (text tape w z : List ℕ) (move : Node → Node) (vn hn : ℕ) (g f : Form) (v : ℕ) where
  abbrev moved : ℕ
  moved = renode z vn hn v

  abbrev Gone : Type 0
  Gone = node_in text tape z f.visible f.hidden moved ≡ move (node_in text tape w g.visible g.hidden v)

  carried : (p : Shape → Bool) (x y : Item) → node_item text tape w g v ≡ x → node_item text tape z f moved ≡ y → p y.shape ≡ p x.shape
      → p (node_item text tape z f moved).shape ≡ p (node_item text tape w g v).shape
  carried p x y a b e = ap (λ (i : Item). p i.shape) b ∙ e ∙ ap (λ (i : Item). p i.shape) (sym a)

  module _ (side : v / 16 % 2 ≡ 0) (went : Goes text tape w z move true vn g.visible f.visible f.visible_count (v / 32)) where
    visible_passed : Passed v moved (get_or z (vn + v / 32) 0)
    unfolding renode renoded pick
    visible_passed =
        let low : v % 32 < 16 = omega arith in
        let small : get_or z (vn + v / 32) 0 < 65536 = omega (arith, went.inside, went.small) in
        let word : moved ≡ get_or z (vn + v / 32) 0 * 32 + v % 32 = rw (lt-ltb (v % 32) 16 low, lt-ltb (get_or z (vn + v / 32) 0) 65536 small) in
        omega (arith, word)

    visible_gone : Gone
    unfolding node_in node_row pick
    visible_gone = let x = visible_passed in rw (x.side, x.arguments, x.row, side) (went.node (v % 16))

    visible_pointed : VisiblePoint text tape w g v → Points text tape z f moved
    visible_pointed point =
        let x = visible_passed in
        let there = item_visible text tape z f moved (x.side ∙ side) ∙ ap (λ (r : ℕ). item_of text tape (row_at z (f.visible + r * row_size))) x.row in
        record {
          visible = λ e. record {
            inside = omega (arith, x.row, went.inside);
            function = carried is_function _ _ (item_visible text tape w g v side) there went.function ∙ point.function;
          };
          hidden = λ e. absurd (omega (arith, x.side, side, e));
        }

  module _ (side : v / 16 % 2 ≡ 1) (went : Goes text tape w z move false hn g.hidden f.hidden f.hidden_count (v / 32)) where
    hidden_passed : Passed v moved (get_or z (hn + v / 32) 0)
    unfolding renode renoded pick
    hidden_passed =
        let high : 16 ≤ v % 32 = omega arith in
        let small : get_or z (hn + v / 32) 0 < 65536 = omega (arith, went.inside, went.small) in
        let word : moved ≡ get_or z (hn + v / 32) 0 * 32 + v % 32 = rw (le-ltb (v % 32) 16 high, lt-ltb (get_or z (hn + v / 32) 0) 65536 small) in
        omega (arith, word)

    hidden_gone : Gone
    unfolding node_in node_row pick
    hidden_gone = let x = hidden_passed in rw (x.side, x.arguments, x.row, side) (went.node (v % 16))

    hidden_pointed : HiddenPoint text tape w g v → Points text tape z f moved
    hidden_pointed point =
        let x = hidden_passed in
        let here = item_hidden text tape w g v side in
        let there = item_hidden text tape z f moved (x.side ∙ side) ∙ ap (λ (r : ℕ). item_of text tape (row_at z (f.hidden + r * row_size))) x.row in
        record {
          visible = λ e. absurd (omega (arith, x.side, side, e));
          hidden = λ e. record {
            inside = omega (arith, x.row, went.inside);
            no_sort = carried is_sort _ _ here there went.sort ∙ point.no_sort;
            alone = λ h. x.arguments ∙ point.alone (sym (carried is_function _ _ here there went.function) ∙ h);
          };
        }

  module _ (points : Points text tape w g v)
      (seen : v / 16 % 2 ≡ 0 → Goes text tape w z move true vn g.visible f.visible f.visible_count (v / 32))
      (unseen : v / 16 % 2 ≡ 1 → Goes text tape w z move false hn g.hidden f.hidden f.hidden_count (v / 32)) where
    by_side : {C : Type 0} → (v / 16 % 2 ≡ 0 → C) → (v / 16 % 2 ≡ 1 → C) → C
    by_side {C} a b = go (eqb (v / 16 % 2) 0) refl
      where
        go : (x : Bool) → eqb (v / 16 % 2) 0 ≡ x → C
        go true e = a (eqb-true (v / 16 % 2) 0 e)
        go false e = let n = eqb-false (v / 16 % 2) 0 e in b (omega arith)

    pub node_goes : node_in text tape z f.visible f.hidden (renode z vn hn v) ≡ move (node_in text tape w g.visible g.hidden v)
    node_goes = by_side (λ s. visible_gone s (seen s)) (λ s. hidden_gone s (unseen s))

    pub points_go : Points text tape z f (renode z vn hn v)
    points_go = by_side (λ s. visible_pointed s (seen s) (points.visible s)) (λ s. hidden_pointed s (unseen s) (points.hidden s))

-- node v of g through notes that are right
module _ (σ : Name → Name) (φ : Name → FunctionType → Name) (text tape w : List ℕ) (o : Notes) (g f : Form) (v : ℕ) where
  goes : (shown : Bool) (at source c base n i : ℕ) → Noted σ φ text tape w shown at source c base n → i < c
      → pointable shown (item_of text tape (row_at w (source + i * row_size))).shape ≡ true → Goes text tape w w (move_node σ φ) shown at source base n i
  goes shown at source c base n i x h p = record {
    small = x.small;
    inside = x.inside i h p;
    node = x.node i h p;
    sort = ap is_sort (x.shape i h p) ∙ sort_moved σ φ _;
    function = ap is_function (x.shape i h p) ∙ function_moved σ φ _;
  }

  module _ (visible : VisibleNoted σ φ text tape w o g f) (hidden : HiddenNoted σ φ text tape w o g f) (points : Points text tape w g v) where
    seen : v / 16 % 2 ≡ 0 → Goes text tape w w (move_node σ φ) true o.visible g.visible f.visible f.visible_count (v / 32)
    unfolding pointable pick
    seen s =
        goes true _ _ _ _ _ (v / 32) visible (points.visible s).inside
        (ap (λ (i : Item). is_function i.shape) (sym (item_visible text tape w g v s)) ∙ (points.visible s).function)

    unseen : v / 16 % 2 ≡ 1 → Goes text tape w w (move_node σ φ) false o.hidden g.hidden f.hidden f.hidden_count (v / 32)
    unfolding pointable pick
    unseen s =
        goes false _ _ _ _ _ (v / 32) hidden (points.hidden s).inside
        (ap (λ (i : Item). not (is_sort i.shape)) (sym (item_hidden text tape w g v s)) ∙ ap not (points.hidden s).no_sort)

    -- it is the node under new names
    pub node_moved : node_in text tape w f.visible f.hidden (renode w o.visible o.hidden v)
        ≡ move_node σ φ (node_in text tape w g.visible g.hidden v)
    node_moved = node_goes text tape w w (move_node σ φ) o.visible o.hidden g f v points seen unseen

    -- and points at a row of f
    pub node_pointed : Points text tape w f (renode w o.visible o.hidden v)
    node_pointed = points_go text tape w w (move_node σ φ) o.visible o.hidden g f v points seen unseen
