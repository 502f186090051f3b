-- Nodes that went through the notes: each stands for what it stood for, and is written as that.
use Rattle.std.specs.Prelude.{◌≡◌, Bool, false, ◌&&◌, List, ℕ, zero, suc, ◌+◌, ◌*◌, ◌/◌, ◌%◌, ◌≤◌, ◌<◌, eqb, drop}
use Rattle.std.proofs.Math.Path.{refl, sym, ap}
use Rattle.std.proofs.Common.{subst, ◌∙◌, true≢false, eqb-true}
use Rattle.std.proofs.Math.Bool.{true}
use Rattle.std.proofs.lemmas.Bool.{false≢true, eqb-false}
use native.Mathlib.Omega.{arith}
use Rattle.std.proofs.Math.ListN.{length, get_or, take, length-take, length-drop}
use Rattle.meaning.specs.Origins.{same_origin, same_shape, Shape, sort_shape, function_shape, variable_shape, is_sort, is_function, Item, ResolvedEquation}
use Rattle.meaning.specs.Written.{equation_text}
use Rattle.meaning.specs.OrderLaws.{Every, Pairwise}
use Rattle.laws.specs.Decides.{origins_decided, shapes_decided}
use Rattle.form_rows.specs.Rows.{item_of, row_at, row_size}
use Rattle.form.specs.declared.Form.{Form}
use Rattle.form.specs.declared.EquationRow.{EquationRow}
use Rattle.form.specs.Memory.{part}
use Rattle.form.specs.Forms.{items_at, node_of, node_in, nodes_of, node_item, EquationStands, HiddenPoint, Pointing}
use Rattle.form.specs.Frames.{run_word, Points, points_at, each_points}
use Rattle.form_order.specs.Ordered.{row_item}
use Rattle.unite_nodes.specs.Joined.{renode}
use Rattle.unite_nodes.specs.Found.{item_visible, item_hidden, Goes, node_goes, points_go}
use Rattle.unite_nodes.specs.Copies.{map_two}
use Rattle.list_terms.specs.Terms.{equation_at}
use Rattle.list_terms.specs.Meant.{Told, equation_meant}
use Rattle.list_terms.specs.Pointed.{alike, visible_told, function_told, variable_told}
use Rattle.list_keeping.specs.Kept.{ItemNoted}

-- the places of k with what f has
unfoldable pub kept_form : Form → Form → Form
kept_form f k = record {
  parameters = k.parameters;
  parameter_count = f.parameter_count;
  visible = k.visible;
  visible_count = f.visible_count;
  hidden = k.hidden;
  hidden_count = f.hidden_count;
  equations = k.equations;
  equation_count = f.equation_count;
  nodes = k.nodes;
  node_count = f.node_count;
}

-- ---- one node

-- rows of f in w went where the notes in z tell; vn and hn are the places of the notes
module _ (text : List ℕ) (t : ℕ) (f k : Form) (vn hn : ℕ) (w z : List ℕ) (visible_few : f.visible_count ≤ 65536) (hidden_few : f.hidden_count ≤ 65536)
    (visible : (r : ℕ) → r < f.visible_count → ItemNoted text t f.visible f.visible_count k.visible vn w z r)
    (hidden : (r : ℕ) → r < f.hidden_count → ItemNoted text t f.hidden f.hidden_count k.hidden hn w z r) where
  abbrev tape : List ℕ
  tape = part w 0 t

  gone : (shown : Bool) (o source base n i : ℕ) → n ≤ 65536 → ItemNoted text t source n base o w z i → Goes text tape w z (λ x. x) shown o source base n i
  gone shown o source base n i few went = record {
    small = few;
    inside = went.inside;
    node = λ a. ap (node_of shown a) went.same;
    sort = ap (λ (x : Item). is_sort x.shape) went.same;
    function = ap (λ (x : Item). is_function x.shape) went.same;
  }

  module _ (v : ℕ) (points : Points text (part w 0 t) w f v) where
    seen : v / 16 % 2 ≡ 0 → Goes text tape w z (λ x. x) true vn f.visible k.visible f.visible_count (v / 32)
    seen s = gone true vn f.visible k.visible f.visible_count (v / 32) visible_few (visible (v / 32) (points.visible s).inside)

    unseen : v / 16 % 2 ≡ 1 → Goes text tape w z (λ x. x) false hn f.hidden k.hidden f.hidden_count (v / 32)
    unseen s = gone false hn f.hidden k.hidden f.hidden_count (v / 32) hidden_few (hidden (v / 32) (points.hidden s).inside)

    pub node_kept : node_in text tape z k.visible k.hidden (renode z vn hn v) ≡ node_in text tape w f.visible f.hidden v
    unfolding kept_form
    node_kept = node_goes text tape w z (λ x. x) vn hn f (kept_form f k) v points seen unseen

    pub points_kept : Points text tape z (kept_form f k) (renode z vn hn v)
    unfolding kept_form
    points_kept = points_go text tape w z (λ x. x) vn hn f (kept_form f k) v points seen unseen

  -- ---- equations and all nodes, where the nodes of k in z are those of f in w through the notes

  module _ (pointing : Pointing text (part w 0 t) w f)
      (nodes : (i : ℕ) → i < f.node_count → get_or z (k.nodes + i) 0 ≡ renode z vn hn (get_or w (f.nodes + i) 0)) where
    points_there : (i : ℕ) → i < f.node_count → Points text tape z (kept_form f k) (get_or z (k.nodes + i) 0)
    points_there i h =
        subst (Points text tape z (kept_form f k)) (sym (nodes i h)) (points_kept (get_or w (f.nodes + i) 0) (points_at text tape w f pointing i h))

    pub pointing_kept : Pointing text (part w 0 t) z (kept_form f k)
    unfolding kept_form
    pointing_kept = each_points text tape z (kept_form f k) points_there

    pub equation_kept : (r : EquationRow) (e : ResolvedEquation) → f.nodes + f.node_count ≤ length w → k.nodes + f.node_count ≤ length z
        → EquationStands text (part w 0 t) w f r e → EquationStands text (part w 0 t) z (kept_form f k) r e
    unfolding kept_form nodes_of
    equation_kept r e source target s =
        let a = f.nodes + r.start in
        let b = k.nodes + r.start in
        let xs = take r.count (drop b z) in
        let ys = take r.count (drop a w) in
        let within : r.start + r.count ≤ f.node_count = s.within in
        let lx : length xs ≡ r.count = omega (arith, length-take r.count (drop b z), length-drop b z) in
        let ly : length ys ≡ r.count = omega (arith, length-take r.count (drop a w), length-drop a w) in
        let F = node_in text tape z k.visible k.hidden in
        let N = node_in text tape w f.visible f.hidden in
        let each : (i : ℕ) → i < length xs → F (get_or xs i 0) ≡ N (get_or ys i 0) =
        λ i h.
        let l : r.start + i < f.node_count = omega (arith, lx) in
        let p : b + i ≡ k.nodes + (r.start + i) = omega arith in
        let q : f.nodes + (r.start + i) ≡ a + i = omega arith in
        ap F (run_word z b r.count i h ∙ ap (λ (j : ℕ). get_or z j 0) p ∙ nodes (r.start + i) l)
        ∙ node_kept (get_or w (f.nodes + (r.start + i)) 0) (points_at text tape w f pointing (r.start + i) l)
        ∙ ap N (ap (λ (j : ℕ). get_or w j 0) q ∙ sym (run_word w a r.count i (omega (arith, lx, ly)))) in
        record {
          home = s.home;
          position = s.position;
          tag = s.tag;
          conditions = s.conditions;
          within = s.within;
          nodes = map_two F N xs ys (lx ∙ sym ly) each ∙ s.nodes;
        }

-- ---- what a node is written as

-- hidden items of which no two have one origin and one shape
abbrev pub Distinct : List Item → Type 0
Distinct is = Pairwise (λ (a b : Item). a.origin ≡ b.origin → a.shape ≡ b.shape → ⊥) is

not_alike : (a b : Item) → (b.origin ≡ a.origin → b.shape ≡ a.shape → ⊥) → alike a b ≡ false
unfolding alike
not_alike a b h = go (same_origin a.origin b.origin) (same_shape a.shape b.shape) refl refl
  where
    go : (p q : Bool) → same_origin a.origin b.origin ≡ p → same_shape a.shape b.shape ≡ q → (p && q) ≡ false
    go true true e d = absurd (h (sym (origins_decided.equal _ _ e)) (sym (shapes_decided.equal _ _ d)))
    go true false e d = refl
    go false q e d = refl

every_item : (P : Item → Type 0) (text tape w : List ℕ) (b n i : ℕ) → Every P (items_at text tape w b n) → i < n → P (row_item text tape w b i)
unfolding items_at
every_item P text tape w b zero i h l = absurd (omega arith)
every_item P text tape w b (suc n) zero h l = let z : b + 0 * row_size ≡ b = omega arith in rw z h.0
every_item P text tape w b (suc n) (suc i) h l =
    let z : b + suc i * row_size ≡ b + row_size + i * row_size = omega arith in rw z (every_item P text tape w (b + row_size) n i h.1 (omega arith))

pair_item : (R : Item → Item → Type 0) (text tape w : List ℕ) (b n i j : ℕ) → Pairwise R (items_at text tape w b n) → i < j → j < n
    → R (row_item text tape w b i) (row_item text tape w b j)
unfolding items_at
pair_item R text tape w b zero i j h l m = absurd (omega arith)
pair_item R text tape w b (suc n) i zero h l m = absurd (omega arith)
pair_item R text tape w b (suc n) zero (suc j) h l m =
    let z : b + 0 * row_size ≡ b = omega arith in
    let y : b + suc j * row_size ≡ b + row_size + j * row_size = omega arith in
    rw (z, y) (every_item (R (item_of text tape (row_at w b))) text tape w (b + row_size) n j h.0 (omega arith))
pair_item R text tape w b (suc n) (suc i) (suc j) h l m =
    let z : b + suc i * row_size ≡ b + row_size + i * row_size = omega arith in
    let y : b + suc j * row_size ≡ b + row_size + j * row_size = omega arith in
    rw (z, y) (pair_item R text tape w (b + row_size) n i j h.1 (omega arith) (omega arith))

module _ (text tape z : List ℕ) (g : Form) (distinct : Distinct (items_at text tape z g.hidden g.hidden_count)) (v : ℕ)
    (points : Points text tape z g v) where
  abbrev Written : Type 0
  Written = Told text tape z g.visible g.hidden g.hidden_count v

  visible_written : v / 16 % 2 ≡ 0 → Written
  unfolding is_function
  visible_written side =
      go (row_item text tape z g.visible (v / 32)).shape refl
      (ap (λ (i : Item). is_function i.shape) (sym (item_visible text tape z g v side)) ∙ (points.visible side).function)
    where
      go : (s : Shape) → (row_item text tape z g.visible (v / 32)).shape ≡ s → is_function (row_item text tape z g.visible (v / 32)).shape ≡ true
          → Written
      go sort_shape e h = absurd (false≢true (sym (ap is_function e) ∙ h))
      go (function_shape t) e h = visible_told text tape z g.visible g.hidden g.hidden_count v t side e
      go (variable_shape s) e h = absurd (false≢true (sym (ap is_function e) ∙ h))

  hidden_written : v / 16 % 2 ≡ 1 → Written
  unfolding is_sort is_function
  hidden_written side =
      go (row_item text tape z g.hidden (v / 32)).shape refl
      (ap (λ (i : Item). is_sort i.shape) (sym item) ∙ point.no_sort)
    where
      point : HiddenPoint text tape z g v
      point = points.hidden side

      item : node_item text tape z g v ≡ row_item text tape z g.hidden (v / 32)
      item = item_hidden text tape z g v side

      other : v / 16 % 2 ≡ 0 → ⊥
      other e = omega (arith, side, e)

      alone : (j : ℕ) → j < v / 32 → alike (row_item text tape z g.hidden (v / 32)) (row_item text tape z g.hidden j) ≡ false
      alone j h =
          not_alike _ _ (pair_item (λ (a b : Item). a.origin ≡ b.origin → a.shape ≡ b.shape → ⊥) text tape z g.hidden g.hidden_count j
          (v / 32) distinct h point.inside)

      go : (s : Shape) → (row_item text tape z g.hidden (v / 32)).shape ≡ s → is_sort (row_item text tape z g.hidden (v / 32)).shape ≡ false → Written
      go sort_shape e h = absurd (true≢false (sym (ap is_sort e) ∙ h))
      go (function_shape t) e h = function_told text tape z g.visible g.hidden g.hidden_count v other point.inside alone t e
      go (variable_shape s) e h =
          variable_told text tape z g.visible g.hidden g.hidden_count v other point.inside alone s e
          (point.alone (ap (λ (i : Item). is_function i.shape) item ∙ ap is_function e))

  pub node_written : Written
  node_written = go (eqb (v / 16 % 2) 0) refl
    where
      go : (x : Bool) → eqb (v / 16 % 2) 0 ≡ x → Written
      go true e = visible_written (eqb-true (v / 16 % 2) 0 e)
      go false e = let n = eqb-false (v / 16 % 2) 0 e in hidden_written (omega arith)

-- an equation's row is written as the equation
pub line_kept : (text tape z : List ℕ) (g : Form) (r : EquationRow) (e : ResolvedEquation) → Distinct (items_at text tape z g.hidden g.hidden_count)
    → Pointing text tape z g → EquationStands text tape z g r e
    → equation_at text z g.visible g.nodes r ≡ equation_text (items_at text tape z g.hidden g.hidden_count) e
line_kept text tape z g r e distinct pointing stands =
    equation_meant text tape z g r e stands (λ i h.
    let p : g.nodes + (r.start + i) ≡ g.nodes + r.start + i = omega arith in
    let l : r.start + i < g.node_count = omega (arith, stands.within) in
    subst (λ (j : ℕ). Told text tape z g.visible g.hidden g.hidden_count (get_or z j 0)) p
    (node_written text tape z g distinct (get_or z (g.nodes + (r.start + i)) 0) (points_at text tape z g pointing (r.start + i) l)))
