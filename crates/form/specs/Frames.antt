-- A form whose words stay stands for what it stood for.
use Rattle.std.specs.Prelude.{◌≡◌, Bool, List, [], ◌∷◌, map, drop}
use Rattle.std.proofs.Math.Path.{refl, ap, subst}
use Rattle.std.proofs.Common.{sym, ap₂, ◌∙◌, get_or-take, get_or-drop}
use Rattle.std.proofs.Math.Bool.{true, false}
use Prim.Native.Nat.{ℕ, suc, ◌+◌, ◌*◌, ◌/◌, ◌%◌, ◌≤◌, ◌<◌}
use native.Mathlib.Omega.{arith}
use Rattle.std.proofs.Math.Dec.{eqb}
use Rattle.std.proofs.Math.ListN.{length, get_or, take, length-take}
use borrow.Author.Tests.{eqb-true, eqb-false}
use Rattle.meaning.specs.Lists.{pick}
use Rattle.meaning.specs.Origins.{ResolvedEquation, is_sort, is_function, Item}
use Rattle.meaning.specs.Normal.{Normal}
use Rattle.form_rows.specs.declared.Row.{Row}
use Rattle.form_rows.specs.Rows.{item_of, row_size}
use Rattle.form_rows.specs.RowLaws.{row_same}
use Rattle.form.specs.declared.Form.{Form}
use Rattle.form.specs.declared.EquationRow.{EquationRow}
use Rattle.form.specs.Memory.{part, Same, Kept}
use Rattle.form.specs.Forms.{node_row, node_of, node_in, nodes_of, node_item, equation_row_at, EquationStands, EquationsStand, VisiblePoint, HiddenPoint, Pointing, visible_at, Stands, equation_size, slot_size}
use Rattle.form.specs.FormLaws.{kept_same, slots_same, items_same, equation_row_same, words_same, tape_same}
use Rattle.form.specs.Blocks.{Outside}

pub map_same : {A : Type 0} (f g : ℕ → A) (xs : List ℕ) → ((i : ℕ) → i < length xs → f (get_or xs i 0) ≡ g (get_or xs i 0)) → map f xs ≡ map g xs
map_same f g [] h = refl
map_same {A} f g (x ∷ xs) h = ap₂ (λ (y : A) (ys : List A). y ∷ ys) (h 0 (omega arith)) (map_same f g xs (λ i l. h (suc i) (omega arith)))

-- a word of a run of nodes
pub run_word : (w : List ℕ) (b c i : ℕ) → i < length (take c (drop b w)) → get_or (take c (drop b w)) i 0 ≡ get_or w (b + i) 0
run_word w b c i h =
    let l : i < c = omega (arith, length-take c (drop b w), h) in
    get_or-take c (drop b w) i 0 l ∙ get_or-drop b w i 0

-- ---- what a node's word points at

pub record Points (text tape w : List ℕ) (f : Form) (v : ℕ) : Type 0 where
  pub visible : v / 16 % 2 ≡ 0 → VisiblePoint text tape w f v
  pub hidden : v / 16 % 2 ≡ 1 → HiddenPoint text tape w f v

pub points_at : (text tape w : List ℕ) (f : Form) → Pointing text tape w f → (i : ℕ) → i < f.node_count → Points text tape w f (get_or w (f.nodes + i) 0)
points_at text tape w f p i h = record { visible = p.visible i h; hidden = p.hidden i h }

pub each_points : (text tape w : List ℕ) (f : Form) → ((i : ℕ) → i < f.node_count → Points text tape w f (get_or w (f.nodes + i) 0)) → Pointing text tape w f
each_points text tape w f p = record { visible = λ i h. (p i h).visible; hidden = λ i h. (p i h).hidden }

-- the rows of f and the nodes of f stay from w to w'
pub record Stays (w w' : List ℕ) (f : Form) : Type 0 where
  pub size : length w' ≡ length w
  pub visible : Same f.visible (f.visible + f.visible_count * row_size) w w'
  pub hidden : Same f.hidden (f.hidden + f.hidden_count * row_size) w w'
  pub nodes : Same f.nodes (f.nodes + f.node_count) w w'

module _ (text tape w w' : List ℕ) (f : Form) (stays : Stays w w' f) where
  module _ (v : ℕ) (points : Points text tape w f v) where
    node_row_stays : node_row w' f.visible f.hidden v ≡ node_row w f.visible f.hidden v
    unfolding node_row pick
    node_row_stays = go (eqb (v / 16 % 2) 0) refl
      where
        go : (b : Bool) → eqb (v / 16 % 2) 0 ≡ b → node_row w' f.visible f.hidden v ≡ node_row w f.visible f.hidden v
        go true e =
            let l = (points.visible (eqb-true (v / 16 % 2) 0 e)).inside in
            rw e (row_same w w' (f.visible + v / 32 * row_size) (λ i h k. stays.visible i (omega arith) (omega arith)))
        go false e =
            let z = eqb-false (v / 16 % 2) 0 e in
            let l = (points.hidden (omega arith)).inside in
            rw e (row_same w w' (f.hidden + v / 32 * row_size) (λ i h k. stays.hidden i (omega arith) (omega arith)))

    pub node_stays : node_in text tape w' f.visible f.hidden v ≡ node_in text tape w f.visible f.hidden v
    unfolding node_in
    node_stays = ap (λ (r : Row). node_of (eqb (v / 16 % 2) 0) (v % 16) (item_of text tape r)) node_row_stays

    item_stays : node_item text tape w f v ≡ node_item text tape w' f v
    unfolding node_item
    item_stays = ap (item_of text tape) (sym node_row_stays)

    pub points_stay : Points text tape w' f v
    points_stay = record {
      visible = λ e. record {
        inside = (points.visible e).inside;
        function = subst (λ (i : Item). is_function i.shape ≡ true) item_stays (points.visible e).function;
      };
      hidden = λ e. record {
        inside = (points.hidden e).inside;
        no_sort = subst (λ (i : Item). is_sort i.shape ≡ false) item_stays (points.hidden e).no_sort;
        alone = subst (λ (i : Item). is_function i.shape ≡ false → v % 16 ≡ 0) item_stays (points.hidden e).alone;
      };
    }

  module _ (pointing : Pointing text tape w f) where
    pub pointing_stays : Pointing text tape w' f
    pointing_stays =
        each_points text tape w' f
        (λ i h. subst (Points text tape w' f) (sym (stays.nodes (f.nodes + i) (omega arith) (omega arith)))
        (points_stay (get_or w (f.nodes + i) 0) (points_at text tape w f pointing i h)))

    pub equation_stays : (r : EquationRow) (e : ResolvedEquation) → EquationStands text tape w f r e → EquationStands text tape w' f r e
    unfolding nodes_of
    equation_stays r e s =
        let b = f.nodes + r.start in
        let vs = take r.count (drop b w) in
        let words : take r.count (drop b w') ≡ vs =
        words_same w w' b r.count stays.size (λ i h l. stays.nodes i (omega arith) (omega (arith, s.within))) in
        let each_node : (i : ℕ) → i < length vs
        → node_in text tape w' f.visible f.hidden (get_or vs i 0) ≡ node_in text tape w f.visible f.hidden (get_or vs i 0) =
        λ i h.
        let l : i < r.count = omega (arith, length-take r.count (drop b w), h) in
        let k : suc (r.start + i) ≤ f.node_count = omega (arith, s.within) in
        let p : f.nodes + (r.start + i) ≡ f.nodes + r.start + i = omega arith in
        let v : get_or vs i 0 ≡ get_or w (f.nodes + (r.start + i)) 0 = run_word w b r.count i h ∙ ap (λ (j : ℕ). get_or w j 0) (sym p) in
        subst (λ (u : ℕ). node_in text tape w' f.visible f.hidden u ≡ node_in text tape w f.visible f.hidden u) (sym v)
        (node_stays (get_or w (f.nodes + (r.start + i)) 0) (points_at text tape w f pointing (r.start + i) k)) in
        record {
          home = s.home;
          position = s.position;
          tag = s.tag;
          conditions = s.conditions;
          within = s.within;
          nodes = ap (map (node_in text tape w' f.visible f.hidden)) words
              ∙ map_same (node_in text tape w' f.visible f.hidden) (node_in text tape w f.visible f.hidden) vs each_node ∙ s.nodes;
        }

    pub equations_stay : (b : ℕ) (es : List ResolvedEquation) → Same b (b + length es * equation_size) w w'
        → EquationsStand text tape w f b es → EquationsStand text tape w' f b es
    equations_stay b [] p s = tt
    equations_stay b (e ∷ es) p s =
        let row : equation_row_at w' b ≡ equation_row_at w b = equation_row_same w w' b (λ i h l. p i h (omega arith)) in (
          subst (λ (r : EquationRow). EquationStands text tape w' f r e) (sym row) (equation_stays (equation_row_at w b) e s.0),
          equations_stay (b + equation_size) es (λ i h l. p i (omega arith) (omega arith)) s.1,
        )

  pub visible_stays : Same f.parameters (f.parameters + f.parameter_count * slot_size) w w' → visible_at text tape w' f ≡ visible_at text tape w f
  unfolding visible_at
  visible_stays p =
      let slots = slots_same w w' text f.parameters f.parameter_count p in
      let items = items_same w w' text tape f.visible f.visible_count stays.visible in
      λ i. record { parameters = slots i; items = items i }

  pub stands_stays : (n : Normal) → Same f.parameters (f.parameters + f.parameter_count * slot_size) w w'
      → Same f.equations (f.equations + f.equation_count * equation_size) w w' → Stands text tape w f n → Stands text tape w' f n
  stands_stays n p q s = record {
    visible = visible_stays p ∙ s.visible;
    hidden = items_same w w' text tape f.hidden f.hidden_count stays.hidden ∙ s.hidden;
    equation_count = s.equation_count;
    node_count = s.node_count;
    equations = equations_stay s.pointing f.equations n.hidden.equations (λ i h l. q i h (omega (arith, s.equation_count))) s.equations;
    small = s.small;
    pointing = pointing_stays s.pointing;
  }

-- ---- what changes is none of the form's

pub kept_stays : (w w' : List ℕ) (low high : ℕ) (f : Form) → Kept low high w w' → Outside low high f → Stays w w' f
kept_stays w w' low high f k o = record {
  size = k.size;
  visible = kept_same low high _ _ w w' o.visible k;
  hidden = kept_same low high _ _ w w' o.hidden k;
  nodes = kept_same low high _ _ w w' o.nodes k;
}

-- the tape stands below t
pub stands_kept : (text : List ℕ) (t : ℕ) (w w' : List ℕ) (low high : ℕ) (f : Form) (n : Normal) → t ≤ low → Kept low high w w' → Outside low high f
    → Stands text (part w 0 t) w f n → Stands text (part w' 0 t) w' f n
stands_kept text t w w' low high f n b k o s =
    subst (λ (tape : List ℕ). Stands text tape w' f n) (sym (tape_same w w' t k.size (λ i h l. k.below i (omega arith))))
    (stands_stays text (part w 0 t) w w' f (kept_stays w w' low high f k o) n
    (kept_same low high _ _ w w' o.parameters k) (kept_same low high _ _ w w' o.equations k) s)
