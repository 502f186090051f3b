-- What tables of the working memory stand for: lists of items, nodes, equations, and a whole normal form of the meaning.
use Rattle.std.specs.Prelude.{◌≡◌, ℕ, zero, suc, ◌+◌, ◌*◌, ◌/◌, ◌%◌, ◌≤◌, ◌<◌, Bool, true, false, List, [], ◌∷◌, ◌++◌, map, eqb, length, get_or, take, drop}
use Rattle.meaning.specs.Lists.{pick, each, sum}
use Rattle.meaning.specs.Numbers.{node_limit}
use Rattle.meaning.specs.Origins.{Origin, Sort, hidden_sort, Head, visible_head, hidden_head, ResolvedTerm, var, app, ResolvedTerms, none_left, ◌and_then◌, ResolvedSides, ResolvedEquation, Shape, sort_shape, function_shape, variable_shape, is_sort, is_function, Item}
use Rattle.meaning.specs.Normal.{Slot, Visible, Normal}
use Rattle.meaning.specs.Checks.{equation_nodes}
use Rattle.meaning.specs.OrderLaws.{Every}
use Rattle.text_names.specs.Word.{name_of}
use Rattle.form_rows.specs.declared.Row.{Row}
use Rattle.form_rows.specs.Rows.{item_of, row_at, row_size}
use Rattle.form.specs.declared.Form.{Form}
use Rattle.form.specs.declared.EquationRow.{EquationRow}

-- ---- the widths of a parameter, of an equation's row, and of a form in the table of those that are kept

abbrev pub slot_size : ℕ
slot_size = 2

abbrev pub equation_size : ℕ
equation_size = 8

abbrev pub form_size : ℕ
form_size = 16

-- a parameter's two words: its name, and the name of the module that declares it
unfoldable pub slot_at : List ℕ → List ℕ → ℕ → Slot
slot_at text w b = record { name = name_of text (get_or w b 0); home = name_of text (get_or w (b + 1) 0) }

-- the c parameters from place b on
unfoldable pub slots_at : List ℕ → List ℕ → ℕ → ℕ → List Slot
slots_at text w b zero = []
slots_at text w b (suc c) = slot_at text w b ∷ slots_at text w (b + slot_size) c

-- the items of c rows from place b on
unfoldable pub items_at : List ℕ → List ℕ → List ℕ → ℕ → ℕ → List Item
items_at text tape w b zero = []
items_at text tape w b (suc c) = item_of text tape (row_at w b) ∷ items_at text tape w (b + row_size) c

-- ---- terms laid flat: their nodes in prefix order, a function with its number of arguments

pub data Node : Type 0 where
  function_node : Head → ℕ → Node
  variable_node : Origin → Sort → Node

unfoldable pub how_many : ResolvedTerms → ℕ
how_many none_left = 0
how_many (t and_then ts) = suc (how_many ts)

unfoldable mutual
  pub flat_term : ResolvedTerm → List Node
  flat_term (var o s) = variable_node o s ∷ []
  flat_term (app f ts) = function_node f (how_many ts) ∷ flat_terms ts

  pub flat_terms : ResolvedTerms → List Node
  flat_terms none_left = []
  flat_terms (t and_then ts) = flat_term t ++ flat_terms ts

unfoldable pub flat_sides : ResolvedSides → List Node
flat_sides s = flat_term s.left ++ flat_term s.right

-- the conclusion's nodes, and then each condition's
unfoldable pub flat_equation : ResolvedEquation → List Node
flat_equation e = flat_sides e.conclusion ++ each flat_sides e.conditions

-- ---- a node as a word: 32 times its row, 16 more for a hidden item, and its number of arguments

-- a node's row in the tables of visible and of hidden items
unfoldable pub node_row : List ℕ → ℕ → ℕ → ℕ → Row
node_row w visible hidden v =
    let below = row_at w (hidden + v / 32 * row_size) in pick (eqb (v / 16 % 2) 0) (row_at w (visible + v / 32 * row_size)) below

-- what an item is at a node: a visible function by its name and type, a hidden one by its origin and type. No node points at a sort
unfoldable pub node_shape : Bool → ℕ → Item → Shape → Node
node_shape visible arguments i sort_shape = variable_node i.origin (hidden_sort i.origin)
node_shape visible arguments i (function_shape t) = function_node (pick visible (visible_head i.name t) (hidden_head i.origin t)) arguments
node_shape visible arguments i (variable_shape s) = variable_node i.origin s

unfoldable pub node_of : Bool → ℕ → Item → Node
node_of visible arguments i = node_shape visible arguments i i.shape

-- the node that a word stands for
unfoldable pub node_in : List ℕ → List ℕ → List ℕ → ℕ → ℕ → ℕ → Node
node_in text tape w visible hidden v = node_of (eqb (v / 16 % 2) 0) (v % 16) (item_of text tape (node_row w visible hidden v))

-- what the words of a form's nodes stand for
unfoldable pub nodes_of : List ℕ → List ℕ → List ℕ → Form → List ℕ → List Node
nodes_of text tape w f vs = map (node_in text tape w f.visible f.hidden) vs

-- ---- equations

unfoldable pub equation_row_at : List ℕ → ℕ → EquationRow
equation_row_at w b = record {
  home = get_or w b 0;
  position = get_or w (b + 1) 0;
  tag = get_or w (b + 2) 0;
  conditions = get_or w (b + 3) 0;
  start = get_or w (b + 4) 0;
  count = get_or w (b + 5) 0;
}

-- the words of a row whose nodes stand from `start` on
unfoldable pub equation_words : EquationRow → ℕ → List ℕ
equation_words q start = q.home ∷ q.position ∷ q.tag ∷ q.conditions ∷ start ∷ q.count ∷ []

-- the row stands for the equation, and its nodes lie within the form's
pub record EquationStands (text tape w : List ℕ) (f : Form) (r : EquationRow) (e : ResolvedEquation) : Type 0 where
  pub home : r.home ≡ e.module_number
  pub position : r.position ≡ e.position
  pub tag : name_of text r.tag ≡ e.tag
  pub conditions : r.conditions ≡ length e.conditions
  pub within : r.start + r.count ≤ f.node_count
  pub nodes : nodes_of text tape w f (take r.count (drop (f.nodes + r.start) w)) ≡ flat_equation e

-- the rows from place b on stand for the equations
abbrev pub EquationsStand : List ℕ → List ℕ → List ℕ → Form → ℕ → List ResolvedEquation → Type 0
EquationsStand text tape w f b [] = Unit {0}
EquationsStand text tape w f b (e ∷ es) =
    EquationStands text tape w f (equation_row_at w b) e × EquationsStand text tape w f (b + equation_size) es

-- what a node's word points at: a visible function that the form has, or a hidden function or variable, which stands alone
unfoldable pub node_item : List ℕ → List ℕ → List ℕ → Form → ℕ → Item
node_item text tape w f v = item_of text tape (node_row w f.visible f.hidden v)

pub record VisiblePoint (text tape w : List ℕ) (f : Form) (v : ℕ) : Type 0 where
  pub inside : v / 32 < f.visible_count
  pub function : is_function (node_item text tape w f v).shape ≡ true

pub record HiddenPoint (text tape w : List ℕ) (f : Form) (v : ℕ) : Type 0 where
  pub inside : v / 32 < f.hidden_count
  pub no_sort : is_sort (node_item text tape w f v).shape ≡ false
  pub alone : is_function (node_item text tape w f v).shape ≡ false → v % 16 ≡ 0

-- every node points at such a row
pub record Pointing (text tape w : List ℕ) (f : Form) : Type 0 where
  pub visible : (i : ℕ) → i < f.node_count → get_or w (f.nodes + i) 0 / 16 % 2 ≡ 0 → VisiblePoint text tape w f (get_or w (f.nodes + i) 0)
  pub hidden : (i : ℕ) → i < f.node_count → get_or w (f.nodes + i) 0 / 16 % 2 ≡ 1 → HiddenPoint text tape w f (get_or w (f.nodes + i) 0)

-- ---- a normal form

unfoldable pub visible_at : List ℕ → List ℕ → List ℕ → Form → Visible
visible_at text tape w f = record {
  parameters = slots_at text w f.parameters f.parameter_count;
  items = items_at text tape w f.visible f.visible_count;
}

-- the form f of memory w stands for the normal form n; no equation has more nodes than a text's may have
pub record Stands (text tape w : List ℕ) (f : Form) (n : Normal) : Type 0 where
  pub visible : visible_at text tape w f ≡ n.visible
  pub hidden : items_at text tape w f.hidden f.hidden_count ≡ n.hidden.items
  pub equation_count : f.equation_count ≡ length n.hidden.equations
  pub node_count : f.node_count ≡ sum equation_nodes n.hidden.equations
  pub equations : EquationsStand text tape w f f.equations n.hidden.equations
  pub small : Every (λ (e : ResolvedEquation). equation_nodes e ≤ node_limit) n.hidden.equations
  pub pointing : Pointing text tape w f
