-- From equations typed in memory to a normal form that stands: the visible items of a module and its own hidden ones are one table of known
-- items, and the form has them, the equations' rows and their nodes.
use Rattle.std.specs.Prelude.{◌≡◌, Bool, ℕ, zero, suc, ◌+◌, ◌-◌, ◌*◌, ◌/◌, ◌%◌, ◌<◌, ◌≤◌, eqb, ltb, get_or, take, drop, Result, Ok, Err}
use Rattle.std.proofs.Math.Path.{refl, ap, ap₂}
use Rattle.std.proofs.Common.{sym, ◌∙◌, drop-cons}
use Rattle.std.proofs.Math.Bool.{true, false}
use Rattle.std.proofs.lemmas.Bool.{false≢true}
use mathlib.Core.List.{List, [], ◌∷◌, ◌++◌, map}
use native.Mathlib.Omega.{arith}
use borrow.Author.Tests.{eq-eqb, ne_eqb, ltb-true, ltb-false}
use Rattle.std.proofs.Math.ListN.{length}
use Rattle.meaning.specs.Lists.{pick, each, sum}
use Rattle.meaning.specs.Numbers.{node_limit, ill_typed}
use Rattle.meaning.specs.Syntax.{Equation}
use Rattle.meaning.specs.Origins.{is_sort, is_function, Item, ResolvedEquation}
use Rattle.meaning.specs.OrderLaws.{Every}
use Rattle.meaning.specs.Normal.{Visible, Normal}
use Rattle.meaning.specs.Checks.{Outcome, fine, stop, ◌>>=◌, equation_nodes}
use Rattle.meaning.specs.Typing.{is_variable, typed_equations}
use Rattle.laws.specs.Reading.{source_equation}
use Rattle.invariants.specs.Nodes.{EachWithin, equations_within}
use Rattle.tape.specs.Tape as on_tape
use Rattle.form_rows.specs.Rows.{item_of, row_at, row_size}
use Rattle.form.specs.declared.Form.{Form}
use Rattle.form.specs.Memory.{part, Kept}
use Rattle.form.specs.FormLaws.{Apart, kept_all, kept_same, slots_same, items_same, items_split}
use Rattle.form.specs.Forms.{items_at, node_row, node_of, node_in, nodes_of, equation_row_at, EquationStands, EquationsStand, node_item, VisiblePoint, HiddenPoint, Pointing, visible_at, equation_size, slot_size}
use Rattle.form.specs.Verdicts.{Made, refusal, lone_of}
use Rattle.form.specs.Blocks.{Makes}
use Rattle.own_finding.specs.declared.Known.{Known}
use Rattle.own_typing.specs.declared.Module.{Module}
use Rattle.own_typing.specs.declared.Equated.{Equated}
use Rattle.own_terms.specs.Typing.{items_in}
use Rattle.own_typing.specs.Equations.{span, Told, equations_from}
use Rattle.own_terms.specs.Meant.{Spells, Layout, visibly, known_row, known_item, node_here, Pointed, tape_stays, row_stays}
use Rattle.own_typing.specs.Chosen.{Stand}
use Rattle.own_typing.specs.Rows.{RowStands, span_is}
use Rattle.own_typing.specs.Listed.{RowsStand, AgreeAll, equations_typed}

-- ---- a module's own form

-- the form's items are the known ones: no hidden item is imported into it
abbrev pub known_in : ℕ → Form → Known
known_in t f = record { tape = t; base = f.visible; count = f.visible_count + f.hidden_count; visible = f.visible_count; hidden = 0 }

abbrev pub module_in : Form → ℕ → ℕ → Module
module_in f home end = record { home = home; end = end; rows = f.equations; nodes = f.nodes }

-- the form with so many equations and nodes
abbrev pub with_equations : Form → ℕ → ℕ → Form
with_equations f equations nodes = record {
  parameters = f.parameters;
  parameter_count = f.parameter_count;
  visible = f.visible;
  visible_count = f.visible_count;
  hidden = f.hidden;
  hidden_count = f.hidden_count;
  equations = f.equations;
  equation_count = equations;
  nodes = f.nodes;
  node_count = nodes;
}

-- what is made of it
unfoldable pub own_made : Form → Result Equated ℕ → Made
own_made f (Err tag) = Err (refusal ill_typed (record { name = tag; actual = 0 }))
own_made f (Ok a) = Ok (with_equations f a.count (span a.free f.nodes))

-- a visible item
pub record Seen (i : Item) : Type 0 where
  pub standing : visibly i.standing ≡ true
  pub variable : is_variable i.shape ≡ false

abbrev pub Unseen : Item → Type 0
Unseen i = visibly i.standing ≡ false

-- the form has these items, and those hidden stand behind the visible ones; apart from them there is room for the rows of so many equations,
-- and up to `high` for twice as many nodes as their entries: a pass writes the nodes that it drops as well
pub record OwnLaid (text : List ℕ) (t : ℕ) (f : Form) (v : Visible) (hidden : List Item) (equations entries high : ℕ) (w : List ℕ) : Type 0 where
  pub tape : t ≤ f.equations
  pub behind : f.hidden ≡ f.visible + f.visible_count * row_size
  pub items_apart : Apart f.equations high f.visible (f.visible + (f.visible_count + f.hidden_count) * row_size)
  pub names_apart : Apart f.equations high f.parameters (f.parameters + f.parameter_count * slot_size)
  pub rows : f.equations + equations * equation_size ≤ f.nodes
  pub nodes : f.nodes + (entries + entries) ≤ high
  pub inside : high ≤ length w
  pub size : high < 4294967295
  pub visible : visible_at text (part w 0 t) w f ≡ v
  pub hidden_items : items_at text (part w 0 t) w f.hidden f.hidden_count ≡ hidden

-- what is made of a form: that form with equations and nodes, which lie within their room, and nothing else has changed
abbrev pub MadeFrom : Form → ℕ → List ℕ → List ℕ → Made → Type 0
MadeFrom f high w w' (Ok g) =
    (g ≡ with_equations f g.equation_count g.node_count) × Kept f.equations high w w' × (f.nodes + g.node_count ≤ high)
MadeFrom f high w w' (Err x) = Unit {0}

pub record OwnTyped (text : List ℕ) (t : ℕ) (f : Form) (high : ℕ) (w w' : List ℕ) (r : Made) (n : Outcome Normal) : Type 0 where
  pub makes : Makes text (part w' 0 t) w' r n
  pub made : MadeFrom f high w w' r

-- ---- tables

every_item : (P : Item → Type 0) (text tape w : List ℕ) (b c : ℕ) → Every P (items_at text tape w b c) → (i : ℕ) → i < c
    → P (item_of text tape (row_at w (b + i * row_size)))
unfolding items_at
every_item P text tape w b zero h i l = absurd (omega arith)
every_item P text tape w b (suc c) h zero l = let e : b + 0 * row_size ≡ b = omega arith in rw e h.0
every_item P text tape w b (suc c) h (suc i) l =
    let e : b + suc i * row_size ≡ b + row_size + i * row_size = omega arith in rw e (every_item P text tape w (b + row_size) c h.1 i (omega arith))

-- words that stand are those taken there
stand_taken : (vs : List ℕ) (q : ℕ) (w : List ℕ) → q + length vs ≤ length w → Stand q vs w → take (length vs) (drop q w) ≡ vs
stand_taken [] q w h s = refl
stand_taken (v ∷ vs) q w h s = rw (drop-cons w q 0 (omega arith)) (ap₂ ◌∷◌ s.0 (stand_taken vs (suc q) w (omega arith) s.1))

row_told : (home position tag conditions start count b : ℕ) (w : List ℕ) → Stand b (home ∷ position ∷ tag ∷ conditions ∷ start ∷ count ∷ []) w
    → equation_row_at w b ≡ record { home = home; position = position; tag = tag; conditions = conditions; start = start; count = count }
unfolding equation_row_at
row_told home position tag conditions start count b w s =
    let e₁ : b + 1 ≡ suc b = omega arith in
    let e₂ : b + 2 ≡ suc (suc b) = omega arith in
    let e₃ : b + 3 ≡ suc (suc (suc b)) = omega arith in
    let e₄ : b + 4 ≡ suc (suc (suc (suc b))) = omega arith in
    let e₅ : b + 5 ≡ suc (suc (suc (suc (suc b)))) = omega arith in
    rw (e₁, e₂, e₃, e₄, e₅)
    (λ z. record {
      home = s.0 z;
      position = s.1.0 z;
      tag = s.1.1.0 z;
      conditions = s.1.1.1.0 z;
      start = s.1.1.1.1.0 z;
      count = s.1.1.1.1.1.0 z;
    })

module _ (text : List ℕ) (t : ℕ) (f : Form) (v : Visible) (hidden : List Item) (equations entries high home end : ℕ) (w₀ : List ℕ)
    (laid : OwnLaid text t f v hidden equations entries high w₀) (seen : Every Seen v.items) (unseen : Every Unseen hidden) where
  abbrev k : Known
  k = known_in t f

  abbrev m : Module
  m = module_in f home end

  abbrev tape : List ℕ
  tape = part w₀ 0 t

  visible_items : items_at text tape w₀ f.visible f.visible_count ≡ v.items
  unfolding visible_at
  visible_items = ap (λ (u : Visible). u.items) laid.visible

  hidden_items : items_at text tape w₀ (f.visible + f.visible_count * row_size) f.hidden_count ≡ hidden
  hidden_items = rw laid.behind at laid.hidden_items

  known_are : items_in text k w₀ ≡ v.items ++ hidden
  known_are = items_split text tape w₀ f.visible f.visible_count f.hidden_count ∙ ap₂ ◌++◌ visible_items hidden_items

  visible_row : (row : ℕ) → row < f.visible_count → Seen (known_item text k w₀ row)
  visible_row row h = every_item Seen text tape w₀ f.visible f.visible_count (rw visible_items seen) row h

  hidden_row : (row : ℕ) → f.visible_count ≤ row → row < f.visible_count + f.hidden_count → Unseen (known_item text k w₀ row)
  hidden_row row h l =
      let e : f.visible + f.visible_count * row_size + (row - f.visible_count) * row_size ≡ f.visible + row * row_size = omega arith in
      rw e at
      (every_item Unseen text tape w₀ (f.visible + f.visible_count * row_size) f.hidden_count (rw hidden_items unseen) (row - f.visible_count)
      (omega arith))

  layout : Layout text k w₀ f.equations high
  layout = record {
    tape = laid.tape;
    rows = laid.items_apart;
    inside = laid.inside;
    standing = λ row h. go row h (ltb row f.visible_count) refl;
    variables = λ row h. (visible_row row h).variable;
  }
    where
      go : (row : ℕ) → row < f.visible_count + f.hidden_count → (b : Bool) → ltb row f.visible_count ≡ b
          → visibly (known_item text k w₀ row).standing ≡ ltb row f.visible_count
      go row h true e = (visible_row row (ltb-true row f.visible_count e)).standing ∙ sym e
      go row h false e = hidden_row row (ltb-false row f.visible_count e) h ∙ sym e

  -- ---- in a memory where rows and nodes were written: c nodes of n equations

  module _ (w : List ℕ) (kept : Kept f.equations high w₀ w) (n c : ℕ) where
    abbrev g : Form
    g = with_equations f n c

    tape_still : part w 0 t ≡ tape
    tape_still = tape_stays text k w₀ f.equations high layout w kept

    row_still : (row : ℕ) → row < f.visible_count + f.hidden_count → row_at w (f.visible + row * row_size) ≡ row_at w₀ (f.visible + row * row_size)
    row_still row h = row_stays text k w₀ f.equations high layout w kept row h

    items_still : (b i : ℕ) → f.visible ≤ b → b + i * row_size ≤ f.visible + (f.visible_count + f.hidden_count) * row_size
        → items_at text (part w 0 t) w b i ≡ items_at text tape w₀ b i
    items_still b i h l =
        ap (λ (u : List ℕ). items_at text u w b i) tape_still
        ∙ items_same w₀ w text tape b i
        (λ j x y. kept_same f.equations high f.visible (f.visible + (f.visible_count + f.hidden_count) * row_size) w₀ w laid.items_apart kept j
        (omega arith) (omega arith))

    visible_still : visible_at text (part w 0 t) w g ≡ v
    unfolding visible_at
    visible_still =
        let slots = slots_same w₀ w text f.parameters f.parameter_count
        (kept_same f.equations high f.parameters (f.parameters + f.parameter_count * slot_size) w₀ w laid.names_apart kept) in
        let items = items_still f.visible f.visible_count (omega arith) (omega arith) in
        (λ z. record { parameters = slots z; items = items z }) ∙ laid.visible

    hidden_still : items_at text (part w 0 t) w f.hidden f.hidden_count ≡ hidden
    hidden_still = items_still f.hidden f.hidden_count (omega (arith, laid.behind)) (omega (arith, laid.behind)) ∙ laid.hidden_items

    -- ---- what the nodes point at

    item_there : (x : ℕ) → Pointed text k w₀ x → node_item text (part w 0 t) w g x ≡ known_item text k w₀ (known_row k x)
    unfolding node_item node_row known_row pick
    item_there x p = rw tape_still (ap (item_of text tape) (go (eqb (x / 16 % 2) 0) p.inside))
      where
        go : (b : Bool) → pick b (x / 32) (f.visible_count + (x / 32 - 0)) < f.visible_count + f.hidden_count
            → pick b (row_at w (f.visible + x / 32 * row_size)) (row_at w (f.hidden + x / 32 * row_size))
            ≡ row_at w₀ (f.visible + pick b (x / 32) (f.visible_count + (x / 32 - 0)) * row_size)
        go true h = row_still (x / 32) h
        go false h =
            let e : f.hidden + x / 32 * row_size ≡ f.visible + (f.visible_count + (x / 32 - 0)) * row_size = omega (arith, laid.behind) in
            rw e (row_still (f.visible_count + (x / 32 - 0)) h)

    nodes_there : (xs : List ℕ) → Every (Pointed text k w₀) xs → nodes_of text (part w 0 t) w g xs ≡ map (node_here text k w₀) xs
    unfolding nodes_of node_in node_here node_item
    nodes_there [] p = refl
    nodes_there (x ∷ xs) p = ap₂ ◌∷◌ (ap (node_of (eqb (x / 16 % 2) 0) (x % 16)) (item_there x p.0)) (nodes_there xs p.1)

    visible_point : (x : ℕ) → Pointed text k w₀ x → x / 16 % 2 ≡ 0 → VisiblePoint text (part w 0 t) w g x
    unfolding known_row pick
    visible_point x p e =
        let b = eq-eqb (x / 16 % 2) 0 e in
        record {
          inside = rw b at (p.seen e);
          function = ap (λ (i : Item). is_function i.shape) (item_there x p) ∙ go (is_function (known_item text k w₀ (known_row k x)).shape) refl;
        }
      where
        go : (b : Bool) → is_function (known_item text k w₀ (known_row k x)).shape ≡ b → is_function (known_item text k w₀ (known_row k x)).shape ≡ true
        go true q = q
        go false q = absurd (false≢true (sym (p.behind q) ∙ eq-eqb (x / 16 % 2) 0 e))

    hidden_point : (x : ℕ) → Pointed text k w₀ x → x / 16 % 2 ≡ 1 → HiddenPoint text (part w 0 t) w g x
    unfolding known_row pick
    hidden_point x p e =
        let b = ne_eqb (x / 16 % 2) 0 (λ z. omega arith) in
        let there = item_there x p in
        let inside = rw b at p.inside in
        record {
          inside = omega arith;
          no_sort = ap (λ (i : Item). is_sort i.shape) there ∙ p.no_sort;
          alone = λ q. p.alone (sym (ap (λ (i : Item). is_function i.shape) there) ∙ q);
        }

    nodes_point : ((j : ℕ) → f.nodes ≤ j → j < f.nodes + c → Pointed text k w₀ (get_or w j 0)) → Pointing text (part w 0 t) w g
    nodes_point p = record {
      visible = λ i h e. visible_point (get_or w (f.nodes + i) 0) (p (f.nodes + i) (omega arith) (omega arith)) e;
      hidden = λ i h e. hidden_point (get_or w (f.nodes + i) 0) (p (f.nodes + i) (omega arith) (omega arith)) e;
    }

    -- ---- rows

    row_stands : (r : ResolvedEquation) (b : ℕ) → f.nodes + c ≤ high → RowStands text k w₀ m r b (f.nodes + c) w
        → EquationStands text (part w 0 t) w g (equation_row_at w b) r
    row_stands r b h s =
        let size : f.nodes + s.start + length s.words ≤ length w = omega (arith, s.within, h, kept.size, laid.inside) in
        rw (row_told r.module_number r.position s.tag (length r.conditions) s.start (length s.words) b w s.row)
        (record {
          home = refl;
          position = refl;
          tag = s.tagged;
          conditions = refl;
          within = omega (arith, s.within);
          nodes = ap (nodes_of text (part w 0 t) w g) (stand_taken s.words (f.nodes + s.start) w size s.stand) ∙ nodes_there s.words s.pointed
              ∙ s.nodes;
        })

    rows_stand : (rs : List ResolvedEquation) (position : ℕ) → f.nodes + c ≤ high → RowsStand text k w₀ m rs position (f.nodes + c) w
        → EquationsStand text (part w 0 t) w g (f.equations + position * equation_size) rs
    rows_stand [] position h s = tt
    rows_stand (r ∷ rs) position h s =
        let e : f.equations + position * equation_size + equation_size ≡ f.equations + (position + 1) * equation_size = omega arith in
        (row_stands r (f.equations + position * equation_size) h s.0, rw e (rows_stand rs (position + 1) h s.1))

  -- ---- the whole form

  abbrev own : List ResolvedEquation → Normal
  own rs = record { visible = v; hidden = record { items = hidden; equations = rs } }

  own_stands : (a : Outcome (List ResolvedEquation)) (o : Told) → AgreeAll text k w₀ m a 0 f.nodes f.equations high w₀ o → EachWithin node_limit a
      → OwnTyped text t f high w₀ o.memory (own_made f o.answer) (a >>= (λ rs. fine (own rs)))
  unfolding own_made ◌>>=◌
  own_stands (stop number culprit) o h small =
      rw h.answer (record { makes = (sym h.numbered, lone_of text h.tag ∙ h.named); made = tt })
  own_stands (fine rs) o h small =
      let c = sum equation_nodes rs in
      let nodes : span h.free f.nodes ≡ c = span_is text k w₀ m h.free f.nodes (omega (arith, h.inside, laid.size)) ∙ omega (arith, h.counted) in
      let none : 0 + length rs ≡ length rs = omega arith in
      let up : f.nodes + c ≤ high = omega (arith, h.inside, h.counted) in
      let first : f.equations + 0 * equation_size ≡ f.equations = omega arith in
      rw (h.answer, nodes, none)
      (record {
        makes = record {
          visible = visible_still o.memory h.kept (length rs) c;
          hidden = hidden_still o.memory h.kept (length rs) c;
          equation_count = refl;
          node_count = refl;
          equations = rw first at (rows_stand o.memory h.kept (length rs) c rs 0 up (rw h.counted at h.rows));
          small = small;
          pointing = nodes_point o.memory h.kept (length rs) c (λ j x y. h.pointed j x (omega (arith, h.counted)));
        };
        made = (refl, h.kept, up);
      })

  -- the equations of a module, where the entries spell them: the form made stands for the meaning's
  pub own_typed : (es : List Equation) (i : ℕ) → length es ≡ equations → length (each on_tape.flat_equation es) ≡ entries → length es < t
      → Spells text k w₀ i (each on_tape.flat_equation es) → i + entries ≡ end → end ≤ t → Every (λ (e : Equation). source_equation e ≤ node_limit) es
      → (o : Told) → o ≡ equations_from text k m t 0 i f.nodes w₀
      → OwnTyped text t f high w₀ o.memory (own_made f o.answer) (typed_equations (v.items ++ hidden) home 0 es >>= (λ rs. fine (own rs)))
  own_typed es i n c few s z y small o e =
      let all = equations_typed text k w₀ m f.equations high layout laid.size es t 0 i f.nodes w₀ few s (kept_all f.equations high w₀) (omega arith)
      (omega (arith, n, laid.rows)) (omega arith) (omega (arith, c, laid.nodes)) (omega (arith, c, z)) y in
      rw (← known_are, e)
      (own_stands (typed_equations (items_in text k w₀) home 0 es) (equations_from text k m t 0 i f.nodes w₀) all
      (equations_within (items_in text k w₀) node_limit home 0 es small))
