-- Equations absorbed into a table, in words: the nodes are copied behind the destination's through the notes, compared there, and kept
-- with a row more, or dropped by not moving the counts.
use Rattle.std.specs.Prelude.{ℕ, zero, suc, ◌+◌, ◌*◌, ◌/◌, ◌%◌, Bool, true, false, List, eqb, ltb, get_or, set}
use Rattle.std.proofs.lemmas.List.Edits.{sets}
use Rattle.meaning.specs.Lists.{pick}
use Rattle.meaning.specs.Names.{same}
use Rattle.meaning.specs.Origins.{Sort, hidden_sort, same_origin, same_shape}
use Rattle.text_names.specs.Word.{name_of}
use Rattle.form_rows.specs.declared.Row.{Row}
use Rattle.form_rows.specs.Rows.{origin_of, sort_of, shape_of}
use Rattle.form.specs.declared.Form.{Form}
use Rattle.form.specs.declared.EquationRow.{EquationRow}
use Rattle.form.specs.Memory.{part}
use Rattle.form.specs.Forms.{node_in, equation_row_at, equation_words, equation_size}
use Rattle.form.specs.Flat.{same_node}
use Rattle.unite_nodes.specs.declared.Notes.{Notes}

-- ---- nodes

-- the sort at a node of a row that is no function
unfoldable pub node_sort : List ℕ → List ℕ → Row → Sort
node_sort text tape r =
    let v = sort_of text tape (get_or r.sorts 8 0) in pick (eqb r.kind 0) (hidden_sort (origin_of text tape r.origin)) v

-- are the functions a and b the same at nodes u and v? A node's last five bits are its number of arguments, and 16 for a hidden item
unfoldable pub functions_agree : List ℕ → List ℕ → ℕ → Row → ℕ → Row → Bool
functions_agree text tape u a v b =
    let names = same (name_of text a.name) (name_of text b.name) in
    let origins = same_origin (origin_of text tape a.origin) (origin_of text tape b.origin) in
    let shapes = same_shape (shape_of text tape a.kind a.sorts) (shape_of text tape b.kind b.sorts) in
    let rest = pick shapes (pick (ltb (u % 32) 16) names origins) false in
    pick (eqb (u % 32) (v % 32)) rest false

-- node v with row r in place of its own
unfoldable pub renoded : ℕ → ℕ → ℕ
renoded v r = pick (ltb r 65536) (r * 32 + v % 32) 0

-- node v through the notes of visible and of hidden items
unfoldable pub renode : List ℕ → ℕ → ℕ → ℕ → ℕ
renode w visible hidden v =
    let below = renoded v (get_or w (hidden + v / 32) 0) in pick (ltb (v % 32) 16) (renoded v (get_or w (visible + v / 32) 0)) below

-- c nodes from place a on, through the notes, to place b
unfoldable pub copied : List ℕ → ℕ → ℕ → ℕ → ℕ → ℕ → List ℕ
copied w visible hidden a b zero = w
copied w visible hidden a b (suc c) = copied (set w b (renode w visible hidden (get_or w a 0))) visible hidden (suc a) (suc b) c

-- are the nodes at places a and b the same?
unfoldable pub same_at : List ℕ → ℕ → List ℕ → ℕ → ℕ → ℕ → ℕ → Bool
same_at text t w visible hidden a b =
    same_node (node_in text (part w 0 t) w visible hidden (get_or w a 0)) (node_in text (part w 0 t) w visible hidden (get_or w b 0))

-- are the c nodes from a on those from b on?
unfoldable pub same_run : List ℕ → ℕ → List ℕ → ℕ → ℕ → ℕ → ℕ → ℕ → Bool
same_run text t w visible hidden a b zero = true
same_run text t w visible hidden a b (suc c) =
    let r = same_run text t w visible hidden (suc a) (suc b) c in
    pick (same_at text t w visible hidden a b) r false

-- ---- one equation

-- is q, whose nodes stand behind those of f, the equation r of f?
unfoldable pub same_equation : List ℕ → ℕ → List ℕ → Form → EquationRow → EquationRow → Bool
same_equation text t w f q r =
    let last = same_run text t w f.visible f.hidden (f.nodes + f.node_count) (f.nodes + r.start) q.count in
    pick (eqb q.home r.home) (pick (eqb q.position r.position) (pick (eqb q.count r.count) last false) false) false

-- is it one of the c rows of f from row i on?
unfoldable pub has_equation : List ℕ → ℕ → List ℕ → Form → EquationRow → ℕ → ℕ → Bool
has_equation text t w f q i zero = false
has_equation text t w f q i (suc c) =
    let r = has_equation text t w f q (suc i) c in pick (same_equation text t w f q (equation_row_at w (f.equations + i * equation_size))) true r

-- the form with other numbers of equations and of nodes
unfoldable pub with_counts : Form → ℕ → ℕ → Form
with_counts f equations nodes = record {
  parameters = f.parameters;
  parameter_count = f.parameter_count;
  visible = f.visible;
  visible_count = f.visible_count;
  hidden = f.hidden;
  hidden_count = f.hidden_count;
  equations = f.equations;
  equation_count = equations;
  nodes = f.nodes;
  node_count = nodes;
}

-- a form and the memory that it lies in
pub record Out : Type 0 where
  pub form : Form
  pub work : List ℕ

abbrev pub out : Form → List ℕ → Out
out f w = record { form = f; work = w }

-- q, whose nodes stand behind those of f: dropped where it is there, else a row more
unfoldable pub settled : List ℕ → ℕ → List ℕ → Form → EquationRow → Out
settled text t w f q =
    let more = out (with_counts f (f.equation_count + 1) (f.node_count + q.count)) (sets w (f.equations + f.equation_count * equation_size) (equation_words q f.node_count)) in
    pick (has_equation text t w f q 0 f.equation_count) (out f w) more

-- the equation q of g absorbed into f. Where there is no room nothing changes
unfoldable pub joined_row : List ℕ → ℕ → List ℕ → Form → EquationRow → Notes → Form → Out
joined_row text t w g q o f =
    let more = settled text t (copied w o.visible o.hidden (g.nodes + q.start) (f.nodes + f.node_count) q.count) f q in
    let fits = pick (ltb o.node_room (f.node_count + q.count)) (out f w) more in
    pick (ltb f.equation_count o.equation_room) fits (out f w)

-- the c equations of g from row k on
unfoldable pub joined : List ℕ → ℕ → List ℕ → Form → ℕ → ℕ → Notes → Form → Out
joined text t w g k zero o f = out f w
joined text t w g k (suc c) o f =
    let x = joined_row text t w g (equation_row_at w (g.equations + k * equation_size)) o f in joined text t x.work g (suc k) c o x.form
