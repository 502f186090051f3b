-- What a module itself says, as a form; and that form joined to what the module imports: what is made of it.
use Rattle.std.specs.Prelude.{◌≡◌, Bool, true, false, List, ℕ, ◌+◌, ◌*◌, ◌≤◌, leb, length, Ok, Err}
use Rattle.std.proofs.Common.{sym, ◌∙◌, arith, leb-true, le-leb}
use Rattle.std.proofs.Math.Path.{ap, subst}
use Rattle.std.proofs.lemmas.Bool.{false≢true}
use Rattle.meaning.specs.Normal.{Normal, unite_hidden}
use Rattle.meaning.specs.Checks.{Size}
use Rattle.meaning.specs.Numbers.{no_room}
use Rattle.form_rows.specs.Rows.{row_size}
use Rattle.form.specs.declared.Form.{Form}
use Rattle.form.specs.declared.Block.{Block}
use Rattle.form.specs.declared.Refusal.{Refusal}
use Rattle.form.specs.Verdicts.{Made, refusal}
use Rattle.form.specs.Memory.{part, Kept}
use Rattle.form.specs.Forms.{Stands}
use Rattle.form.specs.FormLaws.{kept_all}
use Rattle.form.specs.Blocks.{Lies, Makes, MadeIn}
use Rattle.unite_checks.specs.Consistent.{nobody}
use Rattle.unite_nodes.specs.Joined.{with_counts}
use Rattle.unite.specs.United.{with_items}
use Rattle.own_items.specs.declared.OwnRows.{OwnRows}
use Rattle.own_completing.specs.declared.Totals.{Totals}
use Rattle.own_completing.specs.Hidden.{JoinRoom, HiddenJoined}
use Rattle.own_completing.specs.Room.{TotalsRight, FewIn, fitting_all, StillRight, TotalsMeant, in_room, all_right, all_in, fitted}

-- the form of what a module itself says, with no equations yet: their rows stand from `scratch` on, and their nodes behind
unfoldable pub said_form : Form → OwnRows → ℕ → Form
said_form f counts scratch = record {
  parameters = f.parameters;
  parameter_count = counts.parameter_count;
  visible = f.visible;
  visible_count = counts.visible_count;
  hidden = f.visible + counts.visible_count * row_size;
  hidden_count = counts.hidden_count;
  equations = scratch;
  equation_count = 0;
  nodes = scratch + 65536;
  node_count = 0;
}

-- its places are words
pub record SaidRoom (f : Form) (counts : OwnRows) (scratch : ℕ) : Type 0 where
  pub rows : f.visible + counts.visible_count * row_size ≤ 1073741824
  pub nodes : scratch ≤ 1073741824

-- ---- joined

pub record SaidJoined (text : List ℕ) (t : ℕ) (w : List ℕ) (g f : Form) (b : Block) (totals : Totals) (r : Made) (w' : List ℕ) : Type 0 where
  pub made_in : MadeIn b r
  pub right : StillRight totals r
  pub kept : Kept b.low b.high w w'
  pub made : g.node_count ≤ 65536 → (from to : Normal) (total : Size) → TotalsMeant totals total
      → Stands text (part w 0 t) w g from → Stands text (part w 0 t) w f to
      → Makes text (part w' 0 t) w' r (in_room total (record { visible = to.visible; hidden = unite_hidden to.hidden from.hidden }))

-- where something was made, it has its place, and is joined
pub record RoomMade (size t : ℕ) (made : Made) (f : Form) (b : Block) : Type 0 where
  pub room : (g : Form) → made ≡ Ok g → JoinRoom size t g f b

pub record MadeJoined (text : List ℕ) (t : ℕ) (w : List ℕ) (made : Made) (f : Form) (b : Block) (totals : Totals) (r : Made) (w' : List ℕ) : Type 0 where
  pub refused : (x : Refusal) → made ≡ Err x → r ≡ Err x
  pub done : (g : Form) → made ≡ Ok g → SaidJoined text t w g f b totals r w'

-- ---- laws

pub nodes_few : (g : Form) (few : Bool) → few ≡ leb g.node_count 65536 → few ≡ true → g.node_count ≤ 65536
nodes_few g few e h = leb-true g.node_count 65536 (sym e ∙ h)

module _ (text : List ℕ) (t : ℕ) (w : List ℕ) (g f : Form) (b : Block) (totals : Totals) where
  pub said_many : (few : Bool) → few ≡ leb g.node_count 65536 → few ≡ false → SaidJoined text t w g f b totals (Err (refusal no_room nobody)) w
  said_many few e h = record {
    made_in = tt;
    right = tt;
    kept = kept_all b.low b.high w;
    made = λ l. absurd (false≢true (sym h ∙ e ∙ le-leb g.node_count 65536 l));
  }

  module _ (room : JoinRoom (length w) t g f b) (h : Form) (w' : List ℕ) (x : HiddenJoined text t w g f b h w') where
    joined_lies : Lies b h
    unfolding with_counts with_items
    joined_lies = subst (Lies b) (sym x.form) (omega (arith, room.inside.lies))

    pub said_few : TotalsRight totals → FewIn h totals
    unfolding with_counts with_items
    said_few right =
        let laid = room.laid in
        let rows : h.visible_count ≡ f.visible_count = ap (λ (z : Form). z.visible_count) x.form in
        record {
          items = omega (arith, rows, x.few, room.inside.visible, room.few_rows);
          equations = omega (arith, laid, x.equations);
          nodes = omega (arith, laid, x.nodes);
          right = right;
        }

    pub said_joined : (r : Made) → r ≡ fitting_all h totals → SaidJoined text t w g f b totals r w'
    said_joined r e =
        rw e (record {
          made_in = all_in h totals b joined_lies x.nodes;
          right = all_right h totals;
          kept = x.kept;
          made = λ l from to total m s u. fitted text t w g f b h w' room.enough_equations x from to s u totals total m;
        })

-- what was made is one thing
abbrev pub form_or : Form → Made → Form
form_or g (Ok h) = h
form_or g (Err x) = g

abbrev pub IsDone : Made → Type 0
IsDone (Ok g) = Unit {0}
IsDone (Err x) = ⊥

module _ (text : List ℕ) (t : ℕ) (w : List ℕ) (made : Made) (f : Form) (b : Block) (totals : Totals) where
  pub joined_refused : (x : Refusal) → made ≡ Err x → MadeJoined text t w made f b totals (Err x) w
  joined_refused x e = record { refused = λ y q. sym e ∙ q; done = λ g q. absurd (subst IsDone (sym q ∙ e) tt) }

  pub joined_done : (g : Form) (r : Made) (w' : List ℕ) → made ≡ Ok g → SaidJoined text t w g f b totals r w'
      → MadeJoined text t w made f b totals r w'
  joined_done g r w' e x = record {
    refused = λ y q. absurd (subst IsDone (sym e ∙ q) tt);
    done = λ h q. subst (λ (z : Form). SaidJoined text t w z f b totals r w') (ap (form_or g) (sym e ∙ q)) x;
  }

  pub made_room : (size : ℕ) (g : Form) → RoomMade size t made f b → made ≡ Ok g → JoinRoom size t g f b
  made_room size g room e = room.room g e
