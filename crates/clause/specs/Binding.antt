-- What is checked before a binding, and what each step of it leaves (meaning/specs/Clauses.antt, `bind`).
use Rattle.std.specs.Prelude.{◌≡◌, true, false, List, [], ℕ, ◌+◌, length}
use Rattle.std.proofs.Math.Option.{none}
use Rattle.meaning.specs.Names.{Name}
use Rattle.meaning.specs.Numbers.{formal_unpaired}
use Rattle.meaning.specs.Syntax.{Pair}
use Rattle.meaning.specs.Normal.{Visible, nothing_hidden, Normal, unite_visible, unite_hidden, unite, move_visible, move, formals}
use Rattle.meaning.specs.Checks.{fine, ◌>>◌, Check, unless, checked}
use Rattle.meaning.specs.Clauses.{new_sort, new_function, pairs_right, unpaired, without_visible, without}
use Rattle.text_names.specs.Word.{name_of}
use Rattle.form.specs.declared.Form.{Form}
use Rattle.form.specs.declared.Block.{Block}
use Rattle.form.specs.Verdicts.{Made}
use Rattle.form.specs.Memory.{part, Kept}
use Rattle.form.specs.Forms.{visible_at, Stands}
use Rattle.form.specs.Blocks.{Makes, MadeIn}
use Rattle.clause_translation.specs.declared.Mode.{Mode}
use Rattle.clause_pairs.specs.Pairs.{pairs_at}
use Rattle.clause_translation.specs.Translation.{mode_formals}
use Rattle.unite_nodes.specs.Found.{Noted}
use Rattle.unite.specs.United.{empty_in, with_items, hidden_onto, SlotsUnited, VisibleUnited, sorts, functions}
use Rattle.clause_checks.specs.KeptParameters.{SlotsKept}
use Rattle.clause_fitting.specs.Fits.{mode_whole}
use Rattle.unite_checks.specs.Checked.{CheckRoom}
use Rattle.clause.specs.Rooms.{as_is, Seen}

-- 22 to 27, of the words of a mode and of an actual form
unfoldable pub pairs_checked : List ℕ → List ℕ → List ℕ → Mode → Form → Check
pairs_checked text tape w m actual =
    let formal = mode_formals text tape w m in
    let rs = pairs_at text tape m.pairs in
    pairs_right formal rs (mode_whole text tape w m) (visible_at text tape w actual) [] rs
    >> unless formal_unpaired (unpaired formal rs)

-- the pairs pass
pub record PairsRight (p : Name) (rs : List Pair) (whole actual : Visible) : Type 0 where
  pub right : pairs_right (formals p whole) rs whole actual [] rs ≡ fine tt
  pub paired : unpaired (formals p whole) rs ≡ none

-- ---- what is left of the form that is bound

-- the form in the block that has so many parameters, and nothing else
unfoldable pub named_in : Block → ℕ → Form
named_in b names = with_items (empty_in b) names 0 0

module _ (text : List ℕ) (t : ℕ) (w : List ℕ) (m : Mode) where
  -- without the parameter, under new names
  unfoldable pub left_of : Visible → Visible
  left_of v = move_visible (sorts text t w m) (functions text t w m) (without_visible (name_of text m.parameter) v)

  -- the parameters of g but the bound one, and then its visible items that are not formal
  pub record OwnBound (g : Form) (b : Block) (r : Form) (w' : List ℕ) : Type 0 where
    pub count : ℕ
    pub between : List ℕ
    pub parameters : SlotsKept text w between g.parameters g.parameter_count m.parameter b.parameters count
    pub rows : VisibleUnited text t between m true g (named_in b count) b.visible_notes r w'

  -- ---- that, and what the actual form shows

  -- its parameters that are none of those that are left, and then its visible items
  pub record RowsBound (g actual : Form) (b : Block) (r : Form) (w' : List ℕ) : Type 0 where
    pub own : Form
    pub left : List ℕ
    pub first : OwnBound g b own left
    pub named : Form
    pub between : List ℕ
    pub parameters : SlotsUnited text t left actual own named between
    pub rows : VisibleUnited text t between as_is false actual named (b.visible_notes + 1024) r w'

  -- and where each row went is noted
  pub record FrontBound (g actual : Form) (b : Block) (r : Form) (w' : List ℕ) : Type 0 where
    pub seen : Seen g actual b r
    pub kept : Kept b.low b.high w w'
    pub stands : (n a : Normal) → Stands text (part w 0 t) w g n → Stands text (part w 0 t) w actual a
        → Stands text (part w' 0 t) w' r (record { visible = unite_visible (left_of n.visible) a.visible; hidden = nothing_hidden })
    pub own_noted : (n a : Normal) → Stands text (part w 0 t) w g n → Stands text (part w 0 t) w actual a
        → PairsRight (name_of text m.parameter) (pairs_at text (part w 0 t) m.pairs) n.visible a.visible
        → Noted (sorts text t w' m) (functions text t w' m) text (part w' 0 t) w' true b.visible_notes g.visible g.visible_count
        r.visible r.visible_count
    pub actual_noted :
        Noted (sorts text t w' as_is) (functions text t w' as_is) text (part w' 0 t) w' true (b.visible_notes + 1024) actual.visible
        actual.visible_count r.visible r.visible_count

  -- ---- hidden items and equations

  pub record HiddenBound (g actual f : Form) (b : Block) (r : Form) (w' : List ℕ) : Type 0 where
    pub check : CheckRoom (length w') t r b
    pub kept : Kept b.low b.high w w'
    pub stands : (n a to : Normal) → Stands text (part w 0 t) w g n → Stands text (part w 0 t) w actual a → Stands text (part w 0 t) w f to
        → Noted (sorts text t w m) (functions text t w m) text (part w 0 t) w true b.visible_notes g.visible g.visible_count
        f.visible f.visible_count
        → Noted (sorts text t w as_is) (functions text t w as_is) text (part w 0 t) w true (b.visible_notes + 1024) actual.visible
        actual.visible_count f.visible f.visible_count
        → Stands text (part w' 0 t) w' r (record {
          visible = to.visible;
          hidden = unite_hidden (hidden_onto (sorts text t w m) (functions text t w m) to.hidden n.hidden) a.hidden;
        })

  -- ---- all of it, where the pairs are right

  abbrev pub bound_normal : Normal → Normal → Normal
  bound_normal n a =
      let p = name_of text m.parameter in
      let formal = formals p n.visible in
      let rs = pairs_at text (part w 0 t) m.pairs in
      unite (move (new_sort formal rs) (new_function formal rs) (without p n)) a

  pub record BoundForm (g actual : Form) (b : Block) (r : Made) (w' : List ℕ) : Type 0 where
    pub kept : Kept b.low b.high w w'
    pub made_in : MadeIn b r
    pub made : (n a : Normal) → Stands text (part w 0 t) w g n → Stands text (part w 0 t) w actual a
        → PairsRight (name_of text m.parameter) (pairs_at text (part w 0 t) m.pairs) n.visible a.visible
        → Makes text (part w' 0 t) w' r (checked (bound_normal n a))
