-- A binding whose pairs are right, step by step: what is made is what the meaning says.
use Rattle.std.specs.Prelude.{◌≡◌, List, ℕ, ◌+◌, ◌*◌, ◌≤◌, length}
use Rattle.std.proofs.Common.{sym, ap, ap₂, ◌∙◌}
use Rattle.std.proofs.Math.Path.{subst}
use Rattle.meaning.specs.Names.{Name}
use Rattle.meaning.specs.Syntax.{Pair}
use Rattle.meaning.specs.Origins.{FunctionType}
use Rattle.meaning.specs.Normal.{Visible, nothing_hidden, Normal, unite_visible, unite_hidden, unite, move_visible, move_hidden, move, formals}
use Rattle.meaning.specs.Clauses.{new_sort, new_function, without_visible, without}
use Rattle.text_names.specs.Word.{name_of}
use Rattle.form_rows.specs.Rows.{row_size}
use Rattle.form.specs.declared.Form.{Form}
use Rattle.form.specs.declared.Block.{Block}
use Rattle.form.specs.Verdicts.{Made}
use Rattle.form.specs.Memory.{part, Kept}
use Rattle.form.specs.Forms.{items_at, visible_at, Stands}
use Rattle.form.specs.FormLaws.{Apart}
use Rattle.form_frames.specs.Changes.{onward, still_stands}
use Rattle.clause_translation.specs.declared.Mode.{Mode}
use Rattle.clause_pairs.specs.Pairs.{pairs_at}
use Rattle.unite.specs.United.{hidden_onto, sorts, functions}
use Rattle.unite.specs.Whole.{sorts_stay, functions_stay}
use Rattle.clause_fitting.specs.Bound.{sorts_meant, functions_meant}
use Rattle.unite_checks.specs.Checked.{CheckRoom, CheckedForm}
use Rattle.clause.specs.Rooms.{Binds, StepRoom, SeenRoom}
use Rattle.clause.specs.Binding.{PairsRight, left_of, RowsBound, FrontBound, HiddenBound, bound_normal, BoundForm}
use Rattle.clause.specs.Either.{NotesMade}
use Rattle.clause.specs.Places.{block_laid, mode_apart, own_step}
use Rattle.clause.specs.VisibleSteps.{front_bound}

-- the mode's table holds the visible items of what g stands for
pub table_meant : (text tape w : List ℕ) (m : Mode) (g : Form) (n : Normal) → Binds m g → Stands text tape w g n
    → items_at text tape w m.visible m.count ≡ n.visible.items
unfolding visible_at
table_meant text tape w m g n binds s = ap₂ (items_at text tape w) binds.table binds.count ∙ ap (λ (v : Visible). v.items) s.visible

module _ (text : List ℕ) (t : ℕ) (w : List ℕ) (m : Mode) (g actual : Form) (b : Block) (room : StepRoom (length w) t m g actual b) where
  behind : t ≤ b.low
  behind = (block_laid (length w) t b room.room.own.room).tape

  table_apart : Apart b.low b.high m.visible (m.visible + m.count * row_size)
  table_apart = mode_apart (length w) t m g b (own_step (length w) t m g actual b room)

  module _ (seen : Form) (w₀ : List ℕ) (rows : RowsBound text t w m g actual b seen w₀) (w₁ : List ℕ)
      (noted : NotesMade text t w₀ m seen b.visible_notes w₁) where
    x : FrontBound text t w m g actual b seen w₁
    x = front_bound text t w m g actual b room seen w₀ rows w₁ noted

    pub hidden_step : SeenRoom (length w₁) t m g actual seen b
    hidden_step = record { step = subst (λ (size : ℕ). StepRoom size t m g actual b) (sym x.kept.size) room; seen = x.seen }

    module _ (f : Form) (w₂ : List ℕ) (y : HiddenBound text t w₁ m g actual seen b f w₂) where
      pub check_step : CheckRoom (length w₂) t f b
      check_step = y.check

      both_kept : Kept b.low b.high w w₂
      both_kept = onward x.kept y.kept

      module _ (n a : Normal) (s : Stands text (part w 0 t) w g n) (u : Stands text (part w 0 t) w actual a) where
        abbrev p : Name
        p = name_of text m.parameter

        abbrev rs : List Pair
        rs = pairs_at text (part w 0 t) m.pairs

        abbrev σ : Name → Name
        σ = new_sort (formals p n.visible) rs

        abbrev φ : Name → FunctionType → Name
        φ = new_function (formals p n.visible) rs

        s₁ : Stands text (part w₁ 0 t) w₁ g n
        s₁ = still_stands behind x.kept room.room.own.outside s

        u₁ : Stands text (part w₁ 0 t) w₁ actual a
        u₁ = still_stands behind x.kept room.room.outside u

        table : items_at text (part w 0 t) w m.visible m.count ≡ n.visible.items
        table = table_meant text (part w 0 t) w m g n room.mode s

        sorts₀ : sorts text t w m ≡ σ
        sorts₀ = sorts_meant text (part w 0 t) w m n.visible table room.mode.kind

        functions₀ : functions text t w m ≡ φ
        functions₀ = functions_meant text (part w 0 t) w m n.visible table room.mode.kind

        sorts₁ : sorts text t w₁ m ≡ σ
        sorts₁ = sorts_stay text t w w₁ m b.low b.high behind x.kept table_apart ∙ sorts₀

        functions₁ : functions text t w₁ m ≡ φ
        functions₁ = functions_stay text t w w₁ m b.low b.high behind x.kept table_apart ∙ functions₀

        stood : PairsRight p rs n.visible a.visible → Stands text (part w₂ 0 t) w₂ f (bound_normal text t w m n a)
        unfolding left_of hidden_onto nothing_hidden unite move move_hidden without
        stood pairs =
            let first = x.stands n a s u in
            let then = y.stands n a _ s₁ u₁ first (x.own_noted n a s u pairs) x.actual_noted in
            subst (Stands text (part w₂ 0 t) w₂ f)
            (λ i. record {
              visible = unite_visible (move_visible (sorts₀ i) (functions₀ i) (without_visible p n.visible)) a.visible;
              hidden = unite_hidden (hidden_onto (sorts₁ i) (functions₁ i) nothing_hidden n.hidden) a.hidden;
            }) then

      pub bound_form : (r : Made) (w₃ : List ℕ) → CheckedForm text t w₂ f b r w₃ → BoundForm text t w m g actual b r w₃
      bound_form r w₃ c = record {
        kept = onward both_kept c.kept;
        made_in = c.made_in;
        made = λ n a s u pairs. c.made (bound_normal text t w m n a) (stood n a s u pairs);
      }
