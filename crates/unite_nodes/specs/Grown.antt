-- What absorbing keeps: the form stays in its place, its counts do not fall and keep to their room, and no word changes but rows and nodes behind the counts.
use Rattle.std.specs.Prelude.{◌≡◌, Bool, true, false, ltb, get_or, set}
use Rattle.std.proofs.Math.Path.{refl, ap}
use Rattle.std.proofs.Common.{◌∙◌, arith, ltb-true, ltb-false}
use mathlib.Core.List.{List}
use Prim.Native.Nat.{ℕ, zero, suc, ◌+◌, ◌*◌, ◌≤◌, ◌<◌}
use Rattle.std.proofs.lemmas.List.Edits.{sets}
use Rattle.meaning.specs.Lists.{pick}
use Rattle.form.specs.declared.Form.{Form}
use Rattle.form.specs.declared.EquationRow.{EquationRow}
use Rattle.form.specs.Memory.{Kept, KeptTwo}
use Rattle.form.specs.Forms.{equation_row_at, equation_words, equation_size}
use Rattle.form.specs.FormLaws.{kept_all, kept_set, kept_sets}
use Rattle.form_frames.specs.Changes.{onward, wider, at_first, at_second, onward_two, wider_two}
use Rattle.unite_nodes.specs.declared.Notes.{Notes}
use Rattle.unite_nodes.specs.Joined.{renode, copied, has_equation, with_counts, Out, out, settled, joined_row, joined}

pub copy_kept : (w : List ℕ) (v h a b c : ℕ) → Kept b (b + c) w (copied w v h a b c)
unfolding copied
copy_kept w v h a b zero = kept_all b (b + 0) w
copy_kept w v h a b (suc c) =
    let w₁ = set w b (renode w v h (get_or w a 0)) in
    onward (wider (omega arith) (kept_set w b (renode w v h (get_or w a 0)))) (wider (omega arith) (copy_kept w₁ v h (suc a) (suc b) c))

-- the words that may change when f grows to its room
abbrev pub Behind : Notes → Form → List ℕ → List ℕ → Type 0
Behind o f w w' =
    KeptTwo (f.equations + f.equation_count * equation_size) (f.equations + o.equation_room * equation_size) (f.nodes + f.node_count)
    (f.nodes + o.node_room) w w'

-- f of memory w has become r of w'
pub record Grown (o : Notes) (f : Form) (w : List ℕ) (r : Form) (w' : List ℕ) : Type 0 where
  pub same : r ≡ with_counts f r.equation_count r.node_count
  pub more_equations : f.equation_count ≤ r.equation_count
  pub more_nodes : f.node_count ≤ r.node_count
  pub few_equations : f.equation_count ≤ o.equation_room → r.equation_count ≤ o.equation_room
  pub few_nodes : f.node_count ≤ o.node_room → r.node_count ≤ o.node_room
  pub kept : Behind o f w w'

module _ (o : Notes) where
  grown_none : (f : Form) (w : List ℕ) → Grown o f w f w
  unfolding with_counts
  grown_none f w = record {
    same = refl;
    more_equations = omega arith;
    more_nodes = omega arith;
    few_equations = λ h. h;
    few_nodes = λ h. h;
    kept = at_first (kept_all _ _ w);
  }

  grown_then : (f g h : Form) (w w₁ w₂ : List ℕ) → Grown o f w g w₁ → Grown o g w₁ h w₂ → Grown o f w h w₂
  unfolding with_counts
  grown_then f g h w w₁ w₂ x y =
      let rows : g.equations ≡ f.equations = ap (λ (z : Form). z.equations) x.same in
      let nodes : g.nodes ≡ f.nodes = ap (λ (z : Form). z.nodes) x.same in
      record {
        same = y.same ∙ ap (λ (z : Form). with_counts z h.equation_count h.node_count) x.same;
        more_equations = omega (arith, x.more_equations, y.more_equations);
        more_nodes = omega (arith, x.more_nodes, y.more_nodes);
        few_equations = λ l. y.few_equations (x.few_equations l);
        few_nodes = λ l. y.few_nodes (x.few_nodes l);
        kept = onward_two x.kept (wider_two (omega (arith, rows, x.more_equations)) (omega (arith, nodes, x.more_nodes)) y.kept);
      }

  module _ (text : List ℕ) (t : ℕ) (f : Form) (q : EquationRow) (h : f.equation_count < o.equation_room)
      (fits : f.node_count + q.count ≤ o.node_room) where
    settled_grown : (w : List ℕ) → Grown o f w (settled text t w f q).form (settled text t w f q).work
    unfolding settled pick with_counts equation_words
    settled_grown w = go (has_equation text t w f q 0 f.equation_count)
      where
        more : Out
        more = out (with_counts f (f.equation_count + 1) (f.node_count + q.count)) (sets w (f.equations + f.equation_count * equation_size) (equation_words q f.node_count))

        go : (b : Bool) → Grown o f w (pick b (out f w) more).form (pick b (out f w) more).work
        go true = grown_none f w
        go false = record {
          same = refl;
          more_equations = omega arith;
          more_nodes = omega arith;
          few_equations = λ l. omega arith;
          few_nodes = λ l. fits;
          kept = at_first (wider (omega arith) (kept_sets (equation_words q f.node_count) w (f.equations + f.equation_count * equation_size)));
        }

  row_grown : (text : List ℕ) (t : ℕ) (w : List ℕ) (g : Form) (q : EquationRow) (f : Form)
      → Grown o f w (joined_row text t w g q o f).form (joined_row text t w g q o f).work
  unfolding joined_row pick
  row_grown text t w g q f = go (ltb f.equation_count o.equation_room) (ltb o.node_room (f.node_count + q.count)) refl refl
    where
      w₁ : List ℕ
      w₁ = copied w o.visible o.hidden (g.nodes + q.start) (f.nodes + f.node_count) q.count

      go : (a b : Bool) → ltb f.equation_count o.equation_room ≡ a → ltb o.node_room (f.node_count + q.count) ≡ b
          → Grown o f w (pick a (pick b (out f w) (settled text t w₁ f q)) (out f w)).form (pick a (pick b (out f w) (settled text t w₁ f q)) (out f w)).work
      go false b d e = grown_none f w
      go true true d e = grown_none f w
      go true false d e =
          let l = ltb-false o.node_room (f.node_count + q.count) e in
          let x = settled_grown text t f q (ltb-true f.equation_count o.equation_room d) l w₁ in
          let copy = copy_kept w o.visible o.hidden (g.nodes + q.start) (f.nodes + f.node_count) q.count in
          record {
            same = x.same;
            more_equations = x.more_equations;
            more_nodes = x.more_nodes;
            few_equations = x.few_equations;
            few_nodes = x.few_nodes;
            kept = onward_two (at_second (wider (omega (arith, l)) copy)) x.kept;
          }

  -- all rows
  pub joined_grown : (text : List ℕ) (t : ℕ) (w : List ℕ) (g : Form) (k c : ℕ) (f : Form)
      → Grown o f w (joined text t w g k c o f).form (joined text t w g k c o f).work
  unfolding joined
  joined_grown text t w g k zero f = grown_none f w
  joined_grown text t w g k (suc c) f =
      let x = joined_row text t w g (equation_row_at w (g.equations + k * equation_size)) o f in
      grown_then f x.form (joined text t x.work g (suc k) c o x.form).form w x.work (joined text t x.work g (suc k) c o x.form).work
      (row_grown text t w g (equation_row_at w (g.equations + k * equation_size)) f) (joined_grown text t x.work g (suc k) c x.form)
