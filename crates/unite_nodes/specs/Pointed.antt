-- Notes that are right, and what goes through them, stay so where their words stay.
use Rattle.std.specs.Prelude.{◌≡◌, refl, Bool, true, false, List, ℕ, ◌+◌, ◌*◌, ◌/◌, ◌%◌, ◌≤◌, ◌<◌, eqb, get_or}
use Rattle.std.proofs.Common.{sym, ap, ◌∙◌, subst, arith, eqb-true, lt-ltb, le-ltb}
use Rattle.std.proofs.lemmas.Bool.{eqb-false}
use Rattle.meaning.specs.Lists.{pick}
use Rattle.meaning.specs.Names.{Name}
use Rattle.meaning.specs.Origins.{FunctionType}
use Rattle.meaning.specs.Normal.{move_shape}
use Rattle.form_rows.specs.declared.Row.{Row}
use Rattle.form_rows.specs.Rows.{item_of, row_at, row_size}
use Rattle.form_rows.specs.RowLaws.{row_same}
use Rattle.form.specs.declared.Form.{Form}
use Rattle.form.specs.Memory.{Same}
use Rattle.form.specs.Forms.{node_of}
use Rattle.form.specs.FlatMoves.{move_node}
use Rattle.form.specs.Frames.{Points}
use Rattle.unite_nodes.specs.Joined.{renode, renoded}
use Rattle.unite_nodes.specs.Found.{pointable, Noted}

pub noted_stays : (σ : Name → Name) (φ : Name → FunctionType → Name) (text tape w w' : List ℕ) (visible : Bool) (o source c base n : ℕ)
    → Same o (o + c) w w' → Same source (source + c * row_size) w w' → Same base (base + n * row_size) w w'
    → Noted σ φ text tape w visible o source c base n → Noted σ φ text tape w' visible o source c base n
noted_stays σ φ text tape w w' visible o source c base n s₁ s₂ s₃ x =
    let word : (i : ℕ) → i < c → get_or w' (o + i) 0 ≡ get_or w (o + i) 0 = λ i h. s₁ (o + i) (omega arith) (omega arith) in
    let here : (i : ℕ) → i < c → row_at w' (source + i * row_size) ≡ row_at w (source + i * row_size) =
    λ i h. row_same w w' (source + i * row_size) (λ j a b. s₂ j (omega arith) (omega arith)) in
    let points : (i : ℕ) → i < c → pointable visible (item_of text tape (row_at w' (source + i * row_size))).shape ≡ true
    → pointable visible (item_of text tape (row_at w (source + i * row_size))).shape ≡ true =
    λ i h z. ap (λ (q : Row). pointable visible (item_of text tape q).shape) (sym (here i h)) ∙ z in
    let there : (i : ℕ) → i < c → get_or w (o + i) 0 < n → row_at w' (base + get_or w' (o + i) 0 * row_size) ≡ row_at w (base + get_or w (o + i) 0 * row_size) =
    λ i h l. ap (λ (r : ℕ). row_at w' (base + r * row_size)) (word i h)
    ∙ row_same w w' (base + get_or w (o + i) 0 * row_size) (λ j a b. s₃ j (omega arith) (omega arith)) in
    record {
      small = x.small;
      inside = λ i h z. subst (λ (r : ℕ). r < n) (sym (word i h)) (x.inside i h (points i h z));
      node = λ i h z k.
          ap (λ (q : Row). node_of visible k (item_of text tape q)) (there i h (x.inside i h (points i h z))) ∙ x.node i h (points i h z) k
          ∙ ap (λ (q : Row). move_node σ φ (node_of visible k (item_of text tape q))) (sym (here i h));
      shape = λ i h z.
          ap (λ (q : Row). (item_of text tape q).shape) (there i h (x.inside i h (points i h z))) ∙ x.shape i h (points i h z)
          ∙ ap (λ (q : Row). move_shape σ φ (item_of text tape q).shape) (sym (here i h));
    }

-- a node of g goes through the notes to the same word
pub renode_stays : (text tape w w' : List ℕ) (g : Form) (visible hidden v : ℕ) → Same visible (visible + g.visible_count) w w'
    → Same hidden (hidden + g.hidden_count) w w' → Points text tape w g v → renode w' visible hidden v ≡ renode w visible hidden v
unfolding renode pick
renode_stays text tape w w' g visible hidden v s₁ s₂ points = go (eqb (v / 16 % 2) 0) refl
  where
    go : (b : Bool) → eqb (v / 16 % 2) 0 ≡ b → renode w' visible hidden v ≡ renode w visible hidden v
    go true e =
        let z = eqb-true (v / 16 % 2) 0 e in
        let l = (points.visible z).inside in
        let low : v % 32 < 16 = omega arith in
        rw (lt-ltb (v % 32) 16 low) (ap (renoded v) (s₁ (visible + v / 32) (omega arith) (omega arith)))
    go false e =
        let n = eqb-false (v / 16 % 2) 0 e in
        let l = (points.hidden (omega arith)).inside in
        let high : 16 ≤ v % 32 = omega arith in
        rw (le-ltb (v % 32) 16 high) (ap (renoded v) (s₂ (hidden + v / 32) (omega arith) (omega arith)))
