-- The copy of an equation's nodes behind the destination's stands for the equation under new names.
use Rattle.std.specs.Prelude.{◌≡◌, List, [], ◌∷◌, map, set, drop}
use Rattle.std.proofs.Math.Path.{refl, sym, ap}
use Rattle.std.proofs.Common.{ap₂, ◌∙◌}
use Prim.Native.Nat.{ℕ, zero, suc, ◌+◌, ◌≤◌, ◌<◌}
use native.Mathlib.Omega.{arith}
use Rattle.std.proofs.Math.ListN.{length, get_or, take, length-set, length-take, length-drop}
use Rattle.std.proofs.Math.Seq.{get_or-set_same}
use Rattle.meaning.specs.Names.{Name}
use Rattle.meaning.specs.Origins.{FunctionType, ResolvedEquation}
use Rattle.meaning.specs.Normal.{move_equation}
use Rattle.form.specs.declared.Form.{Form}
use Rattle.form.specs.Memory.{Kept}
use Rattle.form.specs.Forms.{node_in, nodes_of, flat_equation}
use Rattle.form.specs.FormLaws.{kept_wider, kept_then, kept_set}
use Rattle.form.specs.FlatMoves.{move_node, equation_moved}
use Rattle.form.specs.Frames.{run_word}
use Rattle.unite_nodes.specs.Joined.{renode, copied}
use Rattle.unite_nodes.specs.Grown.{copy_kept}

-- words of w from a up to e are read through the notes to the same nodes while only words of b up to f change
abbrev pub Steady : List ℕ → ℕ → ℕ → ℕ → ℕ → ℕ → ℕ → Type 0
Steady w visible hidden a e b f =
    (u : List ℕ) → Kept b f w u → (j : ℕ) → a ≤ j → j < e → renode u visible hidden (get_or u j 0) ≡ renode w visible hidden (get_or w j 0)

module _ (w : List ℕ) (visible hidden a e b f : ℕ) (steady : Steady w visible hidden a e b f) where
  -- node i of the copy
  pub word_copied : (u : List ℕ) → Kept b f w u → (p d c i : ℕ) → a ≤ p → p + c ≤ e → b ≤ d → d + c ≤ f → d + c ≤ length u → i < c
      → get_or (copied u visible hidden p d c) (d + i) 0 ≡ renode w visible hidden (get_or w (p + i) 0)
  unfolding copied
  word_copied u k p d zero i l₁ l₂ l₃ l₄ l₅ h = absurd (omega arith)
  word_copied u k p d (suc c) zero l₁ l₂ l₃ l₄ l₅ h =
      let x = renode u visible hidden (get_or u p 0) in
      let z : d + 0 ≡ d = omega arith in
      let y : p + 0 ≡ p = omega arith in
      ap (λ (j : ℕ). get_or (copied (set u d x) visible hidden (suc p) (suc d) c) j 0) z
      ∙ (copy_kept (set u d x) visible hidden (suc p) (suc d) c).below d (omega arith) ∙ get_or-set_same u d x 0 (omega arith)
      ∙ steady u k p l₁ (omega arith) ∙ ap (λ (j : ℕ). renode w visible hidden (get_or w j 0)) (sym y)
  word_copied u k p d (suc c) (suc i) l₁ l₂ l₃ l₄ l₅ h =
      let x = renode u visible hidden (get_or u p 0) in
      let k₁ = kept_then b f w u (set u d x) k (kept_wider d (d + 1) b f u (set u d x) (omega arith) (omega arith) (kept_set u d x)) in
      let z : d + suc i ≡ suc d + i = omega arith in
      let y : p + suc i ≡ suc p + i = omega arith in
      ap (λ (j : ℕ). get_or (copied (set u d x) visible hidden (suc p) (suc d) c) j 0) z
      ∙ word_copied (set u d x) k₁ (suc p) (suc d) c i (omega arith) (omega arith) (omega arith) (omega arith) (omega (arith, length-set u d x)) (omega arith)
      ∙ ap (λ (j : ℕ). renode w visible hidden (get_or w j 0)) (sym y)

pub map_two : {A : Type 0} (f g : ℕ → A) (xs ys : List ℕ) → length xs ≡ length ys → ((i : ℕ) → i < length xs → f (get_or xs i 0) ≡ g (get_or ys i 0)) → map f xs ≡ map g ys
map_two f g [] [] e h = refl
map_two f g [] (y ∷ ys) e h = absurd (omega arith)
map_two f g (x ∷ xs) [] e h = absurd (omega arith)
map_two {A} f g (x ∷ xs) (y ∷ ys) e h =
    ap₂ (λ (z : A) (zs : List A). z ∷ zs) (h 0 (omega arith)) (map_two f g xs ys (omega arith) (λ i l. h (suc i) (omega arith)))

map_twice : {A B : Type 0} (f : ℕ → A) (g : A → B) (xs : List ℕ) → map (λ (x : ℕ). g (f x)) xs ≡ map g (map f xs)
map_twice f g [] = refl
map_twice {A} {B} f g (x ∷ xs) = ap (λ (ys : List B). g (f x) ∷ ys) (map_twice f g xs)

-- the nodes of e, which row q of g has, copied behind the nodes of h: they stand for e under new names
module _ (σ : Name → Name) (φ : Name → FunctionType → Name) (text tape w : List ℕ) (visible hidden : ℕ) (g h : Form) (start count : ℕ) (e : ResolvedEquation)
    (stands : nodes_of text tape w g (take count (drop (g.nodes + start) w)) ≡ flat_equation e)
    (source : g.nodes + start + count ≤ length w) (room : h.nodes + h.node_count + count ≤ length w)
    (steady : Steady w visible hidden (g.nodes + start) (g.nodes + start + count) (h.nodes + h.node_count) (h.nodes + h.node_count + count)) where
  -- each node of the source goes through the notes to its node under new names
  pub copy_stands : ((i : ℕ) → i < count
      → node_in text tape (copied w visible hidden (g.nodes + start) (h.nodes + h.node_count) count) h.visible h.hidden (renode w visible hidden (get_or w (g.nodes + start + i) 0))
      ≡ move_node σ φ (node_in text tape w g.visible g.hidden (get_or w (g.nodes + start + i) 0)))
      → nodes_of text tape (copied w visible hidden (g.nodes + start) (h.nodes + h.node_count) count) h
      (take count (drop (h.nodes + h.node_count) (copied w visible hidden (g.nodes + start) (h.nodes + h.node_count) count)))
      ≡ flat_equation (move_equation σ φ e)
  unfolding nodes_of
  copy_stands moved =
      let a = g.nodes + start in
      let b = h.nodes + h.node_count in
      let w₁ = copied w visible hidden a b count in
      let kept = copy_kept w visible hidden a b count in
      let xs = take count (drop b w₁) in
      let ys = take count (drop a w) in
      let lx : length xs ≡ count = omega (arith, length-take count (drop b w₁), length-drop b w₁, kept.size) in
      let ly : length ys ≡ count = omega (arith, length-take count (drop a w), length-drop a w) in
      let F = node_in text tape w₁ h.visible h.hidden in
      let N = node_in text tape w g.visible g.hidden in
      let node : (i : ℕ) → i < length xs → F (get_or xs i 0) ≡ move_node σ φ (N (get_or ys i 0)) =
      λ i l.
      let k : i < count = omega (arith, lx) in
      ap F (run_word w₁ b count i l
      ∙ word_copied w visible hidden a (a + count) b (b + count) steady w (record { size = refl; below = λ j m. refl; above = λ j m. refl }) a b count i
      (omega arith) (omega arith) (omega arith) (omega arith) room k)
      ∙ moved i k ∙ ap (λ (v : ℕ). move_node σ φ (N v)) (sym (run_word w a count i (omega (arith, ly)))) in
      map_two F (λ (v : ℕ). move_node σ φ (N v)) xs ys (lx ∙ sym ly) node ∙ map_twice N (move_node σ φ) ys ∙ ap (map (move_node σ φ)) stands ∙ sym (equation_moved σ φ e)
