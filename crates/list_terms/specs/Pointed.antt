-- A node's word is written as the node that it stands for, where it points at a visible function, or at a hidden function or variable that
-- no hidden item before it is like.
use Rattle.std.specs.Prelude.{◌≡◌, ℕ, zero, suc, ◌+◌, ◌*◌, ◌/◌, ◌%◌, ◌<◌, Bool, true, false, ◌&&◌, List}
use Rattle.std.proofs.Math.Path.{sym}
use Rattle.std.proofs.Common.{ap, ◌∙◌, not-suc-le-zero, arith, eq-eqb, ne_eqb}
use Rattle.meaning.specs.Lists.{pick, before}
use Rattle.meaning.specs.Origins.{same_origin, Sort, FunctionType, visible_head, hidden_head, function_shape, variable_shape, same_shape, Item}
use Rattle.meaning.specs.Written.{numbered, head_text, variable_text}
use Rattle.laws.specs.Decides.{origins_decided, shapes_decided}
use Rattle.form_rows.specs.Rows.{item_of, row_at, row_size}
use Rattle.form.specs.Forms.{items_at, function_node, variable_node, node_row, node_shape, node_of, node_in}
use Rattle.list_terms.specs.Terms.{node_text}
use Rattle.list_terms.specs.Meant.{head_of_node, arguments_of, Told}

-- the first row that passes a test
before_row : (p : Item → Bool) (text tape w : List ℕ) (h n r : ℕ) → r < n → ((j : ℕ) → j < r → p (item_of text tape (row_at w (h + j * row_size))) ≡ false)
    → p (item_of text tape (row_at w (h + r * row_size))) ≡ true → before p (items_at text tape w h n) ≡ r
unfolding before items_at pick
before_row p text tape w h zero r l f t = absurd (not-suc-le-zero l)
before_row p text tape w h (suc n) zero l f t =
    let z : h + 0 * row_size ≡ h = omega arith in
    rw (ap (λ (c : ℕ). p (item_of text tape (row_at w c))) (sym z) ∙ t)
before_row p text tape w h (suc n) (suc r) l f t =
    let z : h + 0 * row_size ≡ h = omega arith in
    let first = ap (λ (c : ℕ). p (item_of text tape (row_at w c))) (sym z) ∙ f 0 (omega arith) in
    let s : h + suc r * row_size ≡ h + row_size + r * row_size = omega arith in
    rw first
    (ap suc (before_row p text tape w (h + row_size) n r (omega arith)
    (λ j m. let e : h + row_size + j * row_size ≡ h + suc j * row_size = omega arith in rw e (f (suc j) (omega arith)))
    (ap (λ (c : ℕ). p (item_of text tape (row_at w c))) (sym s) ∙ t)))

-- equal origin and shape
unfoldable pub alike : Item → Item → Bool
alike a x = same_origin a.origin x.origin && same_shape a.shape x.shape

module _ (text tape w : List ℕ) (b h n v : ℕ) where
  abbrev above : Item
  above = item_of text tape (row_at w (b + v / 32 * row_size))

  abbrev below : Item
  below = item_of text tape (row_at w (h + v / 32 * row_size))

  abbrev hidden : List Item
  hidden = items_at text tape w h n

  module _ (t : FunctionType) (z : v / 16 % 2 ≡ 0) (s : above.shape ≡ function_shape t) where
    visible_node : node_in text tape w b h v ≡ function_node (visible_head above.name t) (v % 16)
    unfolding node_in node_row node_of node_shape pick
    visible_node = rw (eq-eqb (v / 16 % 2) 0 z, s)

    visible_name : node_text text w b v ≡ above.name
    unfolding node_text item_of row_at pick
    visible_name = rw (eq-eqb (v / 16 % 2) 0 z)

    pub visible_told : Told text tape w b h n v
    unfolding head_of_node arguments_of head_text
    visible_told =
        record { head = visible_name ∙ sym (ap (head_of_node hidden) visible_node); arguments = sym (ap arguments_of visible_node) }

  module _ (z : v / 16 % 2 ≡ 0 → ⊥) (l : v / 32 < n)
      (distinct : (j : ℕ) → j < v / 32 → alike below (item_of text tape (row_at w (h + j * row_size))) ≡ false) where
    itself : alike below below ≡ true
    unfolding alike
    itself = rw (origins_decided.self below.origin, shapes_decided.self below.shape)

    -- a hidden item's number is its row's
    number : node_text text w b v ≡ numbered (before (alike below) hidden + 1)
    unfolding node_text pick
    number = rw (ne_eqb (v / 16 % 2) 0 z) (ap (λ (k : ℕ). numbered (k + 1)) (sym (before_row (alike below) text tape w h n (v / 32) l distinct itself)))

    module _ (t : FunctionType) (s : below.shape ≡ function_shape t) where
      function_there : node_in text tape w b h v ≡ function_node (hidden_head below.origin t) (v % 16)
      unfolding node_in node_row node_of node_shape pick
      function_there = rw (ne_eqb (v / 16 % 2) 0 z, s)

      function_number : numbered (before (alike below) hidden + 1) ≡ head_text hidden (hidden_head below.origin t)
      unfolding head_text alike
      function_number = rw s

      pub function_told : Told text tape w b h n v
      unfolding head_of_node arguments_of
      function_told =
          record { head = number ∙ function_number ∙ sym (ap (head_of_node hidden) function_there); arguments = sym (ap arguments_of function_there) }

    module _ (r : Sort) (s : below.shape ≡ variable_shape r) (a : v % 16 ≡ 0) where
      variable_there : node_in text tape w b h v ≡ variable_node below.origin r
      unfolding node_in node_row node_of node_shape pick
      variable_there = rw (ne_eqb (v / 16 % 2) 0 z, s)

      variable_number : numbered (before (alike below) hidden + 1) ≡ variable_text hidden below.origin r
      unfolding variable_text alike
      variable_number = rw s

      pub variable_told : Told text tape w b h n v
      unfolding head_of_node arguments_of
      variable_told =
          record { head = number ∙ variable_number ∙ sym (ap (head_of_node hidden) variable_there); arguments = a ∙ sym (ap arguments_of variable_there) }
