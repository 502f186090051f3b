-- The table of kept normal forms: where each is, and that rows which are written are read back.
use Rattle.std.specs.Prelude.{◌≡◌, ℕ, ◌+◌, ◌*◌, ◌≤◌, ◌<◌, List, [], ◌∷◌, length, get_or}
use Rattle.std.proofs.Common.{sym, ap, ◌∙◌, arith}
use Rattle.std.proofs.lemmas.List.Edits.{sets}
use Rattle.form.specs.declared.Form.{Form}
use Rattle.form.specs.Memory.{Same, Kept}
use Rattle.form.specs.Forms.{form_size}
use Rattle.form_rows.specs.RowLaws.{stored_there}

-- the form whose words begin at b
unfoldable pub form_at : List ℕ → ℕ → Form
form_at w b = record {
  parameters = get_or w b 0;
  parameter_count = get_or w (b + 1) 0;
  visible = get_or w (b + 2) 0;
  visible_count = get_or w (b + 3) 0;
  hidden = get_or w (b + 4) 0;
  hidden_count = get_or w (b + 5) 0;
  equations = get_or w (b + 6) 0;
  equation_count = get_or w (b + 7) 0;
  nodes = get_or w (b + 8) 0;
  node_count = get_or w (b + 9) 0;
}

unfoldable pub form_words : Form → List ℕ
form_words f =
    f.parameters ∷ f.parameter_count ∷ f.visible ∷ f.visible_count ∷ f.hidden ∷ f.hidden_count ∷ f.equations
    ∷ f.equation_count ∷ f.nodes ∷ f.node_count ∷ []

unfoldable pub nothing_at : ℕ → Form
nothing_at kept = record {
  parameters = kept;
  parameter_count = 0;
  visible = kept;
  visible_count = 0;
  hidden = kept;
  hidden_count = 0;
  equations = kept;
  equation_count = 0;
  nodes = kept;
  node_count = 0;
}

-- n rows of the table have nothing, and all else stays
pub record Cleared (table n start : ℕ) (w w' : List ℕ) : Type 0 where
  pub rows : (k : ℕ) → k < n → form_at w' (table + k * form_size) ≡ nothing_at start
  pub kept : Kept table (table + n * form_size) w w'

-- ---- a row that is written is read back, and others stay

pub form_back : (w : List ℕ) (b : ℕ) (f : Form) → b + 10 ≤ length w → form_at (sets w b (form_words f)) b ≡ f
unfolding form_at form_words
form_back w b f h =
    let vs = form_words f in
    let there : (i : ℕ) → i < 10 → get_or (sets w b vs) (b + i) 0 ≡ get_or vs i 0 = λ i l. stored_there w b vs i l (omega arith) in
    let z : b + 0 ≡ b = omega arith in
    let first : get_or (sets w b vs) b 0 ≡ f.parameters = ap (λ (j : ℕ). get_or (sets w b vs) j 0) (sym z) ∙ there 0 (omega arith) in
    λ i. record {
      parameters = first i;
      parameter_count = there 1 (omega arith) i;
      visible = there 2 (omega arith) i;
      visible_count = there 3 (omega arith) i;
      hidden = there 4 (omega arith) i;
      hidden_count = there 5 (omega arith) i;
      equations = there 6 (omega arith) i;
      equation_count = there 7 (omega arith) i;
      nodes = there 8 (omega arith) i;
      node_count = there 9 (omega arith) i;
    }

pub form_same : (w w' : List ℕ) (b : ℕ) → Same b (b + 10) w w' → form_at w' b ≡ form_at w b
unfolding form_at
form_same w w' b s = λ i. record {
  parameters = s b (omega arith) (omega arith) i;
  parameter_count = s (b + 1) (omega arith) (omega arith) i;
  visible = s (b + 2) (omega arith) (omega arith) i;
  visible_count = s (b + 3) (omega arith) (omega arith) i;
  hidden = s (b + 4) (omega arith) (omega arith) i;
  hidden_count = s (b + 5) (omega arith) (omega arith) i;
  equations = s (b + 6) (omega arith) (omega arith) i;
  equation_count = s (b + 7) (omega arith) (omega arith) i;
  nodes = s (b + 8) (omega arith) (omega arith) i;
  node_count = s (b + 9) (omega arith) (omega arith) i;
}
