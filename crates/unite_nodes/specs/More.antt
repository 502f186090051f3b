-- A form with more nodes, and with a row more.
use Rattle.std.specs.Prelude.{◌≡◌, List, [], ◌∷◌, ◌++◌, ℕ, suc, ◌+◌, ◌*◌, ◌≤◌, ◌<◌, length, get_or}
use Rattle.std.proofs.Common.{sym, ap, ◌∙◌, subst, arith}
use Rattle.std.proofs.lemmas.List.Edits.{sets}
use Rattle.meaning.specs.Origins.{ResolvedEquation}
use Rattle.form.specs.declared.Form.{Form}
use Rattle.form.specs.declared.EquationRow.{EquationRow}
use Rattle.form.specs.Forms.{nodes_of, node_item, equation_row_at, EquationStands, EquationsStand, equation_words, equation_size}
use Rattle.form.specs.Frames.{Points}
use Rattle.unite_nodes.specs.Joined.{with_counts}
use Rattle.form_rows.specs.RowLaws.{stored_there}

-- ---- other counts

module _ (text tape w : List ℕ) (f : Form) (n m : ℕ) where
  pub points_more : (v : ℕ) → Points text tape w f v → Points text tape w (with_counts f n m) v
  unfolding with_counts node_item
  points_more v p = record {
    visible = λ e. record { inside = (p.visible e).inside; function = (p.visible e).function };
    hidden = λ e. record { inside = (p.hidden e).inside; no_sort = (p.hidden e).no_sort; alone = (p.hidden e).alone };
  }

  equation_more : (r : EquationRow) (e : ResolvedEquation) → f.node_count ≤ m → EquationStands text tape w f r e
      → EquationStands text tape w (with_counts f n m) r e
  unfolding with_counts nodes_of
  equation_more r e more s = record {
    home = s.home;
    position = s.position;
    tag = s.tag;
    conditions = s.conditions;
    within = omega (arith, s.within, more);
    nodes = s.nodes;
  }

  pub equations_more : (b : ℕ) (es : List ResolvedEquation) → f.node_count ≤ m → EquationsStand text tape w f b es
      → EquationsStand text tape w (with_counts f n m) b es
  equations_more b [] more s = tt
  equations_more b (e ∷ es) more s = (equation_more (equation_row_at w b) e more s.0, equations_more (b + equation_size) es more s.1)

-- ---- a row more

-- a row that is written is read back
pub row_back : (w : List ℕ) (b : ℕ) (q : EquationRow) (start : ℕ) → b + 6 ≤ length w
    → equation_row_at (sets w b (equation_words q start)) b
    ≡ record { home = q.home; position = q.position; tag = q.tag; conditions = q.conditions; start = start; count = q.count }
unfolding equation_row_at equation_words
row_back w b q start h =
    let vs = q.home ∷ q.position ∷ q.tag ∷ q.conditions ∷ start ∷ q.count ∷ [] in
    let there : (i : ℕ) → i < 6 → get_or (sets w b vs) (b + i) 0 ≡ get_or vs i 0 = λ i l. stored_there w b vs i l (omega arith) in
    let z : b + 0 ≡ b = omega arith in
    let first : get_or (sets w b vs) b 0 ≡ q.home = ap (λ (j : ℕ). get_or (sets w b vs) j 0) (sym z) ∙ there 0 (omega arith) in
    λ i. record {
      home = first i;
      position = there 1 (omega arith) i;
      tag = there 2 (omega arith) i;
      conditions = there 3 (omega arith) i;
      start = there 4 (omega arith) i;
      count = there 5 (omega arith) i;
    }

-- the rows of ds, and behind them one for e
pub equations_grow : (text tape w : List ℕ) (f : Form) (b : ℕ) (ds : List ResolvedEquation) (e : ResolvedEquation) → EquationsStand text tape w f b ds
    → EquationStands text tape w f (equation_row_at w (b + length ds * equation_size)) e → EquationsStand text tape w f b (ds ++ (e ∷ []))
equations_grow text tape w f b [] e s r =
    let z : b + 0 * equation_size ≡ b = omega arith in
    (subst (λ (j : ℕ). EquationStands text tape w f (equation_row_at w j) e) z r, tt)
equations_grow text tape w f b (d ∷ ds) e s r =
    let z : b + suc (length ds) * equation_size ≡ b + equation_size + length ds * equation_size = omega arith in
    (s.0, equations_grow text tape w f (b + equation_size) ds e s.1 (subst (λ (j : ℕ). EquationStands text tape w f (equation_row_at w j) e) z r))

-- the rows behind those of ds
pub equations_after : (text tape w : List ℕ) (f : Form) (b : ℕ) (ds es : List ResolvedEquation) → EquationsStand text tape w f b (ds ++ es)
    → EquationsStand text tape w f (b + length ds * equation_size) es
equations_after text tape w f b [] es s = let z : b ≡ b + 0 * equation_size = omega arith in subst (λ (j : ℕ). EquationsStand text tape w f j es) z s
equations_after text tape w f b (d ∷ ds) es s =
    let z : b + equation_size + length ds * equation_size ≡ b + suc (length ds) * equation_size = omega arith in
    subst (λ (j : ℕ). EquationsStand text tape w f j es) z (equations_after text tape w f (b + equation_size) ds es s.1)
