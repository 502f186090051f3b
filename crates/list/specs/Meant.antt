-- What a form that stands for a normal form is written as is the normal form's listing.
use Rattle.std.specs.Prelude.{◌≡◌, ℕ, ◌+◌, ◌*◌, ◌<◌, length, get_or}
use Rattle.std.proofs.Math.Path.{refl, sym, ap, ap₂}
use Rattle.std.proofs.Common.{subst, ◌∙◌}
use native.Mathlib.Omega.{arith}
use mathlib.Core.List.{List, [], ◌∷◌, ◌++◌, map}
use Rattle.meaning.specs.Lists.{each}
use Rattle.meaning.specs.Names.{bytes}
use Rattle.meaning.specs.Origins.{ResolvedEquation, Item}
use Rattle.meaning.specs.Normal.{Visible, Normal}
use Rattle.meaning.specs.Written.{equation_text}
use Rattle.meaning.specs.Listing.{Line, line, lines_text, visible_lines, hidden_item_lines, equation_line, hidden_lines, listing_lines}
use Rattle.text_names.specs.Word.{name_of}
use Rattle.form_rows.specs.Rows.{row_size}
use Rattle.invariants.specs.HiddenItems.{HiddenSound}
use Rattle.form.specs.declared.Form.{Form}
use Rattle.form.specs.Forms.{items_at, equation_row_at, EquationsStand, Stands, equation_size}
use Rattle.list_pen.specs.Pen.{rows_text}
use Rattle.list_terms.specs.Meant.{Told, equation_meant}
use Rattle.list_lines.specs.Lines.{line_of}
use Rattle.list_parts.specs.Lines.{equation_row, visible_text, hidden_text}
use Rattle.list.specs.Lines.{listing_text}
use Rattle.list.specs.Parts.{lines_append, line_before, line_alone, visible_meant, hidden_items_meant}
use Rattle.list.specs.Pointed.{Unlike, hidden_unlike, nodes_told}

module _ (text tape w : List ℕ) (f : Form) where
  abbrev hidden : List Item
  hidden = items_at text tape w f.hidden f.hidden_count

  abbrev AllTold : Type 0
  AllTold = (i : ℕ) → i < f.node_count → Told text tape w f.visible f.hidden f.hidden_count (get_or w (f.nodes + i) 0)

  equations_meant : AllTold → (es : List ResolvedEquation) (i : ℕ) → EquationsStand text tape w f (f.equations + i * equation_size) es
      → rows_text (equation_row text w f) i (length es) ≡ lines_text (map (equation_line hidden) es)
  unfolding rows_text equation_row equation_line lines_text each
  equations_meant t [] i s = refl
  equations_meant t (e ∷ es) i s =
      let next : f.equations + i * equation_size + equation_size ≡ f.equations + (i + 1) * equation_size = omega arith in
      let more = equations_meant t es (i + 1) (subst (λ (b : ℕ). EquationsStand text tape w f b es) next s.1) in
      let row = equation_row_at w (f.equations + i * equation_size) in
      let nodes : (j : ℕ) → j < row.count → Told text tape w f.visible f.hidden f.hidden_count (get_or w (f.nodes + row.start + j) 0) =
      λ j l. let place : f.nodes + row.start + j ≡ f.nodes + (row.start + j) = omega arith in
      rw place (t (row.start + j) (omega (arith, s.0.within, l))) in
      ap₂ (λ (a r : List ℕ). line_of (bytes "equation") a ++ r) (equation_meant text tape w f row e s.0 nodes) more
      ∙ line_before (bytes "equation") (equation_text hidden e) (map (equation_line hidden) es)

  hidden_meant : (es : List ResolvedEquation) → AllTold → f.equation_count ≡ length es → EquationsStand text tape w f f.equations es
      → hidden_text text tape w f ≡ lines_text (hidden_lines (record { items = hidden; equations = es }))
  unfolding hidden_text hidden_lines
  hidden_meant es t e s =
      let n = f.hidden_count in
      let first : f.hidden + 0 * row_size ≡ f.hidden = omega arith in
      let start : f.equations ≡ f.equations + 0 * equation_size = omega arith in
      ap₂ ◌++◌
      (hidden_items_meant text tape w f.hidden n 0 n ∙ ap (λ (b : ℕ). lines_text (hidden_item_lines hidden 1 (items_at text tape w b n))) first)
      (ap (rows_text (equation_row text w f) 0) e ∙ equations_meant t es 0 (subst (λ (b : ℕ). EquationsStand text tape w f b es) start s))
      ∙ sym (lines_append (hidden_item_lines hidden 1 hidden) (map (equation_line hidden) es))

-- no two hidden items are alike
pub listing_told : (text tape w : List ℕ) (f : Form) (n : Normal) (name : ℕ) → Stands text tape w f n → Unlike n.hidden.items
    → listing_text text tape w name f ≡ lines_text (listing_lines (name_of text name) n)
unfolding listing_text listing_lines
listing_told text tape w f n name s u =
    let es = n.hidden.equations in
    let m = name_of text name in
    let told = nodes_told text tape w f s.pointing (subst Unlike (sym s.hidden) u) in
    let seen : visible_text text tape w f ≡ lines_text (visible_lines n.visible) =
    visible_meant text tape w f ∙ ap (λ (v : Visible). lines_text (visible_lines v)) s.visible in
    let unseen : hidden_text text tape w f ≡ lines_text (hidden_lines n.hidden) =
    hidden_meant text tape w f es told s.equation_count s.equations
    ∙ ap (λ (is : List Item). lines_text (hidden_lines (record { items = is; equations = es }))) s.hidden in
    let before = visible_lines n.visible in
    let after = hidden_lines n.hidden in
    let ending : List Line = line "end" m ∷ [] in
    ap (λ (r : List ℕ). line_of (bytes "module") m ++ r)
    (ap₂ ◌++◌ seen (ap₂ ◌++◌ unseen (line_alone (bytes "end") m) ∙ sym (lines_append after ending)) ∙ sym (lines_append before (after ++ ending)))
    ∙ line_before (bytes "module") m (before ++ (after ++ ending))

-- the hidden items are as evaluating makes them
pub listing_meant : (text tape w : List ℕ) (f : Form) (n : Normal) (name : ℕ) → Stands text tape w f n → HiddenSound n
    → listing_text text tape w name f ≡ lines_text (listing_lines (name_of text name) n)
listing_meant text tape w f n name s h = listing_told text tape w f n name s (hidden_unlike n.hidden.items h)
