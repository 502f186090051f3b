-- One law for each way through the code, in the code's terms: p is where the pen stands before, q after.
use mathlib.Core.Path.{◌≡◌}
use mathlib.Core.Bool.{Bool, true, false}
use mathlib.Core.List.{List, [], ◌++◌}
use Prim.Native.Nat.{ℕ, ◌+◌, ◌-◌, ◌*◌, ◌≤◌}
use native.Mathlib.Omega.{arith}
use borrow.Author.Rules.{rules}
use lib.ListN.{get_or}
use Rattle.meaning.specs.Lists.{pick}
use Rattle.meaning.specs.Names.{bytes}
use Rattle.meaning.specs.Origins.{same_section}
use Rattle.meaning.specs.Written.{numbered}
use Rattle.text_names.specs.Word.{name_of}
use Rattle.form_sections.specs.declared.Section.{Section}
use Rattle.form_sections.specs.declared.Section.TheVariants.{Export, Parameter}
use Rattle.form_rows.specs.declared.Row.{Row}
use Rattle.form_rows.specs.Rows.{section_of, item_of, row_at, row_size}
use Rattle.form.specs.declared.Form.{Form}
use Rattle.form.specs.declared.EquationRow.{EquationRow}
use Rattle.form.specs.Forms.{items_at, equation_row_at, equation_size, slot_size}
use Rattle.list_pen.specs.Pen.{Pen, pen, written, rows_text}
use Rattle.list_pen.proofs.Laws.{then}
use Rattle.list_pen.proofs.Rows.{Writing, rows_start, rows_again, rows_end}
use Rattle.list_terms.specs.Terms.{equation_at}
use Rattle.list_lines.specs.Lines.{line_of, item_text}
use Rattle.list_parts.specs.Lines.{standing_row, standing_text, formals_text, parameter_row, hidden_row, equation_row, visible_text}

module _ (l : ℕ) (p q : Pen) where
  -- ---- rows
  module _ (text tape w : List ℕ) where
    module _ (b i : ℕ) (row : Row) (e : row ≡ row_at w (b + i * row_size)) where
      module _ (section : Section) (s f : List ℕ) (x : Bool) (h : x ≡ same_section (section_of text section) (section_of text row.standing)) where
        pub standing_there : x ≡ true → q ≡ written l (item_text s f (name_of text row.name) [] (item_of text tape row)) p
            → q ≡ written l (standing_row text tape w b (section_of text section) s f i) p
        unfolding standing_row item_of pick
        standing_there t k = rw (← e, ← h, t) k

        pub standing_elsewhere : x ≡ false → p ≡ written l (standing_row text tape w b (section_of text section) s f i) p
        unfolding standing_row item_of pick written
        standing_elsewhere t = rw (← e, ← h, t)

      pub hidden_done : (c : ℕ)
          → q ≡ written l (item_text (bytes "hidden-sort") (bytes "hidden-function") (numbered (i + 1)) (items_at text tape w b c) (item_of text tape row)) p
          → q ≡ written l (hidden_row text tape w b c i) p
      unfolding hidden_row
      hidden_done c k = rw (← e) k

    module _ (f : Form) where
      abbrev standing : Section → (s g : List ℕ) → List ℕ
      standing section s g = standing_text text tape w f.visible f.visible_count (section_of text section) s g

      pub formals_done : (n : ℕ) (a : Pen) → a ≡ written l (line_of (bytes "parameter") (name_of text n)) p
          → q ≡ written l (standing (Parameter n) (bytes "parameter-sort") (bytes "parameter-function")) a
          → q ≡ written l (formals_text text tape w f (name_of text n)) p
      unfolding formals_text section_of
      formals_done n a e g = then l _ _ p a q e g

      pub parameter_done : (i n : ℕ) → n ≡ get_or w (f.parameters + i * slot_size) 0 → q ≡ written l (formals_text text tape w f (name_of text n)) p
          → q ≡ written l (parameter_row text tape w f i) p
      unfolding parameter_row
      parameter_done i n e g = rw (← e) g

      pub seen_done : (a : Pen) → a ≡ written l (standing Export (bytes "sort") (bytes "function")) p
          → q ≡ written l (rows_text (parameter_row text tape w f) 0 f.parameter_count) a → q ≡ written l (visible_text text tape w f) p
      unfolding visible_text section_of
      seen_done a e g = then l _ _ p a q e g

      pub equation_done : (i : ℕ) (row : EquationRow) (a c : Pen) → row ≡ equation_row_at w (f.equations + i * equation_size)
          → a ≡ written l (bytes "equation=") p
          → c ≡ written l (equation_at text w f.visible f.nodes row) a → q ≡ written l (bytes "\n") c → q ≡ written l (equation_row text w f i) p
      unfolding equation_row line_of
      equation_done i row a c e g h k =
          let value = equation_at text w f.visible f.nodes row in
          rw (← e) (then l (bytes "equation=") (value ++ bytes "\n") p a q g (then l value (bytes "\n") a c q h k))

-- a loop over all of n rows
pub rows_done : (l : ℕ) (f : ℕ → List ℕ) (n at : ℕ) (o₀ : List ℕ) (i t : ℕ) (o : List ℕ) → Writing l f 0 n at o₀ i t o → n ≤ i
    → pen t o ≡ written l (rows_text f 0 n) (pen at o₀)
rows_done l f n at o₀ i t o v h = let e : n - 0 ≡ n = omega arith in rw (← e) (rows_end l f 0 n at o₀ i t o v h)

pub ruleset cases = (standing_there, standing_elsewhere, hidden_done, formals_done, parameter_done, seen_done, equation_done, then, rows_start, rows_again, rows_done, rules)
