-- What it means that one more normal form is kept: what lies below the cursor stays, and the new one lies behind it.
use Rattle.std.specs.Prelude.{◌≡◌, ℕ, ◌+◌, ◌*◌, ◌≤◌, ◌<◌, List, length, get_or}
use Rattle.std.proofs.Common.{arith}
use Rattle.meaning.specs.Numbers.{module_limit}
use Rattle.form.specs.declared.Form.{Form}
use Rattle.form.specs.Forms.{form_size}
use Rattle.form.specs.Blocks.{Fits}
use Rattle.form_layout.specs.Layout.{kept_start, table_start}
use Rattle.form_keeping.specs.Environment.{Between, kept_form, TableBelow, TableRight}

-- where the table ends: a row for each module, and one for a name that no module has
abbrev pub table_end : ℕ
table_end = table_start + (module_limit + 1) * form_size

-- what lies between two places lies between places around them
pub between_around : (low high low' high' : ℕ) (f : Form) → low' ≤ low → high ≤ high' → Between low high f → Between low' high' f
between_around low high low' high' f h l b = omega arith

pub below_right : (w : List ℕ) (cursor : ℕ) → cursor ≤ table_start → TableBelow w cursor → TableRight w
below_right w cursor h b = record {
  between = λ k l. between_around kept_start cursor _ table_start (kept_form w k) (omega arith) h (b.between k l);
  fits = b.fits;
}

-- below the end of the table nothing changes but the words from `from` up to `to`, and row k of the table
pub record Grown (from to k : ℕ) (w w' : List ℕ) : Type 0 where
  pub size : length w' ≡ length w
  pub below : (i : ℕ) → i < from → get_or w' i 0 ≡ get_or w i 0
  pub between : (i : ℕ) → to ≤ i → i < table_start + k * form_size → get_or w' i 0 ≡ get_or w i 0
  pub rows : (i : ℕ) → table_start + k * form_size + form_size ≤ i → i < table_end → get_or w' i 0 ≡ get_or w i 0

-- the new form is in row k, fits, and lies from `from` up to `to`
pub record RowThere (from to k : ℕ) (w : List ℕ) : Type 0 where
  pub fits : Fits (kept_form w k)
  pub between : Between from to (kept_form w k)
