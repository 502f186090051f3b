-- One law for each way through the code, in the code's terms: p is where the pen stands before, q after.
use mathlib.Core.Path.{◌≡◌, refl, ap, ◌∙◌}
use mathlib.Core.Bool.{Bool, true, false}
use mathlib.Core.List.{List, ◌∷◌, ◌++◌}
use Prim.Native.Nat.{ℕ, zero, suc, ◌+◌, ◌-◌, ◌<◌, ◌≤◌}
use native.Mathlib.Omega.{arith}
use native.Mathlib.Numerals.{add-one}
use borrow.Author.Rules.{rules}
use borrow.Author.Tests.{eq-eqb, ne_eqb}
use Rattle.meaning.specs.Lists.{pick}
use Rattle.meaning.specs.Names.{bytes}
use Rattle.meaning.specs.Written.{between_marks, type_text, section_text, declared_text}
use Rattle.text_names.specs.Word.{name_of}
use Rattle.tape.specs.Tape.{variable_role}
use Rattle.form_sections.specs.declared.Section.{Section}
use Rattle.form_sections.specs.declared.Section.TheVariants.{Export, Hidden, Parameter}
use Rattle.form_rows.specs.Entries.{role_at, name_at, word_at, names_from, is_function_role, arity_at, sort_place, declared_at}
use Rattle.form_rows.specs.Rows.{section_of}
use Rattle.list_pen.specs.Pen.{Pen, written, rows_text, rows_texts}
use Rattle.list_pen.proofs.Laws.{then}
use Rattle.list_pen.proofs.Rows.{rows_start, rows_again, rows_end, rows_between}
use Rattle.list_items.specs.Parts.{marked_name, declared_function_text, variable_type_text, declared_variable_text, declared_sort_text}

names_rows : (text tape : List ℕ) (i c : ℕ) → names_from text tape i c ≡ rows_texts (name_at text tape) i c
unfolding names_from rows_texts
names_rows text tape i zero = refl
names_rows text tape i (suc c) = rw (add-one i) (ap (λ (xs : List (List ℕ)). name_at text tape i ∷ xs) (names_rows text tape (suc i) c))

-- the name at place i, whose word was read there
pub named : (l : ℕ) (text tape : List ℕ) (p q : Pen) (i w : ℕ) → q ≡ written l (name_of text w) p → w ≡ word_at tape i
    → q ≡ written l (name_of text (word_at tape i)) p
named l text tape p q i w e f = e ∙ ap (λ (n : ℕ). written l (name_of text n) p) f

module _ (l : ℕ) (text tape : List ℕ) (p q : Pen) where
  -- ---- sections
  pub section_export : (s : Section) → s ≡ Export → q ≡ written l (bytes "export") p → q ≡ written l (section_text (section_of text s)) p
  unfolding section_text section_of
  section_export s h e = rw h e

  pub section_hidden : (s : Section) → s ≡ Hidden → q ≡ written l (bytes "hidden") p → q ≡ written l (section_text (section_of text s)) p
  unfolding section_text section_of
  section_hidden s h e = rw h e

  pub section_parameter : (s : Section) (n : ℕ) → s ≡ Parameter n → q ≡ written l (bytes "parameter " ++ name_of text n) p
      → q ≡ written l (section_text (section_of text s)) p
  unfolding section_text section_of
  section_parameter s n h e = rw h e

  -- ---- names with a mark between
  pub names_none : (first end : ℕ) → end ≤ first → p ≡ written l (between_marks (bytes "#") (names_from text tape first (end - first))) p
  unfolding between_marks names_from written
  names_none first end h =
      let none : end - first ≡ 0 = omega arith in
      rw none

  pub names_some : (first end w : ℕ) (a : Pen) → first < end → a ≡ written l (name_of text w) p → w ≡ word_at tape first
      → q ≡ written l (rows_text (marked_name text tape) (first + 1) (end - (first + 1))) a
      → q ≡ written l (between_marks (bytes "#") (names_from text tape first (end - first))) p
  unfolding marked_name
  names_some first end w a h e f g =
      let more : end - first ≡ suc (end - (first + 1)) = omega arith in
      rw (more, names_rows text tape first (suc (end - (first + 1))), rows_between (bytes "#") (name_at text tape) first (end - (first + 1)))
      (then l (name_at text tape first) (rows_text (marked_name text tape) (first + 1) (end - (first + 1))) p a q (named l text tape p a first w e f) g)

  -- ---- declarations
  pub sort_named : (d i w : ℕ) → q ≡ written l (name_of text w) p → w ≡ word_at tape i → i ≡ sort_place tape d
      → q ≡ written l (name_of text (word_at tape (sort_place tape d))) p
  sort_named d i w e f g = rw (← g) (named l text tape p q i w e f)

  -- a key, the name at d, and what follows it
  keyed : (d w : ℕ) (key rest : List ℕ) (a b : Pen) → a ≡ written l key p → b ≡ written l (name_of text w) a → w ≡ word_at tape d → q ≡ written l rest b
      → q ≡ written l (key ++ (name_at text tape d ++ rest)) p
  keyed d w key rest a b e f g h =
      let name = name_at text tape d in
      then l key (name ++ rest) p a q e (then l name rest a b q (named l text tape a b d w f g) h)

  pub function_done : (d n w : ℕ) (a b : Pen) → a ≡ written l (bytes "function,") p → b ≡ written l (name_of text w) a → w ≡ word_at tape d → n ≡ arity_at tape d
      → q ≡ written l (type_text (names_from text tape (d + 1) (d + 1 + n - (d + 1))) (name_at text tape (d + 1 + n))) b
      → q ≡ written l (declared_function_text text tape d) p
  unfolding declared_function_text
  function_done d n w a b e f g h k =
      let count : d + 1 + n - (d + 1) ≡ n = omega arith in
      let typed = type_text (names_from text tape (d + 1) n) (name_at text tape (d + 1 + n)) in
      rw (← h) (keyed d w (bytes "function,") typed a b e f g (rw count at k))

  pub variable_done : (d w : ℕ) (a b : Pen) → a ≡ written l (bytes "variable,") p → b ≡ written l (name_of text w) a → w ≡ word_at tape d
      → q ≡ written l (variable_type_text text tape d) b → q ≡ written l (declared_variable_text text tape d) p
  unfolding declared_variable_text
  variable_done d w a b e f g h = keyed d w (bytes "variable,") (variable_type_text text tape d) a b e f g h

  pub declared_function : (d r : ℕ) (t : Bool) → r ≡ role_at tape d → t ≡ is_function_role r → t ≡ true → q ≡ written l (declared_function_text text tape d) p
      → q ≡ written l (declared_text (declared_at text tape d)) p
  unfolding declared_at declared_text declared_function_text pick
  declared_function d r t e f g h = rw (← e, ← f, g) h

  pub declared_variable : (d r : ℕ) (t : Bool) → r ≡ role_at tape d → t ≡ is_function_role r → t ≡ false → r ≡ variable_role → q ≡ written l (declared_variable_text text tape d) p
      → q ≡ written l (declared_text (declared_at text tape d)) p
  unfolding declared_at declared_text declared_variable_text variable_type_text type_text between_marks pick
  declared_variable d r t e f g k h = rw (← e, ← f, g, eq-eqb r variable_role k) h

  pub declared_sort : (d r : ℕ) (t : Bool) → r ≡ role_at tape d → t ≡ is_function_role r → t ≡ false → (r ≡ variable_role → ⊥) → q ≡ written l (declared_sort_text text tape d) p
      → q ≡ written l (declared_text (declared_at text tape d)) p
  unfolding declared_at declared_text declared_sort_text pick
  declared_sort d r t e f g k h = rw (← e, ← f, g, ne_eqb r variable_role k) h

pub ruleset cases = (named, section_export, section_hidden, section_parameter, names_none, names_some, sort_named, function_done, variable_done, declared_function, declared_variable, declared_sort, then, rows_start, rows_again, rows_end, rules)
