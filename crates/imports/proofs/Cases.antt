-- One law for each way through the code.
use mathlib.Core.Path.{◌≡◌, refl, sym, ap, ap₂, ◌∙◌}
use mathlib.Core.Bool.{Bool, true, false}
use mathlib.Core.List.{List}
use Prim.Native.Nat.{ℕ, zero, suc, ◌+◌, ◌-◌, ◌*◌, ◌≤◌, ◌<◌, max}
use native.Mathlib.Omega.{arith}
use borrow.Author.Rules.{rules}
use borrow.Author.Tests.{lt-ltb, le-ltb, eq-eqb, ne_eqb}
use lib.Dec.{eqb, ltb}
use lib.ListN.{length}
use Rattle.meaning.specs.Lists.{pick, before}
use Rattle.meaning.specs.Names.{same}
use Rattle.text_names.specs.Word.{name_of}
use Rattle.tape.specs.Tape.{renamed_role, bound_role}
use Rattle.form_rows.specs.Entries.{role_at, word_at, name_at}
use Rattle.form.specs.declared.Form.{Form}
use Rattle.form.specs.declared.Block.{Block}
use Rattle.form.specs.Forms.{form_size}
use Rattle.form_layout.specs.Layout.{first_block, second_block, table_start}
use Rattle.form_keeping.specs.Keeping.{form_at}
use Rattle.modules.specs.Modules.{declared, Heads}
use Rattle.form_keeping.specs.Environment.{kept_form, number_of}
use Rattle.imports.specs.Spelling.{runs, run_end}
use Rattle.imports.specs.Clausal.{turn_block, starts_clause, bound_at, clause_renames, clause_binds}
use Rattle.imports.specs.Clausal.{turn_room, turn_made, tape_short, end_positive}
use Rattle.imports.specs.Clausal.{clauses_start, clauses_ended, clauses_none, clauses_stop}

-- ---- the form of a module that is named

pub form_of_named : (text tape w : List ℕ) (h : Heads) (i x k table : ℕ) (r : Form) → x ≡ word_at tape i
    → k ≡ before (same (name_of text x)) (declared text tape h)
    → table ≡ table_start → r ≡ form_at w (table + k * form_size) → r ≡ kept_form w (number_of (declared text tape h) (name_at text tape i))
form_of_named text tape w h i x k table r e f q z =
    z ∙ ap₂ (λ (a b : ℕ). form_at w (a + b * form_size)) q (f ∙ ap (λ (v : ℕ). before (same (name_of text v)) (declared text tape h)) e)

-- ---- runs

pub run_below : (least role : ℕ) → role < least → false ≡ runs least role
unfolding runs pick
run_below least role h = rw (lt-ltb role least h)

pub run_from : (least role : ℕ) → least ≤ role → ltb role 17 ≡ runs least role
unfolding runs pick
run_from least role h = rw (le-ltb role least h)

-- what is left of the run from j on gives its end
pub record Walking (least : ℕ) (tape : List ℕ) (end i j : ℕ) : Type 0 where
  pub whole : end ≡ length tape
  pub same : run_end least tape i (length tape - i) ≡ run_end least tape j (length tape - j)

pub walk_start : (least : ℕ) (tape : List ℕ) (end i : ℕ) → end ≡ length tape → Walking least tape end i i
walk_start least tape end i e = record { whole = e; same = refl }

run_step : (least : ℕ) (tape : List ℕ) (j : ℕ) (b : Bool) → runs least (role_at tape j) ≡ b → j < length tape
    → run_end least tape j (length tape - j) ≡ pick b (run_end least tape (j + 1) (length tape - (j + 1))) j
unfolding run_end pick
run_step least tape j b e h =
    let s : length tape - j ≡ suc (length tape - (j + 1)) = omega arith in
    let n : suc j ≡ j + 1 = omega arith in
    rw (s, e, n)

pub walk_on : (least : ℕ) (tape : List ℕ) (end i j role : ℕ) (b : Bool) → j < end → role ≡ role_at tape j → b ≡ runs least role → b ≡ true
    → Walking least tape end i j
    → Walking least tape end i (j + 1)
unfolding pick
walk_on least tape end i j role b h q e t w =
    record { whole = w.whole; same = w.same ∙ run_step least tape j true (sym (sym t ∙ e ∙ ap (runs least) q)) (rw w.whole at h) }

pub walk_stop : (least : ℕ) (tape : List ℕ) (end i j role : ℕ) (b : Bool) → j < end → role ≡ role_at tape j → b ≡ runs least role → b ≡ false
    → Walking least tape end i j
    → j ≡ run_end least tape i (length tape - i)
unfolding pick
walk_stop least tape end i j role b h q e t w = sym (w.same ∙ run_step least tape j false (sym (sym t ∙ e ∙ ap (runs least) q)) (rw w.whole at h))

run_within : (least : ℕ) (tape : List ℕ) (c j : ℕ) → run_end least tape j c ≤ j + c
unfolding run_end pick
run_within least tape zero j = omega arith
run_within least tape (suc c) j = go (runs least (role_at tape j)) (run_within least tape c (suc j))
  where
    go : (b : Bool) → run_end least tape (suc j) c ≤ suc j + c → pick b (run_end least tape (suc j) c) j ≤ j + suc c
    go true h = omega arith
    go false h = omega arith

pub walk_end : (least : ℕ) (tape : List ℕ) (end i j r : ℕ) → end ≤ j → i ≤ j → r ≡ max i end → Walking least tape end i j
    → r ≡ run_end least tape i (length tape - i)
unfolding run_end
walk_end least tape end i j r h l e w =
    let z : length tape - j ≡ 0 = omega (arith, w.whole) in
    let s : run_end least tape j (length tape - j) ≡ j = rw z in
    omega (arith, w.whole, w.same, run_within least tape (length tape - i) i)

-- ---- clauses

pub is_first_block : (first : Bool) (b : Block) → first ≡ true → b ≡ first_block → b ≡ turn_block first
unfolding turn_block pick
is_first_block first b f e = rw f e

pub is_second_block : (first : Bool) (b : Block) → first ≡ false → b ≡ second_block → b ≡ turn_block first
unfolding turn_block pick
is_second_block first b f e = rw f e

pub starts_renaming : (tape : List ℕ) (i role : ℕ) → role ≡ role_at tape i → role ≡ renamed_role → true ≡ starts_clause tape i
unfolding starts_clause pick
starts_renaming tape i role e h = rw (← e, eq-eqb role renamed_role h)

pub starts_binding : (tape : List ℕ) (i role : ℕ) → role ≡ role_at tape i → (role ≡ renamed_role → ⊥) → eqb role bound_role ≡ starts_clause tape i
unfolding starts_clause pick
starts_binding tape i role e h = rw (← e, ne_eqb role renamed_role h)

pub ruleset walks = (form_of_named, run_below, run_from, walk_start, walk_on, walk_stop, walk_end)

pub ruleset turns = (is_first_block, is_second_block, starts_renaming, starts_binding, bound_at, clause_renames, clause_binds, turn_room, turn_made)

pub ruleset clauses = (tape_short, end_positive, clauses_start, clauses_ended, clauses_none, clauses_stop)

pub ruleset cases = (walks, turns, clauses, rules)
