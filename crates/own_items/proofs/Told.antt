-- The ways through the checks of a module's own declarations, one law each: r and s are callees' verdicts.
use Rattle.std.specs.Prelude.{Ok, Err}
use mathlib.Core.Path.{◌≡◌, sym, ap, ◌∙◌}
use mathlib.Core.List.{List}
use Prim.Native.Nat.{ℕ, ◌+◌, ◌-◌, ◌*◌}
use borrow.Author.Rules.{rules}
use lib.ListN.{length}
use Rattle.meaning.specs.Syntax.{Module}
use Rattle.meaning.specs.Normal.{Visible}
use Rattle.meaning.specs.Checks.{◌>>◌, consistent}
use Rattle.meaning.specs.Own.{own_hidden_items}
use Rattle.meaning.specs.Evaluate.{seen_sorts, joined_visible}
use Rattle.form_rows.specs.Rows.{row_size}
use Rattle.form.specs.declared.Refusal.{Refusal}
use Rattle.form.specs.Memory.{part}
use Rattle.form.specs.Verdicts.{Verdict, told}
use Rattle.unite_checks.specs.Consistent.{Checked, checked_own}
use Rattle.own_repeats.specs.Scans.{walked}
use Rattle.own_declarations.specs.Checked.{available_at, variable_at}
use Rattle.own_declarations.specs.declared.Own.{Own}
use Rattle.own_items.specs.declared.OwnRows.{OwnRows}
use Rattle.own_items.specs.Joined.{OwnStands}
use Rattle.own_items.specs.Checking.{with_rows, variables_by, declarations_by, CheckRoom, OwnChecked}
use Rattle.own_items.specs.JoinLaws.{own_stands_kept, declarations_told}

-- ---- 13, and then 12

module _ (text tape w : List ℕ) (own : Own) (visible hidden : ℕ) (r : Verdict) where
  pub variables_so : told text r
      ≡ walked (variable_at text tape w (with_rows own visible) (own.rows + visible * row_size) hidden) own.from (own.end - own.from)
      → told text r ≡ variables_by text tape w own visible hidden
  unfolding variables_by
  variables_so e = e

  module _ (e : told text r ≡ walked (available_at text tape w own) own.from (own.end - own.from)) where
    pub declared_stop : (x : Refusal) → r ≡ Err x → told text (Err x) ≡ declarations_by text tape w own visible hidden
    unfolding declarations_by told ◌>>◌
    declared_stop x q = rw (← e, q)

    pub declared_fine : (s : Verdict) → r ≡ Ok tt → told text s ≡ variables_by text tape w own visible hidden
        → told text s ≡ declarations_by text tape w own visible hidden
    unfolding declarations_by told ◌>>◌
    declared_fine s q f = rw (← e, q) f

-- ---- all of them

module _ (text w w' : List ℕ) (t : ℕ) (own : Own) (q : ℕ) (c : OwnRows) (p : ℕ) (room : CheckRoom (length w) t own q c p) (r : Verdict)
    (checked : Checked text w w' t q c.parameter_count own.rows (c.visible_count + c.hidden_count) p r) where
  module _ (m : Module) (v : Visible) (stands : OwnStands text (part w 0 t) w own q c m v) where
    consistent_told : told text r ≡ consistent (joined_visible m v) (own_hidden_items m (seen_sorts m v))
    consistent_told =
        rw (stands.parameters, stands.visible, stands.hidden) at
        (checked_own text w w' t q c.parameter_count own.rows c.visible_count c.hidden_count p r checked)

    stands_behind : OwnStands text (part w' 0 t) w' own q c m v
    stands_behind =
        own_stands_kept text w w' t p (p + (c.parameter_count + (c.visible_count + c.hidden_count))) checked.kept room.laid.tape own q c m v
        room.imported room.laid.parameters room.laid.rows stands

  pub checks_stop : (x : Refusal) → r ≡ Err x → OwnChecked text t own q c p w w' (Err x)
  unfolding told ◌>>◌
  checks_stop x e = record {
    kept = checked.kept;
    verdict = λ m v stands few.
        declarations_told text (part w 0 t) w own q c m v few stands (told text (Err x)) (ap (told text) (sym e) ∙ consistent_told m v stands);
  }

  pub checks_fine : (s : Verdict) → r ≡ Ok tt → told text s ≡ declarations_by text (part w' 0 t) w' own c.visible_count c.hidden_count
      → OwnChecked text t own q c p w w' s
  unfolding told ◌>>◌
  checks_fine s e f = record {
    kept = checked.kept;
    verdict = λ m v stands few.
        f ∙ declarations_told text (part w' 0 t) w' own q c m v few (stands_behind m v stands) (told text (Ok tt))
        (ap (told text) (sym e) ∙ consistent_told m v stands);
  }

pub ruleset telling = (variables_so, declared_stop, declared_fine, checks_stop, checks_fine, rules)
