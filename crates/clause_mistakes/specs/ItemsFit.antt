-- The checks of all formal items that a pair binds, 25 and 26, of rows in the working memory.
use Rattle.std.specs.Prelude.{ℕ, true, false, List}
use Rattle.meaning.specs.Names.{Name}
use Rattle.meaning.specs.Numbers.{other_kind, other_type}
use Rattle.meaning.specs.Checks.{Culprit, ◌>>◌, Check, needs}
use Rattle.form.specs.declared.Form.{Form}
use Rattle.clause_translation.specs.declared.Mode.{Mode}
use Rattle.clause_fitting.specs.Fits.{all_fit}

module _ (text tape w : List ℕ) (m : Mode) (actual : Form) where
  -- 25, 26
  unfoldable pub items_fit : Name → Name → Check
  items_fit old new =
      let both : Culprit = record { name = old; actual = new } in
      needs other_kind both (all_fit text tape w m actual false old new) >> needs other_type both (all_fit text tape w m actual true old new)
