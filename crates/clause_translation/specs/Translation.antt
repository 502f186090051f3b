-- What a mode of translation does to names (meaning/specs/Clauses.antt).
use Rattle.std.specs.Prelude.{ℕ, Bool, List, eqb}
use Rattle.meaning.specs.Lists.{pick, keep}
use Rattle.meaning.specs.Names.{Name}
use Rattle.meaning.specs.Origins.{FunctionType, Item, in_parameter}
use Rattle.meaning.specs.Normal.{move_item, move_hidden_item}
use Rattle.meaning.specs.Clauses.{renaming, new_sort, new_function}
use Rattle.text_names.specs.Word.{name_of}
use Rattle.form.specs.Forms.{items_at}
use Rattle.clause_pairs.specs.Pairs.{pairs_at}
use Rattle.clause_translation.specs.declared.Mode.{Mode}

-- the items of a table that stand in the parameter p
unfoldable pub formals_at : List ℕ → List ℕ → List ℕ → ℕ → ℕ → Name → List Item
formals_at text tape w visible count p = keep (λ (i : Item). in_parameter p i.standing) (items_at text tape w visible count)

module _ (text tape w : List ℕ) (m : Mode) where
  abbrev pub mode_formals : List Item
  mode_formals = formals_at text tape w m.visible m.count (name_of text m.parameter)

  -- what becomes of a visible sort's name, and of a visible function's by its type
  unfoldable pub sort_name : Name → Name
  sort_name a =
      let renamed = renaming (pairs_at text tape m.pairs) a in
      let bound = new_sort mode_formals (pairs_at text tape m.pairs) a in
      pick (eqb m.kind 0) a (pick (eqb m.kind 1) renamed bound)

  unfoldable pub function_name : Name → FunctionType → Name
  function_name f t =
      let renamed = renaming (pairs_at text tape m.pairs) f in
      let bound = new_function mode_formals (pairs_at text tape m.pairs) f t in
      pick (eqb m.kind 0) f (pick (eqb m.kind 1) renamed bound)

  -- what becomes of a visible item, and of a hidden one
  unfoldable pub moved : Item → Item
  moved i = move_item sort_name function_name i

  unfoldable pub moved_hidden : Item → Item
  moved_hidden i = move_hidden_item sort_name function_name i

  -- a translated row is of a table of visible items, or of hidden ones
  unfoldable pub moved_in : Bool → Item → Item
  moved_in visible i = pick visible (moved i) (moved_hidden i)
