-- Step 1 for one name (meaning/specs/Evaluate.antt), and the names of modules checked one by one.
use Rattle.std.specs.Prelude.{◌≡◌, refl, ℕ, Bool, true, false, List, [], ◌∷◌, take}
use Rattle.meaning.specs.Lists.{pick}
use Rattle.meaning.specs.Names.{Name}
use Rattle.meaning.specs.Numbers.{named_absent, named_late}
use Rattle.meaning.specs.Checks.{lone, Check, fine, stop, ◌>>◌}
use Rattle.meaning.specs.Evaluate.{missing, too_late, names_right}

-- step 1 for one name of module k
unfoldable pub name_right : List Name → ℕ → Name → Check
name_right ds k w = names_right ds (take k ds) (w ∷ [])

-- the first name, and then the others
pub names_step : (ds es : List Name) (w : Name) (ws : List Name)
    → names_right ds es (w ∷ ws) ≡ names_right ds es (w ∷ []) >> names_right ds es ws
unfolding names_right pick ◌>>◌
names_step ds es w ws = go (missing ds w) (too_late ds es w) (names_right ds es ws)
  where
    absent : Check
    absent = stop named_absent (lone w)

    late : Check
    late = stop named_late (lone w)

    go : (b c : Bool) (more : Check) → pick b absent (pick c late more) ≡ pick b absent (pick c late (fine tt)) >> more
    go true c more = refl
    go false true more = refl
    go false false more = refl
