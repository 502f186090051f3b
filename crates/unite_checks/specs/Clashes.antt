-- What two items of one name are tested for, and what a search finds.
use Rattle.std.specs.Prelude as Code
use Rattle.std.specs.Prelude.{◌≡◌, refl, Bool, true, false, ◌&&◌, List, map, Some, None, ℕ, ◌+◌, ◌-◌, eqb}
use Rattle.std.proofs.Math.Option.{Option, none, some}
use Rattle.meaning.specs.Lists.{pick, any}
use Rattle.meaning.specs.Names.{Name, same}
use Rattle.meaning.specs.Origins.{same_shape, is_sort, is_function, Item}
use Rattle.meaning.specs.Normal.{Slot}
use Rattle.meaning.specs.Checks.{least_at_odds, other_origin, sorts_clash, functions_clash, overloaded}
use Rattle.text_names.specs.Word.{name_of}
use Rattle.form_rows.specs.declared.Row.{Row}
use Rattle.form_rows.specs.Rows.{words_from, item_of}
use Rattle.form_order.specs.Ordered.{row_item}
use Rattle.unite_pairs.specs.declared.Test.{Test}
use Rattle.unite_pairs.specs.declared.Test.TheVariants.{Sorts, Functions, Overloading}
use Rattle.unite_pairs.specs.Pairs.{two_sorts, two_functions, two_overloaded, but_name}

unfoldable pub named : List ℕ → Code.Option ℕ → Option Name
named text (Some w) = some (name_of text w)
named text None = none

-- the meaning's tests
unfoldable pub wrong : Test → Item → Item → Bool
wrong Sorts a b = sorts_clash a b
wrong Functions a b = functions_clash a b
wrong Overloading a b = overloaded a b

-- the least name of two items that are at odds, and of two parameters of one name
unfoldable pub clash_name : Test → List Item → Option Name
clash_name t items = least_at_odds (λ (i : Item). i.name) (wrong t) items

unfoldable pub repeated_name : List Slot → Option Name
repeated_name slots = least_at_odds (λ (p : Slot). p.name) (λ p q. same p.name q.name) slots

-- where the search for what is at odds with the i-th of n rows, of that kind, begins: only a sort is at odds with sorts
unfoldable pub first_rival : Test → ℕ → ℕ → ℕ → ℕ
first_rival Sorts kind i n = pick (eqb kind 0) (i + 1) n
first_rival Functions kind i n = i + 1
first_rival Overloading kind i n = i + 1

-- whether a row behind x, which is the i-th of n in order, is at odds with it
unfoldable pub has_rival : List ℕ → List ℕ → List ℕ → ℕ → ℕ → ℕ → Test → ℕ → Row → Bool
has_rival text tape w b n p t i x = any (wrong t (item_of text tape x)) (map (row_item text tape w b) (words_from w (p + (i + 1)) (n - (i + 1))))

-- a test is one on the names, and then one on the rest
name_first : (p q n o : Bool) → (p && q && n && o) ≡ (n && (p && q && o))
name_first true true true o = refl
name_first true true false o = refl
name_first true false true o = refl
name_first true false false o = refl
name_first false q true o = refl
name_first false q false o = refl

pub wrong_parts : (t : Test) (a b : Item) → wrong t a b ≡ (same a.name b.name && but_name t a b)
unfolding wrong but_name sorts_clash functions_clash overloaded two_sorts two_functions two_overloaded
wrong_parts Sorts a b = name_first (is_sort a.shape) (is_sort b.shape) (same a.name b.name) (other_origin a b)
wrong_parts Functions a b = name_first (is_function a.shape) (same_shape a.shape b.shape) (same a.name b.name) (other_origin a b)
wrong_parts Overloading a b = refl
