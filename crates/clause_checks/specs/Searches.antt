-- What is sought: a parameter by its name, and in a table of rows a sort or a function by its name, an item by its name and shape; and a name
-- among names.
use Rattle.std.specs.Prelude.{◌≡◌, refl, Bool, false, ◌&&◌, List, [], ◌∷◌, map}
use Rattle.meaning.specs.Lists.{pick, any}
use Rattle.meaning.specs.Names.{Name, same, member}
use Rattle.meaning.specs.Origins.{Shape, same_shape, is_sort, is_function, Item}
use Rattle.meaning.specs.Normal.{Slot, names_in, is_called}

unfoldable pub slot_called : Name → Slot → Bool
slot_called a p = same a p.name

unfoldable pub sort_called : Name → Item → Bool
sort_called a i = pick (is_sort i.shape) (is_called a i) false

unfoldable pub function_called : Name → Item → Bool
function_called a i = is_called a i && is_function i.shape

unfoldable pub like : Name → Shape → Item → Bool
like a s i = is_called a i && same_shape s i.shape

-- ---- a name is among the names of those of which one is called so

pub called_any : {A : Type 0} (f : A → Name) (a : Name) (xs : List A) → member a (map f xs) ≡ any (λ (x : A). same a (f x)) xs
unfolding member any
called_any f a [] = refl
called_any f a (x ∷ xs) = rw (called_any f a xs)

pub named_any : (a : Name) (is : List Item) → member a (names_in is) ≡ any (is_called a) is
unfolding names_in is_called
named_any a is = called_any (λ (i : Item). i.name) a is
