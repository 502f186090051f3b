-- What a line `key=value` is written as, and the lines of an item.
use Rattle.std.specs.Prelude.{ℕ, List, ◌++◌, eqb}
use Rattle.meaning.specs.Lists.{pick}
use Rattle.meaning.specs.Names.{bytes}
use Rattle.meaning.specs.Origins.{Origin, Shape, sort_shape, function_shape, variable_shape, Item}
use Rattle.meaning.specs.Written.{origin_text, shape_text}

unfoldable pub line_of : List ℕ → List ℕ → List ℕ
line_of key value = key ++ (bytes "=" ++ (value ++ bytes "\n"))

unfoldable pub origin_line_of : Origin → List ℕ
origin_line_of o = line_of (bytes "origin") (origin_text o)

-- an item's key, by a row's kind and by the item's shape: the first for a sort, the second for a function
unfoldable pub key_of : ℕ → List ℕ → List ℕ → List ℕ
key_of kind s f = pick (eqb kind 0) s (pick (eqb kind 1) (bytes "variable") f)

unfoldable pub key_by : List ℕ → List ℕ → Shape → List ℕ
key_by s f sort_shape = s
key_by s f (function_shape t) = f
key_by s f (variable_shape r) = bytes "variable"

-- what follows an item's name, where `hidden` are the hidden items in order
unfoldable pub rest_of : List Item → Item → List ℕ
rest_of hidden i = shape_text hidden i.shape ++ (bytes "\n" ++ origin_line_of i.origin)

-- an item that is written as `called`
unfoldable pub item_text : (s f called : List ℕ) → List Item → Item → List ℕ
item_text s f called hidden i = key_by s f i.shape ++ (bytes "=" ++ (called ++ rest_of hidden i))
