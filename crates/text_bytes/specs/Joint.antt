-- Two texts as one: the customer's text, and the library behind it. A place is one of both together.
use Rattle.std.specs.Prelude.{List, ◌++◌, ℕ}

unfoldable pub joint : List ℕ → List ℕ → List ℕ
joint library text = text ++ library
