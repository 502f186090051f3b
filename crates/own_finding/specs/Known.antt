-- What is sought among the known items: a variable of a name, and a function of a name that takes arguments of given sorts.
use Rattle.std.specs.Prelude.{Bool, ◌&&◌, List}
use Rattle.meaning.specs.Names.{Name}
use Rattle.meaning.specs.Origins.{Sort, Item}
use Rattle.meaning.specs.Normal.{is_called}
use Rattle.meaning.specs.Typing.{takes, is_variable}

unfoldable pub variable_called : Name → Item → Bool
variable_called w i = is_called w i && is_variable i.shape

unfoldable pub function_called : Name → List Sort → Item → Bool
function_called f sorts i = is_called f i && takes sorts i.shape
