-- What a renaming's new name may not stand for: an item of the old name that is a sort, or a function with another number of arguments than an
-- operator has.
use Rattle.std.specs.Prelude.{Bool, not, ◌&&◌}
use Rattle.meaning.specs.Names.{Name}
use Rattle.meaning.specs.Origins.{Item}
use Rattle.meaning.specs.Normal.{is_called}
use Rattle.meaning.specs.Clauses.{may_name}

unfoldable pub unfit : Name → Name → Item → Bool
unfit old new i = is_called old i && not (may_name new i.shape)
