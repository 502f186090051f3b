-- A name and its arguments, as the code goes: the node's word, how many arguments there may be, and where they end.
use Rattle.std.specs.Prelude.{ℕ, ◌+◌, ◌-◌, ◌*◌, Bool, List, eqb, ltb}
use Rattle.meaning.specs.Lists.{pick}
use Rattle.tape.specs.Tape.{head_role, close_role, prefix_role, infix_role}
use Rattle.form_rows.specs.Entries.{role_at}
use Rattle.own_finding.specs.declared.Known.{Known}

-- the node of a row and a number of arguments
unfoldable pub node_word : Known → ℕ → ℕ → ℕ
node_word k row n = pick (ltb row k.visible) (row * 32 + n) ((k.hidden + (row - k.visible)) * 32 + 16 + n)

-- how many arguments a name of the role may have, at the most; an operator has no fewer
unfoldable pub arguments_of : ℕ → ℕ
arguments_of role = pick (eqb role head_role) 9 (pick (eqb role prefix_role) 1 (pick (eqb role infix_role) 2 0))

-- how many entries close them: none where they are counted
unfoldable pub closers_of : ℕ → ℕ
closers_of role = pick (eqb role head_role) 1 0

-- the arguments end before i, of which `left` more may come
unfoldable pub ends_at : List ℕ → ℕ → ℕ → ℕ → Bool
ends_at tape closers left i = pick (eqb closers 0) (eqb left 0) (eqb (role_at tape i) close_role)
