-- The pairs of a clause one by one: how many there are, the old names given by the first of them, and whether one of them is right.
use Rattle.std.specs.Prelude as std
use Rattle.std.specs.Prelude.{Some, None}
use Rattle.std.specs.Prelude.{ℕ, zero, suc, ◌+◌, ◌*◌, Bool, not, ◌&&◌, List, [], ◌∷◌, eqb}
use Rattle.std.proofs.Math.Option.{Option, none, some}
use Rattle.meaning.specs.Lists.{pick}
use Rattle.meaning.specs.Names.{Name, member}
use Rattle.meaning.specs.Syntax.{Pair}
use Rattle.text_names.specs.Word.{name_of}
use Rattle.tape.specs.Tape.{old_role}
use Rattle.form_rows.specs.Entries.{role_at, name_at}

unfoldable pub found : List ℕ → std.Option ℕ → Option Name
found text (Some w) = some (name_of text w)
found text None = none

-- how many pairs stand from place i on, at most c
unfoldable pub pair_count : List ℕ → ℕ → ℕ → ℕ
pair_count tape i zero = 0
pair_count tape i (suc c) = let more = suc (pair_count tape (i + 2) c) in pick (eqb (role_at tape i) old_role) more 0

-- the old names of the first k pairs, the last of them first
unfoldable pub given : List ℕ → List ℕ → ℕ → ℕ → List Name
given text tape pairs zero = []
given text tape pairs (suc k) = name_at text tape (pairs + k * 2) ∷ given text tape pairs k

-- pair k
unfoldable pub pair_at : List ℕ → List ℕ → ℕ → ℕ → Pair
pair_at text tape pairs k = record { old = name_at text tape (pairs + k * 2); new = name_at text tape (pairs + k * 2 + 1) }

-- pair k is right, and its old name was not given before
unfoldable pub rightly : (Pair → Bool) → List ℕ → List ℕ → ℕ → ℕ → Bool
rightly right text tape pairs k = right (pair_at text tape pairs k) && not (member (name_at text tape (pairs + k * 2)) (given text tape pairs k))
