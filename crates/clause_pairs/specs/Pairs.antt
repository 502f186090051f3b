-- The pairs of a clause as they stand on the tape, and what they make of a name's word (meaning/specs/Clauses.antt).
use Rattle.std.specs.Prelude.{◌≡◌, ℕ, zero, suc, ◌+◌, ◌^◌, ◌<◌, List, [], ◌∷◌, eqb}
use Rattle.meaning.specs.Lists.{pick}
use Rattle.meaning.specs.Numbers.{pair_limit}
use Rattle.meaning.specs.Syntax.{Pair}
use Rattle.meaning.specs.Clauses.{renaming}
use Rattle.text_names.specs.Word.{name_of}
use Rattle.tape.specs.Tape.{old_role}
use Rattle.form_rows.specs.Entries.{role_at, word_at, name_at}

-- the pairs from place i on, at most c: an old name and a new one in turn
unfoldable pub pairs_from : List ℕ → List ℕ → ℕ → ℕ → List Pair
pairs_from text tape i zero = []
pairs_from text tape i (suc c) =
    let more = pairs_from text tape (i + 2) c in
    let here : List Pair = record { old = name_at text tape i; new = name_at text tape (i + 1) } ∷ more in
    pick (eqb (role_at tape i) old_role) here []

abbrev pub pairs_at : List ℕ → List ℕ → ℕ → List Pair
pairs_at text tape i = pairs_from text tape i pair_limit

-- r is the name's word at place i of the tape. The word of a sort is twice its name's, and fits
pub record SmallWord (tape : List ℕ) (i r : ℕ) : Type 0 where
  pub word : r ≡ word_at tape i
  pub small : r < 2 ^ 31

-- r is what the pairs make of the name's word w
pub record Renamed (text tape : List ℕ) (pairs w r : ℕ) : Type 0 where
  pub name : name_of text r ≡ renaming (pairs_at text tape pairs) (name_of text w)
  pub small : w < 2 ^ 31 → r < 2 ^ 31
