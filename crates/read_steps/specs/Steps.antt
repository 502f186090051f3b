-- What the code's small functions answer, which go on from an answer and leave the tape alone.
use Rattle.std.specs.Prelude.{◌≡◌, ℕ, ◌-◌, Bool, false, List, [], Ok, Err, leb}
use Rattle.meaning.specs.Numbers.{name_size, module_twice}
use Rattle.read_steps.specs.declared.Place.{Place}
use Rattle.read_steps.specs.Model.{Reading, Writer, out, onward, refuse, word_in, is_word_of, node_role}
use Rattle.tape.specs.Tape.{alone_role}

-- the answer of a writer that writes nothing
unfoldable pub still : Writer → Reading → Reading
still w r = (onward r [] w).answer

-- a writer that leaves any tape as it is, with one answer for all
pub record Quiet (w : Writer) : Type 0 where
  pub leaves : (p : Place) (t : List ℕ) → w p t ≡ out (w p []).answer t

-- does the next token's kind pass a test?
unfoldable pub next_passes : (ℕ → Bool) → Reading → Bool
next_passes test (Err e) = false
next_passes test (Ok p) = test p.token.kind

-- is the next token no longer than a name may be?
unfoldable pub next_short : Reading → Bool
next_short (Err e) = false
next_short (Ok p) = leb (p.token.end - p.token.start) name_size

-- the word of the next token as a name in a form
unfoldable pub next_in : ℕ → Reading → ℕ
next_in form (Err e) = 0
next_in form (Ok p) = word_in form p.token

-- what the name that is next is, in a term
unfoldable pub next_role : List ℕ → Reading → ℕ
next_role text (Err e) = alone_role
next_role text (Ok p) = node_role text p.token

-- how many entries there are
unfoldable pub entries_of : Reading → ℕ
entries_of (Err e) = 0
entries_of (Ok p) = p.entries

-- is the next token the name of that word?
unfoldable pub next_named : List ℕ → ℕ → Reading → Bool
next_named text w (Err e) = false
next_named text w (Ok p) = is_word_of text w p.token

-- refused where reading was, if it went on from there
unfoldable pub twice : Reading → Reading → Reading
twice at (Err e) = Err e
twice at (Ok p) = still (refuse module_twice) at
