-- What two texts say on one tape: the library's entries, whose places are moved by the length of the customer's text, and behind them the
-- customer's.
use Rattle.std.specs.Prelude.{◌≡◌, ℕ, ◌+◌, ◌%◌, ◌^◌, ◌≤◌, List, Result, Ok, Err, ◌++◌, map, length, take, drop}
use Rattle.meaning.specs.Numbers.{module_limit}
use Rattle.meaning.specs.OrderLaws.{Every}
use Rattle.meaning.specs.Syntax.{Module}
use Rattle.meaning.specs.Texts.{two_texts, all_read, refused_in, read_behind, read_texts}
use Rattle.text_names.specs.Joint.{joint}
use Rattle.tape.specs.Tape.{entries, flat_module, flat_modules}
use Rattle.form_rows.specs.Entries.{word_at}
use Rattle.read_meaning.specs.Matches.{Inside}
use Rattle.read_both.specs.declared.NotRead.{NotRead}

-- an entry moved by so much; on a tape that was read it stays below 2 ^ 32
unfoldable pub shifted : ℕ → ℕ → ℕ
shifted by e = (e + by) % 2 ^ 32

-- the first n entries are moved
unfoldable pub moved : ℕ → ℕ → List ℕ → List ℕ
moved by n t = map (shifted by) (take n t) ++ drop n t

-- the words of the names at the first `count` places
pub record WordsOf (tape places : List ℕ) (count : ℕ) (words : List ℕ) : Type 0 where
  pub room : count ≤ length words
  pub so : take count words ≡ map (word_at tape) (take count places)

-- n entries of the library stand on the tape, and both texts are read as the customer's is behind the library's modules
pub record Stands (library text : List ℕ) (n : ℕ) (t : List ℕ) : Type 0 where
  pub modules : List Module
  pub few : length modules ≤ module_limit
  pub next : read_texts (two_texts library text) ≡ read_behind modules text
  pub said : entries library n t ≡ flat_modules modules
  pub inside : Inside library n t
  pub within : n ≤ length library
  pub short : length library ≤ 32768
  pub room : 65536 ≤ length t

-- n entries say what both are read as; a place is one of both together
pub record Said (library text : List ℕ) (n : ℕ) (t : List ℕ) : Type 0 where
  pub modules : List Module
  pub read_so : read_texts (two_texts library text) ≡ all_read modules
  pub said : entries (joint library text) n t ≡ flat_modules modules
  pub within : n ≤ 65536
  pub room : 65536 ≤ length t
  -- each module stands in one text
  pub small : Every (λ (m : Module). length (flat_module m) ≤ 32768) modules

-- so many entries; or the first refusal
abbrev pub Both : Type 0
Both = Result ℕ NotRead

abbrev pub Told : (library text t : List ℕ) → Both → Type 0
Told library text t (Ok n) = Said library text n t
Told library text t (Err m) = read_texts (two_texts library text) ≡ refused_in m.in_library m.number m.place
