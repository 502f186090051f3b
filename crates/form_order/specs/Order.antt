-- The order table: words that are numbers of names, in the order of the names. Name i stands at place b + i * s of the memory w, and the
-- order table begins at place p.
use Rattle.std.specs.Prelude.{◌≡◌, ◌⊎◌, true, false, List, [], ◌∷◌, ◌++◌, ℕ, zero, suc, ◌+◌, ◌*◌, ◌≤◌, ◌<◌, length, get_or}
use Rattle.meaning.specs.Names.{Name, not_after, by_name}
use Rattle.text_names.specs.Word.{name_of}
use Rattle.form_rows.specs.Rows.{words_from}
use Rattle.form.specs.Memory.{Kept}

unfoldable pub name_in : List ℕ → List ℕ → ℕ → ℕ → ℕ → Name
name_in text w b s i = name_of text (get_or w (b + i * s) 0)

-- the numbers below n, ascending
unfoldable pub upto : ℕ → List ℕ
upto zero = []
upto (suc n) = upto n ++ (n ∷ [])

-- the numbers of n names, in the order of the names
unfoldable pub name_order : List ℕ → List ℕ → ℕ → ℕ → ℕ → List ℕ
name_order text w b s n = by_name (name_in text w b s) (upto n)

-- the n words from p on are the numbers of n names, in order
pub record InOrder (text w : List ℕ) (b s p n : ℕ) : Type 0 where
  pub words : words_from w p n ≡ name_order text w b s n

-- the place k of the name x among n names in order: behind all that are not after it
pub record Spot (text w : List ℕ) (b s p n x k : ℕ) : Type 0 where
  pub inside : k ≤ n
  pub before : (i : ℕ) → i < k → not_after (name_in text w b s (get_or w (p + i) 0)) (name_of text x) ≡ true
  pub behind : (i : ℕ) → k ≤ i → i < n → not_after (name_in text w b s (get_or w (p + i) 0)) (name_of text x) ≡ false

-- the words from a up to e moved up by one, and v put at a
pub record Inserted (a e v : ℕ) (w w' : List ℕ) : Type 0 where
  pub size : length w' ≡ length w
  pub below : (i : ℕ) → i < a → get_or w' i 0 ≡ get_or w i 0
  pub here : get_or w' a 0 ≡ v
  pub moved : (i : ℕ) → a ≤ i → i < e → get_or w' (i + 1) 0 ≡ get_or w i 0
  pub above : (i : ℕ) → e < i → get_or w' i 0 ≡ get_or w i 0

-- the order table of n names is made, and all else stays
pub record PutInOrder (text w w' : List ℕ) (b s p n : ℕ) : Type 0 where
  pub ordered : InOrder text w' b s p n
  pub kept : Kept p (p + n) w w'

-- n names lie apart from the order table of n words
abbrev pub NamesApart : ℕ → ℕ → ℕ → ℕ → Type 0
NamesApart b s p n = (i : ℕ) → i < n → (b + i * s < p) ⊎ (p + n ≤ b + i * s)
