-- Parts of the working memory, and what stays as it was.
use Rattle.std.specs.Prelude.{◌≡◌, ◌⊎◌, ℕ, ◌-◌, ◌≤◌, ◌<◌, List, length, get_or, take, drop}

-- the words from a up to e, as the borrow checker has them when the part is lent
abbrev pub part : List ℕ → ℕ → ℕ → List ℕ
part w a e = take (e - a) (drop a w)

-- the words from a up to e are the same
abbrev pub Same : ℕ → ℕ → List ℕ → List ℕ → Type 0
Same a e w w' = (i : ℕ) → a ≤ i → i < e → get_or w' i 0 ≡ get_or w i 0

-- the words outside a..e stay as they were
pub record Kept (a e : ℕ) (w w' : List ℕ) : Type 0 where
  pub size : length w' ≡ length w
  pub below : (i : ℕ) → i < a → get_or w' i 0 ≡ get_or w i 0
  pub above : (i : ℕ) → e ≤ i → get_or w' i 0 ≡ get_or w i 0

-- the words outside a..e and outside b..f stay as they were
pub record KeptTwo (a e b f : ℕ) (w w' : List ℕ) : Type 0 where
  pub size : length w' ≡ length w
  pub kept : (i : ℕ) → (i < a) ⊎ (e ≤ i) → (i < b) ⊎ (f ≤ i) → get_or w' i 0 ≡ get_or w i 0
