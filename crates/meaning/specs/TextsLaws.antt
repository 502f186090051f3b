-- What it means that two texts are read: each is, the customer's behind the library's.
use Rattle.std.specs.Prelude.{◌≡◌, ◌⊎◌, ℕ, ◌-◌, List, [], ◌++◌, length}
use Rattle.std.proofs.Common.{sym, subst, inl, inr}
use Rattle.meaning.specs.Numbers.{module_limit}
use Rattle.meaning.specs.Syntax.{Module}
use Rattle.meaning.specs.Grammar.{State, done, read}
use Rattle.meaning.specs.Reached.{module_names}
use Rattle.meaning.specs.Texts.{Texts}

-- these are the library's modules: none, or what its text is read as
abbrev pub LibraryRead : List ℕ → List Module → Type 0
LibraryRead library ls = (ls ≡ []) ⊎ ((s : State) × (read library module_limit [] ≡ done ls s))

pub record Parts (t : Texts) (ms : List Module) : Type 0 where
  pub library_modules : List Module
  pub customer_modules : List Module
  pub sequence : ms ≡ library_modules ++ customer_modules
  pub library_read : LibraryRead t.library library_modules
  pub state : State
  pub customer_read :
      read t.customer (module_limit - length library_modules) (module_names library_modules) ≡ done customer_modules state

module _ (Q : List Module → Type 0) where
  -- what holds of no module and of those read of a text holds of the library's
  pub by_library : Q [] → {t : Texts} {ms : List Module} (p : Parts t ms)
      → ((s : State) → read t.library module_limit [] ≡ done p.library_modules s → Q p.library_modules) → Q p.library_modules
  by_library none {t} p h = go p.library_read
    where
      go : LibraryRead t.library p.library_modules → Q p.library_modules
      go (inl e) = subst Q (sym e) none
      go (inr e) = h e.0 e.1
