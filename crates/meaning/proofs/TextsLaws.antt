-- What it means that two texts are read: each is, the customer's behind the library's.
use Rattle.std.specs.Prelude.{◌≡◌, refl, ℕ, ◌-◌, Bool, true, false, List, [], ◌++◌, eqb, length}
use Rattle.std.proofs.Common.{sym, subst, inl, inr, arith}
use Rattle.meaning.specs.Lists.{pick}
use Rattle.meaning.specs.Names.{Name}
use Rattle.meaning.specs.Numbers.{module_limit}
use Rattle.meaning.specs.Syntax.{Module}
use Rattle.meaning.specs.Grammar.{State, Result, done, refused, read}
use Rattle.meaning.specs.Reached.{module_names}
use Rattle.meaning.specs.Texts.{Texts, all_read, refused_in, behind, read_behind, library_first, read_texts}
use Rattle.meaning.specs.TextsLaws.{LibraryRead, Parts, by_library}

no_modules : {X : Type 0} (l : Bool) (number place : ℕ) (ms : List Module) → refused_in l number place ≡ all_read ms → X
no_modules l number place ms e = let z : ◌≡◌ {A = ℕ} 0 1 = cc in absurd (omega arith)

same_modules : (ms ms' : List Module) → all_read ms ≡ all_read ms' → ms ≡ ms'
same_modules ms ms' e = cc

behind_parts : (t : Texts) (ls ms : List Module) → LibraryRead t.library ls → read_behind ls t.customer ≡ all_read ms → Parts t ms
unfolding read_behind behind
behind_parts t ls ms l e = go (read t.customer (module_limit - length ls) (module_names ls)) refl e
  where
    go : (r : Result (List Module)) → read t.customer (module_limit - length ls) (module_names ls) ≡ r → behind ls r ≡ all_read ms → Parts t ms
    go (done cs s) q e = record {
      library_modules = ls;
      customer_modules = cs;
      sequence = sym (same_modules (ls ++ cs) ms e);
      library_read = l;
      state = s;
      customer_read = q;
    }
    go (refused k p) q e = no_modules false k p ms e

library_parts : (t : Texts) (ms : List Module) (r : Result (List Module)) → read t.library module_limit [] ≡ r
    → library_first r t.customer ≡ all_read ms → Parts t ms
unfolding library_first
library_parts t ms (done ls s) q e = behind_parts t ls ms (inr (s, q)) e
library_parts t ms (refused k p) q e = no_modules true k p ms e

pub read_parts : (t : Texts) (ms : List Module) → read_texts t ≡ all_read ms → Parts t ms
unfolding read_texts pick
read_parts t ms e = go (eqb (length t.library) 0) e
  where
    go : (b : Bool) → pick b (read_behind [] t.customer) (library_first (read t.library module_limit []) t.customer) ≡ all_read ms → Parts t ms
    go true e = behind_parts t [] ms (inl refl) e
    go false e = library_parts t ms (read t.library module_limit []) refl e

module _ (Q : List Module → Type 0) where
  -- what holds of no module, of those read of a text, and of two sequences together if of each, holds of what two texts are read as
  pub of_both : Q [] → ((ls ms : List Module) → Q ls → Q ms → Q (ls ++ ms))
      → ((text : List ℕ) (n : ℕ) (taken : List Name) (ms : List Module) (s : State) → read text n taken ≡ done ms s → Q ms)
      → (t : Texts) (ms : List Module) → read_texts t ≡ all_read ms → Q ms
  of_both none joined one t ms e = go (read_parts t ms e)
    where
      go : Parts t ms → Q ms
      go p =
          subst Q (sym p.sequence)
          (joined p.library_modules p.customer_modules
          (by_library Q none p (λ s q. one t.library module_limit [] p.library_modules s q))
          (one t.customer _ _ p.customer_modules p.state p.customer_read))
