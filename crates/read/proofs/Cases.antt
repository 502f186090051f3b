-- The cases of the whole text, one for each way through the code: a, q and u come of callees, b is what a test said.
use Rattle.std.proofs.Common.{◌≡◌, ℕ, ◌<◌, ◌≤◌, true, false, List, length, replicate, slice_index, Ok, Err, is_err, refl, sym, ap, ◌∙◌, arith, rules, ext_get_or, le-leb}
use Rattle.std.proofs.lemmas.Bool.{false≢true}
use Rattle.std.proofs.lemmas.List.{length-replicate, get_or-replicate}
use borrow.Author.Tests.{lt-leb}
use Rattle.types.specs.declared.Token.{Token}
use Rattle.meaning.specs.Lists.{pick}
use Rattle.meaning.specs.Names.{Name}
use Rattle.meaning.specs.Numbers.{text_size}
use Rattle.meaning.specs.Tokens.{token_at}
use Rattle.read_steps.specs.Model.{Reading, misread, Out, out, place, onward, modules, wiped, read}

-- ---- the whole text

pub wiped_done : (r : Reading) (t : List ℕ) → is_err r ≡ false → out r t ≡ wiped r t
unfolding wiped
wiped_done (Ok p) t e = refl
wiped_done (Err m) t e = absurd (false≢true (sym e))

pub wiped_refused : (r : Reading) (t u : List ℕ) → is_err r ≡ true → length u ≡ length t → ((k : ℕ) → k < length t → slice_index u k ≡ 0)
    → out r u ≡ wiped r t
unfolding wiped
wiped_refused (Ok p) t u e l z = absurd (false≢true e)
wiped_refused (Err m) t u e l z = ap (out (Err m)) zeros
  where
    zeros : u ≡ replicate (length t) 0
    zeros =
        ext_get_or 0 u (replicate (length t) 0) (l ∙ sym (length-replicate (length t) 0))
        (λ k h. let b : k < length t = omega arith in z k b ∙ sym (get_or-replicate (length t) k 0 0 b))

module _ (s : List ℕ) (l : ℕ) (ns : List Name) (t : List ℕ) where
  pub read_long : (o : Out) → 32768 < length s → o ≡ wiped (misread 4 32768) t → o ≡ read s l ns t
  unfolding read text_size pick
  read_long o h e = rw (lt-leb (length s) 32768 h) e

  pub read_all : (k : Token) (q : Reading) (u : List ℕ) (o : Out) → length s ≤ 32768 → k ≡ token_at s 0 → out q u ≡ onward (Ok (place k 0 0)) t (modules s l ns) → o ≡ wiped q u → o ≡ read s l ns t
  unfolding read text_size onward pick
  read_all k q u o h e g w = rw (le-leb (length s) 32768 h, ← e, ← g) w

pub ruleset cases = (wiped_done, wiped_refused, read_long, read_all, rules)
