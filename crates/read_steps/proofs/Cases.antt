-- The cases of single steps, one for each way through the code: p is the place of an answer.
use mathlib.Core.Path.{◌≡◌, refl, sym, ap, ◌∙◌}
use mathlib.Core.Bool.{Bool, true, false, ◌||◌, false≢true}
use mathlib.Core.List.{List, []}
use Prim.Native.Nat.{ℕ, ◌+◌, ◌-◌, ◌*◌, ◌%◌, ◌<◌, ◌≤◌}
use native.Mathlib.Omega.{arith}
use lib.Dec.{eqb, leb}
use lib.ListN.{length, set}
use borrow.Author.Rules.{rules}
use mir.Syntax.{w32}
use mir.Val.{Fits}
use borrow.Author.Tests.{lt-ltb, le-ltb}
use Rattle.std.specs.Prelude.{Ok, Err}
use Rattle.types.specs.declared.Token.{Token}
use Rattle.meaning.specs.Lists.{pick}
use Rattle.meaning.specs.Names.{same}
use Rattle.meaning.specs.Tokens.{token_at}
use Rattle.meaning.specs.Grammar.{is, begins_function, begins_term}
use Rattle.text_names.specs.Word.{name_of}
use Rattle.read_steps.specs.declared.Place.{Place}
use Rattle.read_steps.specs.declared.Misread.{Misread}
use Rattle.read_steps.specs.Model.{Reading, misread, Out, out, place, Writer, onward, refuse, unexpected, word_in, written, step, short_name, is_word_of, that_name, this_name}
use Rattle.read_steps.specs.Steps.{still, Quiet, next_passes, next_short, next_in, next_named}
use Rattle.read_steps.proofs.Laws.{laws, then, quietly, refuse_quiet, step_quiet, unexpected_quiet, if_quiet}

module _ (r : Reading) (m : Misread) (e : r ≡ Err m) where
  pub refused_still : (f : Writer) → Err m ≡ still f r
  unfolding still onward
  refused_still f = rw e

  pub refused_onward : (t : List ℕ) (f : Writer) → out (Err m) t ≡ onward r t f
  unfolding onward
  refused_onward t f = rw e

  pub refused_passes : (test : ℕ → Bool) → false ≡ next_passes test r
  unfolding next_passes
  refused_passes test = rw e

  pub refused_short : false ≡ next_short r
  unfolding next_short
  refused_short = rw e

  pub refused_in : (form : ℕ) → 0 ≡ next_in form r
  unfolding next_in
  refused_in form = rw e

module _ (r : Reading) (p : Place) (e : r ≡ Ok p) where
  pub done_passes : (k : ℕ) → eqb p.token.kind k ≡ next_passes (is k) r
  unfolding next_passes
  done_passes k = rw e

  pub done_short : (n : ℕ) → n ≡ p.token.end - p.token.start → leb n 40 ≡ next_short r
  unfolding next_short
  done_short n h = rw (e, h)

  pub done_in : (form w : ℕ) → w ≡ word_in form p.token → w ≡ next_in form r
  unfolding next_in
  done_in form w h = rw (e, h)

  pub done_refuse : (n : ℕ) → misread n p.token.start ≡ still (refuse n) r
  unfolding still onward refuse
  done_refuse n = rw e

  pub done_step : (s : List ℕ) (u : Token) → u ≡ token_at s p.token.end → Ok (place u p.nodes p.entries) ≡ still (step s) r
  unfolding still onward step
  done_step s u g = rw (e, g)

  pub written_in : (t : List ℕ) (w : ℕ) → p.entries < length t → out (Ok (place p.token p.nodes (p.entries + 1))) (set t p.entries w) ≡ onward r t (written w)
  unfolding onward written pick
  written_in t w h = rw (e, lt-ltb p.entries (length t) h)

  pub written_out : (t : List ℕ) (w : ℕ) → length t ≤ p.entries → out (Ok p) t ≡ onward r t (written w)
  unfolding onward written pick
  written_out t w h = rw (e, le-ltb p.entries (length t) h)

-- the word of a token in a form
pub word_is : (form : ℕ) (t : Token) (n : ℕ) → n ≡ t.end - t.start → t.start % 65536 * 256 + n % 64 + form * 64 ≡ word_in form t
unfolding word_in
word_is form t n h = rw h (omega arith)

-- the code's word of a name and its role fit a `u32`
module _ (form : ℕ) (f : form < 4) where
  small_word : (r : Reading) → next_in form r < 16777216
  unfolding next_in word_in
  small_word (Err x) = omega arith
  small_word (Ok p) = omega arith

  module _ (r : Reading) (w : ℕ) (e : w ≡ next_in form r) where
    pub word_times : Fits w32 (w * 32)
    word_times = let h = small_word r in omega arith

    pub word_plus : (role : ℕ) → role < 256 → Fits w32 (w * 32 + role)
    word_plus role b = let h = small_word r in omega arith

-- a test that a name passes, an operator, and one token more, of kind c
pub record Begins (test : ℕ → Bool) (c : ℕ) : Type 0 where
  pub says : (k : ℕ) → test k ≡ (eqb k 1 || eqb k 5 || eqb k c)

pub term_begins : Begins begins_term 40
unfolding begins_term
term_begins = record { says = λ k. refl }

pub function_begins : Begins begins_function 95
unfolding begins_function
function_begins = record { says = λ k. refl }

module _ (test : ℕ → Bool) (c : ℕ) (z : Begins test c) (a : Bool) where
  pub begins_name : (r : Reading) → a ≡ next_passes (is 1) r → a ≡ true → true ≡ next_passes test r
  unfolding next_passes
  begins_name (Err x) e y = sym y ∙ e
  begins_name (Ok p) e y = rw (z.says p.token.kind, ← e, y)

  module _ (b : Bool) where
    pub begins_operator : (r : Reading) → a ≡ next_passes (is 1) r → a ≡ false → b ≡ next_passes (is 5) r → b ≡ true → true ≡ next_passes test r
    unfolding next_passes
    begins_operator (Err x) e n f y = sym y ∙ f
    begins_operator (Ok p) e n f y = rw (z.says p.token.kind, ← e, n, ← f, y)

    pub begins_other : (r : Reading) (d : Bool) → a ≡ next_passes (is 1) r → a ≡ false → b ≡ next_passes (is 5) r → b ≡ false → d ≡ next_passes (is c) r
        → d ≡ next_passes test r
    unfolding next_passes
    begins_other (Err x) d e n f y h = h
    begins_other (Ok p) d e n f y h = rw (z.says p.token.kind, ← e, n, ← f, y) h

module _ (b : Bool) where
  -- not allowed here: no token, or another
  pub unexpected_none : (r q : Reading) → b ≡ next_passes (is 4) r → b ≡ true → q ≡ still (refuse 1) r → q ≡ still unexpected r
  unfolding next_passes still onward refuse unexpected pick
  unexpected_none (Err x) q e y h = h
  unexpected_none (Ok p) q e y h = rw (← e, y) h

  pub unexpected_other : (r q : Reading) → b ≡ next_passes (is 4) r → b ≡ false → q ≡ still (refuse 2) r → q ≡ still unexpected r
  unfolding next_passes still onward refuse unexpected pick
  unexpected_other (Err x) q e y h = h
  unexpected_other (Ok p) q e y h = rw (← e, y) h

  module _ (s : List ℕ) (w : ℕ) where
    -- the name of a word
    pub named_yes : (r : Reading) (v : ℕ) (a : Bool) → b ≡ next_short r → b ≡ true → v ≡ next_in 0 r → a ≡ same (name_of s w) (name_of s v) → a ≡ next_named s w r
    unfolding next_short next_in next_named is_word_of pick
    named_yes (Err x) v a e y g h = absurd (false≢true (sym e ∙ y))
    named_yes (Ok p) v a e y g h = rw (← e, y, ← g) h

    pub named_no : (r : Reading) → b ≡ next_short r → b ≡ false → false ≡ next_named s w r
    unfolding next_short next_in next_named is_word_of pick
    named_no (Err x) e y = refl
    named_no (Ok p) e y = rw (← e, y)

    pub that_yes : (r q : Reading) → b ≡ next_named s w r → b ≡ true → q ≡ still (step s) r → q ≡ still (that_name s w) r
    unfolding next_named still onward that_name pick
    that_yes (Err x) q e y h = h
    that_yes (Ok p) q e y h = h ∙ ap (λ (o : Out). o.answer) go
      where
        go : step s p [] ≡ that_name s w p []
        go = rw (← e, y)

    pub that_no : (r q : Reading) → b ≡ next_named s w r → b ≡ false → q ≡ still (refuse 3) r → q ≡ still (that_name s w) r
    unfolding next_named still onward that_name pick
    that_no (Err x) q e y h = h
    that_no (Ok p) q e y h = h ∙ ap (λ (o : Out). o.answer) go
      where
        go : refuse 3 p [] ≡ that_name s w p []
        go = rw (← e, y)

  -- a token of bounded size, written by f in a form
  module _ (s : List ℕ) (form : ℕ) (f : ℕ → Writer) where
    pub short_yes : (r : Reading) (w : ℕ) (q a : Reading) (t u : List ℕ) → b ≡ next_short r → b ≡ true → w ≡ next_in form r
        → out q u ≡ onward r t (f w) → a ≡ still (step s) q → out a u ≡ onward r t (short_name s form f)
    unfolding next_short next_in onward short_name pick
    short_yes (Err x) w q a t u e y g h i = absurd (false≢true (sym e ∙ y))
    short_yes (Ok p) w q a t u e y g h i =
        rw (← e, y)
        (then (Ok p) q t u (out a u) (f (word_in form p.token)) (step s) (rw g at h) (quietly q a u (step s) (step_quiet s) i))

    pub short_no : (r q : Reading) (t : List ℕ) → b ≡ next_short r → b ≡ false → q ≡ still (refuse 4) r → out q t ≡ onward r t (short_name s form f)
    unfolding next_short still onward short_name pick
    short_no (Err x) q t e y h = rw h
    short_no (Ok p) q t e y h = rw (← e, y) (quietly (Ok p) q t (refuse 4) (refuse_quiet 4) h)

-- which writers write nothing
pub that_quiet : (s : List ℕ) (w : ℕ) → Quiet (that_name s w)
unfolding that_name refuse step pick
that_quiet s w = record { leaves = λ p t. go p t (is_word_of s w p.token) }
  where
    go : (p : Place) (t : List ℕ) (b : Bool) → pick b (step s p t) (refuse 3 p t) ≡ out (pick b (step s p []) (refuse 3 p [])).answer t
    go p t true = refl
    go p t false = refl

pub this_quiet : (s : List ℕ) (w : ℕ) → Quiet (this_name s w)
unfolding this_name
this_quiet s w = if_quiet (is 1) (that_name s w) unexpected (that_quiet s w) unexpected_quiet

pub ruleset cases = (refused_still, refused_onward, refused_passes, refused_short, refused_in, done_passes, done_short, done_in, done_refuse, done_step, written_in, written_out, word_is, word_times, word_plus, term_begins, function_begins, begins_name, begins_operator, begins_other, unexpected_none, unexpected_other, named_yes, named_no, that_yes, that_no, short_yes, short_no, this_quiet, laws, rules)
