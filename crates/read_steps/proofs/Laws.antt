-- Laws of writers that go on from an answer, in the code's terms: r is the answer before, t the tape before, q and u are a callee's answer and
-- the tape after it, o is what comes of all, and b what a test said.
use mathlib.Core.Path.{◌≡◌, refl, sym, ap, ◌∙◌}
use mathlib.Core.Bool.{Bool, true, false}
use mathlib.Core.List.{List, []}
use Prim.Native.Nat.{ℕ}
use Rattle.std.specs.Prelude.{Ok, Err}
use Rattle.meaning.specs.Lists.{pick}
use Rattle.meaning.specs.Grammar.{is}
use Rattle.read_steps.specs.declared.Place.{Place}
use Rattle.read_steps.specs.Model.{Reading, Out, out, Writer, onward, ◌>>◌, stay, refuse, unexpected, if_next, step, expect}
use Rattle.read_steps.specs.Steps.{still, Quiet, next_passes}

-- ---- one writer after the other

pub onward_then : (r : Reading) (t : List ℕ) (f g : Writer) → onward r t (f >> g) ≡ onward (onward r t f).answer (onward r t f).tape g
unfolding onward ◌>>◌
onward_then (Err x) t f g = refl
onward_then (Ok p) t f g = refl

pub then : (r q : Reading) (t u : List ℕ) (o : Out) (f g : Writer) → out q u ≡ onward r t f → o ≡ onward q u g → o ≡ onward r t (f >> g)
then r q t u o f g e h = rw (onward_then r t f g, ← e) h

pub stays : (r : Reading) (t : List ℕ) → out r t ≡ onward r t stay
unfolding onward stay
stays (Err x) t = refl
stays (Ok p) t = refl

-- ---- a writer that writes nothing

pub quietly : (r q : Reading) (t : List ℕ) (f : Writer) → Quiet f → q ≡ still f r → out q t ≡ onward r t f
unfolding onward still
quietly (Err x) q t f z e = rw e
quietly (Ok p) q t f z e = rw e (sym (z.leaves p t))

pub then_still : (r q : Reading) (t : List ℕ) (o : Out) (f g : Writer) → Quiet f → q ≡ still f r → o ≡ onward q t g → o ≡ onward r t (f >> g)
then_still r q t o f g z e h = then r q t t o f g (quietly r q t f z e) h

-- ---- a choice by the next token

module _ (test : ℕ → Bool) (f g : Writer) (r : Reading) (b : Bool) (e : b ≡ next_passes test r) where
  pub next_yes : (t : List ℕ) (o : Out) → b ≡ true → o ≡ onward r t f → o ≡ onward r t (if_next test f g)
  unfolding onward next_passes if_next pick
  next_yes t o y h = go r e h
    where
      go : (r : Reading) → b ≡ next_passes test r → o ≡ onward r t f → o ≡ onward r t (if_next test f g)
      go (Err x) e h = h
      go (Ok p) e h = rw (← e, y) h

  pub next_no : (t : List ℕ) (o : Out) → b ≡ false → o ≡ onward r t g → o ≡ onward r t (if_next test f g)
  unfolding onward next_passes if_next pick
  next_no t o y h = go r e h
    where
      go : (r : Reading) → b ≡ next_passes test r → o ≡ onward r t g → o ≡ onward r t (if_next test f g)
      go (Err x) e h = h
      go (Ok p) e h = rw (← e, y) h

  pub still_yes : (q : Reading) → b ≡ true → q ≡ still f r → q ≡ still (if_next test f g) r
  unfolding still
  still_yes q y h = h ∙ ap (λ (o : Out). o.answer) (next_yes [] (onward r [] f) y refl)

  pub still_no : (q : Reading) → b ≡ false → q ≡ still g r → q ≡ still (if_next test f g) r
  unfolding still
  still_no q y h = h ∙ ap (λ (o : Out). o.answer) (next_no [] (onward r [] g) y refl)

-- ---- which writers write nothing

pub refuse_quiet : (n : ℕ) → Quiet (refuse n)
unfolding refuse
refuse_quiet n = record { leaves = λ p t. refl }

pub unexpected_quiet : Quiet unexpected
unfolding unexpected
unexpected_quiet = record { leaves = λ p t. refl }

pub if_quiet : (test : ℕ → Bool) (f g : Writer) → Quiet f → Quiet g → Quiet (if_next test f g)
unfolding if_next pick
if_quiet test f g y z = record { leaves = λ p t. go p t (test p.token.kind) }
  where
    go : (p : Place) (t : List ℕ) (b : Bool) → pick b (f p t) (g p t) ≡ out (pick b (f p []) (g p [])).answer t
    go p t true = y.leaves p t
    go p t false = z.leaves p t

pub step_quiet : (text : List ℕ) → Quiet (step text)
unfolding step
step_quiet text = record { leaves = λ p t. refl }

pub expect_quiet : (text : List ℕ) (k : ℕ) → Quiet (expect text k)
unfolding expect
expect_quiet text k = if_quiet (is k) (step text) unexpected (step_quiet text) unexpected_quiet

-- what each answer hands to `search`
pub ruleset laws = (then, then_still, quietly, stays, next_yes, next_no, still_yes, still_no, refuse_quiet, unexpected_quiet, step_quiet, expect_quiet)
