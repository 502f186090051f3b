-- `text_words::run_end` meets its contract.
-- Assumes nothing.
use mathlib.Core.Path.{◌≡◌, refl, sym, ap, ◌∙◌}
use mathlib.Core.Bool.{Bool}
use mathlib.Core.List.{List}
use Prim.Native.Nat.{ℕ}
use lib.ListN.{length, get_or, drop}
use mir.Syntax.{w8}
use mir.Val.{Fits}
use Rattle.meaning.specs.Tokens.{run_end}
use Rattle.text_spelling.proofs.Auto.{over}
use Rattle.text_words.specs.Tests.{Tells, in_front}
use Rattle.text_words.proofs.Runs.{run_on, run_stop, run_ends, front}
use Rattle.text_words.proofs.run_end.Goals as goal

-- what a call told of the byte at i is what the test says of the text from there on
told_there : {post : ℕ → Bool → Type 0} (test : ℕ → Bool) → Tells post test → (s : List ℕ) (i : ℕ) (r b : Bool)
    → Fits w8 (get_or s i 0) → post (get_or s i 0) r → r ≡ b → in_front test (drop i s) ≡ b
told_there test t s i r b f p e = ap test (front s i) ∙ sym (t (get_or s i 0) r f.fits p) ∙ e

pub loop-i-init : goal.loop-i-init
loop-i-init g c test t = refl

pub returns-then-not-passes : goal.returns-then-not-passes
returns-then-not-passes g c test t =
    let i = c.loop-i.i in
    let e = told_there test t c.args.text.now i _ _ (c.type_inv.text i) c.passes.ensures c.if-not-passes.true in
    sym (c.loop-i.invariant test t ∙ run_stop (in_front test) c.args.text.now i c.loop-i-test.true e)

pub loop-i-preserved : goal.loop-i-preserved
loop-i-preserved g c test t =
    let i = c.loop-i.i in
    let e = told_there test t c.args.text.now i _ _ (c.type_inv.text i) c.passes.ensures c.if-not-passes.false in
    c.loop-i.invariant test t ∙ run_on (in_front test) c.args.text.now i c.loop-i-test.true e

pub returns : goal.returns
returns g c test t =
    let p = in_front test in
    let text = c.args.text.now in
    over (run_end p text) (length text) (run_ends p text) c.args.at c.loop-i.i _ (c.loop-i.invariant test t) c.loop-i.auto.i-end c.loop-i-test.false c.max.ensures
