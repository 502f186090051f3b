-- One law for each way through the code, in the code's terms.
use Rattle.std.specs.Prelude.{Ok, Err}
use mathlib.Core.Path.{◌≡◌}
use mathlib.Core.List.{List}
use Prim.Native.Nat.{ℕ, ◌-◌}
use borrow.Author.Rules.{rules}
use Rattle.std.specs.Prelude.{Result, Ok, Err}
use Rattle.meaning.specs.Numbers.{ill_typed}
use Rattle.tape.specs.Tape.{tag_role}
use Rattle.form_rows.specs.Entries.{next_with}
use Rattle.form.specs.declared.Form.{Form}
use Rattle.form.specs.Verdicts.{Made, refusal}
use Rattle.form.specs.Memory.{part}
use Rattle.own_typing.specs.declared.Equated.{Equated}
use Rattle.own_typing.specs.Equations.{span, told, equations_from}
use Rattle.own_typing.specs.Typed.{known_in, module_in, with_equations, own_made}
use Rattle.own_equations.specs.Own.{owned, own_at}

module _ (f : Form) (r : Result Equated ℕ) where
  pub made_refused : (tag : ℕ) → r ≡ Err tag → Err (refusal ill_typed (record { name = tag; actual = 0 })) ≡ own_made f r
  unfolding own_made
  made_refused tag e = rw e

  pub made_done : (a : Equated) (nodes : ℕ) → r ≡ Ok a → nodes ≡ span a.free f.nodes → Ok (with_equations f a.count nodes) ≡ own_made f r
  unfolding own_made
  made_done a nodes e s = rw (e, ← s)

pub own_done : (text : List ℕ) (t : ℕ) (f : Form) (home from end : ℕ) (w u : List ℕ) (i : ℕ) (r : Result Equated ℕ) (q : Made)
    → i ≡ next_with tag_role (part w 0 t) from (end - from) → told r u ≡ equations_from text (known_in t f) (module_in f home end) t 0 i f.nodes w
    → q ≡ own_made f r → owned q u ≡ own_at text t f home from end w
unfolding own_at
own_done text t f home from end w u i r q e h g = rw (← e, ← h, g)

-- what the answers of this crate hand to `search`
pub ruleset cases = (made_refused, made_done, own_done, rules)
