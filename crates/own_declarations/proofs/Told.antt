-- The ways through the checks 13 and 12, one law each: b, c, r, x and y are callees' answers.
use Rattle.std.specs.Prelude.{Ok, Err}
use mathlib.Core.Path.{◌≡◌}
use mathlib.Core.Bool.{Bool, true, false}
use mathlib.Core.List.{List}
use Prim.Native.Nat.{ℕ, ◌+◌, ◌-◌, ◌<◌, ◌≤◌}
use native.Mathlib.Omega.{arith}
use borrow.Author.Rules.{rules}
use borrow.Author.Tests.{lt-ltb, le-ltb, eq-eqb, ne_eqb}
use lib.Dec.{eqb}
use Rattle.meaning.specs.Lists.{pick}
use Rattle.meaning.specs.Numbers.{bad_variable, bad_sort}
use Rattle.text_names.specs.Word.{name_of}
use Rattle.tape.specs.Tape.{hidden_function, variable_role}
use Rattle.form_rows.specs.Entries.{role_at, word_at, is_function_role, arity_at, sort_place}
use Rattle.form.specs.Verdicts.{refusal, lone_of, told}
use Rattle.own_repeats.specs.Scans.{found, first_of}
use Rattle.own_repeats.proofs.Cases.{on, done, found_none, found_here, found_on, walked_all, walked_on, walked_stop}
use Rattle.own_declarations.specs.Sorts.{is_named, is_row, is_seen, is_inside}
use Rattle.own_declarations.specs.Checked.{lacks, lacks_function, lacks_variable, lacks_sort, available_at, wrong_at, variable_at}
use Rattle.own_declarations.specs.declared.Own.{Own}

module _ (text tape w : List ℕ) (own : Own) where
  module _ (hidden : Bool) (i x : ℕ) (b : Bool) (e : x ≡ word_at tape i) where
    pub lacks_inside : hidden ≡ true → b ≡ is_inside text tape w own (name_of text x) → b ≡ true → false ≡ lacks text tape w own hidden i
    unfolding lacks pick
    lacks_inside h f q = rw (h, ← e, ← f, q)

    pub lacks_outside : hidden ≡ true → b ≡ is_inside text tape w own (name_of text x) → b ≡ false → true ≡ lacks text tape w own hidden i
    unfolding lacks pick
    lacks_outside h f q = rw (h, ← e, ← f, q)

    pub lacks_seen : hidden ≡ false → b ≡ is_seen text tape w own (name_of text x) → b ≡ true → false ≡ lacks text tape w own hidden i
    unfolding lacks pick
    lacks_seen h f q = rw (h, ← e, ← f, q)

    pub lacks_unseen : hidden ≡ false → b ≡ is_seen text tape w own (name_of text x) → b ≡ false → true ≡ lacks text tape w own hidden i
    unfolding lacks pick
    lacks_unseen h f q = rw (h, ← e, ← f, q)

  pub function_told : (hidden : Bool) (d n : ℕ) (b : Bool) → n ≡ arity_at tape d
      → b ≡ found (lacks text tape w own hidden) (d + 1) (d + 1 + n + 1 - (d + 1)) → b ≡ lacks_function text tape w own hidden d
  unfolding lacks_function
  function_told hidden d n b e f = let z : d + 1 + n + 1 - (d + 1) ≡ n + 1 = omega arith in rw (z, e) at f

  pub variable_told : (d i : ℕ) (b : Bool) → i ≡ sort_place tape d → b ≡ lacks text tape w own true i → b ≡ lacks_variable text tape w own d
  unfolding lacks_variable
  variable_told d i b e f = rw (← e) f

  module _ (d r : ℕ) (e : r ≡ role_at tape d) (p : Bool) (f : p ≡ is_function_role r) where
    pub lack_function : (b : Bool) → p ≡ true → b ≡ lacks_function text tape w own (eqb r hidden_function) d → b ≡ lacks_sort text tape w own d
    unfolding lacks_sort pick
    lack_function b q g = rw (← e, ← f, q) g

    pub lack_variable : (b : Bool) → p ≡ false → r ≡ variable_role → b ≡ lacks_variable text tape w own d → b ≡ lacks_sort text tape w own d
    unfolding lacks_sort pick
    lack_variable b q h g = rw (← e, ← f, q, eq-eqb r variable_role h) g

    pub lack_nothing : p ≡ false → (r ≡ variable_role → ⊥) → false ≡ lacks_sort text tape w own d
    unfolding lacks_sort pick
    lack_nothing q h = rw (← e, ← f, q, ne_eqb r variable_role h)

  module _ (d : ℕ) (b : Bool) (e : b ≡ lacks_sort text tape w own d) where
    pub available_not : (x : ℕ) → b ≡ true → x ≡ word_at tape d → told text (Err (refusal bad_sort (record { name = x; actual = 0 }))) ≡ available_at text tape w own d
    unfolding available_at told pick
    available_not x q f = rw (lone_of text x, f, ← e, q)

    pub available_there : b ≡ false → told text (Ok tt) ≡ available_at text tape w own d
    unfolding available_at told pick
    available_there q = rw (← e, q)

  module _ (b n i x y : ℕ) (e : x ≡ word_at tape i) (f : y ≡ first_of (is_named text tape 17 (name_of text x)) own.from (i - own.from)) where
    pub wrong_early : y < i → true ≡ wrong_at text tape w own b n i
    unfolding wrong_at pick
    wrong_early h = rw (← e, ← f, lt-ltb y i h)

    module _ (c : Bool) (h : i ≤ y) (g : c ≡ found (is_row text w own.rows 2 (name_of text x)) 0 own.count) where
      pub wrong_visible : c ≡ true → true ≡ wrong_at text tape w own b n i
      unfolding wrong_at pick
      wrong_visible q = rw (← e, ← f, le-ltb y i h, ← g, q)

      pub wrong_hidden : (d : Bool) → c ≡ false → d ≡ found (is_row text w b 2 (name_of text x)) 0 n → d ≡ wrong_at text tape w own b n i
      unfolding wrong_at pick
      wrong_hidden d q k = rw (← e, ← f, le-ltb y i h, ← g, q) k

  module _ (b n i r : ℕ) (e : r ≡ role_at tape i) where
    pub variable_other : (r ≡ variable_role → ⊥) → told text (Ok tt) ≡ variable_at text tape w own b n i
    unfolding variable_at told pick
    variable_other h = rw (← e, ne_eqb r variable_role h)

    module _ (c : Bool) (h : r ≡ variable_role) (f : c ≡ wrong_at text tape w own b n i) where
      pub variable_wrong : (x : ℕ) → c ≡ true → x ≡ word_at tape i
          → told text (Err (refusal bad_variable (record { name = x; actual = 0 }))) ≡ variable_at text tape w own b n i
      unfolding variable_at told pick
      variable_wrong x q g = rw (lone_of text x, g, ← e, eq-eqb r variable_role h, ← f, q)

      pub variable_right : c ≡ false → told text (Ok tt) ≡ variable_at text tape w own b n i
      unfolding variable_at told pick
      variable_right q = rw (← e, eq-eqb r variable_role h, ← f, q)

pub ruleset checking = (on, done, found_none, found_here, found_on, walked_all, walked_on, walked_stop, lacks_inside, lacks_outside, lacks_seen, lacks_unseen, function_told, variable_told, lack_function, lack_variable, lack_nothing, available_not, available_there, wrong_early, wrong_visible, wrong_hidden, variable_other, variable_wrong, variable_right, rules)
