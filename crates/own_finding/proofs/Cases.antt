-- One law for each way through what is asked of a name and its arguments, in the code's terms.
use mathlib.Core.Path.{◌≡◌}
use mathlib.Core.List.{List}
use Prim.Native.Nat.{ℕ, ◌+◌, ◌-◌, ◌*◌, ◌<◌, ◌≤◌}
use borrow.Author.Rules.{rules}
use borrow.Author.Tests.{eq-eqb, ne_eqb, lt-ltb, le-ltb}
use lib.Dec.{eqb}
use Rattle.meaning.specs.Lists.{pick}
use Rattle.tape.specs.Tape.{head_role, close_role, prefix_role, infix_role}
use Rattle.form_rows.specs.Entries.{role_at}
use Rattle.own_finding.specs.declared.Known.{Known}
use Rattle.own_finding.specs.Arguments.{node_word, arguments_of, closers_of, ends_at}

-- ---- one node

module _ (k : Known) (row n : ℕ) where
  pub node_visible : row < k.visible → row * 32 + n ≡ node_word k row n
  unfolding node_word pick
  node_visible h = rw (lt-ltb row k.visible h)

  pub node_hidden : k.visible ≤ row → (k.hidden + (row - k.visible)) * 32 + 16 + n ≡ node_word k row n
  unfolding node_word pick
  node_hidden h = rw (le-ltb row k.visible h)

-- ---- how many arguments there are, and where they end

module _ (role : ℕ) where
  pub arguments_head : role ≡ head_role → 9 ≡ arguments_of role
  unfolding arguments_of pick
  arguments_head h = rw (eq-eqb role head_role h)

  pub closers_head : role ≡ head_role → 1 ≡ closers_of role
  unfolding closers_of pick
  closers_head h = rw (eq-eqb role head_role h)

  module _ (h : role ≡ head_role → ⊥) where
    pub arguments_prefix : role ≡ prefix_role → 1 ≡ arguments_of role
    unfolding arguments_of pick
    arguments_prefix g = rw (ne_eqb role head_role h, eq-eqb role prefix_role g)

    pub arguments_infix : (role ≡ prefix_role → ⊥) → role ≡ infix_role → 2 ≡ arguments_of role
    unfolding arguments_of pick
    arguments_infix g f = rw (ne_eqb role head_role h, ne_eqb role prefix_role g, eq-eqb role infix_role f)

    pub arguments_none : (role ≡ prefix_role → ⊥) → (role ≡ infix_role → ⊥) → 0 ≡ arguments_of role
    unfolding arguments_of pick
    arguments_none g f = rw (ne_eqb role head_role h, ne_eqb role prefix_role g, ne_eqb role infix_role f)

    pub closers_none : 0 ≡ closers_of role
    unfolding closers_of pick
    closers_none = rw (ne_eqb role head_role h)

module _ (tape : List ℕ) (c left i : ℕ) where
  pub ends_counted : c ≡ 0 → eqb left 0 ≡ ends_at tape c left i
  unfolding ends_at pick
  ends_counted h = rw (eq-eqb c 0 h)

  pub ends_closed : (role : ℕ) → role ≡ role_at tape i → (c ≡ 0 → ⊥) → eqb role close_role ≡ ends_at tape c left i
  unfolding ends_at pick
  ends_closed role e h = rw (ne_eqb c 0 h, e)

-- what the answers about a name hand to `search`
pub ruleset cases = (node_visible, node_hidden, arguments_head, arguments_prefix, arguments_infix, arguments_none, closers_head, closers_none, ends_counted, ends_closed, rules)
