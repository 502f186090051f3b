-- One law for each way through the typer of equations, in the code's terms.
use mathlib.Core.Path.{◌≡◌, sym, ap, ◌∙◌}
use mathlib.Core.Bool.{Bool, true, false}
use mathlib.Core.List.{List}
use Prim.Native.Nat.{ℕ, suc, ◌+◌, ◌-◌, ◌<◌, ◌≤◌}
use native.Mathlib.Omega.{arith}
use lib.ListN.{length}
use borrow.Author.Rules.{rules}
use borrow.Author.Tests.{eq-eqb, ne_eqb, lt-ltb, le-ltb}
use Rattle.std.specs.Prelude.{Some, None, Err}
use Rattle.meaning.specs.Lists.{pick}
use Rattle.form_rows.specs.Entries.{role_at, word_at}
use Rattle.own_finding.specs.declared.Known.{Known}
use Rattle.own_typing.specs.declared.Module.{Module}
use Rattle.own_typing.specs.declared.Counted.{Counted}
use Rattle.own_terms.specs.declared.Sorted.{Sorted}
use Rattle.own_terms.specs.Typing.{out, tape_in, Answer}
use Rattle.own_typing.specs.Equations.{passed, sides_at, begins_at, after_sides, sides_from, turn_at, told, after_turn, equations_from, Passed, of_sides, of_equations}

-- ---- the sides of an equation: what is wanted is what is wanted from here. b tells whether a term begins at i

pub record Passing (text : List ℕ) (k : Known) (role end left₀ i₀ q₀ n₀ : ℕ) (w₀ : List ℕ) (left i q n : ℕ) (w : List ℕ) : Type 0 where
  pub size : length w ≡ length w₀
  pub few : n + left ≤ 65536
  pub rest : sides_from text k role end left₀ i₀ q₀ n₀ w₀ ≡ sides_from text k role end left i q n w

module _ (text : List ℕ) (k : Known) (role end left₀ i₀ q₀ n₀ : ℕ) (w₀ : List ℕ) where
  module _ (left i q n : ℕ) (w : List ℕ) (inv : Passing text k role end left₀ i₀ q₀ n₀ w₀ left i q n w) where
    pub pass_full : left ≤ 0 → passed None w ≡ sides_from text k role end left₀ i₀ q₀ n₀ w₀
    unfolding sides_from
    pass_full h = let z : left ≡ 0 = omega arith in sym (inv.rest ∙ rw z)

    module _ (l : 0 < left) (b : Bool) (e : b ≡ begins_at (tape_in k w) i end) where
      abbrev some : left ≡ suc (left - 1)
      some = omega arith

      pub pass_end : b ≡ false → passed (of_sides n i q) w ≡ sides_from text k role end left₀ i₀ q₀ n₀ w₀
      unfolding sides_from pick
      pass_end h = sym (inv.rest ∙ rw (some, ← e, h))

      module _ (h : b ≡ true) (r : Answer) (u : List ℕ) (f : out r u ≡ sides_at text k i q w) where
        pub pass_ill : r ≡ None → passed None u ≡ sides_from text k role end left₀ i₀ q₀ n₀ w₀
        unfolding sides_from after_sides pick
        pass_ill g = sym (inv.rest ∙ rw (some, ← e, h, ← f, g))

        module _ (a : Sorted) (g : r ≡ Some a) where
          pub pass_past : k.tape ≤ a.next → passed None u ≡ sides_from text k role end left₀ i₀ q₀ n₀ w₀
          unfolding sides_from after_sides pick
          pass_past c = sym (inv.rest ∙ rw (some, ← e, h, ← f, g, le-ltb a.next k.tape c))

          module _ (c : a.next < k.tape) (mark : ℕ) (d : mark ≡ role_at (tape_in k u) a.next) (t : length u ≡ length w) where
            pub pass_kept : (more : ℕ) → more ≡ left - 1 → mark ≡ role → Passing text k role end left₀ i₀ q₀ n₀ w₀ more (a.next + 1) a.free (n + 1) u
            unfolding sides_from after_sides pick
            pass_kept more x m = record {
              size = t ∙ inv.size;
              few = omega (arith, inv.few);
              rest =
                  inv.rest ∙ ap (λ (y : ℕ). sides_from text k role end y i q n w) some
                  ∙ rw (x, ← e, h, ← f, g, lt-ltb a.next k.tape c, ← d, eq-eqb mark role m);
            }

            pub pass_dropped : (more : ℕ) → more ≡ left - 1 → (mark ≡ role → ⊥) → Passing text k role end left₀ i₀ q₀ n₀ w₀ more (a.next + 1) q n u
            unfolding sides_from after_sides pick
            pass_dropped more x m = record {
              size = t ∙ inv.size;
              few = omega (arith, inv.few);
              rest =
                  inv.rest ∙ ap (λ (y : ℕ). sides_from text k role end y i q n w) some
                  ∙ rw (x, ← e, h, ← f, g, lt-ltb a.next k.tape c, ← d, ne_eqb mark role m);
            }

-- ---- the equations of a module: what is wanted is what is wanted from here

pub record Onward (text : List ℕ) (k : Known) (m : Module) (i₀ q₀ : ℕ) (w₀ : List ℕ) (left position i q : ℕ) (w : List ℕ) : Type 0 where
  pub size : length w ≡ length w₀
  pub few : position + left ≤ 65536
  pub rest : equations_from text k m k.tape 0 i₀ q₀ w₀ ≡ equations_from text k m left position i q w

module _ (text : List ℕ) (k : Known) (m : Module) (i₀ q₀ : ℕ) (w₀ : List ℕ) where
  module _ (left position i q : ℕ) (w : List ℕ) (inv : Onward text k m i₀ q₀ w₀ left position i q w) where
    pub onward_none : left ≤ 0 → told (of_equations position q) w ≡ equations_from text k m k.tape 0 i₀ q₀ w₀
    unfolding equations_from
    onward_none h = let z : left ≡ 0 = omega arith in sym (inv.rest ∙ rw z)

    pub onward_end : 0 < left → m.end ≤ i → told (of_equations position q) w ≡ equations_from text k m k.tape 0 i₀ q₀ w₀
    unfolding equations_from pick
    onward_end h g = let z : left ≡ suc (left - 1) = omega arith in sym (inv.rest ∙ rw (z, le-ltb i m.end g))

    module _ (h : 0 < left) (g : i < m.end) (r : Passed) (u : List ℕ) (e : passed r u ≡ turn_at text k m position i q w) where
      pub onward_stop : (tag : ℕ) → r ≡ None → tag ≡ word_at (tape_in k w) i → told (Err tag) u ≡ equations_from text k m k.tape 0 i₀ q₀ w₀
      unfolding equations_from after_turn pick
      onward_stop tag f t = let z : left ≡ suc (left - 1) = omega arith in sym (inv.rest ∙ rw (z, lt-ltb i m.end g, ← e, f, ← t))

      pub onward_again : (a : Counted) (more : ℕ) → more ≡ left - 1 → length u ≡ length w → r ≡ Some a → Onward text k m i₀ q₀ w₀ more (position + 1) a.next a.free u
      unfolding equations_from after_turn pick
      onward_again a more x s f =
          let z : left ≡ suc (left - 1) = omega arith in
          record {
            size = s ∙ inv.size;
            few = omega (arith, inv.few);
            rest = inv.rest ∙ ap (λ (c : ℕ). equations_from text k m c position i q w) z ∙ rw (x, lt-ltb i m.end g, ← e, f);
          }

-- what the answers of the typer of equations hand to `search`
pub ruleset passing = (pass_full, pass_end, rules)

pub ruleset onward = (onward_none, onward_end, rules)
