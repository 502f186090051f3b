-- One law for each way through the typer of terms, in the code's terms.
use mathlib.Core.Path.{◌≡◌, refl, sym, ap, ◌∙◌}
use mathlib.Core.Bool.{Bool, true, false, false≢true}
use mathlib.Core.List.{List}
use Prim.Native.Nat.{ℕ, zero, suc, ◌+◌, ◌-◌, ◌*◌, ◌^◌, ◌<◌, ◌≤◌}
use native.Mathlib.Numerals.{sub-one}
use native.Mathlib.Omega.{arith}
use borrow.Author.Rules.{rules}
use borrow.Author.Tests.{eq-eqb, ne_eqb, lt-ltb, le-ltb, ltb-true, ltb-false}
use lib.Dec.{ltb}
use lib.ListN.{length, get_or, set, drop, length-take, length-drop, length-set, get_or-eq_default}
use denote.Ref.{at_last}
use Rattle.meaning.specs.Lists.{pick, before}
use Rattle.tape.specs.Tape.{alone_role}
use Rattle.form_rows.specs.Entries.{role_at}
use Rattle.form_rows.specs.Rows.{words_from, row_at, row_size}
use Rattle.own_finding.specs.declared.Known.{Known}
use Rattle.own_finding.specs.Arguments.{node_word, arguments_of, closers_of, ends_at}
use Rattle.std.specs.Prelude.{None}
use Rattle.own_terms.specs.Typing.{Out, out, tape_in, settled, no_sorts, alone_at, applied_at, further, args_by, term_by, term_at, args_at, Lent, Stays, Answer, of_sort}

-- ---- the reference to the memory

pub stays_here : (w : Lent) → Stays w w
stays_here w = record { same = refl; size = refl }

pub stays_on : (w x y : Lent) → Stays w x → Stays x y → Stays w y
stays_on w x y h k = record { same = k.same ∙ ap (λ (z : Lent). at_last z y.now) h.same; size = k.size ∙ h.size }

-- ---- one node

module _ (k : Known) (row n : ℕ) where
  pub settle_done : (q next free : ℕ) (w u : List ℕ) (s v : ℕ) → s ≡ get_or w (k.base + row * row_size + 14) 0 → v ≡ node_word k row n → u ≡ set w q v
      → out (of_sort s next free) u ≡ settled k q row n next free w
  unfolding settled row_at words_from
  settle_done q next free w u s v e f g =
      let place : k.base + row * row_size + 14 ≡ suc (suc (suc (suc (suc (suc (suc (suc (k.base + row * row_size + 6)))))))) = omega arith in
      rw (← f, g, e, place)

-- ---- where the arguments end: what closes them is on the tape

pub end_fits : (k : Known) (w : List ℕ) (left i : ℕ) (b : Bool) → b ≡ ends_at (tape_in k w) 1 left i → b ≡ true → length w < 2 ^ 64 → i + 1 < 2 ^ 64
unfolding ends_at pick
end_fits k w left i b e t g = go (ltb i (length (tape_in k w))) refl
  where
    go : (x : Bool) → ltb i (length (tape_in k w)) ≡ x → i + 1 < 2 ^ 64
    go true d = let l = ltb-true i (length (tape_in k w)) d in omega (arith, length-take (k.tape - 0) (drop 0 w), length-drop 0 w)
    go false d =
        let z = get_or-eq_default (tape_in k w) 0 (ltb-false i (length (tape_in k w)) d) in
        absurd (false≢true (rw z at (sym e ∙ t)))

-- ---- the arguments; b tells whether they end before i

module _ (text : List ℕ) (k : Known) (d head place c i q n : ℕ) (sorts w : List ℕ) where
  pub args_done : (left : ℕ) (b : Bool) (o : Out) → b ≡ ends_at (tape_in k w) c left i → b ≡ true → o ≡ applied_at text k head place n sorts (i + c) q w
      → o ≡ args_at text k d head place c left i q n sorts w
  unfolding args_by pick
  args_done zero b o e z t = rw (← e, z) t
  args_done (suc left) b o e z t = rw (← e, z) t

  module _ (left : ℕ) (b : Bool) (e : b ≡ ends_at (tape_in k w) c left i) (z : b ≡ false) where
    pub args_many : left ≡ 0 → out None w ≡ args_at text k d head place c left i q n sorts w
    unfolding args_by pick
    args_many y = let f : ends_at (tape_in k w) c 0 i ≡ false = rw y at (sym e ∙ z) in rw (y, f)

    module _ (r : Answer) (u : List ℕ) (f : out r u ≡ term_at text k d i q w) (y : left ≡ 0 → ⊥) where
      abbrev onward : left ≡ suc (left - 1)
      onward = omega arith

      pub args_ill : r ≡ None → out None u ≡ args_at text k d head place c left i q n sorts w
      unfolding args_by further pick
      args_ill g = let h : ends_at (tape_in k w) c (suc (left - 1)) i ≡ false = rw onward at (sym e ∙ z) in rw (onward, h, ← f, g)

      args_more : (s next free : ℕ) (more : List ℕ) → r ≡ of_sort s next free → more ≡ set sorts n s
          → args_at text k d head place c left i q n sorts w ≡ args_at text k d head place c (left - 1) next free (n + 1) more u
      unfolding args_by further pick
      args_more s next free more g m =
          let h : ends_at (tape_in k w) c (suc (left - 1)) i ≡ false = rw onward at (sym e ∙ z) in
          ap (λ (x : ℕ). args_at text k d head place c x i q n sorts w) onward ∙ rw (h, ← f, g, m)

-- what is wanted is what is wanted from here
pub record Arguing (text : List ℕ) (k : Known) (d head place c left₀ i₀ q₀ n₀ : ℕ) (sorts₀ : List ℕ) (w₀ : Lent) (left i q n : ℕ) (sorts : List ℕ) (w : Lent) : Type 0 where
  pub stays : Stays w₀ w
  pub few : n + left ≤ 9
  pub nine : length sorts ≡ 9
  pub rest : args_at text k d head place c left₀ i₀ q₀ n₀ sorts₀ w₀.now ≡ args_at text k d head place c left i q n sorts w.now

module _ (text : List ℕ) (k : Known) (d head place c left₀ i₀ q₀ n₀ : ℕ) (sorts₀ : List ℕ) (w₀ : Lent) where
  module _ (left i q n : ℕ) (sorts : List ℕ) (w : Lent) (inv : Arguing text k d head place c left₀ i₀ q₀ n₀ sorts₀ w₀ left i q n sorts w) where
    pub args_end : (o : Out) → o ≡ args_at text k d head place c left i q n sorts w.now → o ≡ args_at text k d head place c left₀ i₀ q₀ n₀ sorts₀ w₀.now
    args_end o e = e ∙ sym inv.rest

    pub args_again : (b : Bool) (r : Answer) (u : Lent) (s next free : ℕ) (more : List ℕ) → b ≡ ends_at (tape_in k w.now) c left i → b ≡ false → (left ≡ 0 → ⊥)
        → out r u.now ≡ term_at text k d i q w.now → r ≡ of_sort s next free → Stays w u → more ≡ set sorts n s
        → Arguing text k d head place c left₀ i₀ q₀ n₀ sorts₀ w₀ (left - 1) next free (n + 1) more u
    args_again b r u s next free more e z y f g l m = record {
      stays = stays_on w₀ w u inv.stays l;
      few = omega (arith, inv.few);
      nine = rw (m, length-set sorts n s) inv.nine;
      rest = inv.rest ∙ args_more text k d head place c i q n sorts w.now left b e z r u.now f y s next free more g m;
    }

-- ---- the term

module _ (text : List ℕ) (k : Known) (d i q : ℕ) (w : List ℕ) where
  pub term_deep : d ≡ 0 → out None w ≡ term_at text k d i q w
  unfolding term_at
  term_deep z = rw z

  -- the arguments stand one less deep
  term_any : (d ≡ 0 → ⊥) → term_at text k d i q w ≡ term_by text k (λ c left j p v. args_at text k (d - 1) j p c left (j + 1) (p + 1) 0 no_sorts v) i q w
  unfolding term_at
  term_any z = go d z
    where
      go : (d : ℕ) → (d ≡ 0 → ⊥) → term_at text k d i q w ≡ term_by text k (λ c left j p v. args_at text k (d - 1) j p c left (j + 1) (p + 1) 0 no_sorts v) i q w
      go zero z = absurd (z refl)
      go (suc d) z = rw sub-one

  module _ (z : d ≡ 0 → ⊥) where
    pub term_past : k.tape ≤ i → out None w ≡ term_at text k d i q w
    unfolding term_by pick
    term_past h = rw (term_any z, le-ltb i k.tape h)

    module _ (h : i < k.tape) where
      pub term_full : length w ≤ q → out None w ≡ term_at text k d i q w
      unfolding term_by pick
      term_full g = rw (term_any z, lt-ltb i k.tape h, le-ltb q (length w) g)

      module _ (g : q < length w) (role : ℕ) (e : role ≡ role_at (tape_in k w) i) where
        pub term_alone : (o : Out) → role ≡ alone_role → o ≡ alone_at text k i q w → o ≡ term_at text k d i q w
        unfolding term_by pick
        term_alone o y t = rw (term_any z, lt-ltb i k.tape h, lt-ltb q (length w) g, ← e, eq-eqb role alone_role y) t

        module _ (x : role ≡ alone_role → ⊥) (a : ℕ) (y : a ≡ arguments_of role) where
          pub term_args : (c : ℕ) (o : Out) → c ≡ closers_of role → (a ≡ 0 → ⊥) → o ≡ args_at text k (d - 1) i q c a (i + 1) (q + 1) 0 no_sorts w → o ≡ term_at text k d i q w
          unfolding term_by pick
          term_args c o f p t = rw (term_any z, lt-ltb i k.tape h, lt-ltb q (length w) g, ← e, ne_eqb role alone_role x, ← y, ← f, ne_eqb a 0 p) t

          pub term_other : a ≡ 0 → out None w ≡ term_at text k d i q w
          unfolding term_by pick
          term_other p = rw (term_any z, lt-ltb i k.tape h, lt-ltb q (length w) g, ← e, ne_eqb role alone_role x, ← y, eq-eqb a 0 p)

-- what the answers of this crate hand to `search`
pub ruleset cases = (settle_done, rules)
