-- The ways through the code, one law each: w and v are words of names, b and c callees' answers; `new` is the new tape, `other` its texts.
use mathlib.Core.Path.{◌≡◌, refl, sym, ap, ◌∙◌}
use Prim.Native.Nat.{ℕ, zero, suc, ◌+◌, ◌-◌, ◌<◌, ◌≤◌}
use native.Mathlib.Omega.{arith}
use native.Mathlib.Numerals.{add-one}
use mathlib.Core.Bool.{Bool, true, false}
use mathlib.Core.List.{List, []}
use borrow.Author.Rules.{rules}
use borrow.Author.Tests.{eq-eqb, ne_eqb, lt-ltb, le-ltb, le-leb, lt-leb}
use lib.Dec.{eqb}
use Rattle.meaning.specs.Lists.{pick, agree, before, or_else, first_some}
use Rattle.meaning.specs.Names.{Name, same}
use Rattle.text_names.specs.Word.{name_of, no_name}
use Rattle.form_rows.specs.Entries.{role_at, word_at}
use Rattle.ask_decision.specs.Decide.{objection}
use Rattle.ask_alike.specs.Alike.{same_entry, entries_from, section_role, run_size}
use Rattle.modules.specs.Modules.{names_module, declared, picked, named_in, Heads}
use Rattle.modules.proofs.Cases.{picked_none, picked_other, picked_here}
use Rattle.std.specs.Prelude.{Option, Some, None}
use Rattle.ask_objections.specs.declared.Why.{Why}
use Rattle.ask_objections.specs.Objections.{why_of, told, place, module_entries, otherwise_at, itself_at, body_start, section_from, section_start, section_entries, section_at, shown_at, standing, used_alike, name_objection, names_at, objection_at}

-- ---- places of a module

module _ (h : Heads) (k i end : ℕ) (e : i ≡ place h k) (f : end ≡ place h (k + 1)) where
  pub body_behind : i < end → i + 1 ≡ body_start h k
  unfolding body_start pick
  body_behind l = rw (← e, ← f, lt-ltb i end l)

  pub body_none : end ≤ i → i ≡ body_start h k
  unfolding body_start pick
  body_none l = rw (← e, ← f, le-ltb i end l)

-- no more are of a section than there are
size_within : (s : ℕ) (tape : List ℕ) (i n : ℕ) → run_size s tape i n ≤ n
unfolding run_size pick
size_within s tape i zero = omega arith
size_within s tape i (suc n) = go (section_role s (role_at tape i)) (size_within s tape (suc i) n)
  where
    go : (b : Bool) → run_size s tape (suc i) n ≤ n → pick b (suc (run_size s tape (suc i) n)) 0 ≤ suc n
    go true l = omega arith
    go false l = omega arith

pub few_counted : (s : ℕ) (tape : List ℕ) (i end n : ℕ) → n ≡ run_size s tape i (end - i) → n ≤ end - i
few_counted s tape i end n e = omega (arith, size_within s tape i (end - i))

-- section s begins at i, the first at `from`
pub record Sections (tape : List ℕ) (from end section i s : ℕ) : Type 0 where
  pub within : s ≤ section
  -- behind the end it is where the first is
  pub low : i - end ≤ from - end
  pub here : i ≡ section_from tape from end s

module _ (tape : List ℕ) (from end section : ℕ) where
  pub sections_first : Sections tape from end section from 0
  unfolding section_from
  sections_first = record { within = omega arith; low = omega arith; here = refl }

  module _ (i s : ℕ) (x : Sections tape from end section i s) where
    pub sections_on : s < section → (n : ℕ) → n ≡ run_size s tape i (end - i) → Sections tape from end section (i + n) (s + 1)
    unfolding section_from
    sections_on l n e = record {
      within = omega arith;
      low = omega (arith, x.low, few_counted s tape i end n e);
      here = rw (add-one s, ← x.here, e);
    }

    pub sections_end : section ≤ s → (h : Heads) (k : ℕ) → from ≡ body_start h k → end ≡ place h (k + 1) → i ≡ section_start tape h k section
    unfolding section_start
    sections_end l h k e f =
        let z : s ≡ section = omega (arith, x.within) in
        rw (← e, ← f) (x.here ∙ ap (section_from tape from end) z)

-- ---- standing

module _ (count k p c : ℕ) (e : c ≡ count) where
  pub stands_nowhere : c ≤ p → 0 ≡ standing count k p
  unfolding standing pick
  stands_nowhere l = rw (← e, le-leb c p l)

  module _ (l : p < c) where
    pub stands_late : k ≤ p → 1 ≡ standing count k p
    unfolding standing pick
    stands_late m = rw (← e, lt-leb c p l, le-leb k p m)

    pub stands_before : p < k → 2 ≡ standing count k p
    unfolding standing pick
    stands_before m = rw (← e, lt-leb c p l, lt-leb k p m)

-- ---- a module and its counterpart

module _ (text tape : List ℕ) (h : Heads) (other new : List ℕ) (h' : Heads) (k k' : ℕ) where
  -- reasons that tell the module alone
  changed_so : (reason w : ℕ) (r : Why) → r ≡ record { reason = reason; by = w; name = 0; new_name = false }
      → told text other (Some r) ≡ objection false (record { reason = reason; by = name_of text w; name = [] })
  unfolding told why_of objection pick
  changed_so reason w r d = rw (d, no_name text)

  module _ (w : ℕ) (e : w ≡ word_at tape (place h k)) where
    module _ (v : ℕ) (f : v ≡ word_at new (place h' k')) (b : Bool) (g : b ≡ same (name_of text w) (name_of other v)) where
      pub otherwise_none : b ≡ true → told text other None ≡ otherwise_at text tape h other new h' k k'
      unfolding told otherwise_at objection pick
      otherwise_none q = rw (← e, ← f, ← g, q)

      pub otherwise_told : b ≡ false
          → told text other (Some (record { reason = 3; by = w; name = v; new_name = true })) ≡ otherwise_at text tape h other new h' k k'
      unfolding told why_of otherwise_at objection pick
      otherwise_told q = rw (← e, ← f, ← g, q)

    module _ (asked : Name) (b : Bool) (f : b ≡ same (name_of text w) asked) where
      module _ (q : b ≡ true) (c : Bool) (g : c ≡ agree same_entry (module_entries text tape h k) (module_entries other new h' k')) where
        pub itself_none : c ≡ true → told text other None ≡ itself_at text tape h other new h' asked k k'
        unfolding told itself_at objection pick
        itself_none d = rw (← e, ← f, q, ← g, d)

        pub itself_told : c ≡ false → (r : Why) → r ≡ record { reason = 4; by = w; name = 0; new_name = false }
            → told text other (Some r) ≡ itself_at text tape h other new h' asked k k'
        unfolding itself_at pick
        itself_told d r u = rw (← e, ← f, q, ← g, d) (changed_so 4 w r u)

      pub itself_other : b ≡ false → told text other None ≡ itself_at text tape h other new h' asked k k'
      unfolding told itself_at objection pick
      itself_other q = rw (← e, ← f, q)

    module _ (b : Bool) (f : b ≡ agree same_entry (section_entries text tape h k 0) (section_entries other new h' k' 0)) where
      pub parameters_told : b ≡ false → (r : Why) → r ≡ record { reason = 5; by = w; name = 0; new_name = false }
          → told text other (Some r) ≡ shown_at text tape h other new h' k k'
      unfolding shown_at section_at objection or_else pick
      parameters_told q r u = rw (← e, ← f, q) (changed_so 5 w r u)

      module _ (q : b ≡ true) (c : Bool) (g : c ≡ agree same_entry (section_entries text tape h k 1) (section_entries other new h' k' 1)) where
        pub exports_told : c ≡ false → (r : Why) → r ≡ record { reason = 6; by = w; name = 0; new_name = false }
            → told text other (Some r) ≡ shown_at text tape h other new h' k k'
        unfolding shown_at section_at objection or_else pick
        exports_told d r u = rw (← e, ← f, q, ← g, d) (changed_so 6 w r u)

        module _ (d : c ≡ true) (i : Bool) (j : i ≡ agree same_entry (section_entries text tape h k 2) (section_entries other new h' k' 2)) where
          pub imports_told : i ≡ false → (r : Why) → r ≡ record { reason = 7; by = w; name = 0; new_name = false }
              → told text other (Some r) ≡ shown_at text tape h other new h' k k'
          unfolding shown_at section_at objection or_else pick
          imports_told l r u = rw (← e, ← f, q, ← g, d, ← j, l) (changed_so 7 w r u)

          pub shown_none : i ≡ true → told text other None ≡ shown_at text tape h other new h' k k'
          unfolding told shown_at section_at objection or_else pick
          shown_none l = rw (← e, ← f, q, ← g, d, ← j, l)

  module _ (i end j end' : ℕ) where
    pub modules_told : (b : Bool) → i ≡ place h k → end ≡ place h (k + 1) → j ≡ place h' k' → end' ≡ place h' (k' + 1)
        → b ≡ agree same_entry (entries_from text tape i (end - i)) (entries_from other new j (end' - j))
        → b ≡ agree same_entry (module_entries text tape h k) (module_entries other new h' k')
    unfolding module_entries
    modules_told b e f e' f' q = rw (← e, ← f, ← e', ← f') q

    pub sections_told : (s : ℕ) (b : Bool) → i ≡ section_start tape h k s → end ≡ place h (k + 1) → j ≡ section_start new h' k' s → end' ≡ place h' (k' + 1)
        → b ≡ agree same_entry (entries_from text tape i (run_size s tape i (end - i))) (entries_from other new j (run_size s new j (end' - j)))
        → b ≡ agree same_entry (section_entries text tape h k s) (section_entries other new h' k' s)
    unfolding section_entries
    sections_told s b e f e' f' q = rw (← e, ← f, ← e', ← f') q

  -- ---- the names that it uses

  pub used_told : (w p q a b : ℕ) → p ≡ before (same (name_of text w)) (declared text tape h) → q ≡ before (same (name_of text w)) (declared other new h')
      → a ≡ standing h.count k p → b ≡ standing h'.count k' q → eqb a b ≡ used_alike text tape h other new h' k k' (name_of text w)
  unfolding used_alike
  used_told w p q a b e f g i = rw (g, i, e, f)

  -- from entry j on
  abbrev pub Rest : ℕ → ℕ → Type 0
  Rest j end =
      names_at text tape h other new h' k k'
      ≡ first_some (name_objection text tape h other new h' k k') (picked names_module text tape j (end - j))

  pub names_start : (j end : ℕ) → j ≡ place h k → end ≡ place h (k + 1) → Rest j end
  unfolding names_at named_in
  names_start j end e f = rw (e, f)

  module _ (j end : ℕ) (x : Rest j end) where
    pub names_none : end ≤ j → told text other None ≡ names_at text tape h other new h' k k'
    unfolding told first_some
    names_none l = sym (x ∙ rw (picked_none names_module text tape j end l))

    module _ (l : j < end) (r : ℕ) (e : r ≡ role_at tape j) (b : Bool) (f : b ≡ names_module r) where
      pub names_other : b ≡ false → Rest (j + 1) end
      names_other q =
          x ∙ ap (first_some (name_objection text tape h other new h' k k')) (picked_other names_module text tape j end l r e b f q)

      module _ (q : b ≡ true) (v : ℕ) (g : v ≡ word_at tape j) (c : Bool) (u : c ≡ used_alike text tape h other new h' k k' (name_of text v)) where
        pub names_on : c ≡ true → Rest (j + 1) end
        unfolding first_some name_objection objection or_else pick
        names_on d = x ∙ rw (picked_here names_module text tape j end l r e b f q v g, ← u, d)

        pub names_told : c ≡ false → (w : ℕ) → w ≡ word_at tape (place h k)
            → told text other (Some (record { reason = 8; by = w; name = v; new_name = false })) ≡ names_at text tape h other new h' k k'
        unfolding told why_of first_some name_objection objection or_else pick
        names_told d w i = sym (x ∙ rw (picked_here names_module text tape j end l r e b f q v g, ← u, d, i))

  -- ---- by the pass

  module _ (asked : Name) (pass : ℕ) (r : Option Why) where
    pub pass_first : pass ≡ 0 → told text other r ≡ otherwise_at text tape h other new h' k k'
        → told text other r ≡ objection_at text tape h other new h' asked pass k k'
    unfolding objection_at pick
    pass_first e q = rw (eq-eqb pass 0 e) q

    module _ (a : pass ≡ 0 → ⊥) where
      pub pass_second : pass ≡ 1 → told text other r ≡ itself_at text tape h other new h' asked k k'
          → told text other r ≡ objection_at text tape h other new h' asked pass k k'
      unfolding objection_at pick
      pass_second e q = rw (ne_eqb pass 0 a, eq-eqb pass 1 e) q

      module _ (b : pass ≡ 1 → ⊥) where
        pub pass_third : pass ≡ 2 → told text other r ≡ shown_at text tape h other new h' k k'
            → told text other r ≡ objection_at text tape h other new h' asked pass k k'
        unfolding objection_at pick
        pass_third e q = rw (ne_eqb pass 0 a, ne_eqb pass 1 b, eq-eqb pass 2 e) q

        pub pass_last : (pass ≡ 2 → ⊥) → told text other r ≡ names_at text tape h other new h' k k'
            → told text other r ≡ objection_at text tape h other new h' asked pass k k'
        unfolding objection_at pick
        pass_last c q = rw (ne_eqb pass 0 a, ne_eqb pass 1 b, ne_eqb pass 2 c) q

pub ruleset places = (body_behind, body_none, sections_first, sections_on, sections_end, stands_nowhere, stands_late, stands_before, rules)

pub ruleset cases = (otherwise_none, otherwise_told, itself_none, itself_told, itself_other, modules_told, sections_told, pass_first, pass_second, pass_third, pass_last, rules)

pub ruleset shows = (parameters_told, exports_told, imports_told, shown_none, rules)

pub ruleset names = (used_told, names_start, names_none, names_other, names_on, names_told, rules)
