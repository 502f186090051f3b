-- The ways through the code, one law each: p, r, x, b and v are callees' answers.
use mathlib.Core.Path.{◌≡◌, refl, sym, ap, ◌∙◌}
use mathlib.Core.Bool.{Bool, true, false}
use mathlib.Core.List.{List}
use Prim.Native.Nat.{ℕ, zero, suc, ◌+◌, ◌-◌, ◌<◌, ◌≤◌}
use native.Mathlib.Omega.{arith}
use Rattle.std.specs.Prelude.{Result, Ok, Err}
use borrow.Author.Rules.{rules}
use lib.ListN.{length, get_or, take}
use Rattle.meaning.specs.Lists.{pick, before}
use Rattle.meaning.specs.Names.{Name, same, member}
use Rattle.meaning.specs.Checks.{◌>>◌}
use Rattle.meaning.specs.Evaluate.{missing, too_late, names_right}
use Rattle.meaning.specs.Numbers.{named_absent, named_late}
use Rattle.text_names.specs.Word.{name_of}
use Rattle.form_rows.specs.Entries.{role_at, word_at}
use Rattle.form.specs.declared.Refusal.{Refusal}
use Rattle.form.specs.Verdicts.{Verdict, refusal, lone_of, told}
use Rattle.modules.specs.Modules.{names_module, names_of, declared, picked, named_in, Heads}
use Rattle.modules.specs.Members.{member_found, member_absent, member_early, member_late}
use Rattle.modules.proofs.Cases.{picked_none, picked_other, picked_here}
use Rattle.module_names.specs.Right.{name_right, names_step}

-- ---- step 1 for one name

length_names : (text tape places : List ℕ) (k c : ℕ) → length (names_of text tape places k c) ≡ c
unfolding names_of
length_names text tape places k zero = refl
length_names text tape places k (suc c) = ap suc (length_names text tape places (suc k) c)

module _ (text tape : List ℕ) (h : Heads) (k w p count : ℕ) (c : count ≡ h.count) (e : p ≡ before (same (name_of text w)) (declared text tape h)) where
  number : length (declared text tape h) ≡ count
  unfolding declared
  number = length_names text tape h.places 0 h.count ∙ sym c

  pub right_absent : count ≤ p → told text (Err (refusal named_absent (record { name = w; actual = 0 }))) ≡ name_right (declared text tape h) k (name_of text w)
  unfolding name_right names_right missing told pick
  right_absent l = rw (lone_of text w, member_absent (name_of text w) (declared text tape h) (omega (arith, number)))

  module _ (l : p < count) where
    there : member (name_of text w) (declared text tape h) ≡ true
    there = member_found (name_of text w) (declared text tape h) (omega (arith, number))

    pub right_late : k ≤ p → told text (Err (refusal named_late (record { name = w; actual = 0 }))) ≡ name_right (declared text tape h) k (name_of text w)
    unfolding name_right names_right missing too_late told pick
    right_late m = rw (lone_of text w, there, member_late (name_of text w) (declared text tape h) k (omega arith))

    pub right_fine : p < k → told text (Ok tt) ≡ name_right (declared text tape h) k (name_of text w)
    unfolding name_right names_right missing too_late told pick
    right_fine m = rw (there, member_early (name_of text w) (declared text tape h) k (omega arith) (omega (arith, number)))

-- ---- the names of module k, from place j on

module _ (text tape : List ℕ) (h : Heads) (k a end : ℕ) (e : a ≡ get_or h.places k 0) (f : end ≡ get_or h.places (k + 1) 0) where
  pub right_start : (ds es : List Name) → names_right ds es (named_in text tape h k) ≡ names_right ds es (picked names_module text tape a (end - a))
  unfolding named_in
  right_start ds es = rw (e, f)

module _ (text tape : List ℕ) (ds : List Name) (k j end : ℕ) where
  pub right_none : end ≤ j → names_right ds (take k ds) (picked names_module text tape j (end - j)) ≡ told text (Ok tt)
  unfolding names_right told
  right_none h = rw (picked_none names_module text tape j end h)

  module _ (h : j < end) (r : ℕ) (e : r ≡ role_at tape j) (b : Bool) (f : b ≡ names_module r) where
    pub right_other : b ≡ false
        → names_right ds (take k ds) (picked names_module text tape j (end - j)) ≡ names_right ds (take k ds) (picked names_module text tape (j + 1) (end - (j + 1)))
    right_other q = ap (names_right ds (take k ds)) (picked_other names_module text tape j end h r e b f q)

    module _ (q : b ≡ true) (x : ℕ) (g : x ≡ word_at tape j) (v : Verdict) (i : told text v ≡ name_right ds k (name_of text x)) where
      checked : names_right ds (take k ds) (picked names_module text tape j (end - j)) ≡ told text v >> names_right ds (take k ds) (picked names_module text tape (j + 1) (end - (j + 1)))
      unfolding name_right
      checked = rw (picked_here names_module text tape j end h r e b f q x g, names_step ds (take k ds) (name_of text x), ← i)

      pub right_stop : (w : Refusal) → v ≡ Err w → names_right ds (take k ds) (picked names_module text tape j (end - j)) ≡ told text (Err w)
      unfolding told ◌>>◌
      right_stop w d = checked ∙ rw d

      pub right_on : v ≡ Ok tt
          → names_right ds (take k ds) (picked names_module text tape j (end - j)) ≡ names_right ds (take k ds) (picked names_module text tape (j + 1) (end - (j + 1)))
      unfolding told ◌>>◌
      right_on d = checked ∙ rw d

pub ruleset numbers = (right_absent, right_late, right_fine, rules)

pub ruleset scans = (right_start, right_none, right_other, right_stop, right_on, rules)
