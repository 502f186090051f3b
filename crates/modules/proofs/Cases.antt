-- The ways through the code, one law each: r, x and b are callees' answers.
use mathlib.Core.Path.{◌≡◌, refl, sym, ap, ◌∙◌}
use mathlib.Core.Bool.{Bool, true, false}
use mathlib.Core.List.{List, [], ◌∷◌}
use Prim.Native.Nat.{ℕ, suc, ◌+◌, ◌-◌, ◌<◌, ◌≤◌}
use native.Mathlib.Omega.{arith}
use native.Mathlib.Numerals.{add-one}
use borrow.Author.Rules.{rules}
use borrow.Author.Tests.{lt-ltb, le-ltb}
use lib.Dec.{ltb}
use lib.ListN.{get_or, take, length-take, get_or-eq_default}
use lib.Seq.{get_or-take}
use Rattle.meaning.specs.Lists.{pick, before}
use Rattle.meaning.specs.Names.{Name, same}
use Rattle.text_names.specs.Word.{name_of}
use Rattle.form_rows.specs.Entries.{role_at, word_at, name_at}
use Rattle.module_set.specs.ModuleSet.{holds, nothing, added, either}
use Rattle.modules.specs.Modules.{names_module, names_of, declared, picked, named_in, with_named, named_set, turned, gathered, reached_set, Heads, heads_in}

-- ---- heads

module _ (h : List ℕ) (k : ℕ) where
  pub place_there : k < 65 → (r : ℕ) → r ≡ get_or h k 0 → r ≡ get_or (heads_in h).places k 0
  unfolding heads_in
  place_there l r e = e ∙ sym (get_or-take 65 h k 0 l)

  pub past_places : 65 ≤ k → 0 ≡ get_or (heads_in h).places k 0
  unfolding heads_in
  past_places l = sym (get_or-eq_default (take 65 h) 0 (rw (length-take 65 h) (omega arith)))

pub count_there : (h : List ℕ) (r : ℕ) → r ≡ get_or h 65 0 → r ≡ (heads_in h).count
unfolding heads_in
count_there h r e = e

pub module_name : (tape : List ℕ) (h : Heads) (k p r : ℕ) → p ≡ get_or h.places k 0 → r ≡ word_at tape p → r ≡ word_at tape (get_or h.places k 0)
module_name tape h k p r e f = f ∙ ap (word_at tape) e

-- ---- the number of the first module whose name passes

pub record Seeking (p : Name → Bool) (text tape : List ℕ) (h : Heads) (count k : ℕ) : Type 0 where
  pub all : count ≡ h.count
  pub within : k ≤ count
  pub rest : before p (declared text tape h) ≡ k + before p (names_of text tape h.places k (count - k))

pub seek_start : (p : Name → Bool) (text tape : List ℕ) (h : Heads) (count : ℕ) → count ≡ h.count → Seeking p text tape h count 0
unfolding declared
seek_start p text tape h count e =
    let z : h.count ≡ count - 0 = omega arith in record { all = e; within = omega arith; rest = rw (← z) (omega arith) }

module _ (p : Name → Bool) (text tape : List ℕ) (h : Heads) (count k : ℕ) (s : Seeking p text tape h count k) where
  pub seek_none : count ≤ k → k ≡ before p (declared text tape h)
  unfolding names_of before
  seek_none l = let z : count - k ≡ 0 = omega arith in sym (s.rest ∙ rw z (omega arith))

  pub seek_all : count ≤ k → count ≡ before p (declared text tape h)
  seek_all l = let e : count ≡ k = omega (arith, s.within) in e ∙ seek_none l

  module _ (l : k < count) (x : ℕ) (e : x ≡ word_at tape (get_or h.places k 0)) (b : Bool) (f : b ≡ p (name_of text x)) where
    now : count - k ≡ suc (count - (k + 1))
    now = omega arith

    tested : p (name_at text tape (get_or h.places k 0)) ≡ b
    tested = sym (f ∙ ap (λ (y : ℕ). p (name_of text y)) e)

    pub seek_here : b ≡ true → k ≡ before p (declared text tape h)
    unfolding names_of before pick
    seek_here q = sym (s.rest ∙ rw (now, tested ∙ q) (omega arith))

    pub seek_on : b ≡ false → Seeking p text tape h count (k + 1)
    unfolding names_of before pick
    seek_on q = record {
      all = s.all;
      within = omega arith;
      rest = s.rest ∙ rw (now, tested ∙ q, ← add-one k) (omega arith);
    }

-- ---- the names of module k, from place j on

pub picked_none : (p : ℕ → Bool) (text tape : List ℕ) (j end : ℕ) → end ≤ j → picked p text tape j (end - j) ≡ []
unfolding picked
picked_none p text tape j end h = let z : end - j ≡ 0 = omega arith in rw z

module _ (p : ℕ → Bool) (text tape : List ℕ) (j end : ℕ) (h : j < end) (r : ℕ) (e : r ≡ role_at tape j) (b : Bool) (f : b ≡ p r) where
  over : end - j ≡ suc (end - (j + 1))
  over = omega arith

  pub picked_other : b ≡ false → picked p text tape j (end - j) ≡ picked p text tape (j + 1) (end - (j + 1))
  unfolding picked pick
  picked_other q = rw (over, sym (ap p e) ∙ sym f ∙ q, add-one j)

  pub picked_here : b ≡ true → (x : ℕ) → x ≡ word_at tape j → picked p text tape j (end - j) ≡ name_of text x ∷ picked p text tape (j + 1) (end - (j + 1))
  unfolding picked pick
  picked_here q x g = rw (over, sym (ap p e) ∙ sym f ∙ q, add-one j, g)

module _ (text tape : List ℕ) (h : Heads) (k a end : ℕ) (e : a ≡ get_or h.places k 0) (f : end ≡ get_or h.places (k + 1) 0) where
  start : named_in text tape h k ≡ picked names_module text tape a (end - a)
  unfolding named_in
  start = rw (e, f)

  pub named_start : (s : ℕ) → holds s ≡ nothing → named_set text tape h k ≡ with_named (declared text tape h) k (holds s) (picked names_module text tape a (end - a))
  unfolding named_set
  named_start s z = rw (z, start)

module _ (text tape : List ℕ) (ds : List Name) (k j end : ℕ) where
  pub named_none : (s : ℕ) → end ≤ j → with_named ds k (holds s) (picked names_module text tape j (end - j)) ≡ holds s
  unfolding with_named
  named_none s h = rw (picked_none names_module text tape j end h)

  module _ (h : j < end) (r : ℕ) (e : r ≡ role_at tape j) (b : Bool) (f : b ≡ names_module r) where
    pub named_other : b ≡ false → (s : ℕ)
        → with_named ds k (holds s) (picked names_module text tape j (end - j)) ≡ with_named ds k (holds s) (picked names_module text tape (j + 1) (end - (j + 1)))
    named_other q s = ap (with_named ds k (holds s)) (picked_other names_module text tape j end h r e b f q)

    module _ (q : b ≡ true) (x : ℕ) (g : x ≡ word_at tape j) where
      here : picked names_module text tape j (end - j) ≡ name_of text x ∷ picked names_module text tape (j + 1) (end - (j + 1))
      here = picked_here names_module text tape j end h r e b f q x g

      pub named_on : (s t : ℕ) → holds t ≡ with_named ds k (holds s) (name_of text x ∷ [])
          → with_named ds k (holds s) (picked names_module text tape j (end - j)) ≡ with_named ds k (holds t) (picked names_module text tape (j + 1) (end - (j + 1)))
      unfolding with_named pick
      named_on s t d = rw (here, d) (go (ltb (before (same (name_of text x)) ds) k))
        where
          more : List Name
          more = picked names_module text tape (j + 1) (end - (j + 1))

          m : ℕ
          m = before (same (name_of text x)) ds

          go : (c : Bool) → pick c (with_named ds k (added m (holds s)) more) (with_named ds k (holds s) more) ≡ with_named ds k (pick c (added m (holds s)) (holds s)) more
          go true = refl
          go false = refl

module _ (text : List ℕ) (ds : List Name) (k s w p : ℕ) (e : p ≡ before (same (name_of text w)) ds) where
  pub with_early : p < k → (r : ℕ) → holds r ≡ added p (holds s) → holds r ≡ with_named ds k (holds s) (name_of text w ∷ [])
  unfolding with_named pick
  with_early h r g = rw (← e, lt-ltb p k h) g

  pub with_late : k ≤ p → holds s ≡ with_named ds k (holds s) (name_of text w ∷ [])
  unfolding with_named pick
  with_late h = rw (← e, le-ltb p k h)

-- ---- the modules reached

module _ (named : ℕ → ℕ → Bool) (k s : ℕ) (b : Bool) (e : b ≡ holds s k) where
  pub turned_in : b ≡ true → (m r : ℕ) → holds m ≡ named k → holds r ≡ either (holds s) (holds m) → holds r ≡ turned named (holds s) k
  unfolding turned pick
  turned_in q m r f g = rw (sym e ∙ q, ← f) g

  pub turned_out : b ≡ false → holds s ≡ turned named (holds s) k
  unfolding turned pick
  turned_out q = rw (sym e ∙ q)

pub record Gathering (named : ℕ → ℕ → Bool) (n s all k : ℕ) : Type 0 where
  pub within : k ≤ n
  pub so_far : holds all ≡ gathered named (holds s) k (n - k)

pub gather_none : (named : ℕ → ℕ → Bool) (n s : ℕ) → Gathering named n s s n
unfolding gathered
gather_none named n s = let z : n - n ≡ 0 = omega arith in record { within = omega arith; so_far = rw z }

module _ (named : ℕ → ℕ → Bool) (n s all k : ℕ) (h : Gathering named n s all k) where
  pub gather_on : 0 < k → (next : ℕ) → holds next ≡ turned named (holds all) (k - 1) → Gathering named n s next (k - 1)
  unfolding gathered
  gather_on l next e = record {
    within = omega (arith, h.within);
    so_far =
        let z : n - (k - 1) ≡ suc (n - k) = omega (arith, h.within) in
        let u : suc (k - 1) ≡ k = omega arith in
        rw (z, u, ← h.so_far) e;
  }

  pub gather_all : k ≤ 0 → holds all ≡ gathered named (holds s) 0 n
  gather_all l =
      let u : k ≡ 0 = omega arith in
      let z : n - k ≡ n = omega arith in
      h.so_far ∙ rw (z, u)

module _ (text tape : List ℕ) (h : Heads) (k : ℕ) where
  pub reached_all : (z s r count : ℕ) → count ≡ h.count → holds z ≡ nothing → holds s ≡ added k (holds z)
      → holds r ≡ gathered (named_set text tape h) (holds s) 0 count → holds r ≡ reached_set text tape h k
  unfolding reached_set
  reached_all z s r count c e f g =
      let reach = gathered (named_set text tape h) in
      g ∙ ap (reach (holds s) 0) c ∙ ap (λ (t : ℕ → Bool). reach t 0 h.count) (f ∙ ap (added k) e)

pub ruleset heads = (place_there, past_places, count_there, module_name, rules)

pub ruleset numbers = (seek_start, seek_none, seek_all, seek_here, seek_on, with_early, with_late, rules)

pub ruleset scans = (named_start, named_none, named_other, named_on, rules)

pub ruleset sets = (turned_in, turned_out, gather_none, gather_on, gather_all, reached_all, rules)
