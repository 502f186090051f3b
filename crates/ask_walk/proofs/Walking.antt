-- The walk over two sets, one law for each way through the code: k, b, r and v are callees' answers.
use mathlib.Core.Path.{◌≡◌, refl, sym, ap, ◌∙◌}
use mathlib.Core.Bool.{Bool, true, false}
use mathlib.Core.Option.{Option, none, some}
use Rattle.std.specs.Prelude as Rust
use Rattle.std.specs.Prelude.{Some, None}
use mathlib.Core.List.{List, [], ◌∷◌}
use Prim.Native.Nat.{ℕ, zero, suc, ◌+◌, ◌-◌, ◌<◌, ◌≤◌}
use native.Mathlib.Omega.{arith}
use native.Mathlib.Numerals.{add-one}
use borrow.Author.Rules.{rules}
use borrow.Author.Tests.{lt-ltb, le-ltb}
use lib.Dec.{ltb}
use lib.ListN.{get_or}
use Rattle.meaning.specs.Lists.{pick, or_else}
use Rattle.meaning.specs.Names.{Name}
use Rattle.module_set.specs.ModuleSet.{holds, nothing, added}
use Rattle.text_names.specs.Word.{name_of, no_name}
use Rattle.form_rows.specs.Entries.{word_at}
use Rattle.modules.specs.Modules.{Heads}
use Rattle.ask_decision.specs.Decide.{Why, why}
use Rattle.ask_decision.specs.Reasons.{reached_otherwise}
use Rattle.ask_objections.specs.declared.Why as Code
use Rattle.ask_objections.specs.Objections.{why_of, told, named, objection_at}
use Rattle.ask_walk.specs.Walk.{members, next_member, with_unless, with_all, pairs_at, changed_pairs, pass_by_pass, same_at, in_pairs_at, against_at, changed_at}

-- ---- the next member

pub record Seeking (set : ℕ → Bool) (i end k : ℕ) : Type 0 where
  pub so : next_member set i (end - i) ≡ next_member set k (end - k)

module _ (set : ℕ → Bool) (i end : ℕ) where
  pub seek_start : Seeking set i end i
  seek_start = record { so = refl }

  module _ (k : ℕ) (s : Seeking set i end k) where
    module _ (b : Bool) (e : b ≡ set k) (l : k < end) where
      step : end - k ≡ suc (end - (k + 1))
      step = omega arith

      pub seek_found : b ≡ true → k ≡ next_member set i (end - i)
      unfolding next_member pick
      seek_found f = sym (s.so ∙ ap (next_member set k) step ∙ rw (sym e ∙ f))

      pub seek_on : b ≡ false → Seeking set i end (k + 1)
      unfolding next_member pick
      seek_on f = record { so = s.so ∙ ap (next_member set k) step ∙ rw (sym e ∙ f, add-one k) }

    pub seek_none : end ≤ k → (r : ℕ) → r ≡ k → r ≡ next_member set i (end - i)
    unfolding next_member
    seek_none l r e = let z : end - k ≡ 0 = omega arith in e ∙ sym (s.so ∙ ap (next_member set k) z)

pub ruleset seeking = (seek_start, seek_found, seek_on, seek_none, rules)

-- what is left of a set where k is its next member
unfoldable pub rest : (ℕ → Bool) → ℕ → ℕ → List ℕ
rest set end k = pick (ltb k end) (k ∷ members set (k + 1) (end - (k + 1))) []

next_least : (set : ℕ → Bool) (c i : ℕ) → i ≤ next_member set i c
unfolding next_member pick
next_least set zero i = omega arith
next_least set (suc c) i = go (set i) (next_least set c (suc i))
  where
    go : (b : Bool) → suc i ≤ next_member set (suc i) c → i ≤ pick b i (next_member set (suc i) c)
    go true h = omega arith
    go false h = omega arith

-- less is left from a later member on
pub less_left : (set : ℕ → Bool) (end i k : ℕ) → i < end → k ≡ next_member set (i + 1) (end - (i + 1)) → end - k < end - i
less_left set end i k l e = omega (arith, l, e, next_least set (end - (i + 1)) (i + 1))

rest_next : (set : ℕ → Bool) (end c i : ℕ) → end - i ≡ c → members set i c ≡ rest set end (next_member set i c)
unfolding rest members next_member pick
rest_next set end zero i e = rw (le-ltb i end (omega (arith, e)))
rest_next set end (suc c) i e = go (set i) (rest_next set end c (suc i) (omega (arith, e)))
  where
    go : (b : Bool) → members set (suc i) c ≡ rest set end (next_member set (suc i) c)
        → pick b (i ∷ members set (suc i) c) (members set (suc i) c) ≡ rest set end (pick b i (next_member set (suc i) c))
    go true h =
        let z : end - suc i ≡ c = omega (arith, e) in
        rw (lt-ltb i end (omega (arith, e)), add-one i, z)
    go false h = h

pub rest_from : (set : ℕ → Bool) (end i k : ℕ) → k ≡ next_member set i (end - i) → members set i (end - i) ≡ rest set end k
rest_from set end i k e = rest_next set end (end - i) i refl ∙ ap (rest set end) (sym e)

pub rest_first : (set : ℕ → Bool) (end k : ℕ) → k ≡ next_member set 0 (end - 0) → members set 0 end ≡ rest set end k
rest_first set end k e =
    let z : end ≡ end - 0 = omega arith in
    ap (members set 0) z ∙ rest_from set end 0 k e

rest_here : (set : ℕ → Bool) (end k : ℕ) → k < end → rest set end k ≡ k ∷ members set (k + 1) (end - (k + 1))
unfolding rest pick
rest_here set end k l = rw (lt-ltb k end l)

rest_none : (set : ℕ → Bool) (end k : ℕ) → end ≤ k → rest set end k ≡ []
unfolding rest pick
rest_none set end k l = rw (le-ltb k end l)

-- ---- objections, pair by pair

module _ (text tape : List ℕ) (h : Heads) (other new : List ℕ) (h' : Heads) (asked : Name) (set set' : ℕ → Bool) (pass : ℕ) where
  abbrev walked : List ℕ → List ℕ → Option Why
  walked is js = pairs_at (objection_at text tape h other new h' asked pass) (named text tape h) (named other new h') is js

  abbrev whole : Option Why
  whole = in_pairs_at text tape h other new h' asked set set' pass

  pub record Pairing (count new_count i j : ℕ) : Type 0 where
    pub so : whole ≡ walked (rest set count i) (rest set' new_count j)

  module _ (count new_count : ℕ) where
    pub pair_start : (i j : ℕ) → count ≡ h.count → new_count ≡ h'.count → i ≡ next_member set 0 (count - 0) → j ≡ next_member set' 0 (new_count - 0)
        → Pairing count new_count i j
    unfolding in_pairs_at
    pair_start i j a b e f = record {
      so = λ t. walked ((ap (members set 0) (sym a) ∙ rest_first set count i e) t) ((ap (members set' 0) (sym b) ∙ rest_first set' new_count j f) t);
    }

    module _ (i j : ℕ) (s : Pairing count new_count i j) where
      pub pair_left : (by : ℕ) (r : Code.Why) → i < count → new_count ≤ j → by ≡ word_at tape (get_or h.places i 0)
          → r ≡ record { reason = 3; by = by; name = 0; new_name = false } → told text other (Some r) ≡ whole
      unfolding told why_of pairs_at pick
      pair_left by r l m e q =
          ap (λ (x : Code.Why). told text other (Some x)) q
          ∙ ap (λ (x : Name). some (why reached_otherwise (name_of text by) x)) (no_name text)
          ∙ ap (λ (w : ℕ). some (why reached_otherwise (name_of text w) [])) e
          ∙ sym (s.so ∙ (λ t. walked (rest_here set count i l t) (rest_none set' new_count j m t)))

      pub pair_right : (name : ℕ) (r : Code.Why) → count ≤ i → j < new_count → name ≡ word_at new (get_or h'.places j 0)
          → r ≡ record { reason = 3; by = 0; name = name; new_name = true } → told text other (Some r) ≡ whole
      unfolding told why_of pairs_at pick
      pair_right name r l m e q =
          ap (λ (x : Code.Why). told text other (Some x)) q
          ∙ ap (λ (x : Name). some (why reached_otherwise x (name_of other name))) (no_name text)
          ∙ ap (λ (w : ℕ). some (why reached_otherwise [] (name_of other w))) e
          ∙ sym (s.so ∙ (λ t. walked (rest_none set count i l t) (rest_here set' new_count j m t)))

      pub pair_done : count ≤ i → new_count ≤ j → told text other None ≡ whole
      unfolding told pairs_at
      pair_done l m = sym (s.so ∙ (λ t. walked (rest_none set count i l t) (rest_none set' new_count j m t)))

      module _ (l : i < count) (m : j < new_count) (r : Rust.Option Code.Why) (e : told text other r ≡ objection_at text tape h other new h' asked pass i j) where
        pub pair_against : (w : Code.Why) → r ≡ Some w → told text other (Some w) ≡ whole
        unfolding told pairs_at or_else
        pair_against w q =
            sym (s.so ∙ (λ t. walked (rest_here set count i l t) (rest_here set' new_count j m t)) ∙ rw (sym e ∙ ap (told text other) q))

        pub pair_on : (i₁ j₁ : ℕ) → r ≡ None → i₁ ≡ next_member set (i + 1) (count - (i + 1)) → j₁ ≡ next_member set' (j + 1) (new_count - (j + 1))
            → Pairing count new_count i₁ j₁
        unfolding told pairs_at or_else
        pair_on i₁ j₁ q f g =
            let fine : objection_at text tape h other new h' asked pass i j ≡ none = sym e ∙ ap (told text other) q in
            record {
              so =
                  s.so
                  ∙ (λ t. walked (rest_here set count i l t) (rest_here set' new_count j m t))
                  ∙ rw fine (λ t. walked (rest_from set count (i + 1) i₁ f t) (rest_from set' new_count (j + 1) j₁ g t));
            }

pub ruleset pairing = (pair_start, pair_left, pair_right, pair_done, pair_against, pair_on, less_left, rules)

-- ---- pass by pass

module _ (text tape : List ℕ) (h : Heads) (other new : List ℕ) (h' : Heads) (asked : Name) (set set' : ℕ → Bool) where
  abbrev in_pass : ℕ → Option Why
  in_pass = in_pairs_at text tape h other new h' asked set set'

  abbrev all_passes : Option Why
  all_passes = against_at text tape h other new h' asked set set'

  pub record Passing (pass : ℕ) : Type 0 where
    pub so : all_passes ≡ pass_by_pass in_pass pass (4 - pass)

  pub pass_start : Passing 0
  unfolding against_at
  pass_start = record { so = refl }

  module _ (pass : ℕ) (s : Passing pass) where
    pub pass_done : 4 ≤ pass → told text other None ≡ all_passes
    unfolding told pass_by_pass
    pass_done l = let z : 4 - pass ≡ 0 = omega arith in sym (s.so ∙ ap (pass_by_pass in_pass pass) z)

    module _ (l : pass < 4) (r : Rust.Option Code.Why) (e : told text other r ≡ in_pass pass) where
      step_pass : 4 - pass ≡ suc (4 - (pass + 1))
      step_pass = omega arith

      pub pass_against : (w : Code.Why) → r ≡ Some w → told text other (Some w) ≡ all_passes
      unfolding told pass_by_pass or_else
      pass_against w q = sym (s.so ∙ ap (pass_by_pass in_pass pass) step_pass ∙ rw (sym e ∙ ap (told text other) q))

      pub pass_on : r ≡ None → Passing (pass + 1)
      unfolding told pass_by_pass or_else
      pass_on q = record { so = s.so ∙ ap (pass_by_pass in_pass pass) step_pass ∙ rw (sym e ∙ ap (told text other) q, add-one pass) }

pub ruleset passing = (pass_start, pass_done, pass_against, pass_on, rules)

-- ---- what is changed

pub changed_not : (so b : Bool) (j : ℕ) (set : ℕ → Bool) → b ≡ so → b ≡ true → set ≡ with_unless so j set
unfolding with_unless pick
changed_not so b j set e f = rw (sym e ∙ f)

pub changed_so : (so b : Bool) (j r : ℕ) (set : ℕ → Bool) → b ≡ so → b ≡ false → holds r ≡ added j set → holds r ≡ with_unless so j set
unfolding with_unless pick
changed_so so b j r set e f g = rw (sym e ∙ f) g

module _ (text tape : List ℕ) (h : Heads) (other new : List ℕ) (h' : Heads) (set set' : ℕ → Bool) where
  abbrev changed_from : ℕ → List ℕ → List ℕ → (ℕ → Bool)
  changed_from changed is js = with_all (holds changed) (changed_pairs (same_at text tape h other new h') is js)

  abbrev all_changed : ℕ → Bool
  all_changed = with_all nothing (changed_at text tape h other new h' set set')

  pub record Changing (count new_count changed i j : ℕ) : Type 0 where
    pub so : all_changed ≡ changed_from changed (rest set count i) (rest set' new_count j)

  module _ (count new_count changed : ℕ) where
    pub change_start : (i j : ℕ) → count ≡ h.count → new_count ≡ h'.count → holds changed ≡ nothing → i ≡ next_member set 0 (count - 0)
        → j ≡ next_member set' 0 (new_count - 0) → Changing count new_count changed i j
    unfolding changed_at
    change_start i j a b q e f =
        let left : members set 0 h.count ≡ rest set count i = ap (members set 0) (sym a) ∙ rest_first set count i e in
        let right : members set' 0 h'.count ≡ rest set' new_count j = ap (members set' 0) (sym b) ∙ rest_first set' new_count j f in
        record { so = λ t. with_all (sym q t) (changed_pairs (same_at text tape h other new h') (left t) (right t)) }

    module _ (i j : ℕ) (s : Changing count new_count changed i j) where
      pub change_done : count ≤ i → holds changed ≡ all_changed
      unfolding changed_pairs with_all
      change_done l = sym (s.so ∙ ap (λ (is : List ℕ). changed_from changed is (rest set' new_count j)) (rest_none set count i l))

      pub change_short : i < count → new_count ≤ j → holds changed ≡ all_changed
      unfolding changed_pairs with_all
      change_short l m = sym (s.so ∙ (λ t. changed_from changed (rest_here set count i l t) (rest_none set' new_count j m t)))

      pub change_on : (r i₁ j₁ : ℕ) → i < count → j < new_count → holds r ≡ with_unless (same_at text tape h other new h' i j) j (holds changed)
          → i₁ ≡ next_member set (i + 1) (count - (i + 1)) → j₁ ≡ next_member set' (j + 1) (new_count - (j + 1)) → Changing count new_count r i₁ j₁
      unfolding changed_pairs with_unless with_all pick
      change_on r i₁ j₁ l m e f g = record {
        so =
            s.so
            ∙ (λ t. changed_from changed (rest_here set count i l t) (rest_here set' new_count j m t))
            ∙ turn (same_at text tape h other new h' i j) e
            ∙ (λ t. changed_from r (rest_from set count (i + 1) i₁ f t) (rest_from set' new_count (j + 1) j₁ g t));
      }
        where
          later : List ℕ
          later = changed_pairs (same_at text tape h other new h') (members set (i + 1) (count - (i + 1))) (members set' (j + 1) (new_count - (j + 1)))

          turn : (b : Bool) → holds r ≡ with_unless b j (holds changed) → with_all (holds changed) (pick b later (j ∷ later)) ≡ with_all (holds r) later
          turn true e = ap (λ (x : ℕ → Bool). with_all x later) (sym e)
          turn false e = ap (λ (x : ℕ → Bool). with_all x later) (sym e)

pub ruleset changing = (changed_not, changed_so, change_start, change_done, change_short, change_on, less_left, rules)
