-- The ways through the code, one law each: r and b are callees' answers.
use mathlib.Core.Path.{◌≡◌, sym, ap, ◌∙◌}
use mathlib.Core.Bool.{Bool, true, false}
use mathlib.Core.List.{List, [], ◌∷◌, ◌++◌, append-nil, append_assoc}
use Prim.Native.Nat.{ℕ, suc, ◌+◌, ◌-◌, ◌<◌, ◌≤◌}
use native.Mathlib.Omega.{arith}
use native.Mathlib.Numerals.{add-one}
use borrow.Author.Rules.{rules}
use lib.ListN.{length, set, take, length-set}
use lib.Seq.{take-suc-set, take-set-le, take-take, take_all, take-append-le, length-take-le, get_or-take, get_or-set_same, get_or-set_other}
use Rattle.meaning.specs.Lists.{pick}
use Rattle.form_rows.specs.Entries.{role_at}
use Rattle.modules.specs.Modules.{is_module, places_from, HeadsOf, heads_in}

-- the first `count` places are the heads before j
pub record Begun (tape : List ℕ) (n : ℕ) (places : List ℕ) (count j : ℕ) : Type 0 where
  pub size : length places ≡ 66
  pub few : count ≤ 64
  pub within : j ≤ n
  pub so_far : take count places ++ places_from tape j (n - j) ≡ places_from tape 0 n

pub begun_none : (tape : List ℕ) (n : ℕ) (places : List ℕ) → length places ≡ 66 → Begun tape n places 0 0
begun_none tape n places l =
    let z : n - 0 ≡ n = omega arith in
    record { size = l; few = omega arith; within = omega arith; so_far = rw z }

module _ (tape : List ℕ) (n : ℕ) (places : List ℕ) (count j : ℕ) (h : Begun tape n places count j) where
  module _ (l : j < n) (r : ℕ) (e : r ≡ role_at tape j) (b : Bool) (f : b ≡ is_module r) where
    one_less : n - j ≡ suc (n - (j + 1))
    one_less = omega arith

    pub begun_other : b ≡ false → Begun tape n places count (j + 1)
    unfolding places_from pick
    begun_other q = record {
      size = h.size;
      few = h.few;
      within = omega arith;
      so_far =
          let step : places_from tape (j + 1) (n - (j + 1)) ≡ places_from tape j (n - j) = rw (one_less, sym (ap is_module e) ∙ sym f ∙ q, add-one j) in
          ap (λ (l : List ℕ). take count places ++ l) step ∙ h.so_far;
    }

    pub begun_head : b ≡ true → count < 64 → (places' : List ℕ) → places' ≡ set places count j → Begun tape n places' (count + 1) (j + 1)
    unfolding places_from pick
    begun_head q k places' g = record {
      size = ap length g ∙ simp length-set h.size;
      few = omega arith;
      within = omega arith;
      so_far =
          let room : count < length places = omega (arith, h.size) in
          let first : take (count + 1) places' ≡ take count places ++ (j ∷ []) = rw (g, add-one count) (take-suc-set places count j room) in
          let step : j ∷ places_from tape (j + 1) (n - (j + 1)) ≡ places_from tape j (n - j) = rw (one_less, sym (ap is_module e) ∙ sym f ∙ q, add-one j) in
          rw (first, append_assoc) (ap (λ (l : List ℕ). take count places ++ l) step ∙ h.so_far);
    }

  -- as many as there are, up to 64: where the last one ends is written behind them, and their number last
  module _ (c : ℕ) (few : c ≤ 64) (all : take c places ≡ take 64 (places_from tape 0 n)) (words : List ℕ) (e : words ≡ set (set places c n) 65 c) where
    ended_size : length (set places c n) ≡ 66
    ended_size = simp length-set h.size

    counted : (heads_in words).count ≡ c
    unfolding heads_in
    counted = rw e (get_or-set_same (set places c n) 65 c 0 (omega (arith, ended_size)))

    begun_ended : HeadsOf tape n (heads_in words)
    unfolding heads_in
    begun_ended = record {
      few = rw counted few;
      size = length-take-le 65 words (rw (e, length-set (set places c n) 65 c, ended_size) (omega arith));
      begun =
          rw (counted, take-take c 65 words (omega arith), e, take-set-le c (set places c n) 65 c (omega arith), take-set-le c places c n (omega arith)) all;
      ended =
          rw (counted, get_or-take 65 words c 0 (omega arith), e, get_or-set_other (set places c n) 65 c c 0 (omega arith))
          (get_or-set_same places c n 0 (omega (arith, h.size)));
    }

  pub begun_full : 64 ≤ count → (words : List ℕ) → words ≡ set (set places 64 n) 65 64 → HeadsOf tape n (heads_in words)
  begun_full k =
      let c : count ≡ 64 = omega (arith, h.few) in
      let room : 64 ≤ length places = omega (arith, h.size) in
      let long : 64 ≤ length (take 64 places) = rw (length-take-le 64 places room) (omega arith) in
      begun_ended 64 (omega arith)
      (sym (ap (take 64) (sym (rw c at h).so_far) ∙ take-append-le 64 (take 64 places) _ long ∙ take-take 64 64 places (omega arith)))

  pub begun_all : n ≤ j → (words : List ℕ) → words ≡ set (set places count n) 65 count → HeadsOf tape n (heads_in words)
  unfolding places_from
  begun_all l =
      let z : n - j ≡ 0 = omega arith in
      let none : [] ≡ places_from tape j (n - j) = rw z in
      let all : take count places ≡ places_from tape 0 n = sym (append-nil (take count places)) ∙ ap (λ (l : List ℕ). take count places ++ l) none ∙ h.so_far in
      let short : length (take count places) ≤ 64 = rw (length-take-le count places (omega (arith, h.size, h.few))) h.few in
      begun_ended count h.few (rw (← all) (sym (take_all 64 (take count places) short)))

pub ruleset heads = (begun_none, begun_other, begun_head, begun_full, begun_all, rules)
