-- The cases of reading two texts, one law for each way through the code.
use Rattle.std.proofs.Common.{◌≡◌, ℕ, ◌+◌, ◌-◌, ◌%◌, ◌^◌, ◌<◌, ◌≤◌, List, [], ◌∷◌, ◌++◌, map, length, get_or, take, drop, set, sym, refl, ap, ◌∙◌, add-one, arith, length-set, length-take, drop-cons, get_or-take, take-suc, take-take, take-suc-set, drop-set-lt, rules}
use lib.Seq.{take-length}
use Rattle.form_rows.specs.Entries.{word_at}
use Rattle.modules.specs.Modules.{heads_in}
use Rattle.read_both.specs.Both.{shifted, moved, WordsOf}

map_end : (f : ℕ → ℕ) (xs : List ℕ) (x : ℕ) → map f (xs ++ (x ∷ [])) ≡ map f xs ++ (f x ∷ [])
map_end f [] x = refl
map_end f (y ∷ xs) x = ap (λ (l : List ℕ). f y ∷ l) (map_end f xs x)

-- ---- the first n words are changed in place, of which i are

pub record Changing (f : ℕ → ℕ) (n : ℕ) (t₀ t : List ℕ) (i : ℕ) : Type 0 where
  pub kept : length t ≡ length t₀
  pub room : n ≤ length t₀
  pub within : i ≤ n
  pub front : take i t ≡ map f (take i t₀)
  pub left : drop i t ≡ drop i t₀

changing_none : (f : ℕ → ℕ) (n : ℕ) (t : List ℕ) → n ≤ length t → Changing f n t t 0
changing_none f n t h = record { kept = refl; room = h; within = omega arith; front = refl; left = refl }

module _ (f : ℕ → ℕ) (n : ℕ) (t₀ t : List ℕ) (i : ℕ) (v : Changing f n t₀ t i) where
  pub changing_size : length t ≡ length t₀
  changing_size = v.kept

  pub changing_room : i < n → i < length t
  changing_room l = omega (arith, v.room, v.kept)

  -- the word at i is as it was
  as_it_was : i < n → get_or t i 0 ≡ get_or t₀ i 0
  as_it_was l =
      let a : i < length t = changing_room l in
      let b : i < length t₀ = omega (arith, v.room) in
      ap (λ (l : List ℕ). get_or l 0 0) (sym (drop-cons t i 0 a) ∙ v.left ∙ drop-cons t₀ i 0 b)

  changing_again : (w : ℕ) (u : List ℕ) → i < n → w ≡ f (get_or t i 0) → u ≡ set t i w → Changing f n t₀ u (i + 1)
  changing_again w u l e g =
      let a : i < length t = changing_room l in
      let b : i < length t₀ = omega (arith, v.room) in
      let w_so : w ≡ f (get_or t₀ i 0) = e ∙ ap f (as_it_was l) in
      let tail : drop (i + 1) t ≡ drop (i + 1) t₀ =
      rw (add-one i) (ap (λ (l : List ℕ). drop 1 l) (sym (drop-cons t i 0 a) ∙ v.left ∙ drop-cons t₀ i 0 b)) in
      record {
        kept = ap length g ∙ simp length-set v.kept;
        room = v.room;
        within = omega arith;
        front = rw (g, add-one i, take-suc-set t i w a, take-suc t₀ i 0 b, map_end f (take i t₀) (get_or t₀ i 0), v.front, w_so);
        left = ap (drop (i + 1)) g ∙ drop-set-lt (i + 1) t i w (omega arith) ∙ tail;
      }

-- ---- words: the names' in place of where modules begin

pub words_none : (tape h : List ℕ) (count all : ℕ) → length (heads_in h).places ≡ 65 → all ≤ 64 → count ≡ all → Changing (word_at tape) count h h 0
unfolding heads_in
words_none tape h count all l few e = changing_none (word_at tape) count h (omega (arith, l, length-take 65 h))

module _ (tape h₀ h : List ℕ) (count k : ℕ) (v : Changing (word_at tape) count h₀ h k) (all : ℕ) (few : all ≤ 64) (e : count ≡ all) where
  pub words_again : (w : ℕ) (u : List ℕ) → k < count → w ≡ word_at tape (get_or (heads_in h).places k 0) → u ≡ set h k w
      → Changing (word_at tape) count h₀ u (k + 1)
  unfolding heads_in
  words_again w u l g =
      changing_again (word_at tape) count h₀ h k v w u l (g ∙ ap (word_at tape) (get_or-take 65 h k 0 (omega (arith, few, e, l))))

  pub words_end : count ≤ k → WordsOf tape (heads_in h₀).places all h
  unfolding heads_in
  words_end l =
      let same : k ≡ all = omega (arith, v.within) in
      record { room = omega (arith, v.room, v.kept, e); so = rw (← same, take-take k 65 h₀ (omega (arith, few, same))) v.front }

-- ---- entries, moved

pub moving_none : (by n : ℕ) (t : List ℕ) → n ≤ length t → Changing (shifted by) n t t 0
moving_none by = changing_none (shifted by)

module _ (by n : ℕ) (t₀ t : List ℕ) (i : ℕ) (v : Changing (shifted by) n t₀ t i) where
  pub moving_again : (w : ℕ) (u : List ℕ) → i < n → w ≡ (get_or t i 0 + by) % 2 ^ 32 → u ≡ set t i w → Changing (shifted by) n t₀ u (i + 1)
  unfolding shifted
  moving_again w u l e = changing_again (shifted by) n t₀ t i v w u l e

-- all of the first n are moved: e are those, and k of them have been
pub moving_end : (by n : ℕ) (t e : List ℕ) (k : ℕ) → Changing (shifted by) (length (take (n - 0) t)) (take (n - 0) t) e k → length (take (n - 0) t) ≤ k
    → e ++ drop (n - 0) (drop 0 t) ≡ moved by n t
unfolding moved
moving_end by n t e k v h =
    let first = take (n - 0) t in
    let all : k ≡ length first = omega (arith, v.within) in
    let whole : k ≡ length e = omega (arith, v.kept, all) in
    let front : e ≡ map (shifted by) first =
    sym (take-length e) ∙ ap (λ (m : ℕ). take m e) (sym whole) ∙ v.front ∙ ap (λ (m : ℕ). map (shifted by) (take m first)) all ∙ ap (map (shifted by)) (take-length first) in
    let plain : n - 0 ≡ n = omega arith in
    ap (λ (x : List ℕ). x ++ drop (n - 0) t) front ∙ ap (λ (m : ℕ). map (shifted by) (take m t) ++ drop m t) plain

pub ruleset cases = (changing_size, changing_room, words_none, words_again, words_end, moving_none, moving_again, rules)
