-- A word inserted before the entries that were read from a place on, and what the tape says then: an infix operator's, before its first operand.
use Rattle.std.specs.Prelude.{◌≡◌, refl, get_or, set}
use Rattle.std.proofs.Math.Path.{sym, ap}
use Rattle.std.proofs.Common.{◌∙◌, take-append-drop, length-set, take-suc-set, drop-set-lt, drop-cons, drop-drop, take-take}
use Prim.Native.Nat.{ℕ, zero, suc, ◌+◌, ◌-◌, ◌<◌, ◌≤◌}
use mathlib.Core.List.{List, [], ◌∷◌, ◌++◌, append_assoc, map, map-append}
use native.Mathlib.Omega.{arith}
use Rattle.std.proofs.Math.ListN.{length, take, drop, length-take, length-drop, length-append, length-map}
use Rattle.std.proofs.Math.Seq.{take-add, take_at, drop_at}
use Rattle.types.specs.declared.Token.{Token}
use Rattle.meaning.specs.OrderLaws.{Every}
use Rattle.read_steps.specs.declared.Place.{Place}
use Rattle.tape.specs.Tape.{Entry, entries, spelled}
use Rattle.read_steps.specs.Model.{place, pushed}
use Rattle.read_meaning.specs.Matches.{Lies, Inside, Stands, Ready, Step}
use Rattle.read_meaning.specs.Steps.{ends_within, forward}

-- ---- what is pushed

pushed_told : (n i w : ℕ) (t : List ℕ) → i + n ≤ length t → pushed n i w t ≡ take i t ++ (take n (w ∷ drop i t) ++ drop (i + n) t)
unfolding pushed
pushed_told zero i w t h =
    let z : i + 0 ≡ i = omega arith in
    rw z (sym (take-append-drop i t))
pushed_told (suc n) i w t h =
    let inside : i < length t = omega arith in
    let v = get_or t i 0 in
    let moved = drop (suc i + n) (set t i w) in
    let there : i + suc n ≡ suc i + n = omega arith in
    pushed_told n (suc i) v (set t i w) (omega (arith, length-set t i w))
    ∙ ap (λ (xs : List ℕ). xs ++ (take n (v ∷ drop (suc i) (set t i w)) ++ moved)) (take-suc-set t i w inside)
    ∙ append_assoc (take i t) (w ∷ []) (take n (v ∷ drop (suc i) (set t i w)) ++ moved)
    ∙ ap (λ (xs : List ℕ). take i t ++ (w ∷ (take n (v ∷ xs) ++ moved))) (drop-set-lt (suc i) t i w (omega arith))
    ∙ ap (λ (xs : List ℕ). take i t ++ (w ∷ (take n xs ++ moved))) (sym (drop-cons t i 0 inside))
    ∙ ap (λ (xs : List ℕ). take i t ++ (w ∷ (take n (drop i t) ++ xs))) (drop-set-lt (suc i + n) t i w (omega arith))
    ∙ ap (λ (k : ℕ). take i t ++ (w ∷ (take n (drop i t) ++ drop k t))) (sym there)

pushed_length : (n i w : ℕ) (t : List ℕ) → length (pushed n i w t) ≡ length t
unfolding pushed
pushed_length zero i w t = refl
pushed_length (suc n) i w t = pushed_length n (suc i) (get_or t i 0) (set t i w) ∙ length-set t i w

-- the words from i up to `end` moved up by one
module _ (i end w : ℕ) (t : List ℕ) (h : i ≤ end) (l : end < length t) where
  front : List ℕ
  front = take i t ++ take (end + 1 - i) (w ∷ drop i t)

  front_long : length front ≡ end + 1
  unfolding front
  front_long =
      omega (
        arith,
        length-append (take i t) (take (end + 1 - i) (w ∷ drop i t)),
        length-take i t,
        length-take (end + 1 - i) (w ∷ drop i t),
        length-drop i t,
      )

  in_two : pushed (end + 1 - i) i w t ≡ front ++ drop (end + 1) t
  unfolding front
  in_two =
      let there : i + (end + 1 - i) ≡ end + 1 = omega arith in
      pushed_told (end + 1 - i) i w t (omega arith)
      ∙ ap (λ (k : ℕ). take i t ++ (take (end + 1 - i) (w ∷ drop i t) ++ drop k t)) there
      ∙ sym (append_assoc (take i t) (take (end + 1 - i) (w ∷ drop i t)) (drop (end + 1) t))

  pushed_front : take (end + 1) (pushed (end + 1 - i) i w t) ≡ take i t ++ (w ∷ take (end - i) (drop i t))
  unfolding front
  pushed_front =
      let one : end + 1 - i ≡ suc (end - i) = omega arith in
      ap (take (end + 1)) in_two ∙ take_at front (drop (end + 1) t) (end + 1) front_long ∙ ap (λ (k : ℕ). take i t ++ take k (w ∷ drop i t)) one

  pushed_behind : drop (end + 1) (pushed (end + 1 - i) i w t) ≡ drop (end + 1) t
  pushed_behind = ap (drop (end + 1)) in_two ∙ drop_at front (drop (end + 1) t) (end + 1) front_long

-- ---- the entries of a step, with one more before them

map_take : {A B : Type 0} (f : A → B) (n : ℕ) (xs : List A) → map f (take n xs) ≡ take n (map f xs)
map_take f zero xs = refl
map_take f (suc n) [] = refl
map_take f (suc n) (x ∷ xs) = ap (λ ys. f x ∷ ys) (map_take f n xs)

every_into : (P : ℕ → Type 0) (v : ℕ) (xs ys : List ℕ) → P v → Every P (xs ++ ys) → Every P (xs ++ (v ∷ ys))
every_into P v [] ys h g = (h, g)
every_into P v (x ∷ xs) ys h g = (g.0, every_into P v xs ys h g.1)

module _ {text : List ℕ} {i j : ℕ} {p q : Place} {t u : List ℕ} {es : List Entry} (r : Ready text i p t) (s : Step text i j p t q u es) where
  ordered : p.entries ≤ q.entries
  ordered = omega (arith, s.count)

  within : p.entries ≤ length t
  within = omega (arith, r.room, r.long, forward r, ends_within r)

  entries_long : length (entries text p.entries t) ≡ p.entries
  unfolding entries
  entries_long = length-map (take p.entries t) (spelled text) ∙ omega (arith, length-take p.entries t, within)

  first_part : map (spelled text) (take p.entries u) ≡ entries text p.entries t
  unfolding entries
  first_part =
      ap (map (spelled text)) (sym (take-take p.entries q.entries u ordered)) ∙ map_take (spelled text) p.entries (take q.entries u)
      ∙ ap (take p.entries) s.said ∙ take_at (entries text p.entries t) es p.entries entries_long

  rest_part : map (spelled text) (take (q.entries - p.entries) (drop p.entries u)) ≡ es
  unfolding entries
  rest_part =
      let ws = take p.entries u in
      let vs = take (q.entries - p.entries) (drop p.entries u) in
      let both : p.entries + (q.entries - p.entries) ≡ q.entries = omega (arith, ordered) in
      let apart : take q.entries u ≡ ws ++ vs = ap (λ (k : ℕ). take k u) (sym both) ∙ take-add p.entries (q.entries - p.entries) u in
      let long : length (map (spelled text) ws) ≡ p.entries = ap length first_part ∙ entries_long in
      sym (drop_at (map (spelled text) ws) (map (spelled text) vs) p.entries long)
      ∙ ap (drop p.entries) (sym (map-append (spelled text) ws vs) ∙ ap (map (spelled text)) (sym apart) ∙ s.said)
      ∙ drop_at (entries text p.entries t) es p.entries entries_long

  module _ (w k : ℕ) (v : Token) (f : q.entries < length u) (y : Lies text w) (z : Stands text v) (g : q.token.start < v.start) where
    abbrev behind : List ℕ
    behind = pushed (q.entries + 1 - p.entries) p.entries w u

    inserted_said : entries text (q.entries + 1) behind ≡ entries text p.entries t ++ (spelled text w ∷ es)
    unfolding entries
    inserted_said =
        ap (map (spelled text)) (pushed_front p.entries q.entries w u ordered f)
        ∙ map-append (spelled text) (take p.entries u) (w ∷ take (q.entries - p.entries) (drop p.entries u))
        ∙ ap (λ (xs : List Entry). xs ++ (spelled text w ∷ map (spelled text) (take (q.entries - p.entries) (drop p.entries u)))) first_part
        ∙ ap (λ (xs : List Entry). entries text p.entries t ++ (spelled text w ∷ xs)) rest_part

    inserted_inside : Inside text q.entries u → Inside text (q.entries + 1) behind
    inserted_inside h =
        let both : p.entries + (q.entries - p.entries) ≡ q.entries = omega (arith, ordered) in
        let apart = ap (λ (n : ℕ). take n u) (sym both) ∙ take-add p.entries (q.entries - p.entries) u in
        rw (pushed_front p.entries q.entries w u ordered f)
        (every_into (Lies text) w (take p.entries u) (take (q.entries - p.entries) (drop p.entries u)) y (rw apart at h))

    pub inserted_step : Step text i j p t (place v k (q.entries + 1)) behind (spelled text w ∷ es)
    inserted_step = record {
      stands = z;
      paid = omega (arith, s.paid);
      size = pushed_length (q.entries + 1 - p.entries) p.entries w u ∙ s.size;
      count = omega (arith, s.count);
      said = inserted_said;
      left = pushed_behind p.entries q.entries w u ordered f ∙ left_behind;
      inside = λ h. inserted_inside (s.inside h);
    }
      where
        left_behind : drop (q.entries + 1) u ≡ drop (q.entries + 1) t
        left_behind = sym (drop-drop 1 q.entries u) ∙ ap (drop 1) s.left ∙ drop-drop 1 q.entries t
