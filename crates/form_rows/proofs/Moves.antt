-- Laws of moving a row in and out: w is the memory, b the place where a part starts.
use mathlib.Core.Path.{◌≡◌, refl, sym, ◌∙◌}
use mathlib.Core.List.{List, [], ◌∷◌, append-nil}
use Prim.Native.Nat.{ℕ, suc, ◌+◌, ◌-◌, ◌*◌, ◌^◌, ◌<◌, ◌≤◌}
use native.Mathlib.Nat.{add-zero}
use native.Mathlib.Numerals.{add-one, add-two, add-three, add_six}
use native.Mathlib.Omega.{arith}
use lib.ListN.{length, get_or, set, drop, length-set, drop_of_length-le}
use lib.Seq.{sets, sets-eq, drop-cons}
use mir.Syntax.{w64}
use mir.Val.{Fits}
use Rattle.form_sections.specs.declared.Section.{Section}
use Rattle.form_sections.specs.Sections.{section_word, word_section}
use Rattle.form_rows.specs.Rows.{words_from, row_at, row_words, row_size}
use Rattle.form_rows.specs.RowLaws.{length_words}
use Rattle.form_rows.specs.Kinds.{read_origin, origin_words}
use Rattle.form_rows.specs.declared.Origin.{Origin}
use Rattle.form_rows.specs.declared.Row.{Row}

pub three_put : (w w₁ w₂ w₃ : List ℕ) (b x y z : ℕ) → w₁ ≡ set w b x → w₂ ≡ set w₁ (b + 1) y → w₃ ≡ set w₂ (b + 2) z → w₃ ≡ sets w b (x ∷ y ∷ z ∷ [])
three_put w w₁ w₂ w₃ b x y z e f g = rw (g, f, e, add-one b, add-two b)

-- ---- nine words are read: the first i stand in s

pub record Gathered (w : List ℕ) (b : ℕ) (s : List ℕ) (i : ℕ) : Type 0 where
  within : i ≤ 9
  rest : sets s i (words_from w (b + i) (9 - i)) ≡ words_from w b 9

pub gather_none : (w : List ℕ) (b : ℕ) (s : List ℕ) → length s ≡ 9 → Gathered w b s 0
gather_none w b s l =
    let vs = words_from w b 9 in
    let n = length_words w b 9 in
    let h : 0 + length vs ≤ length s = omega arith in
    let k : length s ≤ 0 + length vs = omega arith in
    let e : sets s 0 vs ≡ vs = sets-eq vs s 0 h ∙ rw (drop_of_length-le s k) (append-nil vs) in
    record { within = omega arith; rest = rw add-zero e }

module _ (w : List ℕ) (b : ℕ) (s : List ℕ) (i : ℕ) (h : Gathered w b s i) where
  pub gather_fits : i < 9 → b < 2 ^ 40 → Fits w64 (b + i)
  gather_fits l m = omega arith

  pub gather_on : (v : ℕ) (after : List ℕ) → i < 9 → v ≡ get_or w (b + i) 0 → after ≡ set s i v → Gathered w b after (i + 1)
  unfolding words_from
  gather_on v after l e q =
      let n : 9 - i ≡ suc (9 - suc i) = omega arith in
      let k : suc (b + i) ≡ b + suc i = omega arith in
      let f : sets (set s i v) (suc i) (words_from w (b + suc i) (9 - suc i)) ≡ words_from w b 9 = rw (e, ← k, ← h.rest, n) in
      record { within = omega arith; rest = rw (q, add-one) f }

  pub gather_done : 9 ≤ i → s ≡ words_from w b 9
  unfolding words_from
  gather_done l = let z : 9 - i ≡ 0 = omega arith in rw z at h.rest

-- ---- nine words are stored: those from i on are left

pub record Storing (w₀ : List ℕ) (b : ℕ) (s : List ℕ) (w : List ℕ) (i : ℕ) : Type 0 where
  within : i ≤ 9
  long : length w ≡ length w₀
  rest : sets w₀ b s ≡ sets w (b + i) (drop i s)

pub store_none : (w : List ℕ) (b : ℕ) (s : List ℕ) → Storing w b s w 0
store_none w b s = record { within = omega arith; long = refl; rest = rw add-zero }

module _ (w₀ : List ℕ) (b : ℕ) (s : List ℕ) (w : List ℕ) (i : ℕ) (h : Storing w₀ b s w i) where
  pub store_fits : i < 9 → b < 2 ^ 40 → Fits w64 (b + i)
  store_fits l m = omega arith

  pub store_on : (after : List ℕ) → length s ≡ 9 → i < 9 → after ≡ set w (b + i) (get_or s i 0) → Storing w₀ b s after (i + 1)
  store_on after n l q =
      let k : suc (b + i) ≡ b + (i + 1) = omega arith in
      let g : i < length s = omega arith in
      record {
        within = omega arith;
        long = rw (q, length-set) h.long;
        rest = h.rest ∙ rw (q, ← k, add-one, drop-cons s i 0 g);
      }

  pub store_long : length w ≡ length w₀
  store_long = h.long

  pub store_done : length s ≡ 9 → 9 ≤ i → w ≡ sets w₀ b s
  store_done n l =
      let g : length s ≤ i = omega arith in
      sym (h.rest ∙ rw (drop_of_length-le s g))

-- ---- origins and rows

pub origin_read : (w : List ℕ) (b h v p : ℕ) (s : Section) → h ≡ get_or w b 0 → v ≡ get_or w (b + 1) 0 → s ≡ word_section v → p ≡ get_or w (b + 2) 0
    → ◌≡◌ {A = Origin} (record { home = h; section = s; place = p }) (read_origin w b)
unfolding read_origin
origin_read w b h v p s e f g k = rw (e, g, f, k)

pub origin_written : (w w₁ w₂ w₃ : List ℕ) (b v : ℕ) (o : Origin) → v ≡ section_word o.section → w₁ ≡ set w b o.home
    → w₂ ≡ set w₁ (b + 1) v → w₃ ≡ set w₂ (b + 2) o.place → w₃ ≡ sets w b (origin_words o)
unfolding origin_words
origin_written w w₁ w₂ w₃ b v o e f g h = rw (h, g, f, e, add-one, add-two)

pub row_read : (w : List ℕ) (base i b v n k : ℕ) (s : Section) (o : Origin) (sorts : List ℕ) → b ≡ base + i * row_size → v ≡ get_or w b 0 → s ≡ word_section v
    → n ≡ get_or w (b + 1) 0 → k ≡ get_or w (b + 2) 0 → o ≡ read_origin w (b + 3) → sorts ≡ words_from w (b + 6) 9
    → ◌≡◌ {A = Row} (record { standing = s; name = n; kind = k; origin = o; sorts = sorts }) (row_at w (base + i * row_size))
unfolding read_origin row_at
row_read w base i b v n k s o sorts h e f g j l m =
    let x : b + 3 + 1 ≡ b + 4 = omega arith in
    let y : b + 3 + 2 ≡ b + 5 = omega arith in
    rw (← h, f, e, g, j, l, m, x, y)

pub row_written : (w w₁ w₂ w₃ w₄ w₅ : List ℕ) (base i b v : ℕ) (r : Row) → b ≡ base + i * row_size → v ≡ section_word r.standing → w₁ ≡ set w b v
    → w₂ ≡ set w₁ (b + 1) r.name → w₃ ≡ set w₂ (b + 2) r.kind → w₄ ≡ sets w₃ (b + 3) (origin_words r.origin)
    → w₅ ≡ sets w₄ (b + 6) r.sorts → w₅ ≡ sets w (base + i * row_size) (row_words r)
unfolding origin_words row_words
row_written w w₁ w₂ w₃ w₄ w₅ base i b v r h e f g j l m =
    rw (← h, m, l, j, g, f, e, add-one b, add-two b, add-three b, add_six b)
