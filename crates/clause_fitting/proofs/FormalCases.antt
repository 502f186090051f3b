-- Laws of formal items by name, in the code's terms.
use Rattle.std.specs.Prelude as std
use Rattle.std.specs.Prelude.{Some, None}
use mathlib.Core.Path.{◌≡◌, sym, ap₂, ◌∙◌}
use Prim.Native.Nat.{ℕ, suc, ◌+◌, ◌-◌, ◌*◌, ◌≤◌, ◌<◌}
use mathlib.Core.Bool.{Bool, true, false}
use mathlib.Core.List.{List}
use native.Mathlib.Omega.{arith}
use borrow.Author.Rules.{rules}
use Rattle.meaning.specs.Lists.{pick}
use Rattle.meaning.specs.Names.{Name, not_after, lesser}
use Rattle.meaning.specs.Syntax.{Pair}
use Rattle.meaning.specs.Origins.{in_parameter}
use Rattle.meaning.specs.Clauses.{paired, unpaired}
use Rattle.text_names.specs.Word.{name_of}
use Rattle.form_rows.specs.declared.Row.{Row}
use Rattle.form_rows.specs.Rows.{section_of, item_of, row_at, row_size}
use Rattle.form.specs.Forms.{items_at}
use Rattle.clause_translation.specs.declared.Mode.{Mode}
use Rattle.clause_pairs.specs.Pairs.{pairs_at}
use Rattle.clause_translation.specs.Translation.{formals_at, mode_formals}
use Rattle.clause_checks.specs.Pairs.{found}
use Rattle.form_walks.specs.Rows.{find_start, find_end, find_again, find_here}
use Rattle.clause_fitting.specs.Unpaired.{is_none, is_unpaired, unpaired_from, unpaired_among, unpaired_told}

-- ---- one row

module _ (text tape : List ℕ) (p : ℕ) (x : Row) (b : Bool) (e : b ≡ in_parameter (name_of text p) (section_of text x.standing)) where
  module _ (pairs : ℕ) where
    pub unpaired_elsewhere : b ≡ false → false ≡ is_unpaired (name_of text p) (pairs_at text tape pairs) (item_of text tape x)
    unfolding is_unpaired item_of pick
    unpaired_elsewhere h = rw (← e, h)

    module _ (h : b ≡ true) (y : std.Option ℕ) (f : found text y ≡ paired (pairs_at text tape pairs) (name_of text x.name)) where
      pub unpaired_not : (v : ℕ) → y ≡ Some v → false ≡ is_unpaired (name_of text p) (pairs_at text tape pairs) (item_of text tape x)
      unfolding is_unpaired item_of is_none found pick
      unpaired_not v q = rw (← e, h, ← f, q)

      pub unpaired_here : y ≡ None → true ≡ is_unpaired (name_of text p) (pairs_at text tape pairs) (item_of text tape x)
      unfolding is_unpaired item_of is_none found pick
      unpaired_here q = rw (← e, h, ← f, q)

-- ---- the lesser of two

module _ (text : List ℕ) (a : ℕ) (best : std.Option ℕ) where
  pub lesser_alone : best ≡ None → found text (Some a) ≡ lesser (name_of text a) (found text best)
  unfolding found lesser
  lesser_alone h = rw h

  module _ (b : ℕ) (h : best ≡ Some b) (r : Bool) (e : r ≡ not_after (name_of text a) (name_of text b)) where
    pub lesser_first : r ≡ true → found text (Some a) ≡ lesser (name_of text a) (found text best)
    unfolding found lesser pick
    lesser_first q = rw (h, ← e, q)

    pub lesser_second : r ≡ false → found text (Some b) ≡ lesser (name_of text a) (found text best)
    unfolding found lesser pick
    lesser_second q = rw (h, ← e, q)

module _ (text tape w : List ℕ) (m : Mode) (k : ℕ) (best : std.Option ℕ) (x : Row) (e : x ≡ row_at w (m.visible + k * row_size)) (b : Bool)
    (f : b ≡ is_unpaired (name_of text m.parameter) (pairs_at text tape m.pairs) (item_of text tape x)) where
  abbrev Least : std.Option ℕ → Type 0
  Least r =
      found text r
      ≡ unpaired_from (name_of text m.parameter) (pairs_at text tape m.pairs) (item_of text tape (row_at w (m.visible + k * row_size))) (found text best)

  pub least_stays : b ≡ false → Least best
  unfolding unpaired_from pick
  least_stays h = rw (← e, ← f, h)

  pub least_here : (r : std.Option ℕ) → b ≡ true → found text r ≡ lesser (name_of text x.name) (found text best) → Least r
  unfolding unpaired_from item_of pick
  least_here r h g = rw (← e, ← f, h) g

-- ---- the rows from k on have been asked

pub record Lasting (text tape w : List ℕ) (m : Mode) (k : ℕ) (best : std.Option ℕ) : Type 0 where
  pub inside : k ≤ m.count
  pub least : found text best
      ≡ unpaired_among (name_of text m.parameter) (pairs_at text tape m.pairs) (items_at text tape w (m.visible + k * row_size) (m.count - k))

module _ (text tape w : List ℕ) (m : Mode) where
  abbrev parameter : Name
  parameter = name_of text m.parameter

  abbrev pairs : List Pair
  pairs = pairs_at text tape m.pairs

  pub last_start : Lasting text tape w m m.count None
  unfolding found unpaired_among items_at
  last_start = let z : m.count - m.count ≡ 0 = omega arith in record { inside = omega arith; least = rw z }

  pub last_again : (k : ℕ) (best r : std.Option ℕ) → 0 < k → Lasting text tape w m k best
      → found text r ≡ unpaired_from parameter pairs (item_of text tape (row_at w (m.visible + (k - 1) * row_size))) (found text best)
      → Lasting text tape w m (k - 1) r
  unfolding unpaired_among items_at
  last_again k best r h inv e =
      let inside = inv.inside in
      let s : m.count - (k - 1) ≡ suc (m.count - k) = omega arith in
      let p : m.visible + (k - 1) * row_size + row_size ≡ m.visible + k * row_size = omega arith in
      record { inside = omega arith; least = rw (s, p, ← inv.least) e }

  pub last_end : (k : ℕ) (best : std.Option ℕ) → k ≤ 0 → Lasting text tape w m k best
      → found text best ≡ unpaired (mode_formals text tape w m) pairs
  unfolding formals_at
  last_end k best h inv =
      let s : m.count - k ≡ m.count = omega arith in
      let p : m.visible + k * row_size ≡ m.visible = omega arith in
      inv.least
      ∙ ap₂ (λ (b n : ℕ). unpaired_among parameter pairs (items_at text tape w b n)) p s
      ∙ sym (unpaired_told parameter pairs (items_at text tape w m.visible m.count))

pub ruleset finds = (find_start, find_end, find_again, find_here, rules)

pub ruleset items = (unpaired_elsewhere, unpaired_not, unpaired_here, rules)

pub ruleset least = (lesser_alone, lesser_first, lesser_second, least_stays, least_here, rules)

pub ruleset lasts = (last_start, last_again, last_end, rules)
