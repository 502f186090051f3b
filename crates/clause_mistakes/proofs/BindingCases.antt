-- Laws of the check of a binding's pairs, in the code's terms.
use Rattle.std.specs.Prelude.{Ok, Err}
use mathlib.Core.Path.{◌≡◌, sym, ◌∙◌}
use Prim.Native.Nat.{ℕ, ◌+◌, ◌*◌, ◌≤◌, ◌<◌}
use mathlib.Core.Bool.{Bool, true, false}
use mathlib.Core.List.{List, []}
use native.Mathlib.Numerals.{add-one}
use lib.Dec.{ltb}
use borrow.Author.Rules.{rules}
use borrow.Author.Tests.{lt-ltb, le-ltb}
use Rattle.meaning.specs.Lists.{pick, any, before}
use Rattle.meaning.specs.Names.{member}
use Rattle.meaning.specs.Syntax.{Pair}
use Rattle.meaning.specs.Origins.{Item, in_parameter}
use Rattle.meaning.specs.Normal.{names_in, is_called}
use Rattle.meaning.specs.Checks.{Check, ◌>>◌, needs as refused_unless, each_beside}
use Rattle.meaning.specs.Clauses.{pair_right, pairs_right}
use Rattle.meaning.specs.Numbers.{other_kind, other_type}
use Rattle.text_names.specs.Word.{name_of}
use Rattle.form_rows.specs.Entries.{word_at}
use Rattle.form.specs.declared.Form.{Form}
use Rattle.form.specs.declared.Culprit.{Culprit}
use Rattle.form.specs.declared.Refusal.{Refusal}
use Rattle.form.specs.Forms.{items_at, visible_at}
use Rattle.form.specs.Verdicts.{Verdict, refusal, culprit_of, told}
use Rattle.clause_translation.specs.declared.Mode.{Mode}
use Rattle.clause_pairs.specs.Pairs.{pairs_at}
use Rattle.clause_translation.specs.Translation.{formals_at, mode_formals}
use Rattle.clause_checks.specs.Pairs.{pair_count, given, pair_at}
use Rattle.clause_checks.specs.PairWalks.{Walking, walk_start, walk_end, walk_here, walk_again}
use Rattle.form_walks.specs.Lists.{any_keep}
use Rattle.clause_checks.specs.Searches.{named_any}
use Rattle.form_walks.specs.Rows.{found_below}
use Rattle.clause_fitting.specs.Unpaired.{formal_called}
use Rattle.clause_fitting.specs.Fits.{mode_whole, kind_fits, type_fits, item_fits, all_fit}
use Rattle.clause_mistakes.specs.ItemsFit.{items_fit}

module _ (text tape w : List ℕ) (m : Mode) (actual : Form) where
  -- the items of the actual module
  abbrev there : List Item
  there = items_at text tape w actual.visible actual.visible_count

  abbrev rows : List Item
  rows = items_at text tape w m.visible m.count

  abbrev inside : Item → Bool
  inside i = in_parameter (name_of text m.parameter) i.standing

  -- in the laws from here on the tests stand before what callees say: fewer facts fit them
  module _ (x y : ℕ) where
    abbrev both : Culprit
    both = record { name = x; actual = y }

    abbrev all_fitting : Bool → Bool
    all_fitting by_type = all_fit text tape w m actual by_type (name_of text x) (name_of text y)

    abbrev Fitting : Verdict → Type 0
    Fitting v = told text v ≡ items_fit text tape w m actual (name_of text x) (name_of text y)

    pub kinds_wrong : (b : Bool) → b ≡ false → b ≡ all_fitting false → Fitting (Err (refusal other_kind both))
    unfolding told culprit_of items_fit refused_unless ◌>>◌ pick
    kinds_wrong b h e = rw (← e, h)

    pub types_wrong : (b c : Bool) → b ≡ true → c ≡ false → b ≡ all_fitting false → c ≡ all_fitting true → Fitting (Err (refusal other_type both))
    unfolding told culprit_of items_fit refused_unless ◌>>◌ pick
    types_wrong b c h q e f = rw (← e, h, ← f, q)

    pub items_right : (b c : Bool) → b ≡ true → c ≡ true → b ≡ all_fitting false → c ≡ all_fitting true → Fitting (Ok tt)
    unfolding told items_fit refused_unless ◌>>◌ pick
    items_right b c h q e f = rw (← e, h, ← f, q)

  -- ---- a pair

  abbrev pairs : List Pair
  pairs = pairs_at text tape m.pairs

  abbrev Told : ℕ → Verdict → Type 0
  Told k v =
      told text v ≡ pair_right (mode_formals text tape w m) pairs (mode_whole text tape w m) (visible_at text tape w actual)
      (given text tape m.pairs k) (pair_at text tape m.pairs k)

  module _ (k x y i : ℕ) where
    abbrev Old : Type 0
    Old = x ≡ word_at tape (m.pairs + k * 2)

    abbrev New : Type 0
    New = y ≡ word_at tape (m.pairs + k * 2 + 1)

    abbrev Sought : Type 0
    Sought = i ≡ before (formal_called (name_of text m.parameter) (name_of text x)) rows

    formal_among : Sought → any (is_called (name_of text x)) (mode_formals text tape w m) ≡ ltb i m.count
    unfolding formals_at formal_called
    formal_among o = any_keep inside (is_called (name_of text x)) rows ∙ sym (found_below text tape w m.visible m.count i _ o)

    pub formal_absent : m.count ≤ i → Old → New → Sought → Told k (Err (refusal 22 (both x y)))
    unfolding told culprit_of pair_right pair_at refused_unless ◌>>◌ pick
    formal_absent h e f o = rw (← e, ← f, formal_among o, le-ltb i m.count h)

    module _ (b : Bool) where
      abbrev Before : Type 0
      Before = b ≡ member (name_of text x) (given text tape m.pairs k)

      pub formal_twice : i < m.count → b ≡ true → Old → New → Sought → Before → Told k (Err (refusal 23 (both x y)))
      unfolding told culprit_of pair_right pair_at refused_unless ◌>>◌ pick
      formal_twice h q e f o g = rw (← e, ← f, formal_among o, lt-ltb i m.count h, ← g, q)

      module _ (c : Bool) where
        abbrev Visibly : Type 0
        Visibly = c ≡ member (name_of text y) (names_in there)

        pub actual_absent : i < m.count → b ≡ false → c ≡ false → Old → New → Sought → Before → Visibly → Told k (Err (refusal 24 (both x y)))
        unfolding told culprit_of pair_right pair_at refused_unless ◌>>◌ pick visible_at
        actual_absent h q u e f o g l = rw (← e, ← f, formal_among o, lt-ltb i m.count h, ← g, q, ← named_any (name_of text y) there, ← l, u)

        pub pair_items : (v : Verdict) → i < m.count → b ≡ false → c ≡ true → Old → New → Sought → Before → Visibly → Fitting x y v → Told k v
        unfolding pair_right pair_at items_fit all_fit item_fits kind_fits type_fits refused_unless ◌>>◌ pick visible_at
        pair_items v h q u e f o g l z = rw (← e, ← f, formal_among o, lt-ltb i m.count h, ← g, q, ← named_any (name_of text y) there, ← l, u) z

  -- ---- all pairs

  abbrev asked : ℕ → List Pair → Check
  asked j ps = pairs_right (mode_formals text tape w m) pairs (mode_whole text tape w m) (visible_at text tape w actual) (given text tape m.pairs j) ps

  abbrev pub Checking : ℕ → ℕ → Type 0
  Checking n k = Walking asked text tape m.pairs n k

  abbrev Ended : Verdict → Type 0
  Ended v = told text v ≡ pairs_right (mode_formals text tape w m) pairs (mode_whole text tape w m) (visible_at text tape w actual) [] pairs

  pub check_start : (n : ℕ) → n ≡ pair_count tape m.pairs 32 → Checking n 0
  check_start n h = walk_start asked text tape m.pairs n h

  module _ (n k : ℕ) where
    pub pairs_fine : n ≤ k → Checking n k → Ended (Ok tt)
    unfolding told pairs_right given each_beside
    pairs_fine h inv = sym (walk_end asked text tape m.pairs n k h inv)

    pub check_again : (v : Verdict) → v ≡ Ok tt → k < n → Told k v → Checking n k → Checking n (k + 1)
    unfolding told pairs_right given pair_at ◌>>◌ each_beside
    check_again v q h e inv = walk_again asked text tape m.pairs n k h inv (rw (← e, q, add-one k))

    pub pair_stops : (v : Verdict) (c : Refusal) → v ≡ Err c → k < n → Told k v → Checking n k → Ended (Err c)
    unfolding told pairs_right given ◌>>◌ each_beside
    pair_stops v c q h e inv = sym (walk_here asked text tape m.pairs n k h inv ∙ rw (← e, q))

pub ruleset items = (kinds_wrong, types_wrong, items_right, rules)

pub ruleset single = (formal_absent, formal_twice, actual_absent, pair_items, rules)

pub ruleset bindings = (check_start, check_again, pairs_fine, pair_stops, rules)
