-- Laws of the check of a renaming's pairs, in the code's terms.
use Rattle.std.specs.Prelude.{Ok, Err}
use mathlib.Core.Path.{◌≡◌, refl, sym, ap, ◌∙◌}
use Prim.Native.Nat.{ℕ, ◌+◌, ◌-◌, ◌*◌, ◌≤◌, ◌<◌, min}
use mathlib.Core.Bool.{Bool, true, false, not, ◌&&◌, ◌||◌}
use mathlib.Core.Option.{Option, some}
use mathlib.Core.List.{List, [], ◌∷◌, map}
use native.Mathlib.Omega.{arith}
use native.Mathlib.Numerals.{add-one}
use lib.Dec.{eqb, leb}
use lib.ListN.{length, take, length-take, length-map}
use borrow.Author.Rules.{rules}
use borrow.Author.Tests.{eq-eqb, ne_eqb, eqb-true, eqb-false}
use Rattle.meaning.specs.Lists.{pick, any, before, first_bad}
use Rattle.meaning.specs.Names.{Name, same, is_operator, is_infix, member}
use Rattle.meaning.specs.Syntax.{Pair}
use Rattle.meaning.specs.Origins.{Shape, sort_shape, function_shape, variable_shape, Item}
use Rattle.meaning.specs.Normal.{names_in, is_called}
use Rattle.meaning.specs.Checks.{unless}
use Rattle.meaning.specs.Clauses.{arguments_fit, may_name, renames, wrong_renaming}
use Rattle.meaning.specs.Numbers.{bad_renaming}
use Rattle.text_names.specs.Word.{name_of}
use Rattle.form_rows.specs.declared.Row.{Row}
use Rattle.form_rows.specs.Entries.{word_at, name_at}
use Rattle.form_rows.specs.Rows.{sort_of, type_of, shape_of, item_of}
use Rattle.form.specs.Forms.{items_at}
use Rattle.form.specs.Verdicts.{refusal, told, lone_of}
use Rattle.clause_pairs.specs.Pairs.{pairs_at}
use Rattle.clause_names.specs.Named.{kind_named}
use Rattle.clause_checks.specs.Pairs.{pair_count, given, pair_at, rightly}
use Rattle.clause_checks.specs.PairWalks.{Walking, walk_start, walk_end, walk_here, walk_again}
use Rattle.clause_checks.specs.Renamed.{unfit}
use Rattle.form_walks.specs.Shapes.{by_kind}
use Rattle.form_walks.specs.Rows.{none_below}
use Rattle.clause_checks.specs.Searches.{named_any}

-- ---- the kind tells the shape

one_test : (a b c d : ℕ) → (a ≡ b → c ≡ d) → (c ≡ d → a ≡ b) → eqb a b ≡ eqb c d
one_test a b c d to from = go (eqb a b) refl
  where
    go : (r : Bool) → eqb a b ≡ r → eqb a b ≡ eqb c d
    go true q = q ∙ sym (eq-eqb c d (to (eqb-true a b q)))
    go false q = q ∙ sym (ne_eqb c d (λ e. eqb-false a b q (from e)))

module _ (text tape : List ℕ) (w : Name) (k : ℕ) (sorts : List ℕ) (nine : length sorts ≡ 9) where
  inputs_told : length (map (sort_of text tape) (take (k - 2) sorts)) ≡ min (k - 2) 9
  inputs_told = length-map (take (k - 2) sorts) (sort_of text tape) ∙ length-take (k - 2) sorts ∙ ap (min (k - 2)) nine

  kind_told : kind_named w k ≡ may_name w (shape_of text tape k sorts)
  unfolding kind_named may_name arguments_fit type_of pick
  kind_told =
      by_kind text tape k sorts (λ (s : Shape). kind_named w k ≡ may_name w s)
      (λ e. rw (ne_eqb k 1 (λ q. omega arith), ne_eqb k 4 (λ q. omega arith), ne_eqb k 3 (λ q. omega arith)) (no_sort (is_operator w) (is_infix w)))
      (λ e. rw (eq-eqb k 1 e))
      (λ h. let n = min (k - 2) 9 in
      rw (ne_eqb k 1 (λ q. omega arith), inputs_told)
      (as_many n (one_test k 4 n 2 (λ q. omega arith) (λ q. omega arith)) (one_test k 3 n 1 (λ q. omega arith) (λ q. omega arith)) (is_operator w) (is_infix w)))
    where
      no_sort : (o i : Bool) → pick o (pick i false false) true ≡ not o
      no_sort true true = refl
      no_sort true false = refl
      no_sort false i = refl

      as_many : (n : ℕ) → eqb k 4 ≡ eqb n 2 → eqb k 3 ≡ eqb n 1 → (o i : Bool)
          → pick o (pick i (eqb k 4) (eqb k 3)) true ≡ pick o (eqb n (pick i 2 1)) true
      as_many n e f true true = e
      as_many n e f true false = f
      as_many n e f false i = refl

-- ---- a row that the new name may not stand for

module _ (text tape : List ℕ) (old new : ℕ) (x : Row) (b : Bool) (e : b ≡ same (name_of text old) (name_of text x.name)) where
  pub unfit_other : b ≡ false → false ≡ unfit (name_of text old) (name_of text new) (item_of text tape x)
  unfolding unfit item_of is_called
  unfit_other h = rw (← e, h)

  module _ (h : b ≡ true) (nine : length x.sorts ≡ 9) (c : Bool) (f : c ≡ kind_named (name_of text new) x.kind) where
    fits_told : may_name (name_of text new) (shape_of text tape x.kind x.sorts) ≡ c
    fits_told = sym (f ∙ kind_told text tape (name_of text new) x.kind x.sorts nine)

    pub unfit_not : c ≡ true → false ≡ unfit (name_of text old) (name_of text new) (item_of text tape x)
    unfolding unfit item_of is_called
    unfit_not q = rw (← e, h, fits_told, q)

    pub unfit_here : c ≡ false → true ≡ unfit (name_of text old) (name_of text new) (item_of text tape x)
    unfolding unfit item_of is_called
    unfit_here q = rw (← e, h, fits_told, q)

-- a plain name may stand for anything
may_plainly : (new : Name) → is_operator new ≡ false → (s : Shape) → may_name new s ≡ true
unfolding may_name arguments_fit pick
may_plainly new p sort_shape = rw p
may_plainly new p (function_shape t) = rw p
may_plainly new p (variable_shape s) = refl

none_unfit : (old new : Name) → is_operator new ≡ false → (is : List Item) → any (unfit old new) is ≡ false
unfolding any unfit pick
none_unfit old new p [] = refl
none_unfit old new p (i ∷ is) = rw (may_plainly new p i.shape, none_unfit old new p is) (go (is_called old i))
  where
    go : (b : Bool) → pick (b && false) true false ≡ false
    go true = refl
    go false = refl

-- ---- a pair: x and y are its names

module _ (text tape w : List ℕ) (pairs k visible count x : ℕ) (e : x ≡ word_at tape (pairs + k * 2)) (b : Bool)
    (f : b ≡ member (name_of text x) (names_in (items_at text tape w visible count))) where
  abbrev items : List Item
  items = items_at text tape w visible count

  pub renames_unknown : b ≡ false → false ≡ renames items (pair_at text tape pairs k)
  unfolding renames pair_at
  renames_unknown h = rw (← e, ← named_any (name_of text x) items, ← f, h)

  pub renames_known : (y j : ℕ) → b ≡ true → y ≡ word_at tape (pairs + k * 2 + 1) → j ≡ before (unfit (name_of text x) (name_of text y)) items
      → leb count j ≡ renames items (pair_at text tape pairs k)
  unfolding renames pair_at unfit
  renames_known y j h g o =
      rw (← e, ← g, ← named_any (name_of text x) items, ← f, h)
      (none_below text tape w visible count j (unfit (name_of text x) (name_of text y)) o)

  pub renames_plainly : (y : ℕ) (o : Bool) → b ≡ true → y ≡ word_at tape (pairs + k * 2 + 1) → o ≡ is_operator (name_of text y) → o ≡ false
      → true ≡ renames items (pair_at text tape pairs k)
  unfolding renames pair_at unfit
  renames_plainly y o h g p q =
      rw (← e, ← g, ← named_any (name_of text x) items, ← f, h, none_unfit (name_of text x) (name_of text y) (sym p ∙ q) items)

-- ---- all pairs

abbrev pub Checking : List Item → List ℕ → List ℕ → ℕ → ℕ → ℕ → Type 0
Checking visible text tape pairs n k = Walking (λ (j : ℕ) (ps : List Pair). wrong_renaming visible (given text tape pairs j) ps) text tape pairs n k

module _ (visible : List Item) (text tape : List ℕ) (pairs n : ℕ) where
  abbrev checked : ℕ → List Pair → Option Name
  checked j ps = wrong_renaming visible (given text tape pairs j) ps

  abbrev wrong : Option Name
  wrong = wrong_renaming visible [] (pairs_at text tape pairs)

  pub check_start : n ≡ pair_count tape pairs 32 → Checking visible text tape pairs n 0
  check_start h = walk_start checked text tape pairs n h

  module _ (k : ℕ) (inv : Checking visible text tape pairs n k) where
    pub renamings_fine : n ≤ k → told text (Ok tt) ≡ unless bad_renaming wrong
    unfolding told unless wrong_renaming given first_bad
    renamings_fine h = rw (walk_end checked text tape pairs n k h inv)

    wrong_or_given : (a b : Bool) → (not a || b) ≡ not (a && not b)
    wrong_or_given true true = refl
    wrong_or_given true false = refl
    wrong_or_given false b = refl

    module _ (r : Bool) (h : k < n) (f : r ≡ rightly (renames visible) text tape pairs k) where
      pub check_again : r ≡ true → Checking visible text tape pairs n (k + 1)
      unfolding wrong_renaming given rightly pair_at pick first_bad
      check_again q = walk_again checked text tape pairs n k h inv (rw (wrong_or_given, ← f, q, add-one k))

      one_wrong : r ≡ false → wrong ≡ some (name_at text tape (pairs + k * 2))
      unfolding wrong_renaming given rightly pair_at pick first_bad
      one_wrong q = walk_here checked text tape pairs n k h inv ∙ rw (wrong_or_given, ← f, q)

      pub renaming_stops : (x : ℕ) → r ≡ false → x ≡ word_at tape (pairs + k * 2)
          → told text (Err (refusal bad_renaming (record { name = x; actual = 0 }))) ≡ unless bad_renaming wrong
      unfolding told unless
      renaming_stops x q e = rw (one_wrong q, ← e, lone_of text x)

pub ruleset unfits = (unfit_other, unfit_not, unfit_here, rules)

pub ruleset known = (renames_plainly, renames_unknown, renames_known, rules)

pub ruleset renamings = (check_start, check_again, renamings_fine, renaming_stops, rules)
