-- Laws of the sorts of a formal type, in the code's terms.
use Rattle.std.specs.Prelude as std
use Rattle.std.specs.Prelude.{Some, None}
use mathlib.Core.Path.{◌≡◌}
use Prim.Native.Nat.{ℕ, ◌+◌, ◌-◌, ◌*◌, ◌/◌, ◌%◌, ◌≤◌, ◌<◌}
use mathlib.Core.Bool.{Bool, true, false}
use mathlib.Core.List.{List}
use lib.ListN.{get_or, take}
use borrow.Author.Rules.{rules}
use borrow.Author.Tests.{eq-eqb, ne_eqb}
use Rattle.meaning.specs.Lists.{pick, any, before}
use Rattle.meaning.specs.Names.{Name, member}
use Rattle.meaning.specs.Origins.{same_origin, visible_sort, Item}
use Rattle.meaning.specs.Normal.{names_in, sorts_among, sort_names, origin_of}
use Rattle.meaning.specs.Clauses.{paired, same_origins, is_among, is_formal_sort, sort_right, sorts_right}
use Rattle.text_names.specs.Word.{name_of}
use Rattle.form_rows.specs.Rows.{origin_of as row_origin, sort_of, type_of, row_at, row_size}
use Rattle.form.specs.declared.Form.{Form}
use Rattle.form.specs.Forms.{items_at, visible_at}
use Rattle.clause_translation.specs.declared.Mode.{Mode}
use Rattle.clause_pairs.specs.Pairs.{pairs_at}
use Rattle.clause_translation.specs.Translation.{mode_formals}
use Rattle.clause_checks.specs.Pairs.{found}
use Rattle.clause_checks.specs.Searches.{sort_called}
use Rattle.clause_checks.specs.SortOrigins.{origin_among, origin_there, origin_nowhere}
use Rattle.clause_checks.specs.Walks.{all_pass, inputs_pass, fitting_start, bounded_again, bounded_not, bounded_end}
use Rattle.clause_fitting.specs.Fits.{one_origin, mode_whole, sort_fits, sorts_fit}

-- ---- origins

module _ (text tape w : List ℕ) (b n c m a i j : ℕ) (e : i ≡ before (sort_called (name_of text a)) (items_at text tape w b n))
    (f : j ≡ before (sort_called (name_of text a)) (items_at text tape w c m)) where
  abbrev asked : Bool
  asked = one_origin text tape w b n c m (name_of text a)

  pub origins_both : (r : Bool) → i < n → j < m
      → r ≡ same_origin (row_origin text tape (row_at w (b + i * row_size)).origin) (row_origin text tape (row_at w (c + j * row_size)).origin) → r ≡ asked
  unfolding one_origin same_origins
  origins_both r h l g = rw (origin_there text tape w b n a i e h, origin_there text tape w c m a j f l) g

  pub origins_first : i < n → m ≤ j → false ≡ asked
  unfolding one_origin same_origins
  origins_first h l = rw (origin_there text tape w b n a i e h, origin_nowhere text tape w c m a j f l)

  pub origins_second : n ≤ i → j < m → false ≡ asked
  unfolding one_origin same_origins
  origins_second h l = rw (origin_nowhere text tape w b n a i e h, origin_there text tape w c m a j f l)

  pub origins_none : n ≤ i → m ≤ j → true ≡ asked
  unfolding one_origin same_origins
  origins_none h l = rw (origin_nowhere text tape w b n a i e h, origin_nowhere text tape w c m a j f l)

-- ---- a paired sort

module _ (text tape : List ℕ) (pairs a : ℕ) (known : List Name) (x : std.Option ℕ) (e : found text x ≡ paired (pairs_at text tape pairs) (name_of text a)) where
  pub paired_there : (v : ℕ) (r : Bool) → x ≡ Some v → r ≡ member (name_of text v) known → r ≡ is_among known (paired (pairs_at text tape pairs) (name_of text a))
  unfolding is_among found
  paired_there v r h f = rw (← e, h) f

  pub paired_not : x ≡ None → false ≡ is_among known (paired (pairs_at text tape pairs) (name_of text a))
  unfolding is_among found
  paired_not h = rw (← e, h)

-- ---- one sort

module _ (text tape w : List ℕ) (m : Mode) (actual : Form) where
  abbrev Fits : ℕ → Bool → Type 0
  Fits s r = r ≡ sort_fits text tape w m actual (sort_of text tape s)

  -- the items of the actual module
  abbrev there : List Item
  there = items_at text tape w actual.visible actual.visible_count

  module _ (a : ℕ) (b : Bool) (e : b ≡ is_formal_sort (mode_formals text tape w m) (name_of text a)) where
    pub name_paired : (r : Bool) → b ≡ true
        → r ≡ is_among (names_in (sorts_among there)) (paired (pairs_at text tape m.pairs) (name_of text a))
        → r ≡ sort_fits text tape w m actual (visible_sort (name_of text a))
    unfolding sort_fits sort_right sort_names visible_at pick
    name_paired r h f = rw (← e, h) f

    pub name_same : (r : Bool) → b ≡ false
        → r ≡ one_origin text tape w m.visible m.count actual.visible actual.visible_count (name_of text a)
        → r ≡ sort_fits text tape w m actual (visible_sort (name_of text a))
    unfolding sort_fits sort_right one_origin origin_among origin_of mode_whole visible_at pick
    name_same r h f = rw (← e, h) f

  pub sort_visible : (s : ℕ) (r : Bool) → s % 2 ≡ 0 → r ≡ sort_fits text tape w m actual (visible_sort (name_of text (s / 2))) → Fits s r
  unfolding sort_of pick
  sort_visible s r h e = rw (eq-eqb (s % 2) 0 h) e

  pub sort_hidden : (s : ℕ) → (s % 2 ≡ 0 → ⊥) → Fits s true
  unfolding sort_of sort_fits sort_right pick
  sort_hidden s h = rw (ne_eqb (s % 2) 0 h)

  module _ (kind : ℕ) (sorts : List ℕ) (b : Bool) (e : b ≡ sort_fits text tape w m actual (sort_of text tape (get_or sorts 8 0))) where
    pub sorts_output : b ≡ false → false ≡ sorts_fit text tape w m actual (type_of text tape (kind - 2) sorts)
    unfolding sorts_fit sorts_right type_of sort_fits any pick
    sorts_output h = rw (← e, h)

    pub sorts_inputs : (r : Bool) → b ≡ true → r ≡ inputs_pass text tape (sort_fits text tape w m actual) (take (kind - 2) sorts)
        → r ≡ sorts_fit text tape w m actual (type_of text tape (kind - 2) sorts)
    unfolding sorts_fit sorts_right inputs_pass all_pass type_of sort_fits any pick
    sorts_inputs r h f = rw (← e, h) f

pub ruleset theres = (paired_there, paired_not, rules)

pub ruleset origins = (origins_both, origins_first, origins_second, origins_none, rules)

pub ruleset rights = (name_paired, name_same, sort_visible, sort_hidden, sorts_output, sorts_inputs, rules)

pub ruleset fittings = (fitting_start, bounded_again, bounded_not, bounded_end, rules)
