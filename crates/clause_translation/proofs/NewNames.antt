-- Laws of names under new names, in the code's terms: what each kind of a mode makes of a name.
use mathlib.Core.Path.{◌≡◌, ◌∙◌}
use mathlib.Core.Bool.{Bool, true, false}
use mathlib.Core.List.{List}
use Prim.Native.Nat.{ℕ}
use borrow.Author.Rules.{rules}
use borrow.Author.Tests.{eq-eqb, ne_eqb}
use Rattle.meaning.specs.Lists.{pick}
use Rattle.meaning.specs.Origins.{Shape}
use Rattle.meaning.specs.Clauses.{is_formal_sort, new_sort}
use Rattle.text_names.specs.Word.{name_of}
use Rattle.clause_pairs.specs.Pairs.{Renamed}
use Rattle.clause_translation.specs.declared.Mode.{Mode}
use Rattle.clause_translation.specs.Translation.{mode_formals, sort_name}
use Rattle.clause_translation.specs.Moved.{NewSort, is_formal_function, shape_name}

module _ (text tape w : List ℕ) (m : Mode) (a : ℕ) where
  pub sort_stays : m.kind ≡ 0 → NewSort text tape w m a a
  unfolding sort_name pick
  sort_stays h = record { name = rw (eq-eqb m.kind 0 h); small = λ u. u }

  module _ (h : m.kind ≡ 0 → ⊥) where
    pub sort_renamed : (r : ℕ) → m.kind ≡ 1 → Renamed text tape m.pairs a r → NewSort text tape w m a r
    unfolding sort_name pick
    sort_renamed r l n = record {
      name = n.name ∙ rw (ne_eqb m.kind 0 h, eq-eqb m.kind 1 l);
      small = n.small;
    }

    module _ (l : m.kind ≡ 1 → ⊥) (b : Bool)
        (f : b ≡ is_formal_sort (mode_formals text tape w m) (name_of text a)) where
      pub sort_bound : (r : ℕ) → b ≡ true → Renamed text tape m.pairs a r → NewSort text tape w m a r
      unfolding sort_name new_sort pick
      sort_bound r q n = record {
        name = n.name ∙ rw (ne_eqb m.kind 0 h, ne_eqb m.kind 1 l, ← f, q);
        small = n.small;
      }

      pub sort_free : b ≡ false → NewSort text tape w m a a
      unfolding sort_name new_sort pick
      sort_free q = record { name = rw (ne_eqb m.kind 0 h, ne_eqb m.kind 1 l, ← f, q); small = λ u. u }

module _ (text tape w : List ℕ) (m : Mode) (a : ℕ) (s : Shape) where
  pub function_stays : m.kind ≡ 0 → name_of text a ≡ shape_name text tape w m (name_of text a) s
  unfolding shape_name pick
  function_stays h = rw (eq-eqb m.kind 0 h)

  module _ (h : m.kind ≡ 0 → ⊥) where
    pub function_renamed : (r : ℕ) → m.kind ≡ 1 → Renamed text tape m.pairs a r → name_of text r ≡ shape_name text tape w m (name_of text a) s
    unfolding shape_name pick
    function_renamed r l n = n.name ∙ rw (ne_eqb m.kind 0 h, eq-eqb m.kind 1 l)

    module _ (l : m.kind ≡ 1 → ⊥) (b : Bool) (f : b ≡ is_formal_function (mode_formals text tape w m) (name_of text a) s) where
      pub function_bound : (r : ℕ) → b ≡ true → Renamed text tape m.pairs a r → name_of text r ≡ shape_name text tape w m (name_of text a) s
      unfolding shape_name pick
      function_bound r q n = n.name ∙ rw (ne_eqb m.kind 0 h, ne_eqb m.kind 1 l, ← f, q)

      pub function_free : b ≡ false → name_of text a ≡ shape_name text tape w m (name_of text a) s
      unfolding shape_name pick
      function_free q = rw (ne_eqb m.kind 0 h, ne_eqb m.kind 1 l, ← f, q)

pub ruleset kinds = (
  sort_stays,
  sort_renamed,
  sort_bound,
  sort_free,
  function_stays,
  function_renamed,
  function_bound,
  function_free,
  rules,
)
