-- What is made of a term's nodes one by one is made of the term: translation, and the count of nodes.
use Rattle.std.specs.Prelude.{◌≡◌, length}
use Rattle.std.proofs.Math.Path.{refl, sym, ap, ap₂}
use Rattle.std.proofs.Common.{◌∙◌, arith, length-append}
use Prim.Native.Nat.{ℕ, suc, ◌+◌}
use mathlib.Core.List.{List, [], ◌∷◌, ◌++◌, map}
use Rattle.meaning.specs.Lists.{each, sum}
use Rattle.meaning.specs.Names.{Name}
use Rattle.meaning.specs.Origins.{FunctionType, ResolvedTerm, var, app, ResolvedTerms, none_left, ◌and_then◌, ResolvedSides, ResolvedEquation}
use Rattle.meaning.specs.Normal.{move_sort, move_head, move_term, move_terms, move_sides, move_equation}
use Rattle.meaning.specs.Checks.{term_nodes, terms_nodes, sides_nodes, equation_nodes}
use Rattle.form.specs.Forms.{Node, function_node, variable_node, how_many, flat_term, flat_terms, flat_sides, flat_equation}

map_append : {A B : Type 0} (f : A → B) (xs ys : List A) → map f (xs ++ ys) ≡ map f xs ++ map f ys
map_append f [] ys = refl
map_append {A} {B} f (x ∷ xs) ys = ap (λ (r : List B). f x ∷ r) (map_append f xs ys)

-- ---- translation

module _ (σ : Name → Name) (φ : Name → FunctionType → Name) where
  unfoldable pub move_node : Node → Node
  move_node (function_node f k) = function_node (move_head σ φ f) k
  move_node (variable_node o s) = variable_node o (move_sort σ φ s)

  how_many_moved : (ts : ResolvedTerms) → how_many (move_terms σ φ ts) ≡ how_many ts
  unfolding how_many move_terms
  how_many_moved none_left = refl
  how_many_moved (t and_then ts) = ap suc (how_many_moved ts)

  mutual
    unfolding flat_term flat_terms move_term move_terms move_node

    term_moved : (t : ResolvedTerm) → flat_term (move_term σ φ t) ≡ map move_node (flat_term t)
    term_moved (var o s) = refl
    term_moved (app f ts) =
        ap₂ (λ (k : ℕ) (ns : List Node). function_node (move_head σ φ f) k ∷ ns) (how_many_moved ts) (terms_moved ts)

    terms_moved : (ts : ResolvedTerms) → flat_terms (move_terms σ φ ts) ≡ map move_node (flat_terms ts)
    terms_moved none_left = refl
    terms_moved (t and_then ts) = ap₂ ◌++◌ (term_moved t) (terms_moved ts) ∙ sym (map_append move_node (flat_term t) (flat_terms ts))

  sides_moved : (s : ResolvedSides) → flat_sides (move_sides σ φ s) ≡ map move_node (flat_sides s)
  unfolding flat_sides move_sides
  sides_moved s = ap₂ ◌++◌ (term_moved s.left) (term_moved s.right) ∙ sym (map_append move_node (flat_term s.left) (flat_term s.right))

  conditions_moved : (ss : List ResolvedSides) → each flat_sides (map (move_sides σ φ) ss) ≡ map move_node (each flat_sides ss)
  unfolding each
  conditions_moved [] = refl
  conditions_moved (s ∷ ss) = ap₂ ◌++◌ (sides_moved s) (conditions_moved ss) ∙ sym (map_append move_node (flat_sides s) (each flat_sides ss))

  pub equation_moved : (e : ResolvedEquation) → flat_equation (move_equation σ φ e) ≡ map move_node (flat_equation e)
  unfolding flat_equation move_equation
  equation_moved e =
      ap₂ ◌++◌ (sides_moved e.conclusion) (conditions_moved e.conditions)
      ∙ sym (map_append move_node (flat_sides e.conclusion) (each flat_sides e.conditions))

-- ---- how many nodes

mutual
  unfolding flat_term flat_terms term_nodes terms_nodes

  term_count : (t : ResolvedTerm) → length (flat_term t) ≡ term_nodes t
  term_count (var o s) = refl
  term_count (app f ts) = omega (arith, terms_count ts)

  terms_count : (ts : ResolvedTerms) → length (flat_terms ts) ≡ terms_nodes ts
  terms_count none_left = refl
  terms_count (t and_then ts) = length-append (flat_term t) (flat_terms ts) ∙ ap₂ ◌+◌ (term_count t) (terms_count ts)

sides_count : (s : ResolvedSides) → length (flat_sides s) ≡ sides_nodes s
unfolding flat_sides sides_nodes
sides_count s = length-append (flat_term s.left) (flat_term s.right) ∙ ap₂ ◌+◌ (term_count s.left) (term_count s.right)

conditions_count : (ss : List ResolvedSides) → length (each flat_sides ss) ≡ sum sides_nodes ss
unfolding each sum
conditions_count [] = refl
conditions_count (s ∷ ss) = length-append (flat_sides s) (each flat_sides ss) ∙ ap₂ ◌+◌ (sides_count s) (conditions_count ss)

pub equation_count : (e : ResolvedEquation) → length (flat_equation e) ≡ equation_nodes e
unfolding flat_equation equation_nodes
equation_count e =
    length-append (flat_sides e.conclusion) (each flat_sides e.conditions) ∙ ap₂ ◌+◌ (sides_count e.conclusion) (conditions_count e.conditions)
