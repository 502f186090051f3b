-- The roles of a module laid flat, part by part: what holds of the roles that a part may have holds of all its entries.
use Prim.Native.Nat.{ℕ, zero, suc, ◌≤◌, ◌<◌}
use Rattle.std.proofs.Common.{arith}
use Rattle.std.specs.Prelude.{Bool, eqb}
use Rattle.std.proofs.Math.Bool.{true, false}
use mathlib.Core.List.{List, [], ◌∷◌, ◌++◌, map}
use Rattle.meaning.specs.Lists.{pick, each}
use Rattle.meaning.specs.Names.{Name, is_operator}
use Rattle.meaning.specs.OrderLaws.{Every}
use Rattle.meaning.specs.Syntax.{Function, Signature, Parameter, Pair, Clause, renamed_by, bound_by, Import, VariableGroup}
use Rattle.meaning.specs.Syntax.{Term, node, Terms, no_terms, ◌then◌, Sides, Equation, Module}
use Rattle.laws.specs.EveryLaws.{every_append, every_made, each_made}
use Rattle.tape.specs.Tape.{Entry, entry, export_sort, export_function, hidden_sort, hidden_function, flat_function, flat_signature, flat_parameter}
use Rattle.tape.specs.Tape.{flat_pair, flat_clause, flat_import, flat_group, role_with, closing, flat_node, how_many, flat_term, flat_terms, flat_sides, flat_equation}

-- all roles of the entries pass
abbrev pub All : (ℕ → Type 0) → List Entry → Type 0
All P es = Every (λ (e : Entry). P e.role) es

-- a module's entries behind its parameters, and behind its name
abbrev pub behind_parameters : Module → List Entry
behind_parameters m =
    flat_signature export_sort export_function m.exports
    ++ (each flat_import m.imports
    ++ (flat_signature hidden_sort hidden_function m.hidden ++ (each flat_group m.groups ++ each flat_equation m.equations)))

unfoldable pub behind_name : Module → List Entry
behind_name m = each flat_parameter m.parameters ++ behind_parameters m

module _ (P : ℕ → Type 0) where
  pub all_append : (es fs : List Entry) → All P es → All P fs → All P (es ++ fs)
  all_append es fs h l = every_append (λ (e : Entry). P e.role) es fs h l

  pub all_map : (r : ℕ) → P r → (ns : List Name) → All P (map (entry r) ns)
  all_map r h ns = every_made (λ (e : Entry). P e.role) (entry r) (λ n. h) ns

  pub all_each : {A : Type 0} (f : A → List Entry) → ((x : A) → All P (f x)) → (xs : List A) → All P (each f xs)
  all_each f h xs = each_made (λ (e : Entry). P e.role) f h xs

  all_last : (es : List Entry) (e : Entry) → All P es → P e.role → All P (es ++ (e ∷ []))
  all_last es e h l = all_append es (e ∷ []) h (l, tt)

  -- ---- declarations

  -- the sorts of a function, behind its name
  pub all_type : P 9 → P 10 → (f : Function) → All P (map (entry 9) f.inputs ++ (entry 10 f.output ∷ []))
  all_type h l f = all_last (map (entry 9) f.inputs) (entry 10 f.output) (all_map 9 h f.inputs) l

  pub all_signature : (q r : ℕ) → P q → P r → P 9 → P 10 → (g : Signature) → All P (flat_signature q r g)
  unfolding flat_signature flat_function
  all_signature q r h l n o g =
      all_append (map (entry q) g.sorts) _ (all_map q h g.sorts) (all_each (flat_function r) (λ f. (l, all_type n o f)) g.functions)

  pub all_parameters : P 2 → P 3 → P 4 → P 9 → P 10 → (ps : List Parameter) → All P (each flat_parameter ps)
  unfolding flat_parameter
  all_parameters h k l n o ps = all_each flat_parameter (λ p. (h, all_signature 3 4 k l n o p.signature)) ps

  pub all_groups : P 17 → P 18 → (gs : List VariableGroup) → All P (each flat_group gs)
  unfolding flat_group
  all_groups h l gs = all_each flat_group (λ g. all_last (map (entry 17) g.names) (entry 18 g.sort) (all_map 17 h g.names) l) gs

  -- ---- imports

  module _ (h14 : P 14) (h15 : P 15) where
    pub all_pairs : (ps : List Pair) → All P (each flat_pair ps)
    unfolding flat_pair
    all_pairs ps = all_each flat_pair (λ p. (h14, (h15, tt))) ps

    -- a binding's pairs, and its actual module
    pub all_bound : P 16 → (ps : List Pair) (m : Name) → All P (each flat_pair ps ++ (entry 16 m ∷ []))
    all_bound h16 ps m = all_last (each flat_pair ps) (entry 16 m) (all_pairs ps) h16

    pub all_clauses : P 12 → P 13 → P 16 → (cs : List Clause) → All P (each flat_clause cs)
    unfolding flat_clause
    all_clauses h12 h13 h16 cs = all_each flat_clause one cs
      where
        one : (c : Clause) → All P (flat_clause c)
        one (renamed_by ps) = (h12, all_pairs ps)
        one (bound_by p ps m) = (h13, all_bound h16 ps m)

  pub each_import : P 11 → P 12 → P 13 → P 14 → P 15 → P 16 → (is : List Import) → All P (each flat_import is)
  unfolding flat_import
  each_import h11 h12 h13 h14 h15 h16 is = all_each flat_import (λ i. (h11, all_clauses h14 h15 h12 h13 h16 i.clauses)) is

  pub all_imports : ((r : ℕ) → 11 ≤ r → r < 17 → P r) → (is : List Import) → All P (each flat_import is)
  all_imports h is =
      each_import (h 11 (omega arith) (omega arith)) (h 12 (omega arith) (omega arith)) (h 13 (omega arith) (omega arith))
      (h 14 (omega arith) (omega arith)) (h 15 (omega arith) (omega arith)) (h 16 (omega arith) (omega arith)) is

  -- ---- equations

  -- the role of a name with arguments
  pub all_role : P 21 → P 25 → P 26 → (f : Name) (n : ℕ) → P (role_with f n)
  unfolding role_with pick
  all_role h21 h25 h26 f n = go (is_operator f) (eqb n 1) (eqb n 2)
    where
      go : (x y z : Bool) → P (pick x (pick y 25 (pick z 26 21)) 21)
      go true true z = h25
      go true false true = h26
      go true false false = h21
      go false y z = h21

  module _ (h20 : P 20) (h21 : P 21) (h22 : P 22) (h25 : P 25) (h26 : P 26) where
    all_closing : (r : ℕ) → All P (closing r)
    unfolding closing pick
    all_closing r = go (eqb r 21)
      where
        go : (b : Bool) → All P (pick b (entry 22 [] ∷ []) [])
        go true = (h22, tt)
        go false = tt

    all_node : (f : Name) (n : ℕ) (es : List Entry) → All P es → All P (flat_node f n es)
    unfolding flat_node
    all_node f zero es l = (h20, tt)
    all_node f (suc n) es l = (all_role h21 h25 h26 f (suc n), all_append es _ l (all_closing (role_with f (suc n))))

    mutual
      unfolding flat_term

      all_term : (t : Term) → All P (flat_term t)
      all_term (node f ts) = all_node f (how_many ts) (flat_terms ts) (all_terms ts)

      all_terms : (ts : Terms) → All P (flat_terms ts)
      all_terms no_terms = tt
      all_terms (t then ts) = all_append (flat_term t) (flat_terms ts) (all_term t) (all_terms ts)

    all_sides : (r : ℕ) → P r → (s : Sides) → All P (flat_sides r s)
    unfolding flat_sides
    all_sides r h s = all_append (flat_term s.left) _ (all_term s.left) (all_last (flat_term s.right) (entry r []) (all_term s.right) h)

    -- what follows an equation's tag
    pub all_behind_tag : P 23 → P 24 → (e : Equation)
        → All P (each (flat_sides 23) e.before ++ (flat_sides 24 e.conclusion ++ each (flat_sides 23) e.after))
    all_behind_tag h23 h24 e =
        all_append (each (flat_sides 23) e.before) _ (all_each (flat_sides 23) (all_sides 23 h23) e.before)
        (all_append (flat_sides 24 e.conclusion) _ (all_sides 24 h24 e.conclusion) (all_each (flat_sides 23) (all_sides 23 h23) e.after))

  pub all_equations : ((r : ℕ) → 19 ≤ r → P r) → (es : List Equation) → All P (each flat_equation es)
  unfolding flat_equation
  all_equations h es = all_each flat_equation (λ e. (h 19 (omega arith), one e)) es
    where
      one : (e : Equation) → All P (each (flat_sides 23) e.before ++ (flat_sides 24 e.conclusion ++ each (flat_sides 23) e.after))
      one =
          all_behind_tag (h 20 (omega arith)) (h 21 (omega arith)) (h 22 (omega arith)) (h 25 (omega arith)) (h 26 (omega arith))
          (h 23 (omega arith)) (h 24 (omega arith))

  -- ---- the module

  pub all_behind_parameters : ((r : ℕ) → 5 ≤ r → P r) → (m : Module) → All P (behind_parameters m)
  all_behind_parameters h m =
      all_append (flat_signature 5 6 m.exports) _
      (all_signature 5 6 (h 5 (omega arith)) (h 6 (omega arith)) (h 9 (omega arith)) (h 10 (omega arith)) m.exports)
      (all_append (each flat_import m.imports) _ (all_imports (λ r k l. h r (omega arith)) m.imports)
      (all_append (flat_signature 7 8 m.hidden) _
      (all_signature 7 8 (h 7 (omega arith)) (h 8 (omega arith)) (h 9 (omega arith)) (h 10 (omega arith)) m.hidden)
      (all_append (each flat_group m.groups) _ (all_groups (h 17 (omega arith)) (h 18 (omega arith)) m.groups)
      (all_equations (λ r k. h r (omega arith)) m.equations))))

  pub all_behind : ((r : ℕ) → 2 ≤ r → P r) → (m : Module) → All P (behind_name m)
  unfolding behind_name
  all_behind h m =
      all_append (each flat_parameter m.parameters) _
      (all_parameters (h 2 (omega arith)) (h 3 (omega arith)) (h 4 (omega arith)) (h 9 (omega arith)) (h 10 (omega arith)) m.parameters)
      (all_behind_parameters (λ r k. h r (omega arith)) m)
