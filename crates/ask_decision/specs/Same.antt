-- Whether two modules are the same: a test for each thing that is read, which says yes of a thing and itself, and only of equals.
use Rattle.std.specs.Prelude.{◌≡◌, refl, Bool, true, false, ◌&&◌, List}
use Rattle.std.proofs.Common.{ap, ap₂}
use Rattle.std.proofs.lemmas.Bool.{false≢true}
use Rattle.meaning.specs.Lists.{agree}
use Rattle.meaning.specs.Names.{Name, same}
use Rattle.meaning.specs.OrderLaws.{same_self, same_equal}
use Rattle.meaning.specs.Syntax.{Signature, Parameter, Pair, Clause, renamed_by, bound_by, Import, VariableGroup, Term, Terms, node, no_terms, ◌then◌, Sides, Equation, Module}
use Rattle.meaning.specs.Evaluate.{same_function}
use Rattle.laws.specs.Decides.{both_true, Decides, names_decided, agree_decided, both_decided, by_parts}

-- ---- the tests

unfoldable pub same_signature : Signature → Signature → Bool
same_signature a b = agree same a.sorts b.sorts && agree same_function a.functions b.functions

unfoldable pub same_parameter : Parameter → Parameter → Bool
same_parameter a b = same a.name b.name && same_signature a.signature b.signature

unfoldable pub same_pair : Pair → Pair → Bool
same_pair a b = same a.old b.old && same a.new b.new

unfoldable pub same_clause : Clause → Clause → Bool
same_clause (renamed_by rs) (renamed_by qs) = agree same_pair rs qs
same_clause (renamed_by rs) (bound_by p qs m) = false
same_clause (bound_by p rs m) (renamed_by qs) = false
same_clause (bound_by p rs m) (bound_by q qs n) = same p q && (agree same_pair rs qs && same m n)

unfoldable pub same_import : Import → Import → Bool
same_import a b = same a.name b.name && agree same_clause a.clauses b.clauses

unfoldable pub same_group : VariableGroup → VariableGroup → Bool
same_group a b = agree same a.names b.names && same a.sort b.sort

unfoldable mutual
  pub same_term : Term → Term → Bool
  same_term (node f xs) (node g ys) = same f g && same_terms xs ys

  pub same_terms : Terms → Terms → Bool
  same_terms no_terms no_terms = true
  same_terms no_terms (y then ys) = false
  same_terms (x then xs) no_terms = false
  same_terms (x then xs) (y then ys) = same_term x y && same_terms xs ys

unfoldable pub same_sides : Sides → Sides → Bool
same_sides a b = same_term a.left b.left && same_term a.right b.right

unfoldable pub same_equation : Equation → Equation → Bool
same_equation a b =
    same a.tag b.tag
    && (agree same_sides a.before b.before && (same_sides a.conclusion b.conclusion && agree same_sides a.after b.after))

-- what they hide
unfoldable pub same_hidden : Module → Module → Bool
same_hidden a b = same_signature a.hidden b.hidden && (agree same_group a.groups b.groups && agree same_equation a.equations b.equations)

unfoldable pub same_module : Module → Module → Bool
same_module a b =
    same a.name b.name
    && (agree same_parameter a.parameters b.parameters
    && (same_signature a.exports b.exports && (agree same_import a.imports b.imports && same_hidden a b)))

-- opens every test of this file
unfoldable pub same_opened : Unit {0}
unfolding same_signature same_parameter same_pair same_clause same_import same_group same_term same_sides same_equation same_hidden same_module
same_opened = tt

-- ---- they decide

function_decided : Decides same_function
unfolding same_function
function_decided =
    by_parts (both_decided (both_decided names_decided (agree_decided names_decided)) names_decided)
    (λ f. ((f.name, f.inputs), f.output)) (λ p. record { name = p.0.0; inputs = p.0.1; output = p.1 }) (λ f. refl)

pub signatures_decided : Decides same_signature
unfolding same_signature
signatures_decided =
    by_parts (both_decided (agree_decided names_decided) (agree_decided function_decided))
    (λ s. (s.sorts, s.functions)) (λ p. record { sorts = p.0; functions = p.1 }) (λ s. refl)

parameter_decided : Decides same_parameter
unfolding same_parameter
parameter_decided =
    by_parts (both_decided names_decided signatures_decided) (λ m. (m.name, m.signature)) (λ p. record { name = p.0; signature = p.1 }) (λ m. refl)

pub parameters_decided : Decides (agree same_parameter)
parameters_decided = agree_decided parameter_decided

pairs_decided : Decides (agree same_pair)
unfolding same_pair
pairs_decided =
    agree_decided (by_parts (both_decided names_decided names_decided) (λ r. (r.old, r.new)) (λ p. record { old = p.0; new = p.1 }) (λ r. refl))

clause_decided : Decides same_clause
unfolding same_clause
clause_decided = record { self = self; equal = equal }
  where
    bound : Decides (λ (u v : Name × (List Pair × Name)). same u.0 v.0 && (agree same_pair u.1.0 v.1.0 && same u.1.1 v.1.1))
    bound = both_decided names_decided (both_decided pairs_decided names_decided)

    self : (c : Clause) → same_clause c c ≡ true
    self (renamed_by rs) = pairs_decided.self rs
    self (bound_by p rs m) = bound.self (p, (rs, m))

    equal : (c d : Clause) → same_clause c d ≡ true → c ≡ d
    equal (renamed_by rs) (renamed_by qs) h = ap renamed_by (pairs_decided.equal rs qs h)
    equal (renamed_by rs) (bound_by p qs m) h = absurd (false≢true h)
    equal (bound_by p rs m) (renamed_by qs) h = absurd (false≢true h)
    equal (bound_by p rs m) (bound_by q qs n) h =
        ap (λ (u : Name × (List Pair × Name)). bound_by u.0 u.1.0 u.1.1) (bound.equal (p, (rs, m)) (q, (qs, n)) h)

import_decided : Decides same_import
unfolding same_import
import_decided =
    by_parts (both_decided names_decided (agree_decided clause_decided))
    (λ m. (m.name, m.clauses)) (λ p. record { name = p.0; clauses = p.1 }) (λ m. refl)

pub imports_decided : Decides (agree same_import)
imports_decided = agree_decided import_decided

group_decided : Decides same_group
unfolding same_group
group_decided =
    by_parts (both_decided (agree_decided names_decided) names_decided) (λ g. (g.names, g.sort)) (λ p. record { names = p.0; sort = p.1 }) (λ g. refl)

mutual
  unfolding same_term

  term_self : (t : Term) → same_term t t ≡ true
  term_self (node f xs) = rw (same_self f, terms_self xs)

  terms_self : (ts : Terms) → same_terms ts ts ≡ true
  terms_self no_terms = refl
  terms_self (x then xs) = rw (term_self x, terms_self xs)

mutual
  unfolding same_term

  term_equal : (t u : Term) → same_term t u ≡ true → t ≡ u
  term_equal (node f xs) (node g ys) h = let p = both_true (same f g) _ h in ap₂ node (same_equal f g p.0) (terms_equal xs ys p.1)

  terms_equal : (ts us : Terms) → same_terms ts us ≡ true → ts ≡ us
  terms_equal no_terms no_terms h = refl
  terms_equal no_terms (y then ys) h = absurd (false≢true h)
  terms_equal (x then xs) no_terms h = absurd (false≢true h)
  terms_equal (x then xs) (y then ys) h =
      let p = both_true (same_term x y) _ h in ap₂ ◌then◌ (term_equal x y p.0) (terms_equal xs ys p.1)

sides_decided : Decides same_sides
unfolding same_sides
sides_decided =
    by_parts (both_decided terms_decided terms_decided) (λ e. (e.left, e.right)) (λ p. record { left = p.0; right = p.1 }) (λ e. refl)
  where
    terms_decided : Decides same_term
    terms_decided = record { self = term_self; equal = term_equal }

equation_decided : Decides same_equation
unfolding same_equation
equation_decided =
    let conditions = agree_decided sides_decided in
    by_parts (both_decided names_decided (both_decided conditions (both_decided sides_decided conditions)))
    (λ e. (e.tag, (e.before, (e.conclusion, e.after))))
    (λ p. record { tag = p.0; before = p.1.0; conclusion = p.1.1.0; after = p.1.1.1 }) (λ e. refl)

pub modules_decided : Decides same_module
unfolding same_module same_hidden
modules_decided =
    let hides = both_decided signatures_decided (both_decided (agree_decided group_decided) (agree_decided equation_decided)) in
    by_parts (both_decided names_decided (both_decided parameters_decided (both_decided signatures_decided (both_decided imports_decided hides))))
    (λ m. (m.name, (m.parameters, (m.exports, (m.imports, (m.hidden, (m.groups, m.equations))))))) (λ p. record {
      name = p.0;
      parameters = p.1.0;
      exports = p.1.1.0;
      imports = p.1.1.1.0;
      hidden = p.1.1.1.1.0;
      groups = p.1.1.1.1.1.0;
      equations = p.1.1.1.1.1.1;
    }) (λ m. refl)
