-- An equation has no more nodes when it is typed than as it is read.
use Rattle.std.specs.Prelude.{List, ℕ, ◌≤◌}
use Rattle.std.proofs.Common.{arith}
use Rattle.meaning.specs.Lists.{sum}
use Rattle.meaning.specs.Syntax.{Equation}
use Rattle.meaning.specs.Origins.{ResolvedEquation, Item}
use Rattle.meaning.specs.Checks.{Outcome, term_nodes, terms_nodes, sides_nodes, equation_nodes}
use Rattle.meaning.specs.Typing.{no_arguments, typed_equations}
use Rattle.meaning.specs.OrderLaws.{Every}
use Rattle.laws.specs.Outcomes.{Gives}
use Rattle.laws.specs.Reading.{source_nodes, all_source_nodes, source_sides, source_equation}
use Rattle.laws.specs.TypingWalk.{Types, equations_so}

abbrev pub EachWithin : ℕ → Outcome (List ResolvedEquation) → Type 0
EachWithin n rs = Gives (Every (λ (r : ResolvedEquation). equation_nodes r ≤ n)) rs

module _ (known : List Item) (n : ℕ) where
  nodes_within : Types known (λ x t. term_nodes t.term ≤ source_nodes x) (λ xs ts. terms_nodes ts.terms ≤ all_source_nodes xs)
      (λ e c. sides_nodes c ≤ source_sides e) (λ es cs. sum sides_nodes cs ≤ sum source_sides es) (λ e. source_equation e ≤ n) (λ r. equation_nodes r ≤ n)
  unfolding term_nodes terms_nodes sides_nodes equation_nodes source_nodes all_source_nodes source_sides source_equation no_arguments sum
  nodes_within = record {
    function = λ f xs ts i t h m e q. omega (arith, h);
    variable = λ f i s m e. omega arith;
    nothing = omega arith;
    more = λ x xs t ts h k. omega (arith, h, k);
    sides = λ e l r h k q. omega (arith, h, k);
    no_condition = omega arith;
    conditions = λ e es c cs h k. omega (arith, h, k);
    equation = λ home at e c cs p h k. omega (arith, p, h, k);
  }

  pub equations_within : (home at : ℕ) (es : List Equation) → Every (λ (e : Equation). source_equation e ≤ n) es
      → EachWithin n (typed_equations known home at es)
  equations_within = equations_so nodes_within
