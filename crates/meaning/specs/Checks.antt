-- Outcomes, and the checks after each clause and each union (document 01, "Evaluating"): 15, 10, 11, and room, 18.
use Rattle.std.specs.Prelude.{ℕ, ◌+◌, Bool, false, not, ◌&&◌, ◌||◌, List, [], ◌∷◌, ◌++◌, leb, length}
use Rattle.std.proofs.Math.Option.{Option, none, some}
use Rattle.meaning.specs.Lists.{pick, any, sum, agree}
use Rattle.meaning.specs.Names.{Name, same, by_name}
use Rattle.meaning.specs.Numbers.{parameter_room, item_room, equation_room, item_total, equation_total, node_total, clashing, overloading, bad_parameter, no_room}
use Rattle.meaning.specs.Origins.{Section, export_section, hidden_section, parameter_section, same_origin, same_sort, ResolvedTerm, var, app, ResolvedTerms, none_left, ◌and_then◌, ResolvedSides, ResolvedEquation, Shape, sort_shape, function_shape, variable_shape, same_shape, is_sort, is_function, Item, in_parameter}
use Rattle.meaning.specs.Normal.{Slot, Visible, Normal}

-- ---- outcomes

-- the culprit: its name, and where a binding's pair is wrong the actual name too
pub record Culprit : Type 0 where
  pub name : Name
  pub actual : Name

-- no actual name
abbrev pub lone : Name → Culprit
lone w = record { name = w; actual = [] }

-- what comes out, or the refusal's number and the culprit
pub data Outcome (A : Type 0) : Type 0 where
  fine : A → Outcome A
  stop : ℕ → Culprit → Outcome A

infixl 20 ◌>>=◌
infixl 20 ◌>>◌
unfoldable pub ◌>>=◌ : {A B : Type 0} → Outcome A → (A → Outcome B) → Outcome B
◌>>=◌ (fine a) f = f a
◌>>=◌ (stop k w) f = stop k w

unfoldable pub ◌>>◌ : {A B : Type 0} → Outcome A → Outcome B → Outcome B
◌>>◌ (fine a) m = m
◌>>◌ (stop k w) m = stop k w

abbrev pub Check : Type 0
Check = Outcome (Unit {0})

-- the refusal k of the culprit, if there is one
unfoldable pub unless : ℕ → Option Name → Check
unless k none = fine tt
unless k (some w) = stop k (lone w)

-- the refusal k of the culprit where the test fails
unfoldable pub needs : ℕ → Culprit → Bool → Check
needs k c right = pick right (fine tt) (stop k c)

-- each is asked in turn, beside the names of those before it
unfoldable pub each_beside : {A : Type 0} → (A → Name) → (List Name → A → Check) → List Name → List A → Check
each_beside called ask met [] = fine tt
each_beside called ask met (x ∷ xs) = ask met x >> each_beside called ask (called x ∷ met) xs

-- ---- clashes are sought pair by pair, and the search stops at the first

-- the first item that does not go with a later one
unfoldable pub at_odds : {A : Type 0} → (A → Name) → (A → A → Bool) → List A → Option Name
at_odds called wrong [] = none
at_odds called wrong (x ∷ xs) = let r = at_odds called wrong xs in pick (any (wrong x) xs) (some (called x)) r

-- the least name, bytes ascending: in an ordered list it is the first
unfoldable pub least_at_odds : {A : Type 0} → (A → Name) → (A → A → Bool) → List A → Option Name
least_at_odds called wrong xs = at_odds called wrong (by_name called xs)

-- different origins
unfoldable pub other_origin : Item → Item → Bool
other_origin a b = not (same_origin a.origin b.origin)

unfoldable pub sorts_clash : Item → Item → Bool
sorts_clash a b = is_sort a.shape && is_sort b.shape && same a.name b.name && other_origin a b

unfoldable pub functions_clash : Item → Item → Bool
functions_clash a b = is_function a.shape && same_shape a.shape b.shape && same a.name b.name && other_origin a b

-- functions of equal input type with different output
unfoldable pub other_output : Shape → Shape → Bool
other_output sort_shape u = false
other_output (variable_shape s) u = false
other_output (function_shape t) sort_shape = false
other_output (function_shape t) (variable_shape s) = false
other_output (function_shape t) (function_shape u) = agree same_sort t.inputs u.inputs && not (same_sort t.output u.output)

-- functions of one parameter
unfoldable pub in_one_parameter : Section → Section → Bool
in_one_parameter export_section t = false
in_one_parameter hidden_section t = false
in_one_parameter (parameter_section p) t = in_parameter p t

unfoldable pub both_in_one : Item → Item → Bool
both_in_one a b = is_function a.shape && is_function b.shape && in_one_parameter a.standing b.standing

unfoldable pub overloaded : Item → Item → Bool
overloaded a b = same a.name b.name && (other_output a.shape b.shape || both_in_one a b)

-- two parameters of one name that did not become one 15, clash 10 (sorts first), overloading 11. Imported hidden items never clash: `own` are
-- M's own hidden items, and none before these are joined
unfoldable pub consistent : Visible → List Item → Check
consistent v own =
    let items = v.items ++ own in
    do
      unless bad_parameter (least_at_odds (λ (p : Slot). p.name) (λ p q. same p.name q.name) v.parameters)
      unless clashing (least_at_odds (λ (i : Item). i.name) sorts_clash items)
      unless clashing (least_at_odds (λ (i : Item). i.name) functions_clash items)
      unless overloading (least_at_odds (λ (i : Item). i.name) overloaded items)

-- ---- room

-- sorts, functions and variables together; equations; term nodes. Parameters are no items
pub record Size : Type 0 where
  pub items : ℕ
  pub equations : ℕ
  pub nodes : ℕ

unfoldable mutual
  pub term_nodes : ResolvedTerm → ℕ
  term_nodes (var o s) = 1
  term_nodes (app f xs) = 1 + terms_nodes xs

  pub terms_nodes : ResolvedTerms → ℕ
  terms_nodes none_left = 0
  terms_nodes (x and_then xs) = term_nodes x + terms_nodes xs

unfoldable pub sides_nodes : ResolvedSides → ℕ
sides_nodes e = term_nodes e.left + term_nodes e.right

unfoldable pub equation_nodes : ResolvedEquation → ℕ
equation_nodes e = sides_nodes e.conclusion + sum sides_nodes e.conditions

unfoldable pub size : Normal → Size
size n = record {
  items = length n.visible.items + length n.hidden.items;
  equations = length n.hidden.equations;
  nodes = sum equation_nodes n.hidden.equations;
}

unfoldable pub add_sizes : Size → Size → Size
add_sizes a b = record { items = a.items + b.items; equations = a.equations + b.equations; nodes = a.nodes + b.nodes }

-- 18, with a blank culprit, where the test fails
unfoldable pub fits : Bool → Check
fits enough = needs no_room (lone []) enough

-- one normal form
unfoldable pub room : Normal → Check
room n =
    fits
    (leb (length n.visible.parameters) parameter_room && leb (size n).items item_room && leb (size n).equations equation_room)

-- the normal forms of all modules evaluated, together
unfoldable pub total_room : Size → Check
total_room t = fits (leb t.items item_total && leb t.equations equation_total && leb t.nodes node_total)

-- ---- after each clause and each union

unfoldable pub checked : Normal → Outcome Normal
checked n = do
  consistent n.visible []
  room n
  fine n

-- opens every definition of this file
unfoldable pub checks_opened : Unit {0}
unfolding ◌>>=◌ ◌>>◌ unless needs each_beside at_odds least_at_odds other_origin sorts_clash functions_clash other_output in_one_parameter both_in_one overloaded consistent term_nodes sides_nodes equation_nodes size add_sizes fits room total_room checked
checks_opened = tt
