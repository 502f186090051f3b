-- What is computed of a diagram are its first lines: none is left out before the limit. So a diagram of at most 1,024 lines is answered whole, and a
-- longer one by 18.
use Rattle.std.specs.Prelude.{◌≡◌, Bool, true, false, take}
use Rattle.std.proofs.Math.Path.{refl, sym, ap}
use Rattle.std.proofs.Common.{◌∙◌, arith}
use Prim.Native.Nat.{ℕ, zero, suc, ◌-◌, ◌<◌, ◌≤◌}
use mathlib.Core.List.{List, [], ◌∷◌, ◌++◌}
use borrow.Author.Tests.{lt-leb, le-leb}
use Rattle.std.proofs.Math.ListN.{length, length-take}
use Rattle.std.proofs.Math.Seq.{take_all, take-nil}
use Rattle.meaning.specs.Lists.{pick, each}
use Rattle.meaning.specs.Names.{Name, same, member}
use Rattle.meaning.specs.Numbers.{no_room, asked_absent}
use Rattle.meaning.specs.Syntax.{Module}
use Rattle.meaning.specs.Checks.{lone}
use Rattle.meaning.specs.Listing.{Line}
use Rattle.meaning.specs.Reached.{module_names, short_or_blank}
use Rattle.meaning.specs.Texts.{all_read}
use Rattle.meaning.specs.Answer.{refusal}
use Rattle.diagram_meaning.specs.Diagram.{Expression, diagram_limit, expressions_of, asked_expression, absent_line, own_lines, drawn, latest_first, diagram, then_more, first_each, first_drawn, first_lines}
use Rattle.diagram_meaning.specs.Answer.{lines_answer, of_drawing}
use Rattle.diagram_meaning.specs.Bounded.{drawing}

-- the front of two lists: that of the first, and of the second what is left
front_append : {B : Type 0} (n : ℕ) (xs ys : List B) → take n (xs ++ ys) ≡ take n xs ++ take (n - length (take n xs)) ys
front_append zero xs ys = refl
front_append (suc n) [] ys = let z : suc n ≡ suc n - 0 = omega arith in ap (λ (k : ℕ). take k ys) z
front_append {B} (suc n) (x ∷ xs) ys =
    let z : suc n - suc (length (take n xs)) ≡ n - length (take n xs) = omega arith in
    ap (λ (r : List B). x ∷ r) (front_append n xs ys ∙ ap (λ (k : ℕ). take n xs ++ take k ys) (sym z))

module _ {A B : Type 0} (f : ℕ → A → List B) (g : A → List B) (h : (n : ℕ) (x : A) → f n x ≡ take n (g x)) where
  front_each : (xs : List A) (n : ℕ) → first_each f xs n ≡ take n (each g xs)
  unfolding first_each each then_more
  front_each [] n = sym (take-nil n)
  front_each (x ∷ xs) zero = refl
  front_each (x ∷ xs) (suc n) =
      rw (h (suc n) x, front_each xs (suc n - length (take (suc n) (g x)))) (sym (front_append (suc n) (g x) (each g xs)))

-- the first n lines of what is drawn
pub front_drawn : (es : List Module) (d n : ℕ) (x : Expression) → first_drawn es d n x ≡ take n (drawn es d x)
unfolding first_drawn drawn then_more pick
front_drawn [] d zero x = refl
front_drawn [] d (suc n) x = sym (ap (λ (r : List Line). absent_line d x.name ∷ r) (take-nil n))
front_drawn (m ∷ ms) d zero x = refl
front_drawn (m ∷ ms) d (suc n) x = go (λ k y. front_drawn ms (suc d) k y) (front_drawn ms d (suc n) x) (same x.name m.name)
  where
    own : List Line
    own = own_lines d m x.bindings

    inner : List Line
    inner = each (λ (y : Expression). drawn ms (suc d) y) (expressions_of m)

    left : ℕ
    left = suc n - length (take (suc n) own)

    go : ((k : ℕ) (y : Expression) → first_drawn ms (suc d) k y ≡ take k (drawn ms (suc d) y)) → first_drawn ms d (suc n) x ≡ take (suc n) (drawn ms d x)
        → (b : Bool)
        → pick b (take (suc n) own ++ first_each (λ (k : ℕ) (y : Expression). first_drawn ms (suc d) k y) (expressions_of m) left)
        (first_drawn ms d (suc n) x)
        ≡ take (suc n) (pick b (own ++ inner) (drawn ms d x))
    go f e true =
        ap (λ (r : List Line). take (suc n) own ++ r)
        (front_each (λ (k : ℕ) (y : Expression). first_drawn ms (suc d) k y) (λ (y : Expression). drawn ms (suc d) y) f (expressions_of m) left)
        ∙ sym (front_append (suc n) own inner)
    go f e false = e

pub front_diagram : (n : ℕ) (ms : List Module) (asked : Name) → first_lines n ms asked ≡ take n (diagram ms asked)
unfolding first_lines diagram
front_diagram n ms asked = front_drawn (latest_first [] ms) 0 n (asked_expression asked)

module _ (ms : List Module) (asked : Name) where
  module _ (there : member asked (module_names ms) ≡ true) where
    pub drawn_whole : length (diagram ms asked) ≤ diagram_limit → of_drawing asked (all_read ms) ≡ drawing (diagram ms asked)
    unfolding of_drawing lines_answer drawing pick
    drawn_whole l =
        let all : first_lines (suc diagram_limit) ms asked ≡ diagram ms asked =
        front_diagram (suc diagram_limit) ms asked ∙ take_all (suc diagram_limit) (diagram ms asked) (omega (arith, l)) in
        rw (there, all, le-leb (length (diagram ms asked)) diagram_limit l) refl

    pub drawn_over : diagram_limit < length (diagram ms asked) → of_drawing asked (all_read ms) ≡ refusal no_room 0 asked (lone []) 0
    unfolding of_drawing lines_answer pick
    drawn_over l =
        let size : length (first_lines (suc diagram_limit) ms asked) ≡ suc diagram_limit =
        ap length (front_diagram (suc diagram_limit) ms asked) ∙ length-take (suc diagram_limit) (diagram ms asked) ∙ omega (arith, l) in
        rw (there, lt-leb (length (first_lines (suc diagram_limit) ms asked)) diagram_limit (omega (arith, size))) refl

  pub drawn_absent : member asked (module_names ms) ≡ false
      → of_drawing asked (all_read ms) ≡ refusal asked_absent 0 asked (lone (short_or_blank asked)) 0
  unfolding of_drawing pick
  drawn_absent e = rw e refl
