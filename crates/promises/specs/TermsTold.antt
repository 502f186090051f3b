-- A well-typed equation can be told from its written line: names, brackets and commas tell the nodes, and of a visible function, which is
-- written by its name alone, the arguments' sorts tell the type, since no two have one name and input type (11).
use Rattle.std.specs.Prelude.{◌≡◌, Bool, true, false, ◌&&◌, ◌||◌, eqb, length}
use Rattle.std.proofs.Math.Path.{refl, sym, ap, ap₂}
use Rattle.std.proofs.Common.{subst, ◌∙◌, ⊎_elim, arith}
use Prim.Native.Nat.{ℕ, ◌+◌, ◌^◌, ◌<◌}
use Rattle.std.proofs.lemmas.Bool.{false≢true, not-false}
use mathlib.Core.List.Memᴰ
use mathlib.Core.List.{List, [], ◌∷◌, ◌++◌, map, append_assoc, append-nil, append_cancel_left, Memᴰ}
use Rattle.meaning.specs.Lists.{pick, before, agree}
use Rattle.meaning.specs.Names.{bytes, byte, Name, same}
use Rattle.meaning.specs.Tokens.{is_in, is_word}
use Rattle.meaning.specs.Origins.{Origin, same_origin, Sort, same_sort, FunctionType, Head, visible_head, hidden_head, ResolvedTerm, var, app, ResolvedTerms, none_left, ◌and_then◌, ResolvedSides, ResolvedEquation, Shape, function_shape, variable_shape, same_shape, Item}
use Rattle.meaning.specs.Written.{numbered, between_marks, argument_text, head_text, variable_text, term_text, term_texts, sides_text, conditions_text, equation_text}
use Rattle.meaning.specs.Normal.{Visible}
use Rattle.meaning.specs.Checks.{fine, other_output, overloaded, consistent}
use Rattle.meaning.specs.OrderLaws.{Every, same_self}
use Rattle.meaning.specs.OutcomeLaws.{unless_fine}
use Rattle.laws.specs.Decides.{both_true, agree_self, origins_decided, shapes_decided, sorts_decided}
use Rattle.laws.specs.EveryLaws.{every_member}
use Rattle.laws.specs.Outcomes.{both_fine as then_fine}
use Rattle.promises.specs.ListingLaws.{rest_of, not_empty, Within, StartsOutside, starts, told_run, apart, in_name, in_sort, Plain, plain_sort, told_number, number_written, passes_both, before_most, no_name}
use Rattle.promises.specs.Sound.{compatible}
use Rattle.promises.specs.WellTyped.{head_type, sorts_of, Named, From, TypedHead, TypedTerm, TypedTerms, TypedSides, TypedEquation}

-- functions of one name and input type are of one type
abbrev pub OneOutput : List Item → Type 0
OneOutput is =
    (a b : Item) (t u : FunctionType) → Memᴰ a is → Memᴰ b is → a.name ≡ b.name → a.shape ≡ function_shape t
    → b.shape ≡ function_shape u → t.inputs ≡ u.inputs → t ≡ u

-- what an equation says: all but its module and its position there
pub record Content : Type 0 where
  pub tag : Name
  pub conclusion : ResolvedSides
  pub conditions : List ResolvedSides

unfoldable pub content : ResolvedEquation → Content
content e = record { tag = e.tag; conclusion = e.conclusion; conditions = e.conditions }

-- what stands in a written node, or opens its arguments: none of what may follow a term
in_node : ℕ → Bool
in_node b = in_sort b || eqb b (byte "(")

abbrev Closed : List ℕ → Type 0
Closed s = StartsOutside in_node s

closed_outside : (s : List ℕ) → Closed s → StartsOutside in_sort s
unfolding in_node
closed_outside [] c = tt
closed_outside (b ∷ s) c = go (in_sort b) c
  where
    go : (q : Bool) → (q || eqb b (byte "(")) ≡ false → q ≡ false
    go true c = c
    go false c = refl

-- how a hidden function or variable is found among the hidden items
abbrev place_test : Origin → Shape → Item → Bool
place_test o s i = same_origin o i.origin && same_shape s i.shape

from_passes : {hidden : List Item} {o : Origin} {s : Shape} (d : From hidden o s) → place_test o s d.0 ≡ true
from_passes {o = o} {s = s} d = rw (d.2, d.3, origins_decided.self o, shapes_decided.self s)

module _ (hidden : List Item) (few : length hidden + 1 < 10 ^ 10) where
  -- the number of a hidden function or variable tells its origin and its type
  told_place : (o p : Origin) (s t : Shape) → From hidden o s → From hidden p t
      → numbered (before (place_test o s) hidden + 1) ≡ numbered (before (place_test p t) hidden + 1) → (o ≡ p) × (s ≡ t)
  told_place o p s t d d' e =
      let a = before_most (place_test o s) hidden in
      let b = before_most (place_test p t) hidden in
      let f = told_number _ _ (omega arith) (omega arith) e in
      let r = passes_both (place_test o s) (place_test p t) hidden d.0 d'.0 d.1 (from_passes d) d'.1 (from_passes d') (omega (arith, f)) in
      one r.0 r.1 r.2
    where
      one : (i : Item) → place_test o s i ≡ true → place_test p t i ≡ true → (o ≡ p) × (s ≡ t)
      one i f g =
          let a = both_true _ _ f in
          let b = both_true _ _ g in (
            origins_decided.equal o i.origin a.0 ∙ sym (origins_decided.equal p i.origin b.0),
            shapes_decided.equal s i.shape a.1 ∙ sym (shapes_decided.equal t i.shape b.1),
          )

-- ---- what follows a node

module _ (hidden : List Item) where
  -- the arguments, if there are any, and what follows them
  abbrev following : ResolvedTerms → List ℕ → List ℕ
  following xs rest = argument_text (term_texts hidden xs) ++ rest

  -- the arguments after the first, the bracket that closes them, and what follows it
  later_text : ResolvedTerms → List ℕ → List ℕ
  later_text none_left rest = byte ")" ∷ rest
  later_text (x and_then xs) rest = byte "," ∷ (term_text hidden x ++ later_text xs rest)

  later_closed : (xs : ResolvedTerms) (rest : List ℕ) → Closed (later_text xs rest)
  unfolding later_text in_node in_sort in_name is_word pick is_in
  later_closed none_left rest = refl
  later_closed (x and_then xs) rest = refl

  between_commas : (x : ResolvedTerm) (xs : ResolvedTerms) (rest : List ℕ)
      → between_marks (bytes ",") (term_texts hidden (x and_then xs)) ++ (byte ")" ∷ rest) ≡ term_text hidden x ++ later_text xs rest
  unfolding between_marks term_text later_text
  between_commas x none_left rest = refl
  between_commas x (y and_then ys) rest =
      append_assoc (term_text hidden x) (byte "," ∷ between_marks (bytes ",") (term_texts hidden (y and_then ys))) (byte ")" ∷ rest)
      ∙ ap (λ (s : List ℕ). term_text hidden x ++ (byte "," ∷ s)) (between_commas y ys rest)

  in_brackets : (x : ResolvedTerm) (xs : ResolvedTerms) (rest : List ℕ)
      → following (x and_then xs) rest ≡ byte "(" ∷ (term_text hidden x ++ later_text xs rest)
  unfolding argument_text term_text
  in_brackets x xs rest =
      ap (byte "(" ∷◌)
      (append_assoc (between_marks (bytes ",") (term_texts hidden (x and_then xs))) (bytes ")") rest ∙ between_commas x xs rest)

  following_outside : (xs : ResolvedTerms) (rest : List ℕ) → Closed rest → StartsOutside in_sort (following xs rest)
  unfolding argument_text term_text in_sort in_name is_word pick is_in
  following_outside none_left rest c = closed_outside rest c
  following_outside (x and_then xs) rest c = refl

  -- what follows a term does not open a bracket
  no_bracket : {X : Type 0} (x : ResolvedTerm) (xs : ResolvedTerms) (rest rest' : List ℕ) → Closed rest → rest ≡ following (x and_then xs) rest' → X
  unfolding in_node in_sort in_name is_word pick is_in
  no_bracket x xs rest rest' c e = starts in_node rest _ _ c (e ∙ in_brackets x xs rest') refl

  -- the first argument is read like the later ones
  as_later : (xs ys : ResolvedTerms) (rest rest' : List ℕ) → Closed rest → Closed rest' → following xs rest ≡ following ys rest'
      → later_text xs rest ≡ later_text ys rest'
  unfolding argument_text term_text later_text
  as_later none_left none_left rest rest' c c' e = ap (byte ")" ∷◌) e
  as_later none_left (y and_then ys) rest rest' c c' e = no_bracket y ys rest rest' c e
  as_later (x and_then xs) none_left rest rest' c c' e = no_bracket x xs rest' rest c' (sym e)
  as_later (x and_then xs) (y and_then ys) rest rest' c c' e =
      ap (byte "," ∷◌) (rest_of (sym (in_brackets x xs rest) ∙ e ∙ in_brackets y ys rest'))

variable_sort : {s t : Sort} → variable_shape s ≡ variable_shape t → s ≡ t
variable_sort e = cc

function_of : {t u : FunctionType} → function_shape t ≡ function_shape u → t ≡ u
function_of e = cc

no_function : {X : Type 0} {s : Sort} {t : FunctionType} → variable_shape s ≡ function_shape t → X
no_function e = let z : ◌≡◌ {A = ℕ} 0 1 = cc in absurd (omega arith)

-- ---- terms, where `visible` and `hidden` are the items of a normal form

module _ (visible hidden : List Item) (plain : Every (λ i. Plain i.name) visible) (few : length hidden + 1 < 10 ^ 10) (one : OneOutput visible) where
  named_plain : (f : Name) (s : Shape) → Named visible f s → Plain f
  named_plain f s d = subst Plain d.2 (every_member (λ i. Plain i.name) visible plain d.0 d.1)

  told_head : (f g : Head) → TypedHead visible hidden f → TypedHead visible hidden g → (head_type f).inputs ≡ (head_type g).inputs
      → head_text hidden f ≡ head_text hidden g → f ≡ g
  unfolding head_type head_text
  told_head (visible_head f t) (visible_head g u) d d' i e =
      ap₂ visible_head e (one d.0 d'.0 t u d.1 d'.1 (d.2 ∙ e ∙ sym d'.2) d.3 d'.3 i)
  told_head (visible_head f t) (hidden_head p u) d d' i e = no_name hidden few f _ (named_plain f (function_shape t) d) e
  told_head (hidden_head o t) (visible_head g u) d d' i e = no_name hidden few g _ (named_plain g (function_shape u) d') (sym e)
  told_head (hidden_head o t) (hidden_head p u) d d' i e =
      let r = told_place hidden few o p (function_shape t) (function_shape u) d d' e in ap₂ hidden_head r.0 (function_of r.1)

  no_variable_head : {X : Type 0} (o : Origin) (s : Sort) (f : Head) → From hidden o (variable_shape s) → TypedHead visible hidden f
      → variable_text hidden o s ≡ head_text hidden f → X
  unfolding variable_text head_text
  no_variable_head o s (visible_head f t) d d' e = no_name hidden few f _ (named_plain f (function_shape t) d') (sym e)
  no_variable_head o s (hidden_head p t) d d' e = no_function (told_place hidden few o p (variable_shape s) (function_shape t) d d' e).1

  -- what is written at the first node of a term, and its arguments
  node_text : ResolvedTerm → List ℕ
  node_text (var o s) = variable_text hidden o s
  node_text (app f xs) = head_text hidden f

  arguments_of : ResolvedTerm → ResolvedTerms
  arguments_of (var o s) = none_left
  arguments_of (app f xs) = xs

  node_then : (t : ResolvedTerm) (rest : List ℕ) → term_text hidden t ++ rest ≡ node_text t ++ following hidden (arguments_of t) rest
  unfolding term_text node_text arguments_of argument_text
  node_then (var o s) rest = refl
  node_then (app f xs) rest = append_assoc (head_text hidden f) (argument_text (term_texts hidden xs)) rest

  node_written : (t : ResolvedTerm) → TypedTerm visible hidden t → Within in_sort (node_text t)
  unfolding node_text variable_text head_text
  node_written (var o s) d = (number_written _).letters
  node_written (app (visible_head f t) xs) d = (plain_sort f (named_plain f (function_shape t) d.0)).letters
  node_written (app (hidden_head o t) xs) d = (number_written _).letters

  told_node : (t u : ResolvedTerm) (rest rest' : List ℕ) → TypedTerm visible hidden t → TypedTerm visible hidden u → Closed rest → Closed rest'
      → term_text hidden t ++ rest ≡ term_text hidden u ++ rest'
      → (node_text t ≡ node_text u) × (following hidden (arguments_of t) rest ≡ following hidden (arguments_of u) rest')
  told_node t u rest rest' d d' c c' e =
      told_run in_sort (node_text t) (node_text u) (following hidden (arguments_of t) rest) (following hidden (arguments_of u) rest')
      (node_written t d) (node_written u d') (following_outside hidden (arguments_of t) rest c) (following_outside hidden (arguments_of u) rest' c')
      (sym (node_then t rest) ∙ e ∙ node_then u rest')

  mutual
    unfolding arguments_of argument_text term_text later_text node_text variable_text

    -- a term can be told from what follows it
    told_term : (t u : ResolvedTerm) (rest rest' : List ℕ) → TypedTerm visible hidden t → TypedTerm visible hidden u → Closed rest → Closed rest'
        → term_text hidden t ++ rest ≡ term_text hidden u ++ rest' → (t ≡ u) × (rest ≡ rest')
    told_term (var o s) (var p r) rest rest' d d' c c' e =
        let a = told_node (var o s) (var p r) rest rest' d d' c c' e in
        let b = told_place hidden few o p (variable_shape s) (variable_shape r) d d' a.0 in
        (ap₂ var b.0 (variable_sort b.1), a.1)
    told_term (var o s) (app g ys) rest rest' d d' c c' e =
        no_variable_head o s g d d'.0 (told_node (var o s) (app g ys) rest rest' d d' c c' e).0
    told_term (app f xs) (var p r) rest rest' d d' c c' e =
        no_variable_head p r f d' d.0 (sym (told_node (app f xs) (var p r) rest rest' d d' c c' e).0)
    told_term (app f xs) (app g ys) rest rest' d d' c c' e =
        let a = told_node (app f xs) (app g ys) rest rest' d d' c c' e in
        let b = told_later xs ys rest rest' d.1 d'.1 (as_later hidden xs ys rest rest' c c' a.1) in
        (ap₂ app (told_head f g d.0 d'.0 (sym d.2 ∙ ap sorts_of b.0 ∙ d'.2) a.0) b.0, b.1)

    told_later : (xs ys : ResolvedTerms) (rest rest' : List ℕ) → TypedTerms visible hidden xs → TypedTerms visible hidden ys
        → later_text hidden xs rest ≡ later_text hidden ys rest' → (xs ≡ ys) × (rest ≡ rest')
    told_later none_left none_left rest rest' d d' e = (refl, rest_of e)
    told_later none_left (y and_then ys) rest rest' d d' e = apart refl e
    told_later (x and_then xs) none_left rest rest' d d' e = apart refl e
    told_later (x and_then xs) (y and_then ys) rest rest' d d' e =
        let a =
        told_term x y (later_text hidden xs rest) (later_text hidden ys rest') d.0 d'.0 (later_closed hidden xs rest)
        (later_closed hidden ys rest') (rest_of e) in
        let b = told_later xs ys rest rest' d.1 d'.1 a.1 in
        (ap₂ ◌and_then◌ a.0 b.0, b.1)

  -- ---- equations

  told_sides : (a b : ResolvedSides) (rest rest' : List ℕ) → TypedSides visible hidden a → TypedSides visible hidden b → Closed rest → Closed rest'
      → sides_text hidden a ++ rest ≡ sides_text hidden b ++ rest' → (a ≡ b) × (rest ≡ rest')
  unfolding sides_text in_node in_sort in_name is_word pick is_in
  told_sides a b rest rest' d d' c c' e =
      let after : ResolvedSides → List ℕ → List ℕ = λ x s. byte "=" ∷ (term_text hidden x.right ++ s) in
      let l =
      told_term a.left b.left (after a rest) (after b rest') d.0 d'.0 refl refl (sym (grouped a rest) ∙ e ∙ grouped b rest') in
      let r = told_term a.right b.right rest rest' d.1 d'.1 c c' (rest_of l.1) in
      (λ x. record { left = l.0 x; right = r.0 x }, r.1)
    where
      grouped : (x : ResolvedSides) (s : List ℕ)
          → sides_text hidden x ++ s ≡ term_text hidden x.left ++ (byte "=" ∷ (term_text hidden x.right ++ s))
      grouped x s = append_assoc (term_text hidden x.left) (byte "=" ∷ term_text hidden x.right) s

  -- the conditions after the first
  more_text : List ResolvedSides → List ℕ
  more_text [] = []
  more_text (c ∷ cs) = byte "," ∷ (sides_text hidden c ++ more_text cs)

  more_closed : (cs : List ResolvedSides) → Closed (more_text cs)
  unfolding more_text in_node in_sort in_name is_word pick is_in
  more_closed [] = tt
  more_closed (c ∷ cs) = refl

  conditions_from : (c : ResolvedSides) (cs : List ResolvedSides)
      → between_marks (bytes ",") (map (sides_text hidden) (c ∷ cs)) ≡ sides_text hidden c ++ more_text cs
  unfolding between_marks more_text
  conditions_from c [] = sym (append-nil (sides_text hidden c))
  conditions_from c (d ∷ ds) = ap (λ (s : List ℕ). sides_text hidden c ++ (byte "," ∷ s)) (conditions_from d ds)

  told_more : (cs ds : List ResolvedSides) → Every (TypedSides visible hidden) cs → Every (TypedSides visible hidden) ds
      → more_text cs ≡ more_text ds → cs ≡ ds
  unfolding more_text
  told_more [] [] h k e = refl
  told_more [] (d ∷ ds) h k e = not_empty e
  told_more (c ∷ cs) [] h k e = not_empty (sym e)
  told_more (c ∷ cs) (d ∷ ds) h k e =
      let a = told_sides c d (more_text cs) (more_text ds) h.0 k.0 (more_closed cs) (more_closed ds) (rest_of e) in
      ap₂ ◌∷◌ a.0 (told_more cs ds h.1 k.1 a.1)

  told_conditions : (cs ds : List ResolvedSides) → Every (TypedSides visible hidden) cs → Every (TypedSides visible hidden) ds
      → conditions_text hidden cs ≡ conditions_text hidden ds → cs ≡ ds
  unfolding conditions_text more_text
  told_conditions [] [] h k e = refl
  told_conditions [] (d ∷ ds) h k e = not_empty e
  told_conditions (c ∷ cs) [] h k e = not_empty (sym e)
  told_conditions (c ∷ cs) (d ∷ ds) h k e =
      let f = append_cancel_left (bytes " when ") _ _ e in
      told_more (c ∷ cs) (d ∷ ds) h k (ap (byte "," ∷◌) (sym (conditions_from c cs) ∙ f ∙ conditions_from d ds))

  conditions_closed : (cs : List ResolvedSides) → Closed (conditions_text hidden cs)
  unfolding conditions_text in_node in_sort in_name is_word pick is_in
  conditions_closed [] = tt
  conditions_closed (c ∷ cs) = refl

  -- an equation can be told from its written line, but for its module and position
  pub told_equation : (a b : ResolvedEquation) → Plain a.tag → Plain b.tag → TypedEquation visible hidden a → TypedEquation visible hidden b
      → equation_text hidden a ≡ equation_text hidden b → content a ≡ content b
  unfolding equation_text content in_name is_word pick is_in
  told_equation a b p q d d' e =
      let t = told_run in_name a.tag b.tag _ _ p.letters q.letters refl refl (rest_of e) in
      let s =
      told_sides a.conclusion b.conclusion (conditions_text hidden a.conditions) (conditions_text hidden b.conditions) d.conclusion
      d'.conclusion (conditions_closed a.conditions) (conditions_closed b.conditions) (append_cancel_left (bytes "] ") _ _ t.1) in
      let c = told_conditions a.conditions b.conditions d.conditions d'.conditions s.1 in
      λ x. record { tag = t.0 x; conclusion = s.0 x; conditions = c x }

-- ---- after 11, visible functions of one name and input type are of one type

first_false : (p q r : Bool) → p ≡ true → (p && (q || r)) ≡ false → q ≡ false
first_false true true r h e = e
first_false true false r h e = refl
first_false false q r h e = absurd (false≢true h)

output_agrees : (a b : Item) (t u : FunctionType) → a.shape ≡ function_shape t → b.shape ≡ function_shape u → a.name ≡ b.name
    → t.inputs ≡ u.inputs → overloaded a b ≡ false → t ≡ u
unfolding overloaded other_output
output_agrees a b t u p q n i e =
    let names = ap (same a.name) (sym n) ∙ same_self a.name in
    let f = sym (ap₂ other_output p q) ∙ first_false (same a.name b.name) _ _ names e in
    let inputs = ap (agree same_sort t.inputs) (sym i) ∙ agree_self same_sort sorts_decided.self t.inputs in
    let output = sorts_decided.equal t.output u.output (not-false _ (rw inputs at f)) in
    λ x. record { inputs = i x; output = output x }

pub one_output : (v : Visible) (own : List Item) → consistent v own ≡ fine tt → OneOutput v.items
unfolding consistent
one_output v own c a b t u m k n p q i =
    let overloading = unless_fine _ _ (then_fine _ _ (then_fine _ _ (then_fine _ _ c).1).1).1 in
    ⊎_elim (λ (e : a ≡ b). function_of (sym p ∙ ap (λ (x : Item). x.shape) e ∙ q))
    (⊎_elim (λ e. output_agrees a b t u p q n i e) (λ e. sym (output_agrees b a u t q p (sym n) (sym i) e)))
    (compatible overloaded (v.items ++ own) overloading a b (Memᴰ.append_left own m) (Memᴰ.append_left own k))
