-- What does not depend on the order of a list: tests, what is kept, unions, and the checks after each clause and union.
use Rattle.std.specs.Prelude.{◌≡◌, ℕ, ◌+◌, Bool, not, ◌&&◌, ◌||◌, eqb}
use Rattle.std.proofs.Math.Path.{refl, ap, ap₂, subst}
use Rattle.std.proofs.Common.{sym, ◌∙◌}
use native.Mathlib.Omega.{arith}
use Rattle.std.proofs.Math.Bool.{true, false}
use Rattle.std.proofs.lemmas.Bool.{false≢true}
use Rattle.std.proofs.Math.Option
use Rattle.std.proofs.Math.Option.{none, some, Option}
use mathlib.Core.List.Permᴰ
use mathlib.Core.List.{List, [], ◌∷◌, ◌++◌, map, append_assoc, Memᴰ}
use Rattle.meaning.specs.Lists.{pick, any, first, agree, sum, union}
use Rattle.meaning.specs.Names.{Name, same, by_name}
use Rattle.meaning.specs.Origins.{Section, export_section, hidden_section, parameter_section, Head, visible_head, hidden_head, same_head, ResolvedTerm, var, app, ResolvedTerms, none_left, ◌and_then◌, same_term, same_terms, ResolvedSides, same_sides, ResolvedEquation, Shape, sort_shape, function_shape, variable_shape, same_shape, is_sort, is_function, Item, in_parameter, one_equation}
use Rattle.meaning.specs.Checks.{at_odds, least_at_odds, other_origin, sorts_clash, functions_clash, other_output, in_one_parameter, both_in_one, overloaded}
use Rattle.meaning.specs.OrderLaws.{Every, Pairwise, Rearranged, rearranged_every, rearranged_member, sorted_rearranged, pairwise_rearranged, same_self, same_equal}
use Rattle.laws.specs.Decides.{both_true, Decides, numbers_decided, names_decided, agree_decided, sorts_decided, types_decided, shapes_decided, origins_decided, symmetric, both_decided, by_parts}
use Rattle.promises.specs.Members.{both_true as both_passed}
use Rattle.promises.specs.TwoCalls.{pick_both}
use Rattle.promises_replacing.specs.Exchanging.{pick_map}

-- ---- tests

module _ {A : Type 0} where
  pub any_rearranged : (p : A → Bool) {xs ys : List A} → Rearranged xs ys → any p xs ≡ any p ys
  unfolding any pick
  any_rearranged p Permᴰ.nil = refl
  any_rearranged p (Permᴰ.cons e d) = ap₂ (λ (b r : Bool). pick b true r) (ap p e) (any_rearranged p d)
  any_rearranged p (Permᴰ.swap {a = a} {b = b} {l = l} e f) = go (p a) (p b) (any p l) ∙ (λ i. pick (p (f i)) true (pick (p (e i)) true (any p l)))
    where
      go : (x y r : Bool) → pick x true (pick y true r) ≡ pick y true (pick x true r)
      go true true r = refl
      go true false r = refl
      go false true r = refl
      go false false r = refl
  any_rearranged p (Permᴰ.trans d d') = any_rearranged p d ∙ any_rearranged p d'

  pub sum_rearranged : (f : A → ℕ) {xs ys : List A} → Rearranged xs ys → sum f xs ≡ sum f ys
  unfolding sum
  sum_rearranged f Permᴰ.nil = refl
  sum_rearranged f (Permᴰ.cons e d) = ap₂ (λ (x y : ℕ). x + y) (ap f e) (sum_rearranged f d)
  sum_rearranged f (Permᴰ.swap {a = a} {b = b} {l = l} e g) =
      let r : f a + (f b + sum f l) ≡ f b + (f a + sum f l) = omega arith in r ∙ (λ i. f (g i) + (f (e i) + sum f l))
  sum_rearranged f (Permᴰ.trans d d') = sum_rearranged f d ∙ sum_rearranged f d'

  -- what f tells of the first that passes, where it tells the same of all that pass
  pub first_image : {B : Type 0} (f : A → B) (p : A → Bool) {xs ys : List A} → Rearranged xs ys
      → ((a b : A) → Memᴰ a xs → Memᴰ b xs → p a ≡ true → p b ≡ true → f a ≡ f b) → Option.map f (first p xs) ≡ Option.map f (first p ys)
  unfolding first pick
  first_image f p Permᴰ.nil one = refl
  first_image f p (Permᴰ.cons {a = a} {l₂ = ys} e d) one =
      pick_both (λ (o o' : Option A). Option.map f o ≡ Option.map f o') (p a) _ _ _ _ refl
      (first_image f p d (λ u v m k. one u v (Memᴰ.tail m) (Memᴰ.tail k))) ∙ (λ i. Option.map f (pick (p (e i)) (some (e i)) (first p ys)))
  first_image f p (Permᴰ.swap {a = a} {b = b} {l = l} e g) one =
      go (p a) (p b) refl refl ∙ (λ i. Option.map f (pick (p (g i)) (some (g i)) (pick (p (e i)) (some (e i)) (first p l))))
    where
      go : (x y : Bool) → p a ≡ x → p b ≡ y
          → Option.map f (pick x (some a) (pick y (some b) (first p l))) ≡ Option.map f (pick y (some b) (pick x (some a) (first p l)))
      go true true q r = ap some (one a b (Memᴰ.head refl) (Memᴰ.tail (Memᴰ.head refl)) q r)
      go true false q r = refl
      go false true q r = refl
      go false false q r = refl
  first_image f p (Permᴰ.trans d d') one =
      first_image f p d one ∙ first_image f p d' (λ a b m k. one a b (rearranged_member (Permᴰ.symm d) m) (rearranged_member (Permᴰ.symm d) k))

  any_append : (p : A → Bool) (xs ys : List A) → any p (xs ++ ys) ≡ (any p xs || any p ys)
  unfolding any
  any_append p [] ys = refl
  any_append p (x ∷ xs) ys = ap (pick (p x) true) (any_append p xs ys) ∙ pick_map (λ (b : Bool). b || any p ys) (p x) true (any p xs)

-- ---- unions, where what the test finds the same are one, as far as they pass P

module _ {A : Type 0} (e : A → A → Bool) (symmetric : (a b : A) → e a b ≡ e b a) (P : A → Type 0)
    (equal : (a b : A) → P a → P b → e a b ≡ true → a ≡ b) where
  union_left_rearranged : (ys : List A) {xs xs' : List A} → Rearranged xs xs' → Rearranged (union e xs ys) (union e xs' ys)
  unfolding union pick
  union_left_rearranged [] d = d
  union_left_rearranged (y ∷ ys) {xs} {xs'} d =
      rw (any_rearranged (e y) d)
      (pick_both Rearranged (any (e y) xs') _ _ _ _ (union_left_rearranged ys d) (union_left_rearranged ys (Permᴰ.append_right (y ∷ []) d)))

  union_swapped : (y z : A) → P y → P z → (l xs : List A) → Rearranged (union e xs (y ∷ z ∷ l)) (union e xs (z ∷ y ∷ l))
  unfolding union any pick
  union_swapped y z hy hz l xs =
      rw (any_append (e z) xs (y ∷ []), any_append (e y) xs (z ∷ []), symmetric z y) (go (any (e y) xs) (any (e z) xs) (e y z) refl)
    where
      both_new : Rearranged ((xs ++ (y ∷ [])) ++ (z ∷ [])) ((xs ++ (z ∷ [])) ++ (y ∷ []))
      both_new =
          subst (λ (r : List A). Rearranged r ((xs ++ (z ∷ [])) ++ (y ∷ []))) (sym (append_assoc xs (y ∷ []) (z ∷ [])))
          (subst (λ (r : List A). Rearranged (xs ++ (y ∷ z ∷ [])) r) (sym (append_assoc xs (z ∷ []) (y ∷ [])))
          (Permᴰ.append_left xs (Permᴰ.swap refl refl)))

      go : (b c s : Bool) → e y z ≡ s
          → Rearranged (pick b (pick c (union e xs l) (union e (xs ++ (z ∷ [])) l)) (pick (c || pick s true false) (union e (xs ++ (y ∷ [])) l) (union e ((xs ++ (y ∷ [])) ++ (z ∷ [])) l)))
          (pick c (pick b (union e xs l) (union e (xs ++ (y ∷ [])) l)) (pick (b || pick s true false) (union e (xs ++ (z ∷ [])) l) (union e ((xs ++ (z ∷ [])) ++ (y ∷ [])) l)))
      go true true s q = Permᴰ.refl _
      go true false s q = Permᴰ.refl _
      go false true s q = Permᴰ.refl _
      go false false true q = union_left_rearranged l (Permᴰ.append_left xs (Permᴰ.cons (equal y z hy hz q) Permᴰ.nil))
      go false false false q = union_left_rearranged l both_new

  union_right_rearranged : {ys ys' : List A} → Rearranged ys ys' → Every P ys → (xs : List A) → Rearranged (union e xs ys) (union e xs ys')
  unfolding union pick
  union_right_rearranged Permᴰ.nil h xs = Permᴰ.refl xs
  union_right_rearranged (Permᴰ.cons {a = a} {b = b} {l₁ = l} {l₂ = m} q d) h xs =
      subst (λ (x : A). Rearranged (union e xs (a ∷ l)) (union e xs (x ∷ m))) q
      (pick_both Rearranged (any (e a) xs) _ _ _ _ (union_right_rearranged d h.1 xs) (union_right_rearranged d h.1 (xs ++ (a ∷ []))))
  union_right_rearranged (Permᴰ.swap {a = a} {b = b} {a' = a'} {b' = b'} {l = l} q r) h xs =
      subst (λ (x : A). Rearranged (union e xs (a ∷ b ∷ l)) (union e xs (x ∷ b' ∷ l))) r
      (subst (λ (x : A). Rearranged (union e xs (a ∷ b ∷ l)) (union e xs (b ∷ x ∷ l))) q (union_swapped a b h.0 h.1.0 l xs))
  union_right_rearranged (Permᴰ.trans d d') h xs =
      Permᴰ.trans (union_right_rearranged d h xs) (union_right_rearranged d' (rearranged_every P d h) xs)

  pub union_rearranged : {xs xs' ys ys' : List A} → Rearranged xs xs' → Rearranged ys ys' → Every P ys → Rearranged (union e xs ys) (union e xs' ys')
  union_rearranged {xs} {ys' = ys'} d k h = Permᴰ.trans (union_right_rearranged k h xs) (union_left_rearranged ys' d)

-- ---- what is at odds is so in either order

and_swapped : (x y : Bool) → (x && y) ≡ (y && x)
and_swapped true true = refl
and_swapped true false = refl
and_swapped false true = refl
and_swapped false false = refl

pub names_symmetric : (v w : Name) → same v w ≡ same w v
names_symmetric = symmetric names_decided

origins_symmetric : (a b : Item) → other_origin a b ≡ other_origin b a
unfolding other_origin
origins_symmetric a b = ap not (symmetric origins_decided a.origin b.origin)

pub sorts_clash_symmetric : (a b : Item) → sorts_clash a b ≡ sorts_clash b a
unfolding sorts_clash
sorts_clash_symmetric a b = rw (and_swapped (is_sort a.shape) (is_sort b.shape), names_symmetric a.name b.name, origins_symmetric a b)

kind_symmetric : (s t : Shape) → (is_function s && same_shape s t) ≡ (is_function t && same_shape t s)
kind_symmetric s t = go (same_shape s t) refl
  where
    go : (c : Bool) → same_shape s t ≡ c → (is_function s && same_shape s t) ≡ (is_function t && same_shape t s)
    go true q = ap₂ (λ (x y : Bool). x && y) (ap is_function (shapes_decided.equal s t q)) (symmetric shapes_decided s t)
    go false q = rw (symmetric shapes_decided t s, q) (and_swapped (is_function s) false ∙ and_swapped false (is_function t))

pub functions_clash_symmetric : (a b : Item) → functions_clash a b ≡ functions_clash b a
unfolding functions_clash
functions_clash_symmetric a b = rw (kind_symmetric a.shape b.shape, names_symmetric a.name b.name, origins_symmetric a b)

outputs_symmetric : (s t : Shape) → other_output s t ≡ other_output t s
unfolding other_output
outputs_symmetric sort_shape sort_shape = refl
outputs_symmetric sort_shape (function_shape t) = refl
outputs_symmetric sort_shape (variable_shape r) = refl
outputs_symmetric (function_shape t) sort_shape = refl
outputs_symmetric (function_shape t) (function_shape u) =
    rw (symmetric (agree_decided sorts_decided) t.inputs u.inputs, symmetric sorts_decided t.output u.output)
outputs_symmetric (function_shape t) (variable_shape r) = refl
outputs_symmetric (variable_shape s) sort_shape = refl
outputs_symmetric (variable_shape s) (function_shape u) = refl
outputs_symmetric (variable_shape s) (variable_shape r) = refl

parameters_symmetric : (s t : Section) → in_one_parameter s t ≡ in_one_parameter t s
unfolding in_one_parameter in_parameter
parameters_symmetric export_section export_section = refl
parameters_symmetric export_section hidden_section = refl
parameters_symmetric export_section (parameter_section q) = refl
parameters_symmetric hidden_section export_section = refl
parameters_symmetric hidden_section hidden_section = refl
parameters_symmetric hidden_section (parameter_section q) = refl
parameters_symmetric (parameter_section p) export_section = refl
parameters_symmetric (parameter_section p) hidden_section = refl
parameters_symmetric (parameter_section p) (parameter_section q) = names_symmetric p q

pub overloaded_symmetric : (a b : Item) → overloaded a b ≡ overloaded b a
unfolding overloaded both_in_one
overloaded_symmetric a b =
    rw (
      names_symmetric a.name b.name,
      outputs_symmetric a.shape b.shape,
      and_swapped (is_function a.shape) (is_function b.shape),
      parameters_symmetric a.standing b.standing,
    )

-- ---- where no two are at odds none is found

pub none_of : {A : Type 0} (p : A → Bool) (xs : List A) → Every (λ x. p x ≡ false) xs → any p xs ≡ false
unfolding any pick
none_of p [] h = refl
none_of p (x ∷ xs) h = rw h.0 (none_of p xs h.1)

module _ {A : Type 0} (called : A → Name) (wrong : A → A → Bool) where
  at_odds_none : (xs : List A) → Pairwise (λ x y. wrong x y ≡ false) xs → at_odds called wrong xs ≡ none
  unfolding at_odds pick
  at_odds_none [] h = refl
  at_odds_none (x ∷ xs) h = rw (none_of (wrong x) xs h.0) (at_odds_none xs h.1)

  pub least_at_odds_none : ((a b : A) → wrong a b ≡ wrong b a) → (xs : List A) → Pairwise (λ x y. wrong x y ≡ false) xs → least_at_odds called wrong xs ≡ none
  unfolding least_at_odds
  least_at_odds_none symmetric xs h =
      at_odds_none (by_name called xs) (pairwise_rearranged (λ x y. wrong x y ≡ false) (λ a b q. symmetric b a ∙ q) (sorted_rearranged _ xs) h)

pub pairwise_map : {A B : Type 0} (R : A → A → Type 0) (S : B → B → Type 0) (g : A → B) → ((a b : A) → R a b → S (g a) (g b)) → (xs : List A)
    → Pairwise R xs → Pairwise S (map g xs)
pairwise_map R S g h [] k = tt
pairwise_map {A} {B} R S g h (x ∷ xs) k = (go xs k.0, pairwise_map R S g h xs k.1)
  where
    go : (ys : List A) → Every (R x) ys → Every (S (g x)) (map g ys)
    go [] q = tt
    go (y ∷ ys) q = (h x y q.0, go ys q.1)

-- ---- items and equations that are one

head_equal : (a b : Head) → same_head a b ≡ true → a ≡ b
unfolding same_head
head_equal (visible_head f s) (visible_head g t) e = let r = both_true _ _ e in ap₂ visible_head (same_equal f g r.0) (types_decided.equal s t r.1)
head_equal (visible_head f s) (hidden_head p t) e = absurd (false≢true e)
head_equal (hidden_head o s) (visible_head g t) e = absurd (false≢true e)
head_equal (hidden_head o s) (hidden_head p t) e =
    let r = both_true _ _ e in ap₂ hidden_head (origins_decided.equal o p r.0) (types_decided.equal s t r.1)

head_self : (a : Head) → same_head a a ≡ true
unfolding same_head
head_self (visible_head f t) = rw (same_self f, types_decided.self t)
head_self (hidden_head o t) = rw (origins_decided.self o, types_decided.self t)

mutual
  unfolding same_term

  term_equal : (a b : ResolvedTerm) → same_term a b ≡ true → a ≡ b
  term_equal (var o s) (var p t) e = let r = both_true _ _ e in ap₂ var (origins_decided.equal o p r.0) (sorts_decided.equal s t r.1)
  term_equal (var o s) (app g ys) e = absurd (false≢true e)
  term_equal (app f xs) (var p t) e = absurd (false≢true e)
  term_equal (app f xs) (app g ys) e =
      let r = both_passed (same_head f g) (same_terms xs ys) e in ap₂ app (head_equal f g r.0) (terms_equal xs ys r.1)

  terms_equal : (a b : ResolvedTerms) → same_terms a b ≡ true → a ≡ b
  terms_equal none_left none_left e = refl
  terms_equal none_left (y and_then ys) e = absurd (false≢true e)
  terms_equal (x and_then xs) none_left e = absurd (false≢true e)
  terms_equal (x and_then xs) (y and_then ys) e =
      let r = both_passed (same_term x y) (same_terms xs ys) e in ap₂ ◌and_then◌ (term_equal x y r.0) (terms_equal xs ys r.1)

mutual
  unfolding same_term pick

  term_self : (a : ResolvedTerm) → same_term a a ≡ true
  term_self (var o s) = rw (origins_decided.self o, sorts_decided.self s)
  term_self (app f xs) = rw (head_self f) (terms_self xs)

  terms_self : (a : ResolvedTerms) → same_terms a a ≡ true
  terms_self none_left = refl
  terms_self (x and_then xs) = rw (term_self x) (terms_self xs)

sides_decided : Decides same_sides
unfolding same_sides
sides_decided =
    by_parts (both_decided terms_decided terms_decided) (λ e. (e.left, e.right)) (λ p. record { left = p.0; right = p.1 }) (λ e. refl)
  where
    terms_decided : Decides same_term
    terms_decided = record { self = term_self; equal = term_equal }

-- an equation's tag is not compared: it is that of its module and position
pub record Tagged (tags : ℕ → ℕ → Name) (e : ResolvedEquation) : Type 0 where
  pub tagged : tags e.module_number e.position ≡ e.tag

abbrev Compared : Type 0
Compared = ((ℕ × ℕ) × ResolvedSides) × List ResolvedSides

abbrev compared : ResolvedEquation → Compared
compared e = (((e.module_number, e.position), e.conclusion), e.conditions)

compared_decided : Decides (λ (u v : Compared).
    ((eqb u.0.0.0 v.0.0.0 && eqb u.0.0.1 v.0.0.1) && same_sides u.0.1 v.0.1) && agree same_sides u.1 v.1)
compared_decided = both_decided (both_decided (both_decided numbers_decided numbers_decided) sides_decided) (agree_decided sides_decided)

pub equation_equal : (tags : ℕ → ℕ → Name) (a b : ResolvedEquation) → Tagged tags a → Tagged tags b → one_equation a b ≡ true → a ≡ b
unfolding one_equation
equation_equal tags a b h k e =
    let q = compared_decided.equal (compared a) (compared b) e in
    let tag : a.tag ≡ b.tag = sym h.tagged ∙ (λ i. tags (q i).0.0.0 (q i).0.0.1) ∙ k.tagged in
    λ i. record { module_number = (q i).0.0.0; position = (q i).0.0.1; tag = tag i; conclusion = (q i).0.1; conditions = (q i).1 }

pub equation_self : (a : ResolvedEquation) → one_equation a a ≡ true
unfolding one_equation
equation_self a = compared_decided.self (compared a)

pub equations_symmetric : (a b : ResolvedEquation) → one_equation a b ≡ one_equation b a
unfolding one_equation
equations_symmetric a b = symmetric compared_decided (compared a) (compared b)
