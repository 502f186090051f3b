-- The tests of the meaning decide equality: each says yes of a thing and itself, and only of equals.
use Rattle.std.specs.Prelude.{◌≡◌, refl, Bool, true, false, ◌&&◌, List, [], ◌∷◌, eqb}
use Rattle.std.proofs.Common.{sym, ap, ap₂, ◌∙◌, eqb-true, eq-eqb}
use Rattle.std.proofs.lemmas.Bool.{false≢true}
use Rattle.meaning.specs.Lists.{pick, agree}
use Rattle.meaning.specs.Names.{same}
use Rattle.meaning.specs.OrderLaws.{same_self, same_equal}
use Rattle.meaning.specs.Origins.{Section, export_section, hidden_section, parameter_section, same_section, Declared, declared_sort, declared_function, declared_variable, same_declared, Origin, same_origin, Sort, visible_sort, hidden_sort, same_sort, FunctionType, same_type, Shape, sort_shape, function_shape, variable_shape, same_shape, Item, one_item}

pub record Decides {A : Type 0} (e : A → A → Bool) : Type 0 where
  pub self : (a : A) → e a a ≡ true
  pub equal : (a b : A) → e a b ≡ true → a ≡ b

pub both_true : (p q : Bool) → (p && q) ≡ true → (p ≡ true) × (q ≡ true)
both_true true q h = (refl, h)
both_true false q h = absurd (false≢true h)

pub numbers_decided : Decides eqb
numbers_decided = record { self = λ a. eq-eqb a a refl; equal = eqb-true }

pub names_decided : Decides same
names_decided = record { self = same_self; equal = same_equal }

pub agree_self : {A : Type 0} (e : A → A → Bool) → ((a : A) → e a a ≡ true) → (xs : List A) → agree e xs xs ≡ true
unfolding agree pick
agree_self e h [] = refl
agree_self e h (x ∷ xs) = rw (h x) (agree_self e h xs)

pub agree_equal : {A : Type 0} (e : A → A → Bool) → ((a b : A) → e a b ≡ true → a ≡ b) → (xs ys : List A) → agree e xs ys ≡ true → xs ≡ ys
unfolding agree pick
agree_equal e h [] [] k = refl
agree_equal e h [] (y ∷ ys) k = absurd (false≢true k)
agree_equal e h (x ∷ xs) [] k = absurd (false≢true k)
agree_equal e h (x ∷ xs) (y ∷ ys) k = go (e x y) refl k (agree_equal e h xs ys)
  where
    go : (b : Bool) → e x y ≡ b → pick b (agree e xs ys) false ≡ true → (agree e xs ys ≡ true → xs ≡ ys) → x ∷ xs ≡ y ∷ ys
    go true q k rest = ap₂ ◌∷◌ (h x y q) (rest k)
    go false q k rest = absurd (false≢true k)

pub agree_decided : {A : Type 0} {e : A → A → Bool} → Decides e → Decides (agree e)
agree_decided {e} d = record { self = agree_self e d.self; equal = agree_equal e d.equal }

module _ {A : Type 0} {e : A → A → Bool} (d : Decides e) where
  pub symmetric : (a b : A) → e a b ≡ e b a
  symmetric a b = go (e a b) (e b a) refl refl
    where
      go : (x y : Bool) → e a b ≡ x → e b a ≡ y → x ≡ y
      go true y q r = sym (sym r ∙ ap (e b) (d.equal a b q) ∙ d.self b)
      go false true q r = sym q ∙ ap (e a) (d.equal b a r) ∙ d.self a
      go false false q r = refl

  -- both of two parts
  pub both_decided : {B : Type 0} {f : B → B → Bool} → Decides f → Decides (λ (u v : A × B). e u.0 v.0 && f u.1 v.1)
  both_decided c = record {
    self = λ u. rw (d.self u.0) (c.self u.1);
    equal = λ u v h. let r = both_true _ _ h in λ i. (d.equal u.0 v.0 r.0 i, c.equal u.1 v.1 r.1 i);
  }

  -- the parts, of which the whole is made again
  pub by_parts : {B : Type 0} (parts : B → A) (whole : A → B) → ((b : B) → whole (parts b) ≡ b) → Decides (λ (x y : B). e (parts x) (parts y))
  by_parts parts whole made = record {
    self = λ x. d.self (parts x);
    equal = λ x y h. sym (made x) ∙ ap whole (d.equal (parts x) (parts y) h) ∙ made y;
  }

pub sections_decided : Decides same_section
unfolding same_section
sections_decided = record { self = self; equal = equal }
  where
    self : (s : Section) → same_section s s ≡ true
    self export_section = refl
    self hidden_section = refl
    self (parameter_section p) = same_self p

    equal : (s t : Section) → same_section s t ≡ true → s ≡ t
    equal export_section export_section h = refl
    equal export_section hidden_section h = absurd (false≢true h)
    equal export_section (parameter_section q) h = absurd (false≢true h)
    equal hidden_section export_section h = absurd (false≢true h)
    equal hidden_section hidden_section h = refl
    equal hidden_section (parameter_section q) h = absurd (false≢true h)
    equal (parameter_section p) export_section h = absurd (false≢true h)
    equal (parameter_section p) hidden_section h = absurd (false≢true h)
    equal (parameter_section p) (parameter_section q) h = ap parameter_section (same_equal p q h)

pub declared_decided : Decides same_declared
unfolding same_declared
declared_decided = record { self = self; equal = equal }
  where
    self : (s : Declared) → same_declared s s ≡ true
    self (declared_sort a) = same_self a
    self (declared_function f i o) = rw (same_self f, agree_self same same_self i) (same_self o)
    self (declared_variable v s) = rw (same_self v) (same_self s)

    equal : (s t : Declared) → same_declared s t ≡ true → s ≡ t
    equal (declared_sort a) (declared_sort b) h = ap declared_sort (same_equal a b h)
    equal (declared_sort a) (declared_function f i o) h = absurd (false≢true h)
    equal (declared_sort a) (declared_variable v s) h = absurd (false≢true h)
    equal (declared_function f i o) (declared_sort b) h = absurd (false≢true h)
    equal (declared_function f i o) (declared_function g j p) h =
        let k = both_true _ _ h in
        let l = both_true _ _ k.0 in
        λ x. declared_function (same_equal f g l.0 x) (agree_equal same same_equal i j l.1 x) (same_equal o p k.1 x)
    equal (declared_function f i o) (declared_variable v s) h = absurd (false≢true h)
    equal (declared_variable v s) (declared_sort b) h = absurd (false≢true h)
    equal (declared_variable v s) (declared_function g j p) h = absurd (false≢true h)
    equal (declared_variable v s) (declared_variable w t) h =
        let k = both_true _ _ h in λ x. declared_variable (same_equal v w k.0 x) (same_equal s t k.1 x)

pub origins_decided : Decides same_origin
unfolding same_origin
origins_decided = record { self = self; equal = equal }
  where
    self : (o : Origin) → same_origin o o ≡ true
    self o = rw (same_self o.home, sections_decided.self o.section) (declared_decided.self o.declared)

    equal : (o p : Origin) → same_origin o p ≡ true → o ≡ p
    equal o p h =
        let k = both_true _ _ h in
        let l = both_true _ _ k.0 in
        let homes = same_equal o.home p.home l.0 in
        let sections = sections_decided.equal o.section p.section l.1 in
        let declareds = declared_decided.equal o.declared p.declared k.1 in
        λ x. record { home = homes x; section = sections x; declared = declareds x }

pub sorts_decided : Decides same_sort
unfolding same_sort
sorts_decided = record { self = self; equal = equal }
  where
    self : (s : Sort) → same_sort s s ≡ true
    self (visible_sort a) = same_self a
    self (hidden_sort o) = origins_decided.self o

    equal : (s t : Sort) → same_sort s t ≡ true → s ≡ t
    equal (visible_sort a) (visible_sort b) h = ap visible_sort (same_equal a b h)
    equal (visible_sort a) (hidden_sort p) h = absurd (false≢true h)
    equal (hidden_sort o) (visible_sort b) h = absurd (false≢true h)
    equal (hidden_sort o) (hidden_sort p) h = ap hidden_sort (origins_decided.equal o p h)

pub types_decided : Decides same_type
unfolding same_type
types_decided = record { self = self; equal = equal }
  where
    self : (t : FunctionType) → same_type t t ≡ true
    self t = rw (agree_self same_sort sorts_decided.self t.inputs) (sorts_decided.self t.output)

    equal : (t u : FunctionType) → same_type t u ≡ true → t ≡ u
    equal t u h =
        let k = both_true _ _ h in
        let inputs = agree_equal same_sort sorts_decided.equal t.inputs u.inputs k.0 in
        let output = sorts_decided.equal t.output u.output k.1 in
        λ x. record { inputs = inputs x; output = output x }

pub shapes_decided : Decides same_shape
unfolding same_shape
shapes_decided = record { self = self; equal = equal }
  where
    self : (s : Shape) → same_shape s s ≡ true
    self sort_shape = refl
    self (function_shape t) = types_decided.self t
    self (variable_shape s) = sorts_decided.self s

    equal : (s t : Shape) → same_shape s t ≡ true → s ≡ t
    equal sort_shape sort_shape h = refl
    equal sort_shape (function_shape t) h = absurd (false≢true h)
    equal sort_shape (variable_shape s) h = absurd (false≢true h)
    equal (function_shape t) sort_shape h = absurd (false≢true h)
    equal (function_shape t) (function_shape u) h = ap function_shape (types_decided.equal t u h)
    equal (function_shape t) (variable_shape s) h = absurd (false≢true h)
    equal (variable_shape s) sort_shape h = absurd (false≢true h)
    equal (variable_shape s) (function_shape t) h = absurd (false≢true h)
    equal (variable_shape s) (variable_shape r) h = ap variable_shape (sorts_decided.equal s r h)

-- items that are one are equal
pub items_decided : Decides one_item
unfolding one_item
items_decided = record { self = self; equal = equal }
  where
    self : (a : Item) → one_item a a ≡ true
    self a =
        rw (sections_decided.self a.standing, same_self a.name, shapes_decided.self a.shape) (origins_decided.self a.origin)

    equal : (a b : Item) → one_item a b ≡ true → a ≡ b
    equal a b h =
        let k = both_true _ _ h in
        let l = both_true _ _ k.0 in
        let m = both_true _ _ l.0 in
        let standings = sections_decided.equal a.standing b.standing m.0 in
        let names = same_equal a.name b.name m.1 in
        let shapes = shapes_decided.equal a.shape b.shape l.1 in
        let origins = origins_decided.equal a.origin b.origin k.1 in
        λ x. record { standing = standings x; name = names x; shape = shapes x; origin = origins x }
