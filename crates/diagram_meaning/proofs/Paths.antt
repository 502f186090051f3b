-- Each path of import expressions from the top module is drawn exactly once, and paths stand in the order of their positions, a path before those
-- that go on from it.
use Rattle.std.specs.Prelude.{◌≡◌, Bool, true, false, length}
use Rattle.std.proofs.Math.Path.{refl, sym, ap, ap₂}
use Rattle.std.proofs.Common.{◌∙◌, eq-eqb, ne_eqb, lt-ltb}
use Prim.Native.Nat.{ℕ, zero, suc, ◌+◌, ◌<◌, ◌≤◌}
use native.Mathlib.Omega.{arith}
use Rattle.std.proofs.lemmas.Bool.{false≢true}
use Rattle.std.proofs.Math.Option.{Option, none, some}
use mathlib.Core.List.{List, [], ◌∷◌, ◌++◌, map, append_assoc}
use Rattle.meaning.specs.Lists.{pick, keep, each}
use Rattle.meaning.specs.Names.{Name, same}
use Rattle.meaning.specs.OrderLaws.{Every, Pairwise, same_self}
use Rattle.meaning.specs.Laws.{by_cases}
use Rattle.meaning.specs.Syntax.{Parameter, Module}
use Rattle.meaning.specs.Listing.{Line}
use Rattle.laws.specs.EveryLaws.{every_append, every_map, every_made, every_so}
use Rattle.diagram_meaning.specs.Diagram.{Binding, Expression, expressions_of, asked_expression, box_line, absent_line, parameter_line, bind_line, own_lines, drawn, latest_first, diagram}
use Rattle.diagram_meaning.specs.Paths.{Path, Standing, nowhere, stands, standing, at_position, Place, going_on, inside, end_of, there, valid, shown, shown_at, numbered_each, paths, times, precedes, Ascending, is_head, head_line, head_at, DrawnOnce}

times_append : (p : Path) (xs ys : List Path) → times p (xs ++ ys) ≡ times p xs + times p ys
unfolding times
times_append p [] ys = omega arith
times_append p (x ∷ xs) ys = omega (arith, times_append p xs ys)

-- the top is none of the deeper ones
times_deeper : (k : ℕ) (qs : List Path) → times [] (map (λ (p : Path). k ∷ p) qs) ≡ 0
unfolding times same pick
times_deeper k [] = refl
times_deeper k (q ∷ qs) = omega (arith, times_deeper k qs)

times_top : {A : Type 0} (f : A → List Path) (k : ℕ) (xs : List A) → times [] (numbered_each f k xs) ≡ 0
unfolding times numbered_each
times_top f k [] = refl
times_top f k (x ∷ xs) =
    times_append [] (map (λ (p : Path). k ∷ p) (f x)) (numbered_each f (suc k) xs) ∙ omega (arith, times_deeper k (f x), times_top f (suc k) xs)

same_position : (p : Path) (k : ℕ) (qs : List Path) → times (k ∷ p) (map (λ (q : Path). k ∷ q) qs) ≡ times p qs
unfolding times same pick
same_position p k [] = refl
same_position p k (q ∷ qs) = rw (eq-eqb k k refl, same_position p k qs) refl

other_position : (p : Path) (a k : ℕ) → (a ≡ k → ⊥) → (qs : List Path) → times (a ∷ p) (map (λ (q : Path). k ∷ q) qs) ≡ 0
unfolding times same pick
other_position p a k h [] = refl
other_position p a k h (q ∷ qs) = rw (ne_eqb a k h, other_position p a k h qs) refl

times_before : {A : Type 0} (f : A → List Path) (p : Path) (a k : ℕ) (xs : List A) → a < k → times (a ∷ p) (numbered_each f k xs) ≡ 0
unfolding times numbered_each
times_before f p a k [] l = refl
times_before f p a k (x ∷ xs) l =
    times_append (a ∷ p) (map (λ (q : Path). k ∷ q) (f x)) (numbered_each f (suc k) xs)
    ∙ omega (arith, other_position p a k (λ e. omega (arith, e, l)) (f x), times_before f p a (suc k) xs (omega arith))

once : {A : Type 0} → (A → ℕ) → Option A → ℕ
once g none = 0
once g (some x) = g x

-- a position j behind the first
times_at : {A : Type 0} (f : A → List Path) (p : Path) (k : ℕ) (xs : List A) (j : ℕ)
    → times ((k + j) ∷ p) (numbered_each f k xs) ≡ once (λ (x : A). times p (f x)) (at_position j xs)
unfolding times numbered_each at_position once
times_at f p k [] j = refl
times_at f p k (x ∷ xs) zero =
    let z : k + 0 ≡ k = omega arith in
    rw z (times_append (k ∷ p) (map (λ (q : Path). k ∷ q) (f x)) (numbered_each f (suc k) xs)
    ∙ omega (arith, same_position p k (f x), times_before f p k (suc k) xs (omega arith)))
times_at f p k (x ∷ xs) (suc j) =
    let z : suc k + j ≡ k + suc j = omega arith in
    times_append ((k + suc j) ∷ p) (map (λ (q : Path). k ∷ q) (f x)) (numbered_each f (suc k) xs)
    ∙ omega (
      arith,
      other_position p (k + suc j) k (λ e. omega (arith, e)) (f x),
      ap (λ (n : ℕ). times (n ∷ p) (numbered_each f (suc k) xs)) (sym z) ∙ times_at f p (suc k) xs j,
    )

-- the number of times a path of a module is there, by the place that it leads to
counted : (ms : List Module) (ps : Path) → ((y : Expression) → times ps (paths ms y) ≡ pick (valid ms y ps) 1 0) → (r : Option Expression)
    → once (λ (y : Expression). times ps (paths ms y)) r ≡ pick (there (going_on (λ (y : Expression). end_of ms y ps) r)) 1 0
unfolding once going_on there pick
counted ms ps f none = refl
counted ms ps f (some y) = f y

-- a path from x is among the paths once where it leads somewhere, and else not at all
pub each_once : (es : List Module) (x : Expression) (p : Path) → times p (paths es x) ≡ pick (valid es x p) 1 0
unfolding times paths same end_of standing inside there pick
each_once [] x [] = refl
each_once [] x (p ∷ ps) = refl
each_once (m ∷ ms) x [] = go (same x.name m.name) (each_once ms x [])
  where
    go : (b : Bool) → times [] (paths ms x) ≡ 1 → times [] (pick b ([] ∷ numbered_each (λ (y : Expression). paths ms y) 0 (expressions_of m)) (paths ms x)) ≡ 1
    go true e = omega (arith, times_top (λ (y : Expression). paths ms y) 0 (expressions_of m))
    go false e = e
each_once (m ∷ ms) x (p ∷ ps) = go (same x.name m.name) (λ y. each_once ms y ps) (each_once ms x (p ∷ ps))
  where
    through : Module → List Module → Option Place
    through k ks = going_on (λ (y : Expression). end_of ks y ps) (at_position p (expressions_of k))

    go : (b : Bool) → ((y : Expression) → times ps (paths ms y) ≡ pick (valid ms y ps) 1 0) → times (p ∷ ps) (paths ms x) ≡ pick (valid ms x (p ∷ ps)) 1 0
        → times (p ∷ ps) (pick b ([] ∷ numbered_each (λ (y : Expression). paths ms y) 0 (expressions_of m)) (paths ms x))
        ≡ pick (there (inside through (pick b (stands m ms) (standing x.name ms)))) 1 0
    go true f e =
        let z : 0 + p ≡ p = omega arith in
        (omega arith ∙ (ap (λ (n : ℕ). times (n ∷ ps) (numbered_each (λ (y : Expression). paths ms y) 0 (expressions_of m))) (sym z)
        ∙ times_at (λ (y : Expression). paths ms y) ps 0 (expressions_of m) p))
        ∙ counted ms ps f (at_position p (expressions_of m))
    go false f e = e

-- what f makes of each numbered path, for a part of the expressions
module _ {A : Type 0} (f : A → List Path) (g : Path → List Line) (h : A → List Line) where
  each_map : (k : ℕ) (qs : List Path) → each g (map (λ (p : Path). k ∷ p) qs) ≡ each (λ (p : Path). g (k ∷ p)) qs
  unfolding each
  each_map k [] = refl
  each_map k (q ∷ qs) = ap (λ (r : List Line). g (k ∷ q) ++ r) (each_map k qs)

  each_joined : (xs ys : List Path) → each g (xs ++ ys) ≡ each g xs ++ each g ys
  unfolding each
  each_joined [] ys = refl
  each_joined (x ∷ xs) ys = ap (λ (r : List Line). g x ++ r) (each_joined xs ys) ∙ sym (append_assoc (g x) (each g xs) (each g ys))

  numbered_drawn : (k : ℕ) (xs : List A)
      → ((j : ℕ) (x : A) → at_position j xs ≡ some x → h x ≡ each (λ (p : Path). g ((k + j) ∷ p)) (f x))
      → each h xs ≡ each g (numbered_each f k xs)
  unfolding each numbered_each at_position
  numbered_drawn k [] e = refl
  numbered_drawn k (x ∷ xs) e =
      let z : k + 0 ≡ k = omega arith in
      ap₂ (λ (a b : List Line). a ++ b) (e 0 x refl ∙ ap (λ (n : ℕ). each (λ (p : Path). g (n ∷ p)) (f x)) z ∙ sym (each_map k (f x)))
      (numbered_drawn (suc k) xs (λ j y q.
      let s : k + suc j ≡ suc k + j = omega arith in
      e (suc j) y q ∙ ap (λ (n : ℕ). each (λ (p : Path). g (n ∷ p)) (f y)) s))
      ∙ sym (each_joined (map (λ (p : Path). k ∷ p) (f x)) (numbered_each f (suc k) xs))

each_alike : {A : Type 0} (f g : A → List Line) → ((a : A) → f a ≡ g a) → (xs : List A) → each f xs ≡ each g xs
unfolding each
each_alike f g h [] = refl
each_alike f g h (x ∷ xs) = rw (h x, each_alike f g h xs) refl

-- a path from an expression, where the first of the modules is called as it says, or is not
module _ (m : Module) (ms : List Module) (x : Expression) where
  through_it : same x.name m.name ≡ true → (p : ℕ) (ps : Path) (y : Expression) → at_position p (expressions_of m) ≡ some y
      → end_of (m ∷ ms) x (p ∷ ps) ≡ end_of ms y ps
  unfolding end_of standing inside going_on pick
  through_it e p ps y f = rw (e, f) refl

  past_it : same x.name m.name ≡ false → (n : ℕ) (p : Path) → shown_at n (end_of ms x p) ≡ shown_at n (end_of (m ∷ ms) x p)
  unfolding end_of standing shown_at pick
  past_it e n [] = rw e refl
  past_it e n (p ∷ ps) = rw e refl

pub all_drawn : (es : List Module) (d : ℕ) (x : Expression)
    → drawn es d x ≡ each (λ (p : Path). shown_at (d + length p) (end_of es x p)) (paths es x)
unfolding drawn paths each shown_at end_of standing shown pick
all_drawn [] d x = let z : d ≡ d + 0 = omega arith in ap (λ (n : ℕ). absent_line n x.name ∷ []) z
all_drawn (m ∷ ms) d x = go (same x.name m.name) refl (λ y. all_drawn ms (suc d) y) (all_drawn ms d x)
  where
    here : Path → List Line
    here p = shown_at (d + length p) (end_of (m ∷ ms) x p)

    inner : List Line
    inner = each (λ (y : Expression). drawn ms (suc d) y) (expressions_of m)

    first : same x.name m.name ≡ true → own_lines d m x.bindings ≡ here []
    first e = let z : d ≡ d + 0 = omega arith in rw e (ap (λ (n : ℕ). own_lines n m x.bindings) z)

    deeper : same x.name m.name ≡ true
        → ((y : Expression) → drawn ms (suc d) y ≡ each (λ (p : Path). shown_at (suc d + length p) (end_of ms y p)) (paths ms y))
        → inner ≡ each here (numbered_each (λ (y : Expression). paths ms y) 0 (expressions_of m))
    deeper e f =
        numbered_drawn (λ (y : Expression). paths ms y) here (λ (y : Expression). drawn ms (suc d) y) 0 (expressions_of m)
        (λ j y q. f y ∙ each_alike _ _ (λ p.
        let z : suc d + length p ≡ d + suc (length p) = omega arith in
        let k : 0 + j ≡ j = omega arith in
        ap₂ (λ (n : ℕ) (r : Option Place). shown_at n r) z
        (sym (ap (λ (i : ℕ). end_of (m ∷ ms) x (i ∷ p)) k ∙ through_it m ms x e j p y q))) (paths ms y))

    go : (b : Bool) → same x.name m.name ≡ b
        → ((y : Expression) → drawn ms (suc d) y ≡ each (λ (p : Path). shown_at (suc d + length p) (end_of ms y p)) (paths ms y))
        → drawn ms d x ≡ each (λ (p : Path). shown_at (d + length p) (end_of ms x p)) (paths ms x)
        → pick b (own_lines d m x.bindings ++ inner) (drawn ms d x)
        ≡ each here (pick b ([] ∷ numbered_each (λ (y : Expression). paths ms y) 0 (expressions_of m)) (paths ms x))
    go true e f g = ap₂ (λ (a b : List Line). a ++ b) (first e) (deeper e f)
    go false e f g = g ∙ each_alike _ _ (λ p. past_it m ms x e (d + length p) p) (paths ms x)

abbrev Before : Path → Path → Type 0
Before p q = precedes p q ≡ true

-- the first position is k or a later one
abbrev From : ℕ → Path → Type 0
From k [] = ⊥
From k (a ∷ p) = k ≤ a

pairs_append : {A : Type 0} (R : A → A → Type 0) (xs ys : List A) → Pairwise R xs → Pairwise R ys → Every (λ x. Every (R x) ys) xs → Pairwise R (xs ++ ys)
pairs_append R [] ys h k l = k
pairs_append R (x ∷ xs) ys h k l = (every_append (R x) xs ys h.0 l.0, pairs_append R xs ys h.1 k l.1)

deeper_before : (k : ℕ) (p q : Path) → Before p q → Before (k ∷ p) (k ∷ q)
unfolding precedes pick
deeper_before k p q h = rw (eq-eqb k k refl) h

deeper_ascend : (k : ℕ) (qs : List Path) → Ascending qs → Ascending (map (λ (p : Path). k ∷ p) qs)
deeper_ascend k [] h = tt
deeper_ascend k (q ∷ qs) h =
    (every_map (Before q) (Before (k ∷ q)) (λ (p : Path). k ∷ p) (λ p l. deeper_before k q p l) qs h.0, deeper_ascend k qs h.1)

later_before : (k : ℕ) (p q : Path) → From (suc k) q → Before (k ∷ p) q
unfolding precedes pick
later_before k p [] h = absurd h
later_before k p (a ∷ q) h = rw (ne_eqb k a (λ e. omega (arith, e, h)), lt-ltb k a (omega (arith, h))) refl

module _ {A : Type 0} (f : A → List Path) where
  numbered_from : (k : ℕ) (xs : List A) → Every (From k) (numbered_each f k xs)
  unfolding numbered_each
  numbered_from k [] = tt
  numbered_from k (x ∷ xs) =
      every_append (From k) (map (λ (p : Path). k ∷ p) (f x)) (numbered_each f (suc k) xs)
      (every_made (From k) (λ (p : Path). k ∷ p) (λ p. omega arith) (f x))
      (every_so (From (suc k)) (From k) (numbered_each f (suc k) xs) (λ q. lower q) (numbered_from (suc k) xs))
    where
      lower : (q : Path) → From (suc k) q → From k q
      lower [] h = absurd h
      lower (a ∷ q) h = omega (arith, h)

  numbered_ascend : ((x : A) → Ascending (f x)) → (k : ℕ) (xs : List A) → Ascending (numbered_each f k xs)
  unfolding numbered_each
  numbered_ascend h k [] = tt
  numbered_ascend h k (x ∷ xs) =
      pairs_append Before (map (λ (p : Path). k ∷ p) (f x)) (numbered_each f (suc k) xs) (deeper_ascend k (f x) (h x)) (numbered_ascend h (suc k) xs)
      (every_made (λ (p : Path). Every (Before p) (numbered_each f (suc k) xs)) (λ (p : Path). k ∷ p)
      (λ p. every_so (From (suc k)) (Before (k ∷ p)) (numbered_each f (suc k) xs) (λ q l. later_before k p q l) (numbered_from (suc k) xs)) (f x))

-- the empty path stands before all that have a position
top_before : (k : ℕ) (q : Path) → From k q → Before [] q
unfolding precedes
top_before k [] h = absurd h
top_before k (a ∷ q) h = refl

pub paths_ascend : (es : List Module) (x : Expression) → Ascending (paths es x)
unfolding paths
paths_ascend [] x = (tt, tt)
paths_ascend (m ∷ ms) x =
    by_cases Ascending (same x.name m.name) _ _
    (λ e. (
      every_so (From 0) (Before []) (numbered_each (λ (y : Expression). paths ms y) 0 (expressions_of m)) (λ q h. top_before 0 q h) (numbered_from (λ (y : Expression). paths ms y) 0 (expressions_of m)),
      numbered_ascend (λ (y : Expression). paths ms y) (λ y. paths_ascend ms y) 0 (expressions_of m),
    ))
    (λ e. paths_ascend ms x)

keep_append : {A : Type 0} (p : A → Bool) (xs ys : List A) → keep p (xs ++ ys) ≡ keep p xs ++ keep p ys
unfolding keep pick
keep_append p [] ys = refl
keep_append {A} p (x ∷ xs) ys = go (p x) (keep_append p xs ys)
  where
    go : (b : Bool) → keep p (xs ++ ys) ≡ keep p xs ++ keep p ys
        → pick b (x ∷ keep p (xs ++ ys)) (keep p (xs ++ ys)) ≡ pick b (x ∷ keep p xs) (keep p xs) ++ keep p ys
    go true e = ap (λ (r : List A). x ∷ r) e
    go false e = e

no_heads : {A : Type 0} (f : A → Line) → ((a : A) → is_head (f a) ≡ false) → (xs : List A) → keep is_head (map f xs) ≡ []
unfolding keep pick
no_heads f h [] = refl
no_heads f h (x ∷ xs) = rw (h x) (no_heads f h xs)

own_head : (d : ℕ) (m : Module) (bs : List Binding) → keep is_head (own_lines d m bs) ≡ box_line d m.name ∷ []
unfolding own_lines keep is_head box_line parameter_line bind_line same pick
own_head d m bs =
    ap (λ (r : List Line). box_line d m.name ∷ r)
    (keep_append is_head (map (λ (p : Parameter). parameter_line d p.name) m.parameters) (map (bind_line d) bs)
    ∙ ap₂ (λ (a b : List Line). a ++ b) (no_heads (λ (p : Parameter). parameter_line d p.name) (λ p. refl) m.parameters)
    (no_heads (bind_line d) (λ b. refl) bs))

shown_head : (d : ℕ) (x : Expression) (s : Standing) → keep is_head (shown d x s) ≡ head_line d x s ∷ []
unfolding shown head_line keep is_head absent_line same pick
shown_head d x nowhere = refl
shown_head d x (stands m ms) = own_head d m x.bindings

place_head : (d : ℕ) (r : Option Place) → there r ≡ true → keep is_head (shown_at d r) ≡ head_at d r ∷ []
unfolding shown_at head_at there
place_head d none e = absurd (false≢true e)
place_head d (some q) e = shown_head d q.expression (standing q.expression.name q.earlier)

each_head : (g : Path → List Line) (h : Path → Line) (qs : List Path) → Every (λ p. keep is_head (g p) ≡ h p ∷ []) qs → keep is_head (each g qs) ≡ map h qs
unfolding each keep
each_head g h [] e = refl
each_head g h (q ∷ qs) e =
    keep_append is_head (g q) (each g qs) ∙ ap₂ (λ (a b : List Line). a ++ b) e.0 (each_head g h qs e.1)

-- every path that is drawn leads somewhere
counts : (qs : List Path) → Every (λ p. 1 ≤ times p qs) qs
unfolding times pick
counts [] = tt
counts (q ∷ qs) =
    (rw (same_self q) (omega arith), every_so (λ p. 1 ≤ times p qs) (λ p. 1 ≤ times p (q ∷ qs)) qs (λ p h. omega (arith, h)) (counts qs))

pub paths_valid : (es : List Module) (x : Expression) → Every (λ p. valid es x p ≡ true) (paths es x)
unfolding pick
paths_valid es x = every_so (λ p. 1 ≤ times p (paths es x)) (λ p. valid es x p ≡ true) (paths es x) (λ p h. go (valid es x p) (times p (paths es x)) (each_once es x p) h) (counts (paths es x))
  where
    go : (b : Bool) (n : ℕ) → n ≡ pick b 1 0 → 1 ≤ n → b ≡ true
    go true n e h = refl
    go false n e h = absurd (omega (arith, e, h))

pub drawn_once : (ms : List Module) (asked : Name) → DrawnOnce ms asked
unfolding diagram
drawn_once ms asked =
    let es = latest_first [] ms in
    let x = asked_expression asked in
    let whole : drawn es 0 x ≡ each (λ (p : Path). shown_at (length p) (end_of es x p)) (paths es x) =
    all_drawn es 0 x ∙ each_alike _ _ (λ p. let z : 0 + length p ≡ length p = omega arith in ap (λ (n : ℕ). shown_at n (end_of es x p)) z) (paths es x) in
    record {
      once_each = λ p. each_once es x p;
      ascend = paths_ascend es x;
      all = whole;
      one_line =
          ap (keep is_head) whole
          ∙ each_head (λ (p : Path). shown_at (length p) (end_of es x p)) (λ (p : Path). head_at (length p) (end_of es x p)) (paths es x)
          (every_so (λ p. valid es x p ≡ true) (λ p. keep is_head (shown_at (length p) (end_of es x p)) ≡ head_at (length p) (end_of es x p) ∷ [])
          (paths es x) (λ p h. place_head (length p) (end_of es x p) h) (paths_valid es x));
    }
