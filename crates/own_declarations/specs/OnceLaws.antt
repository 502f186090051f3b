-- 9 by places is the meaning's (meaning/specs/Evaluate.antt, step 2): each declaration is held against those before it in its section.
use Rattle.std.specs.Prelude.{◌≡◌, Bool, true, false, not, eqb}
use Rattle.std.proofs.Math.Path.{refl, ap, ap₂, subst}
use Rattle.std.proofs.Common.{sym, ◌∙◌, add-zero}
use mathlib.Core.List.{List, [], ◌∷◌, map}
use Prim.Native.Nat.{ℕ, suc, ◌+◌, ◌-◌, ◌<◌, ◌≤◌}
use native.Mathlib.Omega.{arith}
use borrow.Author.Tests.{le-ltb, eq-eqb, ne_eqb}
use Rattle.std.proofs.Math.ListN.{length, length-append}
use Rattle.meaning.specs.Lists.{pick, any, each, repeated, first_bad}
use Rattle.meaning.specs.Names.{Name, same, member}
use Rattle.meaning.specs.Numbers.{declared_twice}
use Rattle.meaning.specs.Syntax.{Function, Signature, Parameter, Module}
use Rattle.meaning.specs.Origins.{Declared, declared_sort, declared_function, same_declared}
use Rattle.meaning.specs.Checks.{lone, Check, fine, ◌>>◌, unless, needs, each_beside}
use Rattle.meaning.specs.Evaluate.{same_function, once_in, once_in_parameters, declared_once, once_in_parameter}
use Rattle.tape.specs.Roles.{All, all_map, all_type, all_signature, all_parameters, all_imports, all_groups, all_equations}
use Rattle.tape.specs.Tape.{Entry, entry, flat_function, flat_signature, flat_parameter, flat_module, parameter_role, parameter_sort, parameter_function, variable_role}
use Rattle.form_rows.specs.Entries.{role_at, name_at, is_function_role, is_parameter_role, last_with, declared_at}
use Rattle.own_repeats.specs.Scans.{found, walked}
use Rattle.own_repeats.specs.Once.{is_declaring, repeats, section_start, is_repeat, once_at}
use Rattle.own_declarations.specs.Spelled.{Spells, spells_front, spells_behind, last_over}
use Rattle.own_declarations.specs.Runs.{parameters_of, exports_of, imports_of, groups_of, equations_of, at_exports, at_imports, at_hidden, at_groups, at_equations, Parts, parts, quiet_run, walk_module, then_fine, check_walks, walked_append}
use Rattle.own_declarations.specs.ItemLaws.{Few, FewEach, FewInputs, FunctionAt, function_at, function_long, type_entries}
use Rattle.own_declarations.specs.VariableLaws.{either_way, either_false, found_more, told_at, refused_then}

any_member : (n : Name) (ns : List Name) → any (same n) ns ≡ member n ns
unfolding any member
any_member n [] = refl
any_member n (x ∷ xs) = ap (λ (b : Bool). pick (same n x) true b) (any_member n xs)

told_needs : (k : ℕ) (n : Name) (b : Bool) → told_at b k n ≡ needs k (lone n) (not b)
unfolding told_at needs pick
told_needs k n true = refl
told_needs k n false = refl

module _ (text tape : List ℕ) (a : ℕ) where
  abbrev walk : ℕ → List Entry → Check
  walk i es = walked (once_at text tape a) i (length es)

  walk_quiet : (es : List Entry) (i : ℕ) → All (λ (r : ℕ). 9 ≤ r) es → Spells text tape i es → walk i es ≡ fine tt
  unfolding once_at is_declaring pick
  walk_quiet es i h k =
      quiet_run (check_walks (once_at text tape a)) (λ (r : ℕ). 9 ≤ r) text tape
      (λ j q. rw (le-ltb (role_at tape j) 2 (omega arith), le-ltb (role_at tape j) 9 q)) es i h k

  -- ---- what stands before a place in its section: things of A with the role r

  module _ (A : Type 0) (r : ℕ) (decl : A → Declared) (e : A → A → Bool) (agreed : (x y : A) → same_declared (decl x) (decl y) ≡ e x y) (start : ℕ) where
    abbrev Before : ℕ → List A → Type 0
    Before i seen = (j : ℕ) (x : A) → role_at tape j ≡ r → declared_at text tape j ≡ decl x → found (repeats text tape j) start (i - start) ≡ any (e x) seen

    before_none : Before start []
    unfolding found any
    before_none j x f g = let z : start - start ≡ 0 = omega arith in rw z

    before_same : (i : ℕ) (y : A) (seen : List A) → start ≤ i → role_at tape i ≡ r → declared_at text tape i ≡ decl y → Before i seen → Before (suc i) (y ∷ seen)
    unfolding repeats any pick
    before_same i y seen h p q b j x f g =
        found_more (repeats text tape j) start i h ∙ rw (b j x f g, f, p, eq-eqb r r refl, g, q, agreed x y) (either_way (any (e x) seen) (e x y))

    before_other : (i : ℕ) (seen : List A) → start ≤ i → (role_at tape i ≡ r → ⊥) → Before i seen → Before (suc i) seen
    unfolding repeats pick
    before_other i seen h p b j x f g =
        found_more (repeats text tape j) start i h ∙ rw (b j x f g, f, ne_eqb r (role_at tape i) (λ q. p (sym q))) (either_false (any (e x) seen))

    before_run : (es : List Entry) (i : ℕ) (seen : List A) → start ≤ i → All (λ (x : ℕ). x ≡ r → ⊥) es → Spells text tape i es → Before i seen → Before (i + length es) seen
    before_run [] i seen h l k b = rw (add-zero i) b
    before_run (x ∷ es) i seen h l k b =
        let z : i + suc (length es) ≡ suc i + length es = omega arith in
        rw z (before_run es (suc i) seen (omega arith) l.1 k.2 (before_other i seen h (λ q. l.0 (sym k.0 ∙ q)) b))

    once_told : (i : ℕ) (x : A) (n : Name) (seen : List A) → is_declaring r ≡ true → role_at tape i ≡ r → section_start tape a i ≡ start → declared_at text tape i ≡ decl x
        → name_at text tape i ≡ n → Before i seen → once_at text tape a i ≡ told_at (any (e x) seen) declared_twice n
    unfolding once_at is_repeat told_at pick
    once_told i x n seen d p q g f b = rw (q, b i x p g, p, d, f)

-- ---- sorts and functions as declarations

sort_agreed : (x y : Name) → same_declared (declared_sort x) (declared_sort y) ≡ same x y
unfolding same_declared
sort_agreed x y = refl

abbrev as_declared : Function → Declared
as_declared f = declared_function f.name f.inputs f.output

function_agreed : (x y : Function) → same_declared (as_declared x) (as_declared y) ≡ same_function x y
unfolding same_declared same_function
function_agreed x y = refl

sort_declared : (text tape : List ℕ) (i r : ℕ) (n : Name) → role_at tape i ≡ r → is_function_role r ≡ false → eqb r variable_role ≡ false → name_at text tape i ≡ n → declared_at text tape i ≡ declared_sort n
unfolding declared_at pick
sort_declared text tape i r n e f g h = rw (e, f, g, h)

function_declared : (text tape : List ℕ) (i r : ℕ) (f : Function) → role_at tape i ≡ r → is_function_role r ≡ true → FunctionAt text tape i f → declared_at text tape i ≡ as_declared f
unfolding declared_at pick
function_declared text tape i r f e g k = rw (e, g, k.arity, k.name, k.inputs, k.output)

module _ (tape : List ℕ) (a i r : ℕ) (e : role_at tape i ≡ r) where
  start_parameter : (p : ℕ) → is_parameter_role r ≡ true → last_with parameter_role tape i ≡ p → section_start tape a i ≡ p
  unfolding section_start pick
  start_parameter p f g = rw (e, f, g)

  start_module : is_parameter_role r ≡ false → section_start tape a i ≡ a
  unfolding section_start pick
  start_module f = rw (e, f)

-- ---- a section with the roles q and r, which begins at start: its entries from lo up to hi

module _ (text tape : List ℕ) (a start q r : ℕ) (low : r < 9) (apart : q ≡ r → ⊥) (declaring_q : is_declaring q ≡ true) (declaring_r : is_declaring r ≡ true)
    (sort_q : is_function_role q ≡ false) (other_q : eqb q variable_role ≡ false) (function_r : is_function_role r ≡ true) (lo hi : ℕ)
    (start_q : (i : ℕ) → lo ≤ i → i < hi → role_at tape i ≡ q → section_start tape a i ≡ start)
    (start_r : (i : ℕ) → lo ≤ i → i < hi → role_at tape i ≡ r → section_start tape a i ≡ start) (from : start ≤ lo) where
  abbrev Sorts : ℕ → List Name → Type 0
  Sorts i seen = Before text tape a Name q declared_sort same sort_agreed start i seen

  abbrev Functions : ℕ → List Function → Type 0
  Functions i seen = Before text tape a Function r as_declared same_function function_agreed start i seen

  sorts_once : (ns : List Name) (i : ℕ) (seen : List Name) → lo ≤ i → i + length (map (entry q) ns) ≤ hi → Sorts i seen → Spells text tape i (map (entry q) ns)
      → walk text tape a i (map (entry q) ns) ≡ unless declared_twice (repeated (λ (w : Name). w) same seen ns)
  unfolding walked repeated first_bad unless
  sorts_once [] i seen h l b k = refl
  sorts_once (n ∷ ns) i seen h l b k =
      let d = sort_declared text tape i q n k.0 sort_q other_q k.1 in
      ap₂ (λ (x y : Check). x >> y)
      (once_told text tape a Name q declared_sort same sort_agreed start i n n seen declaring_q k.0 (start_q i h (omega arith) k.0) d k.1 b)
      (sorts_once ns (suc i) (n ∷ seen) (omega arith) (omega arith) (before_same text tape a Name q declared_sort same sort_agreed start i n seen (omega arith) k.0 d b) k.2)
      ∙ refused_then declared_twice n (any (same n) seen) (repeated (λ (w : Name). w) same (n ∷ seen) ns)

  function_once : (f : Function) (i : ℕ) (seen : List Function) → lo ≤ i → i < hi → length f.inputs ≤ 8 → Functions i seen → Spells text tape i (flat_function r f)
      → walk text tape a i (flat_function r f) ≡ told_at (any (same_function f) seen) declared_twice f.name
  unfolding walked flat_function
  function_once f i seen h l n b k =
      let d = function_declared text tape i r f k.0 function_r (function_at text tape r f i n k) in
      ap₂ (λ (x y : Check). x >> y)
      (once_told text tape a Function r as_declared same_function function_agreed start i f f.name seen declaring_r k.0 (start_r i h l k.0) d k.1 b)
      (walk_quiet text tape a (type_entries f) (suc i) (all_type (λ (x : ℕ). 9 ≤ x) (omega arith) (omega arith) f) k.2)
      ∙ then_fine (told_at (any (same_function f) seen) declared_twice f.name)

  function_behind : (f : Function) (i : ℕ) (seen : List Function) → lo ≤ i → length f.inputs ≤ 8 → Functions i seen → Spells text tape i (flat_function r f)
      → Functions (i + length (flat_function r f)) (f ∷ seen)
  unfolding flat_function
  function_behind f i seen h n b k =
      let d = function_declared text tape i r f k.0 function_r (function_at text tape r f i n k) in
      let z : suc i + length (type_entries f) ≡ i + suc (length (type_entries f)) = omega arith in
      subst (λ (j : ℕ). Functions j (f ∷ seen)) z
      (before_run text tape a Function r as_declared same_function function_agreed start (type_entries f) (suc i) (f ∷ seen) (omega arith)
      (all_type (λ (x : ℕ). x ≡ r → ⊥) (λ x. omega arith) (λ x. omega arith) f) k.2
      (before_same text tape a Function r as_declared same_function function_agreed start i f seen (omega arith) k.0 d b))

  functions_once : (fs : List Function) (i : ℕ) (seen : List Function) → lo ≤ i → i + length (each (flat_function r) fs) ≤ hi → Few fs → Functions i seen
      → Spells text tape i (each (flat_function r) fs)
      → walk text tape a i (each (flat_function r) fs) ≡ unless declared_twice (repeated (λ (f : Function). f.name) same_function seen fs)
  unfolding walked each repeated first_bad unless
  functions_once [] i seen h l n b k = refl
  functions_once (f ∷ fs) i seen h l n b k =
      let rest = each (flat_function r) fs in
      let size = length-append (flat_function r f) rest in
      let one = spells_front text tape (flat_function r f) rest i k in
      walked_append (once_at text tape a) (flat_function r f) rest i
      ∙ ap₂ (λ (x y : Check). x >> y)
      (function_once f i seen h (omega (arith, size, function_long r f)) n.0 b one)
      (functions_once fs (i + length (flat_function r f)) (f ∷ seen) (omega arith) (omega (arith, size)) n.1 (function_behind f i seen h n.0 b one)
      (spells_behind text tape (flat_function r f) rest i k))
      ∙ refused_then declared_twice f.name (any (same_function f) seen) (repeated (λ (f : Function). f.name) same_function (f ∷ seen) fs)

  signature_once : (g : Signature) (i : ℕ) → lo ≤ i → i + length (flat_signature q r g) ≤ hi → Few g.functions → Sorts i [] → Functions i [] → Spells text tape i (flat_signature q r g)
      → walk text tape a i (flat_signature q r g) ≡ once_in g
  unfolding flat_signature once_in
  signature_once g i h l n b c k =
      let es = map (entry q) g.sorts in
      let fs = each (flat_function r) g.functions in
      let size = length-append es fs in
      let front = spells_front text tape es fs i k in
      walked_append (once_at text tape a) es fs i
      ∙ ap₂ (λ (x y : Check). x >> y)
      (sorts_once g.sorts i [] h (omega (arith, size)) b front)
      (functions_once g.functions (i + length es) [] (omega arith) (omega (arith, size)) n
      (before_run text tape a Function r as_declared same_function function_agreed start es i [] (omega arith) (all_map (λ (x : ℕ). x ≡ r → ⊥) q apart g.sorts) front c)
      (spells_behind text tape es fs i k))

-- ---- the module

module _ (text tape : List ℕ) (a : ℕ) where
  -- the parameters' names before place i
  abbrev Parameters : ℕ → List Name → Type 0
  Parameters i seen = Before text tape a Name 2 declared_sort same sort_agreed a i seen

  parameter_once : (p : Parameter) (i : ℕ) (seen : List Name) → a ≤ i → Few p.signature.functions → Parameters i seen → Spells text tape i (flat_parameter p)
      → walk text tape a i (flat_parameter p) ≡ once_in_parameter seen p
  unfolding walked flat_parameter is_declaring is_function_role is_parameter_role once_in_parameter pick
  parameter_once p i seen h n b k =
      let es = flat_signature parameter_sort parameter_function p.signature in
      let last : (x : ℕ) → suc i ≤ x → x < suc i + length es → last_with parameter_role tape x ≡ i = λ x j l.
      let z : i + (x - i) ≡ x = omega arith in
      rw z at (last_over text tape 2 i es k.0 (all_signature (λ (y : ℕ). 3 ≤ y) 3 4 (omega arith) (omega arith) (omega arith) (omega arith) p.signature) k.2 (x - i) (omega arith)) in
      let other : (r : ℕ) → (2 ≡ r → ⊥) → role_at tape i ≡ r → ⊥ = λ r u e. u (sym k.0 ∙ e) in
      ap₂ (λ (x y : Check). x >> y)
      (once_told text tape a Name 2 declared_sort same sort_agreed a i p.name p.name seen refl k.0 (start_module tape a i 2 k.0 refl)
      (sort_declared text tape i 2 p.name k.0 refl refl k.1) k.1 b
      ∙ ap (λ (x : Bool). told_at x declared_twice p.name) (any_member p.name seen) ∙ told_needs declared_twice p.name (member p.name seen))
      (signature_once text tape a i 3 4 (omega arith) (λ x. omega arith) refl refl refl refl refl (suc i) (suc i + length es)
      (λ x j l e. start_parameter tape a x 3 e i refl (last x j l))
      (λ x j l e. start_parameter tape a x 4 e i refl (last x j l)) (omega arith)
      p.signature (suc i) (omega arith) (omega arith) n
      (before_other text tape a Name 3 declared_sort same sort_agreed i i [] (omega arith) (other 3 (λ x. omega arith)) (before_none text tape a Name 3 declared_sort same sort_agreed i))
      (before_other text tape a Function 4 as_declared same_function function_agreed i i [] (omega arith) (other 4 (λ x. omega arith)) (before_none text tape a Function 4 as_declared same_function function_agreed i))
      k.2)

  parameter_behind : (p : Parameter) (i : ℕ) (seen : List Name) → a ≤ i → Parameters i seen → Spells text tape i (flat_parameter p) → Parameters (i + length (flat_parameter p)) (p.name ∷ seen)
  unfolding flat_parameter is_function_role pick
  parameter_behind p i seen h b k =
      let es = flat_signature parameter_sort parameter_function p.signature in
      let z : suc i + length es ≡ i + suc (length es) = omega arith in
      subst (λ (j : ℕ). Parameters j (p.name ∷ seen)) z
      (before_run text tape a Name 2 declared_sort same sort_agreed a es (suc i) (p.name ∷ seen) (omega arith)
      (all_signature (λ (x : ℕ). x ≡ 2 → ⊥) 3 4 (λ x. omega arith) (λ x. omega arith) (λ x. omega arith) (λ x. omega arith) p.signature) k.2
      (before_same text tape a Name 2 declared_sort same sort_agreed a i p.name seen h k.0 (sort_declared text tape i 2 p.name k.0 refl refl k.1) b))

  parameters_once : (ps : List Parameter) (i : ℕ) (seen : List Name) → a ≤ i → FewEach ps → Parameters i seen → Spells text tape i (each flat_parameter ps)
      → walk text tape a i (each flat_parameter ps) ≡ once_in_parameters seen ps
  unfolding walked each once_in_parameters each_beside
  parameters_once [] i seen h n b k = refl
  parameters_once (p ∷ ps) i seen h n b k =
      let rest = each flat_parameter ps in
      let one = spells_front text tape (flat_parameter p) rest i k in
      walked_append (once_at text tape a) (flat_parameter p) rest i
      ∙ ap₂ (λ (x y : Check). x >> y) (parameter_once p i seen h n.0 b one)
      (parameters_once ps (i + length (flat_parameter p)) (p.name ∷ seen) (omega arith) n.1 (parameter_behind p i seen h b one) (spells_behind text tape (flat_parameter p) rest i k))

  -- exports, or the hidden section: none of its roles stands before it
  section_once : (q r : ℕ) → r < 9 → (q ≡ r → ⊥) → is_declaring q ≡ true → is_declaring r ≡ true → is_function_role q ≡ false → eqb q variable_role ≡ false → is_function_role r ≡ true
      → is_parameter_role q ≡ false → is_parameter_role r ≡ false → (i : ℕ) → a ≤ i → Before text tape a Name q declared_sort same sort_agreed a i []
      → Before text tape a Function r as_declared same_function function_agreed a i [] → (g : Signature) → Few g.functions
      → Spells text tape i (flat_signature q r g) → walk text tape a i (flat_signature q r g) ≡ once_in g
  section_once q r low apart dq dr sq oq fr pq pr i h b c g n l =
      signature_once text tape a a q r low apart dq dr sq oq fr i (i + length (flat_signature q r g))
      (λ x j y e. start_module tape a x q e pq) (λ x j y e. start_module tape a x r e pr) h g i (omega arith) (omega arith) n b c l

  module _ (m : Module) (p : Parts text tape a m) where
    module _ (A : Type 0) (r : ℕ) (decl : A → Declared) (e : A → A → Bool) (agreed : (x y : A) → same_declared (decl x) (decl y) ≡ e x y) (low : r < 9) where
      abbrev Other : ℕ → Type 0
      Other x = x ≡ r → ⊥

      abbrev None : ℕ → Type 0
      None i = Before text tape a A r decl e agreed a i []

      before_parameters : 1 < r → None (suc a)
      before_parameters h =
          before_other text tape a A r decl e agreed a a [] (omega arith) (λ q. let z = sym p.head ∙ q in omega arith) (before_none text tape a A r decl e agreed a)

      before_exports : 4 < r → None (at_exports a m)
      before_exports h =
          before_run text tape a A r decl e agreed a (parameters_of m) (suc a) [] (omega arith)
          (all_parameters Other (λ x. omega arith) (λ x. omega arith) (λ x. omega arith) (λ x. omega arith) (λ x. omega arith) m.parameters) p.parameters
          (before_parameters (omega arith))

      before_hidden : 6 < r → None (at_hidden a m)
      before_hidden h =
          before_run text tape a A r decl e agreed a (imports_of m) (at_imports a m) [] (omega arith) (all_imports Other (λ y j k x. omega arith) m.imports) p.imports
          (before_run text tape a A r decl e agreed a (exports_of m) (at_exports a m) [] (omega arith)
          (all_signature Other 5 6 (λ x. omega arith) (λ x. omega arith) (λ x. omega arith) (λ x. omega arith) m.exports) p.exports (before_exports (omega arith)))

  -- 9 by places is the meaning's
  pub once_by_places : (m : Module) → FewInputs m → Spells text tape a (flat_module m) → walked (once_at text tape a) a (length (flat_module m)) ≡ declared_once m
  unfolding declared_once once_at is_declaring is_function_role is_parameter_role ◌>>◌ pick
  once_by_places m n k =
      let p = parts text tape a m k in
      walk_module (check_walks (once_at text tape a)) a m
      ∙ rw (
        p.head,
        parameters_once m.parameters (suc a) [] (omega arith) n.parameters (before_parameters m p Name 2 declared_sort same sort_agreed (omega arith) (omega arith)) p.parameters,
        section_once 5 6 (omega arith) (λ x. omega arith) refl refl refl refl refl refl refl (at_exports a m) (omega arith)
            (before_exports m p Name 5 declared_sort same sort_agreed (omega arith) (omega arith))
            (before_exports m p Function 6 as_declared same_function function_agreed (omega arith) (omega arith)) m.exports n.exports p.exports,
        walk_quiet text tape a (imports_of m) (at_imports a m) (all_imports (λ (x : ℕ). 9 ≤ x) (λ x y z. omega arith) m.imports) p.imports,
        section_once 7 8 (omega arith) (λ x. omega arith) refl refl refl refl refl refl refl (at_hidden a m) (omega arith)
            (before_hidden m p Name 7 declared_sort same sort_agreed (omega arith) (omega arith))
            (before_hidden m p Function 8 as_declared same_function function_agreed (omega arith) (omega arith)) m.hidden n.hidden p.hidden,
        walk_quiet text tape a (groups_of m) (at_groups a m) (all_groups (λ (x : ℕ). 9 ≤ x) (omega arith) (omega arith) m.groups) p.groups,
        walk_quiet text tape a (equations_of m) (at_equations a m) (all_equations (λ (x : ℕ). 9 ≤ x) (λ x y. omega arith) m.equations) p.equations,
        then_fine,
      )
