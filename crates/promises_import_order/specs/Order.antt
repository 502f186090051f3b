-- Modules whose import expressions stand in another order, or some of them more than once. One evaluates alike, over modules evaluated before that
-- are the same in both calls (`evaluate_anyhow`); and proofs/Order.antt has it of the
-- specifications of such modules. Names change as in `promises_replacing`, by the change that changes none.
use Rattle.std.specs.Prelude.{◌≡◌, ℕ, false}
use Rattle.std.proofs.Math.Path.{refl, sym, ap, ap₂, subst}
use Rattle.std.proofs.Common.{◌∙◌}
use mathlib.Core.List.{List, [], ◌∷◌, map, Memᴰ}
use Rattle.meaning.specs.Names.{Name, same}
use Rattle.meaning.specs.Syntax.{Function, Signature, Pair, Clause, renamed_by, bound_by, Import, Term, node, Terms, no_terms, ◌then◌, Sides, Equation, Module, variables_of}
use Rattle.meaning.specs.Origins.{Declared, declared_sort, declared_function, declared_variable, Origin, Sort, visible_sort, hidden_sort, FunctionType, Head, visible_head, hidden_head, ResolvedTerm, var, app, ResolvedTerms, none_left, ◌and_then◌, ResolvedSides, ResolvedEquation, Shape, sort_shape, function_shape, variable_shape, Item}
use Rattle.meaning.specs.Normal.{Normal, empty}
use Rattle.meaning.specs.Clauses.{may_name}
use Rattle.meaning.specs.OrderLaws.{Rearranged, Every}
use Rattle.meaning.specs.Checks.{Outcome, fine, stop, ◌>>=◌, Size}
use Rattle.meaning.specs.Evaluate.{Evaluated, named_by, evaluate, import_names, missing, too_late, names_right, declared_once, normal_of, clauses, expressions, united, imported, seen_sorts, joined_visible, own_checks, own_equations, joined_hidden, joined_own}
use Rattle.meaning.specs.Reached.{Placed, Ended, normalised, refused_at, total_of}
use Rattle.meaning.specs.Lists.{pick}
use Rattle.meaning.specs.Own.{resolved, function_type, own_sort, own_function, own_section, own_slot, own_visible, own_variable, own_hidden_items, available_sorts}
use Rattle.promises.specs.SameListing.{SameNormal}
use Rattle.promises.specs.Demand.{InTurn}
use Rattle.promises.specs.TwoCalls.{every_first, equals_same, PlacedAlike, evaluated, Beside, Goes, went_on, by_turns}
use Rattle.promises.specs.SoundEvaluation.{PlainModule, imports_plain, PlainClause, Whole, WholeEnv, Accepted, expressions_whole, evaluated_accepted}
use Rattle.promises.specs.AcceptedForms.{accepted_one_order, same_itself}
use Rattle.promises_replacing.specs.Changing.{re_function, re_signature, re_parameter, re_pair, re_clause, re_import, re_group, re_raw, re_raws, re_raw_sides, re_raw_equation, re_module, re_declared, re_origin, re_sort, re_type, re_shape, re_item, re_head, re_term, re_terms, re_sides, re_equation}
use Rattle.promises_replacing.specs.VisibleAlike.{Like, member_map_from}
use Rattle.promises_replacing.specs.Alike.{Alike, Both}
use Rattle.promises_replacing.specs.ModulesAlike.{EasyClause, EasyImport, HasTags, GoodPlaced, EnvAlike, expressions_alike, imported_alike, joined_own_alike, evaluates_so}
use Rattle.promises_import_order.specs.Sets.{Among, SameSet, set_turned, set_each, every_among}
use Rattle.promises_import_order.specs.AnyOrder.{united_anyhow, Good}
use Rattle.meaning.specs.OutcomeLaws.{then_fine, bind_fine, fine_same, never}
use Rattle.laws.specs.EveryLaws.{every_so, member_map_to, every_of}
use Rattle.laws.specs.Outcomes.{gives_of}

abbrev pub as_it_is : Name → Name
as_it_is w = w

pub kept : (v w : Name) → same (as_it_is v) (as_it_is w) ≡ same v w
kept v w = refl

all_same : {A : Type 0} (f : A → A) → ((x : A) → f x ≡ x) → (xs : List A) → map f xs ≡ xs
all_same f h [] = refl
all_same f h (x ∷ xs) = ap₂ ◌∷◌ (h x) (all_same f h xs)

names_same : (ws : List Name) → map as_it_is ws ≡ ws
names_same ws = all_same as_it_is (λ w. refl) ws

-- ---- modules

function_same : (f : Function) → re_function as_it_is f ≡ f
unfolding re_function
function_same f = λ i. record { name = f.name; inputs = names_same f.inputs i; output = f.output }

signature_same : (s : Signature) → re_signature as_it_is s ≡ s
unfolding re_signature
signature_same s = λ i. record { sorts = names_same s.sorts i; functions = all_same (re_function as_it_is) function_same s.functions i }

clause_same : (c : Clause) → re_clause as_it_is c ≡ c
unfolding re_clause re_pair
clause_same (renamed_by rs) = ap renamed_by (all_same (re_pair as_it_is) (λ r. refl) rs)
clause_same (bound_by p rs m) = ap (λ (xs : List Pair). bound_by p xs m) (all_same (re_pair as_it_is) (λ r. refl) rs)

mutual
  unfolding re_raw

  raw_same : (t : Term) → re_raw as_it_is t ≡ t
  raw_same (node f xs) = ap (node f) (raws_same xs)

  raws_same : (ts : Terms) → re_raws as_it_is ts ≡ ts
  raws_same no_terms = refl
  raws_same (x then xs) = ap₂ ◌then◌ (raw_same x) (raws_same xs)

raw_sides_same : (e : Sides) → re_raw_sides as_it_is e ≡ e
unfolding re_raw_sides
raw_sides_same e = λ i. record { left = raw_same e.left i; right = raw_same e.right i }

raw_equation_same : (e : Equation) → re_raw_equation as_it_is e ≡ e
unfolding re_raw_equation
raw_equation_same e = λ i. record {
  tag = e.tag;
  before = all_same (re_raw_sides as_it_is) raw_sides_same e.before i;
  conclusion = raw_sides_same e.conclusion i;
  after = all_same (re_raw_sides as_it_is) raw_sides_same e.after i;
}

pub module_same : (m : Module) → re_module as_it_is m ≡ m
unfolding re_module re_parameter re_import re_group
module_same m = λ i. record {
  name = m.name;
  parameters = all_same (re_parameter as_it_is) (λ p j. record { name = p.name; signature = signature_same p.signature j }) m.parameters i;
  exports = signature_same m.exports i;
  imports =
      all_same (re_import as_it_is) (λ x j. record { name = x.name; clauses = all_same (re_clause as_it_is) clause_same x.clauses j }) m.imports i;
  hidden = signature_same m.hidden i;
  groups = all_same (re_group as_it_is) (λ g j. record { names = names_same g.names j; sort = g.sort }) m.groups i;
  equations = all_same (re_raw_equation as_it_is) raw_equation_same m.equations i;
}

-- ---- normal forms

declared_same : (d : Declared) → re_declared as_it_is d ≡ d
unfolding re_declared
declared_same (declared_sort a) = refl
declared_same (declared_function f i o) = ap (λ (ws : List Name). declared_function f ws o) (names_same i)
declared_same (declared_variable v s) = refl

origin_same : (o : Origin) → re_origin as_it_is o ≡ o
unfolding re_origin
origin_same o = λ i. record { home = o.home; section = o.section; declared = declared_same o.declared i }

sort_same : (s : Sort) → re_sort as_it_is s ≡ s
unfolding re_sort
sort_same (visible_sort a) = refl
sort_same (hidden_sort o) = ap hidden_sort (origin_same o)

type_same : (t : FunctionType) → re_type as_it_is t ≡ t
unfolding re_type
type_same t = λ i. record { inputs = all_same (re_sort as_it_is) sort_same t.inputs i; output = sort_same t.output i }

shape_same : (s : Shape) → re_shape as_it_is s ≡ s
unfolding re_shape
shape_same sort_shape = refl
shape_same (function_shape t) = ap function_shape (type_same t)
shape_same (variable_shape s) = ap variable_shape (sort_same s)

item_same : (i : Item) → re_item as_it_is i ≡ i
unfolding re_item
item_same i = λ j. record { standing = i.standing; name = i.name; shape = shape_same i.shape j; origin = origin_same i.origin j }

head_same : (f : Head) → re_head as_it_is f ≡ f
unfolding re_head
head_same (visible_head f t) = ap (visible_head f) (type_same t)
head_same (hidden_head o t) = ap₂ hidden_head (origin_same o) (type_same t)

mutual
  unfolding re_term

  term_same : (t : ResolvedTerm) → re_term as_it_is t ≡ t
  term_same (var o s) = ap₂ var (origin_same o) (sort_same s)
  term_same (app f xs) = ap₂ app (head_same f) (terms_same xs)

  terms_same : (ts : ResolvedTerms) → re_terms as_it_is ts ≡ ts
  terms_same none_left = refl
  terms_same (x and_then xs) = ap₂ ◌and_then◌ (term_same x) (terms_same xs)

sides_same : (e : ResolvedSides) → re_sides as_it_is e ≡ e
unfolding re_sides
sides_same e = λ i. record { left = term_same e.left i; right = term_same e.right i }

equation_same : (e : ResolvedEquation) → re_equation as_it_is e ≡ e
unfolding re_equation
equation_same e = λ i. record {
  module_number = e.module_number;
  position = e.position;
  tag = e.tag;
  conclusion = sides_same e.conclusion i;
  conditions = all_same (re_sides as_it_is) sides_same e.conditions i;
}

-- ---- so forms that are alike are the same in another order

module _ {A : Type 0} (g : A → A) (same_g : (x : A) → g x ≡ x) {xs ys : List A} where
  to_like : Rearranged xs ys → Like g xs ys
  to_like d = record { arranged = subst (λ (r : List A). Rearranged r ys) (sym (all_same g same_g xs)) d }

  from_like : Like g xs ys → Rearranged xs ys
  from_like d = subst (λ (r : List A). Rearranged r ys) (all_same g same_g xs) d.arranged

module _ (tags : ℕ → ℕ → Name) {n n' : Normal} where
  pub same_alike : SameNormal n n' → Alike as_it_is kept tags n n'
  same_alike s = record {
    visible = record { parameters = s.parameters; items = to_like (re_item as_it_is) item_same s.items };
    hidden_items = to_like (re_item as_it_is) item_same s.hidden_items;
    equations = to_like (re_equation as_it_is) equation_same s.equations;
  }

  pub alike_same : Alike as_it_is kept tags n n' → SameNormal n n'
  alike_same a = record {
    parameters = a.visible.parameters;
    items = from_like (re_item as_it_is) item_same a.visible.items;
    hidden_items = from_like (re_item as_it_is) item_same a.hidden_items;
    equations = from_like (re_equation as_it_is) equation_same a.equations;
  }

-- and no renaming gets harder
clause_easy : (tags : ℕ → ℕ → Name) (c : Clause) → EasyClause as_it_is kept tags c
clause_easy tags (renamed_by rs) = every_of _ rs (λ r m s e. ap (may_name r.new) (shape_same s) ∙ e)
clause_easy tags (bound_by p rs m) = tt

pub import_easy : (tags : ℕ → ℕ → Name) (i : Import) → EasyImport as_it_is kept tags i
import_easy tags i = every_of _ i.clauses (λ c m. clause_easy tags c)

-- m' is m with its import expressions in another order, some perhaps written more than once, or no longer so
pub record OtherOrder (m m' : Module) : Type 0 where
  pub name : m.name ≡ m'.name
  pub parameters : m.parameters ≡ m'.parameters
  pub exports : m.exports ≡ m'.exports
  pub imports : SameSet m.imports m'.imports
  pub hidden : m.hidden ≡ m'.hidden
  pub groups : m.groups ≡ m'.groups
  pub equations : m.equations ≡ m'.equations

pub order_turned : {m m' : Module} → OtherOrder m m' → OtherOrder m' m
order_turned o = record {
  name = sym o.name;
  parameters = sym o.parameters;
  exports = sym o.exports;
  imports = set_turned o.imports;
  hidden = sym o.hidden;
  groups = sym o.groups;
  equations = sym o.equations;
}

-- ---- import expressions: each makes what it makes, whatever stands beside it

module _ (env : List Evaluated) where
  abbrev made : Import → Outcome Normal
  made i = clauses env i.clauses (normal_of env i.name)

  expressions_so : (is : List Import) (ns : List Normal) → expressions env is ≡ fine ns → map made is ≡ map fine ns
  unfolding expressions
  expressions_so [] ns e = ap (map fine) (fine_same [] ns e)
  expressions_so (i ∷ is) ns e =
      let b = bind_fine (made i) _ ns e in
      let c = bind_fine (expressions env is) _ ns b.2 in
      ap₂ ◌∷◌ b.1 (expressions_so is c.0 c.1) ∙ ap (map fine) (fine_same _ ns c.2)

  expressions_each : (is : List Import) (ns : List Normal) → expressions env is ≡ fine ns → (i : Import) → Memᴰ i is
      → (n : Normal) × Memᴰ n ns × (made i ≡ fine n)
  expressions_each is ns e i m = member_map_from fine ns (subst (Memᴰ (made i)) (expressions_so is ns e) (member_map_to made m))

  expressions_made : (is : List Import) → ((i : Import) → Memᴰ i is → (n : Normal) × (made i ≡ fine n))
      → (ns : List Normal) × (expressions env is ≡ fine ns)
  unfolding expressions ◌>>=◌
  expressions_made [] h = ([], refl)
  expressions_made (i ∷ is) h =
      let a = h i (Memᴰ.head refl) in
      let r = expressions_made is (λ j m. h j (Memᴰ.tail m)) in
      (a.0 ∷ r.0, rw (a.1, r.1))

  -- the same expressions make the same forms
  expressions_among : (is is' : List Import) → Among is is' → (ns ns' : List Normal) → expressions env is ≡ fine ns → expressions env is' ≡ fine ns'
      → Among ns ns'
  expressions_among is is' t ns ns' e e' k m =
      let i = member_map_from made is (subst (Memᴰ (fine k)) (sym (expressions_so is ns e)) (member_map_to fine m)) in
      let r = expressions_each is' ns' e' i.0 (t i.0 i.1) in
      subst (λ (x : Normal). Memᴰ x ns') (fine_same r.0 k (sym r.2 ∙ sym i.2)) r.1

-- ---- step 1: the names of modules

module _ (declared earlier : List Name) where
  abbrev Right : Name → Type 0
  Right w = (missing declared w ≡ false) × (too_late declared earlier w ≡ false)

  names_each : (ws : List Name) → names_right declared earlier ws ≡ fine tt → Every Right ws
  unfolding names_right
  names_each [] e = tt
  names_each (w ∷ ws) e =
      let a = went_on (missing declared w) _ _ _ tt e in
      let b = went_on (too_late declared earlier w) _ _ _ tt a.1 in
      ((a.0, b.0), names_each ws b.1)

  names_made : (ws : List Name) → Every Right ws → names_right declared earlier ws ≡ fine tt
  unfolding names_right pick
  names_made [] h = refl
  names_made (w ∷ ws) h = rw (h.0.0, h.0.1) (names_made ws h.1)

  names_anyhow : (ws ws' : List Name) → SameSet ws ws' → names_right declared earlier ws ≡ fine tt → names_right declared earlier ws' ≡ fine tt
  names_anyhow ws ws' s e = names_made ws' (every_among Right s.from (names_each ws e))

pub named_anyhow : (m m' : Module) → OtherOrder m m' → SameSet (named_by m) (named_by m')
unfolding named_by
named_anyhow m m' o = set_each import_names o.imports

-- ---- what does not look at the imports

abbrev pub with_imports : Module → List Import → Module
with_imports m is = record {
  name = m.name;
  parameters = m.parameters;
  exports = m.exports;
  imports = is;
  hidden = m.hidden;
  groups = m.groups;
  equations = m.equations;
}

but_for_imports : (m m' : Module) → OtherOrder m m' → with_imports m m'.imports ≡ m'
but_for_imports m m' o = λ i. record {
  name = o.name i;
  parameters = o.parameters i;
  exports = o.exports i;
  imports = m'.imports;
  hidden = o.hidden i;
  groups = o.groups i;
  equations = o.equations i;
}

joined_same : (m m' : Module) → OtherOrder m m' → (home : ℕ) (total : Size) (n : Normal) → joined_own home total m' n ≡ joined_own home total m n
unfolding joined_own own_checks own_equations joined_hidden joined_visible seen_sorts own_visible own_section own_sort own_function function_type resolved own_slot own_hidden_items own_variable available_sorts variables_of
joined_same m m' o home total n = ap (λ (x : Module). joined_own home total x n) (sym (but_for_imports m m' o))

once_anyhow : (m m' : Module) → OtherOrder m m' → declared_once m' ≡ declared_once m
unfolding declared_once
once_anyhow m m' o = ap declared_once (sym (but_for_imports m m' o))

-- ---- one module

module _ (tags : ℕ → ℕ → Name) where
  abbrev Same : Normal → Normal → Type 0
  Same n n' = Both as_it_is kept tags n n'

  -- what every normal form of a call keeps
  pub record Kept (n : Normal) : Type 0 where
    pub whole : Whole n
    pub itself : Same n n

  abbrev pub KeptEnv : List Evaluated → Type 0
  KeptEnv env = Every (λ e. Kept e.normal) env

  env_itself : (env : List Evaluated) → KeptEnv env → EnvAlike as_it_is kept tags env env
  env_itself [] h = tt
  env_itself (e ∷ es) h = (record { name = refl; normal = h.0.itself }, env_itself es h.1)

  env_whole : (env : List Evaluated) → KeptEnv env → WholeEnv env
  env_whole env h = every_so (λ e. Kept e.normal) (λ e. Whole e.normal) env (λ e k. k.whole) h

  all_good : (ns ns' : List Normal) → InTurn Same ns ns' → Every Whole ns → Every (Good tags) ns
  all_good =
      by_turns Same (λ ns ns'. Every Whole ns → Every (Good tags) ns) (λ h. tt) (λ n n' ns ns' b more h.
      (record { once = b.once; stands = h.0.sound.standing; tagged = b.tagged }, more h.1))

  module _ (env : List Evaluated) (kept_env : KeptEnv env) where
    -- the imports united in another order are accepted too, and differ in order alone
    imported_anyhow : (is is' : List Import) → SameSet is is' → Every (λ i. Every PlainClause i.clauses) is → (n : Normal) → imported env is ≡ fine n
        → (n' : Normal) × (imported env is' ≡ fine n') × Same n n'
    unfolding imported ◌>>=◌
    imported_anyhow is is' s plain n e =
        let b = bind_fine (expressions env is) (united empty) n e in
        let again = expressions_made env is' (λ i m. let r = expressions_each env is b.0 b.1 i (s.from i m) in (r.0, r.2)) in
        let easy = every_of _ is (λ i m. import_easy tags i) in
        let each = expressions_alike as_it_is kept tags env env (env_itself env kept_env) is easy b.0 b.1 in
        let good = all_good b.0 each.0 each.2 (gives_of (Every Whole) _ b.0 (expressions_whole env (env_whole env kept_env) is plain) b.1) in
        let here = (imported_alike as_it_is kept tags env env (env_itself env kept_env) is easy n e).2 in
        let u =
        united_anyhow tags b.0 again.0 (record {
          to = expressions_among env is is' s.to b.0 again.0 b.1 again.1;
          from = expressions_among env is' is s.from again.0 b.0 again.1 b.1;
        })
        good n b.2 in
        (u.0, rw again.1 u.1, record { alike = same_alike tags u.2; once = here.once; one = here.one; tagged = here.tagged })

    pub evaluate_anyhow : (declared earlier : List Name) (home : ℕ) (total : Size) (m m' : Module) → PlainModule m → PlainModule m' → OtherOrder m m'
        → HasTags tags home 0 m.equations → (k : Normal) → evaluate declared earlier home total env m ≡ fine k
        → (evaluate declared earlier home total env m' ≡ fine k) × Kept k
    unfolding evaluate
    evaluate_anyhow declared earlier home total m m' plain plain' o t k e =
        let a = then_fine (names_right declared earlier (named_by m)) _ k e in
        let c = then_fine (declared_once m) _ k a.1 in
        let f = bind_fine (imported env m.imports) _ k c.1 in
        let i = imported_anyhow m.imports m'.imports o.imports (imports_plain m plain) f.0 f.1 in
        let accepted = gives_of Accepted _ k (evaluated_accepted declared earlier home total env m plain (env_whole env kept_env)) e in
        let s = joined_own_alike as_it_is kept tags i.2 m home total t k f.2 accepted.whole.sound.visible in
        let made' =
        evaluates_so as_it_is kept tags declared earlier home total env m' i.0 s.0
        (names_anyhow declared earlier (named_by m) (named_by m') (named_anyhow m m' o) a.0) (once_anyhow m m' o ∙ c.0) i.1
        (joined_same m m' o home total i.0 ∙ ap (λ (x : Module). joined_own home total x i.0) (sym (module_same m)) ∙ s.1) in
        let accepted' = gives_of Accepted _ s.0 (evaluated_accepted declared earlier home total env m' plain' (env_whole env kept_env)) made' in
        let q : s.0 ≡ k =
        accepted_one_order s.0 s.0 accepted' (same_itself s.0) ∙ sym (accepted_one_order k s.0 accepted (alike_same tags s.2.alike)) in
        (made' ∙ ap fine q, record { whole = accepted.whole; itself = subst (Same k) q s.2 })

-- ---- all modules in turn

-- both accepted, with one count and one normal form; or both refused, with one count, at one module
abbrev pub EndsAlike : Ended → Ended → Type 0
EndsAlike (normalised c n) (normalised c' n') = (c ≡ c') × (n ≡ n')
EndsAlike (normalised c n) (refused_at k c' m w) = ⊥
EndsAlike (refused_at k c m w) (normalised c' n) = ⊥
EndsAlike (refused_at k c m w) (refused_at k' c' m' w') = (c ≡ c') × (m ≡ m')

module _ (tags : ℕ → ℕ → Name) where
  -- one normal form, which is kept
  abbrev pub One : Normal → Normal → Type 0
  One n n' = (n ≡ n') × Kept tags n

  abbrev pub SamePlaced : Placed → Placed → Type 0
  SamePlaced x x' = PlacedAlike OtherOrder x x' × (GoodPlaced as_it_is kept tags x × PlainModule x'.self)

  -- a module that stands at the same place, over the same modules evaluated before
  evaluates : (declared : List Name) (x x' : Placed) (env : List Evaluated) → PlacedAlike OtherOrder x x' → Every (λ e. Kept tags e.normal) env
      → PlainModule x.self → PlainModule x'.self → HasTags tags x.number 0 x.self.equations → (n : Normal)
      → evaluated declared env x ≡ fine n → (evaluated declared env x' ≡ fine n) × Kept tags n
  evaluates declared x x' env p h plain plain' t n e =
      let r = evaluate_anyhow tags env h declared x.earlier x.number (total_of env) x.self x'.self plain plain' p.self t n e in
      (subst (λ (o : Outcome Normal). o ≡ fine n) (λ i. evaluate declared (p.earlier i) (p.number i) (total_of env) env x'.self) r.0, r.1)

  pub evaluated_anyhow : (declared : List Name) (env env' : List Evaluated) → InTurn (Beside One) env env' → (x x' : Placed) → SamePlaced x x'
      → Goes One ⊥ (evaluated declared env x) (evaluated declared env' x')
  evaluated_anyhow declared env env' h x x' p =
      subst (λ (es : List Evaluated). Goes One ⊥ (evaluated declared env x) (evaluated declared es x'))
      (equals_same _ (λ e e' b i. record { name = b.name i; normal = b.normal.0 i }) env env' h)
      (go (evaluated declared env x) (evaluated declared env x') (evaluates declared x x' env q k plain p.1.1 p.1.0.has_tags)
      (λ n e. (evaluates declared x' x env turned k p.1.1 plain tagged' n e).0))
    where
      q : PlacedAlike OtherOrder x x'
      q = p.0

      plain : PlainModule x.self
      plain = p.1.0.plain

      k : Every (λ e. Kept tags e.normal) env
      k = every_first _ _ (λ e e' b. b.normal.1) env env' h

      turned : PlacedAlike OtherOrder x' x
      turned = record { self = order_turned q.self; number = sym q.number; earlier = sym q.earlier }

      tagged' : HasTags tags x'.number 0 x'.self.equations
      tagged' =
          subst (λ (es : List Equation). HasTags tags x'.number 0 es) q.self.equations
          (subst (λ (j : ℕ). HasTags tags j 0 x.self.equations) q.number p.1.0.has_tags)

      go : (o o' : Outcome Normal) → ((n : Normal) → o ≡ fine n → (o' ≡ fine n) × Kept tags n) → ((n : Normal) → o' ≡ fine n → o ≡ fine n) → Goes One ⊥ o o'
      go (fine n) o' f b = subst (Goes One ⊥ (fine n)) (sym (f n refl).0) (refl, (f n refl).1)
      go (stop j w) (fine n) f b = never j w n (b n refl)
      go (stop j w) (stop j' w') f b = tt
