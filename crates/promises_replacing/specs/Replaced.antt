-- The proof: two names that change places, of which the second is used nowhere, and so takes the first one's place in the modules and in what they
-- evaluate to; then the answer of a call (proofs/Replaced.antt).
use Rattle.std.specs.Prelude.{◌≡◌, ℕ, Bool}
use Rattle.std.proofs.Math.Path.{refl, sym, ap, ap₂}
use Rattle.std.proofs.Common.{◌∙◌, true≢false}
use Rattle.std.proofs.Math.Bool.{false, true}
use mathlib.Core.List.{List, [], ◌∷◌, ◌++◌, map}
use Rattle.meaning.specs.Lists.{pick, each}
use Rattle.meaning.specs.Names.{Name, same, member, is_operator}
use Rattle.meaning.specs.Syntax.{Function, Signature, Pair, Clause, renamed_by, bound_by, Import, Term, node, Terms, no_terms, ◌then◌, Sides, Equation, Module}
use Rattle.meaning.specs.Origins.{Declared, declared_sort, declared_function, declared_variable, Origin, Sort, visible_sort, hidden_sort, FunctionType, Head, visible_head, hidden_head, ResolvedTerm, var, app, ResolvedTerms, none_left, ◌and_then◌, ResolvedSides, ResolvedEquation, Shape, sort_shape, function_shape, variable_shape, Item}
use Rattle.meaning.specs.Normal.{Normal}
use Rattle.meaning.specs.Reached.{normalised, normalise}
use Rattle.meaning.specs.OrderLaws.{Every, same_equal, same_self}
use Rattle.meaning.specs.Clauses.{arguments_fit, may_name}
use Rattle.laws.specs.EveryLaws.{every_so, every_split as split, split_each}
use Rattle.laws.specs.Walk.{ClauseNames}
use Rattle.promises.specs.Members.{each_way, refuted, found_first, found_later}
use Rattle.promises.specs.Public.{map_agree}
use Rattle.promises.specs.SoundEvaluation.{PlainModule}
use Rattle.promises_replacing.specs.NamesFrom.{DeclaredOf, SortOf, TypeOf, ShapeOf, ItemOf, HeadOf, TermOf, TermsOf, SidesOf, EquationOf, NormalOf, module_of, imports_of, names_from}
use Rattle.promises_replacing.specs.Reordering.{names_symmetric}
use Rattle.promises_replacing.specs.Changing.{re_function, re_signature, re_parameter, re_pair, re_clause, re_import, re_group, re_raw, re_raws, re_raw_sides, re_raw_equation, re_module, function_names, signature_names, pair_names, clause_pairs, import_pairs, term_names, terms_names, sides_names, equation_names, names_used, re_declared, re_origin, re_sort, re_type, re_shape, re_item, re_head, re_term, re_terms, re_sides, re_equation, re_visible, re_hidden, re_normal}
use Rattle.promises_replacing.specs.Replacing.{replace}
use Rattle.promises_replacing.specs.Exchanging.{map_length}
use Rattle.promises_replacing.specs.ModulesAlike.{EasyClause, EasyModule}

unfoldable pub exchange : Name → Name → Name → Name
exchange o f w = pick (same w o) f (pick (same w f) o w)

-- ---- two changes of names that agree on the names of a module

module _ (τ τ' : Name → Name) where
  abbrev Agreed : Name → Type 0
  Agreed w = τ w ≡ τ' w

  abbrev Agree : List Name → Type 0
  Agree ws = Every Agreed ws

  all_agreed : {A : Type 0} (Of : A → Type 0) (re re' : A → A) → ((x : A) → Of x → re x ≡ re' x) → (xs : List A) → Every Of xs → map re xs ≡ map re' xs
  all_agreed Of re re' h xs k = map_agree re re' xs (every_so Of _ xs h k)

  function_agrees : (f : Function) → Agree (function_names f) → re_function τ f ≡ re_function τ' f
  unfolding function_names re_function
  function_agrees f h = λ i. record { name = h.0 i; inputs = map_agree τ τ' f.inputs h.1.1 i; output = h.1.0 i }

  signature_agrees : (s : Signature) → Agree (signature_names s) → re_signature τ s ≡ re_signature τ' s
  unfolding signature_names re_signature
  signature_agrees s h =
      let r = split _ s.sorts (each function_names s.functions) h in
      let functions = all_agreed _ (re_function τ) (re_function τ') function_agrees s.functions (split_each _ function_names s.functions r.1) in
      λ i. record { sorts = map_agree τ τ' s.sorts r.0 i; functions = functions i }

  pairs_agree : (rs : List Pair) → Every (λ r. Agree (pair_names r)) rs → map (re_pair τ) rs ≡ map (re_pair τ') rs
  unfolding pair_names re_pair
  pairs_agree rs h = map_agree (re_pair τ) (re_pair τ') rs (every_so _ _ rs (λ r h i. record { old = h.0 i; new = h.1.0 i }) h)

  clause_agrees : (c : Clause) → Every (λ r. Agree (pair_names r)) (clause_pairs c) → re_clause τ c ≡ re_clause τ' c
  unfolding clause_pairs re_clause
  clause_agrees (renamed_by rs) h = ap renamed_by (pairs_agree rs h)
  clause_agrees (bound_by p rs m) h = ap (λ (xs : List Pair). bound_by p xs m) (pairs_agree rs h)

  import_agrees : (i : Import) → Every (λ r. Agree (pair_names r)) (import_pairs i) → re_import τ i ≡ re_import τ' i
  unfolding import_pairs re_import
  import_agrees i h =
      let clauses =
      map_agree (re_clause τ) (re_clause τ') i.clauses (every_so _ _ i.clauses clause_agrees (split_each _ clause_pairs i.clauses h)) in
      λ j. record { name = i.name; clauses = clauses j }

  mutual
    unfolding term_names re_raw

    term_agrees : (t : Term) → Agree (term_names t) → re_raw τ t ≡ re_raw τ' t
    term_agrees (node f xs) h = ap₂ node h.0 (terms_agree xs h.1)

    terms_agree : (ts : Terms) → Agree (terms_names ts) → re_raws τ ts ≡ re_raws τ' ts
    terms_agree no_terms h = refl
    terms_agree (x then xs) h = let r = split _ (term_names x) (terms_names xs) h in ap₂ ◌then◌ (term_agrees x r.0) (terms_agree xs r.1)

  sides_agree : (e : Sides) → Agree (sides_names e) → re_raw_sides τ e ≡ re_raw_sides τ' e
  unfolding sides_names re_raw_sides
  sides_agree e h =
      let r = split _ (term_names e.left) (term_names e.right) h in
      λ i. record { left = term_agrees e.left r.0 i; right = term_agrees e.right r.1 i }

  equation_agrees : (e : Equation) → Agree (equation_names e) → re_raw_equation τ e ≡ re_raw_equation τ' e
  unfolding equation_names re_raw_equation
  equation_agrees e h =
      let r = split _ (each sides_names e.before) (sides_names e.conclusion ++ each sides_names e.after) h in
      let s = split _ (sides_names e.conclusion) (each sides_names e.after) r.1 in
      let all : (es : List Sides) → Agree (each sides_names es) → map (re_raw_sides τ) es ≡ map (re_raw_sides τ') es =
      λ es q. all_agreed _ (re_raw_sides τ) (re_raw_sides τ') sides_agree es (split_each _ sides_names es q) in
      λ i. record { tag = e.tag; before = all e.before r.0 i; conclusion = sides_agree e.conclusion s.0 i; after = all e.after s.1 i }

  module_agrees : (m : Module) → Agree (names_used m) → re_module τ m ≡ re_module τ' m
  unfolding re_module re_parameter re_group
  module_agrees m k =
      let h = module_of Agreed m k in
      let parameters = all_agreed _ (re_parameter τ) (re_parameter τ')
      (λ p q i. record { name = p.name; signature = signature_agrees p.signature q i }) m.parameters h.parameters in
      let imports = all_agreed _ (re_import τ) (re_import τ') import_agrees m.imports h.pairs in
      let groups = all_agreed _ (re_group τ) (re_group τ')
      (λ g q i. record { names = map_agree τ τ' g.names q.1 i; sort = q.0 i }) m.groups h.groups in
      let equations = all_agreed _ (re_raw_equation τ) (re_raw_equation τ') equation_agrees m.equations h.equations in
      λ i. record {
        name = m.name;
        parameters = parameters i;
        exports = signature_agrees m.exports h.exports i;
        imports = imports i;
        hidden = signature_agrees m.hidden h.hidden i;
        groups = groups i;
        equations = equations i;
      }

  modules_agree : (ms : List Module) → Agree (each names_used ms) → map (re_module τ) ms ≡ map (re_module τ') ms
  modules_agree ms h = all_agreed _ (re_module τ) (re_module τ') module_agrees ms (split_each _ names_used ms h)

  -- ---- and on those of a normal form

  declared_agrees : (d : Declared) → DeclaredOf Agreed d → re_declared τ d ≡ re_declared τ' d
  unfolding re_declared
  declared_agrees (declared_sort a) h = ap declared_sort h
  declared_agrees (declared_function f i o) h = λ j. declared_function (h.0 j) (map_agree τ τ' i h.1 j) (h.2 j)
  declared_agrees (declared_variable v s) h = ap₂ declared_variable h.0 h.1

  origin_agrees : (o : Origin) → DeclaredOf Agreed o.declared → re_origin τ o ≡ re_origin τ' o
  unfolding re_origin
  origin_agrees o h = λ i. record { home = o.home; section = o.section; declared = declared_agrees o.declared h i }

  sort_agrees : (s : Sort) → SortOf Agreed s → re_sort τ s ≡ re_sort τ' s
  unfolding re_sort
  sort_agrees (visible_sort a) h = ap visible_sort h
  sort_agrees (hidden_sort o) h = ap hidden_sort (origin_agrees o h)

  type_agrees : (t : FunctionType) → TypeOf Agreed t → re_type τ t ≡ re_type τ' t
  unfolding re_type
  type_agrees t h = λ i. record { inputs = all_agreed _ (re_sort τ) (re_sort τ') sort_agrees t.inputs h.0 i; output = sort_agrees t.output h.1 i }

  shape_agrees : (s : Shape) → ShapeOf Agreed s → re_shape τ s ≡ re_shape τ' s
  unfolding re_shape
  shape_agrees sort_shape h = refl
  shape_agrees (function_shape t) h = ap function_shape (type_agrees t h)
  shape_agrees (variable_shape s) h = ap variable_shape (sort_agrees s h)

  item_agrees : (i : Item) → ItemOf Agreed i → re_item τ i ≡ re_item τ' i
  unfolding re_item
  item_agrees i h =
      λ j. record { standing = i.standing; name = h.name j; shape = shape_agrees i.shape h.shape j; origin = origin_agrees i.origin h.origin j }

  head_agrees : (f : Head) → HeadOf Agreed f → re_head τ f ≡ re_head τ' f
  unfolding re_head
  head_agrees (visible_head f t) h = ap₂ visible_head h.0 (type_agrees t h.1)
  head_agrees (hidden_head o t) h = ap₂ hidden_head (origin_agrees o h.0) (type_agrees t h.1)

  mutual
    unfolding re_term

    resolved_agrees : (t : ResolvedTerm) → TermOf Agreed t → re_term τ t ≡ re_term τ' t
    resolved_agrees (var o s) h = ap₂ var (origin_agrees o h.0) (sort_agrees s h.1)
    resolved_agrees (app f xs) h = ap₂ app (head_agrees f h.0) (all_resolved_agree xs h.1)

    all_resolved_agree : (ts : ResolvedTerms) → TermsOf Agreed ts → re_terms τ ts ≡ re_terms τ' ts
    all_resolved_agree none_left h = refl
    all_resolved_agree (x and_then xs) h = ap₂ ◌and_then◌ (resolved_agrees x h.0) (all_resolved_agree xs h.1)

  resolved_sides_agree : (e : ResolvedSides) → SidesOf Agreed e → re_sides τ e ≡ re_sides τ' e
  unfolding re_sides
  resolved_sides_agree e h = λ i. record { left = resolved_agrees e.left h.0 i; right = resolved_agrees e.right h.1 i }

  resolved_equation_agrees : (e : ResolvedEquation) → EquationOf Agreed e → re_equation τ e ≡ re_equation τ' e
  unfolding re_equation
  resolved_equation_agrees e h =
      let conditions = all_agreed _ (re_sides τ) (re_sides τ') resolved_sides_agree e.conditions h.1 in
      λ i. record {
        module_number = e.module_number;
        position = e.position;
        tag = e.tag;
        conclusion = resolved_sides_agree e.conclusion h.0 i;
        conditions = conditions i;
      }

  normal_agrees : (n : Normal) → NormalOf Agreed n → re_normal τ n ≡ re_normal τ' n
  unfolding re_normal re_visible re_hidden
  normal_agrees n h =
      let items = all_agreed _ (re_item τ) (re_item τ') item_agrees in
      let equations = all_agreed _ (re_equation τ) (re_equation τ') resolved_equation_agrees n.hidden.equations h.equations in
      λ i. record {
        visible = record { parameters = n.visible.parameters; items = items n.visible.items h.visible i };
        hidden = record { items = items n.hidden.items h.hidden i; equations = equations i };
      }

-- ---- a fresh name

abbrev pub Other : Name → Name → Type 0
Other f w = same f w ≡ false

pub all_other : (f : Name) (ws : List Name) → member f ws ≡ false → Every (Other f) ws
unfolding member
all_other f [] e = tt
all_other f (w ∷ ws) e = (refuted _ (λ q. sym (found_first (same f w) _ q) ∙ e), all_other f ws (refuted _ (λ q. sym (found_later (same f w) _ q) ∙ e)))

module _ (o f : Name) where
  replaces : (w : Name) → same f w ≡ false → exchange o f w ≡ replace o f w
  unfolding exchange replace pick
  replaces w e = rw (names_symmetric w f ∙ e)

  all_replaced : (ws : List Name) → member f ws ≡ false → Every (λ w. exchange o f w ≡ replace o f w) ws
  all_replaced ws e = every_so (Other f) _ ws replaces (all_other f ws e)

  pub exchange_replaces : (ms : List Module) → member f (each names_used ms) ≡ false → map (re_module (exchange o f)) ms ≡ map (re_module (replace o f)) ms
  exchange_replaces ms e = modules_agree (exchange o f) (replace o f) ms (all_replaced (each names_used ms) e)

  pub exchange_replaces_normal : (asked : Name) (ms : List Module) (count : ℕ) (n : Normal) → Every PlainModule ms → member f (each names_used ms) ≡ false
      → normalise asked ms ≡ normalised count n → re_normal (exchange o f) n ≡ re_normal (replace o f) n
  exchange_replaces_normal asked ms count n plain e q =
      normal_agrees (exchange o f) (replace o f) n
      (names_from (λ w. exchange o f w ≡ replace o f w) asked ms count n plain (all_replaced (each names_used ms) e) q)

-- ---- two names that change places

module _ (o f : Name) where
  twice : (w : Name) → exchange o f (exchange o f w) ≡ w
  unfolding exchange pick
  twice w = go (same w o) refl (same w f) refl
    where
      go : (b : Bool) → same w o ≡ b → (c : Bool) → same w f ≡ c → exchange o f (pick b f (pick c o w)) ≡ w
      go true p c q = first_case (same f o) refl
        where
          first_case : (d : Bool) → same f o ≡ d → pick (same f o) f (pick (same f f) o f) ≡ w
          first_case true r = rw r (same_equal f o r ∙ sym (same_equal w o p))
          first_case false r = rw (r, same_self f) (sym (same_equal w o p))
      go false p true q = rw (same_self o) (sym (same_equal w f q))
      go false p false q = rw (p, q)

  pub exchange_keeps : (v w : Name) → same (exchange o f v) (exchange o f w) ≡ same v w
  exchange_keeps v w =
      each_way _ _
      (λ q. let e : v ≡ w = sym (twice v) ∙ ap (exchange o f) (same_equal (exchange o f v) (exchange o f w) q) ∙ twice w in
      ap (λ (x : Name). same x w) e ∙ same_self w)
      (λ p. ap (λ (x : Name). same (exchange o f x) (exchange o f w)) (same_equal v w p) ∙ same_self (exchange o f w))

  -- a plain name may stand for anything
  plain_fits : (w : Name) (s : Shape) → is_operator w ≡ false → may_name w s ≡ true
  unfolding may_name arguments_fit pick
  plain_fits w sort_shape e = rw e
  plain_fits w (function_shape t) e = rw e
  plain_fits w (variable_shape s) e = refl

  fits_kept : (w : Name) (s : Shape) → may_name w (re_shape (exchange o f) s) ≡ may_name w s
  unfolding may_name re_shape re_type
  fits_kept w sort_shape = refl
  fits_kept w (function_shape t) = ap (arguments_fit w) (map_length (re_sort (exchange o f)) t.inputs)
  fits_kept w (variable_shape s) = refl

  easier : is_operator f ≡ false → (w : Name) → same f w ≡ false → (s : Shape) → may_name w s ≡ true
      → may_name (exchange o f w) (re_shape (exchange o f) s) ≡ true
  unfolding exchange pick
  easier plain w fresh s e = go (same w o) (same w f) (names_symmetric w f ∙ fresh)
    where
      go : (b c : Bool) → c ≡ false → may_name (pick b f (pick c o w)) (re_shape (exchange o f) s) ≡ true
      go true c q = plain_fits f (re_shape (exchange o f) s) plain
      go false true q = absurd (true≢false q)
      go false false q = fits_kept w s ∙ e

-- ---- a fresh name is in no pair

module _ (o f : Name) (tags : ℕ → ℕ → Name) (plain : is_operator f ≡ false) where
  clause_easy : (c : Clause) → ClauseNames (Other f) c → EasyClause (exchange o f) (exchange_keeps o f) tags c
  clause_easy (renamed_by rs) h = every_so _ _ rs (λ r q s. easier o f plain r.new q s) h
  clause_easy (bound_by p rs m) h = tt

  pub module_easy : (m : Module) → Every (Other f) (names_used m) → EasyModule (exchange o f) (exchange_keeps o f) tags m
  module_easy m h = every_so _ _ m.imports (λ i k. every_so _ _ i.clauses clause_easy k) (imports_of (Other f) m (module_of (Other f) m h))
