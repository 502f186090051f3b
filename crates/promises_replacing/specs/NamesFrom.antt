-- The names of a normal form are names of the text: what holds of every name that the modules use for sorts, functions and variables holds of
-- every such name in what they evaluate to, origins included.
use Rattle.std.specs.Prelude.{◌≡◌, ℕ, List, ◌∷◌, ◌++◌}
use Rattle.std.proofs.Common.{subst}
use Rattle.meaning.specs.Laws.{by_cases}
use Rattle.meaning.specs.Lists.{each}
use Rattle.meaning.specs.Names.{Name}
use Rattle.meaning.specs.Syntax.{Function, Signature, Parameter, Pair, Equation, Clause, renamed_by, bound_by, Import, VariableGroup, Variable, Module, group_variables, variables_of}
use Rattle.meaning.specs.Origins.{Section, export_section, hidden_section, parameter_section, Declared, declared_sort, declared_function, declared_variable, Origin, Sort, visible_sort, hidden_sort, FunctionType, Head, visible_head, hidden_head, ResolvedTerm, var, app, ResolvedTerms, none_left, ◌and_then◌, ResolvedSides, ResolvedEquation, Shape, sort_shape, function_shape, variable_shape, Item}
use Rattle.meaning.specs.Normal.{Normal, move_sort, move_type, move_shape, move_name, move_item, move_hidden_item}
use Rattle.meaning.specs.Own.{resolved, function_type, own_sort, own_function, own_section, own_visible, own_variable, own_hidden_items}
use Rattle.meaning.specs.Reached.{normalised, normalise}
use Rattle.meaning.specs.OrderLaws.{Every}
use Rattle.laws.specs.EveryLaws.{every_each, every_map, every_member, every_so}
use Rattle.laws.specs.EveryLaws.{every_split as split, split_each}
use Rattle.laws.specs.OwnItems.{section_every, visible_every, hidden_every}
use Rattle.laws.specs.Walk.{Carries, ClauseNames, ImportNames, call_gives}
use Rattle.laws.specs.Piecewise.{visible_evaluates, hidden_evaluates}
use Rattle.promises.specs.WellTyped.{From, TypedHead, TypedTerm, TypedTerms, TypedSides, TypedEquation}
use Rattle.promises.specs.SoundEvaluation.{PlainModule, call_accepted}
use Rattle.promises_replacing.specs.Changing.{function_names, signature_names, pair_names, clause_pairs, import_pairs, equation_names, names_used}

module _ (P : Name → Type 0) where
  abbrev pub DeclaredOf : Declared → Type 0
  DeclaredOf (declared_sort a) = P a
  DeclaredOf (declared_function f i o) = P f × Every P i × P o
  DeclaredOf (declared_variable v s) = P v × P s

  abbrev pub SortOf : Sort → Type 0
  SortOf (visible_sort a) = P a
  SortOf (hidden_sort o) = DeclaredOf o.declared

  abbrev pub TypeOf : FunctionType → Type 0
  TypeOf t = Every SortOf t.inputs × SortOf t.output

  abbrev pub ShapeOf : Shape → Type 0
  ShapeOf sort_shape = Unit {0}
  ShapeOf (function_shape t) = TypeOf t
  ShapeOf (variable_shape s) = SortOf s

  pub record ItemOf (i : Item) : Type 0 where
    pub name : P i.name
    pub shape : ShapeOf i.shape
    pub origin : DeclaredOf i.origin.declared

  abbrev pub HeadOf : Head → Type 0
  HeadOf (visible_head f t) = P f × TypeOf t
  HeadOf (hidden_head o t) = DeclaredOf o.declared × TypeOf t

  abbrev mutual
    pub TermOf : ResolvedTerm → Type 0
    TermOf (var o s) = DeclaredOf o.declared × SortOf s
    TermOf (app f xs) = HeadOf f × TermsOf xs

    pub TermsOf : ResolvedTerms → Type 0
    TermsOf none_left = Unit {0}
    TermsOf (x and_then xs) = TermOf x × TermsOf xs

  abbrev pub SidesOf : ResolvedSides → Type 0
  SidesOf e = TermOf e.left × TermOf e.right

  abbrev pub EquationOf : ResolvedEquation → Type 0
  EquationOf e = SidesOf e.conclusion × Every SidesOf e.conditions

  pub record NormalOf (n : Normal) : Type 0 where
    pub visible : Every ItemOf n.visible.items
    pub hidden : Every ItemOf n.hidden.items
    pub equations : Every EquationOf n.hidden.equations

  -- ---- new names

  module _ (σ : Name → Name) (φ : Name → FunctionType → Name) (carries : Carries P σ φ) where
    sort_moved : (s : Sort) → SortOf s → SortOf (move_sort σ φ s)
    unfolding move_sort
    sort_moved (visible_sort a) h = carries.sorts a h
    sort_moved (hidden_sort o) h = h

    shape_moved : (s : Shape) → ShapeOf s → ShapeOf (move_shape σ φ s)
    unfolding move_shape move_type
    shape_moved sort_shape h = h
    shape_moved (function_shape t) h = (every_map SortOf SortOf (move_sort σ φ) sort_moved t.inputs h.0, sort_moved t.output h.1)
    shape_moved (variable_shape s) h = sort_moved s h

    name_moved : (w : Name) (s : Shape) → P w → P (move_name σ φ w s)
    unfolding move_name
    name_moved w sort_shape h = carries.sorts w h
    name_moved w (function_shape t) h = carries.functions w t h
    name_moved w (variable_shape s) h = h

    item_moved : (i : Item) → ItemOf i → ItemOf (move_item σ φ i)
    unfolding move_item
    item_moved i h = record { name = name_moved i.name i.shape h.name; shape = shape_moved i.shape h.shape; origin = h.origin }

    hidden_item_moved : (i : Item) → ItemOf i → ItemOf (move_hidden_item σ φ i)
    unfolding move_hidden_item
    hidden_item_moved i h = record { name = h.name; shape = shape_moved i.shape h.shape; origin = h.origin }

  -- ---- M's own

  pub record ModuleOf (m : Module) : Type 0 where
    pub parameters : Every (λ (p : Parameter). Every P (signature_names p.signature)) m.parameters
    pub exports : Every P (signature_names m.exports)
    pub pairs : Every (λ (i : Import). Every (λ (r : Pair). Every P (pair_names r)) (import_pairs i)) m.imports
    pub hidden : Every P (signature_names m.hidden)
    pub groups : Every (λ (g : VariableGroup). Every P (g.sort ∷ g.names)) m.groups
    pub equations : Every (λ (e : Equation). Every P (equation_names e)) m.equations

  variables_of_names : (gs : List VariableGroup) → Every (λ (g : VariableGroup). Every P (g.sort ∷ g.names)) gs
      → Every (λ (v : Variable). P v.name × P v.sort) (each group_variables gs)
  unfolding group_variables
  variables_of_names gs h =
      every_each (λ (v : Variable). P v.name × P v.sort) (λ (g : VariableGroup). Every P (g.sort ∷ g.names)) group_variables
      (λ g q. every_map P (λ (v : Variable). P v.name × P v.sort) _ (λ x p. (p, q.0)) g.names q.1) gs h

  module _ (m : Module) (h : ModuleOf m) (seen : List Name) where
    resolved_of : (s : Name) → P s → SortOf (resolved m seen s)
    unfolding resolved
    resolved_of s h = by_cases SortOf _ _ _ (λ e. h) (λ e. by_cases SortOf _ _ _ (λ f. h) (λ f. h))

    own_function_of : (c : Section) (f : Function) → Every P (function_names f) → ItemOf (own_function m seen c f)
    unfolding own_function function_type function_names
    own_function_of c f h = record {
      name = h.0;
      shape = (every_map P SortOf (resolved m seen) resolved_of f.inputs h.1.1, resolved_of f.output h.1.0);
      origin = (h.0, h.1.1, h.1.0);
    }

    own_section_of : (c : Section) (g : Signature) → Every P (signature_names g) → Every ItemOf (own_section m seen c g)
    unfolding own_sort signature_names
    own_section_of c g h =
        let r = split P g.sorts (each function_names g.functions) h in
        section_every ItemOf m seen P (λ f. Every P (function_names f)) c (λ a p. record { name = p; shape = tt; origin = p }) (own_function_of c) g r.0
        (split_each P function_names g.functions r.1)

    own_visible_of : Every ItemOf (own_visible m seen).items
    own_visible_of =
        visible_every ItemOf m seen (every_so _ _ m.parameters (λ p q. own_section_of (parameter_section p.name) p.signature q) h.parameters)
        (own_section_of export_section m.exports h.exports)

    own_hidden_of : Every ItemOf (own_hidden_items m seen)
    unfolding own_variable variables_of
    own_hidden_of =
        hidden_every ItemOf m seen (own_section_of hidden_section m.hidden h.hidden)
        (every_so _ _ (variables_of m) (λ v q. record { name = q.0; shape = resolved_of v.sort q.1; origin = q })
        (variables_of_names m.groups h.groups))

  -- ---- equations: what stands at a node is an item

  module _ (visible hidden : List Item) (v : Every ItemOf visible) (h : Every ItemOf hidden) where
    origin_from : (o : Origin) (s : Shape) → From hidden o s → DeclaredOf o.declared × ShapeOf s
    origin_from o s d =
        let i = every_member ItemOf hidden h d.0 d.1 in
        (subst (λ (u : Origin). DeclaredOf u.declared) d.2 i.origin, subst ShapeOf d.3 i.shape)

    head_from : (f : Head) → TypedHead visible hidden f → HeadOf f
    head_from (visible_head f t) d = let i = every_member ItemOf visible v d.0 d.1 in (subst P d.2 i.name, subst ShapeOf d.3 i.shape)
    head_from (hidden_head o t) d = origin_from o (function_shape t) d

    mutual
      term_from : (t : ResolvedTerm) → TypedTerm visible hidden t → TermOf t
      term_from (var o s) d = origin_from o (variable_shape s) d
      term_from (app f xs) d = (head_from f d.0, terms_from xs d.1)

      terms_from : (ts : ResolvedTerms) → TypedTerms visible hidden ts → TermsOf ts
      terms_from none_left d = tt
      terms_from (x and_then xs) d = (term_from x d.0, terms_from xs d.1)

    sides_from : (e : ResolvedSides) → TypedSides visible hidden e → SidesOf e
    sides_from e d = (term_from e.left d.0, term_from e.right d.1)

    equation_from : (e : ResolvedEquation) → TypedEquation visible hidden e → EquationOf e
    equation_from e d = (sides_from e.conclusion d.conclusion, every_so _ SidesOf e.conditions sides_from d.conditions)

  -- ---- from the names that a module uses

  clause_of_names : (c : Clause) → Every (λ (r : Pair). Every P (pair_names r)) (clause_pairs c) → ClauseNames P c
  unfolding clause_pairs pair_names
  clause_of_names (renamed_by rs) h = every_so _ _ rs (λ r q. q.1.0) h
  clause_of_names (bound_by p rs m) h = every_so _ _ rs (λ r q. q.1.0) h

  pub imports_of : (m : Module) → ModuleOf m → ImportNames P m.imports
  unfolding import_pairs
  imports_of m h = every_so _ _ m.imports (λ i q. every_so _ _ i.clauses clause_of_names (split_each _ clause_pairs i.clauses q)) h.pairs

  pub module_of : (m : Module) → Every P (names_used m) → ModuleOf m
  unfolding names_used
  module_of m h =
      let formal = each (λ (p : Parameter). signature_names p.signature) m.parameters in
      let paired_names = each pair_names (each import_pairs m.imports) in
      let grouped = each (λ (g : VariableGroup). g.sort ∷ g.names) m.groups in
      let equated_names = each equation_names m.equations in
      let a = split P formal (signature_names m.exports ++ (paired_names ++ (signature_names m.hidden ++ (grouped ++ equated_names)))) h in
      let b = split P (signature_names m.exports) (paired_names ++ (signature_names m.hidden ++ (grouped ++ equated_names))) a.1 in
      let c = split P paired_names (signature_names m.hidden ++ (grouped ++ equated_names)) b.1 in
      let d = split P (signature_names m.hidden) (grouped ++ equated_names) c.1 in
      let e = split P grouped equated_names d.1 in
      record {
        parameters = split_each P (λ (p : Parameter). signature_names p.signature) m.parameters a.0;
        exports = b.0;
        pairs = split_each _ import_pairs m.imports (split_each P pair_names (each import_pairs m.imports) c.0);
        hidden = d.0;
        groups = split_each P (λ (g : VariableGroup). g.sort ∷ g.names) m.groups e.0;
        equations = split_each P equation_names m.equations e.1;
      }

  pub names_from : (asked : Name) (ms : List Module) (count : ℕ) (n : Normal) → Every PlainModule ms → Every P (each names_used ms)
      → normalise asked ms ≡ normalised count n → NormalOf n
  names_from asked ms count n plain h e =
      let all = every_so _ ModuleOf ms module_of (split_each P names_used ms h) in
      let visible = call_gives (visible_evaluates ItemOf imports_of item_moved own_visible_of) asked ms count n all e in
      let hidden = call_gives (hidden_evaluates ItemOf imports_of hidden_item_moved own_hidden_of) asked ms count n all e in
      record {
        visible = visible;
        hidden = hidden;
        equations =
            every_so _ EquationOf n.hidden.equations (equation_from n.visible.items n.hidden.items visible hidden)
            (call_accepted asked ms count n plain e).normal.whole.typed;
      }
