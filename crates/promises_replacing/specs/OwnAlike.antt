-- M's own declarations and equations under a change of names, joined to normal forms that are alike, give normal forms that are alike.
use Rattle.std.proofs.Math.Path.{◌≡◌, refl, sym, ap, ap₂, subst}
use Rattle.std.proofs.Common.{◌∙◌, arith}
use Rattle.std.specs.Prelude.{ℕ, ◌+◌, Bool, ◌&&◌, ◌||◌}
use Rattle.std.proofs.Math.Logic.{⊎_elim}
use Rattle.std.proofs.Math.Bool.{true, false, not}
use Rattle.std.proofs.lemmas.Bool.{false≢true}
use Rattle.std.proofs.Math.Option
use Rattle.std.proofs.Math.Option.{Option, none, some}
use mathlib.Core.List.Memᴰ
use mathlib.Core.List.Permᴰ
use mathlib.Core.List.{List, [], ◌∷◌, ◌++◌, map, map-append, Memᴰ}
use Rattle.meaning.specs.Lists.{pick, any, first, or_else, first_some, none_in, each, first_bad}
use Rattle.meaning.specs.Names.{Name, same, member}
use Rattle.meaning.specs.Syntax.{Function, Signature, Parameter, Variable, Term, node, Terms, no_terms, ◌then◌, Sides, Equation, Module, conditions_of, group_variables, variables_of}
use Rattle.meaning.specs.Origins.{Section, export_section, hidden_section, parameter_section, declared_sort, declared_function, declared_variable, Origin, Sort, visible_sort, hidden_sort, same_sort, FunctionType, Head, app, ResolvedSides, ResolvedEquation, Shape, sort_shape, function_shape, variable_shape, Item}
use Rattle.meaning.specs.Normal.{Slot, Visible, is_called}
use Rattle.meaning.specs.Checks.{fine, ◌>>=◌, ◌>>◌, unless, functions_clash, consistent}
use Rattle.meaning.specs.Own.{resolved, function_type, own_sort, own_function, own_section, own_slot, own_visible, own_variable, own_hidden_items, lacking, lacking_variable, parameter_functions, available_sorts, wrong_variable, is_constant, constants}
use Rattle.meaning.specs.Typing.{Typed, TypedList, head_of, of_shape, found_with, no_arguments, takes, is_variable, joined_typed, equated, joined_sides, made_equation, applied, alone, with_arguments, typed, typed_list, typed_sides, typed_conditions, typed_equations}
use Rattle.meaning.specs.OrderLaws.{Every, Rearranged, same_equal}
use Rattle.promises.specs.Told.{SoundVisible}
use Rattle.promises.specs.Sound.{compatible, functions_agree, no_variable}
use Rattle.promises.specs.TermsTold.{one_output}
use Rattle.promises_replacing.specs.Changing.{re_function, re_signature, re_parameter, re_group, re_raw, re_raws, re_raw_sides, re_raw_equation, re_module, re_declared, re_origin, re_sort, re_type, re_shape, re_item, re_head, re_term, re_terms, re_sides, re_equation}
use Rattle.promises_replacing.specs.Exchanging.{map_map, map_twice, pick_map, any_map, first_map, member_kept, sort_kept, sorts_kept, called_kept}
use Rattle.promises_replacing.specs.Reordering.{first_image}
use Rattle.promises_replacing.specs.VisibleAlike.{consistent_clear, Like, like, member_map_from, AlikeVisible, keep_alike, names_alike}
use Rattle.promises.specs.Members.{member_append}
use Rattle.meaning.specs.OutcomeLaws.{then_fine, bind_fine, unless_fine, fine_same}
use Rattle.laws.specs.Decides.{both_true, agree_equal, sorts_decided}
use Rattle.laws.specs.EveryLaws.{every_member}
use Rattle.promises.specs.Public.{pick_none}

-- ---- lists

pub each_map : {A B C D : Type 0} (g : A → B) (h : C → D) (f : B → List D) (f' : A → List C) → ((x : A) → f (g x) ≡ map h (f' x)) → (xs : List A)
    → each f (map g xs) ≡ map h (each f' xs)
unfolding each
each_map g h f f' e [] = refl
each_map g h f f' e (x ∷ xs) = ap₂ (λ (u v : List _). u ++ v) (e x) (each_map g h f f' e xs) ∙ sym (map-append h (f' x) (each f' xs))

or_else_map : {A B : Type 0} (h : A → B) (a b : Option A) → or_else (Option.map h a) (Option.map h b) ≡ Option.map h (or_else a b)
unfolding or_else
or_else_map h none b = refl
or_else_map h (some x) b = refl

first_some_map : {A B C D : Type 0} (g : A → B) (h : C → D) (p : B → Option D) (q : A → Option C) → ((x : A) → p (g x) ≡ Option.map h (q x))
    → (xs : List A) → first_some p (map g xs) ≡ Option.map h (first_some q xs)
unfolding first_some
first_some_map g h p q e [] = refl
first_some_map g h p q e (x ∷ xs) = ap₂ (λ (u v : Option _). or_else u v) (e x) (first_some_map g h p q e xs) ∙ or_else_map h (q x) (first_some q xs)

first_append : {A : Type 0} (p : A → Bool) (xs ys : List A) → first p (xs ++ ys) ≡ or_else (first p xs) (first p ys)
unfolding first or_else pick
first_append p [] ys = refl
first_append p (x ∷ xs) ys = ap (λ (r : Option _). pick (p x) (some x) r) (first_append p xs ys) ∙ go (p x)
  where
    go : (b : Bool) → pick b (some x) (or_else (first p xs) (first p ys)) ≡ or_else (pick b (some x) (first p xs)) (first p ys)
    go true = refl
    go false = refl

module _ (τ : Name → Name) (keeps : (v w : Name) → same (τ v) (τ w) ≡ same v w) where
  unfoldable pub re_variable : Variable → Variable
  re_variable v = record { name = τ v.name; sort = τ v.sort }

  pub variables_kept : (m : Module) → variables_of (re_module τ m) ≡ map re_variable (variables_of m)
  unfolding variables_of group_variables re_module re_group re_variable
  variables_kept m =
      each_map (re_group τ) re_variable group_variables group_variables
      (λ g. map_twice τ (λ (x : Name). record { name = x; sort = τ g.sort }) (λ (x : Name). record { name = x; sort = g.sort }) re_variable
      (λ x. refl) g.names) m.groups

  -- `seen` and `seen'` are the names of the visible sorts
  module _ (m : Module) (seen seen' : List Name) (seen_same : (s : Name) → member (τ s) seen' ≡ member s seen) where
    abbrev m' : Module
    m' = re_module τ m

    -- ---- own items

    resolved_kept : (s : Name) → resolved m' seen' (τ s) ≡ re_sort τ (resolved m seen s)
    unfolding resolved re_module re_signature re_sort re_origin re_declared pick
    resolved_kept s =
        rw (seen_same s, member_kept τ keeps s m.hidden.sorts) (go (member s seen) (member s m.hidden.sorts))
      where
        go : (b c : Bool)
            → pick b (visible_sort (τ s)) (pick c (hidden_sort (record { home = m.name; section = hidden_section; declared = declared_sort (τ s) })) (visible_sort (τ s)))
            ≡ re_sort τ (pick b (visible_sort s) (pick c (hidden_sort (record { home = m.name; section = hidden_section; declared = declared_sort s })) (visible_sort s)))
        go true c = refl
        go false true = refl
        go false false = refl

    function_type_kept : (f : Function) → function_type m' seen' (re_function τ f) ≡ re_type τ (function_type m seen f)
    unfolding function_type re_function re_type
    function_type_kept f = rw (map_twice τ (resolved m' seen') (resolved m seen) (re_sort τ) resolved_kept f.inputs, resolved_kept f.output)

    own_function_kept : (c : Section) (f : Function) → own_function m' seen' c (re_function τ f) ≡ re_item τ (own_function m seen c f)
    unfolding own_function re_item re_module re_shape re_origin re_declared re_function
    own_function_kept c f = λ i. record {
      standing = c;
      name = τ f.name;
      shape = function_shape (function_type_kept f i);
      origin = record { home = m.name; section = c; declared = declared_function (τ f.name) (map τ f.inputs) (τ f.output) };
    }

    own_section_kept : (c : Section) (g : Signature) → own_section m' seen' c (re_signature τ g) ≡ map (re_item τ) (own_section m seen c g)
    unfolding own_section re_signature own_sort re_item re_module re_shape re_origin re_declared
    own_section_kept c g =
        ap₂ (λ (u v : List Item). u ++ v) (map_twice τ (own_sort m' seen' c) (own_sort m seen c) (re_item τ) (λ a. refl) g.sorts)
        (map_twice (re_function τ) (own_function m' seen' c) (own_function m seen c) (re_item τ) (own_function_kept c) g.functions)
        ∙ sym (map-append (re_item τ) (map (own_sort m seen c) g.sorts) (map (own_function m seen c) g.functions))

    own_visible_items_kept : (own_visible m' seen').items ≡ map (re_item τ) (own_visible m seen).items
    unfolding own_visible re_module re_parameter
    own_visible_items_kept =
        ap₂ (λ (u v : List Item). u ++ v)
        (each_map (re_parameter τ) (re_item τ) (λ (p : Parameter). own_section m' seen' (parameter_section p.name) p.signature)
        (λ (p : Parameter). own_section m seen (parameter_section p.name) p.signature)
        (λ p. own_section_kept (parameter_section p.name) p.signature) m.parameters) (own_section_kept export_section m.exports)
        ∙ sym (map-append (re_item τ) (each (λ (p : Parameter). own_section m seen (parameter_section p.name) p.signature) m.parameters)
        (own_section m seen export_section m.exports))

    pub own_visible_alike : AlikeVisible τ keeps (own_visible m seen) (own_visible m' seen')
    unfolding own_visible own_slot re_module re_parameter
    own_visible_alike = record {
      parameters =
          subst (λ (r : List Slot). Rearranged (own_visible m seen).parameters r)
          (sym (map_map (re_parameter τ) (own_slot m' seen') m.parameters)) (Permᴰ.refl _);
      items = like (re_item τ) (own_visible m seen).items own_visible_items_kept (Permᴰ.refl _);
    }

    own_variable_kept : (v : Variable) → own_variable m' seen' (re_variable v) ≡ re_item τ (own_variable m seen v)
    unfolding own_variable re_variable re_item re_shape re_origin re_declared re_module
    own_variable_kept v = λ i. record {
      standing = hidden_section;
      name = τ v.name;
      shape = variable_shape (resolved_kept v.sort i);
      origin = record { home = m.name; section = hidden_section; declared = declared_variable (τ v.name) (τ v.sort) };
    }

    pub own_hidden_kept : own_hidden_items m' seen' ≡ map (re_item τ) (own_hidden_items m seen)
    unfolding own_hidden_items re_module
    own_hidden_kept =
        ap₂ (λ (u v : List Item). u ++ v) (own_section_kept hidden_section m.hidden) (ap (map (own_variable m' seen')) (variables_kept m)
        ∙ map_twice re_variable (own_variable m' seen') (own_variable m seen) (re_item τ) own_variable_kept (variables_of m))
        ∙ sym (map-append (re_item τ) (own_section m seen hidden_section m.hidden) (map (own_variable m seen) (variables_of m)))

    -- ---- 13

    module _ (available available' : List Name) (same_available : (s : Name) → member (τ s) available' ≡ member s available) where
      lacking_kept : (f : Function) → lacking available' (re_function τ f) ≡ Option.map τ (lacking available f)
      unfolding lacking re_function
      lacking_kept f =
          ap (λ (b : Bool). pick b (some (τ f.name)) none)
          (any_map τ (λ (s : Name). not (member s available')) (λ (s : Name). not (member s available)) (λ s. ap not (same_available s)) (f.output ∷ f.inputs))
          ∙ pick_map (Option.map τ) (any (λ (s : Name). not (member s available)) (f.output ∷ f.inputs)) (some f.name) none

      none_lacking : (fs : List Function) → first_some (lacking available) fs ≡ none → first_some (lacking available') (map (re_function τ) fs) ≡ none
      none_lacking fs e = first_some_map (re_function τ) τ (lacking available') (lacking available) lacking_kept fs ∙ ap (Option.map τ) e

      lacking_variable_kept : (v : Variable) → lacking_variable available' (re_variable v) ≡ Option.map τ (lacking_variable available v)
      unfolding lacking_variable re_variable
      lacking_variable_kept v =
          ap (λ (b : Bool). pick b none (some (τ v.name))) (same_available v.sort)
          ∙ pick_map (Option.map τ) (member v.sort available) none (some v.name)

      none_lacking_variable : (vs : List Variable) → first_some (lacking_variable available) vs ≡ none
          → first_some (lacking_variable available') (map re_variable vs) ≡ none
      none_lacking_variable vs e =
          first_some_map re_variable τ (lacking_variable available') (lacking_variable available) lacking_variable_kept vs ∙ ap (Option.map τ) e

    inside_same : (s : Name) → member (τ s) (seen' ++ map τ m.hidden.sorts) ≡ member s (seen ++ m.hidden.sorts)
    inside_same s =
        member_append (τ s) seen' (map τ m.hidden.sorts) ∙ ap₂ (λ (b c : Bool). b || c) (seen_same s) (member_kept τ keeps s m.hidden.sorts)
        ∙ sym (member_append s seen m.hidden.sorts)

    parameter_functions_kept : (ps : List Parameter) → parameter_functions (map (re_parameter τ) ps) ≡ map (re_function τ) (parameter_functions ps)
    unfolding parameter_functions re_parameter re_signature
    parameter_functions_kept ps = each_map (re_parameter τ) (re_function τ) _ _ (λ p. refl) ps

    pub available_kept : available_sorts m seen ≡ fine tt → available_sorts m' seen' ≡ fine tt
    unfolding available_sorts re_module re_signature ◌>>◌ unless
    available_kept e =
        let a = then_fine _ _ tt e in
        let b = then_fine _ _ tt a.1 in
        let c = then_fine _ _ tt b.1 in
        rw (
          parameter_functions_kept m.parameters,
          none_lacking seen seen' seen_same (parameter_functions m.parameters) (unless_fine _ _ a.0),
          none_lacking seen seen' seen_same m.exports.functions (unless_fine _ _ b.0),
          none_lacking (seen ++ m.hidden.sorts) (seen' ++ map τ m.hidden.sorts) inside_same m.hidden.functions (unless_fine _ _ c.0),
        ) (rw (variables_kept m) (rw (none_lacking_variable (seen ++ m.hidden.sorts) (seen' ++ map τ m.hidden.sorts) inside_same (variables_of m)
        (unless_fine _ _ c.1))))

  -- ---- 12

  is_constant_kept : (s : Shape) → is_constant (re_shape τ s) ≡ is_constant s
  unfolding is_constant re_shape re_type none_in
  is_constant_kept sort_shape = refl
  is_constant_kept (function_shape t) = go t.inputs
    where
      go : (ss : List Sort) → none_in (map (re_sort τ) ss) ≡ none_in ss
      go [] = refl
      go (x ∷ xs) = refl
  is_constant_kept (variable_shape s) = refl

  pub constants_alike : {is is' : List Item} → Like (re_item τ) is is' → Like τ (constants is) (constants is')
  unfolding constants re_item
  constants_alike d = names_alike τ keeps (keep_alike (re_item τ) _ _ (λ i. is_constant_kept i.shape) d)

  pub variables_right : (cs cs' : List Name) → ((w : Name) → member (τ w) cs' ≡ member w cs) → (seen : List Name) (vs : List Variable)
      → wrong_variable cs seen vs ≡ none → wrong_variable cs' (map τ seen) (map re_variable vs) ≡ none
  unfolding wrong_variable re_variable pick first_bad
  variables_right cs cs' h seen [] e = refl
  variables_right cs cs' h seen (v ∷ vs) e =
      let p = pick_none (member v.name seen || member v.name cs) _ _ e in
      rw (member_kept τ keeps v.name seen, h v.name, p.0) (variables_right cs cs' h (v.name ∷ seen) vs p.1)

  -- ---- 17

  unfoldable re_typed : Typed → Typed
  re_typed t = record { term = re_term τ t.term; sort = re_sort τ t.sort }

  unfoldable re_typed_list : TypedList → TypedList
  re_typed_list t = record { terms = re_terms τ t.terms; sorts = map (re_sort τ) t.sorts }

  head_of_kept : (c : Section) (f : Name) (o : Origin) (t : FunctionType) → head_of c (τ f) (re_origin τ o) (re_type τ t) ≡ re_head τ (head_of c f o t)
  unfolding head_of re_head
  head_of_kept export_section f o t = refl
  head_of_kept (parameter_section p) f o t = refl
  head_of_kept hidden_section f o t = refl

  of_shape_kept : (i : Item) (ts : TypedList) (s : Shape) → of_shape (re_item τ i) (re_typed_list ts) (re_shape τ s) ≡ Option.map re_typed (of_shape i ts s)
  unfolding of_shape re_shape re_item re_typed re_typed_list re_term re_type
  of_shape_kept i ts sort_shape = refl
  of_shape_kept i ts (function_shape t) =
      ap (λ (h : Head). some (record { term = app h (re_terms τ ts.terms); sort = re_sort τ t.output }))
      (head_of_kept i.standing i.name i.origin t)
  of_shape_kept i ts (variable_shape s) = refl

  found_kept : (ts : TypedList) (o : Option Item) → found_with (re_typed_list ts) (Option.map (re_item τ) o) ≡ Option.map re_typed (found_with ts o)
  unfolding found_with re_item
  found_kept ts none = refl
  found_kept ts (some i) = of_shape_kept i ts i.shape

  takes_kept : (ss : List Sort) (s : Shape) → takes (map (re_sort τ) ss) (re_shape τ s) ≡ takes ss s
  unfolding takes re_shape re_type
  takes_kept ss sort_shape = refl
  takes_kept ss (function_shape t) = sorts_kept τ keeps ss t.inputs
  takes_kept ss (variable_shape s) = refl

  is_variable_kept : (s : Shape) → is_variable (re_shape τ s) ≡ is_variable s
  unfolding is_variable re_shape
  is_variable_kept sort_shape = refl
  is_variable_kept (function_shape t) = refl
  is_variable_kept (variable_shape s) = refl

  joined_typed_kept : (o : Option Typed) (p : Option TypedList)
      → joined_typed (Option.map re_typed o) (Option.map re_typed_list p) ≡ Option.map re_typed_list (joined_typed o p)
  unfolding joined_typed re_typed re_typed_list re_term
  joined_typed_kept none p = refl
  joined_typed_kept (some t) none = refl
  joined_typed_kept (some t) (some r) = refl

  equated_kept : (o p : Option Typed) → equated (Option.map re_typed o) (Option.map re_typed p) ≡ Option.map (re_sides τ) (equated o p)
  unfolding equated re_typed re_sides
  equated_kept none p = refl
  equated_kept (some l) none = refl
  equated_kept (some l) (some r) =
      ap (λ (b : Bool). pick b (some (record { left = re_term τ l.term; right = re_term τ r.term })) none) (sort_kept τ keeps l.sort r.sort)
      ∙ pick_map (Option.map (re_sides τ)) (same_sort l.sort r.sort) (some (record { left = l.term; right = r.term })) none

  joined_sides_kept : (o : Option ResolvedSides) (p : Option (List ResolvedSides))
      → joined_sides (Option.map (re_sides τ) o) (Option.map (map (re_sides τ)) p) ≡ Option.map (map (re_sides τ)) (joined_sides o p)
  unfolding joined_sides
  joined_sides_kept none p = refl
  joined_sides_kept (some e) none = refl
  joined_sides_kept (some e) (some es) = refl

  -- what is found among the known items is found under the change
  pub record Finds (known known' : List Item) : Type 0 where
    pub functions : (f : Name) (ss : List Sort) → first (λ (i : Item). is_called (τ f) i && takes (map (re_sort τ) ss) i.shape) known'
        ≡ Option.map (re_item τ) (first (λ (i : Item). is_called f i && takes ss i.shape) known)
    pub variables : (w : Name) → first (λ (i : Item). is_called (τ w) i && is_variable i.shape) known'
        ≡ Option.map (re_item τ) (first (λ (i : Item). is_called w i && is_variable i.shape) known)

  module _ (known known' : List Item) (finds : Finds known known') where
    applied_kept : (f : Name) (ts : TypedList) → applied known' (τ f) (re_typed_list ts) ≡ Option.map re_typed (applied known f ts)
    unfolding applied re_typed_list
    applied_kept f ts =
        ap (found_with (re_typed_list ts)) (finds.functions f ts.sorts)
        ∙ found_kept ts (first (λ (i : Item). is_called f i && takes ts.sorts i.shape) known)

    no_arguments_kept : re_typed_list no_arguments ≡ no_arguments
    unfolding no_arguments re_typed_list re_term
    no_arguments_kept = refl

    alone_kept : (w : Name) → alone known' (τ w) ≡ Option.map re_typed (alone known w)
    unfolding alone
    alone_kept w =
        ap₂ (λ (a b : Option Typed). or_else a b) (ap (found_with no_arguments) (finds.variables w)
        ∙ ap (λ (n : TypedList). found_with n (Option.map (re_item τ) (first (λ (i : Item). is_called w i && is_variable i.shape) known))) (sym no_arguments_kept)
        ∙ found_kept no_arguments (first (λ (i : Item). is_called w i && is_variable i.shape) known))
        (ap (applied known' (τ w)) (sym no_arguments_kept) ∙ applied_kept w no_arguments)
        ∙ or_else_map re_typed (found_with no_arguments (first (λ (i : Item). is_called w i && is_variable i.shape) known)) (applied known w no_arguments)

    with_arguments_kept : (f : Name) (xs : Terms) (o : Option TypedList)
        → with_arguments known' (τ f) (re_raws τ xs) (Option.map re_typed_list o) ≡ Option.map re_typed (with_arguments known f xs o)
    unfolding with_arguments re_raw
    with_arguments_kept f no_terms o = alone_kept f
    with_arguments_kept f (x then xs) none = refl
    with_arguments_kept f (x then xs) (some ts) = applied_kept f ts

    mutual
      unfolding typed re_raw

      typed_kept : (t : Term) → typed known' (re_raw τ t) ≡ Option.map re_typed (typed known t)
      typed_kept (node f xs) = ap (with_arguments known' (τ f) (re_raws τ xs)) (typed_list_kept xs) ∙ with_arguments_kept f xs (typed_list known xs)

      typed_list_kept : (ts : Terms) → typed_list known' (re_raws τ ts) ≡ Option.map re_typed_list (typed_list known ts)
      typed_list_kept no_terms = ap some (sym no_arguments_kept)
      typed_list_kept (x then xs) =
          ap₂ (λ (a : Option Typed) (b : Option TypedList). joined_typed a b) (typed_kept x) (typed_list_kept xs)
          ∙ joined_typed_kept (typed known x) (typed_list known xs)

    typed_sides_kept : (e : Sides) → typed_sides known' (re_raw_sides τ e) ≡ Option.map (re_sides τ) (typed_sides known e)
    unfolding typed_sides re_raw_sides
    typed_sides_kept e =
        ap₂ (λ (a b : Option Typed). equated a b) (typed_kept e.left) (typed_kept e.right) ∙ equated_kept (typed known e.left) (typed known e.right)

    typed_conditions_kept : (es : List Sides) → typed_conditions known' (map (re_raw_sides τ) es) ≡ Option.map (map (re_sides τ)) (typed_conditions known es)
    unfolding typed_conditions
    typed_conditions_kept [] = refl
    typed_conditions_kept (e ∷ es) =
        ap₂ (λ (a : Option ResolvedSides) (b : Option (List ResolvedSides)). joined_sides a b) (typed_sides_kept e) (typed_conditions_kept es)
        ∙ joined_sides_kept (typed_sides known e) (typed_conditions known es)

    conditions_kept : (e : Equation) → conditions_of (re_raw_equation τ e) ≡ map (re_raw_sides τ) (conditions_of e)
    unfolding conditions_of re_raw_equation
    conditions_kept e = sym (map-append (re_raw_sides τ) e.before e.after)

    made_kept : (home at : ℕ) (tag : Name) (o : Option ResolvedSides) (p : Option (List ResolvedSides)) (x : ResolvedEquation)
        → made_equation home at tag o p ≡ fine x
        → made_equation home at tag (Option.map (re_sides τ) o) (Option.map (map (re_sides τ)) p) ≡ fine (re_equation τ x)
    unfolding made_equation re_equation
    made_kept home at tag none p x e = let z : ◌≡◌ {A = ℕ} 0 1 = cc in absurd (omega arith)
    made_kept home at tag (some c) none x e = let z : ◌≡◌ {A = ℕ} 0 1 = cc in absurd (omega arith)
    made_kept home at tag (some c) (some ks) x e = ap (λ (y : ResolvedEquation). fine (re_equation τ y)) (fine_same _ x e)

    pub equations_kept : (home at : ℕ) (es : List Equation) (xs : List ResolvedEquation) → typed_equations known home at es ≡ fine xs
        → typed_equations known' home at (map (re_raw_equation τ) es) ≡ fine (map (re_equation τ) xs)
    unfolding typed_equations re_raw_equation ◌>>=◌
    equations_kept home at [] xs e = ap (λ (ys : List ResolvedEquation). fine (map (re_equation τ) ys)) (fine_same [] xs e)
    equations_kept home at (r ∷ rs) xs e =
        let a = bind_fine _ _ xs e in
        let b = bind_fine _ _ xs a.2 in
        rw (
          conditions_kept r,
          typed_conditions_kept (conditions_of r),
          typed_sides_kept r.conclusion,
          made_kept home at r.tag (typed_sides known r.conclusion) (typed_conditions known (conditions_of r)) a.0 a.1,
          equations_kept home (at + 1) rs b.0 b.1,
        ) (ap (λ (ys : List ResolvedEquation). fine (map (re_equation τ) ys)) (fine_same (a.0 ∷ b.0) xs b.2))

  -- ---- what is found

  id_map : {A : Type 0} (o : Option A) → Option.map (λ (x : A). x) o ≡ o
  id_map none = refl
  id_map (some x) = refl

  module _ {v v' : Visible} (a : AlikeVisible τ keeps v v') (own : List Item) where
    found_alike : (p p' : Item → Bool) → ((i : Item) → p' (re_item τ i) ≡ p i)
        → ((x y : Item) → Memᴰ x v.items → Memᴰ y v.items → p x ≡ true → p y ≡ true → x ≡ y)
        → first p' (v'.items ++ map (re_item τ) own) ≡ Option.map (re_item τ) (first p (v.items ++ own))
    found_alike p p' h one =
        first_append p' v'.items (map (re_item τ) own) ∙ ap₂ (λ (x y : Option Item). or_else x y) visible_found (first_map (re_item τ) p' p h own)
        ∙ or_else_map (re_item τ) (first p v.items) (first p own) ∙ ap (Option.map (re_item τ)) (sym (first_append p v.items own))
      where
        image : (x y : Item) → Memᴰ x (map (re_item τ) v.items) → Memᴰ y (map (re_item τ) v.items) → p' x ≡ true → p' y ≡ true → x ≡ y
        image x y m k q r =
            let i = member_map_from (re_item τ) v.items m in
            let j = member_map_from (re_item τ) v.items k in
            i.2 ∙ ap (re_item τ) (one i.0 j.0 i.1 j.1 (sym (h i.0) ∙ ap p' (sym i.2) ∙ q) (sym (h j.0) ∙ ap p' (sym j.2) ∙ r))
            ∙ sym j.2

        visible_found : first p' v'.items ≡ Option.map (re_item τ) (first p v.items)
        visible_found =
            sym (id_map (first p' v'.items)) ∙ sym (first_image (λ (x : Item). x) p' a.items.arranged image)
            ∙ id_map (first p' (map (re_item τ) v.items)) ∙ first_map (re_item τ) p' p h v.items

    taken : (ss : List Sort) (s : Shape) → takes ss s ≡ true → (t : FunctionType) × (s ≡ function_shape t) × (ss ≡ t.inputs)
    unfolding takes
    taken ss sort_shape e = absurd (false≢true e)
    taken ss (function_shape t) e = (t, refl, agree_equal same_sort sorts_decided.equal ss t.inputs e)
    taken ss (variable_shape s) e = absurd (false≢true e)

    one_function : consistent v own ≡ fine tt → Every SoundVisible v.items → (f : Name) (ss : List Sort) (x y : Item) → Memᴰ x v.items
        → Memᴰ y v.items → (is_called f x && takes ss x.shape) ≡ true → (is_called f y && takes ss y.shape) ≡ true → x ≡ y
    unfolding is_called
    one_function c sound f ss x y m k p q =
        let i = both_true _ _ p in
        let j = both_true _ _ q in
        let t = taken ss x.shape i.1 in
        let u = taken ss y.shape j.1 in
        let names : x.name ≡ y.name = sym (same_equal f x.name i.0) ∙ same_equal f y.name j.0 in
        let types : t.0 ≡ u.0 = one_output v own c x y t.0 u.0 m k names t.1 u.1 (sym t.2 ∙ u.2) in
        let shapes : x.shape ≡ y.shape = t.1 ∙ ap function_shape types ∙ sym u.1 in
        let origins : x.origin ≡ y.origin =
        ⊎_elim (λ (e : x ≡ y). ap (λ (z : Item). z.origin) e) (⊎_elim (λ r. functions_agree x y t.0 t.1 (u.1 ∙ ap function_shape (sym types)) names r)
        (λ r. sym (functions_agree y x t.0 (u.1 ∙ ap function_shape (sym types)) t.1 (sym names) r)))
        (compatible functions_clash (v.items ++ own) (consistent_clear v own c).functions x y (Memᴰ.append_left own m) (Memᴰ.append_left own k)) in
        let h = every_member SoundVisible v.items sound x m in
        let g = every_member SoundVisible v.items sound y k in
        let standings = h.standing ∙ ap (λ (o : Origin). o.section) origins ∙ sym g.standing in
        λ z. record { standing = standings z; name = names z; shape = shapes z; origin = origins z }

    variable_shaped : (s : Shape) → is_variable s ≡ true → (r : Sort) × (s ≡ variable_shape r)
    unfolding is_variable
    variable_shaped sort_shape e = absurd (false≢true e)
    variable_shaped (function_shape t) e = absurd (false≢true e)
    variable_shaped (variable_shape s) e = (s, refl)

    pub finds_alike : consistent v own ≡ fine tt → Every SoundVisible v.items → Finds (v.items ++ own) (v'.items ++ map (re_item τ) own)
    unfolding re_item
    finds_alike c sound = record {
      functions = λ f ss. found_alike (λ (i : Item). is_called f i && takes ss i.shape) (λ (i : Item). is_called (τ f) i && takes (map (re_sort τ) ss) i.shape)
          (λ i. ap₂ (λ (b c : Bool). b && c) (called_kept τ keeps f i) (takes_kept ss i.shape)) (one_function c sound f ss);
      variables = λ w. found_alike (λ (i : Item). is_called w i && is_variable i.shape) (λ (i : Item). is_called (τ w) i && is_variable i.shape)
          (λ i. ap₂ (λ (b c : Bool). b && c) (called_kept τ keeps w i) (is_variable_kept i.shape))
          (λ x y m k p q. let s = variable_shaped x.shape (both_true (is_called w x) _ p).1 in
          absurd (no_variable x.shape s.0 (every_member SoundVisible v.items sound x m).kind s.1));
    }
