-- Evaluating respects a change of names that keeps different names different and makes no renaming harder, and does not mind the order of
-- items: module by module in text order, with normal forms that are alike in both calls. So what is accepted stays so, after as many modules, with
-- the normal form under that change (`changed`).
use Rattle.std.proofs.Math.Path.{◌≡◌, ap, refl, sym, ap₂, subst}
use Rattle.std.proofs.Common.{◌∙◌, arith}
use Rattle.std.specs.Prelude.{ℕ, ◌+◌, Bool, ◌||◌, not, get_or}
use mathlib.Core.List.Permᴰ
use mathlib.Core.List.{List, [], ◌∷◌, map, ◌++◌, map-append}
use Rattle.std.proofs.Math.Option
use Rattle.std.proofs.Math.Option.{Option, none, some}
use Rattle.meaning.specs.Names.{Name, same, member}
use Rattle.meaning.specs.Numbers.{declared_twice}
use Rattle.meaning.specs.Syntax.{Equation, Module, Function, Signature, Parameter, Clause, renamed_by, bound_by, Import, variables_of}
use Rattle.meaning.specs.Normal.{Normal, Visible, nothing_visible, nothing_hidden, empty, sort_names, unite_hidden, unite}
use Rattle.meaning.specs.Written.{in_order}
use Rattle.meaning.specs.Reached.{Placed, reached, normalised, normalise, Ended, refused_at, total_of, module_names}
use Rattle.meaning.specs.OrderLaws.{Every, Rearranged, rearranged_every, rearranged_member}
use Rattle.meaning.specs.Lists.{pick, any, each, repeated, first_bad}
use Rattle.meaning.specs.Origins.{ResolvedEquation, Item, one_equation}
use Rattle.meaning.specs.Checks.{lone, needs, Outcome, fine, stop, ◌>>=◌, ◌>>◌, unless, consistent, Size, size, add_sizes, room, total_room, checked, each_beside}
use Rattle.meaning.specs.Own.{own_visible, own_hidden_items, constants}
use Rattle.meaning.specs.Typing.{made_equation, typed_equations}
use Rattle.meaning.specs.Evaluate.{Evaluated, clause_names, import_names, named_by, names_right, same_function, once_in, once_in_parameters, declared_once, normal_of, clause, clauses, expressions, united, imported, seen_sorts, joined_visible, own_checks, own_equations, joined_hidden, joined_own, evaluate, once_in_parameter}
use Rattle.promises.specs.SameListing.{SameNormal, same_ordered}
use Rattle.promises.specs.SoundEvaluation.{PlainModule, call_accepted, Whole, whole_keeps, Accepted, evaluated_accepted}
use Rattle.promises.specs.AcceptedForms.{accepted_one_order}
use Rattle.promises.specs.Demand.{InTurn}
use Rattle.promises.specs.Told.{SoundVisible}
use Rattle.promises.specs.TwoCalls.{by_turns, pick_both, in_turn_so, in_turn_each, every_first, in_turn_map, PlacedAlike, reached_alike, module_names_alike, evaluated, Beside, Goes, Ends, freed_here, normalise_two, one_on, reached_such}
use Rattle.promises.specs.Members.{member_append}
use Rattle.promises_replacing.specs.Changing.{re_module, re_visible, re_hidden, re_normal, re_function, re_signature, re_parameter, re_clause, re_import, re_item, re_equation}
use Rattle.promises_replacing.specs.Alike.{Alike, Both, Follows, size_alike, room_alike, equations_union_alike, union_follows, Easier, rename_alike, bind_alike}
use Rattle.promises_replacing.specs.Exchanging.{pick_map, any_map, agree_map, member_kept}
use Rattle.promises_replacing.specs.Reordering.{Tagged}
use Rattle.promises_replacing.specs.VisibleAlike.{Like, like, like_none, consistent_clear, once_rearranged, clear_one, AlikeVisible, member_alike, sort_names_alike, known_alike, consistent_alike, items_union_alike}
use Rattle.promises_replacing.specs.OwnAlike.{each_map, variables_kept, own_visible_alike, own_hidden_kept, available_kept, constants_alike, variables_right, equations_kept, finds_alike}
use Rattle.meaning.specs.OutcomeLaws.{then_fine, bind_fine, unless_fine, fine_same}
use Rattle.laws.specs.EveryLaws.{every_so, every_both, every_any, every_union}
use Rattle.laws.specs.Outcomes.{Gives}

-- ---- lists

repeated_none : {A : Type 0} (g : A → A) (e : A → A → Bool) → ((x y : A) → e (g x) (g y) ≡ e x y) → (τ : Name → Name) (called : A → Name)
    → ((x : A) → called (g x) ≡ τ (called x)) → (met xs : List A) → repeated called e (map g met) (map g xs) ≡ Option.map τ (repeated called e met xs)
unfolding repeated first_bad
repeated_none g e h τ called k met [] = refl
repeated_none g e h τ called k met (x ∷ xs) =
    rw (any_map g (e (g x)) (e x) (h x) met, repeated_none g e h τ called k (x ∷ met) xs, k x)
    (pick_map (Option.map τ) (any (e x) met) (some (called x)) (repeated called e (x ∷ met) xs))

-- the tags of a module's equations, from position `at` on
abbrev pub HasTags : (ℕ → ℕ → Name) → ℕ → ℕ → List Equation → Type 0
HasTags tags home at [] = Unit {0}
HasTags tags home at (r ∷ rs) = (tags home at ≡ r.tag) × HasTags tags home (at + 1) rs

module _ (τ : Name → Name) (keeps : (v w : Name) → same (τ v) (τ w) ≡ same v w) (tags : ℕ → ℕ → Name) where
  abbrev pub Twin : Normal → Normal → Type 0
  Twin n n' = Both τ keeps tags n n'

  abbrev Leads : Normal → Outcome Normal → Type 0
  Leads k o = Follows τ keeps tags k o

  abbrev pub EnvAlike : List Evaluated → List Evaluated → Type 0
  EnvAlike env env' = InTurn (Beside Twin) env env'

  pub empty_both : Twin empty empty
  unfolding empty nothing_visible nothing_hidden
  empty_both = record {
    alike = record { visible = record { parameters = Permᴰ.nil; items = like_none _ }; hidden_items = like_none _; equations = like_none _ };
    once = tt;
    one = λ a b m. elim m [ ];
    tagged = tt;
  }

  normal_of_alike : (env env' : List Evaluated) → EnvAlike env env' → (w : Name) → Twin (normal_of env w) (normal_of env' w)
  unfolding normal_of
  normal_of_alike env env' h w =
      by_turns (Beside Twin) (λ es es'. Twin (normal_of es w) (normal_of es' w)) empty_both
      (λ e e' es es' b more. rw b.name (pick_both Twin (same w e'.name) _ _ _ _ b.normal more)) env env' h

  -- ---- import expressions

  abbrev pub EasyClause : Clause → Type 0
  EasyClause (renamed_by rs) = Every (Easier τ keeps tags) rs
  EasyClause (bound_by p rs m) = Unit {0}

  abbrev pub EasyImport : Import → Type 0
  EasyImport i = Every EasyClause i.clauses

  module _ (env env' : List Evaluated) (h : EnvAlike env env') where
    clause_alike : (c : Clause) → EasyClause c → {n n' : Normal} → Twin n n' → (k : Normal) → clause env c n ≡ fine k
        → Leads k (clause env' (re_clause τ c) n')
    unfolding clause re_clause
    clause_alike (renamed_by rs) z b k e = rename_alike τ keeps tags b rs z k e
    clause_alike (bound_by p rs m) z b k e = bind_alike τ keeps tags b (normal_of_alike env env' h m) p rs k e

    clauses_alike : (cs : List Clause) → Every EasyClause cs → {n n' : Normal} → Twin n n' → (k : Normal) → clauses env cs n ≡ fine k
        → Leads k (clauses env' (map (re_clause τ) cs) n')
    unfolding clauses ◌>>=◌
    clauses_alike [] z {n} {n'} b k e = (n', refl, subst (λ (x : Normal). Twin x n') (fine_same n k e) b)
    clauses_alike (c ∷ cs) z {n} b k e =
        let f = bind_fine (clause env c n) (λ j. clauses env cs j) k e in
        let r = clause_alike c z.0 b f.0 f.1 in
        rw r.1 (clauses_alike cs z.1 r.2 k f.2)

    pub expressions_alike : (is : List Import) → Every EasyImport is → (ns : List Normal) → expressions env is ≡ fine ns
        → (ns' : List Normal) × (expressions env' (map (re_import τ) is) ≡ fine ns') × InTurn Twin ns ns'
    unfolding expressions ◌>>=◌ re_import
    expressions_alike [] z ns e = ([], refl, subst (λ (x : List Normal). InTurn Twin x []) (fine_same [] ns e) tt)
    expressions_alike (i ∷ is) z ns e =
        let f = bind_fine _ _ ns e in
        let g = bind_fine (expressions env is) _ ns f.2 in
        let r = clauses_alike i.clauses z.0 (normal_of_alike env env' h i.name) f.0 f.1 in
        let s = expressions_alike is z.1 g.0 g.1 in
        (r.0 ∷ s.0, rw (r.1, s.1) refl, subst (λ (x : List Normal). InTurn Twin x (r.0 ∷ s.0)) (fine_same (f.0 ∷ g.0) ns g.2) (r.2, s.2))

    united_alike : (ns ns' : List Normal) → InTurn Twin ns ns' → (n n' : Normal) → Twin n n' → (k : Normal) → united n ns ≡ fine k → Leads k (united n' ns')
    unfolding united ◌>>=◌
    united_alike =
        by_turns Twin (λ ns ns'. (n n' : Normal) → Twin n n' → (k : Normal) → united n ns ≡ fine k → Leads k (united n' ns'))
        (λ n n' b k e. (n', refl, subst (λ (x : Normal). Twin x n') (fine_same n k e) b)) (λ x x' xs xs' z more n n' b k e.
        let f = bind_fine (checked (unite n x)) (λ u. united u xs) k e in
        let r = union_follows τ keeps tags b.alike z.alike b.tagged z.tagged f.0 f.1 in
        rw r.1 (more f.0 r.0 r.2 k f.2))

    pub imported_alike : (is : List Import) → Every EasyImport is → (k : Normal) → imported env is ≡ fine k → Leads k (imported env' (map (re_import τ) is))
    unfolding imported ◌>>=◌
    imported_alike is z k e =
        let f = bind_fine (expressions env is) (λ ns. united empty ns) k e in
        let r = expressions_alike is z f.0 f.1 in
        rw r.1 (united_alike f.0 r.0 r.2 empty empty empty_both k f.2)

  -- ---- M's own

  in_order_alike : {n n' : Normal} → Alike τ keeps tags n n' → Alike τ keeps tags (in_order n) (in_order n')
  in_order_alike {n} {n'} a =
      let s = same_ordered n in
      let t = same_ordered n' in
      record {
        visible = record {
          parameters = Permᴰ.trans (Permᴰ.symm s.parameters) (Permᴰ.trans a.visible.parameters t.parameters);
          items = again (re_item τ) s.items a.visible.items t.items;
        };
        hidden_items = again (re_item τ) s.hidden_items a.hidden_items t.hidden_items;
        equations = again (re_equation τ) s.equations a.equations t.equations;
      }
    where
      again : {A B : Type 0} (g : A → B) {xs ys : List A} {us vs : List B} → Rearranged xs ys → Like g xs us → Rearranged us vs → Like g ys vs
      again g p d q = record { arranged = Permᴰ.trans (Permᴰ.map g (Permᴰ.symm p)) (Permᴰ.trans d.arranged q) }

  made_tagged : (home at : ℕ) (tag : Name) (o : Option _) (p : Option (List _)) (x : ResolvedEquation) → tags home at ≡ tag
      → made_equation home at tag o p ≡ fine x → Tagged tags x
  unfolding made_equation
  made_tagged home at tag none p x q e = let z : ◌≡◌ {A = ℕ} 0 1 = cc in absurd (omega arith)
  made_tagged home at tag (some c) none x q e = let z : ◌≡◌ {A = ℕ} 0 1 = cc in absurd (omega arith)
  made_tagged home at tag (some c) (some ks) x q e = subst (Tagged tags) (fine_same _ x e) (record { tagged = q })

  own_tagged : (known : List Item) (home at : ℕ) (es : List Equation) → HasTags tags home at es → (xs : List ResolvedEquation)
      → typed_equations known home at es ≡ fine xs → Every (Tagged tags) xs
  unfolding typed_equations
  own_tagged known home at [] h xs e = subst (Every (Tagged tags)) (fine_same [] xs e) tt
  own_tagged known home at (r ∷ rs) h xs e =
      let a = bind_fine _ _ xs e in
      let b = bind_fine (typed_equations known home (at + 1) rs) _ xs a.2 in
      subst (Every (Tagged tags)) (fine_same (a.0 ∷ b.0) xs b.2)
      (made_tagged home at r.tag _ _ a.0 h.0 a.1, own_tagged known home (at + 1) rs h.1 b.0 b.1)

  module _ {n n' : Normal} (b : Twin n n') (m : Module) where
    abbrev m' : Module
    m' = re_module τ m

    abbrev seen : List Name
    seen = seen_sorts m n.visible

    abbrev seen' : List Name
    seen' = seen_sorts m' n'.visible

    own_sorts_kept : each (λ (p : Parameter). p.signature.sorts) m'.parameters ++ m'.exports.sorts
        ≡ map τ (each (λ (p : Parameter). p.signature.sorts) m.parameters ++ m.exports.sorts)
    unfolding re_module re_parameter re_signature
    own_sorts_kept =
        ap (λ (r : List Name). r ++ map τ m.exports.sorts)
        (each_map (re_parameter τ) τ (λ (p : Parameter). p.signature.sorts) (λ (p : Parameter). p.signature.sorts) (λ p. refl) m.parameters)
        ∙ sym (map-append τ (each (λ (p : Parameter). p.signature.sorts) m.parameters) m.exports.sorts)

    seen_same : (s : Name) → member (τ s) seen' ≡ member s seen
    unfolding seen_sorts
    seen_same s =
        let own = each (λ (p : Parameter). p.signature.sorts) m.parameters ++ m.exports.sorts in
        member_append (τ s) (sort_names n'.visible) (each (λ (p : Parameter). p.signature.sorts) m'.parameters ++ m'.exports.sorts)
        ∙ ap₂ (λ (x y : Bool). x || y) (member_alike τ keeps s (sort_names_alike τ keeps b.alike.visible))
        (ap (member (τ s)) own_sorts_kept ∙ member_kept τ keeps s own) ∙ sym (member_append s (sort_names n.visible) own)

    abbrev v : Visible
    v = joined_visible m n.visible

    abbrev v' : Visible
    v' = joined_visible m' n'.visible

    abbrev own : List Item
    own = own_hidden_items m seen

    own_same : own_hidden_items m' seen' ≡ map (re_item τ) own
    own_same = own_hidden_kept τ keeps m seen seen' seen_same

    visible_alike : AlikeVisible τ keeps v v'
    unfolding joined_visible
    visible_alike =
        let mine = own_visible_alike τ keeps m seen seen' seen_same in
        record {
          parameters =
              Permᴰ.trans (Permᴰ.append_right (own_visible m seen).parameters b.alike.visible.parameters)
              (Permᴰ.append_left n'.visible.parameters mine.parameters);
          items = items_union_alike τ keeps b.alike.visible.items mine.items;
        }

    own_checks_alike : own_checks m seen v ≡ fine tt → own_checks m' seen' v' ≡ fine tt
    unfolding own_checks ◌>>◌ unless
    own_checks_alike e =
        let c = then_fine _ _ tt e in
        let a = then_fine _ _ tt c.1 in
        rw (
          own_same,
          consistent_alike τ keeps visible_alike own c.0,
          available_kept τ keeps m seen seen' seen_same a.0,
          variables_kept τ keeps m,
          variables_right τ keeps (constants (v.items ++ own)) (constants (v'.items ++ map (re_item τ) own))
              (λ w. member_alike τ keeps w (constants_alike τ keeps (known_alike τ keeps visible_alike own))) [] (variables_of m) (unless_fine _ _ a.1),
        )

    abbrev whole : List ResolvedEquation → Normal
    whole es = record { visible = v; hidden = joined_hidden m seen n.hidden es }

    abbrev whole' : List ResolvedEquation → Normal
    whole' es = record { visible = v'; hidden = joined_hidden m' seen' n'.hidden es }

    whole_alike : (es : List ResolvedEquation) → Every (Tagged tags) es → Alike τ keeps tags (whole es) (whole' (map (re_equation τ) es))
    unfolding joined_hidden unite_hidden
    whole_alike es t = record {
      visible = visible_alike;
      hidden_items = items_union_alike τ keeps b.alike.hidden_items (like (re_item τ) own own_same (Permᴰ.refl _));
      equations = equations_union_alike τ keeps tags b.alike.equations (like (re_equation τ) es refl (Permᴰ.refl _)) t;
    }

    whole_tagged : (es : List ResolvedEquation) → Every (Tagged tags) es → Every (Tagged tags) (whole es).hidden.equations
    unfolding joined_hidden unite_hidden
    whole_tagged es t = every_union (Tagged tags) one_equation n.hidden.equations es b.tagged t

    own_equations_alike : (home : ℕ) (es : List ResolvedEquation) → consistent v own ≡ fine tt → Every SoundVisible v.items
        → own_equations home m seen v ≡ fine es → own_equations home m' seen' v' ≡ fine (map (re_equation τ) es)
    unfolding own_equations re_module
    own_equations_alike home es c sound e =
        rw own_same
        (equations_kept τ keeps (v.items ++ own) (v'.items ++ map (re_item τ) own) (finds_alike τ keeps visible_alike own c sound) home 0 m.equations es e)

    own_equations_tagged : (home : ℕ) → HasTags tags home 0 m.equations → (es : List ResolvedEquation) → own_equations home m seen v ≡ fine es
        → Every (Tagged tags) es
    unfolding own_equations
    own_equations_tagged home h es e = own_tagged (v.items ++ own) home 0 m.equations h es e

    consistent_first : own_checks m seen v ≡ fine tt → consistent v own ≡ fine tt
    unfolding own_checks
    consistent_first e = (then_fine _ _ tt e).0

    pub joined_own_alike : (home : ℕ) (total : Size) → HasTags tags home 0 m.equations → (k : Normal) → joined_own home total m n ≡ fine k
        → Every SoundVisible k.visible.items → Leads k (joined_own home total m' n')
    unfolding joined_own ◌>>=◌ ◌>>◌
    joined_own_alike home total h k e sound =
        let c = then_fine (own_checks m seen v) _ k e in
        let f = bind_fine (own_equations home m seen v) _ k c.1 in
        let es = f.0 in
        let r = then_fine (room (whole es)) _ k f.2 in
        let t = then_fine (total_room (add_sizes total (size (whole es)))) _ k r.1 in
        let q : in_order (whole es) ≡ k = fine_same (in_order (whole es)) k t.1 in
        let clear = consistent_clear v own (consistent_first c.0) in
        let tagged = own_equations_tagged home h es f.1 in
        let a = whole_alike es tagged in
        let s = same_ordered (whole es) in
        let seen_sound =
        rearranged_every SoundVisible (Permᴰ.symm s.items) (subst (λ (x : Normal). Every SoundVisible x.visible.items) (sym q) sound) in (
          in_order (whole' (map (re_equation τ) es)),
          rw (own_checks_alike c.0, own_equations_alike home es (consistent_first c.0) seen_sound f.1, room_alike τ keeps tags a, r.0, size_alike τ keeps tags a, t.0) refl,
          subst (λ (x : Normal). Twin x (in_order (whole' (map (re_equation τ) es)))) q (record {
            alike = in_order_alike a;
            once = once_rearranged v (in_order (whole es)).visible s.parameters clear.once;
            one = λ x y m k. clear_one v own clear x y (rearranged_member (Permᴰ.symm s.items) m) (rearranged_member (Permᴰ.symm s.items) k);
            tagged = rearranged_every (Tagged tags) s.equations (whole_tagged es tagged);
          }),
        )

  -- ---- one module

  each_same : {A B C : Type 0} (g : A → B) (f : B → List C) (f' : A → List C) → ((x : A) → f (g x) ≡ f' x) → (xs : List A) → each f (map g xs) ≡ each f' xs
  unfolding each
  each_same g f f' h [] = refl
  each_same g f f' h (x ∷ xs) = ap₂ (λ (u v : List _). u ++ v) (h x) (each_same g f f' h xs)

  clause_names_kept : (c : Clause) → clause_names (re_clause τ c) ≡ clause_names c
  unfolding clause_names re_clause
  clause_names_kept (renamed_by rs) = refl
  clause_names_kept (bound_by p rs m) = refl

  named_by_kept : (m : Module) → named_by (re_module τ m) ≡ named_by m
  unfolding named_by import_names re_module re_import
  named_by_kept m =
      each_same (re_import τ) import_names import_names
      (λ i. ap (λ (r : List Name). i.name ∷ r) (each_same (re_clause τ) clause_names clause_names clause_names_kept i.clauses)) m.imports

  same_function_kept : (f g : Function) → same_function (re_function τ f) (re_function τ g) ≡ same_function f g
  unfolding same_function re_function
  same_function_kept f g = rw (keeps f.name g.name, agree_map τ same same keeps f.inputs g.inputs, keeps f.output g.output)

  once_in_kept : (s : Signature) → once_in s ≡ fine tt → once_in (re_signature τ s) ≡ fine tt
  unfolding once_in re_signature re_function ◌>>◌ unless
  once_in_kept s e =
      let a = then_fine _ _ tt e in
      let as_it_is : Name → Name = λ w. w in
      let called : Function → Name = λ f. f.name in
      let sorts =
      repeated_none τ same keeps τ as_it_is (λ w. refl) [] s.sorts
      ∙ ap (Option.map τ) (unless_fine declared_twice (repeated as_it_is same [] s.sorts) a.0) in
      let functions =
      repeated_none (re_function τ) same_function same_function_kept τ called (λ f. refl) [] s.functions
      ∙ ap (Option.map τ) (unless_fine declared_twice (repeated called same_function [] s.functions) a.1) in
      rw (sorts, functions)

  once_in_parameters_kept : (met : List Name) (ps : List Parameter) → once_in_parameters met ps ≡ fine tt
      → once_in_parameters met (map (re_parameter τ) ps) ≡ fine tt
  unfolding once_in_parameters re_parameter ◌>>◌ pick each_beside once_in_parameter
  once_in_parameters_kept met [] e = refl
  once_in_parameters_kept met (p ∷ ps) e =
      let a = then_fine (once_in_parameter met p) _ tt e in
      let b = then_fine (needs declared_twice (lone p.name) (not (member p.name met))) (once_in p.signature) tt a.0 in
      rw (b.0, once_in_kept p.signature b.1) (once_in_parameters_kept (p.name ∷ met) ps a.1)

  declared_once_kept : (m : Module) → declared_once m ≡ fine tt → declared_once (re_module τ m) ≡ fine tt
  unfolding declared_once re_module ◌>>◌
  declared_once_kept m e =
      let a = then_fine _ _ tt e in
      let b = then_fine _ _ tt a.1 in
      rw (once_in_parameters_kept [] m.parameters a.0, once_in_kept m.exports b.0) (once_in_kept m.hidden b.1)

  abbrev pub EasyModule : Module → Type 0
  EasyModule m = Every EasyImport m.imports

  pub evaluates_so : (declared earlier : List Name) (home : ℕ) (total : Size) (env : List Evaluated) (m : Module) (j k : Normal)
      → names_right declared earlier (named_by m) ≡ fine tt → declared_once m ≡ fine tt
      → imported env m.imports ≡ fine j → joined_own home total m j ≡ fine k → evaluate declared earlier home total env m ≡ fine k
  unfolding evaluate ◌>>=◌ ◌>>◌
  evaluates_so declared earlier home total env m j k a b c d = rw (a, b, c) d

  evaluate_alike : (declared earlier : List Name) (home : ℕ) (total : Size) (env env' : List Evaluated) → EnvAlike env env' → (m : Module)
      → EasyModule m → HasTags tags home 0 m.equations → (k : Normal) → evaluate declared earlier home total env m ≡ fine k
      → Every SoundVisible k.visible.items → Leads k (evaluate declared earlier home total env' (re_module τ m))
  unfolding evaluate re_module
  evaluate_alike declared earlier home total env env' h m easy t k e sound =
      let a = then_fine (names_right declared earlier (named_by m)) _ k e in
      let c = then_fine (declared_once m) _ k a.1 in
      let f = bind_fine (imported env m.imports) _ k c.1 in
      let r = imported_alike env env' h m.imports easy f.0 f.1 in
      let s = joined_own_alike r.2 m home total t k f.2 sound in (
        s.0,
        evaluates_so declared earlier home total env' (re_module τ m) r.0 s.0 (ap (names_right declared earlier) (named_by_kept m) ∙ a.0)
            (declared_once_kept m c.0) r.1 s.1,
        s.2,
      )

  -- ---- all modules in turn

  totals_kept : (env env' : List Evaluated) → EnvAlike env env' → total_of env ≡ total_of env'
  unfolding total_of
  totals_kept =
      by_turns (Beside Twin) (λ es es'. total_of es ≡ total_of es') refl
      (λ e e' es es' b more. ap₂ add_sizes (sym (size_alike τ keeps tags b.normal.alike)) more)

  pub record GoodPlaced (x : Placed) : Type 0 where
    pub plain : PlainModule x.self
    pub easy : EasyModule x.self
    pub has_tags : HasTags tags x.number 0 x.self.equations

  abbrev Changed : Module → Module → Type 0
  Changed m m' = re_module τ m ≡ m'

  called : (m m' : Module) → Changed m m' → m.name ≡ m'.name
  unfolding re_module
  called m m' r = ap (λ (x : Module). x.name) r

  naming : (m m' : Module) → Changed m m' → (w : Name) → member w (named_by m) ≡ member w (named_by m')
  naming m m' r w = ap (member w) (sym (named_by_kept m) ∙ ap named_by r)

  abbrev WholeTwin : Normal → Normal → Type 0
  WholeTwin n n' = Twin n n' × Whole n

  abbrev ChangedPlaced : Placed → Placed → Type 0
  ChangedPlaced x x' = PlacedAlike Changed x x' × (GoodPlaced x × Unit {0})

  evaluated_alike : (declared : List Name) (env env' : List Evaluated) → InTurn (Beside WholeTwin) env env' → (x x' : Placed) → ChangedPlaced x x'
      → Goes WholeTwin (Unit {0}) (evaluated declared env x) (evaluated declared env' x')
  evaluated_alike declared env env' h x x' p =
      subst (Goes WholeTwin (Unit {0}) (evaluated declared env x))
      (λ i. evaluate declared (p.0.earlier i) (p.0.number i) (totals_kept env env' twins i) env' (p.0.self i)) (go (evaluated declared env x) refl
      (evaluated_accepted declared x.earlier x.number (total_of env) env x.self p.1.0.plain
      (every_first _ _ (λ e e' b. b.normal.1) env env' h)))
    where
      twins : EnvAlike env env'
      twins = in_turn_so _ _ (λ e e' b. record { name = b.name; normal = b.normal.0 }) env env' h

      other : Outcome Normal
      other = evaluate declared x.earlier x.number (total_of env) env' (re_module τ x.self)

      go : (o : Outcome Normal) → evaluated declared env x ≡ o → Gives Accepted o → Goes WholeTwin (Unit {0}) o other
      go (stop k w) q a = freed_here WholeTwin (Unit {0}) k w other tt
      go (fine k) q a =
          let r =
          evaluate_alike declared x.earlier x.number (total_of env) env env' twins x.self p.1.0.easy p.1.0.has_tags k q
          a.whole.sound.visible in
          subst (Goes WholeTwin (Unit {0}) (fine k)) (sym r.1) (r.2, a.whole)

  abbrev pub EndsAlike : ℕ → Normal → Ended → Type 0
  EndsAlike count n r = (n' : Normal) × (r ≡ normalised count n') × Twin n n'

  pub normalise_alike : (asked : Name) (ms : List Module) → Every GoodPlaced (reached asked ms) → (count : ℕ) (n : Normal)
      → normalise asked ms ≡ normalised count n → EndsAlike count n (normalise asked (map (re_module τ) ms))
  normalise_alike asked ms g count n e =
      let ms' = map (re_module τ) ms in
      let changed = in_turn_map Changed (re_module τ) (λ m. refl) ms in
      go (normalise asked ms') (subst (λ (r : Ended). Ends WholeTwin (Unit {0}) r (normalise asked ms')) e
      (normalise_two WholeTwin (Unit {0}) ChangedPlaced (λ x x' p. called _ _ p.0.self) (module_names ms) (evaluated_alike (module_names ms))
      asked ms ms' refl (sym (module_names_alike Changed called naming ms ms' changed))
      (in_turn_each (PlacedAlike Changed) GoodPlaced (λ x. Unit {0}) (reached asked ms) (reached asked ms')
      (reached_alike Changed called naming asked ms ms' changed) g (every_any (reached asked ms'))) (empty_both, whole_keeps.nothing)))
    where
      go : (r : Ended) → Ends WholeTwin (Unit {0}) (normalised count n) r → EndsAlike count n r
      go (normalised c k) h = (k, ap (λ (c : ℕ). normalised c k) (sym h.0), h.1.0)
      go (refused_at j c m w) h = absurd h

-- ---- the tags of a text's equations

abbrev tags_in : List Equation → List Name
tags_in es = map (λ (e : Equation). e.tag) es

abbrev equations_in : List Module → ℕ → List Equation
equations_in ms home = get_or (map (λ (m : Module). m.equations) ms) home []

-- the tag of the equation at a position of a module
pub tags_of : List Module → ℕ → ℕ → Name
tags_of ms home at = get_or (tags_in (equations_in ms home)) at []

had_tags : (tags : ℕ → ℕ → Name) (home at : ℕ) (es : List Equation) → ((j : ℕ) → tags home (at + j) ≡ get_or (tags_in es) j []) → HasTags tags home at es
had_tags tags home at [] h = tt
had_tags tags home at (r ∷ rs) h =
    let n = one_on (tags home) (λ j. get_or (tags_in (r ∷ rs)) j []) at h in (n.0, had_tags tags home (at + 1) rs n.1)

-- ---- the theorem

turned : (τ : Name → Name) (keeps : (v w : Name) → same (τ v) (τ w) ≡ same v w) (tags : ℕ → ℕ → Name) (n n' : Normal)
    → Alike τ keeps tags n n' → SameNormal n' (re_normal τ n)
unfolding re_normal re_visible re_hidden
turned τ keeps tags n n' a = record {
  parameters = Permᴰ.symm a.visible.parameters;
  items = Permᴰ.symm a.visible.items.arranged;
  hidden_items = Permᴰ.symm a.hidden_items.arranged;
  equations = Permᴰ.symm a.equations.arranged;
}

pub good_placed : (τ : Name → Name) (keeps : (v w : Name) → same (τ v) (τ w) ≡ same v w) (asked : Name) (ms : List Module)
    → Every PlainModule ms → Every (EasyModule τ keeps (tags_of ms)) ms → Every (GoodPlaced τ keeps (tags_of ms)) (reached asked ms)
unfolding reached tags_of
good_placed τ keeps asked ms plain easy =
    every_so _ (GoodPlaced τ keeps (tags_of ms)) (reached asked ms) (λ x h. record {
      plain = h.0.0;
      easy = h.0.1;
      has_tags = had_tags (tags_of ms) x.number 0 x.self.equations (λ j.
          ap₂ (λ (es : List Equation) (k : ℕ). get_or (tags_in es) k []) h.1 (from_none j));
    }) (reached_such (λ m. PlainModule m × EasyModule τ keeps (tags_of ms) m) (λ (m : Module). m.equations) [] (equations_in ms) asked 0 [] ms
    (every_both PlainModule (EasyModule τ keeps (tags_of ms)) ms plain easy) (λ j. ap (equations_in ms) (from_none j)))
  where
    from_none : (j : ℕ) → 0 + j ≡ j
    from_none j = omega arith

pub changed : (τ : Name → Name) (keeps : (v w : Name) → same (τ v) (τ w) ≡ same v w) (asked : Name) (ms : List Module)
    → Every PlainModule ms → Every PlainModule (map (re_module τ) ms) → Every (EasyModule τ keeps (tags_of ms)) ms
    → (count : ℕ) (n : Normal) → normalise asked ms ≡ normalised count n
    → normalise asked (map (re_module τ) ms) ≡ normalised count (in_order (re_normal τ n))
changed τ keeps asked ms plain plain' easy count n e =
    let tags = tags_of ms in
    let t = normalise_alike τ keeps tags asked ms (good_placed τ keeps asked ms plain easy) count n e in
    let accepted = call_accepted asked (map (re_module τ) ms) count t.0 plain' t.1 in
    t.1 ∙ ap (normalised count) (accepted_one_order t.0 (re_normal τ n) accepted.normal (turned τ keeps tags n t.0 t.2.alike))
