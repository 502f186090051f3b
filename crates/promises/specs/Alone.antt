-- Demand 3 where "accepted" is read of a module asked by itself: a module that is accepted in one call of a specification is so in another, room
-- apart; so if each other reached module is answered 0 when it is asked, a refusal of the asked module's call is its own, or 18
-- (proofs/Alone.antt).
use Rattle.std.specs.Prelude.{◌≡◌, ◌⊎◌, Bool, true, false, not, ◌&&◌, ℕ, ◌+◌}
use Rattle.std.proofs.Math.Path.{refl, sym, ap}
use Rattle.std.proofs.Common.{◌∙◌, subst, ⊎_elim, inl, inr}
use mathlib.Core.List.{List, [], ◌∷◌, map}
use Rattle.meaning.specs.Lists.{each, pick}
use Rattle.meaning.specs.Names.{Name, same, member}
use Rattle.meaning.specs.Syntax.{Clause, Import, Module, renamed_by, bound_by}
use Rattle.meaning.specs.Normal.{Visible, nothing_visible}
use Rattle.meaning.specs.Checks.{◌>>=◌, ◌>>◌, Outcome, Check, fine, Culprit, stop}
use Rattle.meaning.specs.Evaluate.{clause_names, import_names, named_by, missing, too_late, names_right}
use Rattle.meaning.specs.OutcomeLaws.{then_fine}
use Rattle.meaning.specs.VisiblyLaws.{clause_visibly, clauses_visibly, expressions_visibly, imported_visibly, joined_visibly, evaluate_visibly}
use Rattle.meaning.specs.Reached.{wanted, Placed, reached_among, reached, module_names}
use Rattle.meaning.specs.Laws.{by_cases}
use Rattle.laws.specs.Distinct.{Fresh}
use Rattle.meaning.specs.OrderLaws.{same_equal}
use Rattle.promises.specs.Members.{clear, member_here, member_right, member_left, no_name, member_either, Inside, inside_more, inside_later, refuted, wanted_here, wanted_asked, ReachedIn, wanted_within, Closed, closed_more, closed_skip}
use Rattle.promises.specs.TwoCalls.{went_on, both_cases}
use Rattle.promises.specs.Proof.{EndedVisibly, shows, refuses, end_visibly, seen_as, in_turn_visibly, normalise_visibly, Showing, stands_visibly, no_refusal}
use Rattle.meaning.specs.OutcomeLaws.{never, fine_same}
use Rattle.meaning.specs.VisiblyLaws.{Seen, visible_of}

abbrev pub names_seen : List Seen → List Name
names_seen env = map (λ (e : Seen). e.name) env

abbrev pub Agree : List Seen → List Seen → Type 0
Agree env env' = (w : Name) → member w (names_seen env) ≡ true → visible_of env w ≡ visible_of env' w

abbrev Covers : List Seen → List Name → Type 0
Covers env ws = (w : Name) → member w ws ≡ true → member w (names_seen env) ≡ true

module _ (env env' : List Seen) (agree : Agree env env') where
  clause_same : (c : Clause) (v : Visible) → Covers env (clause_names c) → clause_visibly env c v ≡ clause_visibly env' c v
  unfolding clause_visibly clause_names
  clause_same (renamed_by rs) v h = refl
  clause_same (bound_by p rs m) v h = rw (agree m (h m (member_here m [])))

  clauses_same : (cs : List Clause) (v : Visible) → Covers env (each clause_names cs) → clauses_visibly env cs v ≡ clauses_visibly env' cs v
  unfolding clauses_visibly each
  clauses_same [] v h = refl
  clauses_same (c ∷ cs) v h =
      λ i. clause_same c v (λ w k. h w (member_left w (clause_names c) _ k)) i
      >>= λ x. clauses_same cs x (λ w k. h w (member_right w (clause_names c) _ k)) i

  expressions_same : (is : List Import) → Covers env (each import_names is) → expressions_visibly env is ≡ expressions_visibly env' is
  unfolding expressions_visibly each import_names
  expressions_same [] h = refl
  expressions_same (x ∷ is) h =
      let first : visible_of env x.name ≡ visible_of env' x.name = agree x.name (h x.name (member_here x.name _)) in
      let here : clauses_visibly env x.clauses (visible_of env x.name) ≡ clauses_visibly env' x.clauses (visible_of env' x.name) =
      clauses_same x.clauses (visible_of env x.name)
      (λ w k. h w (member_left w (x.name ∷ each clause_names x.clauses) _ (member_right w (x.name ∷ []) _ k)))
      ∙ ap (clauses_visibly env' x.clauses) first in
      let rest = expressions_same is (λ w k. h w (member_right w (x.name ∷ each clause_names x.clauses) _ k)) in
      λ i. here i >>= λ v. (rest i >>= λ vs. fine (v ∷ vs))

  imported_same : (is : List Import) → Covers env (each import_names is) → imported_visibly env is ≡ imported_visibly env' is
  unfolding imported_visibly
  imported_same is h = rw (expressions_same is h)

-- ---- step 1 passed: each name is earlier

pub earlier_names : (d e ws : List Name) → names_right d e ws ≡ fine tt → (w : Name) → member w ws ≡ true → member w e ≡ true
unfolding names_right missing too_late
earlier_names d e [] h w k = no_name w k
earlier_names d e (v ∷ ws) h w k =
    let a = went_on (missing d v) _ _ _ tt h in
    let b = went_on (too_late d e v) _ _ _ tt a.1 in
    ⊎_elim (λ p. ap (λ (x : Name). member x e) p ∙ go (member v d) (member v e) a.0 b.0) (earlier_names d e ws b.1 w) (member_either w v ws k)
  where
    go : (x y : Bool) → not x ≡ false → (x && not y) ≡ false → y ≡ true
    go true true p q = refl
    go true false p q = clear q
    go false y p q = clear p

-- ---- the same module in the two environments

then_so : (c : Check) (o : Outcome Visible) (v : Visible) → c ≡ fine tt → o ≡ fine v → (c >> o) ≡ fine v
unfolding ◌>>◌
then_so c o v p h = ap (λ (x : Check). x >> o) p ∙ h

pub evaluate_same : (d e : List Name) (env env' : List Seen) (m : Module) (v : Visible) → Agree env env'
    → ((w : Name) → member w (named_by m) ≡ true → member w e ≡ true → member w (names_seen env) ≡ true)
    → evaluate_visibly (names_right d e (named_by m)) env m ≡ fine v → evaluate_visibly (names_right d e (named_by m)) env' m ≡ fine v
unfolding evaluate_visibly named_by
evaluate_same d e env env' m v agree closed q =
    let a = then_fine _ _ v q in
    let b = then_fine _ _ v a.1 in
    let i : imported_visibly env m.imports ≡ imported_visibly env' m.imports =
    imported_same env env' agree m.imports (λ w k. closed w k (earlier_names d e (named_by m) a.0 w k)) in
    then_so _ _ v a.0 (then_so _ _ v b.0 (ap (λ o. o >>= joined_visibly m) (sym i) ∙ b.1))

-- ---- the two calls, module by module

abbrev IsShown : EndedVisibly → Type 0
IsShown (shows c v) = Unit {0}
IsShown (refuses k c m w) = ⊥

-- a call that shows something has evaluated the next module
shown_next : (c : ℕ) (u : Name) (more : Visible → EndedVisibly) (o : Outcome Visible) → IsShown (end_visibly c u more o)
    → (v : Visible) × (o ≡ fine v) × IsShown (more v)
unfolding end_visibly
shown_next c u more (fine v) h = (v, refl, h)
shown_next c u more (stop k w) h = absurd h

-- a call that is refused is so at the next module, or later
refused_next : (c : ℕ) (u : Name) (more : Visible → EndedVisibly) (o : Outcome Visible) (n c' : ℕ) (y : Name) (w : Culprit)
    → end_visibly c u more o ≡ refuses n c' y w → ((o ≡ stop n w) × (u ≡ y)) ⊎ ((v : Visible) × (o ≡ fine v) × (more v ≡ refuses n c' y w))
unfolding end_visibly
refused_next c u more (fine v) n c' y w h = inr (v, refl, h)
refused_next c u more (stop k x) n c' y w h = inl (cc, cc)

-- a module at which the call is refused is reached
pub refused_reached : (d : List Name) (asked : Name) (ms : List Module) (k : ℕ) (e : List Name) (env : List Seen) (last : Visible) (n c : ℕ)
    (y : Name) (w : Culprit) → in_turn_visibly d env last (reached_among asked k e ms) ≡ refuses n c y w → ReachedIn y asked ms
unfolding in_turn_visibly reached_among
refused_reached d asked [] k e env last n c y w = no_refusal _ n c _ y w
refused_reached d asked (m ∷ ms) k e env last n c y w =
    by_cases (λ (xs : List Placed). in_turn_visibly d env last xs ≡ refuses n c y w → ReachedIn y asked (m ∷ ms)) (member m.name (wanted asked ms)) _ _
    (λ b h. ⊎_elim (λ r. inl (b, r.1)) (λ r. inr (refused_reached d asked ms _ _ (seen_as m r.0 ∷ env) r.0 n c y w r.2))
    (refused_next _ _ _ _ n c y w h)) (λ b h. inr (refused_reached d asked ms _ _ env last n c y w h))

choice_same : {A : Type 0} (b r : Bool) (x p q : A) → pick b true r ≡ true → (r ≡ true → p ≡ q) → pick b x p ≡ pick b x q
unfolding pick
choice_same true r x p q e h = refl
choice_same false r x p q e h = h e

choice_second : {A : Type 0} (b : Bool) (x p q : A) → b ≡ false → p ≡ q → p ≡ pick b x q
unfolding pick
choice_second b x p q e h = rw e h

module _ (m : Module) (x : Visible) where
  agree_more : (env env' : List Seen) → Agree env env' → Agree (seen_as m x ∷ env) (seen_as m x ∷ env')
  unfolding member visible_of
  agree_more env env' h w k = choice_same (same w m.name) _ _ _ _ k (h w)

  agree_skip : (e : List Name) (env env' : List Seen) → member m.name e ≡ false → Inside (names_seen env) e → Agree env env'
      → Agree env (seen_as m x ∷ env')
  unfolding visible_of
  agree_skip e env env' f i h w k =
      choice_second (same w m.name) _ _ _ (refuted _ (λ q. sym (sym f ∙ ap (λ (v : Name). member v e) (sym (same_equal w m.name q)) ∙ i w k))) (h w k)

-- y's own call shows something, and the call of the asked module is refused at y: that cannot be
both_calls : (d : List Name) (asked y : Name) (n c : ℕ) (w : Culprit)
    → (ms : List Module) (k : ℕ) (e : List Name) (env env' : List Seen) (last last' : Visible)
    → Fresh e ms → Agree env env' → Inside (names_seen env) e → Closed y ms e (names_seen env) → IsShown (in_turn_visibly d env last (reached_among y k e ms))
    → in_turn_visibly d env' last' (reached_among asked k e ms) ≡ refuses n c y w → ⊥
unfolding in_turn_visibly reached_among
both_calls d asked y n c w [] k e env env' last last' f a i cl = λ h h'. no_refusal _ n c _ y w h'
both_calls d asked y n c w (m ∷ ms) k e env env' last last' f a i cl =
    let later = both_calls d asked y n c w ms (k + 1) (m.name ∷ e) in
    both_cases (λ (xs xs' : List Placed). IsShown (in_turn_visibly d env last xs) → in_turn_visibly d env' last' xs' ≡ refuses n c y w → ⊥)
    (member m.name (wanted y ms)) (member m.name (wanted asked ms)) _ _ _ _ (λ b b' h h'.
    let one = shown_next _ _ _ _ h in
    let too = evaluate_same d e env env' m one.0 a (λ v q r. cl v (ap (member v) (wanted_here y m ms b) ∙ member_left v (named_by m) _ q) r) one.1 in
    ⊎_elim (λ r. never n w one.0 (sym r.0 ∙ too)) (λ r. later (seen_as m one.0 ∷ env) (seen_as m r.0 ∷ env') one.0 r.0 f.1
    (subst (λ (x : Visible). Agree (seen_as m one.0 ∷ env) (seen_as m x ∷ env')) (fine_same _ _ (sym too ∙ r.1)) (agree_more m one.0 env env' a))
    (inside_more m.name _ e i) (closed_more y m ms e _ cl) one.2 r.2) (refused_next _ _ _ _ n c y w h')) (λ b b' h h'.
    clear (sym (wanted_within y asked (m.name ∷ e) ms f.1 (refused_reached d asked ms _ _ _ _ n c y w h') m.name b) ∙ b')) (λ b b' h h'.
    ⊎_elim (λ r. clear (sym (sym b ∙ ap (λ (v : Name). member v (wanted y ms)) r.1 ∙ wanted_asked y ms)))
    (λ r. later env (seen_as m r.0 ∷ env') last r.0 f.1 (agree_skip m r.0 e env env' f.0 i a)
    (inside_later m.name _ e i) (closed_skip y m ms e _ b cl) h r.2) (refused_next _ _ _ _ n c y w h'))
    (λ b b' h h'. later env env' last last' f.1 a (inside_later m.name _ e i) (closed_skip y m ms e _ b cl) h h')

-- ---- a module that shows something is not refused within another's call

first_one : (b : Bool) (r s : EndedVisibly) → IsShown (pick b r s) → (IsShown s → ⊥) → IsShown r
unfolding pick
first_one true r s h k = h
first_one false r s h k = absurd (k h)

in_its_turn : (y : Name) (ms : List Module) (v : Visible) → Showing y ms v → IsShown (in_turn_visibly (module_names ms) [] nothing_visible (reached y ms))
unfolding normalise_visibly
in_its_turn y ms v h = first_one (member y (module_names ms)) _ _ (subst IsShown (sym h.1) tt) (λ z. z)

pub not_refused : (asked y : Name) (ms : List Module) → Fresh [] ms → member asked (module_names ms) ≡ true → (v : Visible) → Showing y ms v
    → (n c : ℕ) (w : Culprit) → normalise_visibly asked ms ≡ refuses n c y w → ⊥
unfolding reached member
not_refused asked y ms fresh stands v h n c w q =
    both_calls (module_names ms) asked y n c w ms 0 [] [] [] nothing_visible nothing_visible fresh
    (λ u z. refl) (λ u z. z) (λ u z g. g) (in_its_turn y ms v h) (sym (stands_visibly asked ms stands) ∙ q)
