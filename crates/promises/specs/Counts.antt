-- The count: `modules` in every answer is the number of reached modules in text order up to and with the refused one, all of them where
-- none is refused, and 0 for 1 to 6 and where the working memory is too short.
use Rattle.std.specs.Prelude.{◌≡◌, ◌⊎◌, ℕ, suc, ◌+◌, ◌≤◌, Bool, ltb, length}
use Rattle.std.proofs.Math.Path.{refl, subst}
use Rattle.std.proofs.Common.{sym, ap, ◌∙◌, inl, inr, true≢false, lit≤}
use native.Mathlib.Omega.{arith}
use Rattle.std.proofs.Math.Bool.{true, false}
use Rattle.std.proofs.Math.Option.{Option, none, some}
use mathlib.Core.List.{List, [], ◌∷◌, ◌++◌}
use Rattle.std.proofs.Math.Dec.{leb-zero}
use Rattle.meaning.specs.Laws.{by_cases}
use Rattle.meaning.specs.Lists.{pick, before, each}
use Rattle.meaning.specs.Names.{Name, same, member}
use Rattle.meaning.specs.Numbers.{memory_size, accepted, asked_absent, lent_short, no_token_there, named_absent, declared_twice, clashing, overloading, bad_variable, bad_sort, bad_renaming, bad_parameter, ill_typed, no_room, formal_absent, formal_twice, actual_absent, other_kind, other_type, formal_unpaired}
use Rattle.meaning.specs.Syntax.{Signature, Parameter, Pair, Clause, renamed_by, bound_by, Import, Equation, Module}
use Rattle.meaning.specs.Normal.{Visible, Normal, empty, formals}
use Rattle.meaning.specs.Origins.{ResolvedSides, Item}
use Rattle.meaning.specs.Checks.{Culprit, lone, Outcome, fine, stop, ◌>>=◌, ◌>>◌, Check, unless, needs, consistent, fits, room, total_room, Size, checked, each_beside}
use Rattle.meaning.specs.Clauses.{rename, pair_right, pairs_right, bound_to, bind}
use Rattle.meaning.specs.Own.{available_sorts}
use Rattle.meaning.specs.Typing.{made_equation, typed_equations}
use Rattle.meaning.specs.Evaluate.{Evaluated, named_by, names_right, once_in, once_in_parameters, declared_once, normal_of, clause, clauses, expressions, united, imported, own_checks, own_equations, joined_own, evaluate, once_in_parameter}
use Rattle.meaning.specs.Texts.{Texts, Reading, all_read, refused_in, read_texts}
use Rattle.meaning.specs.Reached.{Placed, reached_among, reached, Ended, normalised, refused_at, end_or, total_of, in_turn, module_names, short_or_blank, normalise}
use Rattle.meaning.specs.Listing.{lines_text}
use Rattle.laws.specs.Distinct.{Fresh, read_fresh}
use Rattle.meaning.specs.OrderLaws.{Every, every_middle, Pairwise, same_self}
use Rattle.meaning.specs.Answer.{Answer, refusal, of_ended, unread, of_read, within, answer}
use Rattle.laws.specs.EveryLaws.{every_so}

-- ---- one module after the other

-- the module called `told` is the first refused among xs, with this number and culprit, when those before it have been evaluated;
-- `count` of xs are evaluated, it included
pub record RefusedIn (declared : List Name) (xs : List Placed) (number count : ℕ) (told : Name) (culprit : Culprit) : Type 0 where
  pub accepted_before : List Placed
  pub refused : Placed
  pub not_evaluated : List Placed
  pub split : xs ≡ accepted_before ++ (refused ∷ not_evaluated)
  pub counted : count ≡ length accepted_before + 1
  pub named : told ≡ refused.self.name
  -- the modules evaluated before, and the refusal
  pub env : List Evaluated
  pub outcome : evaluate declared refused.earlier refused.number (total_of env) env refused.self ≡ stop number culprit

abbrev pub CountedIn : List Name → ℕ → List Placed → Ended → Type 0
CountedIn declared base xs (normalised count n) = count ≡ base + length xs
CountedIn declared base xs (refused_at number count told culprit) =
    (c : ℕ) × RefusedIn declared xs number c told culprit × (count ≡ base + c)

module _ (declared : List Name) where
  one_more : (base : ℕ) (x : Placed) (xs : List Placed) (e : Ended) → CountedIn declared (suc base) xs e → CountedIn declared base (x ∷ xs) e
  one_more base x xs (normalised count n) h = omega arith
  one_more base x xs (refused_at number count told culprit) h =
      let r = h.1 in (
        h.0 + 1,
        record {
          accepted_before = x ∷ r.accepted_before;
          refused = r.refused;
          not_evaluated = r.not_evaluated;
          split = ap (x ∷◌) r.split;
          counted = omega (arith, r.counted);
          named = r.named;
          env = r.env;
          outcome = r.outcome;
        },
        omega (arith, h.2),
      )

  pub in_turn_counted : (env : List Evaluated) (last : Normal) (xs : List Placed) → CountedIn declared (length env) xs (in_turn declared env last xs)
  unfolding in_turn end_or
  in_turn_counted env last [] = omega arith
  in_turn_counted env last (x ∷ xs) =
      go (evaluate declared x.earlier x.number (total_of env) env x.self) refl
      (λ n. in_turn_counted (record { name = x.self.name; normal = n } ∷ env) n xs)
    where
      after : Normal → Ended
      after n = in_turn declared (record { name = x.self.name; normal = n } ∷ env) n xs

      go : (o : Outcome Normal) → evaluate declared x.earlier x.number (total_of env) env x.self ≡ o
          → ((n : Normal) → CountedIn declared (suc (length env)) xs (after n))
          → CountedIn declared (length env) (x ∷ xs) (end_or (length env + 1) x.self.name after o)
      go (fine n) e h = one_more (length env) x xs (after n) (h n)
      go (stop k w) e h =
          let here : RefusedIn declared (x ∷ xs) k 1 x.self.name w =
          record { accepted_before = []; refused = x; not_evaluated = xs; split = refl; counted = refl; named = refl; env = env; outcome = e } in
          (1, here, refl)

-- ---- every answer

-- which way a call went, and its count
pub data Counted (memory_lent : ℕ) (asked : Name) (texts : Texts) (r : Answer) : Type 0 where
  memory_short : ltb memory_lent memory_size ≡ true → r.number ≡ lent_short → r.modules ≡ 0 → Counted memory_lent asked texts r
  not_read : (in_library : Bool) (number at : ℕ) → read_texts texts ≡ refused_in in_library number at → r.number ≡ number → r.modules ≡ 0 → Counted memory_lent asked texts r
  not_there : (ms : List Module) → read_texts texts ≡ all_read ms → member asked (module_names ms) ≡ false
      → r.number ≡ asked_absent → r.modules ≡ 0 → Counted memory_lent asked texts r
  all_evaluated : (ms : List Module) → read_texts texts ≡ all_read ms → (r.number ≡ accepted) ⊎ (r.number ≡ lent_short)
      → r.modules ≡ length (reached asked ms) → Counted memory_lent asked texts r
  up_to_refused : (ms : List Module) → read_texts texts ≡ all_read ms
      → RefusedIn (module_names ms) (reached asked ms) r.number r.modules r.evaluating r.culprit → Counted memory_lent asked texts r

module _ (memory_lent output_lent : ℕ) (asked : Name) (texts : Texts) where
  -- a refusal has no listing, so what is lent does not change it
  pub refusal_within : (k c : ℕ) (m : Name) (w : Culprit) (at : ℕ) → within output_lent asked (refusal k c m w at) ≡ refusal k c m w at
  unfolding within refusal lines_text each pick
  refusal_within k c m w at = rw (leb-zero output_lent)

  unread_within : (in_library : Bool) (k at : ℕ) → within output_lent asked (unread in_library k at) ≡ unread in_library k at
  unfolding within unread lines_text each pick
  unread_within in_library k at = rw (leb-zero output_lent)

  ended_counted : (ms : List Module) → read_texts texts ≡ all_read ms → (e : Ended) → CountedIn (module_names ms) 0 (reached asked ms) e
      → Counted memory_lent asked texts (within output_lent asked (of_ended asked e))
  unfolding of_ended within refusal
  ended_counted ms q (normalised count n) h =
      by_cases (Counted memory_lent asked texts) _ _ _ (λ e. all_evaluated ms q (inl refl) (omega arith))
      (λ e. all_evaluated ms q (inr refl) (omega arith))
  ended_counted ms q (refused_at number count told culprit) h =
      subst (Counted memory_lent asked texts) (sym (refusal_within number count told culprit 0))
      (up_to_refused ms q (subst (λ (c : ℕ). RefusedIn (module_names ms) (reached asked ms) number c told culprit) (omega (arith, h.2)) h.1))

  read_counted : (r : Reading) → read_texts texts ≡ r → Counted memory_lent asked texts (within output_lent asked (of_read asked r))
  unfolding of_read normalise of_ended unread refusal
  read_counted (all_read ms) q =
      by_cases (λ (e : Ended). Counted memory_lent asked texts (within output_lent asked (of_ended asked e))) _ _ _
      (λ e. ended_counted ms q (in_turn (module_names ms) [] empty (reached asked ms)) (in_turn_counted (module_names ms) [] empty (reached asked ms)))
      (λ e. subst (Counted memory_lent asked texts) (sym (refusal_within asked_absent 0 asked (lone (short_or_blank asked)) 0)) (not_there ms q e refl refl))
  read_counted (refused_in l number at) q =
      subst (Counted memory_lent asked texts) (sym (unread_within l number at)) (not_read l number at q refl refl)

  pub counted : Counted memory_lent asked texts (answer memory_lent output_lent asked texts)
  unfolding answer refusal
  counted =
      by_cases (Counted memory_lent asked texts) _ _ _ (λ e. memory_short e refl refl) (λ e. read_counted (read_texts texts) refl)

-- ---- 1 to 6: evaluating refuses with 7 to 15, 17, 18 and 22 to 27

-- a binding's mistake: 22 to 26, or 27 with one name
abbrev pub BindingMistake : ℕ → Culprit → Type 0
BindingMistake k w = ((formal_absent ≤ k) × (k ≤ other_type)) ⊎ ((k ≡ formal_unpaired) × (w.actual ≡ []))

-- the other numbers of evaluating, told with one name
abbrev pub OtherNumber : ℕ → Type 0
OtherNumber k = ((named_absent ≤ k) × (k ≤ bad_parameter)) ⊎ ((ill_typed ≤ k) × (k ≤ no_room))

abbrev pub OtherRefusal : ℕ → Culprit → Type 0
OtherRefusal k w = OtherNumber k × (w.actual ≡ [])

-- whatever evaluating refuses with
abbrev pub OfEvaluating : ℕ → Culprit → Type 0
OfEvaluating k w = OtherRefusal k w ⊎ BindingMistake k w

-- fine, or refused so
abbrev pub IfRefused : {A : Type 0} → (ℕ → Culprit → Type 0) → Outcome A → Type 0
IfRefused P (fine a) = Unit {0}
IfRefused P (stop k w) = P k w

module _ (P : ℕ → Culprit → Type 0) where
  bound_from : {A B : Type 0} (o : Outcome A) (f : A → Outcome B) → IfRefused P o → ((a : A) → IfRefused P (f a)) → IfRefused P (o >>= f)
  unfolding ◌>>=◌
  bound_from (fine a) f h g = g a
  bound_from (stop k w) f h g = h

  then_from : {A B : Type 0} (o : Outcome A) (m : Outcome B) → IfRefused P o → IfRefused P m → IfRefused P (o >> m)
  unfolding ◌>>◌
  then_from (fine a) m h g = g
  then_from (stop k w) m h g = h

  needs_from : (k : ℕ) (w : Culprit) (b : Bool) → P k w → IfRefused P (needs k w b)
  unfolding needs pick
  needs_from k w true h = tt
  needs_from k w false h = h

  unless_from : (k : ℕ) (o : Option Name) → ((w : Name) → P k (lone w)) → IfRefused P (unless k o)
  unfolding unless
  unless_from k none h = tt
  unless_from k (some w) h = h w

other_from : {A : Type 0} (o : Outcome A) → IfRefused OtherRefusal o → IfRefused OfEvaluating o
other_from (fine a) h = tt
other_from (stop k w) h = inl h

unless_other : (k : ℕ) (o : Option Name) → OtherNumber k → IfRefused OtherRefusal (unless k o)
unless_other k o h = unless_from OtherRefusal k o (λ w. (h, refl))

fits_from : (b : Bool) → IfRefused OtherRefusal (fits b)
unfolding fits
fits_from b = needs_from OtherRefusal _ _ b (inr (lit≤ tt, lit≤ tt), refl)

consistent_from : (v : Visible) (own : List Item) → IfRefused OtherRefusal (consistent v own)
unfolding consistent
consistent_from v own =
    then_from OtherRefusal _ _ (unless_other bad_parameter _ (inl (lit≤ tt, lit≤ tt)))
    (then_from OtherRefusal _ _ (unless_other clashing _ (inl (lit≤ tt, lit≤ tt)))
    (then_from OtherRefusal _ _ (unless_other clashing _ (inl (lit≤ tt, lit≤ tt))) (unless_other overloading _ (inl (lit≤ tt, lit≤ tt)))))

pub checked_from : (n : Normal) → IfRefused OtherRefusal (checked n)
unfolding checked room
checked_from n = then_from OtherRefusal _ _ (consistent_from n.visible []) (then_from OtherRefusal _ _ (fits_from _) tt)

pub rename_from : (rs : List Pair) (n : Normal) → IfRefused OtherRefusal (rename rs n)
unfolding rename
rename_from rs n = then_from OtherRefusal _ _ (unless_other bad_renaming _ (inl (lit≤ tt, lit≤ tt))) (checked_from _)

pair_from : (formal : List Item) (rs : List Pair) (whole actual : Visible) (seen : List Name) (r : Pair)
    → IfRefused OfEvaluating (pair_right formal rs whole actual seen r)
unfolding pair_right
pair_from formal rs whole actual seen r =
    then_from OfEvaluating _ _ (wrong formal_absent _ (lit≤ tt) (lit≤ tt))
    (then_from OfEvaluating _ _ (wrong formal_twice _ (lit≤ tt) (lit≤ tt))
    (then_from OfEvaluating _ _ (wrong actual_absent _ (lit≤ tt) (lit≤ tt))
    (then_from OfEvaluating _ _ (wrong other_kind _ (lit≤ tt) (lit≤ tt)) (wrong other_type _ (lit≤ tt) (lit≤ tt)))))
  where
    wrong : (k : ℕ) (b : Bool) → formal_absent ≤ k → k ≤ other_type → IfRefused OfEvaluating (needs k (record { name = r.old; actual = r.new }) b)
    wrong k b h h' = needs_from OfEvaluating k _ b (inr (inl (h, h')))

pairs_from : (formal : List Item) (rs : List Pair) (whole actual : Visible) (seen : List Name) (xs : List Pair)
    → IfRefused OfEvaluating (pairs_right formal rs whole actual seen xs)
unfolding pairs_right each_beside
pairs_from formal rs whole actual seen [] = tt
pairs_from formal rs whole actual seen (x ∷ xs) =
    then_from OfEvaluating _ _ (pair_from formal rs whole actual seen x) (pairs_from formal rs whole actual (x.old ∷ seen) xs)

bind_from : (p : Name) (rs : List Pair) (n actual : Normal) → IfRefused OfEvaluating (bind p rs n actual)
unfolding bind bound_to
bind_from p rs n actual =
    by_cases (λ (o : Outcome Normal). IfRefused OfEvaluating o) _ _ _
    (λ e.
    then_from OfEvaluating _ _ (pairs_from (formals p n.visible) rs n.visible actual.visible [] rs)
    (then_from OfEvaluating _ _ (unless_from OfEvaluating formal_unpaired _ (λ w. inr (inr (refl, refl)))) (other_from (checked _) (checked_from _))))
    (λ e. inl (inl (lit≤ tt, lit≤ tt), refl))

clause_from : (env : List Evaluated) (c : Clause) (n : Normal) → IfRefused OfEvaluating (clause env c n)
unfolding clause
clause_from env (renamed_by rs) n = other_from (rename rs n) (rename_from rs n)
clause_from env (bound_by p rs m) n = bind_from p rs n (normal_of env m)

clauses_from : (env : List Evaluated) (cs : List Clause) (n : Normal) → IfRefused OfEvaluating (clauses env cs n)
unfolding clauses
clauses_from env [] n = tt
clauses_from env (c ∷ cs) n = bound_from OfEvaluating _ _ (clause_from env c n) (λ k. clauses_from env cs k)

expressions_from : (env : List Evaluated) (is : List Import) → IfRefused OfEvaluating (expressions env is)
unfolding expressions
expressions_from env [] = tt
expressions_from env (i ∷ is) =
    bound_from OfEvaluating _ _ (clauses_from env i.clauses _) (λ n. bound_from OfEvaluating _ _ (expressions_from env is) (λ ns. tt))

pub united_from : (n : Normal) (ks : List Normal) → IfRefused OtherRefusal (united n ks)
unfolding united
united_from n [] = tt
united_from n (k ∷ ks) = bound_from OtherRefusal _ _ (checked_from _) (λ u. united_from u ks)

pub names_right_from : (declared earlier ws : List Name) → IfRefused OtherRefusal (names_right declared earlier ws)
unfolding names_right
names_right_from declared earlier [] = tt
names_right_from declared earlier (w ∷ ws) =
    by_cases (λ (o : Check). IfRefused OtherRefusal o) _ _ _ (λ e. (inl (lit≤ tt, lit≤ tt), refl))
    (λ e. by_cases (λ (o : Check). IfRefused OtherRefusal o) _ _ _ (λ f. (inl (lit≤ tt, lit≤ tt), refl)) (λ f. names_right_from declared earlier ws))

once_in_from : (s : Signature) → IfRefused OtherRefusal (once_in s)
unfolding once_in
once_in_from s = then_from OtherRefusal _ _ (unless_other declared_twice _ (inl (lit≤ tt, lit≤ tt))) (unless_other declared_twice _ (inl (lit≤ tt, lit≤ tt)))

once_in_parameters_from : (seen : List Name) (ps : List Parameter) → IfRefused OtherRefusal (once_in_parameters seen ps)
unfolding once_in_parameters each_beside once_in_parameter
once_in_parameters_from seen [] = tt
once_in_parameters_from seen (p ∷ ps) =
    then_from OtherRefusal _ _
    (then_from OtherRefusal _ _ (needs_from OtherRefusal declared_twice _ _ (inl (lit≤ tt, lit≤ tt), refl)) (once_in_from p.signature))
    (once_in_parameters_from (p.name ∷ seen) ps)

own_checks_from : (m : Module) (seen : List Name) (v : Visible) → IfRefused OtherRefusal (own_checks m seen v)
unfolding own_checks available_sorts
own_checks_from m seen v =
    then_from OtherRefusal _ _ (consistent_from v _) (then_from OtherRefusal _ _ available (unless_other bad_variable _ (inl (lit≤ tt, lit≤ tt))))
  where
    available : IfRefused OtherRefusal (available_sorts m seen)
    available =
        then_from OtherRefusal _ _ (unless_other bad_sort _ (inl (lit≤ tt, lit≤ tt)))
        (then_from OtherRefusal _ _ (unless_other bad_sort _ (inl (lit≤ tt, lit≤ tt)))
        (then_from OtherRefusal _ _ (unless_other bad_sort _ (inl (lit≤ tt, lit≤ tt))) (unless_other bad_sort _ (inl (lit≤ tt, lit≤ tt)))))

made_from : (home at : ℕ) (tag : Name) (c : Option ResolvedSides) (ks : Option (List ResolvedSides))
    → IfRefused OtherRefusal (made_equation home at tag c ks)
unfolding made_equation
made_from home at tag none ks = (inr (lit≤ tt, lit≤ tt), refl)
made_from home at tag (some c) none = (inr (lit≤ tt, lit≤ tt), refl)
made_from home at tag (some c) (some ks) = tt

typed_from : (known : List Item) (home at : ℕ) (es : List Equation) → IfRefused OtherRefusal (typed_equations known home at es)
unfolding typed_equations
typed_from known home at [] = tt
typed_from known home at (r ∷ rs) =
    bound_from OtherRefusal _ _ (made_from home at r.tag _ _)
    (λ x. bound_from OtherRefusal _ _ (typed_from known home (at + 1) rs) (λ xs. tt))

pub joined_own_from : (home : ℕ) (total : Size) (m : Module) (n : Normal) → IfRefused OtherRefusal (joined_own home total m n)
unfolding joined_own own_equations room total_room
joined_own_from home total m n =
    then_from OtherRefusal _ _ (own_checks_from m _ _)
    (bound_from OtherRefusal _ _ (typed_from _ home 0 m.equations)
    (λ es. then_from OtherRefusal _ _ (fits_from _) (then_from OtherRefusal _ _ (fits_from _) tt)))

pub declared_once_from : (m : Module) → IfRefused OtherRefusal (declared_once m)
unfolding declared_once
declared_once_from m =
    then_from OtherRefusal _ _ (once_in_parameters_from [] m.parameters)
    (then_from OtherRefusal _ _ (once_in_from m.exports) (once_in_from m.hidden))

evaluate_from : (declared earlier : List Name) (home : ℕ) (total : Size) (env : List Evaluated) (m : Module)
    → IfRefused OfEvaluating (evaluate declared earlier home total env m)
unfolding evaluate imported
evaluate_from declared earlier home total env m =
    then_from OfEvaluating _ _ (other_from (names_right declared earlier (named_by m)) (names_right_from declared earlier (named_by m)))
    (then_from OfEvaluating _ _ (other_from (declared_once m) (declared_once_from m))
    (bound_from OfEvaluating _ _
    (bound_from OfEvaluating _ _ (expressions_from env m.imports) (λ ns. other_from (united empty ns) (united_from empty ns)))
    (λ n. other_from (joined_own home total m n) (joined_own_from home total m n))))

pub refused_from : (declared earlier : List Name) (home : ℕ) (total : Size) (env : List Evaluated) (m : Module) {k : ℕ} {w : Culprit}
    → evaluate declared earlier home total env m ≡ stop k w → OfEvaluating k w
refused_from declared earlier home total env m e =
    subst (λ (o : Outcome Normal). IfRefused OfEvaluating o) e (evaluate_from declared earlier home total env m)

from_seven : (k : ℕ) (w : Culprit) → OfEvaluating k w → named_absent ≤ k
from_seven k w (inl (inl h, e)) = h.0
from_seven k w (inl (inr h, e)) = omega (arith, h.0)
from_seven k w (inr (inl h)) = omega (arith, h.0)
from_seven k w (inr (inr h)) = omega (arith, h.0)

abbrev FromSix : Ended → Type 0
FromSix (normalised count n) = Unit {0}
FromSix (refused_at number count told culprit) = asked_absent ≤ number

-- what evaluating refuses has a number from 6 up, so 0 is no refusal's
pub refused_from_six : (asked : Name) (ms : List Module) (number count : ℕ) (told : Name) (culprit : Culprit)
    → normalise asked ms ≡ refused_at number count told culprit → asked_absent ≤ number
unfolding normalise
refused_from_six asked ms number count told culprit e =
    subst FromSix e
    (by_cases FromSix _ _ _ (λ b. go (in_turn (module_names ms) [] empty (reached asked ms)) (in_turn_counted (module_names ms) [] empty (reached asked ms)))
    (λ b. omega arith))
  where
    go : (r : Ended) → CountedIn (module_names ms) 0 (reached asked ms) r → FromSix r
    go (normalised c n) h = tt
    go (refused_at k c m w) h =
        omega (arith, from_seven k w (refused_from _ _ _ _ _ h.1.refused.self h.1.outcome))

-- a call that gives 1 to 6 has evaluated nothing
pub none_evaluated : (memory_lent output_lent : ℕ) (asked : Name) (texts : Texts) → let r = answer memory_lent output_lent asked texts in
    no_token_there ≤ r.number → r.number ≤ asked_absent → r.modules ≡ 0
none_evaluated memory_lent output_lent asked texts low high =
    go (answer memory_lent output_lent asked texts) (counted memory_lent output_lent asked texts) low high
  where
    go : (r : Answer) → Counted memory_lent asked texts r → no_token_there ≤ r.number → r.number ≤ asked_absent → r.modules ≡ 0
    go r (memory_short d e h) low high = h
    go r (not_read l number at q e h) low high = h
    go r (not_there ms q d e h) low high = h
    go r (all_evaluated ms q (inl e) h) low high = absurd (omega arith)
    go r (all_evaluated ms q (inr e) h) low high = absurd (omega arith)
    go r (up_to_refused ms q h) low high =
        absurd (omega (arith, from_seven r.number r.culprit (refused_from _ _ _ _ _ h.refused.self h.outcome)))

-- ---- the count by the name that is told: reached modules have distinct names, so one more than stand before the first of that name

abbrev Apart : Placed → Placed → Type 0
Apart x y = same y.self.name x.self.name ≡ false

not_member : (v w : Name) (ws : List Name) → member v (w ∷ ws) ≡ false → (same v w ≡ false) × (member v ws ≡ false)
unfolding member pick
not_member v w ws e = go (same v w) refl e
  where
    go : (b : Bool) → same v w ≡ b → pick b true (member v ws) ≡ false → (same v w ≡ false) × (member v ws ≡ false)
    go true q e = absurd (true≢false e)
    go false q e = (q, e)

-- none is called by a name taken, and no two by one name
record Distinctly (taken : List Name) (xs : List Placed) : Type 0 where
  untaken : Every (λ x. member x.self.name taken ≡ false) xs
  apart : Pairwise Apart xs

reached_distinctly : (asked : Name) (k : ℕ) (earlier taken : List Name) (ms : List Module) → Fresh taken ms
    → Distinctly taken (reached_among asked k earlier ms)
unfolding reached_among
reached_distinctly asked k earlier taken [] h = record { untaken = tt; apart = tt }
reached_distinctly asked k earlier taken (m ∷ ms) h =
    go (reached_distinctly asked (k + 1) (m.name ∷ earlier) (m.name ∷ taken) ms h.1)
  where
    go : Distinctly (m.name ∷ taken) (reached_among asked (k + 1) (m.name ∷ earlier) ms)
        → Distinctly taken (reached_among asked k earlier (m ∷ ms))
    go d =
        let rest = reached_among asked (k + 1) (m.name ∷ earlier) ms in
        let free : Placed → Type 0 = λ x. member x.self.name (m.name ∷ taken) ≡ false in
        let later = every_so free (λ x. member x.self.name taken ≡ false) rest (λ x q. (not_member _ _ taken q).1) d.untaken in
        let other = every_so free (λ x. same x.self.name m.name ≡ false) rest (λ x q. (not_member _ _ taken q).0) d.untaken in
        by_cases (Distinctly taken) _ _ _ (λ e. record { untaken = (h.0, later); apart = (other, d.apart) })
        (λ e. record { untaken = later; apart = d.apart })

before_it : (x : Placed) (us vs : List Placed) → Pairwise Apart (us ++ (x ∷ vs))
    → before (λ (y : Placed). same x.self.name y.self.name) (us ++ (x ∷ vs)) ≡ length us
unfolding before pick
before_it x [] vs h = rw (same_self x.self.name)
before_it x (u ∷ us) vs h = rw (every_middle (Apart u) us vs x h.0) (ap suc (before_it x us vs h.1))

-- where a module is refused, the count is one more than the number of reached modules before the module that is told
pub refused_count : (asked : Name) (texts : Texts) (ms : List Module) (number count : ℕ) (told : Name) (culprit : Culprit)
    → read_texts texts ≡ all_read ms → RefusedIn (module_names ms) (reached asked ms) number count told culprit
    → count ≡ before (λ (x : Placed). same told x.self.name) (reached asked ms) + 1
unfolding reached
refused_count asked texts ms number count told culprit q h =
    let d = reached_distinctly asked 0 [] [] ms (read_fresh texts ms q) in
    let e = before_it h.refused h.accepted_before h.not_evaluated (subst (Pairwise Apart) h.split d.apart) in
    h.counted ∙ (rw (h.split, h.named, e))
