-- The proof of demand 3. How a call ends, room apart: the reached modules in turn over visible parts alone. Without room nothing depends on who
-- is asked, and 18 does not occur; so two calls end alike where each reached module is the same, or accepted in both.
use Rattle.std.specs.Prelude.{◌≡◌, refl, ℕ, ◌+◌, Bool, true, false, List, [], ◌∷◌, length}
use Rattle.std.proofs.Common.{sym, ap, ◌∙◌, inl, inr}
use Rattle.meaning.specs.Lists.{pick}
use Rattle.meaning.specs.Names.{Name, member, same}
use Rattle.meaning.specs.Numbers.{named_absent, named_late}
use Rattle.meaning.specs.Syntax.{Module}
use Rattle.meaning.specs.Normal.{Visible, nothing_visible}
use Rattle.meaning.specs.Checks.{lone, Outcome, fine, stop, Check}
use Rattle.meaning.specs.Evaluate.{named_by, names_right, missing, too_late, joined_visible}
use Rattle.meaning.specs.Reached.{Placed, reached, Ended, normalised, refused_at, module_names, normalise}
use Rattle.meaning.specs.Written.{visible_in_order}
use Rattle.meaning.specs.Texts.{Texts}
use Rattle.meaning.specs.OrderLaws.{Every, same_self, same_equal}
use Rattle.promises.specs.Members.{clear}
use Rattle.promises.specs.Public.{accepted_shows, shown_only}
use Rattle.promises.proofs.Tied.{ended_tied}
use Rattle.promises.specs.TwoCalls.{in_turn_so}
use Rattle.promises.specs.Demand.{SameButHidden, Counterparts, InTurn, RefusedAtMost, InTheCall, Comparable, Demand3}
use Rattle.meaning.specs.OutcomeLaws.{fine_same}
use Rattle.meaning.specs.VisiblyLaws.{Seen, imported_visibly, evaluate_visibly}
use Rattle.promises.specs.Proof.{EndedVisibly, refuses, end_visibly, seen_as, in_turn_visibly, normalise_visibly, as_seen, normalise_reflects, stands_visibly, NotAt, Passed, Close, close_so, NotRefusedAt, not_at, ended_same, answer_ended, agreeing}

names_same : (d e d' e' : List Name) (ws : List Name) → Every (λ w. missing d w ≡ missing d' w) ws → Every (λ w. too_late d e w ≡ too_late d' e' w) ws
    → names_right d e ws ≡ names_right d' e' ws
unfolding names_right
names_same d e d' e' [] m l = refl
names_same d e d' e' (w ∷ ws) m l =
    λ i. pick (m.0 i) (stop named_absent (lone w)) (pick (l.0 i) (stop named_late (lone w)) (names_same d e d' e' ws m.1 l.1 i))

-- modules that differ in what they hide, both accepted, show the same
one_shown : (names names' : Check) (env : List Seen) (m m' : Module) → SameButHidden m m' → (v v' : Visible)
    → evaluate_visibly names env m ≡ fine v → evaluate_visibly names' env m' ≡ fine v' → v ≡ v'
one_shown names names' env m m' alike v v' q q' =
    let b = accepted_shows names env m v q in
    let b' = accepted_shows names' env m' v' q' in
    let p : b.imported ≡ b'.imported = fine_same _ _ (sym b.from_imports ∙ (λ i. imported_visibly env (alike.imports i)) ∙ b'.from_imports) in
    let shown : shown_only m ≡ shown_only m' = λ i. record {
      name = alike.name i;
      parameters = alike.parameters i;
      exports = alike.exports i;
      imports = alike.imports i;
      hidden = record { sorts = []; functions = [] };
      groups = [];
      equations = [];
    } in
    b.whole ∙ (λ i. visible_in_order (joined_visible (shown i) (p i))) ∙ sym b'.whole

not_stopped : (t : EndedVisibly) (c : ℕ) (u : Name) (more : Visible → EndedVisibly) (o : Outcome Visible) → end_visibly c u more o ≡ t → NotAt t u
    → (v : Visible) × (o ≡ fine v)
unfolding end_visibly
not_stopped t c u more (fine v) q h = (v, refl)
not_stopped t c u more (stop n w) q h = absurd (h n c w (sym q))

-- the same outcome in both, and where it is fine the rest ends alike: the calls end alike
one_turn : (t r : EndedVisibly) (o o' : Outcome Visible) (c : ℕ) (u u' : Name) (more more' : Visible → EndedVisibly) → u ≡ u' → o ≡ o'
    → ((v : Visible) → more v ≡ t → more' v ≡ r → t ≡ r) → end_visibly c u more o ≡ t → end_visibly c u' more' o' ≡ r → t ≡ r
unfolding end_visibly
one_turn t r (fine v) o' c u u' more more' p e later q q' = later v q (ap (end_visibly c u' more') e ∙ q')
one_turn t r (stop k w) o' c u u' more more' p e later q q' = sym q ∙ ap (λ (x : Name). refuses k c x w) p ∙ ap (end_visibly c u' more') e ∙ q'

all_turns : (asked : Name) (ms ms' : List Module) (t r : EndedVisibly) (xs xs' : List Placed) (env : List Seen) (last : Visible)
    → InTurn (Counterparts asked ms ms') xs xs' → InTurn (Passed t r) xs xs'
    → in_turn_visibly (module_names ms) env last xs ≡ t → in_turn_visibly (module_names ms') env last xs' ≡ r → t ≡ r
unfolding in_turn_visibly
all_turns asked ms ms' t r [] [] env last c s q q' = sym q ∙ q'
all_turns asked ms ms' t r [] (x' ∷ xs') env last c s q q' = absurd c
all_turns asked ms ms' t r (x ∷ xs) [] env last c s q q' = absurd c
all_turns asked ms ms' t r (x ∷ xs) (x' ∷ xs') env last c s q q' =
    one_turn t r one other (length env + 1) _ _ _ _ alike.name (same_outcome s.0)
    (λ v g g'. all_turns asked ms ms' t r xs xs' (seen_as x.self v ∷ env) v c.1 s.1 g
    ((λ i. in_turn_visibly (module_names ms') (record { name = alike.name i; visible = v } ∷ env) v xs') ∙ g'))
    q q'
  where
    one : Outcome Visible
    one = evaluate_visibly (names_right (module_names ms) x.earlier (named_by x.self)) env x.self

    other : Outcome Visible
    other = evaluate_visibly (names_right (module_names ms') x'.earlier (named_by x'.self)) env x'.self

    alike : SameButHidden x.self x'.self
    alike = c.0.alike

    names : names_right (module_names ms) x.earlier (named_by x.self) ≡ names_right (module_names ms') x'.earlier (named_by x.self)
    names = names_same _ _ _ _ (named_by x.self) c.0.both_missing c.0.both_late

    same_outcome : Passed t r x x' → one ≡ other
    same_outcome (inl p) =
        (λ i. evaluate_visibly (names i) env x.self) ∙ (λ i. evaluate_visibly (names_right (module_names ms') x'.earlier (named_by (p i))) env (p i))
    same_outcome (inr n) =
        let y = not_stopped t _ _ _ _ q n.0 in
        let z = not_stopped r _ _ _ _ q' n.1 in
        y.1 ∙ ap fine (one_shown _ _ env x.self x'.self alike y.0 z.0 y.1 z.1) ∙ sym z.1

-- the two calls end alike, room apart
pub both_alike : (asked : Name) (ms ms' : List Module) → member asked (module_names ms) ≡ true → member asked (module_names ms') ≡ true
    → InTurn (Counterparts asked ms ms') (reached asked ms) (reached asked ms')
    → InTurn (Passed (normalise_visibly asked ms) (normalise_visibly asked ms')) (reached asked ms) (reached asked ms')
    → normalise_visibly asked ms ≡ normalise_visibly asked ms'
both_alike asked ms ms' e e' c s =
    all_turns asked ms ms' _ _ (reached asked ms) (reached asked ms') [] nothing_visible c s
    (sym (stands_visibly asked ms e)) (sym (stands_visibly asked ms' e'))

at_most : (asked y : Name) (e : Ended) → RefusedAtMost asked e → same y asked ≡ false → NotRefusedAt y e
at_most asked y (normalised c n) a f = tt
at_most asked y (refused_at i l m v) a f = λ p. clear (sym (sym f ∙ ap (λ (x : Name). same x asked) (sym p ∙ a) ∙ same_self asked))

pub normalise_close : (asked : Name) (texts texts' : Texts) (ms ms' : List Module) → Comparable InTheCall asked texts texts' ms ms'
    → Close (normalise asked ms) (normalise asked ms')
normalise_close asked texts texts' ms ms' c =
    close_so (normalise asked ms) (normalise asked ms') _ _ (normalise_reflects asked ms) (normalise_reflects asked ms')
    (λ h h'. both_alike asked ms ms' c.stands c.stands' c.same_order
    (in_turn_so _ _ (passed h h') (reached asked ms) (reached asked ms') c.same_order))
  where
    passed : normalise_visibly asked ms ≡ as_seen (normalise asked ms) → normalise_visibly asked ms' ≡ as_seen (normalise asked ms')
        → (x x' : Placed) → Counterparts asked ms ms' x x' → Passed (normalise_visibly asked ms) (normalise_visibly asked ms') x x'
    passed h h' x x' k = go (same x.self.name asked) refl
      where
        go : (b : Bool) → same x.self.name asked ≡ b → Passed (normalise_visibly asked ms) (normalise_visibly asked ms') x x'
        go true q = inl (k.asked_same (same_equal x.self.name asked q))
        go false q = inr (
          not_at x.self.name (normalise asked ms) _ (at_most asked x.self.name (normalise asked ms) c.accepted q) h,
          not_at x'.self.name (normalise asked ms') _ (at_most asked x'.self.name (normalise asked ms') c.accepted'
              (ap (λ (w : Name). same w asked) (sym k.alike.name) ∙ q)) h',
        )

pub demand_3 : Demand3 InTheCall
demand_3 asked texts texts' ms ms' c memory memory' output output' =
    agreeing _ _ _ _ (answer_ended memory output asked texts ms c.read_as) (answer_ended memory' output' asked texts' ms' c.read_as')
    (ended_same asked (normalise asked ms) (normalise asked ms')
    (ended_tied asked texts ms c.read_as.reads) (ended_tied asked texts' ms' c.read_as'.reads) (normalise_close asked texts texts' ms ms' c))
