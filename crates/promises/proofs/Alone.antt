-- Demand 3 where "accepted" is read of a module asked by itself: a module that is accepted in one call of a specification is so in another, room
-- apart; so if each other reached module is answered 0 when it is asked, a refusal of the asked module's call is its own, or 18.
use Rattle.std.specs.Prelude.{◌≡◌, ◌⊎◌, true, ℕ, ◌+◌}
use Rattle.std.proofs.Math.Path.{sym}
use Rattle.std.proofs.Common.{◌∙◌, subst, ⊎_elim, inl, inr}
use mathlib.Core.List.{List, [], ◌∷◌}
use Rattle.meaning.specs.Names.{Name, member}
use Rattle.meaning.specs.Syntax.{Module}
use Rattle.meaning.specs.Normal.{Visible, nothing_visible}
use Rattle.meaning.specs.Reached.{wanted, Placed, reached_among, reached, Ended, module_names, normalise, normalised, refused_at}
use Rattle.meaning.specs.Laws.{by_cases}
use Rattle.laws.specs.Distinct.{Fresh, read_fresh}
use Rattle.meaning.specs.OrderLaws.{Every}
use Rattle.promises.specs.Members.{clear, ReachedIn}
use Rattle.promises.specs.Demand.{RefusedAtMost, InTheCall, IsNormalised, ByItself, Comparable, Demand3}
use Rattle.promises.specs.Proof.{eighteen_told, answer_ended, normalise_visibly, Eighteen, as_seen, Reflects, normalise_reflects, Showing, stands_visibly}
use Rattle.promises.proofs.Demanded.{demand_3}
use Rattle.promises.specs.Alone.{refused_reached, not_refused}

pub normalised_shows : (asked : Name) (ms : List Module) → IsNormalised (normalise asked ms) → (v : Visible) × Showing asked ms v
unfolding as_seen
normalised_shows asked ms h = go (normalise asked ms) h (normalise_reflects asked ms)
  where
    go : (e : Ended) → IsNormalised e → Reflects e (normalise_visibly asked ms) → (v : Visible) × Showing asked ms v
    go (normalised c n) h (inl r) = absurd r
    go (normalised c n) h (inr r) = (n.visible, (c, r))
    go (refused_at k c m w) h r = absurd h

-- what holds of each reached module holds of the one that is called so
of_reached : (P : Placed → Type 0) (asked y : Name) (ms : List Module) (k : ℕ) (e : List Name) → ReachedIn y asked ms
    → Every P (reached_among asked k e ms) → (x : Placed) × (x.self.name ≡ y) × P x
unfolding reached_among
of_reached P asked y [] k e h = absurd h
of_reached P asked y (m ∷ ms) k e (inl h) =
    by_cases (λ (xs : List Placed). Every P xs → (x : Placed) × (x.self.name ≡ y) × P x) (member m.name (wanted asked ms)) _ _
    (λ b f. (record { self = m; number = k; earlier = e }, h.1, f.0)) (λ b f. clear (sym h.0 ∙ b))
of_reached P asked y (m ∷ ms) k e (inr h) =
    let later = of_reached P asked y ms (k + 1) (m.name ∷ e) h in
    by_cases (λ (xs : List Placed). Every P xs → (x : Placed) × (x.self.name ≡ y) × P x) (member m.name (wanted asked ms)) _ _
    (λ b f. later f.1) (λ b f. later f)

pub alone_accepted : (asked : Name) (ms : List Module) → Fresh [] ms → member asked (module_names ms) ≡ true → ByItself asked ms
    → Eighteen (normalise asked ms) ⊎ InTheCall asked ms
unfolding reached as_seen
alone_accepted asked ms fresh stands alone = go (normalise asked ms) (normalise_reflects asked ms)
  where
    go : (e : Ended) → Reflects e (normalise_visibly asked ms) → Eighteen e ⊎ RefusedAtMost asked e
    go (normalised c n) r = inr tt
    go (refused_at n c y w) (inl r) = inl r
    go (refused_at n c y w) (inr r) =
        let x = of_reached (λ x. (x.self.name ≡ asked) ⊎ IsNormalised (normalise x.self.name ms)) asked y ms 0 []
        (refused_reached (module_names ms) asked ms 0 [] [] nothing_visible n c y w (sym (stands_visibly asked ms stands) ∙ r)) alone in
        ⊎_elim (λ p. inr (sym x.1 ∙ p)) (λ k. let s = normalised_shows y ms (subst (λ (v : Name). IsNormalised (normalise v ms)) x.1 k) in
        absurd (not_refused asked y ms fresh stands s.0 s.1 n c w r)) x.2

pub demand_3_alone : Demand3 ByItself
demand_3_alone asked texts texts' ms ms' c memory memory' output output' =
    ⊎_elim (λ z. inl (eighteen_told asked _ _ z (answer_ended memory output asked texts ms c.read_as))) (λ a. ⊎_elim
    (λ z. inr (inl (eighteen_told asked _ _ z (answer_ended memory' output' asked texts' ms' c.read_as'))))
    (λ a'. demand_3 asked texts texts' ms ms' (in_the_call a a') memory memory' output output')
    (alone_accepted asked ms' (read_fresh texts' ms' c.read_as'.reads) c.stands' c.accepted'))
    (alone_accepted asked ms (read_fresh texts ms c.read_as.reads) c.stands c.accepted)
  where
    in_the_call : InTheCall asked ms → InTheCall asked ms' → Comparable InTheCall asked texts texts' ms ms'
    in_the_call a a' = record {
      read_as = c.read_as;
      read_as' = c.read_as';
      stands = c.stands;
      stands' = c.stands';
      same_order = c.same_order;
      accepted = a;
      accepted' = a';
    }
