-- The modules reached in the one text, standing alike and in the same order in the other, are all that the other reaches: the proof for `Enough`.
use Rattle.std.specs.Prelude.{◌≡◌, ℕ, ◌+◌, Bool, ◌&&◌}
use Rattle.std.proofs.Math.Path.{refl, sym, ap, ap₂}
use Rattle.std.proofs.Common.{subst, ◌∙◌, inl, inr}
use Rattle.std.proofs.Math.Logic.{⊎_elim}
use Rattle.std.proofs.Math.Bool.{true, false, not}
use mathlib.Core.List.{List, [], ◌∷◌, ◌++◌, map, append_assoc}
use Rattle.meaning.specs.Lists.{each}
use Rattle.meaning.specs.Names.{Name, member}
use Rattle.meaning.specs.Syntax.{Module}
use Rattle.meaning.specs.Evaluate.{named_by, missing, too_late}
use Rattle.meaning.specs.Reached.{wanted, Placed, reached_among, reached, module_names}
use Rattle.meaning.specs.Laws.{by_cases}
use Rattle.laws.specs.Distinct.{Fresh, read_fresh}
use Rattle.meaning.specs.OrderLaws.{Every}
use Rattle.promises.specs.Members.{clear, member_here, member_left, member_right, member_more, Inside, inside_cons, refuted, member_either, member_split, no_name, here, wanted_here, wanted_asked, reached_here, reached_later, Closed, closed_more, closed_skip}
use Rattle.promises.specs.Demand.{InTurn, Counterparts, Acceptance, placed_among, all_placed, InOrderIn, IsEnough}
use Rattle.promises.specs.Proof.{same_named}
use Rattle.promises.specs.TwoCalls.{pick_both}

-- ---- what a list of reached modules wants

abbrev names_of : List Placed → List Name
names_of xs = map (λ (x : Placed). x.self.name) xs

abbrev used_by : List Placed → List Name
used_by xs = each (λ (x : Placed). named_by x.self) xs

abbrev wants_of : Name → List Placed → List Name
wants_of a xs = used_by xs ++ (a ∷ [])

-- each is wanted by those that follow
abbrev Chained : Name → List Placed → Type 0
Chained a [] = Unit {0}
Chained a (x ∷ xs) = (member x.self.name (wants_of a xs) ≡ true) × Chained a xs

module _ (a : Name) where
  wanted_wants : (k : ℕ) (e : List Name) (ms : List Module) → wanted a ms ≡ wants_of a (reached_among a k e ms)
  unfolding wanted reached_among each
  wanted_wants k e [] = refl
  wanted_wants k e (m ∷ ms) =
      let h = wanted_wants (k + 1) (m.name ∷ e) ms in
      pick_both (λ (ws : List Name) (xs : List Placed). ws ≡ wants_of a xs) (member m.name (wanted a ms)) _ _ _ _
      (ap (λ (r : List Name). named_by m ++ r) h ∙ sym (append_assoc (named_by m) (used_by (reached_among a (k + 1) (m.name ∷ e) ms)) (a ∷ []))) h

  chained : (k : ℕ) (e : List Name) (ms : List Module) → Chained a (reached_among a k e ms)
  unfolding reached_among
  chained k e [] = tt
  chained k e (m ∷ ms) =
      let h = chained (k + 1) (m.name ∷ e) ms in
      by_cases (Chained a) (member m.name (wanted a ms)) _ _ (λ b. (sym (ap (member m.name) (wanted_wants (k + 1) (m.name ∷ e) ms)) ∙ b, h)) (λ b. h)

  asked_reached : (k : ℕ) (e : List Name) (ms : List Module) → member a (module_names ms) ≡ true → member a (names_of (reached_among a k e ms)) ≡ true
  unfolding module_names reached_among
  asked_reached k e [] h = h
  asked_reached k e (m ∷ ms) h =
      let later = asked_reached (k + 1) (m.name ∷ e) ms in
      by_cases (λ (xs : List Placed). member a (names_of xs) ≡ true) (member m.name (wanted a ms)) _ _ (λ b. member_more a (m.name ∷ []) _ _ later h)
      (λ b. ⊎_elim (λ p. clear (sym (wanted_asked a ms) ∙ ap (λ (w : Name). member w (wanted a ms)) p ∙ b)) later (member_either a m.name _ h))

  -- what a reached module names, and is declared before it, is reached: `all` are the names of all that are reached
  abbrev Reaches : List Name → Placed → Type 0
  Reaches all x = (w : Name) → member w (named_by x.self) ≡ true → member w x.earlier ≡ true → member w all ≡ true

  reaches : (all known : List Name) (k : ℕ) (e : List Name) (ms : List Module) → Closed a ms e known → Inside known all
      → Inside (names_of (reached_among a k e ms)) all → Every (Reaches all) (reached_among a k e ms)
  unfolding reached_among
  reaches all known k e [] c i = λ j. tt
  reaches all known k e (m ∷ ms) c i =
      by_cases (λ (xs : List Placed). Inside (names_of xs) all → Every (Reaches all) xs) (member m.name (wanted a ms)) _ _ (λ b j. (
        (λ w h q. i w (c w (ap (member w) (wanted_here a m ms b) ∙ member_left w (named_by m) _ h) q)),
        reaches all (m.name ∷ known) (k + 1) (m.name ∷ e) ms (closed_more a m ms e known c)
            (inside_cons m.name known all (j m.name (member_here m.name _)) i) (λ w h. j w (member_right w (m.name ∷ []) _ h)),
      )) (λ b j. reaches all known (k + 1) (m.name ∷ e) ms (closed_skip a m ms e known b c) i j)

-- ---- a correspondence of reached modules with modules of the other specification

module _ (asked : Name) (ms ms' : List Module) where
  abbrev Alike : Placed → Placed → Type 0
  Alike = Counterparts asked ms ms'

  same_wants : (xs ys : List Placed) → InTurn Alike xs ys → wants_of asked xs ≡ wants_of asked ys
  unfolding each
  same_wants [] [] h = refl
  same_wants [] (y ∷ ys) h = absurd h
  same_wants (x ∷ xs) [] h = absurd h
  same_wants (x ∷ xs) (y ∷ ys) h =
      append_assoc (named_by x.self) (used_by xs) (asked ∷ [])
      ∙ ap₂ (λ (u v : List Name). u ++ v) (same_named x.self y.self h.0.alike.imports) (same_wants xs ys h.1)
      ∙ sym (append_assoc (named_by y.self) (used_by ys) (asked ∷ []))

  -- every counterpart's name stands there
  names_stand : (xs : List Placed) (k : ℕ) (e : List Name) (rest : List Module) → InOrderIn Alike xs (placed_among k e rest)
      → Inside (names_of xs) (module_names rest)
  unfolding placed_among module_names
  names_stand [] k e rest h w q = no_name w q
  names_stand (x ∷ xs) k e [] h w q = absurd h
  names_stand (x ∷ xs) k e (m ∷ rest) (inl h) w q =
      ⊎_elim (λ p. ap (λ (v : Name). member v (m.name ∷ module_names rest)) (p ∙ h.0.alike.name) ∙ member_here m.name _)
      (λ g. member_right w (m.name ∷ []) _ (names_stand xs (k + 1) (m.name ∷ e) rest h.1 w g)) (member_either w x.self.name _ q)
  names_stand (x ∷ xs) k e (m ∷ rest) (inr h) w q = member_right w (m.name ∷ []) _ (names_stand (x ∷ xs) (k + 1) (m.name ∷ e) rest h w q)

  -- in the one as in the other, a name is missing, late, or earlier
  earlier_too : (w : Name) (d d' e e' : List Name) → missing d w ≡ missing d' w → too_late d e w ≡ too_late d' e' w
      → member w d' ≡ true → member w e' ≡ true → member w e ≡ true
  unfolding missing too_late
  earlier_too w d d' e e' p q h h' = go (member w d) (member w e) refl refl
    where
      go : (b c : Bool) → member w d ≡ b → member w e ≡ c → c ≡ true
      go true true b c = refl
      go false true b c = refl
      go true false b c = clear (sym (ap₂ (λ (x y : Bool). x && not y) b c) ∙ q ∙ ap₂ (λ (x y : Bool). x && not y) h h')
      go false false b c = clear (sym (ap not b) ∙ p ∙ ap not h)

  each_holds : (P : Name → Type 0) (ws : List Name) → Every P ws → (w : Name) → member w ws ≡ true → P w
  each_holds P [] f w q = no_name w q
  each_holds P (v ∷ ws) f w q = ⊎_elim (λ p. subst P (sym p) f.0) (each_holds P ws f.1 w) (member_either w v ws q)

  -- a name that the counterparts use, and that is earlier there, is one of those reached
  used_reached : (all : List Name) (w : Name) → member w (module_names ms') ≡ true
      → (xs : List Placed) (k : ℕ) (e : List Name) (rest : List Module) → Every (Reaches asked all) xs
      → InOrderIn Alike xs (placed_among k e rest) → member w e ≡ true → member w (used_by xs) ≡ true → member w all ≡ true
  unfolding placed_among each
  used_reached all w d [] k e rest f h q u = no_name w u
  used_reached all w d (x ∷ xs) k e [] f h q u = absurd h
  used_reached all w d (x ∷ xs) k e (m ∷ rest) f (inl h) q u =
      ⊎_elim (λ b. f.0 w b (earlier_too w _ _ _ _ (each_holds _ (named_by x.self) h.0.both_missing w b)
      (each_holds _ (named_by x.self) h.0.both_late w b) d q))
      (used_reached all w d xs (k + 1) (m.name ∷ e) rest f.1 h.1 (member_right w (m.name ∷ []) e q))
      (member_split w (named_by x.self) (used_by xs) u)
  used_reached all w d (x ∷ xs) k e (m ∷ rest) f (inr h) q u =
      used_reached all w d (x ∷ xs) (k + 1) (m.name ∷ e) rest f h (member_right w (m.name ∷ []) e q) u

  -- modules that follow have none of the names taken
  not_later : (v : Name) (e : List Name) (rest : List Module) → Fresh e rest → member v e ≡ true → member v (module_names rest) ≡ false
  unfolding module_names
  not_later v e [] f h = refuted _ (λ q. no_name v q)
  not_later v e (m ∷ rest) f h =
      refuted _ (λ q.
      ⊎_elim (λ p. sym h ∙ ap (λ (w : Name). member w e) p ∙ f.0)
      (λ g. sym g ∙ not_later v (m.name ∷ e) rest f.1 (member_right v (m.name ∷ []) e h)) (member_either v m.name _ q))

  module _ (all : List Name) (asked_there : member asked all ≡ true) where
    -- a module that is no counterpart is not wanted
    not_wanted : (xs : List Placed) (m : Module) (k : ℕ) (e : List Name) (rest : List Module) → member m.name (module_names ms') ≡ true
        → Fresh e (m ∷ rest) → Every (Reaches asked all) xs → Inside all (names_of xs ++ e)
        → InOrderIn Alike xs (placed_among k (m.name ∷ e) rest) → member m.name (wants_of asked xs) ≡ false
    not_wanted xs m k e rest d f r i h =
        refuted _ (λ b.
        ⊎_elim (λ q. of_reached (used_reached all m.name d xs k (m.name ∷ e) rest r h (member_here m.name e) q))
        (λ q. ⊎_elim (λ p. of_reached (ap (λ (w : Name). member w all) p ∙ asked_there)) (λ n. no_name m.name n) (member_either m.name asked [] q))
        (member_split m.name (used_by xs) (asked ∷ []) b))
      where
        of_reached : member m.name all ≡ true → ◌≡◌ {A = Bool} true false
        of_reached q =
            ⊎_elim (λ g. sym (names_stand xs k (m.name ∷ e) rest h m.name g) ∙ not_later m.name (m.name ∷ e) rest f.1 (member_here m.name e))
            (λ g. sym g ∙ f.0) (member_split m.name (names_of xs) e (i m.name q))

    moved : (x : Name) (v : Name) (xs : List Placed) (e : List Name) → x ≡ v → Inside all ((x ∷ names_of xs) ++ e) → Inside all (names_of xs ++ (v ∷ e))
    moved x v xs e p i w q =
        ⊎_elim (λ b. member_right w (names_of xs) (v ∷ e) (ap (λ (u : Name). member u (v ∷ e)) (b ∙ p) ∙ member_here v e))
        (member_more w (names_of xs) e (v ∷ e) (member_right w (v ∷ []) e)) (member_either w x _ (i w q))

    skipped : (xs : List Placed) (m : Module) (k : ℕ) (e : List Name) (rest : List Module) → member m.name (module_names ms') ≡ true
        → Fresh e (m ∷ rest) → Every (Reaches asked all) xs → Inside all (names_of xs ++ e)
        → InOrderIn Alike xs (placed_among (k + 1) (m.name ∷ e) rest) → InTurn Alike xs (reached_among asked (k + 1) (m.name ∷ e) rest)
        → InTurn Alike xs (reached_among asked k e (m ∷ rest))
    skipped xs m k e rest d f r i h later =
        let p : wanted asked rest ≡ wants_of asked xs = wanted_wants asked (k + 1) (m.name ∷ e) rest ∙ sym (same_wants xs _ later) in
        let b = ap (member m.name) p ∙ not_wanted xs m (k + 1) e rest d f r i h in
        subst (InTurn Alike xs) (sym (reached_later asked m rest k e b)) later

    matched : (x : Placed) (xs : List Placed) (m : Module) (k : ℕ) (e : List Name) (rest : List Module) → Alike x (here asked m rest k e)
        → member x.self.name (wants_of asked xs) ≡ true → InTurn Alike xs (reached_among asked (k + 1) (m.name ∷ e) rest)
        → InTurn Alike (x ∷ xs) (reached_among asked k e (m ∷ rest))
    matched x xs m k e rest h c later =
        let p : wanted asked rest ≡ wants_of asked xs = wanted_wants asked (k + 1) (m.name ∷ e) rest ∙ sym (same_wants xs _ later) in
        let b = ap (member m.name) p ∙ ap (λ (w : Name). member w (wants_of asked xs)) (sym h.alike.name) ∙ c in
        subst (InTurn Alike (x ∷ xs)) (sym (reached_here asked m rest k e b)) (h, later)

    still_all : (xs : List Placed) (v : Name) (e : List Name) → Inside all (names_of xs ++ e) → Inside all (names_of xs ++ (v ∷ e))
    still_all xs v e i w q = member_more w (names_of xs) e (v ∷ e) (member_right w (v ∷ []) e) (i w q)

    -- so the counterparts are what is reached
    only_those : (xs : List Placed) (k : ℕ) (e : List Name) (rest : List Module) → Inside (module_names rest) (module_names ms') → Fresh e rest
        → Chained asked xs → Every (Reaches asked all) xs → Inside all (names_of xs ++ e) → InOrderIn Alike xs (placed_among k e rest)
        → InTurn Alike xs (reached_among asked k e rest)
    unfolding placed_among reached_among module_names
    only_those [] k e [] d f c r i h = tt
    only_those (x ∷ xs) k e [] d f c r i h = absurd h
    only_those [] k e (m ∷ rest) d f c r i h =
        skipped [] m k e rest (d m.name (member_here m.name _)) f r i h
        (only_those [] (k + 1) (m.name ∷ e) rest (λ w q. d w (member_right w (m.name ∷ []) _ q)) f.1 c r (still_all [] m.name e i) tt)
    only_those (x ∷ xs) k e (m ∷ rest) d f c r i (inl h) =
        matched x xs m k e rest h.0 c.0 (only_those xs (k + 1) (m.name ∷ e) rest (λ w q. d w (member_right w (m.name ∷ []) _ q)) f.1 c.1 r.1
        (moved x.self.name m.name xs e h.0.alike.name i) h.1)
    only_those (x ∷ xs) k e (m ∷ rest) d f c r i (inr h) =
        skipped (x ∷ xs) m k e rest (d m.name (member_here m.name _)) f r i h
        (only_those (x ∷ xs) (k + 1) (m.name ∷ e) rest (λ w q. d w (member_right w (m.name ∷ []) _ q)) f.1 c r (still_all (x ∷ xs) m.name e i) h)

-- ---- so it is enough, whichever way "accepted" is read

pub reaches_no_more : (asked : Name) (ms ms' : List Module) → Fresh [] ms' → member asked (module_names ms) ≡ true
    → InOrderIn (Counterparts asked ms ms') (reached asked ms) (all_placed ms') → InTurn (Counterparts asked ms ms') (reached asked ms) (reached asked ms')
unfolding reached all_placed
reaches_no_more asked ms ms' fresh stands h =
    let all = names_of (reached_among asked 0 [] ms) in
    only_those asked ms ms' all (asked_reached asked 0 [] ms stands) (reached_among asked 0 [] ms) 0 [] ms' (λ w q. q) fresh (chained asked 0 [] ms)
    (reaches asked all [] 0 [] ms (λ w q g. no_name w g) (λ w q. no_name w q) (λ w q. q)) (λ w q. member_left w all [] q) h

pub is_enough : (OthersAccepted : Acceptance) → IsEnough OthersAccepted
unfolding reached all_placed
is_enough OthersAccepted asked texts texts' ms ms' c = record {
  read_as = c.read_as;
  read_as' = c.read_as';
  stands = c.stands;
  stands' = names_stand asked ms ms' (reached asked ms) 0 [] ms' c.same_order asked (asked_reached asked 0 [] ms c.stands);
  same_order = reaches_no_more asked ms ms' (read_fresh texts' ms' c.read_as'.reads) c.stands c.same_order;
  accepted = c.accepted;
  accepted' = c.accepted';
}
