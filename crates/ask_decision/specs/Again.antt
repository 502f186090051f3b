-- Demand 3 with fewer answers known: what a call's answer says of what the module shows, room apart, and the other way round; and that of the
-- modules that the asked one reaches, only those that changed have to be asked again.
use Rattle.std.specs.Prelude.{◌≡◌, refl, ◌⊎◌, ℕ, false, true, List, ◌∷◌, []}
use Rattle.std.proofs.Common.{sym, ap, subst, ◌∙◌, inl, inr, arith}
use Rattle.meaning.specs.Names.{Name, member}
use Rattle.meaning.specs.Numbers.{accepted}
use Rattle.meaning.specs.Syntax.{Module}
use Rattle.meaning.specs.Normal.{Visible}
use Rattle.meaning.specs.Texts.{Texts}
use Rattle.meaning.specs.Reached.{Ended, normalised, refused_at, normalise, Placed, reached, module_names}
use Rattle.meaning.specs.Listing.{line, lines_text, visible_lines, shown}
use Rattle.meaning.specs.Answer.{Answer, refusal, of_ended, answer}
use Rattle.laws.specs.Distinct.{Fresh, read_fresh}
use Rattle.promises.specs.Lines.{listing_shown}
use Rattle.promises.proofs.Tied.{ended_tied}
use Rattle.promises.specs.Demand.{ReadAs, ShortOfRoom, IsNormalised, InTurn, Counterparts, Agreeing, Enough}
use Rattle.promises.specs.Proof.{Tied, short_of_room, Short, answer_ended, has_room, NotAt, Passed, NotRefusedAt, not_at, close_so, ended_same, agreeing, EndedVisibly, shows, normalise_visibly, as_seen, Reflects, normalise_reflects, Showing, no_refusal}
use Rattle.promises.proofs.Demanded.{both_alike}
use Rattle.promises.specs.Alone.{not_refused}
use Rattle.promises.proofs.Alone.{normalised_shows}
use Rattle.promises.specs.Stored.{UpToDate}
use Rattle.promises.specs.Counts.{refused_from_six}
use Rattle.promises.specs.TwoCalls.{in_turn_so, both_in_turn}
use Rattle.promises.proofs.Reaches.{is_enough}

-- the visible lines as bytes
unfoldable pub shown_text : Name → Visible → List ℕ
shown_text asked v = lines_text (shown false (line "module" asked ∷ visible_lines v))

-- what a module shows, the call gives, unless it is short of room
ended_shows : (asked : Name) (v : Visible) (e : Ended) (t : EndedVisibly) → Tied (of_ended asked e) → Reflects e t → (c : ℕ) → t ≡ shows c v
    → ShortOfRoom (of_ended asked e) ⊎ UpToDate (shown_text asked v) (of_ended asked e)
unfolding of_ended shown_text as_seen
ended_shows asked v e t tied (inl h) c q = inl (short_of_room asked e h)
ended_shows asked v (normalised c' n) t tied (inr h) c q =
    let p : n.visible ≡ v = same_shown (sym h ∙ q) in
    inr (record {
      is_accepted = refl;
      shows = tied ∙ ap lines_text (listing_shown asked n ∙ (λ i. shown false (line "module" asked ∷ visible_lines (p i))));
    })
  where
    same_shown : EndedVisibly.shows c' n.visible ≡ EndedVisibly.shows c v → n.visible ≡ v
    same_shown e = cc
ended_shows asked v (refused_at k c' m w) t tied (inr h) c q = no_refusal c k c' v m w (sym q ∙ h)

module _ (asked : Name) (texts : Texts) (ms : List Module) (r : ReadAs texts ms) (memory output : ℕ) where
  abbrev told : Answer
  told = answer memory output asked texts

  shows_told : (v : Visible) → Showing asked ms v → ShortOfRoom told ⊎ UpToDate (shown_text asked v) told
  shows_told v h =
      go told (of_ended asked (normalise asked ms)) (answer_ended memory output asked texts ms r)
      (ended_shows asked v (normalise asked ms) (normalise_visibly asked ms) (ended_tied asked texts ms r.reads)
      (normalise_reflects asked ms) h.0 h.1)
    where
      go : (a e : Answer) → Short a e → ShortOfRoom e ⊎ UpToDate (shown_text asked v) e → ShortOfRoom a ⊎ UpToDate (shown_text asked v) a
      go a e (inl p) k = inl (inr p)
      go a e (inr p) k = subst (λ x. ShortOfRoom x ⊎ UpToDate (shown_text asked v) x) (sym p) k

  -- a call that is accepted says that the module shows something
  pub told_shows : told.number ≡ accepted → (v : Visible) × Showing asked ms v
  unfolding of_ended refusal
  told_shows e =
      normalised_shows asked ms
      (of_short told (of_ended asked (normalise asked ms)) (answer_ended memory output asked texts ms r) e (of_end (normalise asked ms) refl))
    where
      of_end : (x : Ended) → normalise asked ms ≡ x → (of_ended asked x).number ≡ accepted → IsNormalised x
      of_end (normalised c n) q z = tt
      of_end (refused_at k c m w) q z = omega (arith, refused_from_six asked ms k c m w q, z)

      of_short : (a x : Answer) → Short a x → a.number ≡ accepted → (x.number ≡ accepted → IsNormalised (normalise asked ms))
          → IsNormalised (normalise asked ms)
      of_short a x (inl p) z k = absurd (omega (arith, p, z))
      of_short a x (inr p) z k = k (ap (λ (y : Answer). y.number) (sym p) ∙ z)

  -- and a visible part that is up to date is what it shows
  pub stored_shows : (stored : List ℕ) → UpToDate stored told → (v : Visible) × Showing asked ms v × (shown_text asked v ≡ stored)
  stored_shows stored u =
      let h = told_shows u.is_accepted in
      (h.0, h.1, go h.0 (shows_told h.0 h.1))
    where
      go : (v : Visible) → ShortOfRoom told ⊎ UpToDate (shown_text asked v) told → shown_text asked v ≡ stored
      go v (inl q) = absurd (has_room told u.is_accepted q)
      go v (inr q) = sym q.shows ∙ u.shows

  -- so a call gives the bytes of what the module shows, unless it is short of room
  pub given : (v : Visible) → Showing asked ms v → (stored : List ℕ) → shown_text asked v ≡ stored → ShortOfRoom told ⊎ UpToDate stored told
  given v h stored p = subst (λ (s : List ℕ). ShortOfRoom told ⊎ UpToDate s told) p (shows_told v h)

-- ---- the statement

-- the premises of demand 3, but for acceptance
pub record Keeping (asked : Name) (ms ms' : List Module) : Type 0 where
  -- the asked module stands in both
  pub stands : member asked (module_names ms) ≡ true
  pub stands' : member asked (module_names ms') ≡ true
  -- the modules that it reaches are the same in the same order, but for what they hide; it is itself the same
  pub same_order : InTurn (Counterparts asked ms ms') (reached asked ms) (reached asked ms')

-- for these it is enough that the modules reached in the old specification stand in the new, in the same order
pub enough_keeping : (asked : Name) (texts texts' : Texts) (ms ms' : List Module) → Enough (λ w ns. Unit {0}) asked texts texts' ms ms' → Keeping asked ms ms'
enough_keeping asked texts texts' ms ms' c =
    let k = is_enough (λ w ns. Unit {0}) asked texts texts' ms ms' c in
    record { stands = k.stands; stands' = k.stands'; same_order = k.same_order }

-- some call that asks this module of this specification is answered 0
pub record AnsweredZero (asked : Name) (texts : Texts) : Type 0 where
  pub memory : ℕ
  pub output : ℕ
  pub is_accepted : (answer memory output asked texts).number ≡ accepted

-- of the modules that are reached and unchanged no answer is known, and of those that are not reached nothing
pub record AskedAgain (asked : Name) (texts texts' : Texts) (ms ms' : List Module) : Type 0 where
  pub read_as : ReadAs texts ms
  pub read_as' : ReadAs texts' ms'
  pub keeping : Keeping asked ms ms'
  -- each reached module is unchanged, or it is answered 0 when it is asked by itself of the new specification
  pub changed_accepted : InTurn (λ x x'. (x.self ≡ x'.self) ⊎ AnsweredZero x'.self.name texts') (reached asked ms) (reached asked ms')

-- a visible part that was up to date for the old specification is so for the new, or the new call is short of room
abbrev pub KeptAfterAsking : Type 0
KeptAfterAsking =
    (asked : Name) (texts texts' : Texts) (ms ms' : List Module) → AskedAgain asked texts texts' ms ms'
    → (memory memory' output output' : ℕ) (stored : List ℕ) → UpToDate stored (answer memory output asked texts)
    → ShortOfRoom (answer memory' output' asked texts') ⊎ UpToDate stored (answer memory' output' asked texts')

-- the old call is not refused at a module that changed
abbrev pub OldStands : Name → List Module → List Module → Type 0
OldStands asked ms ms' = InTurn (λ x x'. (x.self ≡ x'.self) ⊎ NotRefusedAt x.self.name (normalise asked ms)) (reached asked ms) (reached asked ms')

-- then the two calls agree in all but the lines that are not visible, whatever is lent to them
abbrev pub AgreesAfterAsking : Type 0
AgreesAfterAsking =
    (asked : Name) (texts texts' : Texts) (ms ms' : List Module) → AskedAgain asked texts texts' ms ms' → OldStands asked ms ms'
    → (memory memory' output output' : ℕ) → Agreeing (answer memory output asked texts) (answer memory' output' asked texts')

-- ---- one edit, room apart

-- a reached module is unchanged, or it shows something when it is asked of the modules ms'
abbrev pub Settled : List Module → Placed → Placed → Type 0
Settled ms' x x' = (x.self ≡ x'.self) ⊎ ((v : Visible) × Showing x'.self.name ms' v)

-- it is unchanged, or t, how the old call ends, is no refusal at it
abbrev Unrefused : EndedVisibly → Placed → Placed → Type 0
Unrefused t x x' = (x.self ≡ x'.self) ⊎ NotAt t x.self.name

-- the changed modules among those that the asked one reaches show something
abbrev pub AllSettled : Name → List Module → List Module → Type 0
AllSettled asked ms ms' = InTurn (Settled ms') (reached asked ms) (reached asked ms')

module _ (asked : Name) (ms ms' : List Module) (fresh : Fresh [] ms') (c : Keeping asked ms ms') (s : AllSettled asked ms ms') where
  -- the call ends as before
  still_tells : InTurn (Unrefused (normalise_visibly asked ms)) (reached asked ms) (reached asked ms')
      → normalise_visibly asked ms ≡ normalise_visibly asked ms'
  still_tells u =
      both_alike asked ms ms' c.stands c.stands' c.same_order
      (in_turn_so _ _ (λ x x' k. passed x x' k.0 k.1) (reached asked ms) (reached asked ms')
      (both_in_turn _ _ (reached asked ms) (reached asked ms') s u))
    where
      passed : (x x' : Placed) → Settled ms' x x' → Unrefused (normalise_visibly asked ms) x x'
          → Passed (normalise_visibly asked ms) (normalise_visibly asked ms') x x'
      passed x x' (inl p) k = inl p
      passed x x' (inr h) (inl p) = inl p
      passed x x' (inr h) (inr k) = inr (k, not_refused asked x'.self.name ms' fresh c.stands' h.0 h.1)

  -- what the asked module shows it shows still
  pub still_shows : (v : Visible) → Showing asked ms v → Showing asked ms' v
  still_shows v h = (h.0, sym (still_tells (in_turn_so _ _ unrefused (reached asked ms) (reached asked ms') s)) ∙ h.1)
    where
      unrefused : (x x' : Placed) → Settled ms' x x' → Unrefused (normalise_visibly asked ms) x x'
      unrefused x x' k = inr (λ n i w q. no_refusal h.0 n i v x.self.name w (sym h.1 ∙ q))

-- ---- the calls

module _ (asked : Name) (texts texts' : Texts) (ms ms' : List Module) (c : AskedAgain asked texts texts' ms ms') where
  fresh : Fresh [] ms'
  fresh = read_fresh texts' ms' c.read_as'.reads

  settled : AllSettled asked ms ms'
  settled = in_turn_so _ (Settled ms') go (reached asked ms) (reached asked ms') c.changed_accepted
    where
      go : (x x' : Placed) → (x.self ≡ x'.self) ⊎ AnsweredZero x'.self.name texts' → Settled ms' x x'
      go x x' (inl p) = inl p
      go x x' (inr a) = inr (told_shows x'.self.name texts' ms' c.read_as' a.memory a.output a.is_accepted)

pub kept_after_asking : KeptAfterAsking
kept_after_asking asked texts texts' ms ms' c memory memory' output output' stored u =
    let s = stored_shows asked texts ms c.read_as memory output stored u in
    given asked texts' ms' c.read_as' memory' output' s.0
    (still_shows asked ms ms' (fresh asked texts texts' ms ms' c) c.keeping (settled asked texts texts' ms ms' c) s.0 s.1) stored s.2

pub agrees_after_asking : AgreesAfterAsking
agrees_after_asking asked texts texts' ms ms' c u memory memory' output output' =
    agreeing _ _ _ _ (answer_ended memory output asked texts ms c.read_as) (answer_ended memory' output' asked texts' ms' c.read_as')
    (ended_same asked (normalise asked ms) (normalise asked ms')
    (ended_tied asked texts ms c.read_as.reads) (ended_tied asked texts' ms' c.read_as'.reads)
    (close_so (normalise asked ms) (normalise asked ms') _ _ (normalise_reflects asked ms) (normalise_reflects asked ms')
    (λ h h'. still_tells asked ms ms' (fresh asked texts texts' ms ms' c) c.keeping (settled asked texts texts' ms ms' c)
    (in_turn_so _ _ (unrefused h) (reached asked ms) (reached asked ms') u))))
  where
    unrefused : normalise_visibly asked ms ≡ as_seen (normalise asked ms) → (x x' : Placed)
        → (x.self ≡ x'.self) ⊎ NotRefusedAt x.self.name (normalise asked ms) → Unrefused (normalise_visibly asked ms) x x'
    unrefused h x x' (inl p) = inl p
    unrefused h x x' (inr k) = inr (not_at x.self.name (normalise asked ms) _ k h)
