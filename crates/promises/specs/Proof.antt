-- What the proof of demand 3 (proofs/Demanded.antt) stands on. How a call ends, room apart: the reached modules in turn over visible parts alone. Without room nothing depends on who
-- is asked, and 18 does not occur; so two calls end alike where each reached module is the same, or accepted in both.
use Rattle.std.specs.Prelude.{◌≡◌, refl, ◌⊎◌, ℕ, suc, ◌+◌, true, false, List, [], ◌∷◌, map, length}
use Rattle.std.proofs.Common.{sym, ap, subst, ◌∙◌, inl, inr, arith}
use Rattle.meaning.specs.Laws.{by_cases}
use Rattle.meaning.specs.Lists.{pick, each}
use Rattle.meaning.specs.Names.{Name, member}
use Rattle.meaning.specs.Numbers.{asked_absent, no_room, accepted, lent_short}
use Rattle.meaning.specs.Syntax.{Module}
use Rattle.meaning.specs.Normal.{Visible, Normal, nothing_visible, empty}
use Rattle.meaning.specs.Checks.{Culprit, lone, Outcome, fine, stop}
use Rattle.meaning.specs.Evaluate.{Evaluated, named_by, names_right, evaluate, import_names}
use Rattle.meaning.specs.Reached.{Placed, reached, Ended, normalised, refused_at, end_or, total_of, in_turn, module_names, short_or_blank, normalise}
use Rattle.meaning.specs.OutcomeLaws.{Mirrors}
use Rattle.meaning.specs.VisiblyLaws.{seen_of, visible_half}
use Rattle.meaning.proofs.VisiblyLaws.{evaluate_mirrors}
use Rattle.meaning.specs.Texts.{Texts}
use Rattle.meaning.specs.Listing.{line, lines_text, visible_lines, shown}
use Rattle.meaning.specs.Answer.{Answer, listing, refusal, of_ended, of_read, within, answer}
use Rattle.promises.specs.Lines.{listing_shown}
use Rattle.promises.specs.VisiblePart.{visible_part}
use Rattle.promises.specs.TwoCalls.{pick_both}
use Rattle.promises.specs.Demand.{ReadAs, SameAnswer, ShortOfRoom, Agreeing}
use Rattle.meaning.specs.VisiblyLaws.{Seen, evaluate_visibly}

-- with the visible part of the last module, or with the refusal
pub data EndedVisibly : Type 0 where
  shows : (count : ℕ) → Visible → EndedVisibly
  refuses : (number count : ℕ) (evaluating : Name) (culprit : Culprit) → EndedVisibly

unfoldable pub end_visibly : ℕ → Name → (Visible → EndedVisibly) → Outcome Visible → EndedVisibly
end_visibly count m more (fine v) = more v
end_visibly count m more (stop k w) = refuses k count m w

abbrev pub seen_as : Module → Visible → Seen
seen_as m v = record { name = m.name; visible = v }

-- `env` is what was seen of the modules before, the latest first; `last` is the latest's visible part
unfoldable pub in_turn_visibly : List Name → List Seen → Visible → List Placed → EndedVisibly
in_turn_visibly declared env last [] = shows (length env) last
in_turn_visibly declared env last (x ∷ xs) =
    end_visibly (length env + 1) x.self.name (λ v. in_turn_visibly declared (seen_as x.self v ∷ env) v xs)
    (evaluate_visibly (names_right declared x.earlier (named_by x.self)) env x.self)

unfoldable pub normalise_visibly : Name → List Module → EndedVisibly
normalise_visibly asked ms =
    let r = in_turn_visibly (module_names ms) [] nothing_visible (reached asked ms) in
    pick (member asked (module_names ms)) r (refuses asked_absent 0 asked (lone (short_or_blank asked)))

-- ---- a call ends so, or by 18

abbrev pub Eighteen : Ended → Type 0
Eighteen (normalised count n) = ⊥
Eighteen (refused_at number count evaluating culprit) = number ≡ no_room

unfoldable pub as_seen : Ended → EndedVisibly
as_seen (normalised count n) = shows count n.visible
as_seen (refused_at number count m w) = refuses number count m w

abbrev pub Reflects : Ended → EndedVisibly → Type 0
Reflects e t = Eighteen e ⊎ (t ≡ as_seen e)

seen_length : (env : List Evaluated) → length (map seen_of env) ≡ length env
seen_length [] = refl
seen_length (e ∷ env) = ap suc (seen_length env)

end_reflects : (o : Outcome Normal) (b : Outcome Visible) (c c' : ℕ) (m : Name) (more : Normal → Ended) (more' : Visible → EndedVisibly)
    → c' ≡ c → Mirrors visible_half o b → ((n : Normal) → Reflects (more n) (more' n.visible)) → Reflects (end_or c m more o) (end_visibly c' m more' b)
unfolding end_or end_visibly as_seen
end_reflects (fine n) b c c' m more more' p h later = subst (λ r. Reflects (more n) (end_visibly c' m more' r)) (sym h) (later n)
end_reflects (stop k w) b c c' m more more' p (inl h) later = inl h
end_reflects (stop k w) b c c' m more more' p (inr h) later = inr (ap (end_visibly c' m more') h ∙ ap (λ (x : ℕ). refuses k x m w) p)

in_turn_reflects : (d : List Name) (env : List Evaluated) (last : Normal) (xs : List Placed)
    → Reflects (in_turn d env last xs) (in_turn_visibly d (map seen_of env) last.visible xs)
unfolding in_turn in_turn_visibly as_seen
in_turn_reflects d env last [] = inr (ap (λ (k : ℕ). shows k last.visible) (seen_length env))
in_turn_reflects d env last (x ∷ xs) =
    end_reflects (evaluate d x.earlier x.number (total_of env) env x.self)
    (evaluate_visibly (names_right d x.earlier (named_by x.self)) (map seen_of env) x.self)
    _ _ _ _ _ (ap (λ k. k + 1) (seen_length env)) (evaluate_mirrors d x.earlier x.number (total_of env) env x.self)
    (λ n. in_turn_reflects d (record { name = x.self.name; normal = n } ∷ env) n xs)

pub normalise_reflects : (asked : Name) (ms : List Module) → Reflects (normalise asked ms) (normalise_visibly asked ms)
unfolding normalise normalise_visibly empty as_seen
normalise_reflects asked ms =
    pick_both Reflects (member asked (module_names ms)) _ _ _ _ (in_turn_reflects (module_names ms) [] empty (reached asked ms)) (inr refl)

-- ---- what a call shows

-- the asked module shows v, room apart
abbrev pub Showing : Name → List Module → Visible → Type 0
Showing asked ms v = (c : ℕ) × (normalise_visibly asked ms ≡ shows c v)

pub stands_visibly : (asked : Name) (ms : List Module) → member asked (module_names ms) ≡ true
    → normalise_visibly asked ms ≡ in_turn_visibly (module_names ms) [] nothing_visible (reached asked ms)
unfolding normalise_visibly pick
stands_visibly asked ms e = rw e

pub no_refusal : {X : Type 0} (c k c' : ℕ) (v : Visible) (m : Name) (w : Culprit) → shows c v ≡ refuses k c' m w → X
no_refusal c k c' v m w e = let z : ◌≡◌ {A = ℕ} 0 1 = cc in absurd (omega arith)

-- ---- one module

pub same_named : (m m' : Module) → m.imports ≡ m'.imports → named_by m ≡ named_by m'
unfolding named_by
same_named m m' p = ap (λ is. each import_names is) p

-- ---- all modules in turn: t is how the old call ends, r how the new one, room apart

-- the call is not refused at y
abbrev pub NotAt : EndedVisibly → Name → Type 0
NotAt t y = (n c : ℕ) (w : Culprit) → t ≡ refuses n c y w → ⊥

-- a reached module is unchanged, or the one call is not refused at it, nor the other
abbrev pub Passed : EndedVisibly → EndedVisibly → Placed → Placed → Type 0
Passed t r x x' = (x.self ≡ x'.self) ⊎ (NotAt t x.self.name × NotAt r x'.self.name)

-- ---- where the other modules are accepted

-- unless either is 18: both show the same, or are refused alike, after as many modules
abbrev pub Close : Ended → Ended → Type 0
Close e e' = Eighteen e ⊎ (Eighteen e' ⊎ (as_seen e ≡ as_seen e'))

pub close_so : (e e' : Ended) (t t' : EndedVisibly) → Reflects e t → Reflects e' t' → (t ≡ as_seen e → t' ≡ as_seen e' → t ≡ t') → Close e e'
close_so e e' t t' (inl h) h' k = inl h
close_so e e' t t' (inr h) (inl h') k = inr (inl h')
close_so e e' t t' (inr h) (inr h') k = inr (inr (sym h ∙ k h h' ∙ h'))

-- the call is refused, if at all, at another module than y
abbrev pub NotRefusedAt : Name → Ended → Type 0
NotRefusedAt y (normalised count n) = Unit {0}
NotRefusedAt y (refused_at number count evaluating culprit) = evaluating ≡ y → ⊥

pub not_at : (y : Name) (e : Ended) (t : EndedVisibly) → NotRefusedAt y e → t ≡ as_seen e → NotAt t y
unfolding as_seen
not_at y (normalised c n) t a h k j w q = no_refusal c k j n.visible y w (sym h ∙ q)
not_at y (refused_at i l m v) t a h k j w q = a (told_at (sym h ∙ q))
  where
    told_at : refuses i l m v ≡ refuses k j y w → m ≡ y
    told_at e = cc

-- ---- the answers

-- the visible part of the bytes is the text of the visible lines
abbrev pub Tied : Answer → Type 0
Tied r = visible_part (listing r) ≡ lines_text (shown false r.lines)

pub short_of_room : (asked : Name) (e : Ended) → Eighteen e → ShortOfRoom (of_ended asked e)
unfolding of_ended refusal
short_of_room asked (normalised c n) h = absurd h
short_of_room asked (refused_at k c m w) h = inl h

seen_same : (asked : Name) (e e' : Ended) → Tied (of_ended asked e) → Tied (of_ended asked e') → as_seen e ≡ as_seen e'
    → SameAnswer (of_ended asked e) (of_ended asked e')
unfolding of_ended refusal as_seen
seen_same asked (normalised c n) (normalised c' n') t t' q = record {
  number = refl;
  modules = counts;
  evaluating = refl;
  culprit = refl;
  at = refl;
  in_library = refl;
  visible_lines =
      t ∙ ap lines_text
      (listing_shown asked n ∙ (λ i. shown false (line "module" asked ∷ visible_lines (parts i))) ∙ sym (listing_shown asked n')) ∙ sym t';
}
  where
    counts : c ≡ c'
    counts = cc

    parts : n.visible ≡ n'.visible
    parts = cc
seen_same asked (normalised c n) (refused_at k c' m w) t t' q = no_refusal c k c' n.visible m w q
seen_same asked (refused_at k c m w) (normalised c' n') t t' q = no_refusal c' k c n'.visible m w (sym q)
seen_same asked (refused_at k c m w) (refused_at k' c' m' w') t t' q =
    record { number = cc; modules = cc; evaluating = cc; culprit = cc; at = refl; in_library = refl; visible_lines = refl }

pub ended_same : (asked : Name) (e e' : Ended) → Tied (of_ended asked e) → Tied (of_ended asked e') → Close e e'
    → Agreeing (of_ended asked e) (of_ended asked e')
ended_same asked e e' t t' (inl q) = inl (short_of_room asked e q)
ended_same asked e e' t t' (inr (inl q)) = inr (inl (short_of_room asked e' q))
ended_same asked e e' t t' (inr (inr q)) = inr (inr (seen_same asked e e' t t' q))

-- the answer is 19, or it is how the call ended
abbrev pub Short : Answer → Answer → Type 0
Short r r' = (r.number ≡ lent_short) ⊎ (r ≡ r')

pub answer_ended : (memory output : ℕ) (asked : Name) (texts : Texts) (ms : List Module) → ReadAs texts ms
    → Short (answer memory output asked texts) (of_ended asked (normalise asked ms))
unfolding answer within refusal of_read
answer_ended memory output asked texts ms e =
    let So : Answer → Type 0 = λ r. Short r (of_ended asked (normalise asked ms)) in
    by_cases So _ _ _ (λ q. inl refl) (λ q. by_cases So _ _ _ (λ q. inr (ap (of_read asked) e.reads)) (λ q. inl refl))

-- a call that is refused by 18 is so told, or by 19
pub eighteen_told : (asked : Name) (e : Ended) (r : Answer) → Eighteen e → Short r (of_ended asked e) → ShortOfRoom r
eighteen_told asked e r h (inl p) = inr p
eighteen_told asked e r h (inr p) = subst ShortOfRoom (sym p) (short_of_room asked e h)

pub agreeing : (r r' e e' : Answer) → Short r e → Short r' e' → Agreeing e e' → Agreeing r r'
agreeing r r' e e' (inl p) q h = inl (inr p)
agreeing r r' e e' (inr p) (inl q) h = inr (inl (inr q))
agreeing r r' e e' (inr p) (inr q) h = subst (λ x. Agreeing x r') (sym p) (subst (λ x. Agreeing e x) (sym q) h)

pub has_room : (r : Answer) → r.number ≡ accepted → ShortOfRoom r → ⊥
has_room r p (inl q) = omega (arith, p, q)
has_room r p (inr q) = omega (arith, p, q)

-- so two calls that are both answered 0 show the same
pub if_accepted : (r r' : Answer) → r.number ≡ accepted → r'.number ≡ accepted → Agreeing r r' → SameAnswer r r'
if_accepted r r' p p' (inl q) = absurd (has_room r p q)
if_accepted r r' p p' (inr (inl q)) = absurd (has_room r' p' q)
if_accepted r r' p p' (inr (inr h)) = h
