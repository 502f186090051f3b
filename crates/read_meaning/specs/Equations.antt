-- Equations. The grammar reads a list of sides and then sees what they are; the model tells it of each by the token after it.
use Rattle.std.specs.Prelude.{◌≡◌, ℕ, ◌-◌, Bool, true, false, eqb, ltb}
use Rattle.std.proofs.Math.Path.{refl, ap}
use Rattle.std.proofs.Common.{sym, ◌∙◌, arith}
use Rattle.std.proofs.lemmas.Bool.{false≢true}
use mathlib.Core.List.{List, [], ◌∷◌, ◌++◌, append-nil, append_assoc}
use Rattle.meaning.specs.Lists.{pick, each, none_in}
use Rattle.meaning.specs.Laws.{by_cases}
use Rattle.meaning.specs.Names.{Name, byte}
use Rattle.meaning.specs.Numbers.{text_size, condition_limit, bracket_limit}
use Rattle.meaning.specs.Tokens.{implies, when_key}
use Rattle.meaning.specs.Syntax.{Sides, Equation}
use Rattle.meaning.specs.Grammar.{State, after, ◌>>=◌, return, is, begins_term, Parser}
use Rattle.meaning.specs.Grammar
use Rattle.read_steps.specs.declared.Place.{Place}
use Rattle.tape.specs.Tape.{Entry, entry, tag_role, condition_role, conclusion_role, flat_term, flat_sides, flat_equation}
use Rattle.read_steps.specs.Model.{Writer, ◌>>◌}
use Rattle.read_steps.specs.Model
use Rattle.read_meaning.specs.Matches.{Ready, state, Meaning, Matches, Reads, means, next_ready, and_then}
use Rattle.read_meaning.specs.Lines.{weaker, hold, recast, counting, stay_at, choice, by_next, after_after, after_pick, last, line, pass}
use Rattle.read_meaning.specs.Steps.{step_meant, expected, expect_meant, expect_more, mark_at, mark_meant, name_meant}
use Rattle.read_meaning.specs.Lists.{separated_by, separated_meant, some_of_meant, optional_meant}
use Rattle.read_meaning.specs.Terms.{term_meant}

-- ---- what sides are, by the state after them

unfoldable pub next_role : State → ℕ
next_role s = pick (eqb s.token.kind (byte ",")) condition_role (pick (eqb s.token.kind implies) condition_role conclusion_role)

next_role_short : (s : State) → ltb (next_role s) 32 ≡ true
unfolding next_role
next_role_short s =
    by_cases (λ k. ltb k 32 ≡ true) (eqb s.token.kind (byte ",")) _ _ (λ h. refl)
    (λ h. by_cases (λ k. ltb k 32 ≡ true) (eqb s.token.kind implies) _ _ (λ g. refl) (λ g. refl))

one_mark : (b c : Bool) (p : Place) (t : List ℕ)
    → pick b (Model.mark condition_role p t) (pick c (Model.mark condition_role p t) (Model.mark conclusion_role p t))
    ≡ Model.mark (pick b condition_role (pick c condition_role conclusion_role)) p t
unfolding pick
one_mark true c p t = refl
one_mark false true p t = refl
one_mark false false p t = refl

-- ---- conditions

-- the sides that may follow the first and a comma: as the model writes them, and as the grammar reads them
abbrev more_written : List ℕ → Writer
more_written text = Model.separated text (condition_limit - 1) (byte ",") begins_term (Model.sides text Model.by_next)

abbrev more_read : List ℕ → Parser (List Sides)
more_read text = Grammar.separated text (condition_limit - 1) (byte ",") begins_term (Grammar.sides text)

-- a list of sides, if an implication follows, has been told to be of conditions
record Conditions (cs : List Sides) (s : State) (es : List Entry) : Type 0 where
  some : none_in cs ≡ false
  said : eqb s.token.kind implies ≡ true → es ≡ each (flat_sides condition_role) cs

one_condition : (e : Sides) (s : State) (es : List Entry) → es ≡ flat_sides (next_role s) e → eqb s.token.kind (byte ",") ≡ false
    → Conditions (e ∷ []) s es
unfolding next_role pick none_in each
one_condition e s es φ h = record { some = refl; said = λ g. φ ∙ rw (h, g) (sym (append-nil _)) }

more_conditions : (e : Sides) (s v : State) (cs : List Sides) (es fs : List Entry) → es ≡ flat_sides (next_role s) e
    → eqb s.token.kind (byte ",") ≡ true
    → Conditions cs v fs → Conditions (e ∷ cs) v (es ++ fs)
unfolding next_role pick none_in each
more_conditions e s v cs es fs φ h c = record { some = refl; said = λ g. rw (φ, h, c.said g) }

several : (text : List ℕ) (tag : Name) (e : Sides) (cs : List Sides) → none_in cs ≡ false
    → Grammar.equation_after text tag (e ∷ cs) ≡ Grammar.implied text tag (e ∷ cs)
unfolding Grammar.equation_after none_in
several text tag e [] h = absurd (false≢true (sym h))
several text tag e (c ∷ cs) h = refl

module _ {text : List ℕ} where
  next_meant : {Ψ : Meaning Sides} (e : Sides) → ((s : State) → Ψ e s (entry (next_role s) [] ∷ []))
      → Reads text 1 0 Model.by_next (return e) Ψ
  unfolding Model.by_next Model.if_next next_role
  next_meant e ψ = record {
    from = λ p t r.
        rw (one_mark (eqb p.token.kind (byte ",")) (eqb p.token.kind implies) p t)
        (mark_at (next_role (state p)) e (next_role_short (state p)) r (ψ (state p)));
  }

  -- ---- sides

  sides_by : {X : Writer} {Ψ : Meaning Sides}
      → ((e : Sides) → Reads text 1 0 X (return e) (λ b s es. Ψ b s (flat_term e.left ++ (flat_term e.right ++ es))))
      → Reads text 0 0 (Model.sides text X) (Grammar.sides text) Ψ
  unfolding Model.sides Grammar.sides
  sides_by d =
      line (term_meant bracket_limit) (λ l.
      pass (expect_more (byte "=") refl refl)
      (line (hold (term_meant bracket_limit)) (λ r. d (record { left = l; right = r }))))

  sides_meant : (role : ℕ) → ltb role 32 ≡ true
      → Reads text 0 0 (Model.sides text (Model.mark role)) (Grammar.sides text) (means (flat_sides role))
  unfolding flat_sides
  sides_meant role h = sides_by (λ e. mark_meant role e h (λ s. refl))

  -- sides that the token after them tells of
  next_sides : Reads text 0 0 (Model.sides text Model.by_next) (Grammar.sides text) (λ e s es. es ≡ flat_sides (next_role s) e)
  unfolding flat_sides
  next_sides = sides_by (λ e. next_meant e (λ s. refl))

  conditions_meant : (n : ℕ) → Reads text 0 0 (Model.separated text n (byte ",") begins_term (Model.sides text Model.by_next))
      (Grammar.separated text n (byte ",") begins_term (Grammar.sides text)) Conditions
  conditions_meant n = separated_by Conditions (byte ",") begins_term next_sides one_condition more_conditions n

  -- ---- what follows the first sides

  implied_meant : (tag : Name) (cs : List Sides)
      → Reads text 0 0 (Model.implied text) (Grammar.implied text tag cs)
      (λ b s es. entry tag_role tag ∷ (each (flat_sides condition_role) cs ++ es) ≡ flat_equation b)
  unfolding Model.implied Grammar.implied flat_equation each
  implied_meant tag cs = pass (expect_meant implies) (last _ (sides_meant conclusion_role refl) (λ c s. rw append-nil))

  -- what stands before an implication is known by the implication
  implied_at : (tag : Name) (cs : List Sides) (es : List Entry) {p : Place} {t : List ℕ} → Ready text 0 p t
      → (eqb p.token.kind implies ≡ true → es ≡ each (flat_sides condition_role) cs)
      → Matches text 0 0 (λ b s fs. entry tag_role tag ∷ (es ++ fs) ≡ flat_equation b) p t (Model.implied text p t)
      (Grammar.implied text tag cs (state p))
  unfolding Model.implied Grammar.implied
  implied_at tag cs es {p} {t} r e = expected implies _ _ (λ h. rw (e h) ((implied_meant tag cs).from p t r))

  conditional_meant : (tag : Name) (e : Sides)
      → Reads text 0 0 (Model.conditional text) (Grammar.conditional text tag e)
      (λ b s es. entry tag_role tag ∷ (flat_sides conclusion_role e ++ es) ≡ flat_equation b)
  unfolding Model.conditional Grammar.conditional Grammar.sides_list flat_equation each
  conditional_meant tag e =
      last _ (optional_meant when_key [] refl (separated_meant begins_term (sides_meant condition_role refl) condition_limit (byte ",")))
      (λ w s. refl)

  -- the first sides are e, with the entries es
  module _ (tag : Name) (e : Sides) (es : List Entry) {p : Place} {t : List ℕ} (r : Ready text 0 p t)
      (φ : es ≡ flat_sides (next_role (state p)) e) where
    abbrev Whole : Meaning Equation
    Whole b s fs = entry tag_role tag ∷ (es ++ fs) ≡ flat_equation b

    listed : eqb p.token.kind (byte ",") ≡ true
        → Matches text 0 0 Whole p t ((Model.step text >> (more_written text >> Model.implied text)) p t)
        (after (Grammar.◌>>◌ (Grammar.step text) (more_read text) (state p))
        (λ cs. Grammar.equation_after text tag (e ∷ cs)))
    unfolding ◌>>◌ Grammar.◌>>◌
    listed h =
        rw after_after
        (and_then Whole _ _ _ _ (step_meant.from p t r) (λ a q u fs ψ s.
        let ready = next_ready r s in
        rw ψ
        (and_then Whole _ _ _ _ ((conditions_meant (condition_limit - 1)).from q u ready) (λ cs v w gs c s'.
        rw (several text tag e cs c.some)
        (weaker _ _ (λ b x hs k. ap (λ fs. entry tag_role tag ∷ fs) (sym (append_assoc es gs hs)) ∙ k)
        (implied_at tag (e ∷ cs) (es ++ gs) (next_ready ready s') (more_conditions e (state p) (state v) cs es gs φ h c).said))))))

    only : eqb p.token.kind (byte ",") ≡ false
        → Matches text 0 0 Whole p t (Model.if_next (is implies) (Model.implied text) (Model.conditional text) p t)
        (Grammar.equation_after text tag (e ∷ []) (state p))
    unfolding Grammar.equation_after next_role pick
    only h =
        by_next (is implies) _ _ _ _
        (λ g. implied_at tag (e ∷ []) es r (one_condition e (state p) es φ h).said)
        (λ g. rw (φ, h, g) ((conditional_meant tag e).from p t r))

    first_known : Matches text 0 0 Whole p t (Model.equation_after text p t)
        (after (Grammar.if_next (is (byte ",")) (λ s. Grammar.◌>>◌ (Grammar.step text) (more_read text) s) (return []) (state p))
        (λ cs. Grammar.equation_after text tag (e ∷ cs)))
    unfolding Model.equation_after Model.if_next Grammar.if_next return after
    first_known = rw after_pick (choice (eqb p.token.kind (byte ",")) _ _ _ _ listed only)

  after_tag : (tag : Name)
      → Reads text 0 0 (Model.sides text Model.by_next >> Model.equation_after text)
      (Grammar.sides_list text >>= Grammar.equation_after text tag)
      (λ b s es. entry tag_role tag ∷ es ≡ flat_equation b)
  unfolding Grammar.sides_list Grammar.separated return after ◌>>◌ ◌>>=◌
  after_tag tag = record {
    from = λ p t r.
        rw after_after
        (and_then (λ b s es. entry tag_role tag ∷ es ≡ flat_equation b) _ _ _ _ (next_sides.from p t r) (λ e q u es φ s.
        rw after_after (first_known tag e es (next_ready r s) φ)));
  }

  -- ---- equations

  no_nodes_meant : Reads text 0 0 Model.no_nodes (Grammar.no_nodes text) (means λ a. [])
  unfolding Model.no_nodes Grammar.no_nodes Model.stay return
  no_nodes_meant = record { from = λ p t r. recast 0 0 0 _ _ (omega arith) (stay_at p.token (counting 0 r) refl) }

  equation_meant : Reads text 0 0 (Model.equation text) (Grammar.equation text) (means flat_equation)
  unfolding Model.equation Grammar.equation
  equation_meant =
      pass no_nodes_meant
      (pass (expect_meant (byte "["))
      (line (name_meant tag_role refl) (λ tag.
      pass (expect_meant (byte "]"))
      (after_tag tag))))

  pub equations_meant : Reads text 0 0 (Model.equations text) (Grammar.some_of text text_size (is (byte "[")) (Grammar.equation text))
      (means (each flat_equation))
  unfolding Model.equations
  equations_meant = some_of_meant (is (byte "[")) equation_meant text_size
