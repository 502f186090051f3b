-- The equations that a module's text gives are well typed: typing from the inside out finds an item for each node, a function by its
-- arguments' sorts.
use Rattle.std.specs.Prelude.{◌≡◌, ◌⊎◌, ℕ, ◌≤◌}
use Rattle.std.proofs.Math.Path.{refl, sym, ap, subst}
use Rattle.std.proofs.Common.{◌∙◌, inl, inr}
use mathlib.Core.List.{List, [], ◌∷◌, map, Memᴰ}
use Rattle.meaning.specs.Names.{bytes, byte}
use Rattle.meaning.specs.Syntax.{Equation}
use Rattle.meaning.specs.Origins.{Section, export_section, hidden_section, parameter_section, Sort, FunctionType, Head, visible_head, hidden_head, ResolvedTerm, var, app, ResolvedTerms, none_left, ◌and_then◌, ResolvedSides, ResolvedEquation, function_shape, variable_shape, Item}
use Rattle.meaning.specs.Normal.{Slot}
use Rattle.meaning.specs.Typing.{Typed, TypedList, head_of, no_arguments, typed_equations}
use Rattle.meaning.specs.Written.{shape_rank, argument_text, head_text, variable_text, term_text, term_texts, sides_text, conditions_text, equation_text, between_marks}
use Rattle.meaning.specs.OrderLaws.{Every}
use Rattle.laws.specs.Decides.{sorts_decided}
use Rattle.laws.specs.EveryLaws.{every_map, every_member}
use Rattle.laws.specs.Outcomes.{Gives}
use Rattle.laws.specs.TypingWalk.{Types, equations_so}
use Rattle.promises.specs.ListingLaws.{OneLine, Plain, in_line_then, mark_in_line, marks_in_line, nothing, number_in_line, plain_in_line, quoted}
use Rattle.promises.specs.Told.{Stands, StandsIn}
use Rattle.promises.specs.Sound.{no_variable}
use Rattle.promises.specs.WellTyped.{From, TypedEquation, TypedHead, TypedSides, TypedTerm, TypedTerms, head_type, sort_of, sorts_of}

-- where the names of the visible items are plain, an equation is written in one line
module _ (visible hidden : List Item) (plain : Every (λ i. Plain i.name) visible) where
  head_in_line : (f : Head) → TypedHead visible hidden f → OneLine (head_text hidden f)
  unfolding head_text
  head_in_line (visible_head f t) h =
      subst OneLine h.2 (plain_in_line h.0.name (every_member (λ i. Plain i.name) visible plain h.0 h.1))
  head_in_line (hidden_head o t) h = number_in_line _

  arguments_in_line : (xs : List (List ℕ)) → Every OneLine xs → OneLine (argument_text xs)
  unfolding argument_text
  arguments_in_line [] h = nothing
  arguments_in_line (x ∷ xs) h =
      quoted "(" refl
      (in_line_then (between_marks (bytes ",") (x ∷ xs)) (marks_in_line (bytes ",") (x ∷ xs) (mark_in_line (byte ",") refl) h) (quoted ")" refl nothing))

  mutual
    unfolding term_text variable_text

    term_in_line : (t : ResolvedTerm) → TypedTerm visible hidden t → OneLine (term_text hidden t)
    term_in_line (var o s) h = number_in_line _
    term_in_line (app f xs) h = in_line_then (head_text hidden f) (head_in_line f h.0) (arguments_in_line (term_texts hidden xs) (terms_in_line xs h.1))

    terms_in_line : (ts : ResolvedTerms) → TypedTerms visible hidden ts → Every OneLine (term_texts hidden ts)
    terms_in_line none_left h = tt
    terms_in_line (x and_then xs) h = (term_in_line x h.0, terms_in_line xs h.1)

  sides_in_line : (e : ResolvedSides) → TypedSides visible hidden e → OneLine (sides_text hidden e)
  unfolding sides_text
  sides_in_line e h = in_line_then (term_text hidden e.left) (term_in_line e.left h.0) (quoted "=" refl (term_in_line e.right h.1))

  conditions_in_line : (es : List ResolvedSides) → Every (TypedSides visible hidden) es → OneLine (conditions_text hidden es)
  unfolding conditions_text
  conditions_in_line [] h = nothing
  conditions_in_line (e ∷ es) h =
      quoted " when " refl
      (marks_in_line (bytes ",") (map (sides_text hidden) (e ∷ es)) (mark_in_line (byte ",") refl)
      (every_map (TypedSides visible hidden) OneLine (sides_text hidden) sides_in_line (e ∷ es) h))

  pub equation_in_line : (e : ResolvedEquation) → TypedEquation visible hidden e → OneLine (equation_text hidden e)
  unfolding equation_text
  equation_in_line e h =
      quoted "[" refl
      (in_line_then e.tag (plain_in_line e.tag h.tag)
      (quoted "] " refl
      (in_line_then (sides_text hidden e.conclusion) (sides_in_line e.conclusion h.conclusion) (conditions_in_line e.conditions h.conditions))))

module _ (parameters : List Slot) (visible hidden : List Item) where
  -- an item in reach of the text: a visible one, which is no variable, or a hidden one
  abbrev pub InReach : Item → Type 0
  InReach i = (Memᴰ i visible × Stands parameters i × (shape_rank i.shape ≤ 1)) ⊎ (Memᴰ i hidden × (i.standing ≡ hidden_section))

  found_head : (i : Item) (t : FunctionType) → InReach i → i.shape ≡ function_shape t
      → TypedHead visible hidden (head_of i.standing i.name i.origin t)
  unfolding head_of
  found_head i t (inl v) e = go i.standing v.1
    where
      go : (s : Section) → StandsIn parameters i.origin.home s → TypedHead visible hidden (head_of s i.name i.origin t)
      go export_section h = (i, v.0, refl, e)
      go hidden_section h = absurd h
      go (parameter_section p) h = (i, v.0, refl, e)
  found_head i t (inr h) e =
      subst (λ (s : Section). TypedHead visible hidden (head_of s i.name i.origin t)) (sym h.1) (i, h.0, refl, e)

  found_variable : (i : Item) (s : Sort) → InReach i → i.shape ≡ variable_shape s → From hidden i.origin (variable_shape s)
  found_variable i s (inl v) e = absurd (no_variable i.shape s v.2 e)
  found_variable i s (inr h) e = (i, h.0, refl, e)

  abbrev IsTyped : Typed → Type 0
  IsTyped t = TypedTerm visible hidden t.term × (sort_of t.term ≡ t.sort)

  abbrev AreTyped : TypedList → Type 0
  AreTyped ts = TypedTerms visible hidden ts.terms × (sorts_of ts.terms ≡ ts.sorts)

  output_of : (s : Section) (i : Item) (t : FunctionType) → head_type (head_of s i.name i.origin t) ≡ t
  unfolding head_of head_type
  output_of export_section i t = refl
  output_of hidden_section i t = refl
  output_of (parameter_section p) i t = refl

  module _ (known : List Item) (reach : Every InReach known) where
    text_typed : Types known (λ x. IsTyped) (λ xs. AreTyped) (λ e. TypedSides visible hidden) (λ es. Every (TypedSides visible hidden)) (λ r. Plain r.tag)
        (TypedEquation visible hidden)
    unfolding sort_of sorts_of no_arguments
    text_typed = record {
      function = λ f xs ts i t d m e taken.
          let type = output_of i.standing i t in
          let inputs = d.1 ∙ taken ∙ ap (λ (u : FunctionType). u.inputs) (sym type) in
          ((found_head i t (every_member InReach known reach i m) e, d.0, inputs), ap (λ (u : FunctionType). u.output) type);
      variable = λ f i s m e. (found_variable i s (every_member InReach known reach i m) e, refl);
      nothing = (tt, refl);
      more = λ x xs t ts h k. ((h.0, k.0), rw (h.1, k.1));
      sides = λ e l r h k q. (h.0, k.0, h.1 ∙ sorts_decided.equal _ _ q ∙ sym k.1);
      no_condition = tt;
      conditions = λ e es c cs h k. (h, k);
      equation = λ home at e c cs p h k. record { tag = p; conclusion = h; conditions = k };
    }

    pub equations_typed : (home at : ℕ) (rs : List Equation) → Every (λ r. Plain r.tag) rs
        → Gives (Every (TypedEquation visible hidden)) (typed_equations known home at rs)
    equations_typed = equations_so text_typed
