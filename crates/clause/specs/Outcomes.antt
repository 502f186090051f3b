-- How a binding ends: 15, 22 to 27, or with what is made; and that the checks on words are the meaning's.
use Rattle.std.specs.Prelude.{◌≡◌, Bool, true, false, ℕ, ◌≤◌, Ok, Err}
use Rattle.std.proofs.Math.Path.{refl, sym, ap, ap₂, subst}
use Rattle.std.proofs.Common.{◌∙◌, arith}
use Rattle.std.proofs.Math.Option.{Option}
use mathlib.Core.List.{List, []}
use Rattle.meaning.specs.Lists.{pick}
use Rattle.meaning.specs.Names.{Name, member}
use Rattle.meaning.specs.Numbers.{formal_unpaired, bad_parameter}
use Rattle.meaning.specs.Syntax.{Pair}
use Rattle.meaning.specs.Origins.{Item}
use Rattle.meaning.specs.Normal.{Visible, Normal, slot_names, formals}
use Rattle.meaning.specs.Checks as Meaning
use Rattle.meaning.specs.Checks.{lone, Outcome, fine, stop, ◌>>◌, Check, unless, checked}
use Rattle.meaning.specs.Clauses.{pairs_right, unpaired, bound_to, bind}
use Rattle.meaning.specs.OutcomeLaws.{then_fine, unless_fine}
use Rattle.text_names.specs.Word.{name_of}
use Rattle.form.specs.declared.Refusal.{Refusal}
use Rattle.form.specs.declared.Form.{Form}
use Rattle.form.specs.declared.Block.{Block}
use Rattle.form.specs.Memory.{part}
use Rattle.form.specs.Forms.{slots_at, items_at, visible_at, Stands}
use Rattle.form.specs.FormLaws.{kept_all}
use Rattle.form.specs.Verdicts.{Verdict, Made, refusal, culprit_of, lone_of, told}
use Rattle.clause_translation.specs.declared.Mode.{Mode}
use Rattle.clause_pairs.specs.Pairs.{pairs_at}
use Rattle.clause_translation.specs.Translation.{mode_formals}
use Rattle.clause_fitting.specs.Fits.{mode_whole}
use Rattle.clause_fitting.specs.Bound.{pairs_meant, unpaired_meant}
use Rattle.unite_checks.specs.Made.{makes_as, refused_makes, stops, goes_on}
use Rattle.unite_checks.specs.Steps.{Bound}
use Rattle.clause.specs.Rooms.{binding_mode, Binds, BindRoom, StepRoom}
use Rattle.clause.specs.Binding.{pairs_checked, bound_normal, BoundForm}
use Rattle.clause.specs.Either.{ClauseRight}
use Rattle.clause.specs.Places.{block_laid}
use Rattle.clause.specs.WholeSteps.{table_meant}

-- ---- one check after the other

both_stop : {A : Type 0} (c d : Check) (o : Outcome A) (k : ℕ) (x : Meaning.Culprit) → (c >> d) ≡ stop k x → (c >> (d >> o)) ≡ stop k x
unfolding ◌>>◌
both_stop (fine tt) d o k x e = stops d o k x e
both_stop {A} (stop j y) d o k x e = by e
  where
    number : Check → ℕ
    number (fine z) = 0
    number (stop i z) = i

    culprit : Check → Meaning.Culprit
    culprit (fine z) = lone []
    culprit (stop i z) = z

    by : ◌≡◌ {A = Check} (stop j y) (stop k x) → ◌≡◌ {A = Outcome A} (stop j y) (stop k x)
    by q = λ i. stop (ap number q i) (ap culprit q i)

-- ---- 22 to 27 on words

module _ (text tape w : List ℕ) (m : Mode) (actual : Form) where
  abbrev pairs_wrong : Check
  pairs_wrong =
      pairs_right (mode_formals text tape w m) (pairs_at text tape m.pairs) (mode_whole text tape w m) (visible_at text tape w actual) []
      (pairs_at text tape m.pairs)

  abbrev names_wrong : Check
  names_wrong = unless formal_unpaired (unpaired (mode_formals text tape w m) (pairs_at text tape m.pairs))

  pub pairs_stop : (v : Verdict) (x : Refusal) → told text v ≡ pairs_wrong → v ≡ Err x → told text (Err x) ≡ pairs_checked text tape w m actual
  unfolding told pairs_checked
  pairs_stop v x e h = sym (stops pairs_wrong names_wrong x.number (culprit_of text x.culprit) (sym e ∙ ap (told text) h))

  pub pairs_fine : (v r : Verdict) → told text v ≡ pairs_wrong → v ≡ Ok tt → told text r ≡ names_wrong → told text r ≡ pairs_checked text tape w m actual
  unfolding told pairs_checked
  pairs_fine v r e h f = f ∙ sym (goes_on pairs_wrong names_wrong (sym e ∙ ap (told text) h))

-- ---- the ends

pub mode_binds : (size t p pairs : ℕ) (m : Mode) (g actual : Form) (b : Block) → m ≡ binding_mode p pairs g
    → BindRoom size t g actual b → StepRoom size t m g actual b
unfolding binding_mode
mode_binds size t p pairs m g actual b e room = record { room = room; mode = rw e (record { kind = refl; table = refl; count = refl }) }

pub mode_kind : (p pairs : ℕ) (m : Mode) (g : Form) → m ≡ binding_mode p pairs g → m.kind ≡ 2
unfolding binding_mode
mode_kind p pairs m g e = ap (λ (z : Mode). z.kind) e

pub tape_within : (size t : ℕ) (g actual : Form) (b : Block) → BindRoom size t g actual b → t ≤ size
tape_within size t g actual b room = omega (arith, block_laid size t b room.own.room)

module _ (text : List ℕ) (t : ℕ) (w : List ℕ) (p pairs : ℕ) (g actual : Form) (b : Block) where
  abbrev rs : List Pair
  rs = pairs_at text (part w 0 t) pairs

  abbrev name : Name
  name = name_of text p

  abbrev there : Bool
  there = member name (slot_names (slots_at text w g.parameters g.parameter_count))

  there_meant : (n : Normal) → Stands text (part w 0 t) w g n → member name (slot_names n.visible.parameters) ≡ there
  unfolding visible_at
  there_meant n s = ap (λ (v : Visible). member name (slot_names v.parameters)) (sym s.visible)

  -- 15
  pub no_parameter : (r : Bool) → r ≡ there → r ≡ false → Bound text t w p pairs g actual b (Err (refusal bad_parameter (record { name = p; actual = 0 }))) w
  unfolding bind pick
  no_parameter r known e = record {
    kept = kept_all b.low b.high w;
    made_in = tt;
    made = λ n a s u.
        let missing = there_meant n s ∙ sym known ∙ e in
        refused_makes text (part w 0 t) w (refusal bad_parameter (record { name = p; actual = 0 })) (bind name rs n a) (rw (missing, lone_of text p));
  }

  module _ (m : Mode) (mode : m ≡ binding_mode p pairs g) (r : Bool) (known : r ≡ there) (has : r ≡ true) where
    binds : Binds m g
    unfolding binding_mode
    binds = rw mode (record { kind = refl; table = refl; count = refl })

    has_parameter : (n a : Normal) → Stands text (part w 0 t) w g n → bind name rs n a ≡ bound_to name rs n a
    unfolding bind pick
    has_parameter n a s =
        let found = there_meant n s ∙ sym known ∙ has in rw found

    module _ (n a : Normal) (s : Stands text (part w 0 t) w g n) (u : Stands text (part w 0 t) w actual a) where
      abbrev formal : List Item
      formal = formals name n.visible

      words : pairs_at text (part w 0 t) m.pairs ≡ rs
      unfolding binding_mode
      words = ap (λ (z : Mode). pairs_at text (part w 0 t) z.pairs) mode

      formal_words : formals (name_of text m.parameter) n.visible ≡ formal
      unfolding binding_mode
      formal_words = ap (λ (z : Mode). formals (name_of text z.parameter) n.visible) mode

      table : items_at text (part w 0 t) w m.visible m.count ≡ n.visible.items
      table = table_meant text (part w 0 t) w m g n binds s

      checked_meant : pairs_checked text (part w 0 t) w m actual
          ≡ (pairs_right formal rs n.visible a.visible [] rs >> unless formal_unpaired (unpaired formal rs))
      unfolding pairs_checked
      checked_meant =
          ap₂ (λ (c : Check) (x : Option Name). c >> unless formal_unpaired x)
          (pairs_meant text (part w 0 t) w m n.visible table (visible_at text (part w 0 t) w actual) [] (pairs_at text (part w 0 t) m.pairs)
          ∙ (λ i. pairs_right (formal_words i) (words i) n.visible (u.visible i) [] (words i)))
          (unpaired_meant text (part w 0 t) w m n.visible table ∙ (λ i. unpaired (formal_words i) (words i)))

    -- 22 to 27
    pub wrong_pairs : (v : Verdict) (x : Refusal) → ClauseRight text t w m g actual v → v ≡ Err x
        → Bound text t w p pairs g actual b (Err x) w
    unfolding told bound_to
    wrong_pairs v x e h = record {
      kept = kept_all b.low b.high w;
      made_in = tt;
      made = λ n a s u.
          refused_makes text (part w 0 t) w x (bind name rs n a)
          (has_parameter n a s ∙ both_stop _ _ _ x.number (culprit_of text x.culprit) (sym (checked_meant n a s u) ∙ sym (e.binds binds.kind) ∙ ap (told text) h));
    }

    pub right_pairs : (v : Verdict) (z : Made) (w' : List ℕ) → ClauseRight text t w m g actual v → v ≡ Ok tt
        → BoundForm text t w m g actual b z w' → Bound text t w p pairs g actual b z w'
    unfolding told bound_to binding_mode
    right_pairs v z w' e h x =
        let y = subst (λ (q : Mode). BoundForm text t w q g actual b z w') mode x in
        record {
          kept = x.kept;
          made_in = x.made_in;
          made = λ n a s u.
              let all_fine = sym (checked_meant n a s u) ∙ sym (e.binds binds.kind) ∙ ap (told text) h in
              let pass = then_fine _ _ tt all_fine in
              makes_as text (part w' 0 t) w' z (checked (bound_normal text t w (binding_mode p pairs g) n a)) (bind name rs n a)
              (has_parameter n a s ∙ goes_on _ _ pass.0 ∙ goes_on _ _ pass.1)
              (y.made n a s u (record { right = pass.0; paired = unless_fine _ _ pass.1 }));
        }
