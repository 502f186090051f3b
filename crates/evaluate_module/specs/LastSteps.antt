-- Step 4: a module's own declarations joined to what it imports, which in order is its normal form. No two hidden items of it are one, and order
-- changes no size.
use Rattle.std.specs.Prelude.{◌≡◌, refl, ℕ, ◌+◌, ◌-◌, ◌≤◌, List, get_or, Ok, Err}
use Rattle.std.proofs.Common.{sym, ap, ◌∙◌, subst₂, arith}
use Rattle.std.proofs.Math.Path.{subst}
use Rattle.meaning.specs.Lists.{sorted}
use Rattle.meaning.specs.Names.{Name, by_bytes}
use Rattle.meaning.specs.Syntax.{Module}
use Rattle.meaning.specs.Origins.{hidden_section, Origin, Item}
use Rattle.meaning.specs.Normal.{Normal, sorts_among}
use Rattle.meaning.specs.Checks as Meaning
use Rattle.meaning.specs.Checks.{Check, Outcome, fine, stop, ◌>>=◌, ◌>>◌, Size, size, equation_nodes}
use Rattle.meaning.specs.Written.{origin_text, equation_order, visible_order, visible_in_order, hidden_order, hidden_in_order, in_order}
use Rattle.meaning.specs.OrderLaws.{sorted_rearranged, sorted_length}
use Rattle.meaning.specs.Evaluate.{Evaluated, named_by, names_right, declared_once, joined_visible, imported, joined_own, evaluate}
use Rattle.laws.specs.OwnItems.{declared_name}
use Rattle.invariants.specs.HiddenItems.{HiddenItem, HiddenSound}
use Rattle.laws.specs.Outcomes.{Gives, gives_bound, gives_after, gives_then, gives_of}
use Rattle.invariants.specs.HiddenEvaluated.{SoundEnvironment, imported_sound, joined_sound}
use Rattle.form.specs.declared.Refusal.{Refusal}
use Rattle.form.specs.declared.Form.{Form}
use Rattle.form.specs.Memory.{part, Kept}
use Rattle.form.specs.FormLaws.{kept_all}
use Rattle.form.specs.Blocks.{Makes, MadeIn}
use Rattle.form.specs.Verdicts.{Made, culprit_of}
use Rattle.form_layout.specs.Layout.{joining_block, second_block, tape_end, Laid}
use Rattle.form_order.specs.Sorting.{every_weaker}
use Rattle.list_keeping.specs.Nodes.{Distinct}
use Rattle.list_keeping.specs.Sound.{sound_distinct}
use Rattle.list_keeping.specs.Keeps.{sum_rearranged}
use Rattle.modules.specs.Modules.{Heads}
use Rattle.unite_checks.specs.Made.{makes_as, refused_outcome, refused_makes, done_outcome, then_stops, then_goes_on, stops, goes_on}
use Rattle.own_completing.specs.declared.Totals.{Totals}
use Rattle.own_completing.specs.Room.{in_room, TotalsRight, StillRight, TotalsMeant}
use Rattle.own_completing.specs.Said.{form_or}
use Rattle.own_completing.specs.Completed.{Joined, all_of, equations_joined, items_checked, joined_all, joined_own_ordered, Counted, own_of, CompleteRoom, MakesIn, ItemsStand, RowsMeant, RowsCounted, ItemsJoined, EquationsJoined}
use Rattle.own_declarations.specs.declared.Own.{Own}
use Rattle.own_items.specs.declared.OwnRows.{OwnRows}
use Rattle.own_equations.specs.Seen.{AllSeen}
use Rattle.evaluate_module.specs.Places.{ModuleAt}
use Rattle.evaluate_module.specs.FirstSteps.{begun}

-- ---- what it asks of the memory, and what comes of it

pub record JoinedRoom (size t : ℕ) (h : Heads) (k : ℕ) (so_far : Made) : Type 0 where
  pub laid : Laid size t
  pub tape : t ≤ tape_end
  pub within : get_or h.places (k + 1) 0 ≤ t
  pub few_entries : get_or h.places (k + 1) 0 - get_or h.places k 0 ≤ 32768
  pub there : MadeIn joining_block so_far

-- module k's entries, with the visible rows of what it imports
abbrev own_at : Heads → ℕ → Form → Own
own_at h k f = own_of (get_or h.places k 0) (get_or h.places (k + 1) 0) f

-- rows are joined only to a form
abbrev pub RowsWithin : Heads → ℕ → Made → Joined → Type 0
RowsWithin h k so_far (Err y) = Unit {0}
RowsWithin h k (Ok f) (Ok counts) = Counted (own_at h k f) f counts
RowsWithin h k (Err y) (Ok counts) = ⊥

pub record FinishedRoom (size t : ℕ) (h : Heads) (k : ℕ) (so_far : Made) (rows : Joined) (totals : Totals) : Type 0 where
  pub joined : JoinedRoom size t h k so_far
  pub rows_within : RowsWithin h k so_far rows
  pub right : TotalsRight totals

-- the own items of the module m stand with what came before, whose outcome is o
pub record RowsStand (text : List ℕ) (t : ℕ) (w : List ℕ) (h : Heads) (k : ℕ) (so_far : Made) (m : Module) (o : Outcome Normal) (counts : OwnRows)
    : Type 0 where
  pub normal : Normal
  pub outcome : o ≡ fine normal
  pub stand : (f : Form) → so_far ≡ Ok f → ItemsStand text t w (own_at h k f) f counts m normal

abbrev pub RowsSo : List ℕ → ℕ → List ℕ → Heads → ℕ → Made → Module → Outcome Normal → Joined → Type 0
RowsSo text t w h k so_far m o (Ok counts) = RowsStand text t w h k so_far m o counts
RowsSo text t w h k so_far m o (Err y) = (o >>= (λ n. items_checked m n)) ≡ stop y.number (culprit_of text y.culprit)

-- for whatever module the tape spells there, and whatever came before
pub record OwnJoined (text : List ℕ) (t : ℕ) (w : List ℕ) (h : Heads) (k : ℕ) (so_far : Made) (r : Joined) (w' : List ℕ) : Type 0 where
  pub kept : Kept joining_block.low second_block.high w w'
  pub rows_within : RowsWithin h k so_far r
  pub so : (m : Module) (o : Outcome Normal) → ModuleAt text (part w 0 t) (get_or h.places k 0) (get_or h.places (k + 1) 0) m → Gives AllSeen o
      → Makes text (part w 0 t) w so_far o → RowsSo text t w' h k so_far m o r

-- M's own declarations joined to what came before
abbrev pub all_joined : Outcome Normal → ℕ → Size → Module → Outcome Normal
all_joined o home total m = o >>= (λ n. joined_all home total m n)

-- for whatever module's own items are joined to whatever came before
pub record Finished (text : List ℕ) (t : ℕ) (w : List ℕ) (h : Heads) (k : ℕ) (so_far : Made) (rows : Joined) (totals : Totals) (r : Made)
    (w' : List ℕ) : Type 0 where
  pub made_in : MadeIn joining_block r
  pub right : StillRight totals r
  pub made : (m : Module) (o : Outcome Normal) (total : Size) → TotalsMeant totals total → RowsSo text t w h k so_far m o rows
      → MakesIn text t joining_block.low second_block.high w w' r (all_joined o k total m)

-- ---- its own items

module _ (text : List ℕ) (t : ℕ) (w : List ℕ) (h : Heads) (k : ℕ) (so_far : Made) where
  pub joined_refused : (y : Refusal) → so_far ≡ Err y → OwnJoined text t w h k so_far (Err y) w
  joined_refused y e = record {
    kept = kept_all joining_block.low second_block.high w;
    rows_within = tt;
    so = λ m o a s x.
        let z = subst (λ (u : Made). Makes text (part w 0 t) w u o) e x in
        then_stops o (λ (n : Normal). items_checked m n) y.number (culprit_of text y.culprit) (refused_outcome text (part w 0 t) w y o z);
  }

  module _ (f : Form) (e : so_far ≡ Ok f) (from end : ℕ) (begins : from ≡ get_or h.places k 0) (ends : end ≡ get_or h.places (k + 1) 0) where
    pub complete_room : (size : ℕ) → JoinedRoom size t h k so_far → CompleteRoom size t from end f
    unfolding tape_end
    complete_room size c = record {
      laid = c.laid;
      short_tape = c.tape;
      few_entries = omega (arith, begins, ends, c.few_entries);
      tape = omega (arith, ends, c.within);
      there = subst (MadeIn joining_block) e c.there;
    }

    same_entries : own_of from end f ≡ own_at h k f
    same_entries = rw (begins, ends)

    joined_within : (r : Joined) → RowsCounted (own_of from end f) f r → RowsWithin h k so_far r
    joined_within (Err y) c = tt
    joined_within (Ok counts) c =
        subst (λ (u : Made). RowsWithin h k u (Ok counts)) (sym e) (subst (λ (u : Own). Counted u f counts) same_entries c)

    joined_so : (w' : List ℕ) (m : Module) (o : Outcome Normal) (n : Normal) → o ≡ fine n → (r : Joined)
        → RowsMeant text t w' (own_of from end f) f m n r → RowsSo text t w' h k so_far m o r
    joined_so w' m o n q (Err y) z = then_goes_on o (λ (a : Normal). items_checked m a) n q ∙ z
    joined_so w' m o n q (Ok counts) z = record {
      normal = n;
      outcome = q;
      stand = λ g d.
          subst (λ (u : Form). ItemsStand text t w' (own_at h k u) u counts m n) (ap (form_or f) (sym e ∙ d))
          (subst (λ (u : Own). ItemsStand text t w' u f counts m n) same_entries z);
    }

    pub joined_done : (r : Joined) (w' : List ℕ) → ItemsJoined text t w from end f r w' → OwnJoined text t w h k so_far r w'
    joined_done r w' y = record {
      kept = y.kept;
      rows_within = joined_within r y.counted;
      so = λ m o a s x.
          let z = done_outcome text (part w 0 t) w f o (subst (λ (u : Made). Makes text (part w 0 t) w u o) e x) in
          joined_so w' m o z.normal z.outcome r (y.meant m z.normal (record {
            imported = z.stands;
            entries = rw begins a.entries;
            whole = rw (begins, ends) a.whole;
            limited = a.limited;
            seen = subst (Gives AllSeen) z.outcome s;
          }));
    }

-- ---- its equations, and all together

checks_stop : (o : Outcome Normal) (home : ℕ) (total : Size) (m : Module) (j : ℕ) (c : Meaning.Culprit) → (o >>= (λ n. items_checked m n)) ≡ stop j c
    → all_joined o home total m ≡ stop j c
unfolding ◌>>=◌ ◌>>◌ joined_all
checks_stop (stop i x) home total m j c e = stops {A = Normal} (stop i x) (stop i x) j c e
checks_stop (fine n) home total m j c e = stops (items_checked m n) (equations_joined home total m n) j c e

module _ (text : List ℕ) (t : ℕ) (w : List ℕ) (h : Heads) (k : ℕ) (so_far : Made) (rows : Joined) (totals : Totals) where
  pub finished_refused : (y : Refusal) → rows ≡ Err y → Finished text t w h k so_far rows totals (Err y) w
  finished_refused y e = record {
    made_in = tt;
    right = tt;
    made = λ m o total q s. record {
      makes = refused_makes text (part w 0 t) w y (all_joined o k total m)
          (checks_stop o k total m y.number (culprit_of text y.culprit) (subst (RowsSo text t w h k so_far m o) e s));
      kept = tt;
    };
  }

  module _ (counts : OwnRows) (e : rows ≡ Ok counts) where
    pub finished_never : (size : ℕ) (y : Refusal) (r : Made) → so_far ≡ Err y → FinishedRoom size t h k so_far rows totals
        → Finished text t w h k so_far rows totals r w
    finished_never size y r d c = absurd (subst₂ (RowsWithin h k) d e c.rows_within)

    module _ (f : Form) (d : so_far ≡ Ok f) (from end : ℕ) (begins : from ≡ get_or h.places k 0) (ends : end ≡ get_or h.places (k + 1) 0) where
      same_own : own_of from end f ≡ own_at h k f
      same_own = same_entries text t w h k so_far f d from end begins ends

      pub equations_room : (size : ℕ) → FinishedRoom size t h k so_far rows totals → CompleteRoom size t from end f
      equations_room size c = complete_room text t w h k so_far f d from end begins ends size c.joined

      pub equations_counted : (size : ℕ) → FinishedRoom size t h k so_far rows totals → Counted (own_of from end f) f counts
      equations_counted size c = subst (λ (u : Own). Counted u f counts) (sym same_own) (subst₂ (RowsWithin h k) d e c.rows_within)

      pub equations_right : (size : ℕ) → FinishedRoom size t h k so_far rows totals → TotalsRight totals
      equations_right size c = c.right

      pub finished_done : (r : Made) (w' : List ℕ)
          → EquationsJoined text t w k (own_of from end f) f counts joining_block second_block.high totals r w'
          → Finished text t w h k so_far rows totals r w'
      unfolding joined_all
      finished_done r w' y = record {
        made_in = y.made_in;
        right = y.right;
        made = λ m o total q s.
            let z = subst (RowsSo text t w h k so_far m o) e s in
            let n = z.normal in
            let there = subst (λ (u : Own). ItemsStand text t w u f counts m n) (sym same_own) (z.stand f d) in
            let b = y.made m n total q there.prepared in
            record {
              makes = makes_as text (part w' 0 t) w' r (equations_joined k total m n) (all_joined o k total m)
                  (then_goes_on o (λ (a : Normal). joined_all k total m a) n z.outcome
                  ∙ goes_on (items_checked m n) (equations_joined k total m n) there.checked) b.makes;
              kept = b.kept;
            };
      }

-- ---- the outcome of all steps

pub steps_ordered : (declared earlier : List Name) (home : ℕ) (total : Size) (env : List Evaluated) (m : Module)
    → evaluate declared earlier home total env m ≡ (all_joined (begun declared earlier env m) home total m >>= (λ a. fine (in_order a)))
unfolding evaluate begun ◌>>=◌ ◌>>◌
steps_ordered declared earlier home total env m = go (names_right declared earlier (named_by m)) (declared_once m) (imported env m.imports)
  where
    go : (a b : Check) (o : Outcome Normal)
        → (a >> (b >> (o >>= (λ n. joined_own home total m n)))) ≡ (all_joined ((a >> b) >> o) home total m >>= (λ n. fine (in_order n)))
    go (stop j w) b o = refl
    go (fine u) (stop j w) o = refl
    go (fine u) (fine v) (stop j w) = refl
    go (fine u) (fine v) (fine n) = joined_own_ordered home total m n

-- ---- hidden items

module _ (declared earlier : List Name) (env : List Evaluated) (sound : SoundEnvironment env) (home : ℕ) (total : Size) (m : Module) where
  joined_all_sound : Gives HiddenSound (all_joined (begun declared earlier env m) home total m)
  unfolding begun joined_all equations_joined in_room all_of
  joined_all_sound =
      gives_bound HiddenSound HiddenSound _ _ (gives_then HiddenSound _ _ (λ c. imported_sound env sound m.imports)) (λ n h.
      gives_then HiddenSound _ _ (λ c. gives_after HiddenSound _ _ (λ rs e. gives_then HiddenSound _ _ (λ r. gives_then HiddenSound _ _ (λ t.
      joined_sound m n (joined_visible m n.visible) rs h)))))

  pub joined_distinct : (a : Normal) → all_joined (begun declared earlier env m) home total m ≡ fine a → Distinct a.hidden.items
  joined_distinct a e =
      let s : HiddenSound a = gives_of HiddenSound _ a joined_all_sound e in
      sound_distinct (λ (o : Origin). declared_name o.declared) a.hidden.items (record {
        standing = every_weaker HiddenItem (λ (i : Item). i.standing ≡ hidden_section) (λ i h. h.standing) a.hidden.items s.every;
        named = every_weaker HiddenItem (λ (i : Item). i.name ≡ declared_name i.origin.declared) (λ i h. h.name) a.hidden.items s.every;
        apart = s.distinct;
      })

-- ---- sizes

pub ordered_size : (n : Normal) → size (in_order n) ≡ size n
unfolding size in_order visible_in_order hidden_in_order
ordered_size n =
    let sorts = by_bytes (λ (x : Item). origin_text x.origin) (sorts_among n.hidden.items) in
    let items = sorted (hidden_order sorts) n.hidden.items in
    let order = equation_order items in
    λ i. record {
      items = sorted_length visible_order n.visible.items i + sorted_length (hidden_order sorts) n.hidden.items i;
      equations = sorted_length order n.hidden.equations i;
      nodes = sym (sum_rearranged equation_nodes (sorted_rearranged order n.hidden.equations)) i;
    }
