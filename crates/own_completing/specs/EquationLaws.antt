-- The equations stage: a module's equations typed, and all joined.
use Rattle.std.specs.Prelude.{◌≡◌, List, ℕ, ◌+◌, ◌≤◌, Result, Ok, Err}
use Rattle.std.proofs.Math.Path.{refl, ap}
use Rattle.std.proofs.Common.{sym, ◌∙◌, subst, arith}
use Rattle.std.proofs.Math.Logic.{inl}
use Rattle.std.proofs.Math.ListN.{length, length-append}
use Rattle.meaning.specs.Lists.{each}
use Rattle.meaning.specs.Names.{Name}
use Rattle.meaning.specs.Syntax.{Module}
use Rattle.meaning.specs.Origins.{ResolvedEquation}
use Rattle.meaning.specs.Normal.{Visible, Normal}
use Rattle.meaning.specs.Checks.{Outcome, fine, stop, ◌>>=◌, Size}
use Rattle.meaning.specs.Own.{own_hidden_items}
use Rattle.meaning.specs.Evaluate.{seen_sorts, joined_visible, own_equations, joined_hidden}
use Rattle.tape.specs.Tape.{flat_equation}
use Rattle.form.specs.declared.Form.{Form}
use Rattle.form.specs.declared.Block.{Block}
use Rattle.form.specs.declared.Refusal.{Refusal}
use Rattle.form.specs.Verdicts.{Made}
use Rattle.form.specs.Memory.{part, Kept}
use Rattle.form.specs.Forms.{visible_at, Stands}
use Rattle.form_frames.specs.Changes.{onward, wider, outside, still_stands}
use Rattle.form.specs.Blocks.{Outside, Makes, MadeIn}
use Rattle.own_declarations.specs.declared.Own.{Own}
use Rattle.own_items.specs.declared.OwnRows.{OwnRows}
use Rattle.own_typing.specs.declared.Equated.{Equated}
use Rattle.own_typing.specs.Typed.{with_equations, own_made, OwnLaid, OwnTyped}
use Rattle.own_equations.specs.Placed.{in_front, module_split, equations_size}
use Rattle.own_equations.specs.Own.{Owned, owned, own_at, own_form, own_equations_stand}
use Rattle.own_equations.specs.Seen.{joined_seen}
use Rattle.unite.specs.United.{with_items}
use Rattle.unite.specs.Standing.{stands_more}
use Rattle.own_completing.specs.declared.Totals.{Totals}
use Rattle.own_completing.specs.Hidden.{JoinRoom}
use Rattle.own_completing.specs.Room.{StillRight, TotalsMeant, in_room}
use Rattle.own_completing.specs.Said.{said_form, SaidRoom, form_or, IsDone, RoomMade, MadeJoined}
use Rattle.own_completing.specs.Completed.{all_of, equations_joined, Rooms, Counted, KeptDone, MakesIn, Prepared, EquationsJoined}

-- ---- what is made of a form is that form with equations

made_form : (f g : Form) (a : Result Equated ℕ) → Ok g ≡ own_made f a → g ≡ with_equations f g.equation_count g.node_count
unfolding own_made
made_form f g (Err tag) e = absurd (subst IsDone e tt)
made_form f g (Ok a) e =
    let is = ap (form_or g) e in is ∙ sym (ap (λ (z : Form). with_equations f z.equation_count z.node_count) is)

pub kept_done : (low high : ℕ) (w w' : List ℕ) (r : Made) → Kept low high w w' → KeptDone low high w w' r
kept_done low high w w' (Ok f) k = k
kept_done low high w w' (Err x) l = tt

-- ---- one outcome after the other

module _ (text : List ℕ) {A : Type 0} (h : A → Normal) (then : A → Outcome Normal) (tape w tape' w' : List ℕ) where
  refused_on : (o : Outcome A) (x : Refusal) → Makes text tape w (Err x) (o >>= (λ a. fine (h a)))
      → Makes text tape' w' (Err x) (o >>= then)
  unfolding ◌>>=◌
  refused_on (fine a) x m = absurd m
  refused_on (stop j c) x m = m

  done_on : (o : Outcome A) (g : Form) (r : Made) → Makes text tape w (Ok g) (o >>= (λ a. fine (h a)))
      → ((a : A) → Stands text tape w g (h a) → Makes text tape' w' r (then a)) → Makes text tape' w' r (o >>= then)
  unfolding ◌>>=◌
  done_on (fine a) g r m more = more a m
  done_on (stop j c) g r m more = absurd m

-- ---- places

module _ (t : ℕ) (own : Own) (f : Form) (counts : OwnRows) (b : Block) (scratch : ℕ) (few : Counted own f counts) where
  abbrev said : Form
  said = said_form f counts scratch

  abbrev seen_now : Form
  seen_now = with_items f counts.parameter_count counts.visible_count f.hidden_count

  module _ (size : ℕ) (room : Rooms size t own f b scratch) where
    pub said_room : SaidRoom f counts scratch
    said_room = omega (arith, room, few)

    pub typed_few : said.visible_count + said.hidden_count ≤ 65536
    unfolding said_form
    typed_few = omega (arith, few, room)

    join_room : (g : Form) → g ≡ with_equations said g.equation_count g.node_count → JoinRoom size t g seen_now b
    unfolding said_form with_items
    join_room g e =
        let equations : g.equations ≡ scratch = ap (λ (z : Form). z.equations) e in
        let nodes : g.nodes ≡ scratch + 65536 = ap (λ (z : Form). z.nodes) e in
        let hidden : g.hidden_count ≡ counts.hidden_count = ap (λ (z : Form). z.hidden_count) e in
        record {
          names = 32776;
          rows = 33280;
          sources = 33280;
          laid = room.laid;
          inside = omega (arith, room, few);
          few_rows = omega arith;
          enough_notes = omega arith;
          enough_equations = room.enough_equations;
          same_names = ap (λ (z : Form). z.parameters) e;
          same_name_count = ap (λ (z : Form). z.parameter_count) e;
          same_rows = ap (λ (z : Form). z.visible) e;
          same_row_count = ap (λ (z : Form). z.visible_count) e;
          own_rows = ap (λ (z : Form). z.hidden) e;
          own_row_count = omega (arith, room, few, hidden);
          own_equations = omega (arith, room.behind, equations);
          own_nodes = omega (arith, room.behind, nodes);
          own_node_room = omega (arith, room.scratch_room, nodes);
        }

  module _ (text : List ℕ) (w : List ℕ) (home : ℕ) (room : Rooms (length w) t own f b scratch) (made : Made) (w₁ : List ℕ)
      (typed : owned made w₁ ≡ own_at text t said home own.from own.end w) where
    said_with : (g : Form) → made ≡ Ok g → g ≡ with_equations said g.equation_count g.node_count
    unfolding own_at
    said_with g e = made_form said g _ (sym e ∙ ap (λ (x : Owned). x.answer) typed)

    pub room_made : (size : ℕ) (seen : Form) → size ≡ length w → seen ≡ seen_now → RoomMade size t made seen b
    room_made size seen e q = rw (e, q) (record { room = λ g d. join_room (length w) room g (said_with g d) })

    -- ---- what the equations are typed into

    module _ (m : Module) (n : Normal) (p : Prepared text t w own f counts m n) where
      abbrev v : Visible
      v = joined_visible m n.visible

      abbrev sorts : List Name
      sorts = seen_sorts m n.visible

      own_laid : OwnLaid text t said v (own_hidden_items m sorts) (length m.equations) (length (each flat_equation m.equations)) (scratch + 131072) w
      unfolding said_form visible_at
      own_laid =
          let laid = room.laid in
          let lies = room.there.lies in
          let fits = room.there.fits in
          let entries = room.few_entries in
          let es = each flat_equation m.equations in
          let whole = ap length (module_split m) ∙ length-append (in_front m) es in
          let many : length es ≤ 32768 = omega (arith, whole, p.joined.imported.end, entries) in
          let names = p.joined.parameters in
          let items = rw room.rows at p.joined.visible in
          record {
            tape = omega (arith, laid, room.behind);
            behind = refl;
            items_apart = inl (omega (arith, laid, lies.visible, few.rows, fits.items, entries, room.behind));
            names_apart = inl (omega (arith, laid, lies.parameters, few.names, fits.parameters, entries, room.behind));
            rows = omega (arith, equations_size m.equations, many);
            nodes = omega (arith, many);
            inside = room.scratch_room;
            size = omega (arith, room.small);
            visible = λ i. record { parameters = names i; items = items i };
            hidden_items = rw room.rows at p.joined.hidden;
          }

      typed_meant : OwnTyped text t said (scratch + 131072) w w₁ made (own_equations home m sorts v >>= (λ rs. fine (own_form m sorts v rs)))
      typed_meant =
          own_equations_stand text t said home own.from own.end (scratch + 131072) w m sorts v own_laid (joined_seen m n.visible p.seen)
          p.joined.imported.entries (sym p.joined.imported.end) room.tape p.limited.equations made w₁ typed

      module _ (c k : ℕ) (kept : Kept scratch (scratch + 131072) w w₁) (rs : List ResolvedEquation)
          (s : Stands text (part w₁ 0 t) w₁ (with_equations said c k) (own_form m sorts v rs)) where
        scratch_outside : Outside scratch (scratch + 131072) f
        scratch_outside = outside (omega (arith, room))

        imported_still : Stands text (part w₁ 0 t) w₁ f n
        imported_still = still_stands {t = t} (omega (arith, room)) kept scratch_outside p.imported

        -- what is imported, with all that the module sees
        seen_stands : Stands text (part w₁ 0 t) w₁ seen_now (record { visible = v; hidden = n.hidden })
        unfolding visible_at said_form own_form
        seen_stands =
            stands_more text (part w₁ 0 t) w₁ f counts.parameter_count counts.visible_count f.hidden_count few.more_rows (omega arith) n
            v.parameters v.items n.hidden.items imported_still
            (ap (λ (u : Visible). u.parameters) s.visible) (ap (λ (u : Visible). u.items) s.visible) imported_still.hidden

    -- ---- joined

    module _ (totals : Totals) (r : Made) (w' : List ℕ) (x : MadeJoined text t w₁ made seen_now b totals r w') where
      joined_in : MadeIn b r
      joined_in = go made refl
        where
          go : (a : Made) → made ≡ a → MadeIn b r
          go (Err y) e = subst (MadeIn b) (sym (x.refused y e)) tt
          go (Ok g) e = (x.done g e).made_in

      joined_right : StillRight totals r
      joined_right = go made refl
        where
          go : (a : Made) → made ≡ a → StillRight totals r
          go (Err y) e = subst (StillRight totals) (sym (x.refused y e)) tt
          go (Ok g) e = (x.done g e).right

      joined_meant : (m : Module) (n : Normal) (total : Size) → TotalsMeant totals total → Prepared text t w own f counts m n
          → MakesIn text t b.low (scratch + 131072) w w' r (equations_joined home total m n)
      unfolding equations_joined all_of joined_hidden own_form said_form
      joined_meant m n total e p = go made refl (typed_meant m n p)
        where
          o : Outcome (List ResolvedEquation)
          o = own_equations home m (seen_sorts m n.visible) (joined_visible m n.visible)

          h : List ResolvedEquation → Normal
          h rs = own_form m (seen_sorts m n.visible) (joined_visible m n.visible) rs

          go : (a : Made) → made ≡ a → OwnTyped text t said (scratch + 131072) w w₁ made (o >>= (λ rs. fine (h rs)))
              → MakesIn text t b.low (scratch + 131072) w w' r (o >>= (λ rs. in_room total (all_of m n rs)))
          go (Err y) q z =
              let is = x.refused y q in
              subst (λ (u : Made). MakesIn text t b.low (scratch + 131072) w w' u (o >>= (λ rs. in_room total (all_of m n rs)))) (sym is)
              (record {
                makes = refused_on text h (λ rs. in_room total (all_of m n rs)) (part w₁ 0 t) w₁ (part w' 0 t) w' o y
                    (subst (λ (u : Made). Makes text (part w₁ 0 t) w₁ u (o >>= (λ rs. fine (h rs)))) q z.makes);
                kept = tt;
              })
          go (Ok g) q z =
              let c = g.equation_count in
              let k = g.node_count in
              let is : made ≡ Ok (with_equations said c k) = q ∙ ap Ok (said_with g q) in
              let there = subst (λ (u : Made). OwnTyped text t said (scratch + 131072) w w₁ u (o >>= (λ rs. fine (h rs)))) is z in
              let kept = there.made.1 in
              let nodes = there.made.2 in
              let y = x.done (with_equations said c k) is in
              record {
                makes = done_on text h (λ rs. in_room total (all_of m n rs)) (part w₁ 0 t) w₁ (part w' 0 t) w' o (with_equations said c k) r there.makes
                    (λ rs s. y.made (omega (arith, nodes)) (h rs) (record { visible = joined_visible m n.visible; hidden = n.hidden }) total e s
                    (seen_stands m n p c k kept rs s));
                kept = kept_done b.low (scratch + 131072) w w' r
                    (onward (wider (omega (arith, room)) kept) (wider (omega (arith, room.behind)) y.kept));
              }

      pub equations_completed : EquationsJoined text t w home own f counts b (scratch + 131072) totals r w'
      equations_completed = record { made_in = joined_in; right = joined_right; made = joined_meant }
