-- Every equation of a form absorbed into another: it stands for the union with what the translation makes of them, as far as there is room.
use Rattle.std.specs.Prelude.{◌≡◌, Bool, ℕ, suc, ◌+◌, ◌-◌, ◌*◌, ◌≤◌, ◌<◌, get_or, take, drop}
use Rattle.std.proofs.Math.Path.{refl, sym, subst}
use Rattle.std.proofs.Common.{ap, ◌∙◌, inr, arith}
use Rattle.std.proofs.Math.Logic.{inl}
use Rattle.std.proofs.Math.Bool.{true, false}
use mathlib.Core.List.{List, [], ◌∷◌, ◌++◌, map, append_assoc}
use Rattle.std.proofs.Math.Dec.{ltb}
use Rattle.std.proofs.Math.ListN.{length, length-append}
use Rattle.std.proofs.lemmas.List.{length-map}
use Rattle.std.proofs.Math.Seq.{take_all}
use borrow.Author.Tests.{ltb-true, ltb-false, le-ltb}
use Rattle.meaning.specs.Lists.{pick, union}
use Rattle.meaning.specs.Names.{Name}
use Rattle.meaning.specs.Numbers.{node_limit}
use Rattle.meaning.specs.Origins.{FunctionType, ResolvedEquation, one_equation}
use Rattle.meaning.specs.Normal.{Normal, move_sides, move_equation}
use Rattle.meaning.specs.Checks.{equation_nodes}
use Rattle.meaning.specs.OrderLaws.{Every}
use Rattle.form_rows.specs.Rows.{row_size}
use Rattle.form.specs.declared.Form.{Form}
use Rattle.form.specs.declared.EquationRow.{EquationRow}
use Rattle.form.specs.Memory.{part, Kept}
use Rattle.form.specs.Forms.{nodes_of, flat_equation, equation_row_at, EquationStands, EquationsStand, Pointing, Stands, equation_words, equation_size, slot_size}
use Rattle.form.specs.FormLaws.{Apart, kept_all, kept_sets, kept_same}
use Rattle.form.specs.Blocks.{Outside}
use Rattle.form.specs.FullLists.{take_union}
use Rattle.form.specs.Frames.{Points, points_at, each_points, Stays, kept_stays, points_stay, node_stays}
use Rattle.form_frames.specs.Changes.{onward, wider, apart_in, tape_kept, still_stands}
use Rattle.unite_nodes.specs.declared.Notes.{Notes}
use Rattle.unite_nodes.specs.Joined.{renode, copied, with_counts, Out, out, settled, joined_row, joined}
use Rattle.unite_nodes.specs.Grown.{copy_kept}
use Rattle.unite_nodes.specs.Found.{VisibleNoted, HiddenNoted, Copy, node_moved, node_pointed}
use Rattle.unite_nodes.specs.Unions.{sum_within, every_after, take_union_then}
use Rattle.unite_nodes.specs.More.{points_more, equations_after}
use Rattle.unite_nodes.specs.Pointed.{noted_stays, renode_stays}
use Rattle.unite_nodes.specs.Copies.{Steady, word_copied, copy_stands}
use Rattle.unite_nodes.specs.Settled.{with_copy, with_more, with_row, with_equations, run_count, settled_cases, grown_stands}

-- f can take up the equations of g under new names: both stand, the notes are right, and the rows and nodes of f lie behind the tape, in
-- this order, apart from all else
pub record Joining (σ : Name → Name) (φ : Name → FunctionType → Name) (text : List ℕ) (t : ℕ) (w : List ℕ) (o : Notes) (g f : Form)
    (from to : Normal) : Type 0 where
  pub source : Stands text (part w 0 t) w g from
  pub target : Stands text (part w 0 t) w f to
  pub visible_noted : VisibleNoted σ φ text (part w 0 t) w o g f
  pub hidden_noted : HiddenNoted σ φ text (part w 0 t) w o g f
  pub tape : t ≤ f.equations
  pub rows : f.equations + o.equation_room * equation_size ≤ f.nodes
  pub nodes : f.nodes + o.node_room ≤ length w
  pub source_nodes : g.nodes + g.node_count ≤ length w
  pub outside_source : Outside f.equations (f.nodes + o.node_room) g
  pub outside_parameters : Apart f.equations (f.nodes + o.node_room) f.parameters (f.parameters + f.parameter_count * slot_size)
  pub outside_visible : Apart f.equations (f.nodes + o.node_room) f.visible (f.visible + f.visible_count * row_size)
  pub outside_hidden : Apart f.equations (f.nodes + o.node_room) f.hidden (f.hidden + f.hidden_count * row_size)
  pub outside_visible_notes : Apart f.equations (f.nodes + o.node_room) o.visible (o.visible + g.visible_count)
  pub outside_hidden_notes : Apart f.equations (f.nodes + o.node_room) o.hidden (o.hidden + g.hidden_count)
  pub enough : o.equation_room * node_limit ≤ o.node_room
  pub few : f.equation_count ≤ o.equation_room

module _ (σ : Name → Name) (φ : Name → FunctionType → Name) (text : List ℕ) (t : ℕ) (o : Notes) (g : Form) (from : Normal) where
  -- what may come of a row: the form, its memory and the equations that it stands for then
  abbrev Then : Normal → Out → List ResolvedEquation → Type 0
  Then to x es = Joining σ φ text t x.work o g x.form from (with_equations to es)

  module _ (w : List ℕ) (f : Form) (to : Normal) (joining : Joining σ φ text t w o g f from to) where
    -- where the rows and nodes of f end, with all their room
    abbrev high : ℕ
    high = f.nodes + o.node_room

    abbrev tape_now : List ℕ
    tape_now = part w 0 t

    -- it goes on while only rows and nodes of f change, and f stands for something
    kept_joining : (w' : List ℕ) (n m : ℕ) (to' : Normal) → Kept f.equations high w w' → n ≤ o.equation_room
        → Stands text (part w' 0 t) w' (with_counts f n m) to' → Joining σ φ text t w' o g (with_counts f n m) from to'
    unfolding with_counts
    kept_joining w' n m to' k l s =
        let low = f.equations in
        record {
          source = still_stands joining.tape k joining.outside_source joining.source;
          target = s;
          visible_noted = subst (λ (tape : List ℕ). VisibleNoted σ φ text tape w' o g f) (sym (tape_kept joining.tape k))
              (noted_stays σ φ text tape_now w w' true o.visible g.visible g.visible_count f.visible f.visible_count
              (kept_same low high _ _ w w' joining.outside_visible_notes k) (kept_same low high _ _ w w' joining.outside_source.visible k)
              (kept_same low high _ _ w w' joining.outside_visible k) joining.visible_noted);
          hidden_noted = subst (λ (tape : List ℕ). HiddenNoted σ φ text tape w' o g f) (sym (tape_kept joining.tape k))
              (noted_stays σ φ text tape_now w w' false o.hidden g.hidden g.hidden_count f.hidden f.hidden_count
              (kept_same low high _ _ w w' joining.outside_hidden_notes k) (kept_same low high _ _ w w' joining.outside_source.hidden k)
              (kept_same low high _ _ w w' joining.outside_hidden k) joining.hidden_noted);
          tape = joining.tape;
          rows = joining.rows;
          nodes = omega (arith, joining.nodes, k.size);
          source_nodes = omega (arith, joining.source_nodes, k.size);
          outside_source = joining.outside_source;
          outside_parameters = joining.outside_parameters;
          outside_visible = joining.outside_visible;
          outside_hidden = joining.outside_hidden;
          outside_visible_notes = joining.outside_visible_notes;
          outside_hidden_notes = joining.outside_hidden_notes;
          enough = joining.enough;
          few = l;
        }

    -- what lies among the rows and nodes, but not in those that f has already
    outside_part : (a e m : ℕ) → f.equations ≤ a → e ≤ high → f.equations + f.equation_count * equation_size ≤ a
        → Apart a e f.nodes (f.nodes + m) → Outside a e (with_counts f f.equation_count m)
    unfolding with_counts
    outside_part a e m h l r p = record {
      parameters = apart_in (record { first = h; last = l }) joining.outside_parameters;
      visible = apart_in (record { first = h; last = l }) joining.outside_visible;
      hidden = apart_in (record { first = h; last = l }) joining.outside_hidden;
      equations = inl r;
      nodes = p;
    }

    -- ---- one row of g, while there is one free in f

    module _ (q : EquationRow) (e : ResolvedEquation) (stands : EquationStands text tape_now w g q e) (small : equation_nodes e ≤ node_limit) where
      abbrev from_place : ℕ
      from_place = g.nodes + q.start

      abbrev to_place : ℕ
      to_place = f.nodes + f.node_count

      abbrev copy_of : List ℕ
      copy_of = copied w o.visible o.hidden from_place to_place q.count

      module _ (free : f.equation_count < o.equation_room) where
        source_count : q.count ≡ equation_nodes e
        source_count = run_count text tape_now w g from_place q.count e (omega (arith, stands.within, joining.source_nodes)) stands.nodes

        fits : f.node_count + q.count ≤ o.node_room
        fits =
            let many = sum_within equation_nodes node_limit to.hidden.equations joining.target.small in
            omega (arith, many, joining.target.node_count, joining.target.equation_count, source_count, small, free, joining.enough)

        copy_wide : (u : List ℕ) → Kept to_place (to_place + q.count) w u → Kept f.equations high w u
        copy_wide u k = wider (omega (arith, joining.rows, fits)) k

        word_points : (i : ℕ) → i < q.count → Points text tape_now w g (get_or w (from_place + i) 0)
        word_points i h =
            let p : g.nodes + (q.start + i) ≡ g.nodes + q.start + i = omega arith in
            subst (λ (m : ℕ). Points text tape_now w g (get_or w m 0)) p
            (points_at text tape_now w g joining.source.pointing (q.start + i) (omega (arith, stands.within)))

        steady : Steady w o.visible o.hidden from_place (from_place + q.count) to_place (to_place + q.count)
        steady u k p l m =
            let low = f.equations in
            let wide = copy_wide u k in
            let z : from_place + (p - from_place) ≡ p = omega arith in
            let word = kept_same low high _ _ w u joining.outside_source.nodes wide p (omega arith) (omega (arith, stands.within)) in
            ap (renode u o.visible o.hidden) word
            ∙ renode_stays text tape_now w u g o.visible o.hidden (get_or w p 0) (kept_same low high _ _ w u joining.outside_visible_notes wide)
            (kept_same low high _ _ w u joining.outside_hidden_notes wide)
            (subst (λ (i : ℕ). Points text tape_now w g (get_or w i 0)) z (word_points (p - from_place) (omega arith)))

        copied_kept : Kept to_place (to_place + q.count) w copy_of
        copied_kept = copy_kept w o.visible o.hidden from_place to_place q.count

        tape_copied : part copy_of 0 t ≡ tape_now
        tape_copied = tape_kept joining.tape (copy_wide copy_of copied_kept)

        outside_copy : Outside to_place (to_place + q.count) f
        unfolding with_counts
        outside_copy =
            outside_part to_place (to_place + q.count) f.node_count
            (omega (arith, joining.rows)) (omega (arith, fits)) (omega (arith, joining.rows, free)) (inl (omega arith))

        target_copied : Stands text (part copy_of 0 t) copy_of f to
        target_copied =
            still_stands {t = t} (omega (arith, joining.tape, joining.rows)) copied_kept outside_copy joining.target

        word_pointed : (i : ℕ) → i < q.count → Points text tape_now w f (renode w o.visible o.hidden (get_or w (from_place + i) 0))
        word_pointed i h =
            node_pointed σ φ text tape_now w o g f (get_or w (from_place + i) 0) joining.visible_noted joining.hidden_noted (word_points i h)

        form_stays : Stays w copy_of f
        form_stays = kept_stays w copy_of to_place (to_place + q.count) f copied_kept outside_copy

        copy_meant : Copy text t copy_of f q (move_equation σ φ e)
        unfolding move_equation
        copy_meant = record {
          home = stands.home;
          position = stands.position;
          fits = omega (arith, joining.nodes, fits, copied_kept.size);
          nodes = subst (λ (tape : List ℕ). nodes_of text tape copy_of f (take q.count (drop to_place copy_of)) ≡ flat_equation (move_equation σ φ e))
              (sym tape_copied)
              (copy_stands σ φ text tape_now w o.visible o.hidden g f q.start q.count e stands.nodes
              (omega (arith, stands.within, joining.source_nodes)) (omega (arith, joining.nodes, fits)) steady
              (λ i h. node_stays text tape_now w copy_of f form_stays (renode w o.visible o.hidden (get_or w (from_place + i) 0)) (word_pointed i h)
              ∙ node_moved σ φ text tape_now w o g f (get_or w (from_place + i) 0) joining.visible_noted joining.hidden_noted (word_points i h)));
        }

        copied_points : (i : ℕ) → i < f.node_count + q.count → Points text (part copy_of 0 t) copy_of f (get_or copy_of (f.nodes + i) 0)
        copied_points i h = go (ltb i f.node_count) refl
          where
            go : (b : Bool) → ltb i f.node_count ≡ b → Points text (part copy_of 0 t) copy_of f (get_or copy_of (f.nodes + i) 0)
            go true d = points_at text (part copy_of 0 t) copy_of f target_copied.pointing i (ltb-true i f.node_count d)
            go false d =
                let l = ltb-false i f.node_count d in
                let k = i - f.node_count in
                let z : f.nodes + i ≡ to_place + k = omega arith in
                let word : get_or copy_of (f.nodes + i) 0 ≡ renode w o.visible o.hidden (get_or w (from_place + k) 0) =
                ap (λ (p : ℕ). get_or copy_of p 0) z
                ∙ word_copied w o.visible o.hidden from_place (from_place + q.count) to_place (to_place + q.count) steady
                w (kept_all _ _ w) from_place to_place q.count k
                (omega arith) (omega arith) (omega arith) (omega arith) (omega (arith, joining.nodes, fits)) (omega arith) in
                subst (λ (tape : List ℕ). Points text tape copy_of f (get_or copy_of (f.nodes + i) 0)) (sym tape_copied)
                (subst (Points text tape_now copy_of f) (sym word) (points_stay text tape_now w copy_of f form_stays _ (word_pointed k (omega arith))))

        pointing_copied : Pointing text (part copy_of 0 t) copy_of (with_copy f q)
        unfolding with_counts
        pointing_copied =
            each_points text (part copy_of 0 t) copy_of (with_copy f q)
            (λ i h. points_more text (part copy_of 0 t) copy_of f f.equation_count (f.node_count + q.count) _ (copied_points i h))

        -- a row that is new
        new_joining : Then to (out (with_more f q) (with_row copy_of f q)) (take o.equation_room (to.hidden.equations ++ (move_equation σ φ e ∷ [])))
        unfolding equation_words move_equation
        new_joining =
            let ds = to.hidden.equations in
            let y = move_equation σ φ e in
            let b = f.equations + f.equation_count * equation_size in
            let w₁ = copy_of in
            let w₂ = with_row copy_of f q in
            let row : Kept f.equations high w₁ w₂ = wider (omega (arith, joining.rows, free)) (kept_sets (equation_words q f.node_count) w₁ b) in
            let kept = onward (copy_wide w₁ copied_kept) row in
            let count = run_count text (part w₁ 0 t) w₁ f to_place q.count y copy_meant.fits copy_meant.nodes in
            let grown = grown_stands text t w₁ f q y copy_meant to target_copied
            stands.tag (stands.conditions ∙ sym (length-map e.conditions (move_sides σ φ)))
            (omega (arith, count, source_count, small)) (omega (arith, joining.rows, joining.nodes, free, copied_kept.size)) pointing_copied
            (outside_part b (b + 6) (f.node_count + q.count)
            (omega arith) (omega (arith, joining.rows, free)) (omega arith) (inr (omega (arith, joining.rows, free)))) in
            kept_joining w₂ (f.equation_count + 1) (f.node_count + q.count) (with_equations to (take o.equation_room (ds ++ (y ∷ []))))
            kept (omega (arith, free))
            (subst (λ (es : List ResolvedEquation). Stands text (part w₂ 0 t) w₂ (with_more f q) (with_equations to es))
            (sym (take_all o.equation_room (ds ++ (y ∷ [])) (omega (arith, length-append ds (y ∷ []), joining.target.equation_count, free))))
            (subst (λ (tape : List ℕ). Stands text tape w₂ (with_more f q) (with_equations to (ds ++ (y ∷ []))))
            (tape_copied ∙ sym (tape_kept joining.tape kept)) grown))

        -- a row that is there
        old_joining : Then to (out f copy_of) (take o.equation_room to.hidden.equations)
        unfolding with_counts
        old_joining =
            kept_joining copy_of f.equation_count f.node_count (with_equations to (take o.equation_room to.hidden.equations))
            (copy_wide copy_of copied_kept) joining.few
            (subst (λ (es : List ResolvedEquation). Stands text (part copy_of 0 t) copy_of f (with_equations to es))
            (sym (take_all o.equation_room to.hidden.equations (omega (arith, joining.target.equation_count, joining.few)))) target_copied)

      abbrev united : List ResolvedEquation
      united = take o.equation_room (union one_equation to.hidden.equations (move_equation σ φ e ∷ []))

      row_joining : Then to (joined_row text t w g q o f) united
      unfolding joined_row pick
      row_joining = go (ltb f.equation_count o.equation_room) refl
        where
          go : (b : Bool) → ltb f.equation_count o.equation_room ≡ b
              → Then to (pick b (pick (ltb o.node_room (f.node_count + q.count)) (out f w) (settled text t copy_of f q)) (out f w)) united
          go true d =
              let free = ltb-true f.equation_count o.equation_room d in
              subst (λ (b : Bool). Then to (pick b (out f w) (settled text t copy_of f q)) united)
              (sym (le-ltb o.node_room (f.node_count + q.count) (fits free)))
              (settled_cases text t copy_of f q (move_equation σ φ e) (copy_meant free) to (target_copied free)
              (λ (x : Out) (es : List ResolvedEquation). Then to x (take o.equation_room es)) (old_joining free) (new_joining free))
          go false d =
              let full : o.equation_room ≤ length to.hidden.equations =
              omega (arith, ltb-false f.equation_count o.equation_room d, joining.target.equation_count) in
              let same = take_union one_equation o.equation_room to.hidden.equations (move_equation σ φ e ∷ []) full
              ∙ take_all o.equation_room to.hidden.equations (omega (arith, joining.target.equation_count, joining.few)) in
              subst (λ (es : List ResolvedEquation). Then to (out f w) es) (sym same) joining

  -- the rows of g from k on
  rows_joining : (k : ℕ) (done rest : List ResolvedEquation) → length done ≡ k → from.hidden.equations ≡ done ++ rest
      → (w : List ℕ) (f : Form) (to : Normal) → Joining σ φ text t w o g f from to
      → Then to (joined text t w g k (length rest) o f) (take o.equation_room (union one_equation to.hidden.equations (map (move_equation σ φ) rest)))
  unfolding joined union
  rows_joining k done [] z s w f to joining =
      subst (λ (es : List ResolvedEquation). Then to (out f w) es)
      (sym (take_all o.equation_room to.hidden.equations (omega (arith, joining.target.equation_count, joining.few)))) joining
  rows_joining k done (e ∷ rest) z s w f to joining =
      let q = equation_row_at w (g.equations + k * equation_size) in
      let ds = to.hidden.equations in
      let y = move_equation σ φ e in
      let r = o.equation_room in
      let behind = equations_after text (part w 0 t) w g g.equations done (e ∷ rest)
      (subst (λ (es : List ResolvedEquation). EquationsStand text (part w 0 t) w g g.equations es) s joining.source.equations) in
      let stands : EquationStands text (part w 0 t) w g q e =
      subst (λ (j : ℕ). EquationStands text (part w 0 t) w g (equation_row_at w (g.equations + j * equation_size)) e) z behind.0 in
      let small = every_after (λ (d : ResolvedEquation). equation_nodes d ≤ node_limit) done (e ∷ rest)
      (subst (Every (λ (d : ResolvedEquation). equation_nodes d ≤ node_limit)) s joining.source.small) in
      let x = joined_row text t w g q o f in
      let rest_of = rows_joining (suc k) (done ++ (e ∷ [])) rest (omega (arith, z, length-append done (e ∷ []))) (s ∙ sym (append_assoc done (e ∷ []) rest))
      x.work x.form (with_equations to (take r (union one_equation ds (y ∷ [])))) (row_joining w f to joining q e stands small.0) in
      subst (λ (es : List ResolvedEquation). Then to (joined text t x.work g (suc k) (length rest) o x.form) es)
      (take_union_then one_equation r ds y (map (move_equation σ φ) rest) (omega (arith, joining.target.equation_count, joining.few))) rest_of

module _ (σ : Name → Name) (φ : Name → FunctionType → Name) (text : List ℕ) (t : ℕ) (w : List ℕ) (o : Notes) (g f : Form) (from to : Normal)
    (joining : Joining σ φ text t w o g f from to) where
  abbrev result : Out
  result = joined text t w g 0 g.equation_count o f

  abbrev united_all : List ResolvedEquation
  united_all = take o.equation_room (union one_equation to.hidden.equations (map (move_equation σ φ) from.hidden.equations))

  -- the source still stands, and the notes are still right
  joined_joining : Joining σ φ text t result.work o g result.form from (with_equations to united_all)
  joined_joining =
      subst (λ (c : ℕ). Joining σ φ text t (joined text t w g 0 c o f).work o g (joined text t w g 0 c o f).form from (with_equations to united_all))
      (sym joining.source.equation_count) (rows_joining σ φ text t o g from 0 [] from.hidden.equations refl refl w f to joining)

  pub joined_stands : Stands text (part result.work 0 t) result.work result.form (with_equations to united_all)
  joined_stands = joined_joining.target
