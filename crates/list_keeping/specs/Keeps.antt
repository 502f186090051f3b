-- A form copied in order stands for the normal form in order.
use Rattle.std.specs.Prelude.{◌≡◌, ◌⊎◌, Bool, true, ℕ, zero, suc, ◌+◌, ◌-◌, ◌*◌, ◌/◌, ◌≤◌, ◌<◌, length, take, drop}
use Rattle.std.proofs.Math.Path.{refl, sym, ap, ap₂}
use Rattle.std.proofs.Common.{subst, ◌∙◌, ⊎_elim, inl, inr, arith, add-zero, length-take, length-drop}
use mathlib.Core.List.Permᴰ
use mathlib.Core.List.{List, [], ◌∷◌, ◌++◌, map}
use Rattle.std.proofs.Math.ListN.{get_or}
use Rattle.std.proofs.Math.Seq.{take_all}
use Rattle.meaning.specs.Lists.{place_in, sorted_onto, sorted, sum}
use Rattle.meaning.specs.Names.{by_name, by_bytes}
use Rattle.meaning.specs.Numbers.{node_limit}
use Rattle.meaning.specs.Origins.{export_section, declared_sort, Origin, visible_sort, var, ResolvedSides, ResolvedEquation, Item}
use Rattle.meaning.specs.Normal.{Slot, Visible, Normal, sorts_among}
use Rattle.meaning.specs.Written.{origin_text, equation_text, equation_order, visible_order, hidden_order, visible_in_order, hidden_in_order, in_order}
use Rattle.meaning.specs.Checks.{equation_nodes}
use Rattle.meaning.specs.OrderLaws.{Every, Rearranged, placed_rearranged, rearranged_every, sorted_rearranged, sorted_length, sorted_map, pairwise_rearranged}
use Rattle.meaning.specs.ListingOrder.{Place, place_order}
use Rattle.form_rows.specs.Rows.{words_from, item_of, row_size}
use Rattle.form.specs.declared.Form.{Form}
use Rattle.form.specs.declared.EquationRow.{EquationRow}
use Rattle.form.specs.Memory.{part, Same, Kept, KeptTwo}
use Rattle.form.specs.Forms.{slots_at, items_at, visible_at, equation_row_at, EquationStands, EquationsStand, Pointing, Stands, equation_size}
use Rattle.form.specs.FormLaws.{Apart, slots_same, items_same, equation_row_same, kept_same}
use Rattle.form.specs.Frames.{points_at, Stays, points_stay}
use Rattle.form_frames.specs.Changes.{wider, apart_in, at_first, onward_two, wider_two, tape_kept_two}
use Rattle.form_order.specs.Order.{upto}
use Rattle.form_order.specs.Sorting.{placed_alike, every_weaker, below_upto}
use Rattle.form_order.specs.Ordered.{row_item, map_more}
use Rattle.unite_nodes.specs.Joined.{renode}
use Rattle.unite_nodes.specs.Grown.{copy_kept}
use Rattle.unite_nodes.specs.Copies.{Steady, word_copied}
use Rattle.unite_nodes.specs.Pointed.{renode_stays}
use Rattle.list_terms.specs.Terms.{equation_at}
use Rattle.list_order.specs.declared.Table.{Table}
use Rattle.list_order.specs.declared.Table.TheVariants.{Equations}
use Rattle.list_texts.specs.Parts.{line_size}
use Rattle.list_order.specs.Orders.{row_place, row_order, is_listed}
use Rattle.list_order.specs.Arranged.{low_word, first_word, all_numbers}
use Rattle.list_keeping.specs.Kept.{ItemNoted, sorts_in_order, KeepRoom, scratch_end, order_place, ItemsKept, EquationsKept, renumbered, source_stays}
use Rattle.list_keeping.specs.Nodes.{kept_form, Distinct, pointing_kept, equation_kept, line_kept}
use Rattle.list_order.specs.Lines.{line_short}
use Rattle.form_rows.specs.RowLaws.{row_same}

-- ---- lists

-- orders that agree on what is sorted sort alike
module _ {A : Type 0} (P : A → Type 0) (le le' : A → A → Bool) (agree : (a b : A) → P a → P b → le a b ≡ le' a b) where
  sorted_alike : (done xs : List A) → Every P done → Every P xs → sorted_onto le done xs ≡ sorted_onto le' done xs
  unfolding sorted_onto
  sorted_alike done [] d h = refl
  sorted_alike done (x ∷ xs) d h =
      sorted_alike (place_in le x done) xs (rearranged_every P (placed_rearranged le x done) (h.0, d)) h.1
      ∙ ap (λ (ys : List A). sorted_onto le' ys xs) (placed_alike le' le x done (every_weaker P (λ y. le y x ≡ le' y x) (λ y q. agree y x q h.0) done d))

pub sum_rearranged : {A : Type 0} (f : A → ℕ) {xs ys : List A} → Rearranged xs ys → sum f xs ≡ sum f ys
unfolding sum
sum_rearranged f Permᴰ.nil = refl
sum_rearranged f (Permᴰ.cons e d) = ap₂ (λ (m n : ℕ). m + n) (ap f e) (sum_rearranged f d)
sum_rearranged f (Permᴰ.swap {l = l} e g) = omega (arith, ap f e, ap f g)
sum_rearranged f (Permᴰ.trans d d') = sum_rearranged f d ∙ sum_rearranged f d'

take_more : {A : Type 0} (xs : List A) (n : ℕ) (d : A) → n < length xs → take (suc n) xs ≡ take n xs ++ (get_or xs n d ∷ [])
take_more [] n d h = absurd (omega arith)
take_more (x ∷ xs) zero d h = refl
take_more {A} (x ∷ xs) (suc n) d h = ap (λ (ys : List A). x ∷ ys) (take_more xs n d (omega arith))

-- the items of a list by their places
by_places : {A : Type 0} (xs : List A) (d : A) (n : ℕ) → n ≤ length xs → map (λ (i : ℕ). get_or xs i d) (upto n) ≡ take n xs
unfolding upto
by_places xs d zero h = refl
by_places {A} xs d (suc n) h =
    map_more (λ (i : ℕ). get_or xs i d) (upto n) n ∙ ap (λ (ys : List A). ys ++ (get_or xs n d ∷ [])) (by_places xs d n (omega arith))
    ∙ sym (take_more xs n d h)

every_place : {A : Type 0} (P : A → Type 0) (xs : List A) (d : A) (i : ℕ) → Every P xs → i < length xs → P (get_or xs i d)
every_place P [] d i h l = absurd (omega arith)
every_place P (x ∷ xs) d zero h l = h.0
every_place P (x ∷ xs) d (suc i) h l = every_place P xs d i h.1 (omega arith)

-- ---- equations by their rows

blank : ResolvedEquation
blank =
    let o : Origin = record { home = []; section = export_section; declared = declared_sort [] } in
    let s : ResolvedSides = record { left = var o (visible_sort []); right = var o (visible_sort []) } in
    record { module_number = 0; position = 0; tag = []; conclusion = s; conditions = [] }

row_stands : (text tape w : List ℕ) (f : Form) (b : ℕ) (es : List ResolvedEquation) (i : ℕ) → EquationsStand text tape w f b es → i < length es
    → EquationStands text tape w f (equation_row_at w (b + i * equation_size)) (get_or es i blank)
row_stands text tape w f b [] i s h = absurd (omega arith)
row_stands text tape w f b (e ∷ es) zero s h = let z : b + 0 * equation_size ≡ b = omega arith in rw z s.0
row_stands text tape w f b (e ∷ es) (suc i) s h =
    let z : b + suc i * equation_size ≡ b + equation_size + i * equation_size = omega arith in
    rw z (row_stands text tape w f (b + equation_size) es i s.1 (omega arith))

rows_stand : (text tape w : List ℕ) (f : Form) (eq : ℕ → ResolvedEquation) (b o c : ℕ)
    → ((i : ℕ) → i < c → EquationStands text tape w f (equation_row_at w (b + i * equation_size)) (eq (get_or w (o + i) 0)))
    → EquationsStand text tape w f b (map eq (words_from w o c))
unfolding words_from
rows_stand text tape w f eq b o zero h = tt
rows_stand text tape w f eq b o (suc c) h =
    let z : b + 0 * equation_size ≡ b = omega arith in
    let y : o + 0 ≡ o = add-zero o in (
      rw (z, y) at (h 0 (omega arith)),
      rows_stand text tape w f eq (b + equation_size) (suc o) c (λ i l.
          let p : b + suc i * equation_size ≡ b + equation_size + i * equation_size = omega arith in
          let q : o + suc i ≡ suc o + i = omega arith in
          rw (p, q) at (h (suc i) (omega arith))),
    )

equation_row_moved : (w u : List ℕ) (b c : ℕ) → ((j : ℕ) → j < 8 → get_or u (c + j) 0 ≡ get_or w (b + j) 0) → equation_row_at u c ≡ equation_row_at w b
unfolding equation_row_at
equation_row_moved w u b c h =
    let first = first_word w u b c (h 0 (omega arith)) in
    λ i. record {
      home = first i;
      position = h 1 (omega arith) i;
      tag = h 2 (omega arith) i;
      conditions = h 3 (omega arith) i;
      start = h 4 (omega arith) i;
      count = h 5 (omega arith) i;
    }

-- ---- notes that stay

noted_stays : (text : List ℕ) (t from n to notes : ℕ) (w u z : List ℕ) → Same to (to + n * row_size) u z → Same notes (notes + n) u z → (r : ℕ) → r < n
    → ItemNoted text t from n to notes w u r → ItemNoted text t from n to notes w z r
noted_stays text t from n to notes w u z table noting r h p =
    let x = get_or u (notes + r) 0 in
    let note : get_or z (notes + r) 0 ≡ x = noting (notes + r) (omega arith) (omega arith) in
    let inside : x < n = p.inside in
    record {
      inside = omega (arith, note);
      same = ap (row_item text (part w 0 t) z to) note
          ∙ ap (item_of text (part w 0 t)) (row_same u z (to + x * row_size) (λ i a b. table i (omega arith) (omega arith))) ∙ p.same;
    }

-- ---- the form

module _ (text : List ℕ) (t : ℕ) (f k : Form) (p order : ℕ) (w u w' : List ℕ) (room : KeepRoom (length w) t f k p order)
    (items : ItemsKept text t f k p order w u) (equations : EquationsKept text t f k p order u w') where
  abbrev tape : List ℕ
  tape = part w 0 t

  abbrev x : List ℕ
  x = renumbered f k p u

  abbrev low : List ℕ
  low = part x 0 order

  abbrev hidden_notes : ℕ
  hidden_notes = p + f.visible_count

  abbrev last : ℕ
  last = k.nodes + f.node_count

  -- ---- what stays from step to step

  copy_stays : Kept (k.nodes + 0) (k.nodes + 0 + f.node_count) u x
  copy_stays = copy_kept u p hidden_notes (f.nodes + 0) (k.nodes + 0) f.node_count

  source_stay : Stays w u f
  source_stay = record {
    size = items.kept.size;
    visible = source_stays room items.kept f.visible (f.visible + f.visible_count * row_size) room.outside.visible room.visible_before;
    hidden = source_stays room items.kept f.hidden (f.hidden + f.hidden_count * row_size) room.outside.hidden room.hidden_before;
    nodes = source_stays room items.kept f.nodes (f.nodes + f.node_count) room.outside.nodes room.nodes_before;
  }

  source_copied : (b e : ℕ) → Apart k.parameters last b e → e ≤ p → Same b e w x
  source_copied b e apart h i l m =
      kept_same (k.nodes + 0) (k.nodes + 0 + f.node_count) b e u x
      (apart_in (omega (arith, room)) apart) copy_stays i l m ∙ source_stays room items.kept b e apart h i l m

  pub form_kept : KeptTwo k.parameters last p (scratch_end f order) w w'
  form_kept =
      onward_two (onward_two (wider_two (omega (arith, room)) (omega arith) items.kept) (at_first (wider (omega (arith, room)) copy_stays)))
      (wider_two (omega (arith, room)) (omega (arith, room)) equations.sorted.kept)

  module _ (n : Normal) (stands : Stands text (part w 0 t) w f n) (distinct : Distinct n.hidden.items) where
    abbrev ordered : List Item
    ordered = (hidden_in_order n.hidden).items

    in_order_there : items_at text tape u k.hidden f.hidden_count ≡ ordered
    unfolding hidden_in_order sorts_in_order
    in_order_there = items.hidden ∙ ap (λ (is : List Item). sorted (hidden_order (sorts_in_order is)) is) stands.hidden

    distinct_ordered : Distinct ordered
    unfolding hidden_in_order
    distinct_ordered =
        pairwise_rearranged (λ (a b : Item). a.origin ≡ b.origin → a.shape ≡ b.shape → ⊥) (λ a b h e d. h (sym e) (sym d))
        (sorted_rearranged (hidden_order (by_bytes (λ (i : Item). origin_text i.origin) (sorts_among n.hidden.items))) n.hidden.items) distinct

    -- a memory that has the copied nodes, the items and the notes
    module _ (z : List ℕ) (long : p ≤ length z)
        (near : (i : ℕ) → i < order → (i < k.equations) ⊎ (k.nodes ≤ i) → get_or z i 0 ≡ get_or x i 0) where
      from_items : (i : ℕ) → i < order → (i < k.equations) ⊎ (last ≤ i) → get_or z i 0 ≡ get_or u i 0
      from_items i h (inl q) = near i h (inl q) ∙ copy_stays.below i (omega (arith, room.equations))
      from_items i h (inr q) = near i h (inr (omega arith)) ∙ copy_stays.above i (omega arith)

      visible_table : Same k.visible (k.visible + f.visible_count * row_size) u z
      visible_table i h l =
          from_items i (omega (arith, room.visible, room.hidden, room.equations, room.nodes, room.notes))
          (inl (omega (arith, room.visible, room.hidden)))

      hidden_table : Same k.hidden (k.hidden + f.hidden_count * row_size) u z
      hidden_table i h l = from_items i (omega (arith, room.hidden, room.equations, room.nodes, room.notes)) (inl (omega (arith, room.hidden)))

      visible_noting : Same p (p + f.visible_count) u z
      visible_noting i h l = from_items i (omega (arith, room.notes)) (inr (omega (arith, room.nodes)))

      hidden_noting : Same hidden_notes (hidden_notes + f.hidden_count) u z
      hidden_noting i h l = from_items i (omega (arith, room.notes)) (inr (omega (arith, room.nodes)))

      visible_noted : (r : ℕ) → r < f.visible_count → ItemNoted text t f.visible f.visible_count k.visible p w z r
      visible_noted r h =
          noted_stays text t f.visible f.visible_count k.visible p w u z visible_table visible_noting r h (items.visible_noted r h)

      hidden_noted : (r : ℕ) → r < f.hidden_count → ItemNoted text t f.hidden f.hidden_count k.hidden hidden_notes w z r
      hidden_noted r h =
          noted_stays text t f.hidden f.hidden_count k.hidden hidden_notes w u z hidden_table hidden_noting r h (items.hidden_noted r h)

      steady : Steady u p hidden_notes (f.nodes + 0) (f.nodes + 0 + f.node_count) (k.nodes + 0) (k.nodes + 0 + f.node_count)
      unfolding renode
      steady y kept j h l =
          let word : get_or y j 0 ≡ get_or u j 0 =
          kept_same (k.nodes + 0) (k.nodes + 0 + f.node_count) f.nodes (f.nodes + f.node_count) u y
          (apart_in (omega (arith, room)) room.outside.nodes) kept j (omega arith) (omega arith) in
          let note : (i : ℕ) → p ≤ i → get_or y i 0 ≡ get_or u i 0 = λ i q. kept.above i (omega (arith, room.nodes)) in
          rw (word, note (p + get_or u j 0 / 32) (omega arith), note (hidden_notes + get_or u j 0 / 32) (omega arith))

      nodes_there : (i : ℕ) → i < f.node_count → get_or z (k.nodes + i) 0 ≡ renode z p hidden_notes (get_or w (f.nodes + i) 0)
      nodes_there i h =
          let a : k.nodes + i ≡ k.nodes + 0 + i = omega arith in
          let b : f.nodes + 0 + i ≡ f.nodes + i = omega arith in
          let v = get_or w (f.nodes + i) 0 in
          let source : get_or u (f.nodes + i) 0 ≡ v =
          source_stays room items.kept f.nodes (f.nodes + f.node_count) room.outside.nodes room.nodes_before
          (f.nodes + i) (omega arith) (omega arith) in
          near (k.nodes + i) (omega (arith, room.nodes, room.notes)) (inr (omega arith))
          ∙ ap (λ (j : ℕ). get_or x j 0) a
          ∙ word_copied u p hidden_notes (f.nodes + 0) (f.nodes + 0 + f.node_count) (k.nodes + 0) (k.nodes + 0 + f.node_count) steady u
          (record { size = refl; below = λ j m. refl; above = λ j m. refl }) (f.nodes + 0) (k.nodes + 0) f.node_count i
          (omega arith) (omega arith) (omega arith) (omega arith) (omega (arith, items.kept.size, room.nodes, room.notes, room.room)) h
          ∙ ap (λ (j : ℕ). renode u p hidden_notes (get_or u j 0)) b ∙ ap (renode u p hidden_notes) source
          ∙ sym (renode_stays text tape u z f p hidden_notes v visible_noting hidden_noting
          (points_stay text tape w u f source_stay v (points_at text tape w f stands.pointing i h)))

      pointing_there : Pointing text tape z (kept_form f k)
      pointing_there = pointing_kept text t f k p hidden_notes w z room.visible_few room.hidden_few visible_noted hidden_noted
          stands.pointing nodes_there

      equation_there : (r : EquationRow) (e : ResolvedEquation) → EquationStands text tape w f r e → EquationStands text tape z (kept_form f k) r e
      equation_there r e s =
          equation_kept text t f k p hidden_notes w z room.visible_few room.hidden_few visible_noted hidden_noted stands.pointing nodes_there r e
          (omega (arith, room.nodes_before, room.notes, room.room)) (omega (arith, room.nodes)) s

      hidden_there : items_at text tape z k.hidden f.hidden_count ≡ ordered
      hidden_there = items_same u z text tape k.hidden f.hidden_count hidden_table ∙ in_order_there

      line_there : (r : EquationRow) (e : ResolvedEquation) → EquationStands text tape w f r e → equation_nodes e ≤ node_limit
          → take line_size (equation_at text z k.visible k.nodes r) ≡ equation_text ordered e
      unfolding kept_form
      line_there r e s m =
          let g = kept_form f k in
          let there = equation_there r e s in
          let line : equation_at text z k.visible k.nodes r ≡ equation_text ordered e =
          line_kept text tape z g r e (subst Distinct (sym hidden_there) distinct_ordered) pointing_there there
          ∙ ap (λ (is : List Item). equation_text is e) hidden_there in
          ap (take line_size) line ∙ take_all line_size (equation_text ordered e) (line_short ordered text tape z g r e there m)

    -- ---- the memory that rows are compared by, and the memory at the end

    low_long : p ≤ length low
    low_long =
        omega (arith, length-take (order - 0) (drop 0 x), length-drop 0 x, copy_stays.size, items.kept.size, room.room, room.notes)

    low_near : (i : ℕ) → i < order → (i < k.equations) ⊎ (k.nodes ≤ i) → get_or low i 0 ≡ get_or x i 0
    low_near i h q = low_word x order i h

    end_long : p ≤ length w'
    end_long = omega (arith, form_kept.size, room.room, room.notes)

    end_near : (i : ℕ) → i < order → (i < k.equations) ⊎ (k.nodes ≤ i) → get_or w' i 0 ≡ get_or x i 0
    end_near i h q = equations.sorted.kept.kept i (⊎_elim (λ a. inl a) (λ a. inr (omega (arith, room.equations))) q) (inl h)

    -- ---- equations in order

    abbrev es : List ResolvedEquation
    es = n.hidden.equations

    abbrev count : ℕ
    count = f.equation_count

    abbrev equation : ℕ → ResolvedEquation
    equation i = get_or es i blank

    abbrev row : ℕ → EquationRow
    row i = equation_row_at w (f.equations + i * equation_size)

    abbrev table : Table
    table = Equations k.visible f.equations k.nodes

    stands_at : (i : ℕ) → i < count → EquationStands text tape w f (row i) (equation i)
    stands_at i h = row_stands text tape w f f.equations es i stands.equations (omega (arith, stands.equation_count))

    small_at : (i : ℕ) → i < count → equation_nodes (equation i) ≤ node_limit
    small_at i h = every_place (λ (e : ResolvedEquation). equation_nodes e ≤ node_limit) es blank i stands.small (omega (arith, stands.equation_count))

    row_copied_at : (i : ℕ) → i < count → equation_row_at x (f.equations + i * equation_size) ≡ row i
    row_copied_at i h =
        equation_row_same w x (f.equations + i * equation_size) (λ j l m.
        source_copied f.equations (f.equations + count * equation_size) room.outside.equations room.equations_before j (omega arith) (omega arith))

    row_low : (i : ℕ) → i < count → equation_row_at low (f.equations + i * equation_size) ≡ row i
    row_low i h =
        equation_row_same x low (f.equations + i * equation_size) (λ j l m. low_word x order j (omega (arith, room.equations_before, room.notes)))
        ∙ row_copied_at i h

    place_of : ResolvedEquation → Place
    place_of e = record { module_number = e.module_number; position = e.position; text = equation_text ordered e }

    placed : (i : ℕ) → i < count → row_place text low k.visible k.nodes (equation_row_at low (f.equations + i * equation_size)) ≡ place_of (equation i)
    unfolding row_place place_of
    placed i h =
        let s = stands_at i h in
        let line = line_there low low_long low_near (row i) (equation i) s (small_at i h) in
        ap (row_place text low k.visible k.nodes) (row_low i h) ∙ (λ j. record { module_number = s.home j; position = s.position j; text = line j })

    compared_alike : (i j : ℕ) → i < count → j < count → row_order text (part x 0 t) low table i j ≡ equation_order ordered (equation i) (equation j)
    unfolding row_order equation_order place_order place_of
    compared_alike i j h l = ap₂ place_order (placed i h) (placed j l)

    every_row : (i : ℕ) → is_listed low table i ≡ true
    unfolding is_listed
    every_row i = refl

    all_equations : map equation (words_from w' order equations.count) ≡ sorted (equation_order ordered) es
    all_equations =
        ap (map equation)
        (all_numbers text t table f.equations count order k.equations equation_size equations.count x w' equations.sorted.arranged every_row
        ∙ sorted_alike (λ i. i < count) (row_order text (part x 0 t) low table) (λ i j. equation_order ordered (equation i) (equation j)) compared_alike []
        (upto count) tt (below_upto count))
        ∙ sorted_map equation (λ i j. equation_order ordered (equation i) (equation j)) (equation_order ordered) (λ a b. refl) [] (upto count)
        ∙ ap (sorted (equation_order ordered)) (by_places es blank count (omega (arith, stands.equation_count)) ∙ take_all count es
        (omega (arith, stands.equation_count)))

    equations_stand : EquationsStand text tape w' (kept_form f k) k.equations (sorted (equation_order ordered) es)
    equations_stand =
        let a = equations.sorted.arranged in
        subst (λ (xs : List ResolvedEquation). EquationsStand text tape w' (kept_form f k) k.equations xs) all_equations
        (rows_stand text tape w' (kept_form f k) equation k.equations order equations.count (λ i h.
        let o = get_or w' (order + i) 0 in
        let l : o < count = a.below i h in
        let moved : equation_row_at w' (k.equations + i * equation_size) ≡ row o =
        equation_row_moved x w' (f.equations + o * equation_size) (k.equations + i * equation_size) (λ j m. a.rows i j h m) ∙ row_copied_at o l in
        subst (λ (r : EquationRow). EquationStands text tape w' (kept_form f k) r (equation o)) (sym moved)
        (equation_there w' end_long end_near (row o) (equation o) (stands_at o l))))

    -- ---- all of it

    visible_end : visible_at text tape w' (kept_form f k) ≡ visible_in_order n.visible
    unfolding visible_at visible_in_order kept_form
    visible_end =
        let slots : slots_at text w' k.parameters f.parameter_count ≡ by_name (λ (q : Slot). q.name) n.visible.parameters =
        slots_same u w' text k.parameters f.parameter_count (λ i h l.
        from_items w' end_long end_near i (omega (arith, room.parameters, room.visible, room.hidden, room.equations, room.nodes, room.notes))
        (inl (omega (arith, room.parameters, room.visible, room.hidden))))
        ∙ items.parameters ∙ ap (λ (v : Visible). by_name (λ (q : Slot). q.name) v.parameters) stands.visible in
        let its : items_at text tape w' k.visible f.visible_count ≡ sorted visible_order n.visible.items =
        items_same u w' text tape k.visible f.visible_count (visible_table w' end_long end_near)
        ∙ items.visible ∙ ap (λ (v : Visible). sorted visible_order v.items) stands.visible in
        λ i. record { parameters = slots i; items = its i }

    stands_there : Stands text tape w' (kept_form f k) (in_order n)
    unfolding in_order hidden_in_order kept_form
    stands_there =
        let d : Rearranged es (sorted (equation_order ordered) es) = sorted_rearranged (equation_order ordered) es in
        record {
          visible = visible_end;
          hidden = hidden_there w' end_long end_near;
          equation_count = stands.equation_count ∙ sym (sorted_length (equation_order ordered) es);
          node_count = stands.node_count ∙ sum_rearranged equation_nodes d;
          equations = equations_stand;
          small = rearranged_every (λ (e : ResolvedEquation). equation_nodes e ≤ node_limit) d stands.small;
          pointing = pointing_there w' end_long end_near;
        }

    -- the tape stays too
    pub in_order_stands : Stands text (part w' 0 t) w' (kept_form f k) (in_order n)
    in_order_stands =
        let tapes = tape_kept_two room.tape (omega (arith, room)) form_kept in
        subst (λ (y : List ℕ). Stands text y w' (kept_form f k) (in_order n)) (sym tapes) stands_there

-- what was kept from w to w': nothing changes but the places of k and what is behind p, and r stands there for the normal form in order of
-- whatever f stood for, if no two hidden items are one
pub record Keeps (text : List ℕ) (t : ℕ) (f k : Form) (p : ℕ) (r : Form) (w w' : List ℕ) : Type 0 where
  pub form : r ≡ kept_form f k
  pub kept : KeptTwo k.parameters (k.nodes + f.node_count) p (scratch_end f (order_place f p)) w w'
  pub meant : (n : Normal) → Stands text (part w 0 t) w f n → Distinct n.hidden.items → Stands text (part w' 0 t) w' r (in_order n)

pub keeps_all : (text : List ℕ) (t : ℕ) (f k : Form) (p order : ℕ) (r : Form) (w u w' : List ℕ) → order ≡ order_place f p
    → KeepRoom (length w) t f k p (order_place f p) → ItemsKept text t f k p order w u → EquationsKept text t f k p order u w' → r ≡ kept_form f k
    → Keeps text t f k p r w w'
keeps_all text t f k p order r w u w' e room items equations er =
    let here : KeepRoom (length w) t f k p order = subst (λ (o : ℕ). KeepRoom (length w) t f k p o) (sym e) room in
    record {
      form = er;
      kept = subst (λ (o : ℕ). KeptTwo k.parameters (k.nodes + f.node_count) p (scratch_end f o) w w') e
          (form_kept text t f k p order w u w' here items equations);
      meant = λ n s d. subst (λ (g : Form). Stands text (part w' 0 t) w' g (in_order n)) (sym er)
          (in_order_stands text t f k p order w u w' here items equations n s d);
    }
