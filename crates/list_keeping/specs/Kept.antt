-- What comes of copying the parts of a form in order.
use Rattle.std.specs.Prelude.{◌≡◌, refl, Bool, true, List, ℕ, ◌+◌, ◌*◌, ◌≤◌, ◌<◌, length}
use Rattle.std.proofs.Common.{sym, ap₂, ◌∙◌, inl, inr, arith}
use Rattle.std.proofs.Math.Path.{ap}
use Rattle.std.proofs.Math.ListN.{get_or}
use Rattle.meaning.specs.Names.{by_name, by_bytes}
use Rattle.meaning.specs.Lists.{sorted}
use Rattle.meaning.specs.Origins.{Item}
use Rattle.meaning.specs.Normal.{Slot, sorts_among}
use Rattle.meaning.specs.Written.{origin_text, visible_order, hidden_order}
use Rattle.text_names.specs.Word.{name_of}
use Rattle.form_rows.specs.Rows.{item_of, row_at, row_size}
use Rattle.form.specs.declared.Form.{Form}
use Rattle.form.specs.Memory.{part, Same, KeptTwo}
use Rattle.form.specs.Forms.{slot_at, slots_at, items_at, equation_size, slot_size}
use Rattle.form.specs.FormLaws.{Apart, kept_two_same, slots_same, items_same}
use Rattle.form.specs.Blocks.{Outside}
use Rattle.form_frames.specs.Changes.{apart_in, at_first, at_second, onward_two, wider_two, tape_kept_two}
use Rattle.form_order.specs.Order.{PutInOrder}
use Rattle.form_order.specs.Sorting.{below_order, every_word}
use Rattle.form_order.specs.Ordered.{row_item, ordered_slots}
use Rattle.unite_nodes.specs.Joined.{copied}
use Rattle.list_order.specs.declared.Table.{Table}
use Rattle.list_order.specs.declared.Table.TheVariants.{Visible, Sorts, Hidden, Equations}
use Rattle.list_order.specs.Orders.{is_listed}
use Rattle.list_order.specs.Copying.{Numbers, CopyRoom, RowsCopied, SortRoom, TableSorted, NotedRoom, TableNoted}
use Rattle.list_order.specs.Arranged.{low_word, low_items, first_word, by_number, row_copied, each_number, visible_arranged, hidden_arranged, sorts_arranged}
use Rattle.form_rows.specs.RowLaws.{row_same}

-- ---- parameters

slot_moved : (text w u : List ℕ) (b c : ℕ) → ((j : ℕ) → j < 2 → get_or u (c + j) 0 ≡ get_or w (b + j) 0) → slot_at text u c ≡ slot_at text w b
unfolding slot_at
slot_moved text w u b c h =
    let first = first_word w u b c (h 0 (omega arith)) in
    λ i. record { name = name_of text (first i); home = name_of text (h 1 (omega arith) i) }

pub record ParametersPut (text : List ℕ) (from n order to : ℕ) (w w' : List ℕ) : Type 0 where
  pub slots : slots_at text w' to n ≡ by_name (λ (q : Slot). q.name) (slots_at text w from n)
  pub kept : KeptTwo to (to + n * slot_size) order (order + n) w w'

module _ (text : List ℕ) (from n order to : ℕ) (w u : List ℕ) (room : SortRoom (length w) 0 from n order to slot_size)
    (ordered : PutInOrder text w u from slot_size order n) where
  parameter_numbers : Numbers u order n n
  parameter_numbers = record {
    below = λ i h. every_word (λ k. k < n) u order n i (rw ordered.ordered.words (below_order text u from slot_size n)) h;
  }

  pub parameters_room : CopyRoom (length u) from n order n to slot_size
  parameters_room = record {
    width = room.width;
    room = omega (arith, room.target, room.table, ordered.kept.size);
    apart = room.apart;
    table = inr (omega (arith, room.target));
  }

  pub parameters_put : (w' : List ℕ) → RowsCopied from n order n to slot_size u w' → ParametersPut text from n order to w w'
  unfolding slots_at
  parameters_put w' copied = record {
    slots = by_number slot_size (slot_at text u) (slot_at text w') (slots_at text w') (λ b. refl) (λ b m. refl) u from to order n (λ i h.
        slot_moved text u w' (from + get_or u (order + i) 0 * slot_size) (to + i * slot_size) (λ j l. copied.rows i j h (parameter_numbers.below i h) l))
        ∙ ordered_slots text u from order n ordered.ordered
        ∙ ap (by_name (λ (q : Slot). q.name)) (slots_same w u text from n (λ i h l. ordered.kept.below i (omega (arith, room.source))));
    kept = onward_two (at_second ordered.kept) (at_first copied.kept);
  }

-- ---- items

-- row r went to the row that is noted, and stands for the same item there
pub record ItemNoted (text : List ℕ) (t from n to notes : ℕ) (w w' : List ℕ) (r : ℕ) : Type 0 where
  pub inside : get_or w' (notes + r) 0 < n
  pub same : row_item text (part w 0 t) w' to (get_or w' (notes + r) 0) ≡ row_item text (part w 0 t) w from r

pub record ItemsPut (text : List ℕ) (t : ℕ) (le : Item → Item → Bool) (from n order to notes : ℕ) (w w' : List ℕ) : Type 0 where
  pub items : items_at text (part w 0 t) w' to n ≡ sorted le (items_at text (part w 0 t) w from n)
  pub noted : (r : ℕ) → r < n → ItemNoted text t from n to notes w w' r
  pub kept : KeptTwo to (to + n * row_size) notes (order + n) w w'

-- the hidden sorts of hidden items in order
unfoldable pub sorts_in_order : List Item → List Item
sorts_in_order is = by_bytes (λ (i : Item). origin_text i.origin) (sorts_among is)

-- the notes of an arranged table
module _ (text : List ℕ) (t : ℕ) (table : Table) (from n order to notes m : ℕ) (w w' : List ℕ) (source : from + n * row_size ≤ order)
    (put : TableNoted text t table from n order to notes m w w') (every : (i : ℕ) → is_listed (part w 0 order) table i ≡ true) where
  items_noted : (r : ℕ) → r < n → ItemNoted text t from n to notes w w' r
  items_noted r h =
      each_number text t table from n order to row_size m w w' put.arranged every r h (λ i l e.
      let p = put.noted i l in
      let note : get_or w' (notes + r) 0 ≡ get_or w' (notes + get_or w' (order + i) 0) 0 = ap (λ (x : ℕ). get_or w' (notes + x) 0) (sym e) in
      let x = get_or w' (notes + r) 0 in
      let few : m ≤ n = put.arranged.few in
      let inside : x < m = omega (arith, note, p.inside) in
      let there : get_or w' (order + x) 0 ≡ r = ap (λ (k : ℕ). get_or w' (order + k) 0) note ∙ p.there ∙ e in
      let row : row_at w' (to + x * row_size) ≡ row_at w (from + r * row_size) =
      row_copied text t table from n order to m w w' source put.arranged x inside
      ∙ ap (λ (k : ℕ). row_at (part w 0 order) (from + k * row_size)) there
      ∙ row_same w (part w 0 order) (from + r * row_size) (λ k a b. low_word w order k (omega arith)) in
      record { inside = omega arith; same = ap (item_of text (part w 0 t)) row })

module _ (text : List ℕ) (t from n order to notes m : ℕ) (w w' : List ℕ) (source : from + n * row_size ≤ order) where
  pub visible_put : TableNoted text t (Visible from) from n order to notes m w w' → ItemsPut text t visible_order from n order to notes w w'
  unfolding is_listed
  visible_put put = record {
    items = visible_arranged text t from n order to m w w' source put.arranged;
    noted = items_noted text t (Visible from) from n order to notes m w w' source put (λ i. refl);
    kept = put.kept;
  }

  pub hidden_put : (b c : ℕ) → TableNoted text t (Hidden from b c) from n order to notes m w w'
      → ItemsPut text t (hidden_order (items_at text (part w 0 t) (part w 0 order) b c)) from n order to notes w w'
  unfolding is_listed
  hidden_put b c put = record {
    items = hidden_arranged text t from n order to m w w' source b c put.arranged;
    noted = items_noted text t (Hidden from b c) from n order to notes m w w' source put (λ i. refl);
    kept = put.kept;
  }

-- the sorts in order first, then all items by them
pub sorts_then_items : (text : List ℕ) (t from n order to notes c m : ℕ) (w u w' : List ℕ) → NotedRoom (length w) t from n order to notes → t ≤ to
    → TableSorted text t (Sorts from) from n order to row_size c w u → TableNoted text t (Hidden from to c) from n order to notes m u w'
    → ItemsPut text t (hidden_order (sorts_in_order (items_at text (part w 0 t) w from n))) from n order to notes w w'
unfolding sorts_in_order
sorts_then_items text t from n order to notes c m w u w' room ht sorts put =
    let source : from + n * row_size ≤ order = room.sorting.source in
    let few : c ≤ n = sorts.arranged.few in
    let target : to + n * row_size ≤ order = room.sorting.target in
    let tapes = tape_kept_two ht room.sorting.tape sorts.kept in
    let stays = kept_two_same to (to + n * row_size) order (order + n) from (from + n * row_size) w u room.sorting.apart (inl source) sorts.kept in
    let items : items_at text (part w 0 t) u from n ≡ items_at text (part w 0 t) w from n = items_same w u text (part w 0 t) from n stays in
    let ordered : items_at text (part w 0 t) (part u 0 order) to c ≡ by_bytes (λ (i : Item). origin_text i.origin)
    (sorts_among (items_at text (part w 0 t) w from n)) =
    low_items text (part w 0 t) u order to c (omega arith) ∙ sorts_arranged text t from n order to c w u source sorts.arranged in
    let hidden = hidden_put text t from n order to notes m u w' source to c put in
    let row : (r : ℕ) → r < n → row_item text (part w 0 t) u from r ≡ row_item text (part w 0 t) w from r =
    λ r h. ap (item_of text (part w 0 t)) (row_same w u (from + r * row_size) (λ i a b. stays i (omega arith) (omega arith))) in
    record {
      items = ap (λ (tape : List ℕ). items_at text tape w' to n) (sym tapes) ∙ hidden.items
          ∙ ap (λ (tape : List ℕ). sorted (hidden_order (items_at text tape (part u 0 order) to c)) (items_at text tape u from n)) tapes
          ∙ ap₂ (λ (ss is : List Item). sorted (hidden_order ss) is) ordered items;
      noted = λ r h.
          let p = hidden.noted r h in
          record {
            inside = p.inside;
            same = ap (λ (tape : List ℕ). row_item text tape w' to (get_or w' (notes + r) 0)) (sym tapes) ∙ p.same
                ∙ ap (λ (tape : List ℕ). row_item text tape u from r) tapes ∙ row r h;
          };
      kept = onward_two (wider_two (omega arith) (omega (arith, room.before)) sorts.kept) put.kept;
    }

-- a part copied between memories that agree with w and w' on what it reads and on what it writes
module _ (text : List ℕ) (t : ℕ) (le : Item → Item → Bool) (from n order to notes : ℕ) (w u u' w' : List ℕ)
    (put : ItemsPut text t le from n order to notes u u')
    (tapes : part u 0 t ≡ part w 0 t) (source : Same from (from + n * row_size) w u) (target : Same to (to + n * row_size) u' w')
    (noting : Same notes (notes + n) u' w') where
  pub moved_items : items_at text (part w 0 t) w' to n ≡ sorted le (items_at text (part w 0 t) w from n)
  moved_items =
      items_same u' w' text (part w 0 t) to n target ∙ ap (λ (tape : List ℕ). items_at text tape u' to n) (sym tapes) ∙ put.items
      ∙ ap (λ (tape : List ℕ). sorted le (items_at text tape u from n)) tapes ∙ ap (sorted le) (items_same w u text (part w 0 t) from n source)

  pub moved_noted : (r : ℕ) → r < n → ItemNoted text t from n to notes w w' r
  moved_noted r h =
      let p = put.noted r h in
      let x = get_or u' (notes + r) 0 in
      let note : get_or w' (notes + r) 0 ≡ x = noting (notes + r) (omega arith) (omega arith) in
      let inside : x < n = p.inside in
      let there : row_item text (part w 0 t) w' to x ≡ row_item text (part w 0 t) u' to x =
      ap (item_of text (part w 0 t)) (row_same u' w' (to + x * row_size) (λ i a b. target i (omega arith) (omega arith))) in
      let here : row_item text (part w 0 t) u from r ≡ row_item text (part w 0 t) w from r =
      ap (item_of text (part w 0 t)) (row_same w u (from + r * row_size) (λ i a b. source i (omega arith) (omega arith))) in
      record {
        inside = omega (arith, note);
        same = ap (row_item text (part w 0 t) w' to) note ∙ there ∙ ap (λ (tape : List ℕ). row_item text tape u' to x) (sym tapes) ∙ p.same
            ∙ ap (λ (tape : List ℕ). row_item text tape u from r) tapes ∙ here;
      }

-- ---- a form

-- the places of k lie behind the tape, in order, with room for what f has, and apart from f; notes and order table behind all
pub record KeepRoom (size t : ℕ) (f k : Form) (p order : ℕ) : Type 0 where
  pub tape : t ≤ k.parameters
  pub parameters : k.parameters + f.parameter_count * slot_size ≤ k.visible
  pub visible : k.visible + f.visible_count * row_size ≤ k.hidden
  pub hidden : k.hidden + f.hidden_count * row_size ≤ k.equations
  pub equations : k.equations + f.equation_count * equation_size ≤ k.nodes
  pub nodes : k.nodes + f.node_count ≤ p
  pub outside : Outside k.parameters (k.nodes + f.node_count) f
  pub parameters_before : f.parameters + f.parameter_count * slot_size ≤ p
  pub visible_before : f.visible + f.visible_count * row_size ≤ p
  pub hidden_before : f.hidden + f.hidden_count * row_size ≤ p
  pub equations_before : f.equations + f.equation_count * equation_size ≤ p
  pub nodes_before : f.nodes + f.node_count ≤ p
  pub notes : p + (f.visible_count + f.hidden_count) ≤ order
  pub room : order + (f.parameter_count + f.visible_count + f.hidden_count + f.equation_count) ≤ size
  pub small : order ≤ 1073741824
  pub visible_few : f.visible_count ≤ 65536
  pub hidden_few : f.hidden_count ≤ 65536

-- where the order table stands: behind the notes of visible and of hidden items
unfoldable pub order_place : Form → ℕ → ℕ
order_place f p = p + (f.visible_count + f.hidden_count)

-- and where it ends
abbrev pub scratch_end : Form → ℕ → ℕ
scratch_end f order = order + (f.parameter_count + f.visible_count + f.hidden_count + f.equation_count)

pub record ItemsKept (text : List ℕ) (t : ℕ) (f k : Form) (p order : ℕ) (w w' : List ℕ) : Type 0 where
  pub parameters : slots_at text w' k.parameters f.parameter_count
      ≡ by_name (λ (q : Slot). q.name) (slots_at text w f.parameters f.parameter_count)
  pub visible : items_at text (part w 0 t) w' k.visible f.visible_count
      ≡ sorted visible_order (items_at text (part w 0 t) w f.visible f.visible_count)
  pub visible_noted : (r : ℕ) → r < f.visible_count → ItemNoted text t f.visible f.visible_count k.visible p w w' r
  pub hidden : items_at text (part w 0 t) w' k.hidden f.hidden_count
      ≡ sorted (hidden_order (sorts_in_order (items_at text (part w 0 t) w f.hidden f.hidden_count)))
      (items_at text (part w 0 t) w f.hidden f.hidden_count)
  pub hidden_noted : (r : ℕ) → r < f.hidden_count → ItemNoted text t f.hidden f.hidden_count k.hidden (p + f.visible_count) w w' r
  pub kept : KeptTwo k.parameters k.equations p (scratch_end f order) w w'

-- what stays while the items are copied: the parts of f, and the tape
module _ {t : ℕ} {f k : Form} {p order : ℕ} {w x : List ℕ} (room : KeepRoom (length w) t f k p order)
    (kept : KeptTwo k.parameters k.equations p (scratch_end f order) w x) where
  pub source_stays : (b e : ℕ) → Apart k.parameters (k.nodes + f.node_count) b e → e ≤ p → Same b e w x
  source_stays b e apart h =
      kept_two_same k.parameters k.equations p (scratch_end f order) b e w x (apart_in (omega (arith, room.equations)) apart) (inl h) kept

  tape_stays : part x 0 t ≡ part w 0 t
  tape_stays = tape_kept_two room.tape (omega (arith, room)) kept

module _ (text : List ℕ) (t : ℕ) (f k : Form) (p order : ℕ) (w u₁ u₂ w' : List ℕ) (room : KeepRoom (length w) t f k p order)
    (parameters : ParametersPut text f.parameters f.parameter_count order k.parameters w u₁)
    (visible : ItemsPut text t visible_order f.visible f.visible_count order k.visible p u₁ u₂)
    (hidden : ItemsPut text t (hidden_order (sorts_in_order (items_at text (part u₂ 0 t) u₂ f.hidden f.hidden_count))) f.hidden
    f.hidden_count order k.hidden (p + f.visible_count) u₂ w') where
  first : KeptTwo k.parameters k.equations p (scratch_end f order) w u₁
  first = wider_two (omega (arith, room)) (omega (arith, room)) parameters.kept

  both : KeptTwo k.parameters k.equations p (scratch_end f order) w u₂
  both = onward_two first (wider_two (omega (arith, room)) (omega (arith, room)) visible.kept)

  pub items_kept : ItemsKept text t f k p order w w'
  items_kept =
      let ends : k.hidden ≤ p = omega (arith, room.hidden, room.equations, room.nodes) in
      let tapes₁ = tape_stays room first in
      let tapes₂ = tape_stays room both in
      let hidden_source = source_stays room both f.hidden (f.hidden + f.hidden_count * row_size) room.outside.hidden room.hidden_before in
      let visible_source = source_stays room first f.visible (f.visible + f.visible_count * row_size) room.outside.visible room.visible_before in
      let parameters_stay : Same k.parameters (k.parameters + f.parameter_count * slot_size) u₁ w' =
      λ i h l. hidden.kept.kept i (inl (omega (arith, room.parameters, room.visible))) (inl (omega (arith, room.parameters, room.visible)))
      ∙ visible.kept.kept i (inl (omega (arith, room.parameters))) (inl (omega (arith, room.parameters, room.visible))) in
      let visible_stay : Same k.visible (k.visible + f.visible_count * row_size) u₂ w' =
      λ i h l. hidden.kept.kept i (inl (omega (arith, room.visible))) (inl (omega (arith, room.visible))) in
      let notes_stay : Same p (p + f.visible_count) u₂ w' =
      λ i h l. hidden.kept.kept i (inr (omega (arith, room.hidden, room.equations, room.nodes))) (inl (omega arith)) in
      let same_order : hidden_order (sorts_in_order (items_at text (part u₂ 0 t) u₂ f.hidden f.hidden_count))
      ≡ hidden_order (sorts_in_order (items_at text (part w 0 t) w f.hidden f.hidden_count)) =
      ap (λ (is : List Item). hidden_order (sorts_in_order is))
      (ap (λ (tape : List ℕ). items_at text tape u₂ f.hidden f.hidden_count) tapes₂
      ∙ items_same w u₂ text (part w 0 t) f.hidden f.hidden_count hidden_source) in
      record {
        parameters = slots_same u₁ w' text k.parameters f.parameter_count parameters_stay ∙ parameters.slots;
        visible = moved_items text t visible_order f.visible f.visible_count order
            k.visible p w u₁ u₂ w' visible tapes₁ visible_source visible_stay notes_stay;
        visible_noted = moved_noted text t visible_order f.visible f.visible_count order
            k.visible p w u₁ u₂ w' visible tapes₁ visible_source visible_stay notes_stay;
        hidden = moved_items text t _ f.hidden f.hidden_count order k.hidden (p + f.visible_count) w u₂ w' w' hidden tapes₂ hidden_source
            (λ i h l. refl) (λ i h l. refl)
            ∙ ap (λ (le : Item → Item → Bool). sorted le (items_at text (part w 0 t) w f.hidden f.hidden_count)) same_order;
        hidden_noted = moved_noted text t _ f.hidden f.hidden_count order k.hidden (p + f.visible_count) w u₂ w' w' hidden tapes₂ hidden_source
            (λ i h l. refl) (λ i h l. refl);
        kept = onward_two both (wider_two (omega (arith, room)) (omega (arith, room)) hidden.kept);
      }

-- ---- equations

-- the memory after the nodes of f were copied through the notes
abbrev pub renumbered : Form → Form → ℕ → List ℕ → List ℕ
renumbered f k p w = copied w p (p + f.visible_count) (f.nodes + 0) (k.nodes + 0) f.node_count

pub record EquationsKept (text : List ℕ) (t : ℕ) (f k : Form) (p order : ℕ) (w w' : List ℕ) : Type 0 where
  pub count : ℕ
  pub sorted : TableSorted text t (Equations k.visible f.equations k.nodes) f.equations f.equation_count order
      k.equations equation_size count
      (renumbered f k p w) w'
