-- What is typed in memory is what the meaning types (meaning/specs/Typing.antt): where the entries spell a term, the answer is its sort and
-- the words written are its nodes; and it is ill typed where the meaning has no sort for it.
use Rattle.std.specs.Prelude.{◌≡◌, Bool, ◌&&◌, eqb, set, take, drop, None}
use Rattle.std.proofs.Math.Path.{refl, ap, ap₂}
use Rattle.std.proofs.Common.{sym, ◌∙◌, add-one, add-zero, length-take}
use Rattle.std.proofs.Math.Bool.{true, false, and-false}
use Rattle.std.proofs.lemmas.Bool.{false≢true}
use Rattle.std.proofs.Math.Option.{Option, none, some}
use mathlib.Core.List.{List, [], ◌∷◌, ◌++◌, map, map-append, append_assoc}
use Prim.Native.Nat.{ℕ, zero, suc, ◌+◌, ◌-◌, ◌*◌, ◌<◌, ◌≤◌}
use native.Mathlib.Omega.{arith}
use Rattle.std.proofs.Math.Dec.{ltb, leb}
use borrow.Author.Tests.{eq-eqb, ne_eqb, lt-ltb, ltb-true, ltb-false, leb-true, leb-false}
use Rattle.std.proofs.Math.ListN.{length, get_or, length-append, length-map}
use Rattle.std.proofs.lemmas.List.{length-replicate}
use Rattle.std.proofs.Math.Seq.{sets, take-append_seam}
use Rattle.std.proofs.lemmas.List.Edits.{sets-eq}
use Rattle.meaning.specs.Lists.{pick, first, before, or_else}
use Rattle.meaning.specs.OrderLaws.{Every}
use Rattle.meaning.specs.Names.{Name}
use Rattle.meaning.specs.Syntax.{Term, node, Terms, no_terms, ◌then◌}
use Rattle.meaning.specs.Origins.{Sort, same_sort, Shape, function_shape, Item}
use Rattle.meaning.specs.Normal.{is_called}
use Rattle.meaning.specs.Typing.{Typed, TypedList, found_with, no_arguments, takes, is_variable, joined_typed, applied, alone, with_arguments, typed, typed_list}
use Rattle.form_rows.specs.RowLaws.{nine_sorts, agree_lengths}
use Rattle.laws.specs.EveryLaws.{every_append}
use Rattle.tape.specs.Tape.{Entry, entry, alone_role, close_role, flat_node}
use Rattle.tape.specs.Tape as on_tape
use Rattle.form_rows.specs.Entries.{role_at, name_at}
use Rattle.form_rows.specs.Rows.{sort_of, type_of, item_of, row_at, row_size}
use Rattle.form.specs.Memory.{Kept}
use Rattle.form.specs.Forms.{items_at, how_many, flat_term, flat_terms, node_of}
use Rattle.form_walks.specs.Shapes.{by_kind}
use Rattle.form_walks.specs.Rows.{first_row, row_passes, no_row}
use Rattle.own_finding.specs.declared.Known.{Known}
use Rattle.own_finding.specs.Known.{variable_called, function_called}
use Rattle.own_finding.specs.Arguments.{node_word, arguments_of, closers_of, ends_at}
use Rattle.own_terms.specs.Typing.{Out, out, tape_in, items_in, settled, resolved, no_sorts, variable_row, function_row, applied_at, alone_at, further, args_by, term_by, term_at, Answer, of_sort}
use Rattle.own_terms.specs.Meant.{sets_append, sets_head, known_item, node_here, Pointed, node_settled, word_pointed, Settles, function_settles, variable_settles, Spells, spells_front, spells_back, leads, role_of, ending, with_head, begins, Layout, variable_behind, tape_stays, items_stay, row_stays, sets_kept}

-- ---- more sorts than a row has are taken by none

and_second : (a b : Bool) → (a && b) ≡ true → b ≡ true
and_second true b h = h
and_second false b h = absurd (false≢true h)

few : (text tape : List ℕ) (n : ℕ) (sorts : List ℕ) (ss : List Sort) → length sorts ≡ 9 → 9 < length ss → takes ss (function_shape (type_of text tape n sorts)) ≡ false
unfolding takes type_of
few text tape n sorts ss e h =
    agree_lengths same_sort ss (map (sort_of text tape) (take n sorts))
    (λ q. omega (arith, length-map (take n sorts) (sort_of text tape), length-take n sorts))

module _ (text tape w : List ℕ) (f : Name) (ss : List Sort) (many : 9 < length ss) where
  never : (b : ℕ) → function_called f ss (item_of text tape (row_at w b)) ≡ false
  unfolding function_called item_of takes
  never b =
      let r = row_at w b in
      let c = is_called f (item_of text tape r) in
      by_kind text tape r.kind r.sorts (λ (s : Shape). (c && takes ss s) ≡ false)
      (λ e. and-false c) (λ e. and-false c) (λ l. rw (few text tape (r.kind - 2) r.sorts ss (nine_sorts w b) many) (and-false c))

  first_never : (b n : ℕ) → first (function_called f ss) (items_at text tape w b n) ≡ none
  unfolding first items_at pick
  first_never b zero = refl
  first_never b (suc n) = rw (never b) (first_never (b + row_size) n)

-- ---- a term that is typed, and a list of terms

module _ (text : List ℕ) (k : Known) (w₀ : List ℕ) where
  -- the term of `size` entries from i on is t: the words are its nodes, written from q on
  pub record Well (t : Typed) (i size q : ℕ) (w : List ℕ) (o : Out) : Type 0 where
    pub sort : ℕ
    pub words : List ℕ
    pub same : o ≡ out (of_sort sort (i + size) (q + length words)) (sets w q words)
    pub sorted : sort_of text (tape_in k w₀) sort ≡ t.sort
    pub nodes : map (node_here text k w₀) words ≡ flat_term t.term
    pub pointed : Every (Pointed text k w₀) words
    pub room : length words ≤ size

  abbrev pub Agrees : Option Typed → ℕ → ℕ → ℕ → List ℕ → Out → Type 0
  Agrees none i size q w o = o.answer ≡ None
  Agrees (some t) i size q w o = Well t i size q w o

  -- the same of arguments that c entries close: their sorts go behind the n that are there, and `apply` has the rest; too many are ill typed
  record AllWell (apply : ℕ → List ℕ → ℕ → ℕ → List ℕ → Out) (ts : TypedList) (i size q c left n : ℕ) (sorts w : List ℕ) (o : Out) : Type 0 where
    pub own : List ℕ
    pub words : List ℕ
    pub same : length own ≤ left → o ≡ apply (n + length own) (sets sorts n own) (i + size + c) (q + length words) (sets w q words)
    pub over : left < length own → o.answer ≡ None
    pub closed : left < length own → 0 < c
    pub sorted : map (sort_of text (tape_in k w₀)) own ≡ ts.sorts
    pub nodes : map (node_here text k w₀) words ≡ flat_terms ts.terms
    pub pointed : Every (Pointed text k w₀) words
    pub counted : how_many ts.terms ≡ length own
    pub room : length words ≤ size

  abbrev Agree : (ℕ → List ℕ → ℕ → ℕ → List ℕ → Out) → Option TypedList → ℕ → ℕ → ℕ → ℕ → ℕ → ℕ → List ℕ → List ℕ → Out → Type 0
  Agree apply none i size q c left n sorts w o = o.answer ≡ None
  Agree apply (some ts) i size q c left n sorts w o = AllWell apply ts i size q c left n sorts w o

  module _ (term : ℕ → ℕ → List ℕ → Out) (apply : ℕ → List ℕ → ℕ → ℕ → List ℕ → Out) (c : ℕ) where
    still_ill : (more : ℕ → ℕ → ℕ → List ℕ → List ℕ → Out) (n : ℕ) (sorts : List ℕ) (r : Answer) (w : List ℕ) → r ≡ None → (further more n sorts r w).answer ≡ None
    unfolding further
    still_ill more n sorts r w h = rw h

    -- an argument and those behind it
    args_more : (a : Option Typed) (r : Option TypedList) (i m size q left n : ℕ) (sorts w : List ℕ) → Agrees a i m q w (term i q w)
        → ((s : ℕ) (vs : List ℕ) → length vs ≤ m
        → Agree apply r (i + m) size (q + length vs) c left (n + 1) (set sorts n s) (sets w q vs) (args_by k term apply c left (i + m) (q + length vs) (n + 1) (set sorts n s) (sets w q vs)))
        → Agree apply (joined_typed a r) i (m + size) q c (suc left) n sorts w (further (args_by k term apply c left) n sorts (term i q w).answer (term i q w).memory)
    unfolding joined_typed further flat_terms how_many
    args_more none r i m size q left n sorts w h more = still_ill (args_by k term apply c left) n sorts (term i q w).answer (term i q w).memory h
    args_more (some t) none i m size q left n sorts w h more = rw h.same (more h.sort h.words h.room)
    args_more (some t) (some ts) i m size q left n sorts w h more =
        let a = more h.sort h.words h.room in
        let e₁ : n + 1 + length a.own ≡ n + suc (length a.own) = omega arith in
        let e₂ : i + m + size + c ≡ i + (m + size) + c = omega arith in
        let e₃ : q + length h.words + length a.words ≡ q + length (h.words ++ a.words) = omega (arith, length-append h.words a.words) in
        rw h.same
        (record {
          own = h.sort ∷ a.own;
          words = h.words ++ a.words;
          same =
              λ l.
              a.same (omega arith)
              ∙ (λ z. apply (e₁ z) (sets (set sorts n h.sort) (add-one n z) a.own) (e₂ z) (e₃ z) (sets_append h.words a.words w q z));
          over = λ l. a.over (omega arith);
          closed = λ l. a.closed (omega arith);
          sorted = ap₂ ◌∷◌ h.sorted a.sorted;
          nodes = map-append (node_here text k w₀) h.words a.words ∙ ap₂ ◌++◌ h.nodes a.nodes;
          pointed = every_append (Pointed text k w₀) h.words a.words h.pointed a.pointed;
          counted = ap suc a.counted;
          room = omega (arith, length-append h.words a.words, h.room, a.room);
        })

    -- an argument more than there may be
    args_short : 0 < c → (a : Option Typed) (r : Option TypedList) (i m size q n : ℕ) (sorts w : List ℕ) → Agrees a i m q w (term i q w)
        → ((s : ℕ) (vs : List ℕ) → length vs ≤ m
        → Agree apply r (i + m) size (q + length vs) c 0 (n + 1) (set sorts n s) (sets w q vs) (args_by k term apply c 0 (i + m) (q + length vs) (n + 1) (set sorts n s) (sets w q vs)))
        → Agree apply (joined_typed a r) i (m + size) q c 0 n sorts w (out None w)
    unfolding joined_typed flat_terms how_many
    args_short h' none r i m size q n sorts w h more = refl
    args_short h' (some t) none i m size q n sorts w h more = refl
    args_short h' (some t) (some ts) i m size q n sorts w h more =
        let a = more h.sort h.words h.room in
        record {
          own = h.sort ∷ a.own;
          words = h.words ++ a.words;
          same = λ l. absurd (omega arith);
          over = λ l. refl;
          closed = λ l. h';
          sorted = ap₂ ◌∷◌ h.sorted a.sorted;
          nodes = map-append (node_here text k w₀) h.words a.words ∙ ap₂ ◌++◌ h.nodes a.nodes;
          pointed = every_append (Pointed text k w₀) h.words a.words h.pointed a.pointed;
          counted = ap suc a.counted;
          room = omega (arith, length-append h.words a.words, h.room, a.room);
        }

-- ---- a name that is found, or is not

nothing_found : (ts : TypedList) → found_with ts none ≡ none
unfolding found_with
nothing_found ts = refl

module _ (text : List ℕ) (k : Known) (w₀ : List ℕ) (q₀ e₀ : ℕ) (l : Layout text k w₀ q₀ e₀) where
  abbrev known : List Item
  known = items_in text k w₀

  -- the node is stored in front of those of the arguments
  settled_well : (row n i size q : ℕ) (vs w : List ℕ) (ts : TypedList) (r : Option Typed) → Settles text k w₀ row ts r → row < k.count → n ≤ 9
      → how_many ts.terms ≡ n → map (node_here text k w₀) vs ≡ flat_terms ts.terms → Every (Pointed text k w₀) vs → Kept q₀ e₀ w₀ (sets w (q + 1) vs) → suc (length vs) ≤ size
      → Agrees text k w₀ r i size q w (settled k q row n (i + size) (q + 1 + length vs) (sets w (q + 1) vs))
  unfolding settled
  settled_well row n i size q vs w ts r s h few' e f g kept room =
      let v = node_word k row n in
      let place : q + 1 + length vs ≡ q + suc (length vs) = omega arith in
      rw s.found
      (record {
        sort = get_or (row_at w₀ (k.base + row * row_size)).sorts 8 0;
        words = v ∷ vs;
        same =
            rw (row_stays text k w₀ q₀ e₀ l (sets w (q + 1) vs) kept row h, place)
            (ap (out (of_sort (get_or (row_at w₀ (k.base + row * row_size)).sorts 8 0) (i + size) (q + suc (length vs))))
            (rw (add-one q) (sets_head vs w q (suc q) v (omega arith))));
        sorted = s.sort;
        nodes = ap₂ ◌∷◌ (node_settled text k w₀ row n few' ∙ ap (λ (m : ℕ). node_of (ltb row k.visible) m (known_item text k w₀ row)) (sym e)) f ∙ s.flat;
        pointed = (word_pointed text k w₀ row n few' h (rw e at s.standing), g);
        room = room;
      })

  applied_well : (f : Name) (n i size q : ℕ) (vs w : List ℕ) (ts : TypedList) → n ≤ 9
      → how_many ts.terms ≡ n → map (node_here text k w₀) vs ≡ flat_terms ts.terms → Every (Pointed text k w₀) vs → Kept q₀ e₀ w₀ (sets w (q + 1) vs) → suc (length vs) ≤ size
      → Agrees text k w₀ (applied known f ts) i size q w
      (resolved k q (before (function_called f ts.sorts) known) n (i + size) (q + 1 + length vs) (sets w (q + 1) vs))
  unfolding resolved applied function_called pick
  applied_well f n i size q vs w ts few' e g p kept room = go (ltb (before (function_called f ts.sorts) known) k.count) refl
    where
      go : (t : Bool) → ltb (before (function_called f ts.sorts) known) k.count ≡ t
          → Agrees text k w₀ (found_with ts (first (function_called f ts.sorts) known)) i size q w
          (pick t (settled k q (before (function_called f ts.sorts) known) n (i + size) (q + 1 + length vs) (sets w (q + 1) vs)) (out None (sets w (q + 1) vs)))
      go true d =
          let row = before (function_called f ts.sorts) known in
          let h = ltb-true row k.count d in
          let passed = row_passes (function_called f ts.sorts) text (tape_in k w₀) w₀ k.base k.count h in
          let s = function_settles text k w₀ row ts ts.sorts (l.standing row h) (and_second (is_called f (known_item text k w₀ row)) (takes ts.sorts (known_item text k w₀ row).shape) passed) in
          rw (first_row (function_called f ts.sorts) text (tape_in k w₀) w₀ k.base k.count h) (settled_well row n i size q vs w ts _ s h few' e g p kept room)
      go false d =
          rw (no_row (function_called f ts.sorts) text (tape_in k w₀) w₀ k.base k.count (ltb-false _ k.count d), nothing_found ts) refl

  -- a name alone
  alone_well : (f : Name) (i q : ℕ) (w : List ℕ) → name_at text (tape_in k w₀) i ≡ f → Kept q₀ e₀ w₀ w → Agrees text k w₀ (alone known f) i 1 q w (alone_at text k i q w)
  unfolding alone alone_at variable_row function_row applied_at variable_called no_arguments how_many flat_terms or_else pick
  alone_well f i q w name kept =
      rw (tape_stays text k w₀ q₀ e₀ l w kept, items_stay_here, name) (go (ltb row k.count) refl)
    where
      row : ℕ
      row = before (variable_called f) known

      items_stay_here : items_at text (tape_in k w₀) w k.base k.count ≡ known
      items_stay_here = rw (tape_stays text k w₀ q₀ e₀ l w kept) at (items_stay text k w₀ q₀ e₀ l w kept)

      here : q + 1 ≡ q + 1 + 0
      here = omega arith

      constant : Agrees text k w₀ (applied known f no_arguments) i 1 q w (resolved k q (before (function_called f []) known) 0 (i + 1) (q + 1) w)
      constant = rw here (applied_well f 0 i 1 q [] w no_arguments (omega arith) refl refl tt kept (omega arith))

      go : (t : Bool) → ltb row k.count ≡ t
          → Agrees text k w₀ (or_else (found_with no_arguments (first (variable_called f) known)) (applied known f no_arguments)) i 1 q w
          (pick t (settled k q row 0 (i + 1) (q + 1) w) (resolved k q (before (function_called f []) known) 0 (i + 1) (q + 1) w))
      go true d =
          let h = ltb-true row k.count d in
          let passed = row_passes (variable_called f) text (tape_in k w₀) w₀ k.base k.count h in
          let p = and_second (is_called f (known_item text k w₀ row)) (is_variable (known_item text k w₀ row).shape) passed in
          let s = variable_settles text k w₀ row p (variable_behind text k w₀ q₀ e₀ l row p) in
          let a : Agrees text k w₀ (some s.result) i 1 q w (settled k q row 0 (i + 1) (q + 1 + 0) w) =
          rw s.found at (settled_well row 0 i 1 q [] w no_arguments (found_with no_arguments (some (known_item text k w₀ row))) s h (omega arith) refl refl tt kept (omega arith)) in
          rw (first_row (variable_called f) text (tape_in k w₀) w₀ k.base k.count h, s.found, here) a
      go false d = rw (no_row (variable_called f) text (tape_in k w₀) w₀ k.base k.count (ltb-false row k.count d), nothing_found no_arguments) constant

  -- a name with arguments
  collected : (own : List ℕ) → length own ≤ 9 → take (length own) (sets no_sorts 0 own) ≡ own
  collected own h = ap (take (length own)) (sets-eq own no_sorts 0 (omega arith)) ∙ take-append_seam own (drop (0 + length own) no_sorts)

  row_found : (f : Name) (i n : ℕ) (sorts w : List ℕ) (ss : List Sort) → name_at text (tape_in k w₀) i ≡ f → Kept q₀ e₀ w₀ w
      → map (sort_of text (tape_in k w₀)) (take n sorts) ≡ ss → function_row text k i sorts n w ≡ before (function_called f ss) known
  unfolding function_row
  row_found f i n sorts w ss name kept e =
      let stays = rw (tape_stays text k w₀ q₀ e₀ l w kept) at (items_stay text k w₀ q₀ e₀ l w kept) in
      rw (tape_stays text k w₀ q₀ e₀ l w kept, stays, name, e)

  never_applied : (f : Name) (ts : TypedList) → 9 < length ts.sorts → applied known f ts ≡ none
  unfolding applied function_called
  never_applied f ts h = rw (first_never text (tape_in k w₀) w₀ f ts.sorts h k.base k.count) (nothing_found ts)

  head_well : (f : Name) (x : Term) (xs : Terms) (r : Option TypedList) (i m q c left : ℕ) (w : List ℕ) (o : Out) → name_at text (tape_in k w₀) i ≡ f → Kept q₀ e₀ w₀ w
      → q₀ ≤ q → q + (m + 1 + c) ≤ e₀ → left ≤ 9 → (0 < c → left ≡ 9) → Agree text k w₀ (applied_at text k i q) r (i + 1) m (q + 1) c left 0 no_sorts w o
      → Agrees text k w₀ (with_arguments known f (x then xs) r) i (m + 1 + c) q w o
  unfolding with_arguments applied_at
  head_well f x xs none i m q c left w o name kept a b most nine all = all
  head_well f x xs (some ts) i m q c left w o name kept a b most nine all = go (leb (length all.own) left) refl
    where
      go : (t : Bool) → leb (length all.own) left ≡ t → Agrees text k w₀ (applied known f ts) i (m + 1 + c) q w o
      go true e =
          let own = all.own in
          let vs = all.words in
          let few' = leb-true (length own) left e in
          let nine' : length own ≤ 9 = omega arith in
          let u = sets w (q + 1) vs in
          let stays = sets_kept text k w₀ q₀ e₀ l w kept (q + 1) vs (omega arith) (omega (arith, all.room)) in
          let z : 0 + length own ≡ length own = omega arith in
          let y : i + 1 + m + c ≡ i + (m + 1 + c) = omega arith in
          let row = row_found f i (length own) (sets no_sorts 0 own) u ts.sorts name stays (ap (map (sort_of text (tape_in k w₀))) (collected own nine') ∙ all.sorted) in
          rw (all.same few', z, y, row) (applied_well f (length own) i (m + 1 + c) q vs w ts nine' all.counted all.nodes all.pointed stays (omega (arith, all.room)))
      go false e =
          let many = leb-false (length all.own) left e in
          let s : length ts.sorts ≡ length all.own = ap length (sym all.sorted) ∙ length-map all.own (sort_of text (tape_in k w₀)) in
          rw (never_applied f ts (omega (arith, nine (all.closed many)))) (all.over many)

  -- ---- what stands at an argument's place: c entries close the arguments, or they are counted

  ended : (tape : List ℕ) (i c left : ℕ) → (c ≡ 0 → 0 ≡ left) → (0 < c → role_at tape i ≡ close_role) → ends_at tape c left i ≡ true
  unfolding ends_at pick
  ended tape i zero left h g = eq-eqb left 0 (sym (h refl))
  ended tape i (suc c) left h g = rw (ne_eqb (suc c) 0 (λ z. absurd (omega arith))) (eq-eqb (role_at tape i) close_role (g (omega arith)))

  not_ended : (tape : List ℕ) (i c left m : ℕ) → (c ≡ 0 → suc m ≡ left) → eqb (role_at tape i) close_role ≡ false → ends_at tape c left i ≡ false
  unfolding ends_at pick
  not_ended tape i zero left m h g = ne_eqb left 0 (λ z. absurd (omega (arith, h refl)))
  not_ended tape i (suc c) left m h g = rw (ne_eqb (suc c) 0 (λ z. absurd (omega arith))) g

  module _ (term : ℕ → ℕ → List ℕ → Out) (apply : ℕ → List ℕ → ℕ → ℕ → List ℕ → Out) (c i q n : ℕ) (sorts w : List ℕ) where
    done : (left : ℕ) → ends_at (tape_in k w) c left i ≡ true → args_by k term apply c left i q n sorts w ≡ apply n sorts (i + c) q w
    unfolding args_by pick
    done zero e = rw e
    done (suc left) e = rw e

    full : ends_at (tape_in k w) c 0 i ≡ false → args_by k term apply c 0 i q n sorts w ≡ out None w
    unfolding args_by pick
    full e = rw e

    goes_on : (left : ℕ) → ends_at (tape_in k w) c (suc left) i ≡ false
        → args_by k term apply c (suc left) i q n sorts w ≡ further (args_by k term apply c left) n sorts (term i q w).answer (term i q w).memory
    unfolding args_by pick
    goes_on left e = rw e

  term_here : (d i q : ℕ) (w : List ℕ) → i < k.tape → q < length w → role_at (tape_in k w) i ≡ alone_role → term_at text k (suc d) i q w ≡ alone_at text k i q w
  unfolding term_at term_by pick
  term_here d i q w h g e = rw (lt-ltb i k.tape h, lt-ltb q (length w) g, e)

  args_here : (d i q role : ℕ) (w : List ℕ) → i < k.tape → q < length w → role_at (tape_in k w) i ≡ role → eqb role alone_role ≡ false → eqb (arguments_of role) 0 ≡ false
      → term_at text k (suc d) i q w ≡ args_by k (term_at text k d) (applied_at text k i q) (closers_of role) (arguments_of role) (i + 1) (q + 1) 0 no_sorts w
  unfolding term_at term_by pick
  args_here d i q role w h g e a b = rw (lt-ltb i k.tape h, lt-ltb q (length w) g, e, a, b)

  sized : (f : Name) (x : Term) (xs : Terms) → length (on_tape.flat_term (node f (x then xs))) ≡ length (on_tape.flat_terms (x then xs)) + 1 + closers_of (role_of f (x then xs))
  sized f x xs =
      let c = closers_of (role_of f (x then xs)) in
      let e = length-append (on_tape.flat_terms (x then xs)) (ending c) in
      ap length (with_head f x xs) ∙ omega (arith, e, length-replicate c (entry close_role []))

  starts : (x : Term) (es : List Entry) (i : ℕ) → Spells text k w₀ i (on_tape.flat_term x ++ es) → eqb (role_at (tape_in k w₀) i) close_role ≡ false
  starts x es i s =
      let b = begins x in
      let s' = rw b.same at s in
      rw s'.1 b.role

  module _ (i q : ℕ) (w : List ℕ) (kept : Kept q₀ e₀ w₀ w) where
    -- the arguments of the name at i
    abbrev Argued : Name → Terms → ℕ → Type 0
    Argued f xs d =
        length (on_tape.flat_terms xs) ≤ d → Spells text k w₀ (i + 1) (on_tape.flat_terms xs ++ ending (closers_of (role_of f xs))) → q₀ ≤ q + 1
        → q + 1 + length (on_tape.flat_terms xs) ≤ e₀ → (closers_of (role_of f xs) ≡ 0 → on_tape.how_many xs ≡ arguments_of (role_of f xs))
        → Agree text k w₀ (applied_at text k i q) (typed_list known xs) (i + 1) (length (on_tape.flat_terms xs)) (q + 1) (closers_of (role_of f xs)) (arguments_of (role_of f xs)) 0 no_sorts w
        (args_by k (term_at text k d) (applied_at text k i q) (closers_of (role_of f xs)) (arguments_of (role_of f xs)) (i + 1) (q + 1) 0 no_sorts w)

    head_case : (f : Name) (x : Term) (xs : Terms) (d : ℕ) → length (on_tape.flat_term (node f (x then xs))) ≤ suc d
        → Spells text k w₀ i (on_tape.flat_term (node f (x then xs))) → q₀ ≤ q → q + length (on_tape.flat_term (node f (x then xs))) ≤ e₀ → Argued f (x then xs) d
        → Agrees text k w₀ (with_arguments known f (x then xs) (typed_list known (x then xs))) i (length (on_tape.flat_term (node f (x then xs)))) q w (term_at text k (suc d) i q w)
    unfolding on_tape.how_many
    head_case f x xs d deep s a b rest =
        let z = sized f x xs in
        let h = leads f (on_tape.how_many xs) in
        let role = role_of f (x then xs) in
        let s' = rw (with_head f x xs) at s in
        let here : role_at (tape_in k w) i ≡ role = rw (tape_stays text k w₀ q₀ e₀ l w kept) s'.1 in
        let room : q < length w = omega (arith, kept.size, l.inside, z) in
        rw (args_here d i q role w s'.0 room here h.not_alone h.some, z)
        (head_well f x xs (typed_list known (x then xs)) i (length (on_tape.flat_terms (x then xs))) q (closers_of role) (arguments_of role) w _ s'.2 kept a (omega (arith, z))
        h.most
        h.uncounted
        (rest (omega (arith, z)) (rw (add-one i) s'.3) (omega arith) (omega (arith, z)) h.counted))

    node_case : (f : Name) (ts : Terms) (d : ℕ) → length (on_tape.flat_term (node f ts)) ≤ d → Spells text k w₀ i (on_tape.flat_term (node f ts)) → q₀ ≤ q
        → q + length (on_tape.flat_term (node f ts)) ≤ e₀ → ((d' : ℕ) → Argued f ts d')
        → Agrees text k w₀ (typed known (node f ts)) i (length (on_tape.flat_term (node f ts))) q w (term_at text k d i q w)
    unfolding on_tape.flat_term on_tape.flat_terms on_tape.how_many flat_node typed typed_list with_arguments
    node_case f no_terms zero deep s a b rest = absurd (omega arith)
    node_case f no_terms (suc d) deep s a b rest =
        let role : role_at (tape_in k w) i ≡ alone_role = rw (tape_stays text k w₀ q₀ e₀ l w kept) s.1 in
        rw (term_here d i q w s.0 (omega (arith, kept.size, l.inside)) role) (alone_well f i q w s.2 kept)
    node_case f (x then xs) zero deep s a b rest = let z = sized f x xs in absurd (omega (arith, z, deep))
    node_case f (x then xs) (suc d) deep s a b rest = head_case f x xs d deep s a b (rest d)

    module _ (x : Term) (xs : Terms) (apply : ℕ → List ℕ → ℕ → ℕ → List ℕ → Out) (c d n : ℕ) (sorts : List ℕ)
        (s : Spells text k w₀ i ((on_tape.flat_term x ++ on_tape.flat_terms xs) ++ ending c))
        (h : Agrees text k w₀ (typed known x) i (length (on_tape.flat_term x)) q w (term_at text k d i q w)) where
      open_here : (left : ℕ) → (c ≡ 0 → suc (on_tape.how_many xs) ≡ left) → ends_at (tape_in k w) c left i ≡ false
      open_here left e =
          let t = starts x (on_tape.flat_terms xs ++ ending c) i (rw (append_assoc (on_tape.flat_term x) (on_tape.flat_terms xs) (ending c)) at s) in
          not_ended (tape_in k w) i c left (on_tape.how_many xs) e (rw (tape_stays text k w₀ q₀ e₀ l w kept) t)

      abbrev Rest : ℕ → Type 0
      Rest left =
          (v : ℕ) (vs : List ℕ) → length vs ≤ length (on_tape.flat_term x)
          → Agree text k w₀ apply (typed_list known xs) (i + length (on_tape.flat_term x)) (length (on_tape.flat_terms xs)) (q + length vs) c left (n + 1) (set sorts n v) (sets w q vs)
          (args_by k (term_at text k d) apply c left (i + length (on_tape.flat_term x)) (q + length vs) (n + 1) (set sorts n v) (sets w q vs))

      next_case : (left : ℕ) → (c ≡ 0 → suc (on_tape.how_many xs) ≡ suc left) → Rest left
          → Agree text k w₀ apply (joined_typed (typed known x) (typed_list known xs)) i (length (on_tape.flat_term x ++ on_tape.flat_terms xs)) q c (suc left) n sorts w
          (args_by k (term_at text k d) apply c (suc left) i q n sorts w)
      next_case left e rest =
          rw (length-append (on_tape.flat_term x) (on_tape.flat_terms xs), goes_on (term_at text k d) apply c i q n sorts w left (open_here (suc left) e))
          (args_more text k w₀ (term_at text k d) apply c (typed known x) (typed_list known xs) i (length (on_tape.flat_term x)) (length (on_tape.flat_terms xs)) q left n sorts w h rest)

      last_case : (c ≡ 0 → suc (on_tape.how_many xs) ≡ 0) → Rest 0
          → Agree text k w₀ apply (joined_typed (typed known x) (typed_list known xs)) i (length (on_tape.flat_term x ++ on_tape.flat_terms xs)) q c 0 n sorts w
          (args_by k (term_at text k d) apply c 0 i q n sorts w)
      last_case e rest =
          rw (length-append (on_tape.flat_term x) (on_tape.flat_terms xs), full (term_at text k d) apply c i q n sorts w (open_here 0 e))
          (args_short text k w₀ (term_at text k d) apply c (some_close c e) (typed known x) (typed_list known xs) i (length (on_tape.flat_term x)) (length (on_tape.flat_terms xs)) q n sorts w h rest)
        where
          some_close : (c : ℕ) → (c ≡ 0 → suc (on_tape.how_many xs) ≡ 0) → 0 < c
          some_close zero e = absurd (omega (arith, e refl))
          some_close (suc c) e = omega arith

    no_more : (apply : ℕ → List ℕ → ℕ → ℕ → List ℕ → Out) (c d left n : ℕ) (sorts : List ℕ) → Spells text k w₀ i (ending c) → (c ≡ 0 → 0 ≡ left)
        → Agree text k w₀ apply (some no_arguments) i 0 q c left n sorts w (args_by k (term_at text k d) apply c left i q n sorts w)
    unfolding no_arguments flat_terms how_many
    no_more apply c d left n sorts s e = record {
      own = [];
      words = [];
      same =
          λ h.
          done (term_at text k d) apply c i q n sorts w left (ended (tape_in k w) i c left e (role c s))
          ∙ (λ z. apply (sym (add-zero n) z) sorts (sym (add-zero i) z + c) (sym (add-zero q) z) w);
      over = λ h. absurd (omega arith);
      closed = λ h. absurd (omega arith);
      sorted = refl;
      nodes = refl;
      pointed = tt;
      counted = refl;
      room = omega arith;
    }
      where
        role : (c : ℕ) → Spells text k w₀ i (ending c) → 0 < c → role_at (tape_in k w) i ≡ close_role
        role zero s h = absurd (omega arith)
        role (suc c) s h = rw (tape_stays text k w₀ q₀ e₀ l w kept) s.1

  -- ---- the theorem: d is at least the number of entries, and so the depth

  mutual
    unfolding on_tape.flat_term on_tape.flat_terms on_tape.how_many flat_node typed typed_list with_arguments

    pub term_typed : (x : Term) (d i q : ℕ) (w : List ℕ) → length (on_tape.flat_term x) ≤ d → Spells text k w₀ i (on_tape.flat_term x) → Kept q₀ e₀ w₀ w
        → q₀ ≤ q → q + length (on_tape.flat_term x) ≤ e₀
        → Agrees text k w₀ (typed known x) i (length (on_tape.flat_term x)) q w (term_at text k d i q w)
    term_typed (node f ts) d i q w deep s kept a b =
        node_case i q w kept f ts d deep s a b
        (λ d' deep' s' a' b' e'. terms_typed ts (applied_at text k i q) (closers_of (role_of f ts)) d' (i + 1) (q + 1) (arguments_of (role_of f ts)) 0 no_sorts w deep' s' kept a' b' e')

    terms_typed : (xs : Terms) (apply : ℕ → List ℕ → ℕ → ℕ → List ℕ → Out) (c d i q left n : ℕ) (sorts w : List ℕ) → length (on_tape.flat_terms xs) ≤ d
        → Spells text k w₀ i (on_tape.flat_terms xs ++ ending c) → Kept q₀ e₀ w₀ w → q₀ ≤ q → q + length (on_tape.flat_terms xs) ≤ e₀ → (c ≡ 0 → on_tape.how_many xs ≡ left)
        → Agree text k w₀ apply (typed_list known xs) i (length (on_tape.flat_terms xs)) q c left n sorts w (args_by k (term_at text k d) apply c left i q n sorts w)
    terms_typed no_terms apply c d i q left n sorts w deep s kept a b e = no_more i q w kept apply c d left n sorts s e
    terms_typed (x then xs) apply c d i q zero n sorts w deep s kept a b e =
        let m = length-append (on_tape.flat_term x) (on_tape.flat_terms xs) in
        let t = rw (append_assoc (on_tape.flat_term x) (on_tape.flat_terms xs) (ending c)) at s in
        last_case i q w kept x xs apply c d n sorts s
        (term_typed x d i q w (omega (arith, m, deep)) (spells_front text k w₀ (on_tape.flat_term x) (on_tape.flat_terms xs ++ ending c) i t) kept a (omega (arith, m, b)))
        e
        (λ v vs h.
        terms_typed xs apply c d (i + length (on_tape.flat_term x)) (q + length vs) 0 (n + 1) (set sorts n v) (sets w q vs) (omega (arith, m, deep))
        (spells_back text k w₀ (on_tape.flat_term x) (on_tape.flat_terms xs ++ ending c) i t)
        (sets_kept text k w₀ q₀ e₀ l w kept q vs a (omega (arith, m, b)))
        (omega arith)
        (omega (arith, m, b))
        (λ z. absurd (omega (arith, e z))))
    terms_typed (x then xs) apply c d i q (suc left) n sorts w deep s kept a b e =
        let m = length-append (on_tape.flat_term x) (on_tape.flat_terms xs) in
        let t = rw (append_assoc (on_tape.flat_term x) (on_tape.flat_terms xs) (ending c)) at s in
        next_case i q w kept x xs apply c d n sorts s
        (term_typed x d i q w (omega (arith, m, deep)) (spells_front text k w₀ (on_tape.flat_term x) (on_tape.flat_terms xs ++ ending c) i t) kept a (omega (arith, m, b)))
        left
        e
        (λ v vs h.
        terms_typed xs apply c d (i + length (on_tape.flat_term x)) (q + length vs) left (n + 1) (set sorts n v) (sets w q vs) (omega (arith, m, deep))
        (spells_back text k w₀ (on_tape.flat_term x) (on_tape.flat_terms xs ++ ending c) i t)
        (sets_kept text k w₀ q₀ e₀ l w kept q vs a (omega (arith, m, b)))
        (omega arith)
        (omega (arith, m, b))
        (λ z. omega (arith, e z)))
