-- The turns of the walk: what holds while boxes are open, and what a turn leaves.
use Rattle.std.specs.Prelude.{◌≡◌, Bool, eqb, ltb, take, drop, set}
use Rattle.std.proofs.Math.Path.{refl, sym, ap, ap₂}
use Rattle.std.proofs.Common.{◌∙◌, eqb-true, take-append-drop, length-take-le}
use Prim.Native.Nat.{ℕ, zero, suc, ◌+◌, ◌-◌, ◌*◌, ◌<◌, ◌≤◌}
use native.Mathlib.Omega.{arith}
use Rattle.std.proofs.Math.Bool.{true, false}
use Rattle.std.proofs.lemmas.Bool.{eqb-false}
use mathlib.Core.List.{List, [], ◌∷◌, ◌++◌, map, append_assoc, append-nil}
use Rattle.std.proofs.Math.ListN.{length, get_or, length-set}
use Rattle.std.proofs.lemmas.List.{take-set-le}
use Rattle.std.proofs.lemmas.List.Edits.{sets}
use Rattle.std.proofs.Math.Seq.{length-sets, get_or-set_same, get_or-set_other}
use Rattle.meaning.specs.Lists.{pick, before, each}
use Rattle.meaning.specs.Names.{bytes, Name, same}
use Rattle.meaning.specs.Syntax.{Parameter, Module}
use Rattle.meaning.specs.Reached.{module_names}
use Rattle.meaning.specs.Listing.{Line, line_text}
use Rattle.meaning.specs.Texts.{two_texts, Reading, all_read, refused_in, read_texts}
use Rattle.laws.specs.Distinct.{Fresh}
use Rattle.text_names.specs.Word.{name_of}
use Rattle.tape.specs.Tape.{import_role}
use Rattle.form.specs.Memory.{part}
use Rattle.form_rows.specs.Entries.{word_at, name_at, next_with}
use Rattle.modules.specs.Modules.{Heads, declared, picked}
use Rattle.modules.specs.ModuleLaws.{Spells, declared_names}
use Rattle.modules.specs.ReachedLaws.{names_distinct, drop_some}
use Rattle.diagram_meaning.specs.Diagram.{Expression, expressions_of, absent_line, own_lines, parameter_line, bind_line, box_line, drawn}
use Rattle.diagram_lines.specs.Sheet.{line_limit, Drawing, drawing, one_more, drew_line, drew, named_line}
use Rattle.list_pen.specs.Pen.{pen, written}
use Rattle.list_pen.proofs.Laws.{written_kept}
use Rattle.diagram_lines.specs.Laws.{drew_append, drew_full, drew_more}
use Rattle.diagram_boxes.specs.Boxes.{is_parameter, bindings_from, expressions_from, begin_of, end_of, box_lines}
use Rattle.diagram_boxes.specs.Meant.{module_expressions, module_parameters, module_name}
use Rattle.diagram_open.specs.Numbers.{earlier, Number, numbered, drawn_missing, drawn_found}
use Rattle.diagram_open.specs.Open.{expression_at, rest, pending, rest_next, rest_none, pending_last, pending_kept}

-- the first t words spell the modules; so many boxes are open, and their words stand from base on, behind the tape: a module's number and the number of
-- boxes before its own are together less than the number of modules
pub record Walking (text : List ℕ) (ms : List Module) (h : Heads) (t base : ℕ) (w : List ℕ) (boxes : ℕ) : Type 0 where
  pub spells : Spells text (part w 0 t) (length (part w 0 t)) ms h
  pub fresh : Fresh [] ms
  pub few : length ms ≤ 64
  pub behind : t ≤ base
  pub small : base ≤ 65536
  pub room : base + 128 ≤ length w
  pub most : boxes ≤ 64
  pub rows : (i : ℕ) → i < boxes → get_or w (base + 2 * i) 0 + i < length ms

-- the expression at e of the last open box, which is that of module k, is next
pub record Turning (text : List ℕ) (ms : List Module) (h : Heads) (t base : ℕ) (w : List ℕ) (boxes k e end : ℕ) : Type 0 where
  pub walking : Walking text ms h t base w boxes
  pub some : 0 < boxes
  pub number : k ≡ get_or w (base + 2 * (boxes - 1)) 0
  pub inside : e < end
  pub left : rest text (part w 0 t) ms h k (get_or w (base + 2 * (boxes - 1) + 1) 0) boxes
      ≡ drawn (earlier ms k) boxes (expression_at text (part w 0 t) e end) ++ rest text (part w 0 t) ms h k (e + 1) boxes
  pub ending : end ≡ end_of h k

-- what a turn leaves: as much is drawn and left to be drawn as before, and there are fewer turns to come
pub record Turned (l : ℕ) (text : List ℕ) (ms : List Module) (h : Heads) (t base : ℕ) (w : List ℕ) (boxes at lines : ℕ) (o w' : List ℕ) (boxes' at' lines' : ℕ) (o' : List ℕ) : Type 0 where
  pub next : Walking text ms h t base w' boxes'
  pub tape_so : part w' 0 t ≡ part w 0 t
  pub comes : drew l (pending text (part w 0 t) ms h base w boxes) (drawing at lines o) ≡ drew l (pending text (part w' 0 t) ms h base w' boxes') (drawing at' lines' o')
  pub falls : lines < line_limit → boxes' + 2 * lines + 1 ≤ boxes + 2 * lines'
  pub grows : boxes' ≤ boxes + 1

-- that no earlier module is called v is drawn, and the last box goes on behind e
pub record Missed (l : ℕ) (text : List ℕ) (base boxes e v : ℕ) (w : List ℕ) (at lines : ℕ) (o w' : List ℕ) (at' lines' : ℕ) (o' : List ℕ) : Type 0 where
  pub memory_so : w' ≡ set w (base + 2 * (boxes - 1) + 1) (e + 1)
  pub drawn_so : drawing at' lines' o' ≡ drew l (named_line (bytes "absent") boxes (name_of text v) ∷ []) (drawing at lines o)

pub missed_so : (l : ℕ) (text : List ℕ) (base boxes e v : ℕ) (w : List ℕ) (at lines : ℕ) (o w' : List ℕ) (at' lines' : ℕ) (o' : List ℕ) (row : ℕ)
    → row ≡ base + 2 * (boxes - 1) → w' ≡ set w (row + 1) (e + 1)
    → drawing at' lines' o' ≡ drew l (named_line (bytes "absent") boxes (name_of text v) ∷ []) (drawing at lines o)
    → Missed l text base boxes e v w at lines o w' at' lines' o'
missed_so l text base boxes e v w at lines o w' at' lines' o' row er ew d =
    record { memory_so = ew ∙ ap (λ (i : ℕ). set w (i + 1) (e + 1)) er; drawn_so = d }

-- the box of module p is drawn and open, behind the others
pub record Opened (l : ℕ) (text : List ℕ) (h : Heads) (t base boxes p e end : ℕ) (w : List ℕ) (at lines : ℕ) (o w' : List ℕ) (at' lines' : ℕ) (o' : List ℕ) : Type 0 where
  pub memory_so : w' ≡ sets w (base + 2 * (boxes - 1) + 1) ((e + 1) ∷ p ∷ begin_of h p ∷ [])
  pub drawn_so : drawing at' lines' o' ≡ drew l (box_lines text (part w' 0 t) h boxes p (e + 1) end) (drawing at lines o)

pub opened_so : (l : ℕ) (text : List ℕ) (h : Heads) (t base boxes p e end : ℕ) (w : List ℕ) (at lines : ℕ) (o w' : List ℕ) (at' lines' : ℕ) (o' : List ℕ) (f row : ℕ)
    → f ≡ begin_of h p → row ≡ base + 2 * (boxes - 1) → w' ≡ sets w (row + 1) ((e + 1) ∷ p ∷ f ∷ [])
    → drawing at' lines' o' ≡ drew l (box_lines text (part w' 0 t) h boxes p (e + 1) end) (drawing at lines o)
    → Opened l text h t base boxes p e end w at lines o w' at' lines' o'
opened_so l text h t base boxes p e end w at lines o w' at' lines' o' f row ef er ew d =
    record { memory_so = ew ∙ ap₂ (λ (i j : ℕ). sets w (i + 1) ((e + 1) ∷ p ∷ j ∷ [])) er ef; drawn_so = d }

-- ---- the tape stays

front_kept : (t i v : ℕ) (w : List ℕ) → t ≤ i → part (set w i v) 0 t ≡ part w 0 t
front_kept t i v w h = take-set-le (t - 0) w i v (omega (arith, h))

module _ (text : List ℕ) (ms : List Module) (h : Heads) (t base : ℕ) (w : List ℕ) (boxes : ℕ) (a : Walking text ms h t base w boxes) where
  pub tape_within : t ≤ length w
  tape_within = omega (arith, a.behind, a.room)

  -- other words behind the tape
  rewalk : (w' : List ℕ) (n : ℕ) → part w' 0 t ≡ part w 0 t → length w' ≡ length w → n ≤ 64 → ((i : ℕ) → i < n → get_or w' (base + 2 * i) 0 + i < length ms)
      → Walking text ms h t base w' n
  rewalk w' n e s m f = record {
    spells = rw e a.spells;
    fresh = a.fresh;
    few = a.few;
    behind = a.behind;
    small = a.small;
    room = omega (arith, s, a.room);
    most = m;
    rows = f;
  }

  -- ---- the last box is closed
  module _ (l at lines : ℕ) (o : List ℕ) (k j end e : ℕ) (some : 0 < boxes) (ek : k ≡ get_or w (base + 2 * (boxes - 1)) 0)
      (ej : j ≡ get_or w (base + 2 * (boxes - 1) + 1) 0) (ee : end ≡ end_of h k) (q : e ≡ next_with import_role (part w 0 t) j (end - j)) where
    pub turn_closed : end ≤ e → Turned l text ms h t base w boxes at lines o w (boxes - 1) at lines o
    turn_closed g = record {
      next = rewalk w (boxes - 1) refl refl (omega (arith, a.most)) (λ i m. a.rows i (omega (arith, m)));
      tape_so = refl;
      comes =
          let none : rest text (part w 0 t) ms h k j boxes ≡ [] = rest_none text (part w 0 t) ms h k j boxes e end ee q g in
          ap (λ (ls : List Line). drew l ls (drawing at lines o))
          (pending_last text (part w 0 t) ms h base w boxes some
          ∙ ap (λ (ls : List Line). ls ++ pending text (part w 0 t) ms h base w (boxes - 1))
          (sym (ap₂ (λ (x y : ℕ). rest text (part w 0 t) ms h x y boxes) ek ej) ∙ none));
      falls = λ m. omega (arith, some);
      grows = omega arith;
    }

    pub turn_next : e < end → Turning text ms h t base w boxes k e end
    turn_next g = record {
      walking = a;
      some = some;
      number = ek;
      inside = g;
      left = ap (λ (y : ℕ). rest text (part w 0 t) ms h k y boxes) (sym ej) ∙ rest_next text (part w 0 t) ms h k j boxes e end ee q g;
      ending = ee;
    }

-- ---- an expression

map_map : (f : Name → Line) (ps : List Parameter) → map f (map (λ (p : Parameter). p.name) ps) ≡ map (λ (p : Parameter). f p.name) ps
map_map f [] = refl
map_map f (p ∷ ps) = ap (λ (ls : List Line). f p.name ∷ ls) (map_map f ps)

-- the box of module p, by the tape
module _ (text tape : List ℕ) (n : ℕ) (ms : List Module) (h : Heads) (s : Spells text tape n ms h) (p : ℕ) (m : Number ms p) where
  split : ms ≡ take p ms ++ (m.self ∷ m.later)
  split = sym (take-append-drop p ms) ∙ ap (λ (r : List Module). take p ms ++ r) m.there

  size : length (take p ms) ≡ p
  size = length-take-le p ms (omega (arith, drop_some p ms m.later m.self m.there))

  pub box_meant : (d a end : ℕ) → box_lines text tape h d p a end ≡ own_lines d m.self (bindings_from text tape 0 a (end - a))
  unfolding box_lines own_lines
  box_meant d a end =
      let named : name_at text tape (begin_of h p) ≡ m.self.name =
      ap (λ (i : ℕ). name_at text tape (begin_of h i)) (sym size) ∙ module_name text tape n ms h s (take p ms) m.self m.later split in
      let parameters = ap (λ (i : ℕ). picked is_parameter text tape (begin_of h i) (end_of h i - begin_of h i)) (sym size)
      ∙ module_parameters text tape n ms h s (take p ms) m.self m.later split in
      rw (named, parameters, map_map (parameter_line d) m.self.parameters) refl

  pub rest_meant : (d : ℕ) → rest text tape ms h p (begin_of h p) d ≡ each (λ (y : Expression). drawn (earlier ms p) d y) (expressions_of m.self)
  unfolding rest
  rest_meant d =
      ap (each (λ (y : Expression). drawn (earlier ms p) d y))
      (ap (λ (i : ℕ). expressions_from text tape (begin_of h i) (end_of h i - begin_of h i)) (sym size)
      ∙ module_expressions text tape n ms h s (take p ms) m.self m.later split)

module _ (text : List ℕ) (ms : List Module) (h : Heads) (t base : ℕ) (w : List ℕ) (boxes k e end : ℕ) (a : Turning text ms h t base w boxes k e end)
    (l at lines : ℕ) (o : List ℕ) (v p : ℕ) (ev : v ≡ word_at (part w 0 t) e) (ep : p ≡ before (same (name_of text v)) (declared text (part w 0 t) h)) where
  abbrev tape : List ℕ
  tape = part w 0 t

  abbrev row : ℕ
  row = base + 2 * (boxes - 1)

  abbrev x : Expression
  x = expression_at text tape e end

  walk : Walking text ms h t base w boxes
  walk = a.walking

  k_small : k + (boxes - 1) < length ms
  k_small = omega (arith, a.number, walk.rows (boxes - 1) (omega (arith, a.some)))

  p_so : p ≡ before (same x.name) (module_names ms)
  unfolding expression_at
  p_so =
      ep ∙ ap (λ (ds : List Name). before (same (name_of text v)) ds) (declared_names text tape (length tape) ms h walk.spells)
      ∙ ap (λ (i : ℕ). before (same (name_of text i)) (module_names ms)) ev

  -- what is to be drawn, the expression first
  whole : pending text tape ms h base w boxes
      ≡ drawn (earlier ms k) boxes x ++ (rest text tape ms h k (e + 1) boxes ++ pending text tape ms h base w (boxes - 1))
  whole =
      pending_last text tape ms h base w boxes a.some
      ∙ ap (λ (i : ℕ). rest text tape ms h i (get_or w (row + 1) 0) boxes ++ pending text tape ms h base w (boxes - 1)) (sym a.number)
      ∙ ap (λ (ls : List Line). ls ++ pending text tape ms h base w (boxes - 1)) a.left
      ∙ append_assoc (drawn (earlier ms k) boxes x) (rest text tape ms h k (e + 1) boxes) (pending text tape ms h base w (boxes - 1))

  -- ---- it is absent
  module _ (g : k ≤ p) (w' : List ℕ) (at' lines' : ℕ) (o' : List ℕ) (missed : Missed l text base boxes e v w at lines o w' at' lines' o') where
    ew : w' ≡ set w (row + 1) (e + 1)
    ew = missed.memory_so

    d : drawing at' lines' o' ≡ drew l (named_line (bytes "absent") boxes (name_of text v) ∷ []) (drawing at lines o)
    d = missed.drawn_so

    kept : (i : ℕ) → (i ≡ row + 1 → ⊥) → get_or w' i 0 ≡ get_or w i 0
    kept i n = ap (λ (y : List ℕ). get_or y i 0) ew ∙ get_or-set_other w (row + 1) i (e + 1) 0 n

    placed : get_or w' (row + 1) 0 ≡ e + 1
    placed = ap (λ (y : List ℕ). get_or y (row + 1) 0) ew ∙ get_or-set_same w (row + 1) (e + 1) 0 (omega (arith, walk.room, walk.most, a.some))

    tape_kept : part w' 0 t ≡ tape
    tape_kept = ap (λ (y : List ℕ). part y 0 t) ew ∙ front_kept t (row + 1) (e + 1) w (omega (arith, walk.behind))

    line_so : drawn (earlier ms k) boxes x ≡ named_line (bytes "absent") boxes (name_of text v) ∷ []
    unfolding named_line absent_line expression_at
    line_so =
        drawn_missing ms boxes x k (omega (arith, k_small)) (omega (arith, g, p_so))
        ∙ ap (λ (i : ℕ). absent_line boxes (name_of text i) ∷ []) (sym ev)

    left_so : pending text (part w' 0 t) ms h base w' boxes ≡ rest text tape ms h k (e + 1) boxes ++ pending text tape ms h base w (boxes - 1)
    left_so =
        ap (λ (y : List ℕ). pending text y ms h base w' boxes) tape_kept
        ∙ pending_last text tape ms h base w' boxes a.some
        ∙ ap₂ (λ (i j : ℕ). rest text tape ms h i j boxes ++ pending text tape ms h base w' (boxes - 1)) (kept row (λ n. omega (arith, n)) ∙ sym a.number) placed
        ∙ ap (λ (ls : List Line). rest text tape ms h k (e + 1) boxes ++ ls) (pending_kept text tape ms h base w w' (boxes - 1) (λ i m. kept i (λ n. omega (arith, n, m))))

    pub turn_absent : Turned l text ms h t base w boxes at lines o w' boxes at' lines' o'
    turn_absent = record {
      next = rewalk text ms h t base w boxes walk w' boxes tape_kept (ap length ew ∙ length-set w (row + 1) (e + 1)) walk.most
          (λ i m. omega (arith, kept (base + 2 * i) (λ n. omega (arith, n)), walk.rows i m));
      tape_so = tape_kept;
      comes =
          ap (λ (ls : List Line). drew l ls (drawing at lines o)) (whole ∙ ap (λ (ls : List Line). ls ++ (rest text tape ms h k (e + 1) boxes ++ pending text tape ms h base w (boxes - 1))) line_so)
          ∙ drew_append l (named_line (bytes "absent") boxes (name_of text v) ∷ []) _ (drawing at lines o)
          ∙ ap₂ (λ (ls : List Line) (y : Drawing). drew l ls y) (sym left_so) (sym d);
      falls = λ m. omega (arith, drew_more l _ [] at lines at' lines' o o' m d);
      grows = omega arith;
    }

  -- ---- it is opened
  module _ (g : p < k) (w' : List ℕ) (at' lines' : ℕ) (o' : List ℕ) (done : Opened l text h t base boxes p e end w at lines o w' at' lines' o') where
    abbrev f : ℕ
    f = begin_of h p

    stored : w' ≡ sets w (row + 1) ((e + 1) ∷ p ∷ f ∷ [])
    stored = done.memory_so

    box_drawn : drawing at' lines' o' ≡ drew l (box_lines text (part w' 0 t) h boxes p (e + 1) end) (drawing at lines o)
    box_drawn = done.drawn_so

    m : Number ms p
    m = numbered ms p (omega (arith, g, k_small))

    roomy : row + 3 < length w
    roomy = omega (arith, walk.room, walk.few, k_small, g, a.some)

    size₁ : length (set w (row + 1) (e + 1)) ≡ length w
    size₁ = length-set w (row + 1) (e + 1)

    size₂ : length (set (set w (row + 1) (e + 1)) (suc (row + 1)) p) ≡ length w
    size₂ = length-set (set w (row + 1) (e + 1)) (suc (row + 1)) p ∙ size₁

    below : (i : ℕ) → i < row + 1 → get_or w' i 0 ≡ get_or w i 0
    below i n =
        ap (λ (y : List ℕ). get_or y i 0) stored
        ∙ get_or-set_other (set (set w (row + 1) (e + 1)) (suc (row + 1)) p) (suc (suc (row + 1))) i f 0 (λ q. omega (arith, q, n))
        ∙ get_or-set_other (set w (row + 1) (e + 1)) (suc (row + 1)) i p 0 (λ q. omega (arith, q, n))
        ∙ get_or-set_other w (row + 1) i (e + 1) 0 (λ q. omega (arith, q, n))

    first : get_or w' (row + 1) 0 ≡ e + 1
    first =
        ap (λ (y : List ℕ). get_or y (row + 1) 0) stored
        ∙ get_or-set_other (set (set w (row + 1) (e + 1)) (suc (row + 1)) p) (suc (suc (row + 1))) (row + 1) f 0 (λ q. omega (arith, q))
        ∙ get_or-set_other (set w (row + 1) (e + 1)) (suc (row + 1)) (row + 1) p 0 (λ q. omega (arith, q))
        ∙ get_or-set_same w (row + 1) (e + 1) 0 (omega (arith, roomy))

    second : get_or w' (base + 2 * boxes) 0 ≡ p
    second =
        let z : base + 2 * boxes ≡ suc (row + 1) = omega (arith, a.some) in
        ap₂ (λ (y : List ℕ) (i : ℕ). get_or y i 0) stored z
        ∙ get_or-set_other (set (set w (row + 1) (e + 1)) (suc (row + 1)) p) (suc (suc (row + 1))) (suc (row + 1)) f 0 (λ q. omega (arith, q))
        ∙ get_or-set_same (set w (row + 1) (e + 1)) (suc (row + 1)) p 0 (omega (arith, roomy, size₁))

    third : get_or w' (base + 2 * boxes + 1) 0 ≡ begin_of h p
    third =
        let z : base + 2 * boxes + 1 ≡ suc (suc (row + 1)) = omega (arith, a.some) in
        ap₂ (λ (y : List ℕ) (i : ℕ). get_or y i 0) stored z
        ∙ get_or-set_same (set (set w (row + 1) (e + 1)) (suc (row + 1)) p) (suc (suc (row + 1))) f 0 (omega (arith, roomy, size₂))

    tape_stays : part w' 0 t ≡ tape
    tape_stays =
        ap (λ (y : List ℕ). part y 0 t) stored
        ∙ front_kept t (suc (suc (row + 1))) f (set (set w (row + 1) (e + 1)) (suc (row + 1)) p) (omega (arith, walk.behind))
        ∙ front_kept t (suc (row + 1)) p (set w (row + 1) (e + 1)) (omega (arith, walk.behind))
        ∙ front_kept t (row + 1) (e + 1) w (omega (arith, walk.behind))

    abbrev own : List Line
    own = own_lines boxes m.self x.bindings

    abbrev inner : List Line
    inner = each (λ (y : Expression). drawn (earlier ms p) (suc boxes) y) (expressions_of m.self)

    lines_so : drawn (earlier ms k) boxes x ≡ own ++ inner
    lines_so =
        let there : drop (before (same x.name) (module_names ms)) ms ≡ m.self ∷ m.later = ap (λ (i : ℕ). drop i ms) (sym p_so) ∙ m.there in
        drawn_found ms boxes x (names_distinct ms walk.fresh) m.self m.later there k (omega (arith, k_small)) (omega (arith, g, p_so))
        ∙ ap (λ (i : ℕ). own ++ each (λ (y : Expression). drawn (earlier ms i) (suc boxes) y) (expressions_of m.self)) (sym p_so)

    box_so : box_lines text (part w' 0 t) h boxes p (e + 1) end ≡ own
    unfolding expression_at
    box_so = ap (λ (y : List ℕ). box_lines text y h boxes p (e + 1) end) tape_stays ∙ box_meant text tape (length tape) ms h walk.spells p m boxes (e + 1) end

    behind_so : pending text (part w' 0 t) ms h base w' (boxes + 1)
        ≡ inner ++ (rest text tape ms h k (e + 1) boxes ++ pending text tape ms h base w (boxes - 1))
    unfolding pending
    behind_so =
        let z : boxes + 1 ≡ suc boxes = omega arith in
        ap₂ (λ (y : List ℕ) (i : ℕ). pending text y ms h base w' i) tape_stays z
        ∙ ap₂ (λ (a b : List Line). a ++ b)
        (ap₂ (λ (i j : ℕ). rest text tape ms h i j (suc boxes)) second third ∙ rest_meant text tape (length tape) ms h walk.spells p m (suc boxes))
        (pending_last text tape ms h base w' boxes a.some
        ∙ ap₂ (λ (i j : ℕ). rest text tape ms h i j boxes ++ pending text tape ms h base w' (boxes - 1)) (below row (omega arith) ∙ sym a.number) first
        ∙ ap (λ (ls : List Line). rest text tape ms h k (e + 1) boxes ++ ls) (pending_kept text tape ms h base w w' (boxes - 1) (λ i n. below i (omega (arith, n)))))

    abbrev behind : List Line
    behind = rest text tape ms h k (e + 1) boxes ++ pending text tape ms h base w (boxes - 1)

    more : lines < line_limit → lines < lines'
    unfolding own_lines
    more n =
        drew_more l (box_line boxes m.self.name)
        (map (λ (y : Parameter). parameter_line boxes y.name) m.self.parameters ++ map (bind_line boxes) x.bindings) at lines at' lines' o o' n
        (box_drawn ∙ ap (λ (ls : List Line). drew l ls (drawing at lines o)) box_so)

    pub turn_opened : Turned l text ms h t base w boxes at lines o w' (boxes + 1) at' lines' o'
    turn_opened = record {
      next = rewalk text ms h t base w boxes walk w' (boxes + 1) tape_stays (ap length stored ∙ length-sets w (row + 1) ((e + 1) ∷ p ∷ f ∷ []))
          (omega (arith, k_small, walk.few, g)) (λ i n. each_row i n);
      tape_so = tape_stays;
      comes =
          ap (λ (ls : List Line). drew l ls (drawing at lines o)) (whole ∙ ap (λ (ls : List Line). ls ++ behind) lines_so ∙ append_assoc own inner behind)
          ∙ drew_append l own (inner ++ behind) (drawing at lines o)
          ∙ ap₂ (λ (ls : List Line) (y : Drawing). drew l ls y) (sym behind_so) (sym (box_drawn ∙ ap (λ (ls : List Line). drew l ls (drawing at lines o)) box_so));
      falls = λ n. omega (arith, more n);
      grows = omega arith;
    }
      where
        each_row : (i : ℕ) → i < boxes + 1 → get_or w' (base + 2 * i) 0 + i < length ms
        each_row i n = go (eqb i boxes) refl
          where
            go : (b : Bool) → eqb i boxes ≡ b → get_or w' (base + 2 * i) 0 + i < length ms
            go true q =
                let e : i ≡ boxes = eqb-true i boxes q in
                omega (arith, e, ap (λ (j : ℕ). get_or w' (base + 2 * j) 0) e ∙ second, k_small, g, a.some)
            go false q =
                let e : i ≡ boxes → ⊥ = eqb-false i boxes q in
                omega (arith, below (base + 2 * i) (omega (arith, e, n)), walk.rows i (omega (arith, e, n)))

-- ---- the output keeps its length

module _ (l : ℕ) where
  line_kept : (x : Line) (s : Drawing) → length (drew_line l x s).out ≡ length s.out
  unfolding drew_line pick
  line_kept x s = go (ltb s.lines line_limit)
    where
      go : (b : Bool) → length (pick b (one_more s.lines (written l (line_text x) (pen s.at s.out))) s).out ≡ length s.out
      go true = written_kept l (line_text x) (pen s.at s.out)
      go false = refl

  pub drew_kept : (xs : List Line) (s : Drawing) → length (drew l xs s).out ≡ length s.out
  unfolding drew
  drew_kept [] s = refl
  drew_kept (x ∷ xs) s = drew_kept xs (drew_line l x s) ∙ line_kept x s

-- ---- the whole walk

unfoldable pub modules_in : Reading → List Module
modules_in (all_read ms) = ms
modules_in (refused_in in_library number place) = []

-- the modules of both texts, where they are read
unfoldable pub read_modules : List ℕ → List ℕ → List Module
read_modules library text = modules_in (read_texts (two_texts library text))

-- the lines of the top module, number k, and of all that it imports
unfoldable pub top_lines : List ℕ → List ℕ → List Module → Heads → ℕ → List Line
top_lines text tape ms h k = box_lines text tape h 0 k 0 0 ++ rest text tape ms h k (begin_of h k) 1

pub record Starting (text : List ℕ) (ms : List Module) (h : Heads) (t base : ℕ) (w : List ℕ) (k : ℕ) : Type 0 where
  pub walking : Walking text ms h t base w 0
  pub number : k < length ms

pub record Walked (l : ℕ) (text : List ℕ) (ms : List Module) (h : Heads) (t base k : ℕ) (w o w' : List ℕ) (at' lines' : ℕ) (o' : List ℕ) : Type 0 where
  pub drawn_so : drawing at' lines' o' ≡ drew l (top_lines text (part w 0 t) ms h k) (drawing 0 0 o)
  pub next : Starting text ms h t base w' k
  pub tape_so : part w' 0 t ≡ part w 0 t

-- the top module's box is drawn and open
pub record Begun (l : ℕ) (text : List ℕ) (ms : List Module) (h : Heads) (t base k : ℕ) (w o w' : List ℕ) (at lines : ℕ) (o' : List ℕ) : Type 0 where
  pub walking : Walking text ms h t base w' 1
  pub number : k < length ms
  pub tape_so : part w' 0 t ≡ part w 0 t
  pub comes : drew l (top_lines text (part w 0 t) ms h k) (drawing 0 0 o) ≡ drew l (pending text (part w' 0 t) ms h base w' 1) (drawing at lines o')

-- between two turns
pub record Underway (l : ℕ) (text : List ℕ) (ms : List Module) (h : Heads) (t base : ℕ) (w₀ : List ℕ) (at₀ lines₀ : ℕ) (o₀ w o : List ℕ) (boxes at lines : ℕ) : Type 0 where
  pub walking : Walking text ms h t base w boxes
  pub tape_so : part w 0 t ≡ part w₀ 0 t
  pub long : length w ≡ length w₀
  pub sized : length o ≡ length o₀
  pub comes : drew l (pending text (part w₀ 0 t) ms h base w₀ 1) (drawing at₀ lines₀ o₀) ≡ drew l (pending text (part w 0 t) ms h base w boxes) (drawing at lines o)

-- all that was pending is drawn
pub record Ended (l : ℕ) (text : List ℕ) (ms : List Module) (h : Heads) (t base : ℕ) (w : List ℕ) (at lines : ℕ) (o w' : List ℕ) (at' lines' : ℕ) (o' : List ℕ) : Type 0 where
  pub drawn_so : drawing at' lines' o' ≡ drew l (pending text (part w 0 t) ms h base w 1) (drawing at lines o)
  pub next : Walking text ms h t base w' 0
  pub tape_so : part w' 0 t ≡ part w 0 t

module _ (l : ℕ) (text : List ℕ) (ms : List Module) (h : Heads) (t base k : ℕ) (w o : List ℕ) where
  module _ (a : Starting text ms h t base w k) where
    pub start_within : t ≤ length w
    start_within = tape_within text ms h t base w 0 a.walking

    pub top_begun : (f : ℕ) (w₁ w₂ o₁ : List ℕ) (at lines : ℕ) → f ≡ begin_of h k → w₁ ≡ set w base k → w₂ ≡ set w₁ (base + 1) f
        → drawing at lines o₁ ≡ drew l (box_lines text (part w 0 t) h 0 k 0 0) (drawing 0 0 o) → Begun l text ms h t base k w o w₂ at lines o₁
    unfolding top_lines pending
    top_begun f w₁ w₂ o₁ at lines ef e₁ e₂ d =
        let walk = a.walking in
        let long₁ : length w₁ ≡ length w = ap length e₁ ∙ length-set w base k in
        let long₂ : length w₂ ≡ length w = ap length e₂ ∙ length-set w₁ (base + 1) f ∙ long₁ in
        let same_tape : part w₂ 0 t ≡ part w 0 t =
        ap (λ (y : List ℕ). part y 0 t) e₂ ∙ front_kept t (base + 1) f w₁ (omega (arith, walk.behind))
        ∙ ap (λ (y : List ℕ). part y 0 t) e₁ ∙ front_kept t base k w walk.behind in
        let number_so : get_or w₂ (base + 2 * 0) 0 ≡ k =
        (let z : base + 2 * 0 ≡ base = omega arith in
        ap₂ (λ (y : List ℕ) (i : ℕ). get_or y i 0) e₂ z ∙ get_or-set_other w₁ (base + 1) base f 0 (λ q. omega (arith, q))
        ∙ ap (λ (y : List ℕ). get_or y base 0) e₁ ∙ get_or-set_same w base k 0 (omega (arith, walk.room))) in
        let place_so : get_or w₂ (base + 2 * 0 + 1) 0 ≡ begin_of h k =
        (let z : base + 2 * 0 + 1 ≡ base + 1 = omega arith in
        ap₂ (λ (y : List ℕ) (i : ℕ). get_or y i 0) e₂ z ∙ get_or-set_same w₁ (base + 1) f 0 (omega (arith, walk.room, long₁)) ∙ ef) in
        record {
          walking = rewalk text ms h t base w 0 walk w₂ 1 same_tape long₂ (omega arith) (λ i n. first_row i n number_so);
          number = a.number;
          tape_so = same_tape;
          comes =
              drew_append l (box_lines text (part w 0 t) h 0 k 0 0) (rest text (part w 0 t) ms h k (begin_of h k) 1) (drawing 0 0 o)
              ∙ ap₂ (λ (ls : List Line) (y : Drawing). drew l ls y)
              (sym (append-nil (rest text (part w 0 t) ms h k (begin_of h k) 1))
              ∙ ap₂ (λ (i j : ℕ). rest text (part w 0 t) ms h i j 1 ++ []) (sym number_so) (sym place_so)
              ∙ ap (λ (y : List ℕ). pending text y ms h base w₂ 1) (sym same_tape)) (sym d);
        }
      where
        first_row : (i : ℕ) → i < 1 → get_or w₂ (base + 2 * 0) 0 ≡ k → get_or w₂ (base + 2 * i) 0 + i < length ms
        first_row zero n e = omega (arith, e, a.number)
        first_row (suc i) n e = absurd (omega (arith, n))

    pub top_walked : (w₁ o₁ w₂ o₂ : List ℕ) (at lines at' lines' : ℕ) → Begun l text ms h t base k w o w₁ at lines o₁
        → Ended l text ms h t base w₁ at lines o₁ w₂ at' lines' o₂ → Walked l text ms h t base k w o w₂ at' lines' o₂
    top_walked w₁ o₁ w₂ o₂ at lines at' lines' b r = record {
      drawn_so = r.drawn_so ∙ sym b.comes;
      next = record { walking = r.next; number = a.number };
      tape_so = r.tape_so ∙ b.tape_so;
    }

module _ (l : ℕ) (text : List ℕ) (ms : List Module) (h : Heads) (t base : ℕ) (w : List ℕ) (at₀ lines₀ : ℕ) (o : List ℕ) where
  pub underway_start : Walking text ms h t base w 1 → Underway l text ms h t base w at₀ lines₀ o w o 1 at₀ lines₀
  underway_start a = record { walking = a; tape_so = refl; long = refl; sized = refl; comes = refl }

  module _ (w₁ o₁ : List ℕ) (boxes at lines : ℕ) (v : Underway l text ms h t base w at₀ lines₀ o w₁ o₁ boxes at lines) where
    pub underway_within : t ≤ length w₁
    underway_within = tape_within text ms h t base w₁ boxes v.walking

    pub underway_walking : Walking text ms h t base w₁ boxes
    underway_walking = v.walking

    pub underway_few : boxes ≤ 64
    underway_few = v.walking.most

    pub underway_long : length w₁ ≡ length w
    underway_long = v.long

    pub underway_sized : length o₁ ≡ length o
    underway_sized = v.sized

    module _ (w₂ o₂ : List ℕ) (boxes' at' lines' : ℕ) (r : Turned l text ms h t base w₁ boxes at lines o₁ w₂ boxes' at' lines' o₂) where
      pub underway_on : length w₂ ≡ length w₁ → length o₂ ≡ length o₁ → Underway l text ms h t base w at₀ lines₀ o w₂ o₂ boxes' at' lines'
      underway_on a b = record {
        walking = r.next;
        tape_so = r.tape_so ∙ v.tape_so;
        long = a ∙ v.long;
        sized = b ∙ v.sized;
        comes = v.comes ∙ r.comes;
      }

      pub underway_less : lines < line_limit → boxes' + 2 * (line_limit - lines') < boxes + 2 * (line_limit - lines)
      underway_less m = omega (arith, r.falls m, r.grows, m)

    ended : drawing at lines o₁ ≡ drew l (pending text (part w 0 t) ms h base w 1) (drawing at₀ lines₀ o) → Ended l text ms h t base w at₀ lines₀ o w₁ at lines o₁
    ended e = record {
      drawn_so = e;
      next = rewalk text ms h t base w₁ boxes v.walking w₁ 0 refl refl (omega arith) (λ i n. absurd (omega (arith, n)));
      tape_so = v.tape_so;
    }

    pub underway_end : boxes ≤ 0 → Ended l text ms h t base w at₀ lines₀ o w₁ at lines o₁
    unfolding pending drew
    underway_end z = let n : boxes ≡ 0 = omega (arith, z) in ended (sym (v.comes ∙ ap (λ (i : ℕ). drew l (pending text (part w₁ 0 t) ms h base w₁ i) (drawing at lines o₁)) n))

    pub underway_full : line_limit ≤ lines → Ended l text ms h t base w at₀ lines₀ o w₁ at lines o₁
    underway_full z = ended (sym (v.comes ∙ drew_full l (pending text (part w₁ 0 t) ms h base w₁ boxes) (drawing at lines o₁) z))
