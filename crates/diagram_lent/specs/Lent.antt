-- The lines that are drawn are those of the answer, or there are too many, or they are too long for the lent output.
use Rattle.std.specs.Prelude.{◌≡◌, Bool, ltb}
use Rattle.std.proofs.Math.Path.{refl, sym, ap, ap₂}
use Rattle.std.proofs.Common.{◌∙◌, length-take-le}
use Prim.Native.Nat.{ℕ, suc, ◌+◌, ◌-◌, ◌<◌, ◌≤◌, min}
use native.Mathlib.Omega.{arith}
use Rattle.std.proofs.Math.Nat.{zero-add}
use Rattle.std.proofs.Math.Bool.{true, false}
use mathlib.Core.List.{List, [], ◌∷◌, ◌++◌}
use borrow.Author.Tests.{lt-ltb, le-leb, lt-leb, ltb-true, ltb-false}
use Rattle.std.proofs.Math.Dec.{leb}
use Rattle.std.proofs.Math.ListN.{length, drop}
use Rattle.meaning.specs.Lists.{pick, before, each}
use Rattle.meaning.specs.Names.{Name, same, member}
use Rattle.meaning.specs.Numbers.{memory_size, no_room, lent_short, asked_absent}
use Rattle.meaning.specs.Syntax.{Module}
use Rattle.meaning.specs.Checks.{lone}
use Rattle.meaning.specs.Listing.{Line, line_text, lines_text}
use Rattle.meaning.specs.Texts.{two_texts, Reading, all_read, refused_in, read_texts}
use Rattle.meaning.specs.Reached.{module_names, short_or_blank}
use Rattle.meaning.specs.Answer as Meaning
use Rattle.meaning.specs.Answer.{refusal, within, output_after, unread}
use Rattle.text_names.specs.Joint.{joint}
use Rattle.form.specs.Memory.{part}
use Rattle.form_layout.specs.Layout.{tape_end}
use Rattle.tape.specs.Tape.{flat_modules}
use Rattle.list_pen.specs.Pen.{Pen, pen, written}
use Rattle.list_pen.proofs.Laws.{written_append, count_over, count_fits, laid, reached}
use Rattle.modules.specs.Modules.{Heads, HeadsOf, declared}
use Rattle.modules.specs.ModuleLaws.{Spells, heads_number, declared_names}
use Rattle.modules.specs.Members.{member_found, member_absent}
use Rattle.modules.specs.Meant.{asked_number}
use Rattle.modules.specs.ReachedLaws.{names_distinct, names_number}
use Rattle.answer.specs.declared.Answer.{Answer}
use Rattle.answer.specs.Answers.{held, told, told_listed}
use Rattle.answer.specs.Told.{short_name}
use Rattle.diagram_meaning.specs.Diagram.{diagram_limit, diagram, Expression, own_lines, expressions_of, drawn}
use Rattle.diagram_meaning.specs.Answer.{of_drawing}
use Rattle.diagram_meaning.specs.Bounded as Bounded
use Rattle.diagram_meaning.proofs.Bounded.{drawn_whole, drawn_over, drawn_absent}
use Rattle.diagram_lines.specs.Sheet.{line_limit, Drawing, drawing, one_more, drew_line, drew}
use Rattle.diagram_lines.specs.Laws.{drew_full}
use Rattle.diagram_boxes.specs.Boxes.{bindings_from}
use Rattle.diagram_open.specs.Numbers.{earlier, numbered, diagram_number}
use Rattle.diagram_open.specs.Turns.{drew_kept, Starting, Walked, top_lines, read_modules, modules_in, box_meant, rest_meant, start_within}
use Rattle.diagram_lent.specs.Drawn.{Drawn, Ready, Asked}

-- ---- lines that are drawn are written

module _ (l : ℕ) where
  drew_first : (x : Line) (at lines : ℕ) (o : List ℕ) → lines < line_limit
      → drew_line l x (drawing at lines o) ≡ one_more lines (written l (line_text x) (pen at o))
  unfolding drew_line pick
  drew_first x at lines o h = rw (lt-ltb lines line_limit h) refl

  -- not too many
  pub drew_written : (xs : List Line) (at lines : ℕ) (o : List ℕ) → lines + length xs ≤ line_limit
      → drew l xs (drawing at lines o) ≡ drawing (written l (lines_text xs) (pen at o)).at (lines + length xs) (written l (lines_text xs) (pen at o)).out
  unfolding drew lines_text each written
  drew_written [] at lines o h = let z : lines ≡ lines + 0 = omega arith in ap (λ (n : ℕ). drawing at n o) z
  drew_written (x ∷ xs) at lines o h =
      let p = written l (line_text x) (pen at o) in
      let sum : lines + 1 + length xs ≡ lines + suc (length xs) = omega arith in
      ap (drew l xs) (drew_first x at lines o (omega (arith, h)))
      ∙ drew_written xs p.at (lines + 1) p.out (omega (arith, h))
      ∙ ap₂ (λ (n : ℕ) (q : Pen). drawing q.at n q.out) sum (sym (written_append l (line_text x) (each line_text xs) (pen at o)))

  drew_count : (xs : List Line) (at lines : ℕ) (o : List ℕ) → lines ≤ line_limit → (drew l xs (drawing at lines o)).lines ≡ min (lines + length xs) line_limit
  unfolding drew
  drew_count [] at lines o h = omega (arith, h)
  drew_count (x ∷ xs) at lines o h = go (ltb lines line_limit) refl (λ i j p k. drew_count xs i j p k)
    where
      stays : line_limit ≤ lines → drew_line l x (drawing at lines o) ≡ drawing at lines o
      stays f = drew_full l (x ∷ []) (drawing at lines o) f

      go : (b : Bool) → ltb lines line_limit ≡ b
          → ((i j : ℕ) (p : List ℕ) → j ≤ line_limit → (drew l xs (drawing i j p)).lines ≡ min (j + length xs) line_limit) → (drew l xs (drew_line l x (drawing at lines o))).lines ≡ min (lines + suc (length xs)) line_limit
      go true e f =
          let p = written l (line_text x) (pen at o) in
          let less = ltb-true lines line_limit e in
          ap (λ (s : Drawing). (drew l xs s).lines) (drew_first x at lines o less) ∙ f p.at (lines + 1) p.out (omega (arith, less)) ∙ omega arith
      go false e f =
          let full : line_limit ≤ lines = ltb-false lines line_limit e in
          ap (λ (s : Drawing). (drew l xs s).lines) (stays full) ∙ f at lines o h ∙ omega (arith, full)

-- what the code has of an answer with lines
drawing_told : (ls : List Line) → told (Bounded.drawing ls) ≡ told_listed 0 (length (lines_text ls))
unfolding told told_listed Bounded.drawing
drawing_told ls = λ i. record {
  number = 0;
  modules = 0;
  evaluating = held (short_name [] (omega arith) i);
  culprit = held [];
  actual = held [];
  at = 0;
  in_library = false;
  listing = length (lines_text ls);
}

-- ---- the asked module, number k

module _ (asked library text : List ℕ) (h : Heads) (t base : ℕ) (w : List ℕ) (k : ℕ) (a : Asked asked library text h t base w k) where
  abbrev ms : List Module
  ms = read_modules library text

  abbrev both : List ℕ
  both = joint library text

  abbrev x : Reading
  x = read_texts (two_texts library text)

  abbrev all : List Line
  all = diagram ms asked

  pub asked_starting : Starting both ms h t base w k
  asked_starting = a.starting

  pub asked_within : t ≤ length w
  asked_within = start_within 0 both ms h t base k w [] a.starting

  -- what is drawn is the diagram
  lines_so : top_lines both (part w 0 t) ms h k ≡ all
  unfolding top_lines bindings_from
  lines_so =
      let s = a.starting.walking.spells in
      let m = numbered ms k a.starting.number in
      ap₂ (λ (u v : List Line). u ++ v) (box_meant both (part w 0 t) (length (part w 0 t)) ms h s k m 0 0 0) (rest_meant both (part w 0 t) (length (part w 0 t)) ms h s k m 1)
      ∙ ap (λ (i : ℕ). own_lines 0 m.self [] ++ each (λ (y : Expression). drawn (earlier ms i) 1 y) (expressions_of m.self)) a.number
      ∙ sym (diagram_number ms asked (names_distinct ms a.starting.walking.fresh) m.self m.later (ap (λ (i : ℕ). drop i ms) (sym a.number) ∙ m.there))

  there : member asked (module_names ms) ≡ true
  there = member_found asked (module_names ms) (omega (arith, a.number, a.starting.number, names_number ms))

  module _ (o : List ℕ) where
    answered : (r : Answer) (o' : List ℕ) (d : Meaning.Answer) → of_drawing asked (all_read ms) ≡ d → r ≡ told (within (length o) asked d)
        → o' ≡ output_after (within (length o) asked d) o → Drawn asked x o r o'
    answered r o' d e f g =
        let so : of_drawing asked x ≡ d = ap (of_drawing asked) a.read_so ∙ e in
        record {
          answer = f ∙ ap (λ (y : Meaning.Answer). told (within (length o) asked y)) (sym so);
          output = g ∙ ap (λ (y : Meaning.Answer). output_after (within (length o) asked y) o) (sym so);
        }

    -- counted: lent nothing, the walk left e
    module _ (at lines : ℕ) (e w₁ : List ℕ) (v : Walked (length o + 1) both ms h t base k w [] w₁ at lines e) (o₁ : List ℕ) (q : o₁ ≡ e ++ o) where
      counted : drawing at lines e ≡ drew (length o + 1) all (drawing 0 0 [])
      counted = v.drawn_so ∙ ap (λ (ls : List Line). drew (length o + 1) ls (drawing 0 0 [])) lines_so

      number_so : lines ≡ min (length all) line_limit
      number_so =
          let z : 0 + length all ≡ length all = zero-add (length all) in
          ap (λ (s : Drawing). s.lines) counted ∙ drew_count (length o + 1) all 0 0 [] (omega arith) ∙ ap (λ (n : ℕ). min n line_limit) z

      nothing : e ≡ []
      nothing = none e (ap (λ (s : Drawing). length s.out) counted ∙ drew_kept (length o + 1) all (drawing 0 0 []))
        where
          none : (xs : List ℕ) → length xs ≡ 0 → xs ≡ []
          none [] z = refl
          none (y ∷ ys) z = absurd (omega (arith, z))

      unchanged : o₁ ≡ o
      unchanged = q ∙ ap (λ (y : List ℕ). y ++ o) nothing

      pub counted_starting : Starting both ms h t base w₁ k
      counted_starting = v.next

      pub counted_within : t ≤ length w₁
      counted_within = start_within 0 both ms h t base k w₁ [] v.next

      pub answer_over : (r : Answer) → line_limit ≤ lines → r ≡ told (refusal no_room 0 asked (lone []) 0) → Drawn asked x o r o₁
      unfolding within refusal output_after lines_text each pick
      answer_over r l f =
          answered r o₁ (refusal no_room 0 asked (lone []) 0) (drawn_over ms asked there (omega (arith, l, number_so)))
          (f ∙ ap told (sym (rw (le-leb 0 (length o) (omega arith)) refl))) (unchanged ∙ sym (rw (le-leb 0 (length o) (omega arith)) refl))

      module _ (l : lines < line_limit) where
        few : length all ≤ diagram_limit
        few = omega (arith, l, number_so)

        written_so : pen at e ≡ written (length o + 1) (lines_text all) (pen 0 [])
        written_so =
            let d = counted ∙ drew_written (length o + 1) all 0 0 [] (omega (arith, few)) in
            ap (λ (s : Drawing). pen s.at s.out) d

        pub answer_long : (r : Answer) → length o < at → r ≡ told (refusal lent_short 0 asked (lone []) 0) → Drawn asked x o r o₁
        unfolding within Bounded.drawing refusal output_after lines_text each pick
        answer_long r g f =
            let over : length o < length (lines_text all) = count_over (length o) at (lines_text all) e [] written_so g in
            answered r o₁ (Bounded.drawing all) (drawn_whole ms asked there few)
            (f ∙ ap told (sym (rw (lt-leb (length (lines_text all)) (length o) over) refl)))
            (unchanged ∙ sym (rw (lt-leb (length (lines_text all)) (length o) over) refl))

        -- drawn: the second walk
        pub answer_done : (r : Answer) → at ≤ length o → (at' lines' : ℕ) (o' w₂ : List ℕ) → Walked (length o + 1) both ms h t base k w₁ o₁ w₂ at' lines' o'
            → r ≡ told_listed 0 at' → Drawn asked x o r o'
        unfolding within Bounded.drawing output_after pick
        answer_done r g at' lines' o' w₂ u f =
            let size : at ≡ length (lines_text all) = count_fits (length o) at (lines_text all) e [] written_so g in
            let top : top_lines both (part w₁ 0 t) ms h k ≡ all = ap (λ (y : List ℕ). top_lines both y ms h k) v.tape_so ∙ lines_so in
            let d : drawing at' lines' o' ≡ drew (length o + 1) all (drawing 0 0 o) =
            u.drawn_so ∙ ap₂ (λ (ls : List Line) (y : List ℕ). drew (length o + 1) ls (drawing 0 0 y)) top unchanged in
            let p : pen at' o' ≡ written (length o + 1) (lines_text all) (pen 0 o) =
            ap (λ (s : Drawing). pen s.at s.out) (d ∙ drew_written (length o + 1) all 0 0 o (omega (arith, few))) in
            let long : at' ≡ length (lines_text all) =
            reached (length o + 1) 0 at' (lines_text all) o o' (omega (arith, size, g)) p ∙ zero-add (length (lines_text all)) in
            let after : o' ≡ lines_text all ++ drop (length (lines_text all)) o =
            laid (length o + 1) 0 at' (lines_text all) o o' (omega arith) (omega (arith, size, g)) (omega (arith, size, g)) p
            ∙ ap (λ (n : ℕ). lines_text all ++ drop n o) (zero-add (length (lines_text all))) in
            let fits : leb (length (lines_text all)) (length o) ≡ true = le-leb (length (lines_text all)) (length o) (omega (arith, size, g)) in
            answered r o' (Bounded.drawing all) (drawn_whole ms asked there few)
            (f ∙ ap (told_listed 0) long ∙ sym (drawing_told all) ∙ ap told (sym (rw fits refl)))
            (after ∙ sym (rw fits refl))

-- ---- the memory after reading

module _ (library text : List ℕ) (t : ℕ) (w : List ℕ) (a : Ready library text t w) where
  pub ready_within : t ≤ length w
  unfolding memory_size
  ready_within = omega (arith, a.size, a.short)

  pub ready_small : t ≤ 65536
  ready_small = a.short

  modules_so : read_modules library text ≡ a.spoken.modules
  unfolding read_modules modules_in
  modules_so = ap modules_in a.spoken.read_so

  read_so : read_texts (two_texts library text) ≡ all_read (read_modules library text)
  read_so = a.spoken.read_so ∙ ap all_read (sym modules_so)

  tape_size : length (part w 0 t) ≡ t
  tape_size = length-take-le (t - 0) w (omega (arith, ready_within)) ∙ omega arith

  module _ (h : Heads) (heads : HeadsOf (part w 0 t) t h) where
    spells : Spells (joint library text) (part w 0 t) (length (part w 0 t)) (read_modules library text) h
    spells = record {
      within = omega arith;
      says = a.spoken.said ∙ ap flat_modules (sym modules_so);
      few = omega (arith, ap length modules_so, a.spoken.few);
      begun = rw tape_size heads;
    }

    module _ (asked : List ℕ) (k count : ℕ) (ek : k ≡ before (λ (v : Name). same v asked) (declared (joint library text) (part w 0 t) h)) (ec : count ≡ h.count) where
      number : k ≡ before (same asked) (module_names (read_modules library text))
      number =
          ek ∙ ap (before (λ (v : Name). same v asked)) (declared_names (joint library text) (part w 0 t) (length (part w 0 t)) (read_modules library text) h spells)
          ∙ asked_number asked (module_names (read_modules library text))

      size : count ≡ length (read_modules library text)
      size = ec ∙ heads_number (joint library text) (part w 0 t) (length (part w 0 t)) (read_modules library text) h spells

      pub absent_drawn : (o : List ℕ) (r : Answer) → count ≤ k → r ≡ told (refusal asked_absent 0 asked (lone (short_or_blank asked)) 0)
          → Drawn asked (read_texts (two_texts library text)) o r o
      unfolding within refusal output_after lines_text each pick
      absent_drawn o r l f =
          let none : member asked (module_names (read_modules library text)) ≡ false =
          member_absent asked (module_names (read_modules library text)) (omega (arith, l, number, size, names_number (read_modules library text))) in
          let so : of_drawing asked (read_texts (two_texts library text)) ≡ refusal asked_absent 0 asked (lone (short_or_blank asked)) 0 =
          ap (of_drawing asked) read_so ∙ drawn_absent (read_modules library text) asked none in
          record {
            answer = f ∙ ap told (sym (ap (within (length o) asked) so ∙ rw (le-leb 0 (length o) (omega arith)) refl));
            output = sym (ap (λ (y : Meaning.Answer). output_after (within (length o) asked y) o) so ∙ rw (le-leb 0 (length o) (omega arith)) refl);
          }

      pub asked_there : (base : ℕ) → base ≡ tape_end → k < count → Asked asked library text h t base w k
      unfolding tape_end memory_size
      asked_there base eb l = record {
        starting = record {
          walking = record {
            spells = spells;
            fresh = rw modules_so a.spoken.fresh;
            few = omega (arith, ap length modules_so, a.spoken.few);
            behind = omega (arith, eb, a.short);
            small = omega (arith, eb);
            room = omega (arith, eb, a.size);
            most = omega arith;
            rows = λ i n. absurd (omega (arith, n));
          };
          number = omega (arith, l, size);
        };
        read_so = read_so;
        number = number;
      }

-- a text is not read
pub unread_drawn : (asked library text : List ℕ) (o : List ℕ) (r : Answer) (in_library : Bool) (number at : ℕ)
    → read_texts (two_texts library text) ≡ refused_in in_library number at → r ≡ told (unread in_library number at)
    → Drawn asked (read_texts (two_texts library text)) o r o
unfolding within of_drawing unread output_after lines_text each pick
unread_drawn asked library text o r in_library number at e f = record {
  answer = f ∙ ap told (sym (ap (λ (y : Reading). within (length o) asked (of_drawing asked y)) e ∙ rw (le-leb 0 (length o) (omega arith)) refl));
  output = sym (ap (λ (y : Reading). output_after (within (length o) asked (of_drawing asked y)) o) e ∙ rw (le-leb 0 (length o) (omega arith)) refl);
}
