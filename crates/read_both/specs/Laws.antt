-- From the tape of each text to the tape of both.
use Rattle.std.specs.Prelude.{◌≡◌, ℕ, ◌+◌, ◌-◌, ◌*◌, ◌≤◌, min, true, false, List, [], ◌∷◌, ◌++◌, Ok, Err, map, length, take, drop, refl}
use Rattle.std.proofs.Math.Path.{sym, ap, subst}
use Rattle.std.proofs.Common.{◌∙◌, take_at, length-take-le, eq-eqb, ne_eqb, Fits}
use native.Mathlib.Omega.{arith}
use Rattle.std.proofs.Math.ListN.{length-append, length-drop, length-take, length-map}
use Rattle.std.proofs.Math.Seq.{take-append-add, drop_at}
use Rattle.std.proofs.lemmas.List.{take-append-le}
use Rattle.std.specs.Int.{w32, w64}
use Rattle.meaning.specs.Lists.{pick, each}
use Rattle.meaning.specs.Names.{Name}
use Rattle.meaning.specs.Numbers.{text_size}
use Rattle.meaning.specs.Syntax.{Module}
use Rattle.meaning.specs.Grammar.{Result}
use Rattle.meaning.specs.Grammar
use Rattle.meaning.specs.Reached.{module_names}
use Rattle.meaning.specs.Texts.{two_texts, refused_in, behind, read_behind, library_first, read_texts}
use Rattle.meaning.specs.OrderLaws.{Every}
use Rattle.laws.specs.EveryLaws.{every_append}
use Rattle.invariants.specs.Limits.{text_few}
use Rattle.text_names.specs.Word.{name_of}
use Rattle.text_names.specs.Joint.{joint}
use Rattle.tape.specs.Tape.{Entry, entries, spelled, flat_module, flat_modules}
use Rattle.form_rows.specs.Entries.{word_at}
use Rattle.read_steps.specs.declared.Place.{Place}
use Rattle.read_steps.specs.declared.Misread.{Misread}
use Rattle.read_steps.specs.Model.{Out, out}
use Rattle.read_steps.specs.Model
use Rattle.read_meaning.specs.Matches.{state}
use Rattle.read_meaning.specs.Meant.{Says, Meant, done_meant, refused_meant}
use Rattle.read_known.specs.Known.{named_so}
use Rattle.modules.specs.Modules.{HeadsOf, declared, Heads}
use Rattle.modules.specs.ModuleLaws.{Spells, heads_number, declared_names, names_by_number}
use Rattle.read_both.specs.Both.{shifted, moved, WordsOf, Stands, Said}
use Rattle.read_both.specs.Joined.{all_in_library, all_in_text, flat_both}

map_map : (f : ℕ → Name) (g : ℕ → ℕ) (xs : List ℕ) → map f (map g xs) ≡ map (λ (x : ℕ). f (g x)) xs
map_map f g [] = refl
map_map f g (x ∷ xs) = ap (λ (l : List Name). f (g x) ∷ l) (map_map f g xs)

map_app : (f : ℕ → Entry) (xs ys : List ℕ) → map f (xs ++ ys) ≡ map f xs ++ map f ys
map_app f [] ys = refl
map_app f (x ∷ xs) ys = ap (λ (l : List Entry). f x ∷ l) (map_app f xs ys)

-- no module has more entries than its text
abbrev Small : Module → Type 0
Small m = length (flat_module m) ≤ 32768

each_small : (ms : List Module) → length (flat_modules ms) ≤ 32768 → Every Small ms
unfolding flat_modules each
each_small [] h = tt
each_small (m ∷ ms) h =
    let e = length-append (flat_module m) (flat_modules ms) in
    (omega (arith, e), each_small ms (omega (arith, e)))

all_small : (text : List ℕ) (n : ℕ) (t : List ℕ) (ms : List Module) → n ≤ length t → entries text n t ≡ flat_modules ms → n ≤ 32768 → Every Small ms
unfolding entries
all_small text n t ms l e h =
    each_small ms (omega (arith, ap length e, length-map (take n t) (spelled text), length-take-le n t l))

-- ---- the customer's text behind the library's n entries on the tape t; e is the tape's length

module _ (library text : List ℕ) (n : ℕ) (t : List ℕ) (s : Stands library text n t) (h : Heads) (heads : HeadsOf t n h) (ws : List ℕ) (words : WordsOf t h.places h.count ws) where
  abbrev ls : List Module
  ls = s.modules

  abbrev part : List ℕ
  part = take (length t - n) (drop n t)

  spells : Spells library t n ls h
  spells = record { within = omega (arith, s.within, s.short, s.room); says = s.said; few = s.few; begun = heads }

  count_so : h.count ≡ length ls
  count_so = heads_number library t n ls h spells

  names_so : named_so library (take (h.count - 0) (drop 0 ws)) ≡ module_names ls
  unfolding named_so declared
  names_so =
      let c : h.count - 0 ≡ h.count = omega arith in
      ap (λ (k : ℕ). map (name_of library) (take k ws)) c
      ∙ ap (map (name_of library)) words.so
      ∙ map_map (name_of library) (word_at t) (take h.count h.places)
      ∙ sym (names_by_number library t h.places 0 h.count (omega (arith, heads.few, heads.size)))
      ∙ declared_names library t n ls h spells

  part_size : length part ≡ length t - n
  part_size = length-take-le (length t - n) (drop n t) (omega (arith, length-drop n t))

  enough : min (length text) text_size ≤ length part
  unfolding text_size
  enough = omega (arith, part_size, s.within, s.short, s.room)

  module _ (count : ℕ) (c : count ≡ h.count) (q : Model.Reading) (u : List ℕ)
      (e : out q u ≡ Model.read text (64 - count) (named_so library (take (count - 0) (drop 0 ws))) part) where
    e_so : out q u ≡ Model.read text (64 - length ls) (module_names ls) part
    e_so =
        e
        ∙ (λ i. Model.read text (64 - c i) (named_so library (take (c i - 0) (drop 0 ws))) part)
        ∙ (λ i. Model.read text (64 - count_so i) (names_so i) part)

    answer_so : (Model.read text (64 - length ls) (module_names ls) part).answer ≡ q
    answer_so = sym (ap (λ (o : Out). o.answer) e_so)

    tape_so : (Model.read text (64 - length ls) (module_names ls) part).tape ≡ u
    tape_so = sym (ap (λ (o : Out). o.tape) e_so)

    pub customer_refused : (m : Misread) → q ≡ Err m → read_texts (two_texts library text) ≡ refused_in false m.number m.place
    unfolding read_behind behind
    customer_refused m d =
        s.next ∙ ap (behind ls) (refused_meant text (64 - length ls) (module_names ls) part enough m.number m.place (answer_so ∙ d))

    module _ (p : Place) (d : q ≡ Ok p) where
      abbrev m : ℕ
      m = p.entries

      meant : Meant text part p (Model.read text (64 - length ls) (module_names ls) part).tape (Grammar.read text (64 - length ls) (module_names ls))
      meant = done_meant text (64 - length ls) (module_names ls) part enough p (answer_so ∙ d)

      says : Says text meant.modules part p u
      says = subst (λ (x : List ℕ). Says text meant.modules part p x) tape_so meant.says

      short : length text ≤ 32768
      unfolding text_size
      short = says.short

      pub customer_small : n + m ≤ 65536
      customer_small = omega (arith, s.within, s.short, says.within, short)

      pub customer_fits : Fits w64 (n + m)
      customer_fits = omega (arith, customer_small)

      u_size : length u ≡ length t - n
      u_size = says.size ∙ part_size

      -- the tape once it is read
      abbrev between : List ℕ
      between = take n t ++ (u ++ drop (length t - n) (drop n t))

      front_size : length (take n t) ≡ n
      front_size = length-take-le n t (omega (arith, s.within, s.short, s.room))

      pub text_fits : Fits w32 (length text)
      text_fits = omega (arith, short)

      pub places_fit : Fits w32 (length text * 8192)
      places_fit = omega (arith, short)

      pub customer_done : (v : List ℕ) → v ≡ moved (length text * 8192) n between → Said library text (n + m) v
      unfolding moved entries read_behind behind
      customer_done v g =
          let by = length text * 8192 in
          let f = map (shifted by) (take n t) in
          let rest = drop (length t - n) (drop n t) in
          let v_so : v ≡ f ++ (u ++ rest) =
          g ∙ (λ i. map (shifted by) (take_at (take n t) (u ++ rest) n front_size i) ++ drop_at (take n t) (u ++ rest) n front_size i) in
          let m_in : m ≤ length u = omega (arith, u_size, says.within, short, s.within, s.short, s.room) in
          let f_size : length f ≡ n = length-map (take n t) (shifted by) ∙ front_size in
          let taken : take (n + m) v ≡ f ++ take m u =
          ap (take (n + m)) v_so
          ∙ ap (λ (k : ℕ). take (k + m) (f ++ (u ++ rest))) (sym f_size)
          ∙ take-append-add f (u ++ rest) m
          ∙ ap (λ (x : List ℕ). f ++ x) (take-append-le m u rest m_in) in
          record {
            modules = ls ++ meant.modules;
            read_so = s.next ∙ ap (behind ls) meant.read;
            said =
                ap (map (spelled (joint library text))) taken
                ∙ map_app (spelled (joint library text)) f (take m u)
                ∙ (λ i. all_in_library library text (take n t) s.inside short s.short i ++ all_in_text library text (take m u) says.inside i)
                ∙ (λ i. s.said i ++ says.said i)
                ∙ flat_both ls meant.modules;
            within = customer_small;
            room =
                omega (arith, s.room, s.within, s.short, ap length v_so, length-append f (u ++ rest), length-append u rest, f_size, u_size, length-drop n t);
            small =
                every_append Small ls meant.modules (all_small library n t ls (omega (arith, front_size, length-take n t)) s.said (omega (arith, s.within, s.short)))
                (all_small text m u meant.modules m_in says.said (omega (arith, says.within, short)));
          }

-- ---- the library

module _ (library text t : List ℕ) (room : 65536 ≤ length t) where
  pub no_library : length library ≡ 0 → Stands library text 0 t
  unfolding read_texts two_texts entries flat_modules each pick
  no_library z = record {
    modules = [];
    few = omega arith;
    next = rw (eq-eqb (length library) 0 z);
    said = refl;
    inside = tt;
    within = omega arith;
    short = omega arith;
    room = room;
  }

  module _ (some : length library ≡ 0 → ⊥) where
    first_so : read_texts (two_texts library text) ≡ library_first (Grammar.read library 64 []) text
    unfolding read_texts two_texts pick
    first_so = rw (ne_eqb (length library) 0 some)

    enough_first : min (length library) text_size ≤ length t
    unfolding text_size
    enough_first = omega (arith, room)

    module _ (other ns : List ℕ) (none : ns ≡ []) (q : Model.Reading) (u : List ℕ) (e : out q u ≡ Model.read library 64 (named_so other ns) t) where
      none_named : named_so other ns ≡ []
      unfolding named_so
      none_named = ap (map (name_of other)) none

      e_first : out q u ≡ Model.read library 64 [] t
      e_first = e ∙ ap (λ (x : List Name). Model.read library 64 x t) none_named

      pub library_refused : (m : Misread) → q ≡ Err m → read_texts (two_texts library text) ≡ refused_in true m.number m.place
      unfolding library_first
      library_refused m d =
          first_so ∙ ap (λ (r : Result (List Module)). library_first r text)
          (refused_meant library 64 [] t enough_first m.number m.place (sym (ap (λ (o : Out). o.answer) e_first) ∙ d))

      pub library_stands : (p : Place) → q ≡ Ok p → Stands library text p.entries u
      unfolding library_first text_size
      library_stands p d =
          let meant = done_meant library 64 [] t enough_first p (sym (ap (λ (o : Out). o.answer) e_first) ∙ d) in
          let says : Says library meant.modules t p u =
          subst (λ (x : List ℕ). Says library meant.modules t p x) (sym (ap (λ (o : Out). o.tape) e_first)) meant.says in
          record {
            modules = meant.modules;
            few = text_few library 64 [] meant.modules (state p) meant.read;
            next = first_so ∙ ap (λ (r : Result (List Module)). library_first r text) meant.read;
            said = says.said;
            inside = says.inside;
            within = says.within;
            short = says.short;
            room = omega (arith, room, says.size);
          }
