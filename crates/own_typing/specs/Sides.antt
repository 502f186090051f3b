-- What two sides typed in memory mean: where the entries spell them, the answer and the words written are those of the sides that the
-- meaning types; and they are ill typed where it has none.
use Rattle.std.specs.Prelude.{◌≡◌, Bool, ℕ, suc, ◌+◌, ◌≤◌, None}
use Rattle.std.proofs.Math.Path.{refl, ap₂}
use Rattle.std.proofs.Common.{◌∙◌}
use Rattle.std.proofs.Math.Bool.{true, false}
use Rattle.std.proofs.Math.Option.{Option, none, some}
use mathlib.Core.List.{List, [], ◌∷◌, ◌++◌, map, map-append}
use native.Mathlib.Omega.{arith}
use Rattle.std.proofs.Math.ListN.{length, length-append}
use Rattle.std.proofs.Math.Seq.{sets}
use Rattle.meaning.specs.Lists.{pick}
use Rattle.meaning.specs.OrderLaws.{Every}
use Rattle.meaning.specs.Syntax.{Sides}
use Rattle.meaning.specs.Origins.{same_sort, ResolvedSides}
use Rattle.meaning.specs.Typing.{Typed, equated, typed, typed_sides}
use Rattle.laws.specs.EveryLaws.{every_append}
use Rattle.tape.specs.Tape.{Entry}
use Rattle.tape.specs.Tape as on_tape
use Rattle.form.specs.Memory.{Kept}
use Rattle.form.specs.Forms.{flat_term, flat_sides}
use Rattle.own_finding.specs.declared.Known.{Known}
use Rattle.own_terms.specs.Typing.{Out, out, items_in, term_at, Answer, of_sort}
use Rattle.own_typing.specs.Equations.{right_checked, right_at, left_checked, sides_at}
use Rattle.own_terms.specs.Meant.{sets_append, Spells, spells_front, spells_back, Layout, node_here, Pointed, tape_stays, sets_kept}
use Rattle.own_terms.specs.Terms.{Agrees, term_typed}

module _ (text : List ℕ) (k : Known) (w₀ : List ℕ) where
  -- the sides of `size` entries from i on are s: the words are their nodes, written from q on
  pub record WellSides (s : ResolvedSides) (i size q : ℕ) (w : List ℕ) (o : Out) : Type 0 where
    pub sort : ℕ
    pub words : List ℕ
    pub same : o ≡ out (of_sort sort (i + size) (q + length words)) (sets w q words)
    pub nodes : map (node_here text k w₀) words ≡ flat_sides s
    pub pointed : Every (Pointed text k w₀) words
    pub room : length words ≤ size

  abbrev pub AgreeSides : Option ResolvedSides → ℕ → ℕ → ℕ → List ℕ → Out → Type 0
  AgreeSides none i size q w o = o.answer ≡ None
  AgreeSides (some s) i size q w o = WellSides s i size q w o

  -- entries lie on the tape
  pub spells_size : (es : List Entry) (i : ℕ) → i ≤ k.tape → Spells text k w₀ i es → i + length es ≤ k.tape
  spells_size [] i h s = omega arith
  spells_size (e ∷ es) i h s = let more = spells_size es (suc i) s.0 s.3 in omega (arith, more)

  module _ (q₀ e₀ : ℕ) (l : Layout text k w₀ q₀ e₀) where
    left_ill : (r : Answer) (w : List ℕ) → r ≡ None → (left_checked text k r w).answer ≡ None
    unfolding left_checked
    left_ill r w h = rw h

    right_ill : (s : ℕ) (r : Answer) (w : List ℕ) → r ≡ None → (right_checked text k s r w).answer ≡ None
    unfolding right_checked
    right_ill s r w h = rw h

    -- t tells whether they have one sort
    one_sort : (t : Bool) (a b : Typed) (i m n q s : ℕ) (vs us w : List ℕ) → map (node_here text k w₀) vs ≡ flat_term a.term
        → map (node_here text k w₀) us ≡ flat_term b.term → Every (Pointed text k w₀) vs → Every (Pointed text k w₀) us → length vs ≤ m → length us ≤ n
        → AgreeSides (pick t (some (record { left = a.term; right = b.term })) none) i (m + n) q w
        (pick t (out (of_sort s (i + m + n) (q + length vs + length us)) (sets (sets w q vs) (q + length vs) us)) (out None (sets (sets w q vs) (q + length vs) us)))
    unfolding pick flat_sides
    one_sort true a b i m n q s vs us w e f g h x y =
        let next : i + m + n ≡ i + (m + n) = omega arith in
        let free : q + length vs + length us ≡ q + length (vs ++ us) = omega (arith, length-append vs us) in
        record {
          sort = s;
          words = vs ++ us;
          same = λ z. out (of_sort s (next z) (free z)) (sets_append vs us w q z);
          nodes = map-append (node_here text k w₀) vs us ∙ ap₂ ◌++◌ e f;
          pointed = every_append (Pointed text k w₀) vs us g h;
          room = omega (arith, length-append vs us);
        }
    one_sort false a b i m n q s vs us w e f g h x y = refl

    both : (a r : Option Typed) (i m n q : ℕ) (w : List ℕ) → Kept q₀ e₀ w₀ w → q₀ ≤ q → q + (m + n) ≤ e₀
        → Agrees text k w₀ a i m q w (term_at text k k.tape i q w)
        → ((vs : List ℕ) → length vs ≤ m → Agrees text k w₀ r (i + m) n (q + length vs) (sets w q vs) (term_at text k k.tape (i + m) (q + length vs) (sets w q vs)))
        → AgreeSides (equated a r) i (m + n) q w (sides_at text k i q w)
    unfolding sides_at equated right_at left_checked right_checked
    both none r i m n q w kept x y h more = left_ill (term_at text k k.tape i q w).answer (term_at text k k.tape i q w).memory h
    both (some a) none i m n q w kept x y h more =
        let o = term_at text k k.tape (i + m) (q + length h.words) (sets w q h.words) in
        rw h.same (right_ill h.sort o.answer o.memory (more h.words h.room))
    both (some a) (some b) i m n q w kept x y h more =
        let g = more h.words h.room in
        let u = sets (sets w q h.words) (q + length h.words) g.words in
        let first_kept = sets_kept text k w₀ q₀ e₀ l w kept q h.words x (omega (arith, h.room)) in
        let stays = sets_kept text k w₀ q₀ e₀ l (sets w q h.words) first_kept (q + length h.words) g.words (omega arith) (omega (arith, h.room, g.room)) in
        let tape = tape_stays text k w₀ q₀ e₀ l u stays in
        rw (h.same, g.same, tape, h.sorted, g.sorted)
        (one_sort (same_sort a.sort b.sort) a b i m n q h.sort h.words g.words w h.nodes g.nodes h.pointed g.pointed h.room g.room)

    -- the sides of an equation's conclusion or condition: what comes next is the entry that says which they are
    pub sides_typed : (e : Sides) (i q : ℕ) (w : List ℕ) → i ≤ k.tape → Spells text k w₀ i (on_tape.flat_term e.left ++ on_tape.flat_term e.right) → Kept q₀ e₀ w₀ w
        → q₀ ≤ q → q + (length (on_tape.flat_term e.left) + length (on_tape.flat_term e.right)) ≤ e₀
        → AgreeSides (typed_sides (items_in text k w₀) e) i (length (on_tape.flat_term e.left) + length (on_tape.flat_term e.right)) q w (sides_at text k i q w)
    unfolding typed_sides
    sides_typed e i q w h s kept x y =
        let a = on_tape.flat_term e.left in
        let b = on_tape.flat_term e.right in
        let front = spells_front text k w₀ a b i s in
        let back = spells_back text k w₀ a b i s in
        let m = spells_size a i h front in
        let n = spells_size b (i + length a) m back in
        both (typed (items_in text k w₀) e.left) (typed (items_in text k w₀) e.right) i (length a) (length b) q w kept x y
        (term_typed text k w₀ q₀ e₀ l e.left k.tape i q w (omega (arith, m)) front kept x (omega arith))
        (λ vs v.
        term_typed text k w₀ q₀ e₀ l e.right k.tape (i + length a) (q + length vs) (sets w q vs) (omega (arith, n)) back
        (sets_kept text k w₀ q₀ e₀ l w kept q vs x (omega arith))
        (omega arith)
        (omega arith))
