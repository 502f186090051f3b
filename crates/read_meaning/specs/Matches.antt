-- When a rule of the model, which writes the tape, reads as a rule of the grammar does, which gives the syntax: both refuse with one number
-- at one place, or both go on from one state, and the entries that were written are those of the syntax.
use Rattle.std.specs.Prelude.{◌≡◌, ℕ, ◌+◌, ◌/◌, ◌%◌, ◌≤◌, min, Ok, length, take}
use Rattle.std.proofs.Math.Path.{ap}
use Rattle.std.proofs.Common.{◌∙◌, arith}
use mathlib.Core.List.{List, ◌++◌, append_assoc}
use Rattle.std.proofs.Math.ListN.{drop, length-append}
use Rattle.std.proofs.Math.Seq.{drop-drop}
use Rattle.types.specs.declared.Token.{Token}
use Rattle.meaning.specs.Numbers.{text_size, name_size}
use Rattle.meaning.specs.Tokens.{token_at}
use Rattle.meaning.specs.OrderLaws.{Every}
use Rattle.meaning.specs.Grammar.{State, Result, done, refused, Parser, after}
use Rattle.read_steps.specs.declared.Place.{Place}
use Rattle.tape.specs.Tape.{Entry, entries}
use Rattle.read_steps.specs.Model.{misread, Out, out, Writer, onward}

-- a token of the text
pub record Stands (text : List ℕ) (t : Token) : Type 0 where
  pub from : ℕ
  pub within : from ≤ length text
  pub found : t ≡ token_at text from

-- Where a writer may start: at a token of the text, with room for i entries before it. A token passed over makes room for an entry, so
-- entries never overtake the text, and a tape as long as the text holds them
pub record Ready (text : List ℕ) (i : ℕ) (p : Place) (t : List ℕ) : Type 0 where
  pub short : length text ≤ text_size
  pub long : length text ≤ length t
  pub stands : Stands text p.token
  pub room : p.entries + i ≤ p.token.start

-- an entry whose name lies within the text
abbrev pub Lies : List ℕ → ℕ → Type 0
Lies text e = e / 32 / 256 + min (e / 32 % 64) name_size ≤ length text

-- the first n entries of a tape do
abbrev pub Inside : List ℕ → ℕ → List ℕ → Type 0
Inside text n t = Every (Lies text) (take n t)

-- From the place p and the tape t to the place q and the tape u, which has the entries es more. The room that was i is j
pub record Step (text : List ℕ) (i j : ℕ) (p : Place) (t : List ℕ) (q : Place) (u : List ℕ) (es : List Entry) : Type 0 where
  pub stands : Stands text q.token
  pub paid : p.token.start + q.entries + j ≤ q.token.start + p.entries + i
  pub size : length u ≡ length t
  pub count : q.entries ≡ p.entries + length es
  pub said : entries text q.entries u ≡ entries text p.entries t ++ es
  pub left : drop q.entries u ≡ drop q.entries t
  pub inside : Inside text p.entries t → Inside text q.entries u

abbrev pub state : Place → State
state p = record { token = p.token; nodes = p.nodes }

-- what is to hold of a result, the state after it, and the entries written for it
abbrev pub Meaning : Type 0 → Type 1
Meaning A = A → State → List Entry → Type 0

-- the two outcomes from the place p and the tape t are one
pub data Matches {A : Type 0} (text : List ℕ) (i j : ℕ) (Φ : Meaning A) (p : Place) (t : List ℕ) : Out → Result A → Type 0 where
  both_done : (a : A) (q : Place) (u : List ℕ) (es : List Entry) → Φ a (state q) es → Step text i j p t q u es
      → Matches text i j Φ p t (out (Ok q) u) (done a (state q))
  both_refused : (k n : ℕ) (u : List ℕ) → length u ≡ length t → Matches text i j Φ p t (out (misread k n) u) (refused k n)

-- the writer reads as the parser does, from wherever it may start
pub record Reads {A : Type 0} (text : List ℕ) (i j : ℕ) (W : Writer) (P : Parser A) (Φ : Meaning A) : Type 0 where
  pub from : (p : Place) (t : List ℕ) → Ready text i p t → Matches text i j Φ p t (W p t) (P (state p))

-- the entries are those that f gives for the result
abbrev pub means : {A : Type 0} → (A → List Entry) → Meaning A
means f = λ a s es. es ≡ f a

-- ---- one after the other

module _ {text : List ℕ} where
  pub next_ready : {i j : ℕ} {p q : Place} {t u : List ℕ} {es : List Entry} → Ready text i p t → Step text i j p t q u es → Ready text j q u
  next_ready r s =
      record { short = r.short; long = omega (arith, r.long, s.size); stands = s.stands; room = omega (arith, r.room, s.paid) }

  further : {p q v : Place} {t u w : List ℕ} {es fs : List Entry} {i j k : ℕ} → Step text i j p t q u es → Step text j k q u v w fs
      → Step text i k p t v w (es ++ fs)
  unfolding entries
  further {p} {q} {v} {t} {u} {w} {es} {fs} a b = record {
    stands = b.stands;
    paid = omega (arith, a.paid, b.paid);
    size = b.size ∙ a.size;
    count = omega (arith, a.count, b.count, length-append es fs);
    said = b.said ∙ ap (λ (x : List Entry). x ++ fs) a.said ∙ append_assoc (entries text p.entries t) es fs;
    left = b.left ∙ beyond;
    inside = λ h. b.inside (a.inside h);
  }
    where
      beyond : drop v.entries u ≡ drop v.entries t
      beyond =
          rw (b.count, ← drop-drop (length fs) q.entries u, ← drop-drop (length fs) q.entries t)
          (ap (drop (length fs)) a.left)

  go_on : {B : Type 0} {i j k : ℕ} {Ψ : Meaning B} {p q : Place} {t u : List ℕ} {es : List Entry} → Step text i j p t q u es
      → (o : Out) (r : Result B)
      → Matches text j k (λ b s fs. Ψ b s (es ++ fs)) q u o r → Matches text i k Ψ p t o r
  go_on {es = es} a o r (both_done b v w fs ψ c) = both_done b v w (es ++ fs) ψ (further a c)
  go_on a o r (both_refused m n w l) = both_refused m n w (l ∙ a.size)

  -- what comes after a step, knowing the step
  pub and_then : {A B : Type 0} {i j k : ℕ} {Φ : Meaning A} (Ψ : Meaning B) {p : Place} {t : List ℕ} (W : Writer) (P : A → Parser B)
      (o : Out) (r : Result A)
      → Matches text i j Φ p t o r
      → ((a : A) (q : Place) (u : List ℕ) (es : List Entry) → Φ a (state q) es → Step text i j p t q u es
      → Matches text j k (λ b s fs. Ψ b s (es ++ fs)) q u (W q u) (P a (state q)))
      → Matches text i k Ψ p t (onward o.answer o.tape W) (after r P)
  unfolding onward after
  and_then Ψ W P o r (both_done a q u es φ s) f = go_on {Ψ = Ψ} s (W q u) (P a (state q)) (f a q u es φ s)
  and_then Ψ W P o r (both_refused m n u l) f = both_refused m n u l

  -- the same, where what comes after has been seen from the place before the step
  pub and_thus : {A B : Type 0} {i j k : ℕ} {Φ : Meaning A} (Ψ : Meaning B) {p : Place} {t : List ℕ} (W : Writer) (P : A → Parser B)
      (o : Out) (r : Result A)
      → Matches text i j Φ p t o r
      → ((a : A) (q : Place) (u : List ℕ) (es : List Entry) → Φ a (state q) es → Step text i j p t q u es
      → Matches text i k Ψ p t (W q u) (P a (state q)))
      → Matches text i k Ψ p t (onward o.answer o.tape W) (after r P)
  unfolding onward after
  and_thus Ψ W P o r (both_done a q u es φ s) f = f a q u es φ s
  and_thus Ψ W P o r (both_refused m n u l) f = both_refused m n u l
