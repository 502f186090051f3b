-- How the lines of a rule compose: what reads as its counterpart does, line by line, reads so as a rule.
use Rattle.std.specs.Prelude.{◌≡◌, ℕ, ◌+◌, ◌≤◌, Bool, Ok, Err}
use Rattle.std.proofs.Math.Path.{refl, sym}
use Rattle.std.proofs.Math.Bool.{true, false}
use mathlib.Core.List.{List, [], ◌++◌, append-nil}
use Rattle.std.proofs.Common.{arith}
use Rattle.meaning.specs.Lists.{pick}
use Rattle.meaning.specs.Grammar.{State, Result, done, refused, Parser, after, ◌>>=◌, return}
use Rattle.meaning.specs.Grammar
use Rattle.read_steps.specs.declared.Place.{Place}
use Rattle.tape.specs.Tape.{Entry, entries}
use Rattle.read_steps.specs.Model.{Reading, Out, Writer, onward, ◌>>◌, place}
use Rattle.read_steps.specs.Model
use Rattle.read_meaning.specs.Matches.{Ready, state, Meaning, Matches, both_done, both_refused, Reads, means, next_ready, and_then}

-- by a test's two answers
pub whether : {C : Type 0} (b : Bool) → (b ≡ true → C) → (b ≡ false → C) → C
whether true f g = f refl
whether false f g = g refl

-- ---- groups of lines, and the end of a rule

pub regroup : (a : Reading) (u : List ℕ) (X Y : Writer)
    → onward (onward a u X).answer (onward a u X).tape Y ≡ onward a u (X >> Y)
unfolding onward ◌>>◌
regroup (Ok q) u X Y = refl
regroup (Err e) u X Y = refl

ended : {A : Type 0} (r : Result A) → after r (λ a. return a) ≡ r
unfolding after return
ended (done a s) = refl
ended (refused m n) = refl

-- nodes are no part of the tape
pub counting : {text : List ℕ} {i : ℕ} {p : Place} {t : List ℕ} (k : ℕ) → Ready text i p t
    → Ready text i (place p.token k p.entries) t
counting k r = record { short = r.short; long = r.long; stands = r.stands; room = r.room }

module _ {text : List ℕ} {A : Type 0} where
  -- ---- what is known of a result

  pub weaker : {i j : ℕ} {Φ : Meaning A} {Ψ : Meaning A} {p : Place} {t : List ℕ} (o : Out) (r : Result A)
      → ((a : A) (s : State) (es : List Entry) → Φ a s es → Ψ a s es)
      → Matches text i j Φ p t o r → Matches text i j Ψ p t o r
  weaker o r f (both_done a q u es φ s) = both_done a q u es (f a (state q) es φ) s
  weaker o r f (both_refused m n u l) = both_refused m n u l

  pub so : {i j : ℕ} {W : Writer} {P : Parser A} {Φ : Meaning A} {Ψ : Meaning A} → Reads text i j W P Φ
      → ((a : A) (s : State) (es : List Entry) → Φ a s es → Ψ a s es) → Reads text i j W P Ψ
  so {W = W} {P = P} d f = record { from = λ p t r. weaker (W p t) (P (state p)) f (d.from p t r) }

  -- ---- room: more before, or less after. And nodes are no part of the tape

  pub recast : {i j : ℕ} {Φ : Meaning A} {p : Place} {t : List ℕ} (k i' j' : ℕ) (o : Out) (r : Result A) → i + j' ≤ i' + j
      → Matches text i j Φ (place p.token k p.entries) t o r → Matches text i' j' Φ p t o r
  recast k i' j' o r h (both_done a q u es φ s) =
      both_done a q u es φ
      (record { stands = s.stands; paid = omega (arith, s.paid); size = s.size; count = s.count; said = s.said; left = s.left; inside = s.inside })
  recast k i' j' o r h (both_refused m n u l) = both_refused m n u l

  -- room is kept for later
  pub hold : {W : Writer} {P : Parser A} {Φ : Meaning A} → Reads text 0 0 W P Φ → Reads text 1 1 W P Φ
  hold {W = W} {P = P} d = record {
    from = λ p t r.
        let ready : Ready text 0 p t = record { short = r.short; long = r.long; stands = r.stands; room = omega (arith, r.room) } in
        recast p.nodes 1 1 (W p t) (P (state p)) (omega arith) (d.from p t ready);
  }

  -- or given up
  pub spend : {i : ℕ} {W : Writer} {P : Parser A} {Φ : Meaning A} → Reads text i 1 W P Φ → Reads text i 0 W P Φ
  spend {i} {W} {P} d = record { from = λ p t r. recast p.nodes i 0 (W p t) (P (state p)) (omega arith) (d.from p t r) }

  -- ---- choices

  pub choice : {i j : ℕ} {Φ : Meaning A} {p : Place} {t : List ℕ} (b : Bool) (o o' : Out) (r r' : Result A)
      → (b ≡ true → Matches text i j Φ p t o r)
      → (b ≡ false → Matches text i j Φ p t o' r') → Matches text i j Φ p t (pick b o o') (pick b r r')
  unfolding pick
  choice true o o' r r' f g = f refl
  choice false o o' r r' f g = g refl

  -- a choice by the next token, knowing it
  pub by_next : {i j : ℕ} {Φ : Meaning A} {p : Place} {t : List ℕ} (test : ℕ → Bool) (W X : Writer) (P Q : Parser A)
      → (test p.token.kind ≡ true → Matches text i j Φ p t (W p t) (P (state p)))
      → (test p.token.kind ≡ false → Matches text i j Φ p t (X p t) (Q (state p)))
      → Matches text i j Φ p t (Model.if_next test W X p t) (Grammar.if_next test P Q (state p))
  unfolding Model.if_next Grammar.if_next
  by_next {p = p} {t = t} test W X P Q f g = choice (test p.token.kind) (W p t) (X p t) (P (state p)) (Q (state p)) f g

  pub either : {i j : ℕ} {Φ : Meaning A} (test : ℕ → Bool) {W X : Writer} {P Q : Parser A} → Reads text i j W P Φ → Reads text i j X Q Φ
      → Reads text i j (Model.if_next test W X) (Grammar.if_next test P Q) Φ
  either test {W} {X} {P} {Q} d e = record { from = λ p t r. by_next test W X P Q (λ h. d.from p t r) (λ h. e.from p t r) }

  -- ---- groups of lines, and a last line's result

  pub grouped : {i j : ℕ} (W X Y : Writer) {P : Parser A} {Φ : Meaning A} → Reads text i j (W >> (X >> Y)) P Φ
      → Reads text i j ((W >> X) >> Y) P Φ
  unfolding ◌>>◌
  grouped W X Y d = record { from = λ p t r. rw (regroup (W p t).answer (W p t).tape X Y) (d.from p t r) }

  pub ends : {i j : ℕ} {W : Writer} {P : Parser A} {Φ : Meaning A} → Reads text i j W (P >>= λ a. return a) Φ → Reads text i j W P Φ
  unfolding ◌>>=◌
  ends {P = P} d = record { from = λ p t r. rw (ended (P (state p))) at (d.from p t r) }

  pub refuse_meant : {i j : ℕ} (number : ℕ) {Φ : Meaning A} → Reads text i j (Model.refuse number) (Grammar.refuse number) Φ
  unfolding Model.refuse Grammar.refuse
  refuse_meant number = record { from = λ p t r. both_refused number p.token.start t refl }

  pub unexpected_meant : {i j : ℕ} {Φ : Meaning A} → Reads text i j Model.unexpected Grammar.unexpected Φ
  unfolding Model.unexpected Grammar.unexpected
  unexpected_meant = record { from = λ p t r. both_refused _ p.token.start t refl }

  -- nothing is read
  pub stay_at : {i : ℕ} {Ψ : Meaning A} {p : Place} {t : List ℕ} (a : A) → Ready text i p t → Ψ a (state p) []
      → Matches text i i Ψ p t (Model.stay p t) (return a (state p))
  unfolding Model.stay return
  stay_at {p = p} {t = t} a r ψ =
      both_done a p t [] ψ
      (record {
        stands = r.stands;
        paid = omega arith;
        size = refl;
        count = omega arith;
        said = sym (append-nil (entries text p.entries t));
        left = refl;
        inside = λ h. h;
      })

  pub stay_meant : {i : ℕ} {Ψ : Meaning A} (a : A) → ((s : State) → Ψ a s []) → Reads text i i Model.stay (return a) Ψ
  stay_meant a ψ = record { from = λ p t r. stay_at a r (ψ (state p)) }

module _ {text : List ℕ} {A B : Type 0} {i j : ℕ} where
  -- a result made of another
  pub handed : {Φ : Meaning A} {Ψ : Meaning B} {p : Place} {t : List ℕ} (g : A → B) (o : Out) (r : Result A)
      → ((a : A) (s : State) (es : List Entry) → Φ a s es → Ψ (g a) s es)
      → Matches text i j Φ p t o r → Matches text i j Ψ p t o (after r (λ a. return (g a)))
  unfolding after return
  handed g o r f (both_done a q u es φ s) = both_done (g a) q u es (f a (state q) es φ) s
  handed g o r f (both_refused m n u l) = both_refused m n u l

  -- the last line, of which the result is made
  pub last : {W : Writer} {P : Parser A} {f : A → List Entry} {Ψ : Meaning B} (g : A → B) → Reads text i j W P (means f)
      → ((a : A) (s : State) → Ψ (g a) s (f a)) → Reads text i j W (P >>= λ a. return (g a)) Ψ
  unfolding ◌>>=◌
  last {W} {P} g d ψ = record { from = λ p t r. handed g (W p t) (P (state p)) (λ a s es φ. rw φ (ψ a s)) (d.from p t r) }

  -- the last line, without entries
  pub closing : {W : Writer} {P : Parser A} {Ψ : Meaning B} (b : B) → Reads text i j W P (means λ a. []) → ((s : State) → Ψ b s [])
      → Reads text i j W (Grammar.◌>>◌ P (return b)) Ψ
  unfolding ◌>>=◌ Grammar.◌>>◌
  closing b d ψ = last (λ a. b) d (λ a s. ψ s)

module _ {text : List ℕ} {A B : Type 0} {i j k : ℕ} {W X : Writer} {P : Parser A} where
  -- the next line of a rule, knowing what the line before has read
  pub knowing : {Q : A → Parser B} {Φ : Meaning A} {Ψ : Meaning B} → Reads text i j W P Φ
      → ((a : A) (s : State) (es : List Entry) → Φ a s es → Reads text j k X (Q a) (λ b s fs. Ψ b s (es ++ fs)))
      → Reads text i k (W >> X) (P >>= Q) Ψ
  unfolding ◌>>◌ ◌>>=◌
  knowing {Q} {Φ} {Ψ} d e =
      record { from = λ p t r. and_then Ψ X Q (W p t) (P (state p)) (d.from p t r) (λ a q u es φ s. (e a (state q) es φ).from q u (next_ready r s)) }

  -- a line whose entries are known
  pub line : {Q : A → Parser B} {f : A → List Entry} {Ψ : Meaning B} → Reads text i j W P (means f)
      → ((a : A) → Reads text j k X (Q a) (λ b s es. Ψ b s (f a ++ es))) → Reads text i k (W >> X) (P >>= Q) Ψ
  line {Q} {f} {Ψ} d e = knowing {Q = Q} {Φ = means f} {Ψ = Ψ} d (λ a s es φ. rw φ (e a))

  -- a line without entries
  pub pass : {Q : Parser B} {Ψ : Meaning B} → Reads text i j W P (means λ a. []) → Reads text j k X Q Ψ
      → Reads text i k (W >> X) (Grammar.◌>>◌ P Q) Ψ
  unfolding ◌>>◌ ◌>>=◌ Grammar.◌>>◌
  pass {Q} {Ψ} d e = line {Q = λ a. Q} {f = λ a. []} {Ψ = Ψ} d (λ a. e)

-- ---- the grammar's own grouping

pub after_after : {A B C : Type 0} (r : Result A) (f : A → Parser B) (g : B → Parser C)
    → after (after r f) g ≡ after r (λ a s. after (f a s) g)
unfolding after
after_after (done a s) f g = refl
after_after (refused m n) f g = refl

pub after_pick : {A B : Type 0} (b : Bool) (x y : Result A) (f : A → Parser B) → after (pick b x y) f ≡ pick b (after x f) (after y f)
unfolding pick
after_pick true x y f = refl
after_pick false x y f = refl
