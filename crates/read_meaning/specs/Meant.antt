-- What the tape says is what the text means: the grammar that writes the tape reads a text as the meaning's grammar does.
use Rattle.std.specs.Prelude.{◌≡◌, ℕ, ◌≤◌, min, true, false, Ok, leb, length, drop, replicate}
use Rattle.std.proofs.Math.Path.{refl}
use Rattle.std.proofs.Common.{ap, ◌∙◌, arith, leb-true}
use Rattle.std.proofs.lemmas.Bool.{false≢true}
use mathlib.Core.List.{List, [], ◌++◌}
use Rattle.meaning.specs.Lists.{pick}
use Rattle.meaning.specs.Names.{Name}
use Rattle.meaning.specs.Numbers.{text_size, over_size}
use Rattle.meaning.specs.Tokens.{token_at}
use Rattle.meaning.specs.Syntax.{Module}
use Rattle.meaning.specs.Grammar.{Result, done, refused}
use Rattle.meaning.specs.Grammar
use Rattle.read_steps.specs.declared.Place.{Place}
use Rattle.read_steps.specs.declared.Misread.{Misread}
use Rattle.tape.specs.Tape.{entries, flat_modules}
use Rattle.read_steps.specs.Model.{misread, Out, out, place, wiped}
use Rattle.read_steps.specs.Model
use Rattle.read_meaning.specs.Matches.{Inside, Ready, Step, state, Matches, both_done, both_refused, means, next_ready}
use Rattle.read_meaning.specs.Lines.{whether}
use Rattle.read_meaning.specs.Steps.{forward, ends_within}
use Rattle.read_meaning.specs.Modules.{modules_at}
use Rattle.read_meaning.specs.Declared.{none_yet}

-- the tape u, up to the place p, says the modules ms; what lies behind is the lent tape's
pub record Says (text : List ℕ) (ms : List Module) (t : List ℕ) (p : Place) (u : List ℕ) : Type 0 where
  pub said : entries text p.entries u ≡ flat_modules ms
  pub within : p.entries ≤ length text
  pub size : length u ≡ length t
  pub left : drop p.entries u ≡ drop p.entries t
  pub inside : Inside text p.entries u
  pub short : length text ≤ text_size

-- of one text, what the model leaves of the lent tape t and what the grammar reads: the modules that the tape says, or one refusal and a
-- tape of zeros
pub data Agree (text t : List ℕ) : Out → Result (List Module) → Type 0 where
  both_read : (ms : List Module) (p : Place) (u : List ℕ) → Says text ms t p u → Agree text t (out (Ok p) u) (done ms (state p))
  both_refuse : (k q : ℕ) → Agree text t (out (misread k q) (replicate (length t) 0)) (refused k q)

module _ {text : List ℕ} where
  says : {ms : List Module} {p q : Place} {t u : List ℕ} → entries text p.entries t ≡ [] → Inside text p.entries t → Ready text 0 p t
      → Step text 0 0 p t q u (flat_modules ms) → Says text ms t q u
  says {ms = ms} e i r s =
      let ready = next_ready r s in
      record {
        said = s.said ∙ ap (λ es. es ++ flat_modules ms) e;
        within = omega (arith, ready.room, forward ready, ends_within ready);
        size = s.size;
        left = s.left;
        inside = s.inside i;
        short = r.short;
      }

  -- a refusal wipes the tape
  agreed : {p : Place} {t : List ℕ} (o : Out) (r : Result (List Module)) → entries text p.entries t ≡ [] → Inside text p.entries t
      → Ready text 0 p t
      → Matches text 0 0 (means flat_modules) p t o r
      → Agree text t (wiped o.answer o.tape) r
  unfolding wiped
  agreed o r e i d (both_done ms q u es φ s) = both_read ms q u (says e i d (rw φ at s))
  agreed {t = t} o r e i d (both_refused k n u l) = rw l (both_refuse k n)

module _ (text : List ℕ) (n : ℕ) (before : List Name) (t : List ℕ) (h : min (length text) text_size ≤ length t) where
  at_first : leb (length text) text_size ≡ true → Ready text 0 (place (token_at text 0) 0 0) t
  at_first e =
      let short = leb-true (length text) text_size e in
      record { short = short; long = omega arith; stands = record { from = 0; within = omega arith; found = refl }; room = omega arith }

  -- a tape with room for the text, or for the longest text that is read
  pub read_meant : Agree text t (Model.read text n before t) (Grammar.read text n before)
  unfolding Model.read Grammar.read wiped entries pick
  read_meant =
      whether (leb (length text) text_size)
      (λ e. rw e (agreed _ _ refl tt (at_first e) (modules_at n before [] _ t (at_first e) (none_yet text t))))
      (λ e. rw e (both_refuse over_size text_size))

-- ---- from the one reading to the other

-- the grammar has read modules, to the place p, and the tape u says them
pub record Meant (text t : List ℕ) (p : Place) (u : List ℕ) (r : Result (List Module)) : Type 0 where
  pub modules : List Module
  pub read : r ≡ done modules (state p)
  pub says : Says text modules t p u

module _ {text t : List ℕ} where
  means_read : (p : Place) (o : Out) (r : Result (List Module)) → Agree text t o r → o.answer ≡ Ok p → Meant text t p o.tape r
  means_read p o r (both_read ns q u w) e =
      let same : q ≡ p = cc in
      record { modules = ns; read = cc; says = rw same at w }
  means_read p o r (both_refuse k n) e =
      let never : false ≡ true = cc in
      absurd (false≢true never)

  means_refused : (k q : ℕ) (o : Out) (r : Result (List Module)) → Agree text t o r → o.answer ≡ misread k q → r ≡ refused k q
  means_refused k q o r (both_read ns p u w) e = cc
  means_refused k q o r (both_refuse m n) e =
      let same : ◌≡◌ {A = Misread} (record { number = m; place = n }) (record { number = k; place = q }) = cc in
      λ i. refused (same i).number (same i).place

module _ (text : List ℕ) (n : ℕ) (before : List Name) (t : List ℕ) (h : min (length text) text_size ≤ length t) where
  pub done_meant : (p : Place) → (Model.read text n before t).answer ≡ Ok p → Meant text t p (Model.read text n before t).tape (Grammar.read text n before)
  done_meant p e = means_read p _ _ (read_meant text n before t h) e

  pub refused_meant : (k q : ℕ) → (Model.read text n before t).answer ≡ misread k q → Grammar.read text n before ≡ refused k q
  refused_meant k q e = means_refused k q _ _ (read_meant text n before t h) e
