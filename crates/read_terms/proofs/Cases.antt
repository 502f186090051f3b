-- The cases of terms, one for each way through the code: f, q and u come of callees.
use mathlib.Core.Path.{◌≡◌, refl, sym, ap, ◌∙◌}
use mathlib.Core.Bool.{Bool, true, false}
use mathlib.Core.List.{List}
use Prim.Native.Nat.{ℕ, zero, suc, ◌+◌, ◌-◌, ◌<◌, ◌≤◌}
use native.Mathlib.Numerals.{sub-one, add-one}
use native.Mathlib.Omega.{arith}
use lib.Dec.{eqb}
use lib.ListN.{length, get_or, set, length-set}
use borrow.Author.Rules.{rules}
use borrow.Author.Tests.{ne_eqb, eqb-true, le-ltb, lt-ltb}
use Rattle.std.specs.Prelude.{Ok, Err}
use Rattle.meaning.specs.Lists.{pick}
use Rattle.meaning.specs.Grammar.{is, begins_term}
use Rattle.read_steps.specs.declared.Place.{Place}
use Rattle.tape.specs.Tape.{close_role, prefix_role}
use Rattle.read_steps.specs.Model.{Reading, Out, out, place, Writer, onward, ◌>>◌, stay, refuse, unexpected, if_next, step, mark, as_entry, pushed, inserted, with_entries, expect, separated, many, term_name, term_operator, primary_by, prefixed, joins, operand, operands, term_by, in_brackets, primary, term}
use Rattle.read_steps.specs.Steps.{still, next_passes, entries_of}
use Rattle.read_terms.specs.Parts.{token_alone, token_in, arguments_end, operands_from, named}
use Rattle.read_steps.proofs.Laws.{onward_then, then, quietly, stays, next_yes, next_no, refuse_quiet, unexpected_quiet, step_quiet}
use Rattle.read_steps.proofs.Cases.{refused_onward}
use Rattle.read_steps.proofs.Lists.{Comes, separated_again}
use Rattle.read_kept.proofs.Cases.{kept_onward}

-- ---- a word more, before others

-- the words to be pushed at first come to those to be pushed now
pub record Pushes (end i w : ℕ) (t₀ : List ℕ) (at carried : ℕ) (t : List ℕ) : Type 0 where
  pub sized : length t ≡ length t₀
  pub comes : pushed (end - at) at carried t ≡ pushed (end - i) i w t₀

pub push_begins : (end i w : ℕ) (t : List ℕ) → Pushes end i w t i w t
push_begins end i w t = record { sized = refl; comes = refl }

module _ (end i w : ℕ) (t₀ : List ℕ) (at carried : ℕ) (t : List ℕ) (v : Pushes end i w t₀ at carried t) where
  pub push_again : (u : List ℕ) → at < end → u ≡ set t at carried → Pushes end i w t₀ (at + 1) (get_or t at 0) u
  unfolding pushed
  push_again u h e = record { sized = rw (e, length-set) v.sized; comes = rw (e, add-one) go ∙ v.comes }
    where
      left : end - at ≡ suc (end - suc at)
      left = omega arith

      go : pushed (end - suc at) (suc at) (get_or t at 0) (set t at carried) ≡ pushed (end - at) at carried t
      go = rw left

  pub push_ends : end ≤ at → t ≡ pushed (end - i) i w t₀
  unfolding pushed
  push_ends h = go ∙ v.comes
    where
      none : end - at ≡ 0
      none = omega arith

      go : t ≡ pushed (end - at) at carried t
      go = rw none

module _ (r : Reading) (p : Place) (e : r ≡ Ok p) (start w : ℕ) (t : List ℕ) where
  pub inserted_in : (u : List ℕ) → p.entries < length t → u ≡ pushed (p.entries + 1 - start) start w t
      → out (Ok (place p.token p.nodes (p.entries + 1))) u ≡ onward r t (inserted start w)
  unfolding onward inserted pick
  inserted_in u h g = rw (e, lt-ltb p.entries (length t) h, g)

  pub inserted_out : length t ≤ p.entries → out (Ok p) t ≡ onward r t (inserted start w)
  unfolding onward inserted pick
  inserted_out h = rw (e, le-ltb p.entries (length t) h)

-- ---- single tokens

-- the next token: b says whether it stands between two operands; the answer a is what the words say, q
module _ (a q : Reading) (e : a ≡ q) (s : List ℕ) (n : ℕ) (b : Bool) (m v : Reading) (t u : List ℕ) where
  pub token_between : b ≡ true → out m u ≡ onward a t (joins s n) → v ≡ m → out v u ≡ onward q t (token_in s n b)
  unfolding token_in pick
  token_between y g h = rw y (kept_onward a q e (joins s n) m v t u g h)

  pub token_else : b ≡ false → out m u ≡ onward a t (token_alone s) → v ≡ m → out v u ≡ onward q t (token_in s n b)
  unfolding token_in pick
  token_else y g h = rw y (kept_onward a q e (token_alone s) m v t u g h)

module _ (s : List ℕ) (r : Reading) (t : List ℕ) (b : Bool) where
  -- a prefix operator
  module _ (e : b ≡ next_passes (is 5) r) where
    pub prefix_passed : (o : Out) → b ≡ true → o ≡ onward r t (token_in s 0 false) → o ≡ onward r t (prefixed s)
    unfolding token_in token_alone pick
    prefix_passed o y h = h ∙ sym (next_yes (is 5) (prefixed s) (step s) r b e t (onward r t (prefixed s)) y refl)

    pub prefix_none : b ≡ false → out r t ≡ onward r t (prefixed s)
    unfolding prefixed
    prefix_none y = next_no (is 5) (term_operator s 1 (as_entry prefix_role)) stay r b e t (out r t) y (stays r t)

  -- any other token, of kind k
  module _ (k : ℕ) (z : k ≡ 5 → ⊥) (e : b ≡ next_passes (is k) r) where
    stepped : (o : Out) → b ≡ true → o ≡ onward r t (token_in s 0 false) → o ≡ onward r t (step s)
    unfolding onward next_passes token_in token_alone pick
    stepped o y h = go r e h
      where
        go : (r : Reading) → b ≡ next_passes (is k) r → o ≡ onward r t (token_in s 0 false) → o ≡ onward r t (step s)
        go (Err x) e h = h
        go (Ok p) e h =
            let other : eqb p.token.kind 5 ≡ false = ne_eqb p.token.kind 5 λ f. z (sym (eqb-true p.token.kind k (sym e ∙ y)) ∙ f) in
            h ∙ sym (next_no (is 5) (prefixed s) (step s) (Ok p) false (sym other) t (step s p t) refl refl)

    expected : (o : Out) → b ≡ true → o ≡ onward r t (token_in s 0 false) → o ≡ onward r t (expect s k)
    unfolding expect
    expected o y h = next_yes (is k) (step s) unexpected r b e t o y (stepped o y h)

-- the bracket that closes
module _ (s : List ℕ) (r : Reading) (t : List ℕ) (b : Bool) (e : b ≡ next_passes (is 41) r) where
  pub end_passed : (o : Out) → b ≡ true → o ≡ onward r t (token_in s 0 false) → o ≡ onward r t (expect s 41)
  end_passed o y h = expected s r t b 41 (λ z. omega (arith, z)) e o y h

  pub end_other : (q : Reading) → b ≡ false → q ≡ still unexpected r → out q t ≡ onward r t (expect s 41)
  unfolding expect
  end_other q y h = next_no (is 41) (step s) unexpected r b e t (out q t) y (quietly r q t unexpected unexpected_quiet h)

-- what comes of a step leaves the tape
stepped_quietly : (s : List ℕ) (r q : Reading) (t u : List ℕ) → out q u ≡ onward r t (step s) → out q u ≡ out (still (step s) r) t
stepped_quietly s r q t u h = h ∙ sym (quietly r (still (step s) r) t (step s) (step_quiet s) refl)

-- a comma that is next is passed over: a and x come of it
pub arguments_again : (w : Writer) (r₀ : Reading) (t₀ : List ℕ) (s : List ℕ) (n i : ℕ) (begins : ℕ → Bool) (item : Writer) (r : Reading) (t : List ℕ)
    → Comes w (separated s (n - i) 44 begins item) r₀ t₀ r t → i < n → (q : Reading) (u : List ℕ) → out q u ≡ onward r t item
    → (b : Bool) → b ≡ next_passes (is 44) q → (a : Reading) (x : List ℕ) → b ≡ true → out a x ≡ onward q u (token_in s 0 false)
    → Comes w (separated s (n - (i + 1)) 44 begins item) r₀ t₀ a x
arguments_again w r₀ t₀ s n i begins item r t v z q u h b e a x y g =
    rw (ap (λ (o : Out). o.tape) same) (separated_again w r₀ t₀ s n i begins item r t 44 v z q u h b e a y (ap (λ (o : Out). o.answer) same))
  where
    same : out a x ≡ out (still (step s) q) u
    same = stepped_quietly s q a u x (stepped s q u b 44 (λ z. omega (arith, z)) e (out a x) y g)

-- ---- terms

-- a rule that remembers how many entries there are
remembers_entries : (r : Reading) (t : List ℕ) (o : Out) (n : ℕ) (f : ℕ → Writer) → n ≡ entries_of r → o ≡ onward r t (f n) → o ≡ onward r t (with_entries f)
unfolding onward entries_of with_entries
remembers_entries (Err x) t o n f e h = h
remembers_entries (Ok p) t o n f e h = rw e at h

module _ (s : List ℕ) (d n : ℕ) (r q : Reading) (t u : List ℕ) where
  -- q and u come of the prefix operator
  pub term_read : (o : Out) → n ≡ entries_of r → out q u ≡ onward r t (prefixed s)
      → o ≡ onward q u (operands_from s n d) → o ≡ onward r t (term s d)
  unfolding term term_by operands_from
  term_read o e g h =
      let rest : ℕ → Writer = λ m. operands s m (primary s d) in
      remembers_entries r t o n (λ m. prefixed s >> (primary s d >> rest m)) e
      (then r q t u o (prefixed s) (primary s d >> rest n) g h)

  -- one turn, where l more operators may come: q and u come of the primary
  module _ (l : ℕ) (w : Writer) (r₀ : Reading) (t₀ : List ℕ) (b : Bool) (c : Comes w (primary s d >> many s l (is 5) (operand s n (primary s d))) r₀ t₀ r t)
      (h : out q u ≡ onward r t (primary s d)) (e : b ≡ next_passes (is 5) q) where
    -- a and x come of the operator
    pub operands_again : (a : Reading) (x : List ℕ) → b ≡ true → (l ≡ 0 → ⊥) → out a x ≡ onward q u (token_in s n true)
        → Comes w (primary s d >> many s (l - 1) (is 5) (operand s n (primary s d))) r₀ t₀ a x
    unfolding many operand token_in pick
    operands_again a x y z g = record { comes = c.comes ∙ sym (go l z) }
      where
        go : (l : ℕ) → (l ≡ 0 → ⊥)
            → onward a x (primary s d >> many s (l - 1) (is 5) (operand s n (primary s d))) ≡ onward r t (primary s d >> many s l (is 5) (operand s n (primary s d)))
        go zero z = absurd (z refl)
        go (suc k) z =
            let rest : Writer = many s k (is 5) (operand s n (primary s d)) in
            let o : Out = onward a x (primary s d >> rest) in
            let p : Out = onward a x (primary s d) in
            rw sub-one
            (then r q t u o (primary s d) (many s (suc k) (is 5) (operand s n (primary s d))) h
            (next_yes (is 5) (operand s n (primary s d) >> rest) stay q b e u o y
            (then q p.answer u p.tape o (operand s n (primary s d)) rest (then q a u x p (joins s n) (primary s d) g refl)
            (onward_then a x (primary s d) rest))))

    pub operands_over : (a : Reading) → b ≡ true → l ≡ 0 → a ≡ still (refuse 4) q → out a u ≡ onward r₀ t₀ w
    unfolding many
    operands_over a y z g = go l z ∙ sym c.comes
      where
        go : (l : ℕ) → l ≡ 0 → out a u ≡ onward r t (primary s d >> many s l (is 5) (operand s n (primary s d)))
        go l z =
            rw z
            (then r q t u (out a u) (primary s d) (many s 0 (is 5) (operand s n (primary s d))) h
            (next_yes (is 5) (refuse 4) stay q b e u (out a u) y (quietly q a u (refuse 4) (refuse_quiet 4) g)))

    pub operands_end : b ≡ false → out q u ≡ onward r₀ t₀ w
    unfolding many
    operands_end y = go l ∙ sym c.comes
      where
        go : (l : ℕ) → out q u ≡ onward r t (primary s d >> many s l (is 5) (operand s n (primary s d)))
        go zero =
            then r q t u (out q u) (primary s d) (many s zero (is 5) (operand s n (primary s d))) h
            (next_no (is 5) (refuse 4) stay q b e u (out q u) y (stays q u))
        go (suc k) =
            then r q t u (out q u) (primary s d) (many s (suc k) (is 5) (operand s n (primary s d))) h
            (next_no (is 5) (operand s n (primary s d) >> many s k (is 5) (operand s n (primary s d))) stay q b e u (out q u) y (stays q u))

-- what begins at an open bracket, where d more may be open: arguments, or a bracketed term
arguments_in : List ℕ → ℕ → Writer
arguments_in s zero = refuse 4
arguments_in s (suc d) = in_brackets s (separated s 8 44 begins_term (term s d)) >> mark close_role

bracketed_in : List ℕ → ℕ → Writer
bracketed_in s zero = refuse 4
bracketed_in s (suc d) = in_brackets s (term s d)

primary_any : (s : List ℕ) (d : ℕ) → primary s d ≡ primary_by s (arguments_in s d) (bracketed_in s d)
unfolding primary term arguments_in bracketed_in
primary_any s zero = refl
primary_any s (suc d) = refl

module _ (s : List ℕ) (d : ℕ) (r : Reading) (t : List ℕ) (b : Bool) (e : b ≡ next_passes (is 40) r) where
  -- an open bracket
  primary_bracket : (o : Out) → b ≡ true → o ≡ onward r t (bracketed_in s d) → o ≡ onward r t (primary s d)
  unfolding primary_by
  primary_bracket o y h = rw (primary_any s d) (next_yes (is 40) (bracketed_in s d) (term_name s >> if_next (is 40) (arguments_in s d) stay) r b e t o y h)

  primary_deep : (q : Reading) → b ≡ true → d ≡ 0 → q ≡ still (refuse 4) r → out q t ≡ onward r t (primary s d)
  unfolding bracketed_in
  primary_deep q y z h = primary_bracket (out q t) y (rw z (quietly r q t (refuse 4) (refuse_quiet 4) h))

  -- a and v come of the bracket, q and u of the term in it
  pub primary_inner : (a q : Reading) (v u : List ℕ) (o : Out) → b ≡ true → (d ≡ 0 → ⊥) → out a v ≡ onward r t (token_in s 0 false)
      → out q u ≡ onward a v (term s (d - 1)) → o ≡ onward q u (expect s 41) → o ≡ onward r t (primary s d)
  unfolding bracketed_in in_brackets
  primary_inner a q v u o y z g h k = primary_bracket o y (go d z h)
    where
      go : (d : ℕ) → (d ≡ 0 → ⊥) → out q u ≡ onward a v (term s (d - 1)) → o ≡ onward r t (bracketed_in s d)
      go zero z h = absurd (z refl)
      go (suc d) z h =
          then r a t v o (expect s 40) (term s d >> expect s 41) (expected s r t b 40 (λ z. omega (arith, z)) e (out a v) y g)
          (then a q v u o (term s d) (expect s 41) (rw sub-one at h) k)

  pub primary_name : (o : Out) → b ≡ false → (d ≡ 0 → ⊥) → o ≡ onward r t (named s (d - 1)) → o ≡ onward r t (primary s d)
  unfolding primary_by named arguments_in
  primary_name o n z h = go d z h
    where
      go : (d : ℕ) → (d ≡ 0 → ⊥) → o ≡ onward r t (named s (d - 1)) → o ≡ onward r t (primary s d)
      go zero z h = absurd (z refl)
      go (suc d) z h =
          rw (primary_any s (suc d))
          (next_no (is 40) (bracketed_in s (suc d)) (named s d) r b e t o n (rw sub-one at h))

  -- a name: f and v come of it
  module _ (n : b ≡ false) (f : Reading) (v : List ℕ) (h : out f v ≡ onward r t (term_name s)) (c : Bool) (k : c ≡ next_passes (is 40) f) where
    primary_named : (o : Out) → o ≡ onward f v (if_next (is 40) (arguments_in s d) stay) → o ≡ onward r t (primary s d)
    unfolding primary_by
    primary_named o g =
        let rest = if_next (is 40) (arguments_in s d) stay in
        rw (primary_any s d)
        (next_no (is 40) (bracketed_in s d) (term_name s >> rest) r b e t o n (then r f t v o (term_name s) rest h g))

    pub primary_alone : c ≡ false → out f v ≡ onward r t (primary s d)
    primary_alone y = primary_named (out f v) (next_no (is 40) (arguments_in s d) stay f c k v (out f v) y (stays f v))

    primary_deep_too : (q : Reading) → c ≡ true → d ≡ 0 → q ≡ still (refuse 4) f → out q v ≡ onward r t (primary s d)
    unfolding arguments_in
    primary_deep_too q y z g =
        primary_named (out q v)
        (next_yes (is 40) (arguments_in s d) stay f c k v (out q v) y (rw z (quietly f q v (refuse 4) (refuse_quiet 4) g)))

-- a name, and its arguments: f and v come of the name
module _ (s : List ℕ) (d : ℕ) (r f : Reading) (t v : List ℕ) (h : out f v ≡ onward r t (term_name s)) (c : Bool) (k : c ≡ next_passes (is 40) f) where
  pub named_alone : c ≡ false → out f v ≡ onward r t (named s d)
  unfolding named arguments_in
  named_alone y =
      let applied = arguments_in s (suc d) in
      then r f t v (out f v) (term_name s) (if_next (is 40) applied stay) h (next_no (is 40) applied stay f c k v (out f v) y (stays f v))

  -- a and u come of the open bracket, q and x of the arguments
  pub named_applied : (a q : Reading) (u x : List ℕ) (o : Out) → c ≡ true → out a u ≡ onward f v (token_in s 0 false)
      → out q x ≡ onward a u (separated s 8 44 begins_term (term s d)) → o ≡ onward q x (arguments_end s) → o ≡ onward r t (named s d)
  unfolding named arguments_in arguments_end in_brackets
  named_applied a q u x o y g p m =
      let items = separated s 8 44 begins_term (term s d) in
      let applied = arguments_in s (suc d) in
      let i : Out = onward q x (expect s 41) in
      then r f t v o (term_name s) (if_next (is 40) applied stay) h
      (next_yes (is 40) applied stay f c k v o y
      (then f i.answer v i.tape o (in_brackets s items) (mark close_role)
      (then f a v u i (expect s 40) (items >> expect s 41) (expected s f v c 40 (λ z. omega (arith, z)) k (out a u) y g)
      (then a q u x i items (expect s 41) p refl))
      (m ∙ onward_then q x (expect s 41) (mark close_role))))

-- where no bracket may be open
pub flat_deep : (s : List ℕ) (r : Reading) (t : List ℕ) (b : Bool) (q : Reading) → b ≡ next_passes (is 40) r → b ≡ true → q ≡ still (refuse 4) r
    → out q t ≡ onward r t (primary s 0)
flat_deep s r t b q e y h = primary_deep s 0 r t b e q y refl h

pub flat_deep_too : (s : List ℕ) (r f q : Reading) (t v : List ℕ) (b c : Bool) → b ≡ next_passes (is 40) r → b ≡ false → out f v ≡ onward r t (term_name s)
    → c ≡ next_passes (is 40) f → c ≡ true → q ≡ still (refuse 4) f → out q v ≡ onward r t (primary s 0)
flat_deep_too s r f q t v b c e n h k y g = primary_deep_too s 0 r t b e n f v h c k q y refl g

pub primary_flat : (s : List ℕ) (d : ℕ) (r : Reading) (t : List ℕ) (o : Out) → d ≡ 0 → o ≡ onward r t (primary s 0) → o ≡ onward r t (primary s d)
primary_flat s d r t o z h = rw z h

-- what a word more before others hands to `search`
pub ruleset cases = (push_begins, push_again, push_ends, inserted_in, inserted_out, refused_onward, rules)
