-- The cases of the names of a term and of where reading is kept, one for each way through the code.
use mathlib.Core.Path.{◌≡◌, refl, ap, ◌∙◌}
use mathlib.Core.Bool.{Bool, true, false}
use mathlib.Core.List.{List, [], ◌∷◌}
use Prim.Native.Nat.{ℕ, suc, ◌+◌, ◌-◌, ◌%◌, ◌<◌, ◌≤◌}
use native.Mathlib.Numerals.{add-one}
use native.Mathlib.Omega.{arith}
use mir.Syntax.{w8}
use mir.Val.{Fits}
use lib.Dec.{eqb, leb}
use lib.ListN.{get_or}
use borrow.Author.Rules.{rules}
use borrow.Author.Tests.{eq-eqb, ne_eqb, le-leb, lt-leb}
use Rattle.std.specs.Prelude.{Ok, Err}
use Rattle.types.specs.declared.Token.{Token}
use Rattle.meaning.specs.Lists.{pick}
use Rattle.meaning.specs.Tokens.{token_at}
use Rattle.meaning.specs.Grammar.{is}
use Rattle.read_steps.specs.declared.Place.{Place}
use Rattle.read_steps.specs.declared.Misread.{Misread}
use Rattle.read_steps.specs.Model.{Reading, misread, Out, out, place, Writer, onward, stay, refuse, unexpected, if_next, counted, name, node_role, term_name}
use Rattle.read_steps.specs.Steps.{still, next_passes, next_role, entries_of}
use Rattle.read_kept.specs.Kept.{kept}
use Rattle.read_steps.proofs.Laws.{laws, next_yes, next_no}
use Rattle.read_steps.proofs.Cases.{refused_still, short_yes, short_no, word_times, word_plus}

-- what a name is, by the token after it
module _ (s : List ℕ) (t u : Token) (g : u ≡ token_at s t.end) where
  pub role_head : u.kind ≡ 40 → 21 ≡ node_role s t
  unfolding node_role pick
  role_head k = rw (← g, eq-eqb u.kind 40 k)

  pub role_alone : (u.kind ≡ 40 → ⊥) → 20 ≡ node_role s t
  unfolding node_role pick
  role_alone k = rw (← g, ne_eqb u.kind 40 k)

-- what the name that is next is
pub role_none : (s : List ℕ) (r : Reading) (m : Misread) → r ≡ Err m → 20 ≡ next_role s r
unfolding next_role
role_none s r m e = rw e

pub role_next : (s : List ℕ) (r : Reading) (p : Place) (n : ℕ) → r ≡ Ok p → n ≡ node_role s p.token → n ≡ next_role s r
unfolding next_role
role_next s r p n e h = rw (e, h)

-- one node more
module _ (r : Reading) (p : Place) (e : r ≡ Ok p) where
  pub counted_full : (q : Reading) → 64 ≤ p.nodes → q ≡ still (refuse 4) r → q ≡ still (counted stay) r
  unfolding still onward counted pick
  counted_full q h g = rw e ((rw e at g) ∙ ap (λ (o : Out). o.answer) go)
    where
      go : refuse 4 p [] ≡ counted stay p []
      go = rw (le-leb 64 p.nodes h)

  pub counted_more : p.nodes < 64 → Ok (place p.token (p.nodes + 1) p.entries) ≡ still (counted stay) r
  unfolding still onward counted stay pick
  counted_more h = rw e (ap (λ (o : Out). o.answer) go)
    where
      go : out (Ok (place p.token (p.nodes + 1) p.entries)) [] ≡ counted stay p []
      go = rw (lt-leb 64 p.nodes h, ← add-one p.nodes)

-- what is read after a node is counted: c comes of counting
pub counted_then : (r c : Reading) (t : List ℕ) (o : Out) (f : Writer) → c ≡ still (counted stay) r → o ≡ onward c t f → o ≡ onward r t (counted f)
unfolding still onward counted stay refuse pick
counted_then (Err x) c t o f e h = rw e at h
counted_then (Ok p) c t o f e h = (rw e at h) ∙ go (leb 64 p.nodes)
  where
    more : Place
    more = place p.token (suc p.nodes) p.entries

    go : (b : Bool) → onward (pick b (refuse 4 p []) (stay more [])).answer t f ≡ pick b (refuse 4 p t) (f more t)
    go true = refl
    go false = refl

-- counting leaves the token
pub counted_same : (test : ℕ → Bool) (f g : Writer) (r c : Reading) (b : Bool) (t : List ℕ) (o : Out)
    → b ≡ next_passes test r → b ≡ true → c ≡ still (counted stay) r → o ≡ onward c t f → o ≡ onward c t (if_next test f g)
unfolding still onward next_passes if_next counted stay refuse pick
counted_same test f g (Err x) c b t o e y n h = rw n (rw n at h)
counted_same test f g (Ok p) c b t o e y n h = rw n (go (leb 64 p.nodes) (rw n at h))
  where
    more : Place
    more = place p.token (suc p.nodes) p.entries

    go : (d : Bool) → o ≡ onward (pick d (refuse 4 p []) (stay more [])).answer t f
        → o ≡ onward (pick d (refuse 4 p []) (stay more [])).answer t (if_next test f g)
    go true h = h
    go false h = rw (← e, y) h

-- a name in a term
module _ (s : List ℕ) (r : Reading) (b : Bool) (e : b ≡ next_passes (is 1) r) (t : List ℕ) (o : Out) where
  pub name_counted : (role : ℕ) (c : Reading) → b ≡ true → role ≡ next_role s r → c ≡ still (counted stay) r
      → o ≡ onward c t (name s role) → o ≡ onward r t (term_name s)
  unfolding term_name onward next_role still
  name_counted role c y g n h = next_yes (is 1) (λ p t. counted (name s (node_role s p.token)) p t) unexpected r b e t o y (go r g n)
    where
      go : (r : Reading) → role ≡ next_role s r → c ≡ still (counted stay) r → o ≡ onward r t (λ p t. counted (name s (node_role s p.token)) p t)
      go (Err x) g n = rw n at h
      go (Ok p) g n = counted_then (Ok p) c t o (name s (node_role s p.token)) n (rw g at h)

  pub name_bad : b ≡ false → o ≡ onward r t unexpected → o ≡ onward r t (term_name s)
  unfolding term_name
  name_bad y h = next_no (is 1) (λ p t. counted (name s (node_role s p.token)) p t) unexpected r b e t o y h

-- ---- where reading is, as six words

pub kept_done : (w : List ℕ) → get_or w 0 0 ≡ 0
    → Ok (place (record { kind = get_or w 1 0 % 256; start = get_or w 2 0; end = get_or w 3 0 }) (get_or w 4 0) (get_or w 5 0)) ≡ kept w
unfolding kept pick
kept_done w e = rw (eq-eqb (get_or w 0 0) 0 e)

pub kept_refused : (w : List ℕ) → (get_or w 0 0 ≡ 0 → ⊥) → misread ((get_or w 0 0 - 1) % 256) (get_or w 2 0) ≡ kept w
unfolding kept pick
kept_refused w e = rw (ne_eqb (get_or w 0 0) 0 e)

-- how many entries there are
pub entries_some : (w : List ℕ) → get_or w 0 0 ≡ 0 → get_or w 5 0 ≡ entries_of (kept w)
unfolding entries_of kept pick
entries_some w e = rw (eq-eqb (get_or w 0 0) 0 e)

pub entries_none : (w : List ℕ) → (get_or w 0 0 ≡ 0 → ⊥) → 0 ≡ entries_of (kept w)
unfolding entries_of kept pick
entries_none w e = rw (ne_eqb (get_or w 0 0) 0 e)

pub words_refused : (r : Reading) (m : Misread) → r ≡ Err m → Fits w8 m.number → kept ((m.number + 1) ∷ 0 ∷ m.place ∷ 0 ∷ 0 ∷ 0 ∷ []) ≡ r
unfolding kept pick
words_refused r m e f = rw e go
  where
    k : ℕ
    k = m.number

    some : k + 1 ≡ 0 → ⊥
    some = λ z. omega (arith, z)

    back : (k + 1 - 1) % 256 ≡ k
    back = omega (arith, f.fits)

    go : pick (eqb (k + 1) 0) (Ok (place (record { kind = 0; start = m.place; end = 0 }) 0 0)) (misread ((k + 1 - 1) % 256) m.place) ≡ Err m
    go = rw (ne_eqb (k + 1) 0 some, back)

pub words_done : (r : Reading) (p : Place) → r ≡ Ok p → Fits w8 p.token.kind
    → kept (0 ∷ p.token.kind ∷ p.token.start ∷ p.token.end ∷ p.nodes ∷ p.entries ∷ []) ≡ r
unfolding kept pick
words_done r p e f = rw e go
  where
    back : p.token.kind % 256 ≡ p.token.kind
    back = omega (arith, f.fits)

    go : ◌≡◌ {A = Reading} (Ok (place (record { kind = p.token.kind % 256; start = p.token.start; end = p.token.end }) p.nodes p.entries)) (Ok p)
    go = rw back

-- what is learnt of the answer a that the words say is learnt of what they say, q; m is what comes of it, and v what is kept then
module _ (a q : Reading) (e : a ≡ q) where
  pub kept_passes : (test : ℕ → Bool) (b : Bool) → b ≡ next_passes test a → b ≡ next_passes test q
  kept_passes test b h = rw e at h

  pub kept_still : (f : Writer) (m v : Reading) → m ≡ still f a → v ≡ m → v ≡ still f q
  kept_still f m v g h = h ∙ (rw e at g)

  pub kept_onward : (f : Writer) (m v : Reading) (t u : List ℕ) → out m u ≡ onward a t f → v ≡ m → out v u ≡ onward q t f
  kept_onward f m v t u g h = rw h (rw e at g)

-- what a name or an operator in a term hands to `search`, and what the rest does
pub ruleset nodes = (counted_then, counted_same, name_counted, name_bad, short_yes, short_no, word_times, word_plus, laws, rules)

pub ruleset cases = (refused_still, role_head, role_alone, role_none, role_next, counted_full, counted_more, rules)
