-- Single tokens: one passed over, a name, an entry without a name.
use Rattle.std.specs.Prelude.{◌≡◌, ℕ, ◌+◌, ◌-◌, ◌*◌, ◌/◌, ◌%◌, ◌≤◌, ◌<◌, min, true, false, eqb, leb, ltb, set, take, drop}
use Rattle.std.proofs.Math.Path.{refl, ap}
use Rattle.std.proofs.Common.{sym, ◌∙◌, add-one, length-set, drop-set-lt}
use mathlib.Core.List.{List, [], ◌∷◌, ◌++◌, append-nil, map}
use native.Mathlib.Omega.{arith}
use Rattle.std.proofs.Math.ListN.{length, length-take, length-drop}
use Rattle.std.proofs.Math.Seq.{take-suc-set}
use borrow.Author.Tests.{ltb-true, leb-true, leb-false, eqb-true, eqb-false, lt-ltb}
use Rattle.types.specs.declared.Token.{Token}
use Rattle.meaning.specs.Lists.{pick}
use Rattle.meaning.specs.Laws.{by_cases}
use Rattle.meaning.specs.Names.{Name, slice, same}
use Rattle.meaning.specs.Numbers.{text_size, name_size, over_size, other_end}
use Rattle.meaning.specs.Tokens.{token_at, ident, operator}
use Rattle.meaning.specs.Grammar.{State, done, Parser, after, ◌>>=◌, return, is, is_name}
use Rattle.meaning.specs.Grammar
use Rattle.text_names.specs.Word.{plain_form, in_form, token_of, name_of, name_slice, plain_name, no_name}
use Rattle.text_names.proofs.Compared.{same_lengths}
use Rattle.text_tokens.proofs.Bounds.{token_after, token_forward, token_within, token_filled}
use Rattle.read_steps.specs.declared.Place.{Place}
use Rattle.tape.specs.Tape.{Entry, entry, entries, spelled}
use Rattle.read_steps.specs.Model.{Writer, onward, ◌>>◌, word, word_in, place}
use Rattle.read_steps.specs.Model
use Rattle.meaning.specs.OrderLaws.{Every}
use Rattle.read_meaning.specs.Matches.{Lies, Inside, Stands, Ready, Step, state, Meaning, Matches, both_done, both_refused, Reads, means, next_ready, and_then}
use Rattle.read_meaning.specs.Lines.{whether, weaker, choice, by_next, either, unexpected_meant, refuse_meant, line}

-- a name of n bytes that starts at s ends at s + n
lies_within : (l s f n : ℕ) → f < 4 → n ≤ 40 → s + n ≤ l → (s * 256 + f * 64 + n) / 256 + min ((s * 256 + f * 64 + n) % 64) 40 ≤ l
lies_within l s f n g h k =
    let a : (s * 256 + f * 64 + n) / 256 ≡ s = omega arith in
    let b : (s * 256 + f * 64 + n) % 64 ≡ n = omega arith in
    rw (a, b) (omega arith)

module _ {text : List ℕ} {i : ℕ} {p : Place} {t : List ℕ} (r : Ready text i p t) where
  -- ---- where the next token lies

  pub forward : p.token.start ≤ p.token.end
  forward = token_forward text r.stands.from p.token r.stands.found

  pub ends_within : p.token.end ≤ length text
  ends_within = token_within text r.stands.from p.token r.stands.found r.stands.within

  pub after_it : Stands text (token_at text p.token.end)
  after_it = record { from = p.token.end; within = ends_within; found = refl }

  pub follows : p.token.end ≤ (token_at text p.token.end).start
  follows = token_after text p.token.end (token_at text p.token.end) refl

  -- a token that may be expected has bytes
  pub filled : (k : ℕ) → eqb k 0 ≡ false → eqb k 4 ≡ false → eqb p.token.kind k ≡ true → p.token.start < p.token.end
  filled k a b e =
      let h = eqb-true p.token.kind k e in
      token_filled text r.stands.from p.token r.stands.found (λ z. eqb-false k 0 a (sym h ∙ z)) (λ z. eqb-false k 4 b (sym h ∙ z))

  -- ---- passed over

  passed : (j : ℕ) → p.token.start + j ≤ p.token.end + i
      → Step text i j p t (place (token_at text p.token.end) p.nodes p.entries) t []
  passed j h = record {
    stands = after_it;
    paid = omega (arith, follows);
    size = refl;
    count = omega arith;
    said = sym (append-nil (entries text p.entries t));
    left = refl;
    inside = λ h. h;
  }

  -- ---- an entry

  one_more : (w : ℕ) → p.entries < length t
      → entries text (p.entries + 1) (set t p.entries w) ≡ entries text p.entries t ++ (spelled text w ∷ [])
  unfolding entries
  one_more w l = rw (add-one, take-suc-set t p.entries w l) (map_end (take p.entries t))
    where
      map_end : (ws : List ℕ) → map (spelled text) (ws ++ (w ∷ [])) ≡ map (spelled text) ws ++ (spelled text w ∷ [])
      map_end [] = refl
      map_end (v ∷ ws) = ap (λ es. spelled text v ∷ es) (map_end ws)

  one_more_inside : (w : ℕ) → Lies text w → p.entries < length t → Inside text p.entries t
      → Inside text (p.entries + 1) (set t p.entries w)
  one_more_inside w y l h =
      rw (add-one, take-suc-set t p.entries w l) (every_end (take p.entries t) h)
    where
      every_end : (ws : List ℕ) → Every (Lies text) ws → Every (Lies text) (ws ++ (w ∷ []))
      every_end [] h = (y, tt)
      every_end (v ∷ ws) h = (h.0, every_end ws h.1)

  -- the word w written at p, where reading goes on with the token u
  noted : (w j : ℕ) (u : Token) → Stands text u → Lies text w → p.entries < length t → p.token.start + 1 + j ≤ u.start + i
      → Step text i j p t (place u p.nodes (p.entries + 1)) (set t p.entries w) (spelled text w ∷ [])
  noted w j u s y l h = record {
    stands = s;
    paid = omega arith;
    size = length-set t p.entries w;
    count = refl;
    said = one_more w l;
    left = drop-set-lt (p.entries + 1) t p.entries w (omega arith);
    inside = one_more_inside w y l;
  }

  -- ---- words

  module _ (form : ℕ) (f : ltb form 4 ≡ true) (h : leb (p.token.end - p.token.start) name_size ≡ true) where
    word_made : word_in form p.token ≡ p.token.start * 256 + form * 64 + (p.token.end - p.token.start)
    unfolding word_in text_size
    word_made = omega (arith, forward, ends_within, r.short, leb-true (p.token.end - p.token.start) name_size h)

    pub word_slice : name_of text (word_in form p.token) ≡ in_form form (slice text p.token.start p.token.end)
    word_slice =
        let size = leb-true (p.token.end - p.token.start) name_size h in
        rw word_made (name_slice text p.token.start form p.token.end (ltb-true form 4 f) size)

    pub word_lies : (role : ℕ) → ltb role 32 ≡ true → Lies text (word_in form p.token * 32 + role)
    word_lies role k =
        let size = leb-true (p.token.end - p.token.start) name_size h in
        let l = ltb-true role 32 k in
        let g = ltb-true form 4 f in
        let w = word_in form p.token in
        let a : (w * 32 + role) / 32 ≡ w = omega arith in
        rw (a, word_made)
        (lies_within (length text) p.token.start form (p.token.end - p.token.start) g size (omega (arith, forward, ends_within)))

-- what is known of a name in a form whose token was t: its entry, its word, and the token after it
pub record Named (text : List ℕ) (t : Token) (form role : ℕ) (n : Name) (s : State) (es : List Entry) : Type 0 where
  pub written : es ≡ entry role (in_form form n) ∷ []
  pub called : name_of text (word_in form t) ≡ in_form form n
  pub spelt : n ≡ slice text t.start t.end
  pub next : s.token ≡ token_at text t.end

-- the plain name that a word stands for
pub record Called (text : List ℕ) (w : ℕ) (n : Name) : Type 0 where
  pub plain : w % 256 < 64
  pub named : name_of text w ≡ n

pub called_by : {text : List ℕ} {t : Token} {role : ℕ} {n : Name} {s : State} {es : List Entry} → Named text t plain_form role n s es
    → Called text (word t) n
unfolding word_in in_form pick
called_by k = record { plain = omega arith; named = k.called }

module _ (text : List ℕ) where
  pub spelled_name : (w role : ℕ) → ltb role 32 ≡ true → spelled text (w * 32 + role) ≡ entry role (name_of text w)
  unfolding spelled
  spelled_name w role h =
      let l = ltb-true role 32 h in
      let a : (w * 32 + role) % 32 ≡ role = omega arith in
      let b : (w * 32 + role) / 32 ≡ w = omega arith in
      rw (a, b)

  mark_lies : (role : ℕ) → ltb role 32 ≡ true → Lies text role
  mark_lies role h =
      let l = ltb-true role 32 h in
      let b : role / 32 ≡ 0 = omega arith in
      rw b (omega arith)

  spelled_mark : (role : ℕ) → ltb role 32 ≡ true → spelled text role ≡ entry role []
  unfolding spelled
  spelled_mark role h =
      let l = ltb-true role 32 h in
      let a : role % 32 ≡ role = omega arith in
      let b : role / 32 ≡ 0 = omega arith in
      rw (a, b, no_name text)

module _ {text : List ℕ} where
  -- ---- a token

  pub step_meant : Reads text 0 0 (Model.step text) (Grammar.step text) (means λ a. [])
  unfolding Model.step Grammar.step
  step_meant = record { from = λ p t r. both_done p.token _ t [] refl (passed r 0 (omega (arith, forward r))) }

  -- an expected token makes room for an entry
  pub expect_more : (k : ℕ) → eqb k 0 ≡ false → eqb k 4 ≡ false
      → Reads text 0 1 (Model.expect text k) (Grammar.expect text k) (means λ a. [])
  unfolding Model.expect Grammar.expect Model.step Grammar.step
  expect_more k a b = record {
    from = λ p t r.
        by_next (is k) _ _ _ _ (λ h. both_done p.token _ t [] refl (passed r 1 (omega (arith, filled r k a b h))))
        (λ h. unexpected_meant.from p t r);
  }

  pub expect_meant : (k : ℕ) → Reads text 0 0 (Model.expect text k) (Grammar.expect text k) (means λ a. [])
  unfolding Model.expect Grammar.expect
  expect_meant k = either (is k) step_meant unexpected_meant

  -- a rule that begins with a token, knowing that it is there
  pub expected : {A : Type 0} {i j : ℕ} {Φ : Meaning A} {p : Place} {t : List ℕ} (k : ℕ) (W : Writer) (P : Parser A)
      → (eqb p.token.kind k ≡ true → Matches text i j Φ p t ((Model.expect text k >> W) p t) (Grammar.◌>>◌ (Grammar.expect text k) P (state p)))
      → Matches text i j Φ p t ((Model.expect text k >> W) p t) (Grammar.◌>>◌ (Grammar.expect text k) P (state p))
  unfolding Model.expect Grammar.expect Model.if_next Grammar.if_next Model.unexpected Grammar.unexpected ◌>>◌ Grammar.◌>>◌ onward after pick
  expected {p = p} {t = t} k W P f = whether (eqb p.token.kind k) f (λ h. rw h (both_refused _ _ t refl))

  -- ---- an entry without a name, where there is room

  pub mark_at : {A : Type 0} {Ψ : Meaning A} {p : Place} {t : List ℕ} (role : ℕ) (a : A) → ltb role 32 ≡ true → Ready text 1 p t
      → Ψ a (state p) (entry role [] ∷ [])
      → Matches text 1 0 Ψ p t (Model.mark role p t) (return a (state p))
  unfolding Model.mark Model.written return pick
  mark_at {p = p} {t = t} role a h r ψ =
      let l : p.entries < length t = omega (arith, r.room, r.long, forward r, ends_within r) in
      rw (lt-ltb p.entries (length t) l)
      (both_done a (place p.token p.nodes (p.entries + 1)) _ (spelled text role ∷ []) (rw (spelled_mark text role h) ψ)
      (noted r role 0 p.token r.stands (mark_lies text role h) l (omega arith)))

  pub mark_meant : {A : Type 0} {Ψ : Meaning A} (role : ℕ) (a : A) → ltb role 32 ≡ true → ((s : State) → Ψ a s (entry role [] ∷ []))
      → Reads text 1 0 (Model.mark role) (return a) Ψ
  mark_meant role a h ψ = record { from = λ p t r. mark_at role a h r (ψ (state p)) }

  -- ---- names

  module _ (form role : ℕ) (f : ltb form 4 ≡ true) (h : ltb role 32 ≡ true) (p : Place) (t : List ℕ) (r : Ready text 0 p t) where
    short_named : leb (p.token.end - p.token.start) name_size ≡ true → p.token.start < p.token.end
        → Matches text 0 0 (λ n s es. Named text p.token form role n s es) p t
        ((Model.as_entry role (word_in form p.token) >> Model.step text) p t)
        (done (slice text p.token.start p.token.end) (record { token = token_at text p.token.end; nodes = p.nodes }))
    unfolding Model.written Model.step ◌>>◌ onward pick
    short_named l g =
        let m : p.entries < length t = omega (arith, r.room, r.long, ends_within r) in
        let w = word_in form p.token in
        rw (lt-ltb p.entries (length t) m)
        (both_done (slice text p.token.start p.token.end) (place (token_at text p.token.end) p.nodes (p.entries + 1)) _
        (spelled text (w * 32 + role) ∷ [])
        (record { written = rw (spelled_name text w role h, word_slice r form f l); called = word_slice r form f l; spelt = refl; next = refl })
        (noted r (w * 32 + role) 0 (token_at text p.token.end) (after_it r) (word_lies r form f l role h) m (omega (arith, follows r))))

    -- a token of a kind that has bytes
    short_at : (k : ℕ) → eqb k 0 ≡ false → eqb k 4 ≡ false → eqb p.token.kind k ≡ true
        → Matches text 0 0 (λ n s es. Named text p.token form role n s es) p t (Model.short_name text form (Model.as_entry role) p t)
        (Grammar.short_name text (state p))
    unfolding Model.short_name Grammar.short_name Grammar.step ◌>>=◌ after return
    short_at k a b e =
        choice (leb (p.token.end - p.token.start) name_size) _ _ _ _ (λ l. short_named l (filled r k a b e))
        (λ l. (refuse_meant over_size).from p t r)

    pub operator_at : Matches text 0 0 (λ n s es. Named text p.token form role n s es) p t
        (Model.bare_operator text form (Model.as_entry role) p t) (Grammar.bare_operator text (state p))
    unfolding Model.bare_operator Grammar.bare_operator
    operator_at = by_next (is operator) _ _ _ _ (short_at operator refl refl) (λ h. unexpected_meant.from p t r)

  module _ (role : ℕ) (h : ltb role 32 ≡ true) (p : Place) (t : List ℕ) (r : Ready text 0 p t) where
    pub name_at : Matches text 0 0 (λ n s es. Named text p.token plain_form role n s es) p t (Model.name text role p t) (Grammar.name text (state p))
    unfolding Model.name Grammar.name
    name_at = by_next is_name _ _ _ _ (short_at plain_form role refl h p t r ident refl refl) (λ h. unexpected_meant.from p t r)

  pub name_meant : (role : ℕ) → ltb role 32 ≡ true
      → Reads text 0 0 (Model.name text role) (Grammar.name text) (means λ n. entry role n ∷ [])
  unfolding in_form pick
  name_meant role h = record { from = λ p t r. weaker _ _ (λ n s es k. k.written) (name_at role h p t r) }

  pub operator_meant : (form role : ℕ) → ltb form 4 ≡ true → ltb role 32 ≡ true
      → Reads text 0 0 (Model.bare_operator text form (Model.as_entry role)) (Grammar.bare_operator text) (means λ o. entry role (in_form form o) ∷ [])
  operator_meant form role f h = record { from = λ p t r. weaker _ _ (λ n s es k. k.written) (operator_at form role f h p t r) }

  -- ---- the name after `end`

  module _ (w : ℕ) (n : Name) (e : Called text w n) (p : Place) (t : List ℕ) (r : Ready text 0 p t) where
    long_name : leb (p.token.end - p.token.start) name_size ≡ false
        → false ≡ same (name_of text w) (slice text p.token.start p.token.end)
    unfolding token_of
    long_name l =
        rw (plain_name text w (lt-ltb (w % 256) 64 e.plain))
        (same_lengths (token_of text w) (slice text p.token.start p.token.end) (λ e.
        omega (
          arith,
          leb-false (p.token.end - p.token.start) name_size l,
          length-take (min (w % 64) name_size) (drop (w / 256) text),
          length-take (p.token.end - p.token.start) (drop p.token.start text),
          length-drop p.token.start text,
          ends_within r,
        )))

    told : Model.is_word_of text w p.token ≡ same n (slice text p.token.start p.token.end)
    unfolding Model.is_word_of in_form pick
    told = rw (← e.named) (by_cases (λ b. b ≡ same (name_of text w) (slice text p.token.start p.token.end))
        (leb (p.token.end - p.token.start) name_size) _ _ (λ l. rw (word_slice r plain_form refl l)) long_name)

    that_name_at : Matches text 0 0 (means λ a. []) p t (Model.that_name text w p t) (Grammar.that_name text n (state p))
    unfolding Model.that_name Grammar.that_name
    that_name_at =
        rw told
        (choice (same n (slice text p.token.start p.token.end)) _ _ _ _ (λ h. step_meant.from p t r) (λ h. (refuse_meant other_end).from p t r))

  pub this_name_meant : (w : ℕ) (n : Name) → Called text w n
      → Reads text 0 0 (Model.this_name text w) (Grammar.this_name text n) (means λ a. [])
  unfolding Model.this_name Grammar.this_name
  this_name_meant w n e = either is_name (record { from = that_name_at w n e }) unexpected_meant

  -- ---- first lines

  -- an entry without a name, before what reads on
  pub mark_first : {A : Type 0} {Ψ : Meaning A} {j : ℕ} {X : Writer} {Q : Parser A} (role : ℕ) → ltb role 32 ≡ true
      → Reads text 0 j X Q (λ a s es. Ψ a s (entry role [] ∷ es)) → Reads text 1 j (Model.mark role >> X) Q Ψ
  unfolding ◌>>=◌ return after
  mark_first {Ψ = Ψ} role h d = line {A = ℕ} {f = λ a. entry role [] ∷ []} {Ψ = Ψ} (mark_meant role 0 h (λ s. refl)) (λ a. d)

  -- a name that is asked for again, by its word
  pub with_name : {B : Type 0} {Ψ : Meaning B} {X : ℕ → Writer} {Q : Name → Parser B} (role : ℕ) → ltb role 32 ≡ true
      → ((w : ℕ) (n : Name) → Called text w n → Reads text 0 0 (X w) (Q n) (λ b s es. Ψ b s (entry role n ∷ es)))
      → Reads text 0 0 (Model.with_word (λ w. Model.name text role >> X w)) (Grammar.name text >>= Q) Ψ
  unfolding Model.with_word ◌>>◌ ◌>>=◌ in_form pick
  with_name {Ψ = Ψ} {X} {Q} role h d = record {
    from = λ p t r.
        and_then Ψ (X (word p.token)) Q _ _ (name_at role h p t r)
        (λ n q u es k s. rw k.written ((d (word p.token) n (called_by k)).from q u (next_ready r s)));
  }
