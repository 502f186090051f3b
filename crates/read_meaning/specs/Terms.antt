-- Terms: primaries, and the operators that join them. A primary is a name, perhaps with arguments in brackets, or a term in brackets.
use Rattle.std.specs.Prelude.{◌≡◌, Bool, true, false, eqb, leb, ltb}
use Rattle.std.proofs.Math.Path.{refl}
use Rattle.std.proofs.Common.{sym, ap, ◌∙◌, arith, eqb-true, lt-ltb}
use Prim.Native.Nat.{ℕ, zero, suc, ◌+◌, ◌-◌, ◌*◌, ◌<◌}
use mathlib.Core.List.{List, [], ◌∷◌, ◌++◌, append-nil}
use Rattle.std.proofs.Math.ListN.{length}
use Rattle.types.specs.declared.Token.{Token}
use Rattle.meaning.specs.Lists.{pick, any}
use Rattle.meaning.specs.Laws.{by_cases}
use Rattle.meaning.specs.Tokens.{token_at, ident, operator}
use Rattle.meaning.specs.Names.{Name, byte, slice, prefix_name, infix_name, is_operator}
use Rattle.meaning.specs.Numbers.{argument_limit, node_limit, over_size, name_size}
use Rattle.meaning.specs.Syntax.{Term, node, terms, joined_left}
use Rattle.meaning.specs.Grammar.{State, Parser, after, ◌>>=◌, return, is, is_name, begins_term}
use Rattle.meaning.specs.Grammar
use Rattle.text_names.specs.Word.{prefix_form, infix_form, in_form}
use Rattle.text_tokens.proofs.Spelled.{ident_plain}
use Rattle.read_steps.specs.declared.Place.{Place}
use Rattle.tape.specs.Tape.{Entry, entry, spelled, alone_role, head_role, close_role, prefix_role, infix_role, role_with, flat_node, how_many, flat_term, flat_terms}
use Rattle.tape.specs.Tape
use Rattle.read_steps.specs.Model.{Writer, ◌>>◌, onward, word_in, place}
use Rattle.read_steps.specs.Model
use Rattle.read_meaning.specs.Matches.{Ready, Step, state, Matches, both_done, both_refused, Reads, means, next_ready, and_then, and_thus}
use Rattle.read_meaning.specs.Lines.{whether, weaker, so, spend, recast, counting, choice, by_next, either, ends, regroup, refuse_meant, unexpected_meant, stay_at, handed, last, closing, line, knowing, pass, after_after, after_pick}
use Rattle.read_meaning.specs.Steps.{Named, ends_within, after_it, follows, filled, word_slice, word_lies, spelled_name, expect_meant, expect_more, mark_meant, name_at, operator_meant}
use Rattle.read_meaning.specs.Inserted.{inserted_step}
use Rattle.read_meaning.specs.Lists.{separated_by}

-- ---- operators laid flat

any_last : {A : Type 0} (p : A → Bool) (xs : List A) (y : A) → p y ≡ true → any p (xs ++ (y ∷ [])) ≡ true
unfolding any pick
any_last p [] y h = rw h
any_last p (x ∷ xs) y h = rw (any_last p xs y h) (go (p x))
  where
    go : (b : Bool) → pick b true true ≡ true
    go true = refl
    go false = refl

prefix_told : (o : Name) → is_operator (prefix_name o) ≡ true
unfolding is_operator prefix_name
prefix_told o = any_last (λ (b : ℕ). eqb b (byte "_")) o (byte "_") refl

infix_told : (o : Name) → is_operator (infix_name o) ≡ true
unfolding is_operator infix_name any pick
infix_told o = refl

prefix_flat : (o : Name) (a : Term) → entry prefix_role (prefix_name o) ∷ flat_term a ≡ flat_term (node (prefix_name o) (terms (a ∷ [])))
unfolding flat_term flat_terms flat_node how_many role_with Tape.closing terms pick
prefix_flat o a = rw (prefix_told o, append-nil (flat_term a), append-nil (flat_term a))

infix_flat : (o : Name) (a b : Term)
    → entry infix_role (infix_name o) ∷ (flat_term a ++ flat_term b) ≡ flat_term (node (infix_name o) (terms (a ∷ b ∷ [])))
unfolding flat_term flat_terms flat_node how_many role_with Tape.closing terms pick
infix_flat o a b = rw (infix_told o, append-nil (flat_term b), append-nil (flat_term a ++ flat_term b))

-- ---- the name of a node

-- what a name in a term is, where s is the state after it
unfoldable pub role_before : State → ℕ
role_before s = pick (eqb s.token.kind (byte "(")) head_role alone_role

record NodeNamed (n : Name) (s : State) (es : List Entry) : Type 0 where
  written : es ≡ entry (role_before s) n ∷ []
  plain : is_operator n ≡ false

node_role_short : (text : List ℕ) (t : Token) → ltb (Model.node_role text t) 32 ≡ true
unfolding Model.node_role
node_role_short text t =
    by_cases (λ k. ltb k 32 ≡ true) (eqb (token_at text t.end).kind (byte "(")) head_role alone_role (λ h. refl) (λ h. refl)

-- ---- arguments

-- what a plain name's arguments have written, brackets and all
abbrev AfterHead : List Term → List Entry → Type 0
AfterHead ts es = (f : Name) → is_operator f ≡ false → entry head_role f ∷ es ≡ flat_term (node f (terms ts))

-- what the arguments themselves have written
record Arguments (ts : List Term) (es : List Entry) : Type 0 where
  said : es ≡ flat_terms (terms ts)
  others : ℕ
  some : how_many (terms ts) ≡ suc others

one_argument : (t : Term) (es : List Entry) → es ≡ flat_term t → Arguments (t ∷ []) es
unfolding flat_terms how_many terms
one_argument t es e = record { said = e ∙ sym (append-nil (flat_term t)); others = 0; some = refl }

more_arguments : (t : Term) (ts : List Term) (es fs : List Entry) → es ≡ flat_term t → Arguments ts fs → Arguments (t ∷ ts) (es ++ fs)
unfolding flat_terms how_many terms
more_arguments t ts es fs e a = record { said = rw (e, a.said); others = how_many (terms ts); some = refl }

closed : (ts : List Term) (es : List Entry) → Arguments ts es → AfterHead ts (es ++ (entry close_role [] ∷ []))
unfolding flat_term flat_node role_with Tape.closing pick
closed ts es a f p = rw (a.some, ← a.said, p)

module _ {text : List ℕ} where
  module _ (p : Place) (t : List ℕ) (r : Ready text 0 p t) (h : is_name p.token.kind ≡ true) where
    told : (n : Name) (s : State) (es : List Entry) → Named text p.token 0 (Model.node_role text p.token) n s es → NodeNamed n s es
    unfolding Model.node_role role_before in_form pick
    told n s es k = record {
      written = rw (k.written, k.next);
      plain = rw k.spelt (ident_plain text r.stands.from p.token r.stands.found (eqb-true p.token.kind ident h));
    }

    counted_at : Matches text 0 0 NodeNamed p t (Model.counted (Model.name text (Model.node_role text p.token)) p t)
        (Grammar.counted text (Grammar.name text) (state p))
    unfolding Model.counted Grammar.counted
    counted_at =
        let one = counting (suc p.nodes) r in
        choice (leb node_limit p.nodes) _ _ _ _ (λ h. (refuse_meant over_size).from p t r)
        (λ h. recast (suc p.nodes) 0 0 _ _ (omega arith)
        (weaker _ _ told (name_at (Model.node_role text p.token) (node_role_short text p.token) _ t one)))

  term_name_meant : Reads text 0 0 (Model.term_name text) (Grammar.term_name text) NodeNamed
  unfolding Model.term_name Grammar.term_name
  term_name_meant = record { from = λ p t r. by_next is_name _ _ _ _ (counted_at p t r) (λ h. unexpected_meant.from p t r) }

  prefix_meant : Reads text 0 0 (Model.term_operator text prefix_form (Model.as_entry prefix_role)) (Grammar.term_operator text)
      (means λ o. entry prefix_role (prefix_name o) ∷ [])
  unfolding Model.term_operator Grammar.term_operator Model.counted Grammar.counted in_form pick
  prefix_meant =
      either (is operator)
      (record {
        from = λ p t r.
            choice (leb node_limit p.nodes) _ _ _ _ (λ h. (refuse_meant over_size).from p t r)
            (λ h. recast (suc p.nodes) 0 0 _ _ (omega arith)
            ((operator_meant prefix_form prefix_role refl refl).from _ t (counting (suc p.nodes) r)));
      })
      unexpected_meant

  -- ---- primaries

  module _ {W X : Writer} {P : Parser (List Term)} {Q : Parser Term} where
    primary_by_meant : Reads text 0 0 W P (λ ts s es. AfterHead ts es) → Reads text 0 0 X Q (means flat_term)
        → Reads text 0 0 (Model.primary_by text W X) (Grammar.primary_by text P Q) (means flat_term)
    unfolding Model.primary_by Grammar.primary_by ◌>>◌ ◌>>=◌ role_before pick flat_term flat_terms flat_node how_many terms
    primary_by_meant d e =
        either (is (byte "(")) e
        (record {
          from = λ p t r.
              and_then (means flat_term) _ _ _ _ (term_name_meant.from p t r) (λ f q u es φ s.
              let ready = next_ready r s in
              handed (λ ts. node f (terms ts)) _ _ (λ ts v fs ψ. ψ)
              (by_next (is (byte "(")) _ _ _ _
              (λ h. (so d (λ ts v fs ψ. rw (φ.written, h) (ψ f φ.plain))).from q u ready)
              (λ h. stay_at [] ready (rw (φ.written, h)))));
        })

  in_brackets_meant : {A : Type 0} {Φ : A → List Entry → Type 0} {W : Writer} {P : Parser A} → Reads text 0 0 W P (λ a s es. Φ a es)
      → Reads text 0 1 (Model.in_brackets text W) (Grammar.in_brackets text P) (λ a s es. Φ a es)
  unfolding Model.in_brackets Grammar.in_brackets
  in_brackets_meant d =
      pass (expect_meant (byte "("))
      (knowing d (λ a s es φ.
      closing a (expect_more (byte ")") refl refl) (λ v. rw append-nil φ)))

  -- ---- operators: from the place p where the term begins, to the place q where one stands behind what has been read

  module _ {p q : Place} {t u : List ℕ} {es : List Entry} (r : Ready text 0 p t) (s : Step text 0 0 p t q u es) where
    ready : Ready text 0 q u
    ready = next_ready r s

    joined_short : eqb q.token.kind operator ≡ true → leb (q.token.end - q.token.start) name_size ≡ true
        → Matches text 0 0 (λ o v fs. fs ≡ entry infix_role (infix_name o) ∷ es) p t
        ((Model.inserted p.entries (word_in infix_form q.token * 32 + infix_role) >> Model.step text) (place q.token (suc q.nodes) q.entries) u)
        ((Grammar.step text >>= λ t. return (Grammar.spelled text t)) (record { token = q.token; nodes = suc q.nodes }))
    unfolding Model.inserted Model.step Grammar.step ◌>>◌ ◌>>=◌ onward after return pick in_form
    joined_short h l =
        let w = word_in infix_form q.token in
        let full = filled ready operator refl refl h in
        let m : q.entries < length u = omega (arith, ready.room, ready.long, ends_within ready, full) in
        rw (lt-ltb q.entries (length u) m)
        (both_done (slice text q.token.start q.token.end) (place (token_at text q.token.end) (suc q.nodes) (q.entries + 1)) _
        (spelled text (w * 32 + infix_role) ∷ es)
        (rw (spelled_name text w infix_role refl, word_slice ready infix_form refl l))
        (inserted_step r s (w * 32 + infix_role) (suc q.nodes) (token_at text q.token.end) m (word_lies ready infix_form refl l infix_role refl)
        (after_it ready) (omega (arith, follows ready, full))))

    joined_at : Matches text 0 0 (λ o v fs. fs ≡ entry infix_role (infix_name o) ∷ es) p t (Model.joins text p.entries q u)
        (Grammar.term_operator text (state q))
    unfolding Model.joins Model.term_operator Grammar.term_operator Model.counted Grammar.counted Model.bare_operator Grammar.bare_operator Model.short_name Grammar.short_name Model.if_next Grammar.if_next Model.unexpected Grammar.unexpected Model.refuse Grammar.refuse
    joined_at =
        choice (eqb q.token.kind operator) _ _ _ _
        (λ h. choice (leb node_limit q.nodes) _ _ _ _ (λ n. both_refused _ _ u s.size)
        (λ n. choice (eqb q.token.kind operator) _ _ _ _
        (λ g. choice (leb (q.token.end - q.token.start) name_size) _ _ _ _ (joined_short h) (λ l. both_refused _ _ u s.size))
        (λ g. both_refused _ _ u s.size)))
        (λ h. both_refused _ _ u s.size)

  module _ {W : Writer} {P : Parser Term} (d : Reads text 0 0 W P (means flat_term)) {p : Place} {t : List ℕ} (r : Ready text 0 p t) where
    operand_at : {q : Place} {u : List ℕ} {es : List Entry} (a : Term) → Step text 0 0 p t q u es → es ≡ flat_term a
        → Matches text 0 0 (λ o v fs. fs ≡ flat_term (node (infix_name o.operator) (terms (a ∷ o.right ∷ [])))) p t
        (Model.operand text p.entries W q u) (Grammar.operand text P (state q))
    unfolding Model.operand Grammar.operand ◌>>◌ ◌>>=◌
    operand_at a s φ =
        and_then _ _ _ _ _ (joined_at r s) (λ o q u fs ψ s'.
        handed {Φ = means flat_term} (λ b. record { operator = o; right = b }) _ _
        (λ b v gs χ. rw (ψ, φ) (ap (λ (xs : List Entry). entry infix_role (infix_name o) ∷ (flat_term a ++ xs)) χ ∙ infix_flat o a b))
        (d.from q u (next_ready r s')))

    rest_at : (n : ℕ) {q : Place} {u : List ℕ} {es : List Entry} (a : Term) → Step text 0 0 p t q u es → es ≡ flat_term a
        → Matches text 0 0 (means flat_term) p t (Model.many text n (is operator) (Model.operand text p.entries W) q u)
        (after (Grammar.many text n (is operator) (Grammar.operand text P) (state q)) (λ os. return (joined_left a os)))
    unfolding Model.many Grammar.many Model.if_next Grammar.if_next Model.refuse Grammar.refuse Model.stay after return joined_left ◌>>◌ ◌>>=◌
    rest_at zero {q} {u} {es} a s φ =
        rw (after_pick (eqb q.token.kind operator))
        (choice (eqb q.token.kind operator) _ _ _ _ (λ h. both_refused _ _ u s.size) (λ h. both_done a q u es φ s))
    rest_at (suc n) {q} {u} {es} a s φ =
        rw (after_pick (eqb q.token.kind operator))
        (choice (eqb q.token.kind operator) _ _ _ _
        (λ h. rw after_after
        (and_thus (means flat_term) _ _ _ _ (operand_at a s φ) (λ o v w fs ψ s'.
        rw after_after (rest_at n (node (infix_name o.operator) (terms (a ∷ o.right ∷ []))) s' ψ))))
        (λ h. both_done a q u es φ s))

    first_at : Matches text 0 0 (means flat_term) p t ((Model.prefixed text >> W) p t)
        (Grammar.if_next (is operator) (Grammar.prefixed text P) P (state p))
    unfolding Model.prefixed Model.if_next Grammar.if_next Grammar.prefixed Model.stay ◌>>◌ onward pick
    first_at = whether (eqb p.token.kind operator) (λ h. rw h (prefixed_at.from p t r)) (λ h. rw h (d.from p t r))
      where
        prefixed_at : Reads text 0 0 (Model.term_operator text prefix_form (Model.as_entry prefix_role) >> W) (Grammar.prefixed text P) (means flat_term)
        prefixed_at = line prefix_meant (λ o. last (λ a. node (prefix_name o) (terms (a ∷ []))) d (λ a s. prefix_flat o a))

  term_by_meant : {W : Writer} {P : Parser Term} → Reads text 0 0 W P (means flat_term)
      → Reads text 0 0 (Model.term_by text W) (Grammar.term_by text P) (means flat_term)
  unfolding Model.term_by Model.with_entries Model.operands Grammar.term_by ◌>>◌ ◌>>=◌
  term_by_meant {W} d = record {
    from = λ p t r.
        rw (← regroup (Model.prefixed text p t).answer (Model.prefixed text p t).tape W)
        (and_thus (means flat_term) _ _ _ _ (first_at d r) (λ a q u es φ s. rest_at d r node_limit a s φ));
  }

  -- ---- terms

  pub term_meant : (d : ℕ) → Reads text 0 0 (Model.term text d) (Grammar.term text d) (means flat_term)
  unfolding Model.term Model.primary Grammar.term
  term_meant zero = term_by_meant (primary_by_meant (refuse_meant over_size) (refuse_meant over_size))
  term_meant (suc d) =
      term_by_meant
      (primary_by_meant
      (ends (knowing
      (in_brackets_meant
      (separated_by (λ ts s es. Arguments ts es) (byte ",") begins_term (term_meant d) (λ t s es φ h. one_argument t es φ)
      (λ t s v ts es fs φ h ψ. more_arguments t ts es fs φ ψ)
      argument_limit))
      (λ ts s es a. mark_meant close_role ts refl (λ v. closed ts es a))))
      (spend (in_brackets_meant (term_meant d))))
