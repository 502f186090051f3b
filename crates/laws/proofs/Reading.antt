-- What reading gives (document 01, "The text"), in one walk over the grammar: names of which holds what is asked, lists within their limits,
-- equations within their nodes. What is not read is refused by 1 to 5.
use Rattle.std.specs.Prelude.{◌≡◌, refl, Bool, true, false, ◌||◌, eqb}
use Rattle.std.proofs.Math.Path.{subst}
use Prim.Native.Nat.{ℕ, zero, suc, ◌+◌, ◌≤◌}
use native.Mathlib.Omega.{arith}
use mathlib.Core.List.{List, [], ◌∷◌, ◌++◌, append-nil}
use borrow.Author.Tests.{leb-false}
use Rattle.meaning.specs.Laws.{by_cases}
use Rattle.meaning.specs.Lists.{sum}
use Rattle.meaning.specs.Names.{Name, infix_name}
use Rattle.meaning.specs.Numbers.{text_size, import_limit, binding_limit, pair_limit, argument_limit, condition_limit, bracket_limit, node_limit, over_size}
use Rattle.meaning.specs.Syntax.{renamed_by, bound_by, Term, node, terms, Operand, joined_left, Sides, Equation, conditions_of, Module}
use Rattle.meaning.specs.Tokens.{ident, operator}
use Rattle.meaning.specs.OrderLaws.{Every}
use Rattle.meaning.specs.Texts.{Texts, all_read, read_texts}
use Rattle.meaning.proofs.TextsLaws.{of_both}
use Rattle.laws.specs.EveryLaws.{every_append}
use Rattle.meaning.specs.Grammar.{State, Result, done, refused, Parser, after, ◌>>=◌ as bind_read, ◌>>◌ as next_read, return, refuse, unexpected, if_next, is, begins_term, too_many, empty_signature, step, expect, short_name, name, bare_operator, that_name, this_name, separated, many, some_of, optional, sort_list, input_type, prefix_operator, infix_operator, one_input, two_inputs, function_by, function, signature, parameter, exports, function_name, pair, pairs, renamed, bound, perhaps_renamed, modifier, modifier_end, import_expression, imports, variable_group, variables, counted, term_name, term_operator, primary_by, prefixed, operand, term_by, in_brackets, term, sides, sides_list, implied, conditional, equation_after, no_nodes, equation, fresh_name, a_module, modules, read}
use Rattle.laws.specs.Reading.{source_nodes, all_source_nodes, source_sides, source_equation, Listed, Any, is_spelled, ReadFunction, ReadSignature, ReadParameter, ReadPair, ReadClause, ReadImport, ReadGroup, ReadEquation, ReadModule, Passes, Named, UpToFive}

terms_count : (ts : List Term) → sum source_nodes ts ≡ all_source_nodes (terms ts)
unfolding sum terms all_source_nodes
terms_count [] = refl
terms_count (t ∷ ts) = omega (arith, terms_count ts)

-- an operator is a node
operand_nodes : Operand → ℕ
operand_nodes o = 1 + source_nodes o.right

joined_nodes : (t : Term) (os : List Operand) → source_nodes (joined_left t os) ≡ source_nodes t + sum operand_nodes os
unfolding joined_left source_nodes terms sum operand_nodes
joined_nodes t [] = omega arith
joined_nodes t (o ∷ os) = omega (arith, joined_nodes (node (infix_name o.operator) (terms (t ∷ o.right ∷ []))) os)

-- n nodes have been read, and so many may be
record Spent (n nodes : ℕ) : Type 0 where
  told : nodes ≡ n
  few : n ≤ node_limit

none_listed : {A : Type 0} {P : A → Type 0} {n : ℕ} → Listed P n []
none_listed = record { each_one = tt; few = omega arith }

one_more : {A : Type 0} {P : A → Type 0} {n : ℕ} {x : A} {xs : List A} → P x → Listed P n xs → Listed P (suc n) (x ∷ xs)
one_more p l = record { each_one = (p, l.each_one); few = omega (arith, l.few) }

abbrev Always : ℕ → Type 0
Always n = Unit {0}

ident_spelled : (kind : ℕ) → eqb kind ident ≡ true → is_spelled kind ≡ true
unfolding is_spelled
ident_spelled kind e = rw e

operator_spelled : (kind : ℕ) → eqb kind operator ≡ true → is_spelled kind ≡ true
unfolding is_spelled
operator_spelled kind e = go (eqb kind ident)
  where
    go : (b : Bool) → (b || eqb kind operator) ≡ true
    go true = refl
    go false = e

module _ (Spelled Called : Name → Type 0) where
  no_signature : (ReadSignature Spelled Called) empty_signature
  unfolding empty_signature
  no_signature = record { sorts = tt; functions = tt }

  module _ (text : List ℕ) where
    -- P of what is read and J of the nodes then; if it is not read, the refusal is one of 1 to 5
    abbrev Gives : {A : Type 0} → (A → Type 0) → (A → ℕ → Type 0) → Result A → Type 0
    Gives P J (done a t) = P a × J a t.nodes × Passes Spelled Called text t.token
    Gives P J (refused k p) = k ≤ 5

    -- where I holds of the nodes so far
    record Reads {A : Type 0} (I : ℕ → Type 0) (p : Parser A) (P : A → Type 0) (J : A → ℕ → Type 0) : Type 0 where
      reads : (s : State) → I s.nodes → Passes Spelled Called text s.token → Gives P J (p s)

    -- whatever the nodes
    abbrev Gets : {A : Type 0} → (A → Type 0) → Parser A → Type 0
    Gets P p = Reads Always p P (λ a. Always)

    -- n nodes and those of what is read
    abbrev Spends : {A : Type 0} → (A → ℕ) → Parser A → Type 0
    Spends count p = (n : ℕ) → Reads (Spent n) p Any (λ a. Spent (n + count a))

    -- ---- steps

    after_read : {A B : Type 0} (P : A → Type 0) (J : A → ℕ → Type 0) (Q : B → Type 0) (K : B → ℕ → Type 0) (r : Result A) (f : A → State → Result B)
        → Gives P J r → ((a : A) (t : State) → P a → J a t.nodes → Passes Spelled Called text t.token → Gives Q K (f a t)) → Gives Q K (after r f)
    unfolding after
    after_read P J Q K (done a t) f h g = g a t h.0 h.1 h.2
    after_read P J Q K (refused k p) f h g = h

    reads_bind : {A B : Type 0} {I : ℕ → Type 0} {P : A → Type 0} {J : A → ℕ → Type 0} {Q : B → Type 0} {K : B → ℕ → Type 0} {m : Parser A}
        {f : A → Parser B} → Reads I m P J → ((a : A) → P a → Reads (J a) (f a) Q K) → Reads I (bind_read m f) Q K
    unfolding bind_read
    reads_bind {P} {J} {Q} {K} {m} {f} h g =
        record { reads = λ s i n. after_read P J Q K (m s) f (h.reads s i n) (λ a t p j k. (g a p).reads t j k) }

    reads_then : {A B : Type 0} {I J : ℕ → Type 0} {Q : B → Type 0} {K : B → ℕ → Type 0} {m : Parser A} {p : Parser B} → Reads I m Any (λ a. J)
        → Reads J p Q K → Reads I (next_read m p) Q K
    unfolding next_read
    reads_then {J} {Q} {K} {m} {p} h g =
        record { reads = λ s i n. after_read Any (λ a. J) Q K (m s) (λ a t. p t) (h.reads s i n) (λ a t q j k. g.reads t j k) }

    module _ {A : Type 0} {I : ℕ → Type 0} {P : A → Type 0} {J : A → ℕ → Type 0} where
      reads_so : {Q : A → Type 0} {p : Parser A} → ((a : A) → P a → Q a) → Reads I p P J → Reads I p Q J
      reads_so {Q} {p} f h = record { reads = λ s i n. go (p s) (h.reads s i n) }
        where
          go : (r : Result A) → Gives P J r → Gives Q J r
          go (done a t) k = (f a k.0, k.1, k.2)
          go (refused k p) q = q

      reads_return : (a : A) → ((n : ℕ) → I n → P a × J a n) → Reads I (return a) P J
      unfolding return
      reads_return a h = record { reads = λ s i n. let r = h s.nodes i in (r.0, r.1, n) }

      reads_refuse : (k : ℕ) → k ≤ 5 → Reads I (refuse k) P J
      unfolding refuse
      reads_refuse k h = record { reads = λ s i n. h }

      reads_unexpected : Reads I unexpected P J
      unfolding unexpected
      reads_unexpected = record { reads = λ s i n. by_cases (λ (k : ℕ). k ≤ 5) _ _ _ (λ e. omega arith) (λ e. omega arith) }

      reads_if : (test : ℕ → Bool) {p q : Parser A} → Reads I p P J → Reads I q P J → Reads I (if_next test p q) P J
      unfolding if_next
      reads_if test h g = record { reads = λ s i n. by_cases (Gives P J) _ _ _ (λ e. h.reads s i n) (λ e. g.reads s i n) }

      reads_too_many : (begins : ℕ → Bool) → Reads I (too_many begins) P J
      unfolding too_many
      reads_too_many begins = reads_if begins (reads_refuse over_size (omega arith)) reads_unexpected

    gets_return : {A : Type 0} {P : A → Type 0} (a : A) → P a → Gets P (return a)
    gets_return a p = reads_return a (λ n i. (p, tt))

    spends_return : {A : Type 0} {J : A → ℕ} {n : ℕ} (a : A) → n ≡ J a → Reads (Spent n) (return a) Any (λ a. Spent (J a))
    spends_return a e = reads_return a (λ k i. (tt, subst (λ (m : ℕ). Spent m k) e i))

    module _ (so : Named Spelled Called text) where
      -- ---- single tokens

      reads_step : {I : ℕ → Type 0} → Reads I (step text) Any (λ a. I)
      unfolding step
      reads_step = record { reads = λ s i n. (tt, i, so.token s.token.end) }

      reads_expect : {I : ℕ → Type 0} (k : ℕ) → Reads I (expect text k) Any (λ a. I)
      unfolding expect
      reads_expect k = reads_if _ reads_step reads_unexpected

      -- what follows a token
      past : {A : Type 0} {I : ℕ → Type 0} {P : A → Type 0} {J : A → ℕ → Type 0} {p : Parser A} (k : ℕ) → Reads I p P J
          → Reads I (next_read (expect text k) p) P J
      past k h = reads_then (reads_expect k) h

      reads_spelled : {I : ℕ → Type 0} (test : ℕ → Bool) → ((kind : ℕ) → test kind ≡ true → is_spelled kind ≡ true)
          → Reads I (if_next test (short_name text) unexpected) Spelled (λ a. I)
      unfolding if_next short_name bind_read after step return refuse
      reads_spelled {I} test spells = record {
        reads = λ s i n.
            by_cases (Gives Spelled (λ a. I)) _ _ _
            (λ e. by_cases (Gives Spelled (λ a. I)) _ _ _ (λ f. (n (spells _ e) f, i, so.token s.token.end)) (λ f. omega arith))
            (λ e. (reads_unexpected {I = I} {P = Spelled} {J = λ a. I}).reads s i n);
      }

      reads_name : {I : ℕ → Type 0} → Reads I (name text) Spelled (λ a. I)
      unfolding name
      reads_name = reads_spelled _ ident_spelled

      reads_bare : {I : ℕ → Type 0} → Reads I (bare_operator text) Spelled (λ a. I)
      unfolding bare_operator
      reads_bare = reads_spelled _ operator_spelled

      reads_this_name : {I : ℕ → Type 0} (w : Name) → Reads I (this_name text w) Any (λ a. I)
      unfolding this_name that_name refuse
      reads_this_name {I} w =
          reads_if _ (record { reads = λ s i n. by_cases (Gives Any (λ a. I)) _ _ _ (λ e. (reads_step {I = I}).reads s i n) (λ e. omega arith) })
          reads_unexpected

      gets_prefix : Gets Called (prefix_operator text)
      unfolding prefix_operator
      gets_prefix = reads_bind reads_bare (λ o p. past _ (gets_return _ (so.as_prefix o p)))

      gets_infix : Gets Called (infix_operator text)
      unfolding infix_operator
      gets_infix = past _ (reads_bind reads_bare (λ o p. past _ (gets_return _ (so.as_infix o p))))

      gets_plain : Gets Called (name text)
      gets_plain = reads_so so.as_plain reads_name

      gets_function_name : Gets Called (function_name text)
      unfolding function_name
      gets_function_name = reads_if _ gets_prefix (reads_if _ gets_infix gets_plain)

      -- ---- lists, where I n holds of n nodes and `count` are those of an item

      module _ {A : Type 0} (I : ℕ → ℕ → Type 0) (count : A → ℕ) {P : A → Type 0} (begins : ℕ → Bool) (item : Parser A)
          (one : (n : ℕ) → Reads (I n) item P (λ a. I (n + count a))) where
        none_counted : (n k : ℕ) → I n k → I (n + sum count []) k
        unfolding sum
        none_counted n k i = subst (λ (m : ℕ). I m k) (omega arith) i

        one_counted : (n : ℕ) (a : A) (more : List A) (k : ℕ) → I (n + count a + sum count more) k → I (n + sum count (a ∷ more)) k
        unfolding sum
        one_counted n a more k i = subst (λ (m : ℕ). I m k) (omega arith) i

        reads_separated : (c mark n : ℕ) → Reads (I n) (separated text c mark begins item) (Listed P c) (λ xs. I (n + sum count xs))
        unfolding separated
        reads_separated zero mark n = reads_too_many begins
        reads_separated (suc c) mark n =
            reads_bind (one n) (λ a p.
            reads_bind {P = Listed P c} {J = λ xs. I (n + count a + sum count xs)}
            (reads_if _ (record { reads = λ s i k. (reads_then reads_step (reads_separated c mark (n + count a))).reads s i k })
            (reads_return [] (λ k i. (none_listed, none_counted (n + count a) k i))))
            (λ more l. reads_return (a ∷ more) (λ k i. (one_more p l, one_counted n a more k i))))

        reads_many : (c n : ℕ) → Reads (I n) (many text c begins item) (Every P) (λ xs. I (n + sum count xs))
        unfolding many
        reads_many zero n = reads_if _ (reads_refuse over_size (omega arith)) (reads_return [] (λ k i. (tt, none_counted n k i)))
        reads_many (suc c) n =
            reads_if _
            (reads_bind (one n) (λ a p. reads_bind (reads_many c (n + count a)) (λ more l.
            reads_return (a ∷ more) (λ k i. ((p, l), one_counted n a more k i)))))
            (reads_return [] (λ k i. (tt, none_counted n k i)))

      module _ {A : Type 0} {P : A → Type 0} {item : Parser A} (h : Gets P item) where
        gets_listed : (c mark : ℕ) (begins : ℕ → Bool) → Gets (Listed P c) (separated text c mark begins item)
        gets_listed c mark begins = reads_separated (λ n. Always) (λ a. 0) begins item (λ n. h) c mark 0

        gets_separated : (c mark : ℕ) (begins : ℕ → Bool) → Gets (Every P) (separated text c mark begins item)
        gets_separated c mark begins = reads_so (λ xs l. l.each_one) (gets_listed c mark begins)

        gets_many : (c : ℕ) (begins : ℕ → Bool) → Gets (Every P) (many text c begins item)
        gets_many c begins = reads_many (λ n. Always) (λ a. 0) begins item (λ n. h) c 0

        gets_some : (c : ℕ) (begins : ℕ → Bool) → Gets (Every P) (some_of text c begins item)
        unfolding some_of
        gets_some c begins = reads_if _ (gets_many c begins) reads_unexpected

      reads_optional : {A : Type 0} {I : ℕ → Type 0} {P : A → Type 0} {J : A → ℕ → Type 0} {p : Parser A} (key : ℕ) (default : A) → Reads I p P J
          → Reads I (return default) P J → Reads I (optional text key default p) P J
      unfolding optional
      reads_optional key default h d = reads_if _ (reads_then reads_step h) d

      -- ---- declarations

      gets_function_by : {inputs : Parser (List Name)} → Gets (Listed Spelled argument_limit) inputs → (f : Name) → Called f
          → Gets (ReadFunction Spelled Called) (function_by text inputs f)
      unfolding function_by
      gets_function_by h f p =
          past _ (reads_bind h (λ i q. past _ (reads_bind reads_name (λ o r. gets_return _ (record { name = p; inputs = q; output = r })))))

      gets_function : Gets (ReadFunction Spelled Called) (function text)
      unfolding function input_type one_input two_inputs
      gets_function =
          reads_if _ (reads_bind gets_prefix (gets_function_by (reads_bind reads_name (λ a p. gets_return _ (one_more p none_listed)))))
          (reads_if _
          (reads_bind gets_infix (gets_function_by
          (reads_bind reads_name (λ a p. past _ (reads_bind reads_name (λ b q. gets_return _ (one_more p (one_more q none_listed))))))))
          (reads_bind gets_plain (gets_function_by (reads_if _ (gets_return [] none_listed) (gets_listed reads_name argument_limit _ _)))))

      gets_signature : Gets (ReadSignature Spelled Called) (signature text)
      unfolding signature sort_list
      gets_signature =
          reads_bind (reads_optional _ _ (gets_separated reads_name text_size _ _) (gets_return [] tt)) (λ s p.
          reads_bind (reads_optional _ _ (gets_some gets_function text_size _) (gets_return [] tt)) (λ f q.
          gets_return _ (record { sorts = p; functions = q })))

      gets_parameter : Gets (ReadParameter Spelled Called) (parameter text)
      unfolding parameter
      gets_parameter =
          reads_bind reads_name (λ p h. past _ (reads_bind gets_signature (λ g k.
          past _ (reads_then (reads_this_name p) (gets_return _ (record { name = h; signature = k }))))))

      gets_exports : Gets (ReadSignature Spelled Called) (exports text)
      unfolding exports
      gets_exports = past _ (reads_bind gets_signature (λ g h. past _ (gets_return g h)))

      -- ---- imports

      gets_pair : Gets (ReadPair Spelled Called) (pair text)
      unfolding pair
      gets_pair = reads_bind gets_function_name (λ a p. past _ (reads_bind gets_function_name (λ b q. gets_return _ (p, q))))

      gets_pairs : Gets (Listed (ReadPair Spelled Called) pair_limit) (pairs text)
      unfolding pairs
      gets_pairs = past _ (reads_bind (gets_listed gets_pair pair_limit _ _) (λ r h. past _ (gets_return r h)))

      gets_renamed : Gets (ReadClause Spelled Called) (renamed text)
      unfolding renamed
      gets_renamed = past _ (past _ (reads_bind gets_pairs (λ r h. gets_return (renamed_by r) h)))

      gets_bound : Gets (ReadClause Spelled Called) (bound text)
      unfolding bound
      gets_bound =
          reads_bind reads_name (λ p h. past _ (past _ (reads_bind gets_pairs (λ r k.
          past _ (reads_bind reads_name (λ m q. gets_return (bound_by p r m) k))))))

      gets_modifier : Gets (Every (ReadClause Spelled Called)) (modifier text)
      unfolding modifier perhaps_renamed
      gets_modifier =
          reads_if _ (reads_bind gets_renamed (λ r h. reads_bind (gets_many gets_bound binding_limit _) (λ b k. gets_return (r ∷ b) (h, k))))
          (reads_bind (gets_some gets_bound binding_limit _) (λ b h.
          reads_bind {P = Every (ReadClause Spelled Called)} (reads_if _ (reads_bind gets_renamed (λ r k. gets_return (r ∷ []) (k, tt))) (gets_return [] tt))
          (λ r k. gets_return (b ++ r) (every_append (ReadClause Spelled Called) b r h k))))

      gets_import : Gets (ReadImport Spelled Called) (import_expression text)
      unfolding import_expression modifier_end
      gets_import =
          reads_bind reads_name (λ m h.
          reads_bind {P = Every (ReadClause Spelled Called)}
          (reads_optional _ _ (reads_bind gets_modifier (λ c k. past _ (gets_return c k))) (gets_return [] tt)) (λ c k. gets_return _ k))

      -- ---- variables

      gets_group : Gets (ReadGroup Spelled Called) (variable_group text)
      unfolding variable_group
      gets_group =
          reads_bind (gets_separated reads_name text_size _ _) (λ v h.
          past _ (past _ (reads_bind reads_name (λ s k. gets_return _ (record { names = h; sort = k })))))

      -- ---- terms and equations: a name in a term is a node. More is not asked of it, it is the name of an item

      reads_counted : (n : ℕ) {p : Parser Name} → Reads (Spent (n + 1)) p Spelled (λ a. Spent (n + 1))
          → Reads (Spent n) (counted text p) Spelled (λ f. Spent (n + 1))
      unfolding counted refuse
      reads_counted n h = record {
        reads = λ s i k.
            by_cases (Gives Spelled (λ f. Spent (n + 1))) _ _ _ (λ e. omega arith)
            (λ e. h.reads (record { token = s.token; nodes = suc s.nodes })
            (record { told = omega (arith, i.told); few = omega (arith, leb-false node_limit s.nodes e, i.told) }) k);
      }

      reads_term_name : (n : ℕ) → Reads (Spent n) (term_name text) Spelled (λ f. Spent (n + 1))
      unfolding term_name
      reads_term_name n = reads_if _ (reads_counted n reads_name) reads_unexpected

      reads_term_operator : (n : ℕ) → Reads (Spent n) (term_operator text) Spelled (λ f. Spent (n + 1))
      unfolding term_operator
      reads_term_operator n = reads_if _ (reads_counted n reads_bare) reads_unexpected

      spends_separated : {A : Type 0} (count : A → ℕ) (c mark : ℕ) (begins : ℕ → Bool) {item : Parser A} → Spends count item
          → Spends (sum count) (separated text c mark begins item)
      spends_separated count c mark begins h n = reads_so (λ xs l. tt) (reads_separated Spent count begins _ h c mark n)

      spends_brackets : {A : Type 0} (count : A → ℕ) {p : Parser A} → Spends count p → Spends count (in_brackets text p)
      unfolding in_brackets
      spends_brackets count h n = past _ (reads_bind (h n) (λ a p. past _ (spends_return a refl)))

      spends_primary_by : {arguments : Parser (List Term)} {inner : Parser Term} → Spends (sum source_nodes) arguments → Spends source_nodes inner
          → Spends source_nodes (primary_by text arguments inner)
      unfolding primary_by source_nodes sum
      spends_primary_by h g n =
          reads_if _ (g n)
          (reads_bind (reads_term_name n) (λ f p.
          reads_bind {P = Any} {J = λ ts. Spent (n + 1 + sum source_nodes ts)} (reads_if _ (h (n + 1)) (spends_return [] (omega arith))) (λ a q.
          spends_return (node f (terms a)) (omega (arith, terms_count a)))))

      spends_operand : {primary : Parser Term} → Spends source_nodes primary → Spends operand_nodes (operand text primary)
      unfolding operand operand_nodes
      spends_operand h n = reads_bind (reads_term_operator n) (λ o p. reads_bind (h (n + 1)) (λ b q. spends_return _ (omega arith)))

      spends_term_by : {primary : Parser Term} → Spends source_nodes primary → Spends source_nodes (term_by text primary)
      unfolding term_by prefixed source_nodes terms
      spends_term_by {primary} h n =
          reads_bind {P = Any} {J = λ t. Spent (n + source_nodes t)}
          (reads_if _ (reads_bind (reads_term_operator n) (λ o p. reads_bind (h (n + 1)) (λ a q. spends_return _ (omega arith)))) (h n)) (λ t p.
          reads_bind (reads_many Spent operand_nodes (is operator) (operand text primary) (spends_operand h) node_limit (n + source_nodes t)) (λ os q.
          spends_return (joined_left t os) (omega (arith, joined_nodes t os))))

      spends_term : (d : ℕ) → Spends source_nodes (term text d)
      unfolding term
      spends_term zero = spends_term_by (spends_primary_by (λ m. reads_refuse over_size (omega arith)) (λ m. reads_refuse over_size (omega arith)))
      spends_term (suc d) =
          spends_term_by
          (spends_primary_by (spends_brackets (sum source_nodes) (spends_separated source_nodes argument_limit _ begins_term (spends_term d)))
          (spends_brackets source_nodes (spends_term d)))

      spends_sides : Spends source_sides (sides text)
      unfolding sides source_sides
      spends_sides n =
          reads_bind (spends_term bracket_limit n) (λ l p. past _ (reads_bind (spends_term bracket_limit (n + source_nodes l)) (λ r q.
          spends_return _ (omega arith))))

      spends_list : Spends (sum source_sides) (sides_list text)
      unfolding sides_list
      spends_list = spends_separated source_sides condition_limit _ _ spends_sides

      module _ (tag : Name) (h : Spelled tag) where
        abbrev GetsEquation : List Sides → Parser Equation → Type 0
        GetsEquation es p = Reads (Spent (0 + sum source_sides es)) p (ReadEquation Spelled Called) (λ e. Always)

        gets_implied : (es : List Sides) → GetsEquation es (implied text tag es)
        unfolding implied source_equation conditions_of
        gets_implied es =
            past _ (reads_bind (spends_sides (0 + sum source_sides es)) (λ c p.
            reads_return _ (λ k i. (record { tag = h; nodes = rw (append-nil es) (omega (arith, i.few)) }, tt))))

        gets_conditional : (e : Sides) → GetsEquation (e ∷ []) (conditional text tag e)
        unfolding conditional source_equation conditions_of sum
        gets_conditional e =
            reads_bind (reads_optional _ _ (spends_list (0 + (source_sides e + 0))) (spends_return [] (omega arith))) (λ w p.
            reads_return _ (λ k i. (record { tag = h; nodes = omega (arith, i.few) }, tt)))

        gets_equation_after : (es : List Sides) → GetsEquation es (equation_after text tag es)
        unfolding equation_after
        gets_equation_after [] = gets_implied []
        gets_equation_after (e ∷ []) = reads_if _ (gets_implied (e ∷ [])) (gets_conditional e)
        gets_equation_after (e ∷ f ∷ es) = gets_implied (e ∷ f ∷ es)

      gets_equation : Gets (ReadEquation Spelled Called) (equation text)
      unfolding equation no_nodes
      gets_equation =
          reads_then {J = Spent 0} (record { reads = λ s i n. (tt, record { told = refl; few = omega arith }, n) })
          (past _ (reads_bind reads_name (λ tag h. past _ (reads_bind (spends_list 0) (λ es p. gets_equation_after tag h es)))))

      -- ---- modules

      gets_fresh_name : (taken : List Name) → Gets Spelled (fresh_name text taken)
      unfolding fresh_name refuse
      gets_fresh_name taken = record {
        reads = λ s i n.
            after_read Spelled (λ a. Always) Spelled (λ a. Always) (name text s) _ ((reads_name {I = Always}).reads s i n)
            (λ w t p j k. by_cases (Gives Spelled (λ a. Always)) _ _ _ (λ e. omega arith) (λ e. (p, j, k)));
      }

      gets_module : (taken : List Name) → Gets (ReadModule Spelled Called) (a_module text taken)
      unfolding a_module imports variables
      gets_module taken =
          past _ (reads_bind (gets_fresh_name taken) (λ n a. past _
          (reads_bind (reads_optional _ _ (gets_separated gets_parameter text_size _ _) (gets_return [] tt)) (λ p b.
          reads_bind (reads_optional _ _ gets_exports (gets_return _ no_signature)) (λ e c.
          reads_bind (reads_optional _ _ (gets_listed gets_import import_limit _ _) (gets_return [] none_listed)) (λ i d.
          reads_bind gets_signature (λ h f.
          reads_bind (reads_optional _ _ (gets_some gets_group text_size _) (gets_return [] tt)) (λ v g.
          reads_bind (reads_optional _ _ (gets_some gets_equation text_size _) (gets_return [] tt)) (λ r k.
          past _ (reads_then (reads_this_name n)
          (gets_return _ (record { name = a; parameters = b; exports = c; imports = d; hidden = f; groups = g; equations = k }))))))))))))

      gets_modules : (n : ℕ) (taken : List Name) → Gets (Listed (ReadModule Spelled Called) n) (modules text n taken)
      unfolding modules
      gets_modules zero taken = reads_too_many _
      gets_modules (suc n) taken =
          reads_bind (gets_module taken) (λ m h.
          reads_bind (reads_if _ (gets_return [] none_listed) (record { reads = λ s i k. (gets_modules n (m.name ∷ taken)).reads s i k })) (λ ms l.
          gets_return (m ∷ ms) (one_more h l)))

      text_gives : (n : ℕ) (taken : List Name) → Gives (Listed (ReadModule Spelled Called) n) (λ ms. Always) (read text n taken)
      unfolding read
      text_gives n taken =
          by_cases (Gives (Listed (ReadModule Spelled Called) n) (λ ms. Always)) _ _ _ (λ e. (gets_modules n taken).reads _ tt (so.token 0)) (λ e. omega arith)

      pub text_read : (n : ℕ) (taken : List Name) (ms : List Module) (s : State) → read text n taken ≡ done ms s → Listed (ReadModule Spelled Called) n ms
      text_read n taken ms s e = (subst (Gives (Listed (ReadModule Spelled Called) n) (λ ms. Always)) e (text_gives n taken)).0

  -- of both texts
  pub modules_read : ((text : List ℕ) → Named Spelled Called text) → (t : Texts) (ms : List Module) → read_texts t ≡ all_read ms → Every (ReadModule Spelled Called) ms
  modules_read so =
      of_both (Every (ReadModule Spelled Called)) tt (every_append (ReadModule Spelled Called)) (λ text n taken ms s e. (text_read text (so text) n taken ms s e).each_one)

pub text_refused : (text : List ℕ) (n : ℕ) (taken : List Name) → UpToFive (read text n taken)
text_refused text n taken = go (read text n taken) (text_gives Any Any text unasked n taken)
  where
    unasked : Named Any Any text
    unasked = record { token = λ i e f. tt; as_plain = λ w h. tt; as_prefix = λ w h. tt; as_infix = λ w h. tt }

    go : (r : Result (List Module)) → Gives Any Any text (Listed (ReadModule Any Any) n) (λ ms. Always) r → UpToFive r
    go (done ms s) h = tt
    go (refused k p) h = h
