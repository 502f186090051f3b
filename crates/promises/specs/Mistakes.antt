-- Which binding mistake (document 02, Five): where 16 was told of a formal, one of 22 to 27 is told of it, and every other answer is what it
-- was, byte for byte.
use Rattle.std.specs.Prelude.{◌≡◌, ◌⊎◌, ℕ, ◌+◌, ◌≤◌, false, ◌&&◌, length}
use Rattle.std.proofs.Math.Path.{refl, ap, subst}
use Rattle.std.proofs.Common.{sym, ◌∙◌, arith}
use Rattle.std.proofs.Math.Logic.{inl, inr}
use Rattle.std.proofs.Math.Bool.{Bool, true, not}
use Rattle.std.proofs.lemmas.Bool.{false≢true, lt-leb, not-true}
use Rattle.std.proofs.Math.Option.{Option, none, some}
use mathlib.Core.List.{List, [], ◌∷◌}
use Rattle.std.proofs.Math.Dec.{lit≤}
use Rattle.meaning.specs.Laws.{by_cases}
use Rattle.meaning.specs.Lists.{pick, keep, any}
use Rattle.meaning.specs.Names.{Name, same, member}
use Rattle.meaning.specs.Numbers.{memory_size, program_output, formal_absent, formal_twice, actual_absent, other_kind, other_type, formal_unpaired, lent_short}
use Rattle.meaning.specs.Syntax.{Pair, Clause, renamed_by, bound_by, Import}
use Rattle.meaning.specs.Origins.{Shape, sort_shape, function_shape, variable_shape, is_sort, is_function, Item}
use Rattle.meaning.specs.Written.{shape_rank}
use Rattle.meaning.specs.Normal.{Visible, Normal, empty, names_in, sorts_among, sort_names, is_called, formals}
use Rattle.meaning.specs.Checks.{Culprit, lone, Outcome, fine, stop, ◌>>=◌, ◌>>◌, Check, unless, needs, checked, each_beside}
use Rattle.meaning.specs.Clauses.{rename, sorts_right, kind_right, type_right, all_right, pair_right, pairs_right, unpaired, bound_to, bind}
use Rattle.meaning.specs.Evaluate.{Evaluated, named_by, names_right, declared_once, normal_of, clause, clauses, expressions, united, imported, joined_own, evaluate}
use Rattle.meaning.specs.Reached.{Placed, reached, Ended, end_or, total_of, in_turn, module_names, normalise}
use Rattle.meaning.specs.Texts.{Texts, Reading, all_read, refused_in, read_texts}
use Rattle.meaning.specs.Answer.{Answer, refusal, of_ended, unread, of_read, within, answer, tells_actual, names_told, printed_lines, printed, answer_to, asfnorm}
use Rattle.meaning.specs.OrderLaws.{Every, any_none}
use Rattle.laws.specs.Decides.{both_true, shapes_decided}
use Rattle.laws.specs.EveryLaws.{every_so, every_keep, any_found, any_passes, every_member}
use Rattle.laws.specs.Outcomes.{Gives}
use Rattle.promises.specs.Told.{SoundVisible}
use Rattle.promises.specs.Sound.{no_variable}
use Rattle.promises.specs.TypedBinding.{second_true}
use Rattle.promises.specs.SoundEvaluation.{Whole, WholeEnv, normal_of_whole, PlainClause, clause_whole, PlainModule, imports_plain, Accepted, evaluated_accepted, reached_plain}
use Rattle.promises.specs.PlainText.{read_plain}
use Rattle.promises.specs.Counts.{BindingMistake, OtherNumber, OtherRefusal, IfRefused, checked_from, rename_from, united_from, names_right_from, declared_once_from, joined_own_from, refusal_within}
use Rattle.promises.specs.ReadNumbers.{refused_low}
use Rattle.promises.specs.Given.{never_sixteen, bad_binding}
use Rattle.promises.specs.TwoCalls.{pick_both, evaluated}
use Rattle.promises.specs.OldBinding.{shape_right, right_pair, wrong_pair, bound_before, bind_before, clause_before, clauses_before, expressions_before, evaluate_before, in_turn_before, normalise_by, of_read_by, answer_by, turns_before, answer_before, answer_to_by, printed_before, asfnorm_before}

-- ---- what was told, and what is told

-- k was told with w, and j is told with v: the same, none of 22 to 27; or 16, and one of these with the same formal
abbrev pub Told : ℕ → Culprit → ℕ → Culprit → Type 0
Told k w j v = ((k ≡ j) × (w ≡ v) × (j ≤ lent_short)) ⊎ ((k ≡ bad_binding) × (w ≡ lone v.name) × BindingMistake j v)

abbrev pub Retold : {A : Type 0} → Outcome A → Outcome A → Type 0
Retold (fine a) (fine b) = a ≡ b
Retold (fine a) (stop j v) = ⊥
Retold (stop k w) (fine b) = ⊥
Retold (stop k w) (stop j v) = Told k w j v

up_to_nineteen : (k : ℕ) → OtherNumber k → k ≤ lent_short
up_to_nineteen k (inl h) = omega (arith, h.1)
up_to_nineteen k (inr h) = omega (arith, h.1)

-- what is not of a binding's pairs
retold_same : {A : Type 0} (o : Outcome A) → IfRefused OtherRefusal o → Retold o o
retold_same (fine a) h = refl
retold_same (stop k w) h = inl (refl, refl, up_to_nineteen k h.0)

retold_bound : {A B : Type 0} (a b : Outcome A) (f g : A → Outcome B) → Retold a b → ((x : A) → b ≡ fine x → Retold (f x) (g x))
    → Retold (a >>= f) (b >>= g)
unfolding ◌>>=◌
retold_bound (fine x) (fine y) f g h r = subst (λ z. Retold (f z) (g y)) (sym h) (r y refl)
retold_bound (fine x) (stop j v) f g h r = absurd h
retold_bound (stop k w) (fine y) f g h r = absurd h
retold_bound (stop k w) (stop j v) f g h r = h

retold_then : {A B : Type 0} (c d : Outcome A) (a b : Outcome B) → Retold c d → Retold a b → Retold (c >> a) (d >> b)
unfolding ◌>>◌
retold_then (fine x) (fine y) a b h r = r
retold_then (fine x) (stop j v) a b h r = absurd h
retold_then (stop k w) (fine y) a b h r = absurd h
retold_then (stop k w) (stop j v) a b h r = h

-- ---- a pair was wrong where it is now

-- all that pass p pass s, where s is k and t: they pass k, and they pass t
all_both : {A : Type 0} (p k t s : A → Bool) → ((x : A) → s x ≡ (k x && t x)) → (xs : List A)
    → not (any (λ (x : A). p x && not (s x)) xs) ≡ (not (any (λ (x : A). p x && not (k x)) xs) && not (any (λ (x : A). p x && not (t x)) xs))
unfolding any pick
all_both p k t s both [] = refl
all_both p k t s both (x ∷ xs) = rw (both x) (go (p x) (k x) (t x) _ _ _ (all_both p k t s both xs))
  where
    go : (b c d u v w : Bool) → not u ≡ (not v && not w)
        → not (pick (b && not (c && d)) true u) ≡ (not (pick (b && not c) true v) && not (pick (b && not d) true w))
    go false c d u v w h = h
    go true true true u v w h = h
    go true true false u true w h = refl
    go true true false u false w h = refl
    go true false d u v w h = refl

implied : (p q : Bool) → (q ≡ true → p ≡ true) → q ≡ (p && q)
implied true q h = refl
implied false true h = sym (h refl)
implied false false h = refl

and_true : (b : Bool) → b ≡ (b && true)
and_true true = refl
and_true false = refl

-- a sort is called so, and so something is
sort_there : (w : Name) (is : List Item) → member w (names_in (sorts_among is)) ≡ true → any (is_called w) is ≡ true
unfolding names_in sorts_among keep member any is_called pick
sort_there w [] e = e
sort_there w (i ∷ is) e = go (is_sort i.shape) (same w i.name) refl e (sort_there w is)
  where
    go : (b c : Bool) → same w i.name ≡ c → member w (names_in (pick b (i ∷ sorts_among is) (sorts_among is))) ≡ true
        → (member w (names_in (sorts_among is)) ≡ true → any (is_called w) is ≡ true) → pick c true (any (is_called w) is) ≡ true
    go b true q e h = refl
    go true false q e h = h (sym (ap (λ (c : Bool). pick c true (member w (names_in (sorts_among is)))) q) ∙ e)
    go false false q e h = h e

-- a pair, and those after it
one_retold : (r : Pair) (a b c d e : Bool) (more : Option Name) (now : Check) → (a ≡ true → d ≡ true → c ≡ true)
    → Retold (unless bad_binding more) now
    → let both : Culprit = record { name = r.old; actual = r.new } in
    let types = needs other_kind both d >> needs other_type both e in
    let pair = needs formal_absent both a >> (needs formal_twice both b >> (needs actual_absent both c >> types)) in
    Retold (unless bad_binding (pick ((a && (d && e)) && b) more (some r.old))) (pair >> now)
unfolding unless needs pick ◌>>◌
one_retold r false b c d e more now h k = inr (refl, refl, inl (lit≤ tt, lit≤ tt))
one_retold r true false c false e more now h k = inr (refl, refl, inl (lit≤ tt, lit≤ tt))
one_retold r true false c true false more now h k = inr (refl, refl, inl (lit≤ tt, lit≤ tt))
one_retold r true false c true true more now h k = inr (refl, refl, inl (lit≤ tt, lit≤ tt))
one_retold r true true false false e more now h k = inr (refl, refl, inl (lit≤ tt, lit≤ tt))
one_retold r true true false true e more now h k = absurd (false≢true (h refl refl))
one_retold r true true true false e more now h k = inr (refl, refl, inl (lit≤ tt, lit≤ tt))
one_retold r true true true true false more now h k = inr (refl, refl, inl (lit≤ tt, lit≤ tt))
one_retold r true true true true true more now h k = k

module _ (formal : List Item) (rs : List Pair) (whole actual : Visible) where
  abbrev kind_of : Name → Shape → Bool
  kind_of = kind_right actual

  abbrev type_of : Name → Shape → Bool
  type_of = type_right formal rs whole actual

  -- a function of the type is a function
  shape_both : (w : Name) (s : Shape) → shape_right formal rs whole actual w s ≡ (kind_of w s && type_of w s)
  unfolding shape_right kind_right type_right is_function
  shape_both w sort_shape = and_true (member w (sort_names actual))
  shape_both w (variable_shape s) = refl
  shape_both w (function_shape t) = implied (kind_of w (function_shape t)) (type_of w (function_shape t)) (λ e.
      let j = any_found _ actual.items (both_true (sorts_right formal rs whole actual t) _ e).1 in
      let b = both_true (is_called w j.0) _ j.2 in
      let f : is_function j.0.shape ≡ true = ap is_function (sym (shapes_decided.equal _ _ b.1)) in
      any_passes _ actual.items j.0 j.1 (rw b.0 f))

  -- what has a formal's kind is there: no formal is a variable
  kind_there : (w : Name) (s : Shape) → shape_rank s ≤ 1 → kind_of w s ≡ true → any (is_called w) actual.items ≡ true
  unfolding kind_right sort_names
  kind_there w sort_shape h e = sort_there w actual.items e
  kind_there w (variable_shape r) h e = absurd (no_variable (variable_shape r) r h refl)
  kind_there w (function_shape t) h e =
      let j = any_found _ actual.items e in any_passes (is_called w) actual.items j.0 j.1 (both_true (is_called w j.0) _ j.2).0

  module _ (ranks : Every (λ i. shape_rank i.shape ≤ 1) formal) where
    actual_found : (r : Pair) → any (is_called r.old) formal ≡ true → all_right formal kind_of r ≡ true
        → any (is_called r.new) actual.items ≡ true
    unfolding all_right
    actual_found r there right =
        let i = any_found (is_called r.old) formal there in
        let wrong : Item → Bool = λ j. is_called r.old j && not (kind_of r.new j.shape) in
        let here = every_member (λ j. wrong j ≡ false) formal (any_none wrong formal (not-true (any wrong formal) right)) i.0 i.1 in
        kind_there r.new i.0.shape (every_member (λ j. shape_rank j.shape ≤ 1) formal ranks i.0 i.1)
        (second_true (is_called r.old i.0) _ i.2 here)

    pairs_retold : (seen : List Name) (xs : List Pair)
        → Retold (unless bad_binding (wrong_pair formal rs whole actual seen xs)) (pairs_right formal rs whole actual seen xs)
    unfolding wrong_pair right_pair pairs_right pair_right all_right unless each_beside
    pairs_retold seen [] = refl
    pairs_retold seen (x ∷ xs) =
        rw (all_both (is_called x.old) (λ (i : Item). kind_of x.new i.shape) (λ (i : Item). type_of x.new i.shape)
        (λ (i : Item). shape_right formal rs whole actual x.new i.shape) (λ i. shape_both x.new i.shape) formal)
        (one_retold x _ _ _ _ _ _ _ (actual_found x) (pairs_retold (x.old ∷ seen) xs))

-- ---- binding, and what follows from it

unpaired_retold : (o : Option Name) → Retold (unless bad_binding o) (unless formal_unpaired o)
unfolding unless
unpaired_retold none = refl
unpaired_retold (some w) = inr (refl, refl, inr (refl, refl))

bind_retold : (p : Name) (rs : List Pair) (n actual : Normal) → Whole n → Retold (bind_before p rs n actual) (bind p rs n actual)
unfolding bind_before bind bound_before bound_to formals
bind_retold p rs n actual whole =
    let v = n.visible in
    let formal = formals p v in
    let ranks =
    every_so SoundVisible (λ i. shape_rank i.shape ≤ 1) formal (λ i s. s.kind) (every_keep SoundVisible _ v.items whole.sound.visible) in
    pick_both Retold _ _ _ _ _
    (retold_then _ _ _ _ (pairs_retold formal rs v actual.visible ranks [] rs)
    (retold_then _ _ _ _ (unpaired_retold (unpaired formal rs)) (retold_same (checked _) (checked_from _))))
    (inl (refl, refl, lit≤ tt))

module _ (env : List Evaluated) (whole : WholeEnv env) where
  clause_retold : (c : Clause) (n : Normal) → Whole n → Retold (clause_before env c n) (clause env c n)
  unfolding clause_before clause
  clause_retold (renamed_by rs) n w = retold_same (rename rs n) (rename_from rs n)
  clause_retold (bound_by p rs m) n w = bind_retold p rs n (normal_of env m) w

  clauses_retold : (cs : List Clause) (n : Normal) → Every PlainClause cs → Whole n → Retold (clauses_before env cs n) (clauses env cs n)
  unfolding clauses_before clauses
  clauses_retold [] n h w = refl
  clauses_retold (c ∷ cs) n h w =
      retold_bound _ _ _ _ (clause_retold c n w)
      (λ k e. clauses_retold cs k h.1 (subst (Gives Whole) e (clause_whole env whole c n h.0 w)))

  expressions_retold : (is : List Import) → Every (λ i. Every PlainClause i.clauses) is
      → Retold (expressions_before env is) (expressions env is)
  unfolding expressions_before expressions
  expressions_retold [] h = refl
  expressions_retold (i ∷ is) h =
      retold_bound _ _ _ _ (clauses_retold i.clauses (normal_of env i.name) h.0 (normal_of_whole env i.name whole))
      (λ n e. retold_bound _ _ _ _ (expressions_retold is h.1) (λ ns f. refl))

  evaluate_retold : (declared : List Name) (x : Placed) → PlainModule x.self → Retold (evaluate_before declared env x) (evaluated declared env x)
  unfolding evaluate_before evaluate imported
  evaluate_retold declared x plain =
      let m = x.self in
      let names = names_right declared x.earlier (named_by m) in
      retold_then names names _ _ (retold_same names (names_right_from declared x.earlier (named_by m)))
      (retold_then (declared_once m) (declared_once m) _ _ (retold_same (declared_once m) (declared_once_from m))
      (retold_bound _ _ _ _
      (retold_bound _ _ _ _ (expressions_retold m.imports (imports_plain m plain)) (λ ns e. retold_same (united empty ns) (united_from empty ns)))
      (λ n e. retold_same (joined_own x.number (total_of env) m n) (joined_own_from x.number (total_of env) m n))))

-- ---- every answer

-- 16 told of a formal, and one of 22 to 27 told of it: of the same module, after as many, with no place and nothing listed
pub record Mistake (before now : Answer) : Type 0 where
  pub number : ℕ
  pub count : ℕ
  pub evaluating : Name
  pub culprit : Culprit
  pub of_binding : BindingMistake number culprit
  pub told_before : before ≡ refusal bad_binding count evaluating (lone culprit.name) 0
  pub told_now : now ≡ refusal number count evaluating culprit 0

abbrev pub RetoldAnswer : Answer → Answer → Type 0
RetoldAnswer before now = ((before ≡ now) × (now.number ≤ lent_short)) ⊎ Mistake before now

module _ (memory_lent output_lent : ℕ) (asked : Name) (texts : Texts) where
  abbrev RetoldEnd : Ended → Ended → Type 0
  RetoldEnd e e' = RetoldAnswer (of_ended asked e) (of_ended asked e')

  one_turn : (c : ℕ) (m : Name) (more more' : Normal → Ended) (o o' : Outcome Normal) → Retold o o'
      → ((n : Normal) → o' ≡ fine n → RetoldEnd (more n) (more' n)) → RetoldEnd (end_or c m more o) (end_or c m more' o')
  unfolding end_or of_ended refusal
  one_turn c m more more' (fine x) (fine y) h r = subst (λ (z : Normal). RetoldEnd (more z) (more' y)) (sym h) (r y refl)
  one_turn c m more more' (fine x) (stop j v) h r = absurd h
  one_turn c m more more' (stop k w) (fine y) h r = absurd h
  one_turn c m more more' (stop k w) (stop j v) (inl h) r = inl (λ i. refusal (h.0 i) c m (h.1 i) 0, h.2)
  one_turn c m more more' (stop k w) (stop j v) (inr h) r = inr (record {
    number = j;
    count = c;
    evaluating = m;
    culprit = v;
    of_binding = h.2;
    told_before = λ i. refusal (h.0 i) c m (h.1 i) 0;
    told_now = refl;
  })

  turns_retold : (declared : List Name) (env : List Evaluated) (last : Normal) (xs : List Placed) → WholeEnv env → Every (λ x. PlainModule x.self) xs
      → RetoldEnd (in_turn_before declared env last xs) (in_turn declared env last xs)
  unfolding in_turn_before in_turn of_ended
  turns_retold declared env last [] s h = inl (refl, lit≤ tt)
  turns_retold declared env last (x ∷ xs) s h =
      one_turn (length env + 1) x.self.name _ _ _ (evaluated declared env x) (evaluate_retold env s declared x h.0)
      (λ n e. turns_retold declared (record { name = x.self.name; normal = n } ∷ env) n xs
      ((subst (Gives Accepted) e (evaluated_accepted declared x.earlier x.number (total_of env) env x.self h.0 s)).whole, s) h.1)

  read_retold : (r : Reading) → read_texts texts ≡ r → RetoldAnswer (of_read_by turns_before asked r) (of_read asked r)
  unfolding of_read_by of_read normalise_by normalise reached of_ended refusal unread
  read_retold (all_read ms) q =
      pick_both RetoldEnd _ _ _ _ _
      (turns_retold (module_names ms) [] empty (reached asked ms) tt (reached_plain asked 0 [] ms (read_plain texts ms q)))
      (inl (refl, lit≤ tt))
  read_retold (refused_in l number at) q = inl (refl, omega (arith, refused_low texts l number at q))

  retold_within : (r s : Answer) → RetoldAnswer r s → RetoldAnswer (within output_lent asked r) (within output_lent asked s)
  unfolding within refusal
  retold_within r s (inl h) =
      inl (ap (within output_lent asked) h.0, by_cases (λ (t : Answer). t.number ≤ lent_short) _ _ _ (λ e. h.1) (λ e. lit≤ tt))
  retold_within r s (inr m) =
      inr (record {
        number = m.number;
        count = m.count;
        evaluating = m.evaluating;
        culprit = m.culprit;
        of_binding = m.of_binding;
        told_before = ap (within output_lent asked) m.told_before ∙ refusal_within memory_lent output_lent asked texts bad_binding _ _ _ 0;
        told_now = ap (within output_lent asked) m.told_now ∙ refusal_within memory_lent output_lent asked texts m.number _ _ _ 0;
      })

  pub retold : RetoldAnswer (answer_before memory_lent output_lent asked texts) (answer memory_lent output_lent asked texts)
  unfolding answer_by answer refusal
  retold = pick_both RetoldAnswer _ _ _ _ _ (inl (refl, lit≤ tt)) (retold_within _ _ (read_retold (read_texts texts) refl))

input_retold : (memory_lent output_lent : ℕ) (input : List ℕ)
    → RetoldAnswer (answer_to_by answer_before memory_lent output_lent input) (answer_to memory_lent output_lent input)
unfolding answer_to_by answer_to unread refusal
input_retold memory_lent output_lent input =
    pick_both RetoldAnswer _ _ _ _ _ (inl (refl, lit≤ tt))
    (pick_both RetoldAnswer _ _ _ _ _ (pick_both RetoldAnswer _ _ _ _ _ (inl (refl, lit≤ tt)) (retold memory_lent output_lent _ _)) (inl (refl, lit≤ tt)))

-- ---- which numbers

pub record OneForAnother (r s : Answer) : Type 0 where
  -- 16 exactly where one of 22 to 27 is now
  pub from_sixteen : r.number ≡ bad_binding → BindingMistake s.number s.culprit
  pub to_sixteen : formal_absent ≤ s.number → r.number ≡ bad_binding
  -- which none was before, and 16 is no more
  pub none_before : r.number ≤ lent_short
  pub none_now : s.number ≡ bad_binding → ⊥

one_for_another : (r s : Answer) → RetoldAnswer r s → (s.number ≡ bad_binding → ⊥) → OneForAnother r s
unfolding refusal
one_for_another r s (inl h) never =
    let same : r.number ≡ s.number = ap (λ (t : Answer). t.number) h.0 in
    record {
      from_sixteen = λ e. absurd (never (sym same ∙ e));
      to_sixteen = λ e. absurd (omega (arith, h.1));
      none_before = omega (arith, h.1);
      none_now = never;
    }
one_for_another r s (inr m) never =
    let sixteen : r.number ≡ bad_binding = ap (λ (t : Answer). t.number) m.told_before in
    record {
      from_sixteen = λ e. subst (λ (t : Answer). BindingMistake t.number t.culprit) (sym m.told_now) m.of_binding;
      to_sixteen = λ e. sixteen;
      none_before = omega arith;
      none_now = never;
    }

pub numbers_retold : (memory_lent output_lent : ℕ) (asked : Name) (texts : Texts)
    → OneForAnother (answer_before memory_lent output_lent asked texts) (answer memory_lent output_lent asked texts)
numbers_retold memory_lent output_lent asked texts =
    one_for_another (answer_before memory_lent output_lent asked texts) (answer memory_lent output_lent asked texts)
    (retold memory_lent output_lent asked texts) (never_sixteen memory_lent output_lent asked texts)

-- ---- what is printed

printed_low : (r : Answer) → r.number ≤ lent_short → printed_before r ≡ printed r
unfolding printed_before printed printed_lines names_told tells_actual pick
printed_low r h = rw (lt-leb formal_absent r.number (omega arith))

-- every input: the same bytes, or a binding's mistake
pub printed_retold : (input : List ℕ) → (asfnorm_before input ≡ asfnorm input)
    ⊎ Mistake (answer_to_by answer_before memory_size program_output input) (answer_to memory_size program_output input)
unfolding asfnorm_before asfnorm
printed_retold input = go _ _ (input_retold memory_size program_output input)
  where
    go : (r s : Answer) → RetoldAnswer r s → (printed_before r ≡ printed s) ⊎ Mistake r s
    go r s (inl h) = inl (ap printed_before h.0 ∙ printed_low s h.1)
    go r s (inr m) = inr m
