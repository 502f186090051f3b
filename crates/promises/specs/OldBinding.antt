-- Binding as it was before its mistakes were told apart (document 02, Five): 16 for each, with the formal's name alone. It stands here, with a
-- call by that rule, for the statements of Mistakes.antt.
use Rattle.std.specs.Prelude.{◌≡◌, refl, ℕ, ◌+◌, Bool, true, false, not, ◌&&◌, List, [], ◌∷◌, ◌++◌, eqb, ltb, length, drop}
use Prim.Native.String.{String}
use Rattle.std.proofs.Math.Option.{Option, none, some}
use Rattle.meaning.specs.Lists.{pick, any}
use Rattle.meaning.specs.Names.{bytes, Name, slice, member}
use Rattle.meaning.specs.Numbers.{text_size, memory_size, program_output, accepted, not_allowed, over_size, asked_absent, bad_parameter, lent_short}
use Rattle.meaning.specs.Syntax.{Pair, Clause, renamed_by, bound_by, Import, Module}
use Rattle.meaning.specs.Origins.{Shape, sort_shape, function_shape, variable_shape, same_shape, Item}
use Rattle.meaning.specs.Written.{decimal}
use Rattle.meaning.specs.Normal.{Visible, Normal, empty, sort_names, is_called, slot_names, formals, unite, move_type, move}
use Rattle.meaning.specs.Checks.{lone, Outcome, fine, stop, ◌>>=◌, ◌>>◌, unless, checked}
use Rattle.meaning.specs.Clauses.{rename, new_sort, new_function, sorts_right, unpaired, without}
use Rattle.meaning.specs.Evaluate.{Evaluated, named_by, names_right, declared_once, normal_of, united, joined_own}
use Rattle.meaning.specs.Reached.{Placed, reached, Ended, normalised, refused_at, end_or, total_of, module_names, short_or_blank}
use Rattle.meaning.specs.Texts.{Texts, two_texts, Reading, all_read, refused_in, read_texts}
use Rattle.meaning.specs.Answer.{Answer, refusal, of_ended, unread, within, place_text, request, request_end, has_request, library_too_long, texts_in}
use Rattle.meaning.specs.Listing.{line, lines_text}
use Rattle.meaning.specs.Opened.{all_opened}
use Rattle.promises.specs.Given.{bad_binding}

-- ---- the rule as it was: 16 for every mistake, with the formal's name alone

module _ (formal : List Item) (rs : List Pair) (whole actual : Visible) where
  unfoldable pub shape_right : Name → Shape → Bool
  shape_right new sort_shape = member new (sort_names actual)
  shape_right new (variable_shape s) = true
  shape_right new (function_shape t) =
      sorts_right formal rs whole actual t
      && any (λ (i : Item). is_called new i
      && same_shape (function_shape (move_type (new_sort formal rs) (new_function formal rs) t)) i.shape) actual.items

  -- a name of both kinds needs both
  unfoldable pub right_pair : Pair → Bool
  right_pair r =
      any (is_called r.old) formal
      && not (any (λ (i : Item). is_called r.old i && not (shape_right r.new i.shape)) formal)

  -- the first pair that is wrong, or whose formal name was paired before
  unfoldable pub wrong_pair : List Name → List Pair → Option Name
  wrong_pair seen [] = none
  wrong_pair seen (x ∷ xs) =
      let more = wrong_pair (x.old ∷ seen) xs in pick (right_pair x && not (member x.old seen)) more (some x.old)

unfoldable pub bound_before : Name → List Pair → Normal → Normal → Outcome Normal
bound_before p rs n actual =
    let formal = formals p n.visible in
    let σ = new_sort formal rs in
    let φ = new_function formal rs in
    do
      unless bad_binding (wrong_pair formal rs n.visible actual.visible [] rs)
      unless bad_binding (unpaired formal rs)
      checked (unite (move σ φ (without p n)) actual)

unfoldable pub bind_before : Name → List Pair → Normal → Normal → Outcome Normal
bind_before p rs n actual =
    let r = bound_before p rs n actual in pick (member p (slot_names n.visible.parameters)) r (stop bad_parameter (lone p))

-- ---- a call by that rule

unfoldable pub clause_before : List Evaluated → Clause → Normal → Outcome Normal
clause_before env (renamed_by rs) n = rename rs n
clause_before env (bound_by p rs m) n = bind_before p rs n (normal_of env m)

unfoldable pub clauses_before : List Evaluated → List Clause → Normal → Outcome Normal
clauses_before env [] n = fine n
clauses_before env (c ∷ cs) n = clause_before env c n >>= λ k. clauses_before env cs k

unfoldable pub expressions_before : List Evaluated → List Import → Outcome (List Normal)
expressions_before env [] = fine []
expressions_before env (i ∷ is) = do
  n ← clauses_before env i.clauses (normal_of env i.name)
  ns ← expressions_before env is
  fine (n ∷ ns)

unfoldable pub evaluate_before : List Name → List Evaluated → Placed → Outcome Normal
evaluate_before declared env x = do
  names_right declared x.earlier (named_by x.self)
  declared_once x.self
  n ← expressions_before env x.self.imports >>= λ ns. united empty ns
  joined_own x.number (total_of env) x.self n

unfoldable pub in_turn_before : List Name → List Evaluated → Normal → List Placed → Ended
in_turn_before declared env last [] = normalised (length env) last
in_turn_before declared env last (x ∷ xs) =
    end_or (length env + 1) x.self.name (λ n. in_turn_before declared (record { name = x.self.name; normal = n } ∷ env) n xs)
    (evaluate_before declared env x)

-- the answer by any way to evaluate modules in turn
unfoldable pub normalise_by : (List Name → List Placed → Ended) → Name → List Module → Ended
normalise_by turns asked ms =
    let r = turns (module_names ms) (reached asked ms) in
    pick (member asked (module_names ms)) r (refused_at asked_absent 0 asked (lone (short_or_blank asked)))

unfoldable pub of_read_by : (List Name → List Placed → Ended) → Name → Reading → Answer
of_read_by turns asked (all_read ms) = of_ended asked (normalise_by turns asked ms)
of_read_by turns asked (refused_in in_library number at) = unread in_library number at

unfoldable pub answer_by : (List Name → List Placed → Ended) → ℕ → ℕ → Name → Texts → Answer
answer_by turns memory_lent output_lent asked t =
    let r = within output_lent asked (of_read_by turns asked (read_texts t)) in
    pick (ltb memory_lent memory_size) (refusal lent_short 0 asked (lone []) 0) r

abbrev pub turns_before : List Name → List Placed → Ended
turns_before declared xs = in_turn_before declared [] empty xs

-- the answer by the rule as it was
abbrev pub answer_before : ℕ → ℕ → Name → Texts → Answer
answer_before = answer_by turns_before

-- and to an input, whatever answers
unfoldable pub answer_to_by : (ℕ → ℕ → Name → Texts → Answer) → ℕ → ℕ → List ℕ → Answer
answer_to_by answering memory_lent output_lent input =
    let e = request_end input in
    let asked = pick (has_request input) (slice input (length request) e) [] in
    let rest = drop (e + 1) input in
    let told = answering memory_lent output_lent asked (texts_in rest) in
    let read = pick (library_too_long rest) (unread true over_size text_size) told in
    let r = pick (has_request input) read (unread false not_allowed 0) in
    pick (ltb memory_lent memory_size) (refusal lent_short 0 asked (lone []) 0) r

-- a refusal was printed with one name
unfoldable pub printed_before : Answer → List ℕ
printed_before r =
    let told = line "answer" (decimal r.number) ∷ line "modules" (decimal r.modules) ∷ [] in
    let refused_lines = line "module" r.evaluating ∷ line "name" r.culprit.name ∷ line "at" (place_text r) ∷ [] in
    lines_text (told ++ pick (eqb r.number accepted) r.lines refused_lines)

unfoldable pub asfnorm_before : List ℕ → List ℕ
asfnorm_before input = printed_before (answer_to_by answer_before memory_size program_output input)

-- 16 for a wrong pair, and for a formal without one
abbrev sorts_bound_by : String → Answer
sorts_bound_by pairs =
    answer_before memory_size 0 (bytes "N")
    (two_texts []
    (bytes "module L begin parameters P begin sorts X, Z end P end L module N begin imports L { P bound by [" ++ bytes pairs
    ++ bytes "] to L } end N"))

sixteen : (sorts_bound_by "X->Y" ≡ refusal 16 2 (bytes "N") (lone (bytes "X")) 0)
    × (sorts_bound_by "X->X" ≡ refusal 16 2 (bytes "N") (lone (bytes "Z")) 0)
unfolding all_opened shape_right right_pair wrong_pair bound_before bind_before clause_before clauses_before expressions_before evaluate_before in_turn_before normalise_by of_read_by answer_by
sixteen = (refl, refl)
