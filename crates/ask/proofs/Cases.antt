-- One law for each way through the code: r and v are callees' answers.
use mathlib.Core.Path.{◌≡◌, refl, sym, ap, ◌∙◌}
use mathlib.Core.Bool.{Bool, true, false, ◌&&◌}
use mathlib.Core.List.{List, []}
use Prim.Native.Nat.{ℕ, ◌^◌, ◌<◌, ◌≤◌}
use native.Mathlib.Omega.{arith}
use mir.Syntax.{w64}
use mir.Val.{Fits}
use borrow.Author.Rules.{rules}
use borrow.Author.Tests.{lt-ltb, le-ltb}
use lib.ListN.{length}
use Rattle.meaning.specs.Lists.{pick}
use Rattle.meaning.specs.Names as Names
use Rattle.meaning.specs.Numbers.{memory_size}
use Rattle.meaning.specs.Texts.{Texts}
use Rattle.meaning.specs.Answer.{memory_after}
use Rattle.text_names.specs.Word.{name_of}
use Rattle.answer.specs.declared.Name.{Name}
use Rattle.answer.specs.Answers.{held}
use Rattle.memory.proofs.Cases.{same_zeros}
use Rattle.module_set.specs.ModuleSet.{holds, nothing}
use Rattle.modules.specs.Modules.{Heads}
use Rattle.ask_decision.specs.Decide as Meaning
use Rattle.ask_decision.specs.Decide.{Why, why, ask_again, unless_against, decide, deciding}
use Rattle.std.specs.Prelude.{Option, Some, None}
use Rattle.ask_objections.specs.declared.Why as Code
use Rattle.ask_objections.specs.Objections as Objections
use Rattle.ask_objections.specs.Objections.{why_of}
use Rattle.ask_walk.specs.Walk.{with_all, against_at, changed_at}
use Rattle.ask_names.specs.Lying.{first_end, first_room, first_size, first_short, first_spoken}
use Rattle.ask.specs.declared.Decision.{Decision}
use Rattle.ask.specs.Decided.{nameless_struct, ask_struct, told, Tells, Decided}
use Rattle.ask.specs.Numbered.{changed_listed}
use Rattle.ask.specs.Lying.{second_end, second_room, first_refused, second_refused, old_within, new_within, new_fits, old_spoken, new_spoken}
use Rattle.ask.specs.Lying.{same_spoken, tape_within}

-- ---- the answers

pub nameless_so : (answer set : ℕ) (in_new in_library : Bool) (number place : ℕ) (n : Name) → n ≡ held []
    → record { answer = answer; set = set; reason = 0; by = n; name = n; in_new = in_new; in_library = in_library; number = number; place = place }
    ≡ nameless_struct answer set in_new in_library number place
nameless_so answer set in_new in_library number place n e = rw e

ask_tells : (w : Why) (r : Decision) → r ≡ ask_struct w.reason (held w.by) (held w.name) → Tells r (ask_again w)
unfolding told
ask_tells w r e = record { so = e; first = tt }

pub asked_absent : (reason : ℕ) (n : Names.Name) (by blank : Name) (r : Decision) → by ≡ held n → blank ≡ held [] → r ≡ ask_struct reason by blank
    → Tells r (ask_again (why reason n []))
asked_absent reason n by blank r e f g = ask_tells (why reason n []) r (g ∙ (λ i. ask_struct reason (e i) (f i)))

module _
    (text other : List ℕ) (w : Code.Why) (by name : Name) (r : Decision) (e : by ≡ held (name_of text w.by)) (g : r ≡ ask_struct w.reason by name)
  where
    pub told_new : w.new_name ≡ true → name ≡ held (name_of other w.name) → Tells r (ask_again (why_of text other w))
    unfolding why_of pick
    told_new q f = rw q (ask_tells (why w.reason (name_of text w.by) (name_of other w.name)) r (g ∙ (λ i. ask_struct w.reason (e i) (f i))))

    pub told_old : w.new_name ≡ false → name ≡ held (name_of text w.name) → Tells r (ask_again (why_of text other w))
    unfolding why_of pick
    told_old q f = rw q (ask_tells (why w.reason (name_of text w.by) (name_of text w.name)) r (g ∙ (λ i. ask_struct w.reason (e i) (f i))))

pub ruleset answering = (nameless_so, asked_absent, told_new, told_old, rules)

-- ---- the decision

module _ (text tape : List ℕ) (h : Heads) (other new : List ℕ) (h' : Heads) (asked : Names.Name) (set set' : ℕ → Bool) where
  abbrev decided : Meaning.Decision
  decided = unless_against (against_at text tape h other new h' asked set set') (changed_at text tape h other new h' set set')

  module _ (o : Option Code.Why) (e : Objections.told text other o ≡ against_at text tape h other new h' asked set set') (r : Decision) where
    pub set_against : (w : Code.Why) → o ≡ Some w → Tells r (ask_again (why_of text other w)) → Tells r decided
    unfolding Objections.told unless_against
    set_against w q t = rw (sym e ∙ ap (Objections.told text other) q) t

    pub set_kept : (first : ℕ) → o ≡ None → h'.count ≤ 64 → Fits w64 first → holds first ≡ with_all nothing (changed_at text tape h other new h' set set')
        → r ≡ nameless_struct 0 first false false 0 0 → Tells r decided
    unfolding Objections.told unless_against told changed_at
    set_kept first q few f g z =
        rw (sym e ∙ ap (Objections.told text other) q)
        (rw z (record { so = refl; first = record { fits = f.fits; so = g ∙ changed_listed _ _ set' h'.count few } }))

pub both_reached : (text tape : List ℕ) (h : Heads) (other new : List ℕ) (h' : Heads) (asked : Names.Name) (set set' p p' : ℕ → Bool) (r : Decision)
    → set ≡ p → set' ≡ p' → Tells r (decided text tape h other new h' asked set set') → Tells r (decided text tape h other new h' asked p p')
both_reached text tape h other new h' asked set set' p p' r e f t = rw (← e, ← f) t

pub ruleset deciding_sets = (set_against, set_kept, both_reached, rules)

-- ---- two tapes in one memory

pub word_fits : (n : ℕ) → n < 2 ^ 64 → Fits w64 n
word_fits n l = record { fits = l }

pub ruleset reading_first = (first_end, first_room, first_refused, first_size, first_short, first_spoken, rules)

-- both texts are the same, where p says whether the libraries are
module _ (p a : Bool) (e : p ≡ a) where
  pub first_same : (b r : Bool) → p ≡ true → r ≡ b → r ≡ (a && b)
  first_same b r q f = rw (sym e ∙ q) f

  pub first_otherwise : (b : Bool) → p ≡ false → false ≡ (a && b)
  first_otherwise b q = rw (sym e ∙ q) refl

pub ruleset comparing_texts = (first_same, first_otherwise, same_spoken, tape_within, rules)

pub ruleset reading_second = (first_end, second_end, second_room, second_refused, old_within, new_within, new_fits, word_fits, old_spoken, new_spoken, rules)

-- ---- the whole call

module _ (w : List ℕ) (size : ℕ) (e : size ≡ memory_size) where
  module _ (asked : Names.Name) (old new : Texts) (r : Decision) where
    pub decided_short : (w' : List ℕ) → length w < size → w' ≡ memory_after w → r ≡ nameless_struct 19 0 false false 0 0
        → Decided r w' (deciding w asked old new)
    unfolding deciding told pick
    decided_short w' l z q =
        let short = lt-ltb (length w) memory_size (omega (arith, e, l)) in
        record { decision = rw short (record { so = q; first = tt }); memory_so = z }

    pub decided_whole : (w₁ w₂ : List ℕ) → size ≤ length w → Tells r (decide asked old new) → length w₁ ≡ length w → w₂ ≡ memory_after w₁
        → Decided r w₂ (deciding w asked old new)
    unfolding deciding pick
    decided_whole w₁ w₂ l t s z =
        let enough = le-ltb (length w) memory_size (omega (arith, e, l)) in
        record { decision = rw enough t; memory_so = z ∙ same_zeros w₁ w s }

pub ruleset calling = (decided_short, decided_whole, rules)
