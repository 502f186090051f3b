-- One listing for each accepted normal form: neither depends on the order in which things were found, and from the listing the normal form
-- can be told, but for the module and the position of an equation, and the module of a parameter without items, which are not written
-- (`not_told`, `home_not_told` in promises_instances).
use Rattle.std.specs.Prelude.{◌≡◌, ℕ, List, [], map}
use Rattle.std.proofs.Math.Path.{refl}
use Rattle.std.proofs.Common.{sym, ap, ◌∙◌}
use Rattle.meaning.specs.Laws.{by_cases}
use Rattle.meaning.specs.Names.{Name}
use Rattle.meaning.specs.Syntax.{Module}
use Rattle.meaning.specs.Normal.{Normal}
use Rattle.meaning.specs.Written.{in_order}
use Rattle.meaning.specs.Listing.{Line, lines_text, listing_lines}
use Rattle.meaning.specs.Texts.{Texts, Reading, all_read, refused_in, read_texts}
use Rattle.meaning.specs.Reached.{Ended, normalised, refused_at, normalise}
use Rattle.meaning.specs.Answer.{Answer, listing, refusal, of_ended, unread, of_read, within, answer}
use Rattle.promises.specs.ListingLaws.{NonEmpty}
use Rattle.promises.specs.SameListing.{SameNormal, one_listing}
use Rattle.promises.specs.WellTyped.{WellTyped}
use Rattle.promises.specs.TermsTold.{content}
use Rattle.promises.specs.SoundEvaluation.{Accepted, AcceptedCall, one_normal_form}
use Rattle.promises.specs.AcceptedForms.{accepted_one_order, found_same, one_content, one_parameters, one_visible, same_itself, same_then, told_slot}
use Rattle.promises.specs.PlainText.{accepted_texts}

-- ---- the two halves of "one listing", for whatever is accepted

-- a normal form with the items and equations of an accepted one, found in whatever order, has its listing
pub accepted_one_listing : (asked : Name) (k n : Normal) → Accepted k → SameNormal k n
    → lines_text (listing_lines asked k) ≡ lines_text (listing_lines asked (in_order n))
accepted_one_listing asked k n a s =
    ap (λ x. lines_text (listing_lines asked x)) a.ordered ∙ one_listing a.found n (same_then a.found k n (found_same k a) s) a.told asked

-- two accepted ones with the same items and equations are one
pub accepted_one_form : (k n : Normal) → Accepted k → Accepted n → SameNormal k n → k ≡ n
accepted_one_form k n a b s = accepted_one_order k n a s ∙ sym (accepted_one_order n n b (same_itself n))

-- a call that is read and accepted: its texts, their modules, the count, and the normal form
pub record AcceptedTexts (asked : Name) (n : Normal) : Type 0 where
  pub texts : Texts
  pub modules_read : List Module
  pub count : ℕ
  pub is_read : read_texts texts ≡ all_read modules_read
  pub is_accepted : normalise asked modules_read ≡ normalised count n

pub accepted_call : (asked : Name) (n : Normal) → AcceptedTexts asked n → AcceptedCall asked n
accepted_call asked n a = accepted_texts a.texts asked a.modules_read a.count n a.is_read a.is_accepted

-- every equation of it is well typed, over its own items
pub accepted_well_typed : (asked : Name) (n : Normal) → AcceptedTexts asked n → WellTyped n
accepted_well_typed asked n a = (accepted_call asked n a).normal.whole.typed

-- the same parameters but for the modules of those without items, visible items, hidden items, and equations but for their modules and
-- positions: tags, terms and types are the same, in the same order
pub record SameForm (m m' : Name) (n n' : Normal) : Type 0 where
  pub asked : m ≡ m'
  pub parameters : map (told_slot n.visible) n.visible.parameters ≡ map (told_slot n'.visible) n'.visible.parameters
  pub visible : n.visible.items ≡ n'.visible.items
  pub hidden : n.hidden.items ≡ n'.hidden.items
  pub equations : map content n.hidden.equations ≡ map content n'.hidden.equations

-- two accepted calls with one listing asked for one module, and have one normal form, as far as document 01 writes it
pub accepted_told : (asked asked' : Name) (n n' : Normal) → AcceptedTexts asked n → AcceptedTexts asked' n'
    → lines_text (listing_lines asked n) ≡ lines_text (listing_lines asked' n') → SameForm asked asked' n n'
accepted_told asked asked' n n' t t' e =
    let a = accepted_call asked n t in
    let a' = accepted_call asked' n' t' in
    let s = one_normal_form asked asked' n n' a a' e in
    record {
      asked = s.asked;
      parameters = one_parameters asked asked' n n' a.normal a'.normal s;
      visible = one_visible asked asked' n n' a.normal a'.normal s;
      hidden = s.hidden;
      equations = one_content asked asked' n n' a.normal a'.normal s;
    }

-- ---- the same of answers, whatever memory and output are lent

-- what holds of no lines and of the listing of what is accepted holds of the lines of an answer
module _ (asked : Name) (texts : Texts) (P : List Line → Type 0) (no_lines : P [])
    (lists : (n : Normal) → AcceptedTexts asked n → P (listing_lines asked n)) where
  abbrev Holds : Answer → Type 0
  Holds r = P r.lines

  pub ended_so : (ms : List Module) → read_texts texts ≡ all_read ms → Holds (of_ended asked (normalise asked ms))
  unfolding of_ended refusal
  ended_so ms r = go (normalise asked ms) refl
    where
      go : (e : Ended) → normalise asked ms ≡ e → Holds (of_ended asked e)
      go (normalised count n) e = lists n (record { texts = texts; modules_read = ms; count = count; is_read = r; is_accepted = e })
      go (refused_at number count m w) e = no_lines

  read_so : (r : Reading) → read_texts texts ≡ r → Holds (of_read asked r)
  unfolding of_read unread
  read_so (all_read ms) e = ended_so ms e
  read_so (refused_in l number at) e = no_lines

  pub answer_so : (memory output : ℕ) → Holds (answer memory output asked texts)
  unfolding answer within refusal
  answer_so memory output =
      by_cases Holds _ _ _ (λ b. no_lines) (λ b. by_cases Holds _ _ _ (λ c. read_so (read_texts texts) refl) (λ c. no_lines))

-- lines that list the normal form of an accepted call
pub record Listed (asked : Name) (ls : List Line) : Type 0 where
  pub normal : Normal
  pub accepted : AcceptedTexts asked normal
  pub lists : ls ≡ listing_lines asked normal

-- those of every answer that has lines
pub answer_listed : (asked : Name) (texts : Texts) (memory output : ℕ) → NonEmpty (answer memory output asked texts).lines
    → Listed asked (answer memory output asked texts).lines
answer_listed asked texts =
    answer_so asked texts (λ (ls : List Line). NonEmpty ls → Listed asked ls) (λ h. absurd h)
    (λ n a h. record { normal = n; accepted = a; lists = refl })

-- two answers with one listing have one normal form, as far as document 01 writes it
pub answers_told : (asked asked' : Name) (r r' : Answer) (l : Listed asked r.lines) (l' : Listed asked' r'.lines) → listing r ≡ listing r'
    → SameForm asked asked' l.normal l'.normal
answers_told asked asked' r r' l l' e =
    accepted_told asked asked' l.normal l'.normal l.accepted l'.accepted
    (sym (ap lines_text l.lists) ∙ e ∙ ap lines_text l'.lists)
