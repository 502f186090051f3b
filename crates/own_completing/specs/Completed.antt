-- A module's own declarations joined to what it imports, up to room (meaning/specs/Evaluate.antt, `joined_own`): what it asks of places, and what
-- comes of it.
use Rattle.std.specs.Prelude.{◌≡◌, refl, List, ℕ, ◌+◌, ◌-◌, ◌≤◌, length, Result, Ok, Err}
use Rattle.meaning.specs.Syntax.{Module}
use Rattle.meaning.specs.Origins.{ResolvedEquation}
use Rattle.meaning.specs.OrderLaws.{Every}
use Rattle.meaning.specs.Normal.{Normal}
use Rattle.meaning.specs.Written.{in_order}
use Rattle.meaning.specs.Checks.{Outcome, fine, stop, ◌>>=◌, ◌>>◌, Check, Size, size, add_sizes, room, total_room}
use Rattle.meaning.specs.Evaluate.{seen_sorts, joined_visible, own_checks, own_equations, joined_hidden, joined_own}
use Rattle.invariants.specs.Limits.{Limited}
use Rattle.tape.specs.Tape.{flat_module}
use Rattle.form.specs.declared.Refusal.{Refusal}
use Rattle.form.specs.declared.Form.{Form}
use Rattle.form.specs.declared.Block.{Block}
use Rattle.form.specs.Memory.{part, Kept}
use Rattle.form.specs.Forms.{Stands}
use Rattle.form.specs.Blocks.{BlockLaid, Makes, MadeThere, MadeIn}
use Rattle.form.specs.Verdicts.{Made, culprit_of}
use Rattle.own_declarations.specs.Spelled.{Spells}
use Rattle.own_declarations.specs.declared.Own.{Own}
use Rattle.own_items.specs.declared.OwnRows.{OwnRows}
use Rattle.own_items.specs.Joined.{OwnStands}
use Rattle.own_typing.specs.Typed.{Seen}
use Rattle.form_layout.specs.Layout.{joining_block, second_block, Laid}
use Rattle.own_completing.specs.declared.Totals.{Totals}
use Rattle.own_completing.specs.Room.{StillRight, TotalsMeant, in_room}

-- ---- the meaning

-- all that M has, its equations being these
unfoldable pub all_of : Module → Normal → List ResolvedEquation → Normal
all_of m n equations =
    record { visible = joined_visible m n.visible; hidden = joined_hidden m (seen_sorts m n.visible) n.hidden equations }

-- 17, and then 18
unfoldable pub equations_joined : ℕ → Size → Module → Normal → Outcome Normal
equations_joined home total m n =
    own_equations home m (seen_sorts m n.visible) (joined_visible m n.visible) >>= (λ equations. in_room total (all_of m n equations))

-- the checks of its items, its own among them
abbrev pub items_checked : Module → Normal → Check
items_checked m n = own_checks m (seen_sorts m n.visible) (joined_visible m n.visible)

-- M's own declarations joined to what it imports, in the order in which they come
unfoldable pub joined_all : ℕ → Size → Module → Normal → Outcome Normal
joined_all home total m n = items_checked m n >> equations_joined home total m n

-- the normal form is that, in the order of its listing
pub joined_own_ordered : (home : ℕ) (total : Size) (m : Module) (n : Normal)
    → joined_own home total m n ≡ (joined_all home total m n >>= (λ a. fine (in_order a)))
unfolding joined_own joined_all equations_joined all_of in_room ◌>>=◌ ◌>>◌
joined_own_ordered home total m n =
    checked (own_checks m (seen_sorts m n.visible) (joined_visible m n.visible))
    (own_equations home m (seen_sorts m n.visible) (joined_visible m n.visible))
  where
    all : List ResolvedEquation → Normal
    all rs = all_of m n rs

    fits : (c d : Check) (a : Normal) → (c >> (d >> fine (in_order a))) ≡ ((c >> (d >> fine a)) >>= (λ k. fine (in_order k)))
    fits (stop j w) d a = refl
    fits (fine u) (stop j w) a = refl
    fits (fine u) (fine v) a = refl

    checked : (c : Check) (o : Outcome (List ResolvedEquation))
        → (c >> (o >>= (λ rs. room (all rs) >> (total_room (add_sizes total (size (all rs))) >> fine (in_order (all rs))))))
        ≡ ((c >> (o >>= (λ rs. room (all rs) >> (total_room (add_sizes total (size (all rs))) >> fine (all rs))))) >>= (λ k. fine (in_order k)))
    checked (stop j w) o = refl
    checked (fine u) (stop j w) = refl
    checked (fine u) (fine rs) = fits (room (all rs)) (total_room (add_sizes total (size (all rs)))) (all rs)

-- ---- places

-- the form f of what is imported lies in the block, and fits; the module's entries stand on the tape; behind the block there is room for the
-- rows and the nodes of the module's equations
pub record Rooms (size t : ℕ) (own : Own) (f : Form) (b : Block) (scratch : ℕ) : Type 0 where
  pub laid : BlockLaid size t b 32776 33280 1024 33280
  pub enough_equations : 512 ≤ b.equation_room
  pub behind : b.high ≤ scratch
  pub scratch_room : scratch + 131072 ≤ size
  pub small : scratch ≤ 1073741824
  pub there : MadeThere b f
  pub rows : own.rows ≡ f.visible
  pub count : own.count ≡ f.visible_count
  pub tape : own.end ≤ t
  pub short_tape : t ≤ 65536
  pub few_entries : own.end - own.from ≤ 32768

-- the module's own items have joined those of f
pub record Counted (own : Own) (f : Form) (counts : OwnRows) : Type 0 where
  pub names : counts.parameter_count ≤ f.parameter_count + (own.end - own.from)
  pub more_rows : f.visible_count ≤ counts.visible_count
  pub rows : counts.visible_count + counts.hidden_count ≤ f.visible_count + (own.end - own.from)

-- the entries from `from` up to `end`, with the visible rows of what is imported
unfoldable pub own_of : ℕ → ℕ → Form → Own
own_of from end f = record { from = from; end = end; rows = f.visible; count = f.visible_count }

pub record CompleteRoom (size t from end : ℕ) (f : Form) : Type 0 where
  pub laid : Laid size t
  pub short_tape : t ≤ 65536
  pub few_entries : end - from ≤ 32768
  pub tape : end ≤ t
  pub there : MadeThere joining_block f

-- ---- what comes of it

-- where a form is made, nothing else has changed
abbrev pub KeptDone : ℕ → ℕ → List ℕ → List ℕ → Made → Type 0
KeptDone low high w w' (Ok f) = Kept low high w w'
KeptDone low high w w' (Err x) = Unit {0}

pub record MakesIn (text : List ℕ) (t low high : ℕ) (w w' : List ℕ) (r : Made) (o : Outcome Normal) : Type 0 where
  pub makes : Makes text (part w' 0 t) w' r o
  pub kept : KeptDone low high w w' r

-- the entries from `from` up to `end` spell the module m, and f stands for what it imports
pub record Given (text : List ℕ) (t : ℕ) (w : List ℕ) (from end : ℕ) (f : Form) (m : Module) (n : Normal) : Type 0 where
  pub imported : Stands text (part w 0 t) w f n
  pub entries : Spells text (part w 0 t) from (flat_module m)
  pub whole : end ≡ from + length (flat_module m)
  pub limited : Limited m
  pub seen : Every Seen n.visible.items

-- its own items stand there too
pub record Prepared (text : List ℕ) (t : ℕ) (w : List ℕ) (own : Own) (f : Form) (counts : OwnRows) (m : Module) (n : Normal) : Type 0 where
  pub imported : Stands text (part w 0 t) w f n
  pub joined : OwnStands text (part w 0 t) w own f.parameters counts m n.visible
  pub limited : Limited m
  pub seen : Every Seen n.visible.items

-- its own items are joined: they pass the checks, and stand there
pub record ItemsStand (text : List ℕ) (t : ℕ) (w : List ℕ) (own : Own) (f : Form) (counts : OwnRows) (m : Module) (n : Normal) : Type 0 where
  pub checked : items_checked m n ≡ fine tt
  pub prepared : Prepared text t w own f counts m n

-- how they are joined: how many rows there are of each kind, or the refusal
abbrev pub Joined : Type 0
Joined = Result OwnRows Refusal

abbrev pub RowsMeant : List ℕ → ℕ → List ℕ → Own → Form → Module → Normal → Joined → Type 0
RowsMeant text t w own f m n (Ok counts) = ItemsStand text t w own f counts m n
RowsMeant text t w own f m n (Err x) = items_checked m n ≡ stop x.number (culprit_of text x.culprit)

-- they are no more than there are entries
abbrev pub RowsCounted : Own → Form → Joined → Type 0
RowsCounted own f (Ok counts) = Counted own f counts
RowsCounted own f (Err x) = Unit {0}

pub record ItemsJoined (text : List ℕ) (t : ℕ) (w : List ℕ) (from end : ℕ) (f : Form) (r : Joined) (w' : List ℕ) : Type 0 where
  pub kept : Kept joining_block.low second_block.high w w'
  pub counted : RowsCounted (own_of from end f) f r
  pub meant : (m : Module) (n : Normal) → Given text t w from end f m n → RowsMeant text t w' (own_of from end f) f m n r

-- nothing from `high` on has changed where a form is made
pub record EquationsJoined (text : List ℕ) (t : ℕ) (w : List ℕ) (home : ℕ) (own : Own) (f : Form) (counts : OwnRows) (b : Block) (high : ℕ)
    (totals : Totals) (r : Made) (w' : List ℕ) : Type 0 where
  pub made_in : MadeIn b r
  pub right : StillRight totals r
  pub made : (m : Module) (n : Normal) (total : Size) → TotalsMeant totals total → Prepared text t w own f counts m n
      → MakesIn text t b.low high w w' r (equations_joined home total m n)
