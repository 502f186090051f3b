-- Room, 18 (meaning/specs/Checks.antt, `room` and `total_room`): of a form, and of all forms together with it. A form that was cut short has no
-- room, as what it was cut from.
use Rattle.std.specs.Prelude.{◌≡◌, ◌⊎◌, Bool, ◌&&◌, List, ℕ, ◌+◌, ◌≤◌, ◌<◌, ltb, take, Ok, Err}
use Rattle.std.proofs.Math.Path.{refl, ap, subst}
use Rattle.std.proofs.Common.{sym, ap₂, ◌∙◌, inl, inr, ⊎_elim, arith, length-take-le, take_all}
use Rattle.std.proofs.Math.Bool.{true, false}
use borrow.Author.Tests.{ltb-true, ltb-false, leb-true, lt-leb}
use Rattle.std.proofs.Math.Dec.{leb}
use Rattle.std.proofs.Math.ListN.{length}
use Rattle.meaning.specs.Lists.{pick}
use Rattle.meaning.specs.Numbers.{parameter_room, item_room, equation_room, item_total, equation_total, node_total, no_room}
use Rattle.meaning.specs.Normal.{Visible, Hidden, Normal, unite_hidden}
use Rattle.meaning.specs.Checks.{Outcome, fine, ◌>>◌, Size, size, add_sizes, needs, fits, room, total_room}
use Rattle.form.specs.declared.Form.{Form}
use Rattle.form.specs.declared.Block.{Block}
use Rattle.form.specs.Memory.{part}
use Rattle.form.specs.Forms.{visible_at, Stands}
use Rattle.form.specs.FormLaws.{length_items}
use Rattle.form.specs.Verdicts.{Made, refusal, nobody_of}
use Rattle.form.specs.Blocks.{Lies, Makes, MadeIn}
use Rattle.unite_checks.specs.Consistent.{nobody}
use Rattle.unite_checks.specs.Checked.{enough, length_slots, and_true, enough_fits}
use Rattle.unite.specs.United.{within}
use Rattle.own_completing.specs.declared.Totals.{Totals}
use Rattle.own_completing.specs.Hidden.{HiddenJoined}

-- ---- the form, or 18

-- what the modules evaluated so far have is no more than fits
pub record TotalsRight (totals : Totals) : Type 0 where
  pub items : totals.items ≤ item_total
  pub equations : totals.equations ≤ equation_total
  pub nodes : totals.nodes ≤ node_total

-- no sum is too large for a word
pub record FewIn (f : Form) (totals : Totals) : Type 0 where
  pub items : f.visible_count + f.hidden_count ≤ 1073741824
  pub equations : f.equation_count ≤ 1073741824
  pub nodes : f.node_count ≤ 1073741824
  pub right : TotalsRight totals

unfoldable pub together : Form → Totals → Bool
together f totals =
    leb (totals.items + (f.visible_count + f.hidden_count)) item_total && leb (totals.equations + f.equation_count) equation_total
    && leb (totals.nodes + f.node_count) node_total

unfoldable pub fitting_together : Form → Totals → Made
fitting_together f totals = pick (together f totals) (Ok f) (Err (refusal no_room nobody))

unfoldable pub fitting_all : Form → Totals → Made
fitting_all f totals = pick (enough f) (fitting_together f totals) (Err (refusal no_room nobody))

-- with the form that is made, all together are no more than fits
abbrev pub StillRight : Totals → Made → Type 0
StillRight totals (Ok f) =
    (totals.items + (f.visible_count + f.hidden_count) ≤ item_total) × (totals.equations + f.equation_count ≤ equation_total)
    × (totals.nodes + f.node_count ≤ node_total)
StillRight totals (Err x) = Unit {0}

-- ---- what comes of it

module _ (f : Form) (totals : Totals) where
  pub all_right : StillRight totals (fitting_all f totals)
  unfolding fitting_all fitting_together together pick
  all_right = go (enough f) (together f totals) refl
    where
      go : (a c : Bool) → together f totals ≡ c → StillRight totals (pick a (pick c (Ok f) (Err (refusal no_room nobody))) (Err (refusal no_room nobody)))
      go true true e =
          let last = and_true _ _ e in
          let front = and_true _ _ last.0 in (
            leb-true (totals.items + (f.visible_count + f.hidden_count)) item_total front.0,
            leb-true (totals.equations + f.equation_count) equation_total front.1,
            leb-true (totals.nodes + f.node_count) node_total last.1,
          )
      go true false e = tt
      go false c e = tt

  pub all_in : (b : Block) → Lies b f → f.node_count ≤ b.node_room → MadeIn b (fitting_all f totals)
  unfolding fitting_all fitting_together pick
  all_in b l nodes = go (enough f) refl (together f totals)
    where
      go : (a : Bool) → enough f ≡ a → (c : Bool) → MadeIn b (pick a (pick c (Ok f) (Err (refusal no_room nobody))) (Err (refusal no_room nobody)))
      go true e true = record { lies = l; fits = enough_fits f e; nodes = nodes }
      go true e false = tt
      go false e c = tt

-- ---- what is cut short

-- as much of a list as there is room for is all of it, or fills the room
cut : {A : Type 0} (c : ℕ) (xs : List A) → (take c xs ≡ xs) ⊎ ((length (take c xs) ≡ c) × (c ≤ length xs))
cut c xs = go (ltb c (length xs)) refl
  where
    go : (b : Bool) → ltb c (length xs) ≡ b → (take c xs ≡ xs) ⊎ ((length (take c xs) ≡ c) × (c ≤ length xs))
    go true e = let l = ltb-true c (length xs) e in inr (length-take-le c xs (omega arith), omega arith)
    go false e = inl (take_all c xs (ltb-false c (length xs) e))

-- it is within a limit below the room where all is
cut_within : {A : Type 0} (f : ℕ → ℕ) (c limit : ℕ) (xs : List A) → ((n : ℕ) → n ≤ f n) → limit < c
    → leb (f (length xs)) limit ≡ leb (f (length (take c xs))) limit
cut_within f c limit xs more h =
    ⊎_elim (λ e. ap (λ (n : ℕ). leb (f n) limit) (ap length (sym e)))
    (λ p. lt-leb (f (length xs)) limit (omega (arith, p.1, more (length xs)))
    ∙ sym (lt-leb (f (length (take c xs))) limit (omega (arith, p.0, more (length (take c xs)))))) (cut c xs)

cut_none : {A : Type 0} (c : ℕ) (xs : List A) → length (take c xs) < c → take c xs ≡ xs
cut_none c xs h = ⊎_elim (λ e. e) (λ p. absurd (omega (arith, p.0))) (cut c xs)

three : (a a' b b' c c' : Bool) → a' ≡ a → b' ≡ b → (b ≡ true → c' ≡ c) → (a' && b' && c') ≡ (a && b && c)
three a a' b b' c c' p q h = ap₂ (λ (x y : Bool). x && y && c') p q ∙ go a b h
  where
    go : (a b : Bool) → (b ≡ true → c' ≡ c) → (a && b && c') ≡ (a && b && c)
    go true true h = h refl
    go true false h = refl
    go false b h = refl

-- ---- the meaning

-- what a form has is what it stands for
pub size_meant : (text tape w : List ℕ) (f : Form) (n : Normal) → Stands text tape w f n
    → size n ≡ record { items = f.visible_count + f.hidden_count; equations = f.equation_count; nodes = f.node_count }
unfolding size visible_at
size_meant text tape w f n s =
    let items : length n.visible.items ≡ f.visible_count =
    ap (λ (u : Visible). length u.items) (sym s.visible) ∙ length_items text tape w f.visible f.visible_count in
    let hidden : length n.hidden.items ≡ f.hidden_count = ap length (sym s.hidden) ∙ length_items text tape w f.hidden f.hidden_count in
    λ i. record { items = items i + hidden i; equations = sym s.equation_count i; nodes = sym s.node_count i }

-- the totals stand for a size
pub record TotalsMeant (totals : Totals) (total : Size) : Type 0 where
  pub items : totals.items ≡ total.items
  pub equations : totals.equations ≡ total.equations
  pub nodes : totals.nodes ≡ total.nodes

-- all that a module has, if there is room for it
unfoldable pub in_room : Size → Normal → Outcome Normal
in_room total all = room all >> (total_room (add_sizes total (size all)) >> fine all)

together_meant : (text tape w : List ℕ) (f : Form) (n : Normal) (totals : Totals) (total : Size) → TotalsMeant totals total → Stands text tape w f n
    → total_room (add_sizes total (size n)) ≡ fits (together f totals)
unfolding total_room add_sizes together
together_meant text tape w f n totals total e s = rw (size_meant text tape w f n s, ← e.items, ← e.equations, ← e.nodes)

module _ (text : List ℕ) (t : ℕ) (w : List ℕ) (g f : Form) (b : Block) (r : Form) (w' : List ℕ) (enough_equations : 512 ≤ b.equation_room)
    (x : HiddenJoined text t w g f b r w') (from to : Normal) (s : Stands text (part w 0 t) w g from) (u : Stands text (part w 0 t) w f to) where
  abbrev tape : List ℕ
  tape = part w' 0 t

  abbrev hidden : Hidden
  hidden = unite_hidden to.hidden from.hidden

  abbrev all : Normal
  all = record { visible = to.visible; hidden = hidden }

  names_counted : length to.visible.parameters ≡ r.parameter_count
  unfolding visible_at
  names_counted = ap (λ (v : Visible). length v.parameters) (sym (x.seen to u)) ∙ length_slots text w' r.parameters r.parameter_count

  seen_counted : length to.visible.items ≡ r.visible_count
  unfolding visible_at
  seen_counted = ap (λ (v : Visible). length v.items) (sym (x.seen to u)) ∙ length_items text tape w' r.visible r.visible_count

  hidden_counted : length (take 1024 hidden.items) ≡ r.hidden_count
  hidden_counted = ap length (sym (x.items from to s u)) ∙ length_items text tape w' r.hidden r.hidden_count

  items_room : leb (length to.visible.items + length hidden.items) item_room ≡ leb (r.visible_count + r.hidden_count) item_room
  items_room =
      cut_within (λ (n : ℕ). length to.visible.items + n) 1024 item_room hidden.items (λ n. omega arith) (omega arith)
      ∙ ap₂ (λ (a c : ℕ). leb (a + c) item_room) seen_counted hidden_counted

  equations_room : r.hidden_count < 1024 → leb (length hidden.equations) equation_room ≡ leb r.equation_count equation_room
  unfolding within
  equations_room h =
      cut_within (λ (n : ℕ). n) b.equation_room equation_room hidden.equations (λ n. omega arith) (omega arith)
      ∙ ap (λ (c : ℕ). leb c equation_room) (sym (x.stands h from to s u).equation_count)

  room_meant : room all ≡ fits (enough r)
  unfolding room size enough
  room_meant =
      ap fits
      (three (leb r.parameter_count parameter_room) (leb (length to.visible.parameters) parameter_room)
      (leb (r.visible_count + r.hidden_count) item_room) (leb (length to.visible.items + length hidden.items) item_room)
      (leb r.equation_count equation_room) (leb (length hidden.equations) equation_room)
      (ap (λ (c : ℕ). leb c parameter_room) names_counted) items_room
      (λ e. equations_room (omega (arith, leb-true (r.visible_count + r.hidden_count) item_room e))))

  all_stands : enough r ≡ true → Stands text tape w' r all
  unfolding within
  all_stands e =
      let fits_in = enough_fits r e in
      let stands = x.stands (omega (arith, fits_in.items)) from to s u in
      let whole : within b.equation_room hidden ≡ hidden =
      λ i. record {
        items = hidden.items;
        equations = cut_none b.equation_room hidden.equations (omega (arith, fits_in.equations, stands.equation_count)) i;
      } in
      subst (λ (h : Hidden). Stands text tape w' r (record { visible = to.visible; hidden = h })) whole stands

  -- the form, or 18, is what the meaning says
  pub fitted : (totals : Totals) (total : Size) → TotalsMeant totals total → Makes text tape w' (fitting_all r totals) (in_room total all)
  unfolding fitting_all fitting_together in_room fits needs pick ◌>>◌
  fitted totals total e = rw room_meant (go (enough r) refl)
    where
      go : (a : Bool) → enough r ≡ a
          → Makes text tape w' (pick a (pick (together r totals) (Ok r) (Err (refusal no_room nobody))) (Err (refusal no_room nobody)))
          (fits a >> (total_room (add_sizes total (size all)) >> fine all))
      go true q =
          rw (together_meant text tape w' r all totals total e (all_stands q)) (inner (together r totals) (all_stands q))
        where
          inner : (c : Bool) → Stands text tape w' r all → Makes text tape w' (pick c (Ok r) (Err (refusal no_room nobody))) (fits c >> fine all)
          inner true z = z
          inner false z = (refl, nobody_of text)
      go false q = (refl, nobody_of text)
