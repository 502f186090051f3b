-- One law for each way through the code that writes terms at four places: of the output, the node, the limit and the visible rows.
use mathlib.Core.Path.{◌≡◌, refl, sym, ap, ◌∙◌}
use mathlib.Core.List.{List, [], ◌∷◌}
use Prim.Native.Nat.{ℕ, suc, ◌+◌, ◌-◌, ◌%◌, ◌<◌, ◌≤◌}
use native.Mathlib.Numerals.{add-one}
use native.Mathlib.Omega.{arith}
use borrow.Author.Rules.{rules}
use lib.ListN.{get_or}
use denote.Ref.{at_last}
use Rattle.list_pen.specs.Pen.{pen, written}
use Rattle.list_pen.proofs.Laws.{then}
use Rattle.list_terms.specs.declared.Printed.{Printed}
use Rattle.list_terms.specs.Terms.{Spelt, spelt, item_at, alone, opened, term_at, Shown, reached, Lent, Placed}
use Rattle.list_terms.specs.Terms.{followed, heads_at, down_at, closed, back_at, Applied, Headed}
use Rattle.list_terms.proofs.TermCases.{term_leaf, heads_next, down_back, applied_again}

module _ (p : List ℕ) (o : Lent) where
  pub placed : (s : Spelt) (r : Printed) (o' : List ℕ) → Shown (get_or p 2 0) (get_or p 0 0) s o.now r o'
      → Placed s p o (r.at ∷ r.next ∷ get_or p 2 0 ∷ get_or p 3 0 ∷ []) (at_last o o')
  placed s r o' h = record { same = refl; limit = refl; visible = refl; shown = record { node = h.node; content = h.content } }

  pub marked : (b t : ℕ) (o' : List ℕ) → pen t o' ≡ written (get_or p 2 0) (b ∷ []) (pen (get_or p 0 0) o.now)
      → Placed (alone b (get_or p 1 0)) p o (t ∷ get_or p 1 0 ∷ get_or p 2 0 ∷ get_or p 3 0 ∷ []) (at_last o o')
  unfolding alone
  marked b t o' e = record { same = refl; limit = refl; visible = refl; shown = record { node = refl; content = e } }

  -- nothing
  unmoved : Placed (spelt [] (get_or p 1 0)) p o p o
  unfolding written
  unmoved = record { same = refl; limit = refl; visible = refl; shown = record { node = refl; content = refl } }

  module _ (s : Spelt) (p₁ : List ℕ) (o₁ : Lent) (h : Placed s p o p₁ o₁) where
    placed_then : (t : Spelt) (p₂ : List ℕ) (o₂ : Lent) → Placed t p₁ o₁ p₂ o₂ → Placed (followed s t) p o p₂ o₂
    unfolding followed
    placed_then t p₂ o₂ k = record {
      same = k.same ∙ ap (λ (x : Lent). at_last x o₂.now) h.same;
      limit = k.limit ∙ h.limit;
      visible = k.visible ∙ h.visible;
      shown = record {
        node = k.shown.node;
        content =
            then (get_or p 2 0) s.bytes t.bytes (pen (get_or p 0 0) o.now) (pen (get_or p₁ 0 0) o₁.now) (pen (get_or p₂ 0 0) o₂.now) h.shown.content
            (k.shown.content ∙ ap (λ (n : ℕ). written n t.bytes (pen (get_or p₁ 0 0) o₁.now)) h.limit);
      };
    }

    pub opened_placed : (p₂ : List ℕ) (o₂ : Lent) → Placed (alone 40 (get_or p₁ 1 0)) p₁ o₁ p₂ o₂ → Placed (opened s) p o p₂ o₂
    unfolding alone opened followed
    opened_placed p₂ o₂ k = rw h.shown.node at (placed_then (alone 40 (get_or p₁ 1 0)) p₂ o₂ k)

-- the way down from the places p₀ on. The loop is at the places p with n brackets open, the output is o
pub record Heading (text w : List ℕ) (d : ℕ) (p₀ : List ℕ) (o₀ : Lent) (n : ℕ) (p : List ℕ) (o : Lent) : Type 0 where
  pub within : n ≤ d
  pub applied : Applied w (get_or p₀ 1 0) n
  pub heads : Placed (heads_at text w (get_or p₀ 3 0) n (get_or p₀ 1 0)) p₀ o₀ p o

module _ (text w : List ℕ) (d : ℕ) (p₀ : List ℕ) (o₀ : Lent) where
  pub heading_first : Heading text w d p₀ o₀ 0 p₀ o₀
  unfolding heads_at
  heading_first = record { within = omega arith; applied = λ m y z. omega arith; heads = unmoved p₀ o₀ }

  module _ (n : ℕ) (p : List ℕ) (o : Lent) (v : Heading text w d p₀ o₀ n p o) where
    heading_down : (p₁ : List ℕ) (o₁ : Lent) → Placed (term_at text w (get_or p 3 0) (d - n) (get_or p 1 0)) p o p₁ o₁ → Headed text w d n p₀ o₀ p₁ o₁
    unfolding down_at
    heading_down p₁ o₁ h =
        let b = get_or p₀ 3 0 in
        let a = heads_at text w b n (get_or p₀ 1 0) in
        let last = rw (v.heads.visible, v.heads.shown.node) at h in
        record {
          within = v.within;
          applied = v.applied;
          placed = placed_then p₀ o₀ a p o v.heads (term_at text w b (d - n) a.next) p₁ o₁ last;
        }

    pub heading_end : d ≤ n → Headed text w d d p₀ o₀ p o
    unfolding term_at
    heading_end y =
        let within = v.within in
        let z : d - n ≡ 0 = omega arith in
        let all : n ≡ d = omega arith in
        rw all at (heading_down p o (rw z (unmoved p o)))

    module _ (k : ℕ) (e : k ≡ get_or w (get_or p 1 0) 0 % 16) (y : n < d) where
      pub heading_leaf : (p₁ : List ℕ) (o₁ : Lent) → k ≡ 0 → Placed (item_at text w (get_or p 3 0) (get_or p 1 0)) p o p₁ o₁ → Headed text w d n p₀ o₀ p₁ o₁
      heading_leaf p₁ o₁ z h = heading_down p₁ o₁ (rw (← term_leaf text w (get_or p 3 0) (d - n) (get_or p 1 0) (omega arith) (sym e ∙ z)) h)

      pub heading_again : (p₁ : List ℕ) (o₁ : Lent) → (k ≡ 0 → ⊥) → Placed (opened (item_at text w (get_or p 3 0) (get_or p 1 0))) p o p₁ o₁
          → Heading text w d p₀ o₀ (n + 1) p₁ o₁
      unfolding heads_at
      heading_again p₁ o₁ z h =
          let b = get_or p₀ 3 0 in
          let i = get_or p₀ 1 0 in
          let a = heads_at text w b n i in
          let next : get_or p 1 0 ≡ i + n = v.heads.shown.node ∙ heads_next text w b i n v.applied in
          let some : get_or w (i + n) 0 % 16 ≡ 0 → ⊥ = rw (← next) (λ u. z (e ∙ u)) in
          let last = rw (v.heads.visible, v.heads.shown.node) at h in
          record {
            within = omega arith;
            applied = applied_again w i n v.applied some;
            heads = rw add-one (placed_then p₀ o₀ a p o v.heads (opened (item_at text w b a.next)) p₁ o₁ last);
          }

-- s is to be written from the places p₀ on. The loop is at the places p, where t is left of it, the output is o
pub record Leaving (s : Spelt) (p₀ : List ℕ) (o₀ : Lent) (t : Spelt) (p : List ℕ) (o : Lent) : Type 0 where
  pub visible : get_or p 3 0 ≡ get_or p₀ 3 0
  pub goes_on : (p' : List ℕ) (o' : Lent) → Placed t p o p' o' → Placed s p₀ o₀ p' o'

module _ (s : Spelt) (p₀ : List ℕ) (o₀ : Lent) where
  leaving_then : (t u : Spelt) (p : List ℕ) (o : Lent) (p₁ : List ℕ) (o₁ : Lent) → Leaving s p₀ o₀ (followed t u) p o → Placed t p o p₁ o₁
      → Leaving s p₀ o₀ u p₁ o₁
  leaving_then t u p o p₁ o₁ v h = record {
    visible = h.visible ∙ v.visible;
    goes_on = λ p' o' k. v.goes_on p' o' (placed_then p o t p₁ o₁ h u p' o' k);
  }

-- what follows an item's first argument, with m more left
module _ (text w : List ℕ) (d : ℕ) (s : Spelt) (p₀ : List ℕ) (o₀ : Lent) (m : ℕ) (p : List ℕ) (o : Lent) where
  module _ (v : Leaving s p₀ o₀ (closed (term_at text w (get_or p₀ 3 0) d) m (get_or p 1 0)) p o) where
    pub closing_end : (p₁ : List ℕ) (o₁ : Lent) → m ≤ 0 → Placed (alone 41 (get_or p 1 0)) p o p₁ o₁ → Placed s p₀ o₀ p₁ o₁
    unfolding closed alone
    closing_end p₁ o₁ y h = let z : m ≡ 0 = omega arith in v.goes_on p₁ o₁ (rw z h)

    pub closing_again : (p₁ : List ℕ) (o₁ : Lent) (p₂ : List ℕ) (o₂ : Lent) → 0 < m → Placed (alone 44 (get_or p 1 0)) p o p₁ o₁
        → Placed (term_at text w (get_or p₁ 3 0) d (get_or p₁ 1 0)) p₁ o₁ p₂ o₂
        → Leaving s p₀ o₀ (closed (term_at text w (get_or p₀ 3 0) d) (m - 1) (get_or p₂ 1 0)) p₂ o₂
    unfolding closed alone followed
    closing_again p₁ o₁ p₂ o₂ y c h =
        let x : m ≡ suc (m - 1) = omega arith in
        let one = term_at text w (get_or p₀ 3 0) d in
        let t = one (get_or p 1 0) in
        let comma = alone 44 (get_or p 1 0) in
        let turn : Placed t p₁ o₁ p₂ o₂ = rw (c.visible ∙ v.visible, c.shown.node) at h in
        rw turn.shown.node
        (leaving_then s p₀ o₀ (followed comma t) (closed one (m - 1) t.next) p o p₂ o₂ (rw x at v) (placed_then p o comma p₁ o₁ c t p₂ o₂ turn))

-- the way back over the items of n₀ nodes from i on, from the places p₀ on. The loop is at the places p with n brackets open
pub record Backing (text w : List ℕ) (d i n₀ : ℕ) (p₀ : List ℕ) (o₀ : Lent) (n : ℕ) (p : List ℕ) (o : Lent) : Type 0 where
  pub within : n ≤ d
  pub applied : Applied w i n
  pub leaving : Leaving (back_at text w (get_or p₀ 3 0) d n₀ i (get_or p₀ 1 0)) p₀ o₀ (back_at text w (get_or p₀ 3 0) d n i (get_or p 1 0)) p o

module _ (text w : List ℕ) (d n₀ : ℕ) (q : List ℕ) (u : Lent) (p₀ : List ℕ) (o₀ : Lent) (g : Headed text w d n₀ q u p₀ o₀) where
  pub backing_end : (n : ℕ) (p : List ℕ) (o : Lent) → Backing text w d (get_or q 1 0) n₀ p₀ o₀ n p o → n ≤ 0
      → Placed (term_at text w (get_or q 3 0) d (get_or q 1 0)) q u p o
  unfolding back_at
  backing_end n p o v y =
      let z : n ≡ 0 = omega arith in
      let b = get_or q 3 0 in
      let i = get_or q 1 0 in
      let a = down_at text w b d n₀ i in
      let back = rw (g.placed.visible, g.placed.shown.node) at (v.leaving.goes_on p o (rw z (unmoved p o))) in
      rw (down_back text w b d i n₀ g.within g.applied) (placed_then q u a p₀ o₀ g.placed (back_at text w b d n₀ i a.next) p o back)

module _ (text w : List ℕ) (d i n₀ : ℕ) (p₀ : List ℕ) (o₀ : Lent) (n : ℕ) (p : List ℕ) (o : Lent) (v : Backing text w d i n₀ p₀ o₀ n p o) (y : 0 < n) where
  pub backing_again : (k : ℕ) (p₁ : List ℕ) (o₁ : Lent) → k ≡ get_or w (i + (n - 1)) 0 % 16 - 1
      → Placed (closed (term_at text w (get_or p 3 0) (d - (n - 1) - 1)) k (get_or p 1 0)) p o p₁ o₁ → Backing text w d i n₀ p₀ o₀ (n - 1) p₁ o₁
  unfolding back_at
  backing_again k p₁ o₁ e h =
      let x : n ≡ suc (n - 1) = omega arith in
      let b = get_or p₀ 3 0 in
      let a = closed (term_at text w b (d - (n - 1) - 1)) (get_or w (i + (n - 1)) 0 % 16 - 1) (get_or p 1 0) in
      let turn : Placed a p o p₁ o₁ = rw (v.leaving.visible, e) at h in
      let whole = back_at text w b d n₀ i (get_or p₀ 1 0) in
      record {
        within = omega arith;
        applied = λ m z. v.applied m (omega arith);
        leaving = rw turn.shown.node (leaving_then whole p₀ o₀ a (back_at text w b d (n - 1) i a.next) p o p₁ o₁ (rw x at v.leaving) turn);
      }

-- the output comes back as the reference that is handed back shows it, since both have one name
pub came_back : (s : Spelt) (p : List ℕ) (o : Lent) (p' : List ℕ) (o' : Lent) (r : List ℕ) → (o.ghost_name ≡ o'.ghost_name → r ≡ o'.now) → Placed s p o p' o'
    → Shown (get_or p 2 0) (get_or p 0 0) s o.now (reached p') r
came_back s p o p' o' r f h = rw (f (sym (ap (λ x. x.ghost_name) h.same))) h.shown

pub ruleset places = (placed, marked, opened_placed, heading_first, heading_end, heading_leaf, heading_again, rules)
