-- Lists as sets: the same members, no member twice, and what follows for their number and order; unions.
use Rattle.std.specs.Prelude.{◌≡◌, refl, ◌⊎◌, ◌≤◌, Bool, true, false, length}
use Rattle.std.proofs.Common.{sym, subst, ◌∙◌, inl, inr, ⊎_elim, arith, length-append}
use Rattle.std.proofs.Math.Path.{ap}
use Rattle.std.proofs.Math.Option.{none}
use Rattle.std.proofs.Math.Bool.{false≢true}
use mathlib.Core.List.Memᴰ
use mathlib.Core.List.Permᴰ
use mathlib.Core.List.{List, [], ◌∷◌, ◌++◌, Memᴰ}
use Rattle.meaning.specs.Laws.{by_cases}
use Rattle.meaning.specs.Lists.{any, each, union}
use Rattle.meaning.specs.Names.{Name, same, member}
use Rattle.meaning.specs.Origins.{Item}
use Rattle.meaning.specs.Checks.{least_at_odds}
use Rattle.meaning.specs.OrderLaws.{Every, Pairwise, Rearranged, any_none, rearranged_length, rearranged_member}
use Rattle.laws.specs.EveryLaws.{every_append, any_found, any_passes, every_member, every_union}
use Rattle.laws.specs.EveryLaws.{every_of}
use Rattle.promises.specs.Members.{each_way}
use Rattle.promises.specs.Sound.{compatible}
use Rattle.promises_replacing.specs.Reordering.{least_at_odds_none}
use Rattle.promises_replacing.specs.VisibleAlike.{member_any}

-- ---- members

abbrev pub Among : {A : Type 0} → List A → List A → Type 0
Among {A} xs ys = (a : A) → Memᴰ a xs → Memᴰ a ys

pub record SameSet {A : Type 0} (xs ys : List A) : Type 0 where
  pub to : Among xs ys
  pub from : Among ys xs

pub set_turned : {A : Type 0} {xs ys : List A} → SameSet xs ys → SameSet ys xs
set_turned s = record { to = s.from; from = s.to }

pub set_itself : {A : Type 0} (xs : List A) → SameSet xs xs
set_itself xs = record { to = λ a m. m; from = λ a m. m }

pub set_arranged : {A : Type 0} {xs ys : List A} → Rearranged xs ys → SameSet xs ys
set_arranged d = record { to = λ a m. rearranged_member d m; from = λ a m. rearranged_member (Permᴰ.symm d) m }

each_among : {A B : Type 0} (f : A → List B) (xs ys : List A) → Among xs ys → Among (each f xs) (each f ys)
unfolding each
each_among f [] ys s b m = elim m [ ]
each_among {A} f (x ∷ xs) ys s b m =
    ⊎_elim (λ l. here ys (s x (Memᴰ.head refl)) l) (λ l. each_among f xs ys (λ a k. s a (Memᴰ.tail k)) b l) (Memᴰ.append_cases (f x) m)
  where
    here : (zs : List A) → Memᴰ x zs → Memᴰ b (f x) → Memᴰ b (each f zs)
    here [] k l = elim k [ ]
    here (z ∷ zs) k l =
        ⊎_elim (λ (e : x ≡ z). Memᴰ.append_left (each f zs) (subst (λ (u : A). Memᴰ b (f u)) e l)) (λ q. Memᴰ.append_right (f z) (here zs q l))
        (Memᴰ.cases_cons k)

pub set_each : {A B : Type 0} (f : A → List B) {xs ys : List A} → SameSet xs ys → SameSet (each f xs) (each f ys)
set_each f {xs} {ys} s = record { to = each_among f xs ys s.to; from = each_among f ys xs s.from }

pub every_among : {A : Type 0} (P : A → Type 0) {xs ys : List A} → Among xs ys → Every P ys → Every P xs
every_among P {xs} {ys} s h = every_of P xs (λ x m. every_member P ys h x (s x m))

-- one passes, in the one list as in the other
any_same : {A : Type 0} (p : A → Bool) {xs ys : List A} → SameSet xs ys → any p xs ≡ any p ys
any_same p {xs} {ys} s =
    each_way _ _ (λ e. let r = any_found p xs e in any_passes p ys r.0 (s.to r.0 r.1) r.2)
    (λ e. let r = any_found p ys e in any_passes p xs r.0 (s.from r.0 r.1) r.2)

pub member_same : {xs ys : List Name} → SameSet xs ys → (w : Name) → member w xs ≡ member w ys
member_same {xs} {ys} s w = member_any w xs ∙ any_same (same w) s ∙ sym (member_any w ys)

-- ---- no member twice

abbrev pub Distinct : {A : Type 0} → List A → Type 0
Distinct {A} xs = Pairwise (λ a b. a ≡ b → ⊥) xs

module _ {A : Type 0} where
  -- a member in front
  in_front : {a : A} (xs : List A) → Memᴰ a xs → (zs : List A) × Rearranged xs (a ∷ zs)
  in_front [] m = elim m [ ]
  in_front {a} (x ∷ xs) m =
      ⊎_elim (λ (e : a ≡ x). (xs, Permᴰ.cons (sym e) (Permᴰ.refl xs)))
      (λ k. let r = in_front xs k in (x ∷ r.0, Permᴰ.trans (Permᴰ.cons refl r.1) (Permᴰ.swap refl refl))) (Memᴰ.cases_cons m)

  -- a list without repeats whose members are among others is a part of these
  among_part : (xs ys : List A) → Distinct xs → Among xs ys → (zs : List A) × Rearranged ys (xs ++ zs)
  among_part [] ys d s = (ys, Permᴰ.refl ys)
  among_part (x ∷ xs) ys d s =
      let f = in_front ys (s x (Memᴰ.head refl)) in
      let r = among_part xs f.0 d.1 (λ a m.
      ⊎_elim (λ (e : a ≡ x). absurd (every_member (λ b. x ≡ b → ⊥) xs d.0 a m (sym e))) (λ k. k)
      (Memᴰ.cases_cons (rearranged_member f.1 (s a (Memᴰ.tail m))))) in
      (r.0, Permᴰ.trans f.1 (Permᴰ.cons refl r.1))

  pub among_fewer : (xs ys : List A) → Distinct xs → Among xs ys → length xs ≤ length ys
  among_fewer xs ys d s = let r = among_part xs ys d s in omega (arith, rearranged_length r.1, length-append xs r.0)

  -- two lists without repeats, with the same members, differ in order alone
  pub set_rearranged : (xs ys : List A) → Distinct xs → Distinct ys → SameSet xs ys → Rearranged xs ys
  set_rearranged xs ys d d' s = let r = among_part xs ys d s.to in go r.0 r.1
    where
      go : (zs : List A) → Rearranged ys (xs ++ zs) → Rearranged xs ys
      go [] p = Permᴰ.trans (Permᴰ.symm (Permᴰ.append-nil xs)) (Permᴰ.symm p)
      go (z ∷ zs) p = absurd (omega (arith, rearranged_length p, length-append xs (z ∷ zs), among_fewer ys xs d' s.from))

-- where no two items of a list are at odds, no two of a part of it are
module _ (wrong : Item → Item → Bool) (symmetric : (a b : Item) → wrong a b ≡ wrong b a) where
  pub least_among : (xs ys : List Item) → Distinct xs → Among xs ys → least_at_odds (λ (i : Item). i.name) wrong ys ≡ none
      → least_at_odds (λ (i : Item). i.name) wrong xs ≡ none
  least_among xs ys d s e = least_at_odds_none (λ (i : Item). i.name) wrong symmetric xs (go xs d s)
    where
      go : (zs : List Item) → Distinct zs → Among zs ys → Pairwise (λ a b. wrong a b ≡ false) zs
      go [] d s = tt
      go (z ∷ zs) d s = (
        every_of (λ b. wrong z b ≡ false) zs (λ b m.
            ⊎_elim (λ q. absurd (every_member (λ b. z ≡ b → ⊥) zs d.0 b m q)) (⊎_elim (λ r. r) (λ r. symmetric z b ∙ r))
            (compatible wrong ys e z b (s z (Memᴰ.head refl)) (s b (Memᴰ.tail m)))),
        go zs d.1 (λ a m. s a (Memᴰ.tail m)),
      )

-- ---- unions

module _ {A : Type 0} (one : A → A → Bool) where
  -- what is in a union is in one of the two
  pub union_of : (xs ys : List A) (a : A) → Memᴰ a (union one xs ys) → Memᴰ a xs ⊎ Memᴰ a ys
  union_of xs ys a m =
      every_member (λ b. Memᴰ b xs ⊎ Memᴰ b ys) (union one xs ys)
      (every_union (λ b. Memᴰ b xs ⊎ Memᴰ b ys) one xs ys (every_of _ xs (λ b k. inl k)) (every_of _ ys (λ b k. inr k))) a m

  -- where each is one with itself, no member is twice in a union
  distinct_last : (xs : List A) (y : A) → Distinct xs → Every (λ x. x ≡ y → ⊥) xs → Distinct (xs ++ (y ∷ []))
  distinct_last [] y d h = (tt, tt)
  distinct_last (x ∷ xs) y d h = (every_append (λ b. x ≡ b → ⊥) xs (y ∷ []) d.0 (h.0, tt), distinct_last xs y d.1 h.1)

  pub union_distinct : ((a : A) → one a a ≡ true) → (xs ys : List A) → Distinct xs → Distinct (union one xs ys)
  unfolding union
  union_distinct self xs [] d = d
  union_distinct self xs (y ∷ ys) d =
      by_cases Distinct _ _ _ (λ f. union_distinct self xs ys d) (λ f.
      union_distinct self (xs ++ (y ∷ [])) ys (distinct_last xs y d (every_of (λ x. x ≡ y → ⊥) xs (λ x m e.
      false≢true (sym (every_member (λ x. one y x ≡ false) xs (any_none (one y) xs f) x m) ∙ ap (one y) e ∙ self y)))))
