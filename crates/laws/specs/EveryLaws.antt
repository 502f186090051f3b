-- What holds of every item of a list holds of every item of what is made of lists; which items a list has.
use Rattle.std.specs.Prelude.{◌≡◌, refl, ◌⊎◌, Bool, true, false}
use Rattle.std.proofs.Common.{sym, ap, subst, ◌∙◌, inl, inr}
use Rattle.std.proofs.Math.Logic.{⊎_elim}
use Rattle.std.proofs.lemmas.Bool.{false≢true}
use mathlib.Core.List.Memᴰ
use mathlib.Core.List.{List, [], ◌∷◌, ◌++◌, map, Memᴰ}
use Rattle.meaning.specs.Laws.{by_cases}
use Rattle.meaning.specs.Lists.{pick, keep, any, each, union}
use Rattle.meaning.specs.OrderLaws.{Every, Pairwise, any_none}

-- ---- every item

pub every_so : {A : Type 0} (P Q : A → Type 0) (xs : List A) → ((x : A) → P x → Q x) → Every P xs → Every Q xs
every_so P Q [] f h = tt
every_so P Q (x ∷ xs) f h = (f x h.0, every_so P Q xs f h.1)

pub every_both : {A : Type 0} (P Q : A → Type 0) (xs : List A) → Every P xs → Every Q xs → Every (λ x. P x × Q x) xs
every_both P Q [] h k = tt
every_both P Q (x ∷ xs) h k = ((h.0, k.0), every_both P Q xs h.1 k.1)

-- of whatever it is
pub every_all : {A : Type 0} (P : A → Type 0) → ((x : A) → P x) → (xs : List A) → Every P xs
every_all P h [] = tt
every_all P h (x ∷ xs) = (h x, every_all P h xs)

pub every_any : {A : Type 0} (xs : List A) → Every (λ x. Unit {0}) xs
every_any xs = every_all (λ x. Unit {0}) (λ x. tt) xs

pub every_append : {A : Type 0} (P : A → Type 0) (xs ys : List A) → Every P xs → Every P ys → Every P (xs ++ ys)
every_append P [] ys h k = k
every_append P (x ∷ xs) ys h k = (h.0, every_append P xs ys h.1 k)

pub every_split : {A : Type 0} (P : A → Type 0) (xs ys : List A) → Every P (xs ++ ys) → Every P xs × Every P ys
every_split P [] ys h = (tt, h)
every_split P (x ∷ xs) ys h = let r = every_split P xs ys h.1 in ((h.0, r.0), r.1)

pub every_map : {A B : Type 0} (P : A → Type 0) (Q : B → Type 0) (f : A → B) → ((a : A) → P a → Q (f a)) → (xs : List A) → Every P xs → Every Q (map f xs)
every_map P Q f g [] h = tt
every_map P Q f g (x ∷ xs) h = (g x h.0, every_map P Q f g xs h.1)

-- of whatever it is made
pub every_made : {A B : Type 0} (P : B → Type 0) (f : A → B) → ((a : A) → P (f a)) → (xs : List A) → Every P (map f xs)
every_made P f h [] = tt
every_made P f h (x ∷ xs) = (h x, every_made P f h xs)

pub every_each : {A B : Type 0} (P : B → Type 0) (Good : A → Type 0) (f : A → List B) → ((a : A) → Good a → Every P (f a)) → (xs : List A)
    → Every Good xs → Every P (each f xs)
unfolding each
every_each P Good f h [] g = tt
every_each P Good f h (x ∷ xs) g = every_append P (f x) (each f xs) (h x g.0) (every_each P Good f h xs g.1)

pub each_made : {A B : Type 0} (P : B → Type 0) (f : A → List B) → ((a : A) → Every P (f a)) → (xs : List A) → Every P (each f xs)
unfolding each
each_made P f h [] = tt
each_made P f h (x ∷ xs) = every_append P (f x) (each f xs) (h x) (each_made P f h xs)

pub split_each : {A B : Type 0} (P : B → Type 0) (f : A → List B) (xs : List A) → Every P (each f xs) → Every (λ x. Every P (f x)) xs
unfolding each
split_each P f [] h = tt
split_each P f (x ∷ xs) h = let r = every_split P (f x) (each f xs) h in (r.0, split_each P f xs r.1)

pub every_kept : {A : Type 0} (P : A → Type 0) (p : A → Bool) (xs : List A) → Every P xs → Every (λ x. P x × (p x ≡ true)) (keep p xs)
unfolding keep
every_kept P p [] h = tt
every_kept P p (x ∷ xs) h =
    let r = every_kept P p xs h.1 in by_cases (Every (λ x. P x × (p x ≡ true))) _ _ _ (λ e. ((h.0, e), r)) (λ e. r)

pub every_keep : {A : Type 0} (P : A → Type 0) (p : A → Bool) (xs : List A) → Every P xs → Every P (keep p xs)
every_keep P p xs h = every_so (λ x. P x × (p x ≡ true)) P (keep p xs) (λ x k. k.0) (every_kept P p xs h)

pub every_union : {A : Type 0} (P : A → Type 0) (one : A → A → Bool) (xs ys : List A) → Every P xs → Every P ys → Every P (union one xs ys)
unfolding union
every_union P one xs [] h k = h
every_union P one xs (y ∷ ys) h k =
    by_cases (Every P) _ _ _ (λ e. every_union P one xs ys h k.1)
    (λ e. every_union P one (xs ++ (y ∷ [])) ys (every_append P xs (y ∷ []) h (k.0, tt)) k.1)

-- ---- members

pub every_member : {A : Type 0} (P : A → Type 0) (xs : List A) → Every P xs → (x : A) → Memᴰ x xs → P x
every_member P [] h x m = elim m [ ]
every_member P (y ∷ ys) h x m = ⊎_elim (λ e. subst P (sym e) h.0) (λ k. every_member P ys h.1 x k) (Memᴰ.cases_cons m)

pub every_of : {A : Type 0} (P : A → Type 0) (xs : List A) → ((x : A) → Memᴰ x xs → P x) → Every P xs
every_of P [] h = tt
every_of P (x ∷ xs) h = (h x (Memᴰ.head refl), every_of P xs (λ y m. h y (Memᴰ.tail m)))

pub pairwise_members : {A : Type 0} (R : A → A → Type 0) (xs : List A) (a b : A) → Pairwise R xs → Memᴰ a xs → Memᴰ b xs
    → (a ≡ b) ⊎ (R a b ⊎ R b a)
pairwise_members R [] a b h m k = elim m [ ]
pairwise_members {A} R (x ∷ xs) a b h m k =
    ⊎_elim (λ (e : a ≡ x). ⊎_elim (λ (f : b ≡ x). inl (e ∙ sym f)) (λ q. inr (inl (rw e (every_member (R x) xs h.0 b q)))) (Memᴰ.cases_cons k))
    (λ p. ⊎_elim (λ (f : b ≡ x). inr (inr (rw f (every_member (R x) xs h.0 a p)))) (λ q. pairwise_members R xs a b h.1 p q) (Memᴰ.cases_cons k))
    (Memᴰ.cases_cons m)

pub member_map_to : {A B : Type 0} (f : A → B) {a : A} {xs : List A} → Memᴰ a xs → Memᴰ (f a) (map f xs)
member_map_to f (Memᴰ.head e) = Memᴰ.head (ap f e)
member_map_to f (Memᴰ.tail m) = Memᴰ.tail (member_map_to f m)

pub member_keep : {A : Type 0} (p : A → Bool) (xs : List A) (x : A) → Memᴰ x xs → p x ≡ true → Memᴰ x (keep p xs)
unfolding keep
member_keep p [] x m e = elim m [ ]
member_keep {A} p (y ∷ ys) x m e =
    ⊎_elim (λ (q : x ≡ y). by_cases (λ (us : List A). Memᴰ x us) _ _ _ (λ f. Memᴰ.head q) (λ f. absurd (false≢true (sym f ∙ ap p (sym q) ∙ e))))
    (λ k. by_cases (λ (us : List A). Memᴰ x us) _ _ _ (λ f. Memᴰ.tail (member_keep p ys x k e)) (λ f. member_keep p ys x k e))
    (Memᴰ.cases_cons m)

pub kept_member : {A : Type 0} (p : A → Bool) {a : A} (xs : List A) → Memᴰ a (keep p xs) → Memᴰ a xs × (p a ≡ true)
kept_member {A} p {a} xs m =
    every_member (λ (x : A). Memᴰ x xs × (p x ≡ true)) (keep p xs) (every_kept (λ (x : A). Memᴰ x xs) p xs (every_of _ xs (λ x k. k))) a m

pub any_found : {A : Type 0} (p : A → Bool) (xs : List A) → any p xs ≡ true → (x : A) × Memᴰ x xs × (p x ≡ true)
unfolding any pick
any_found p [] e = absurd (false≢true e)
any_found {A} p (x ∷ xs) e = go (p x) refl e (any_found p xs)
  where
    go : (b : Bool) → p x ≡ b → pick b true (any p xs) ≡ true → (any p xs ≡ true → (y : A) × Memᴰ y xs × (p y ≡ true))
        → (y : A) × Memᴰ y (x ∷ xs) × (p y ≡ true)
    go true q e i = (x, Memᴰ.head refl, q)
    go false q e i = let r = i e in (r.0, Memᴰ.tail r.1, r.2)

pub any_passes : {A : Type 0} (p : A → Bool) (xs : List A) (x : A) → Memᴰ x xs → p x ≡ true → any p xs ≡ true
any_passes p xs x m e = go (any p xs) refl
  where
    go : (b : Bool) → any p xs ≡ b → b ≡ true
    go true q = refl
    go false q = sym (every_member (λ y. p y ≡ false) xs (any_none p xs q) x m) ∙ e

-- a union has what is in either of the two, where the test tells equal things, of all that pass P
module _ {A : Type 0} (one : A → A → Bool) where
  pub in_union_left : (xs ys : List A) (a : A) → Memᴰ a xs → Memᴰ a (union one xs ys)
  unfolding union
  in_union_left xs [] a m = m
  in_union_left xs (y ∷ ys) a m =
      by_cases (λ (us : List A). Memᴰ a us) _ _ _ (λ e. in_union_left xs ys a m)
      (λ e. in_union_left (xs ++ (y ∷ [])) ys a (Memᴰ.append_left (y ∷ []) m))

  pub in_union_right : (P : A → Type 0) → ((a b : A) → P a → P b → one a b ≡ true → a ≡ b) → (xs ys : List A) → Every P xs → Every P ys → (a : A)
      → Memᴰ a ys → Memᴰ a (union one xs ys)
  unfolding union
  in_union_right P equal xs [] h k a m = elim m [ ]
  in_union_right P equal xs (y ∷ ys) h k a m =
      let there : List A → Type 0 = λ us. Memᴰ a us in
      ⊎_elim
      (λ (e : a ≡ y).
      by_cases there _ _ _
      (λ f.
      let r = any_found (one y) xs f in
      let q = e ∙ equal y r.0 k.0 (every_member P xs h r.0 r.1) r.2 in
      in_union_left xs ys a (subst (λ (u : A). Memᴰ u xs) (sym q) r.1))
      (λ f. in_union_left (xs ++ (y ∷ [])) ys a (Memᴰ.append_right xs (Memᴰ.head e))))
      (λ (q : Memᴰ a ys).
      by_cases there _ _ _ (λ f. in_union_right P equal xs ys h k.1 a q)
      (λ f. in_union_right P equal (xs ++ (y ∷ [])) ys (every_append P xs (y ∷ []) h (k.0, tt)) k.1 a q))
      (Memᴰ.cases_cons m)
