-- Which names are members, by the number of the first that is the same.
use Rattle.std.specs.Prelude.{◌≡◌, refl, ℕ, zero, suc, ◌<◌, ◌≤◌, Bool, true, false, List, [], ◌∷◌, length, take}
use Rattle.std.proofs.Common.{◌∙◌, arith}
use Rattle.meaning.specs.Lists.{pick, any, before}
use Rattle.meaning.specs.Names.{Name, same, member}
use Rattle.form_walks.specs.Lists.{found, none_found}

any_member : (w : Name) (ds : List Name) → member w ds ≡ any (same w) ds
unfolding any member
any_member w [] = refl
any_member w (x ∷ ds) = rw (any_member w ds)

pub member_found : (w : Name) (ds : List Name) → before (same w) ds < length ds → member w ds ≡ true
member_found w ds h = any_member w ds ∙ found (same w) ds h

pub member_absent : (w : Name) (ds : List Name) → length ds ≤ before (same w) ds → member w ds ≡ false
member_absent w ds h = any_member w ds ∙ none_found (same w) ds h

pub member_early : (w : Name) (ds : List Name) (k : ℕ) → before (same w) ds < k → before (same w) ds < length ds → member w (take k ds) ≡ true
unfolding before member pick
member_early w ds zero h l = absurd (omega arith)
member_early w [] (suc k) h l = absurd (omega arith)
member_early w (x ∷ ds) (suc k) h l = go (same w x) h l (member_early w ds k)
  where
    go : (b : Bool) → pick b 0 (suc (before (same w) ds)) < suc k → pick b 0 (suc (before (same w) ds)) < suc (length ds)
        → (before (same w) ds < k → before (same w) ds < length ds → member w (take k ds) ≡ true) → pick b true (member w (take k ds)) ≡ true
    go true h l f = refl
    go false h l f = f (omega arith) (omega arith)

pub member_late : (w : Name) (ds : List Name) (k : ℕ) → k ≤ before (same w) ds → member w (take k ds) ≡ false
unfolding before member pick
member_late w ds zero h = refl
member_late w [] (suc k) h = refl
member_late w (x ∷ ds) (suc k) h = go (same w x) h (member_late w ds k)
  where
    go : (b : Bool) → suc k ≤ pick b 0 (suc (before (same w) ds)) → (k ≤ before (same w) ds → member w (take k ds) ≡ false)
        → pick b true (member w (take k ds)) ≡ false
    go true h f = absurd (omega arith)
    go false h f = f (omega arith)
